-- `start::stock::fill_stock` meets its contract. Assumes nothing.
use mathlib.Core.Path.{refl}
use Prim.Native.Nat.{◌+◌}
use native.Mathlib.Omega.{arith}
use Rattle.setup.proofs.PartLaws.{part_long}
use Rattle.loops.proofs.RegionLaws.{region-long}
use Rattle.start.specs.Start.{add_regions}
use Rattle.start.proofs.WriteLaws.{lent-put}
use Rattle.start.proofs.stock.fill_stock.Goals as goal

pub add_regions-requires : goal.add_regions-requires
add_regions-requires c = let n = c.cells-n.ensures in
    let m = c.requires.nx_in_bounds in
    let x = c.columns-x.result in record { over = record { sides = c.requires.sides; long = omega (arith, n, m, part_long 3 _ _ _ c.args.b.now c.abandoned-a.ensures refl (omega (arith, n, m))) }; all_held = c.requires.all_held; pocket_value = c.requires.pocket_value; in_bounds = omega (arith, n, c.columns-x.ensures, c.requires.nx_in_bounds_2, region-long x (x + 4096) c.args.w.now (record { start = omega arith; end = omega (arith, n, c.columns-x.ensures, c.requires.nx_in_bounds_2) })) }

pub returns : goal.returns
returns c = lent-put (add_regions c.args.g c.args.vs.now c.args.lens.now c.args.regions.now) 3 _ _ _ _ _ c.cells-n.ensures c.abandoned-a.ensures (omega (arith, c.requires.nx_in_bounds)) c.add_regions.ensures
