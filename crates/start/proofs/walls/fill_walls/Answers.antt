-- `start::walls::fill_walls` meets its contract. Assumes nothing.
use mathlib.Core.Path.{refl}
use native.Mathlib.Omega.{arith}
use Rattle.setup.proofs.PartLaws.{part_long}
use Rattle.start.proofs.ReachLaws.{walls_are, map-sides, squares-room}
use Rattle.start.proofs.walls.fill_walls.Goals as goal

pub transform-requires : goal.transform-requires
transform-requires c = record { map_sides = map-sides c.args.g c.requires.sides; nx_in_bounds = omega (arith, c.requires.nx_in_bounds, c.cells-n.ensures, part_long 5 _ _ _ c.args.b.now c.inside-a.ensures refl (omega (arith, c.requires.nx_in_bounds, c.cells-n.ensures))); nx_in_bounds_2 = squares-room c.args.g c.requires.sides c.args.u.now c.requires.nx_in_bounds_2 }

pub returns : goal.returns
returns c = walls_are c.args.g c.args.b.now c.args.u.now _ c.args.w.now _ _ _ c.cells-n.ensures c.inside-a.ensures (omega (arith, c.requires.nx_in_bounds_3)) c.transform.ensures.work_after c.lengths.ensures
