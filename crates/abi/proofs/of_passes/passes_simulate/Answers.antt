-- `abi::of_passes::passes_simulate` meets its contract. Assumes nothing.
use mathlib.Core.Path.{sym, ◌∙◌}
use native.Mathlib.Omega.{arith}
use lib.ListN.{length-set}
use Rattle.rims.proofs.TileLaws.{tiles_long}
use Rattle.abi.proofs.PassLaws.{pass-walls, pass-tables, pass_usable, pass_by_lem}
use Rattle.abi.proofs.of_passes.passes_simulate.Goals as goal

pub slice_bounds-fill-end : goal.slice_bounds-fill-end
slice_bounds-fill-end c = sym tiles_long

pub fill-requires : goal.fill-requires
fill-requires c = let m = c.passing-s.ensures in record { over = (pass_usable _ _ _ _ _ _ _ _ _ m.0 m.1 _ _ _ c.requires.usable).over; in_bounds = omega (arith, tiles_long) }

pub slice_bounds-simulate-end : goal.slice_bounds-simulate-end
slice_bounds-simulate-end c = sym (c.fill.auto.tiles ∙ tiles_long)

pub simulate-t-requires : goal.simulate-t-requires
simulate-t-requires c = let m = c.passing-s.ensures in record { walls = pass-walls _ _ _ _ _ _ _ _ _ m.0 m.1 _ _ _ c.requires.walls; tables = pass-tables _ _ _ _ _ _ _ _ _ m.0 m.1 _ c.requires.tables; usable = pass_usable _ _ _ _ _ _ _ _ _ m.0 m.1 _ _ _ c.requires.usable; tiled = c.fill.ensures }

pub bounds-out-0 : goal.bounds-out-0
bounds-out-0 c = omega (arith, c.requires.in_bounds)

pub bounds-out-1 : goal.bounds-out-1
bounds-out-1 c = simp length-set (omega (arith, c.requires.in_bounds))

pub bounds-out-2 : goal.bounds-out-2
bounds-out-2 c = simp length-set (omega (arith, c.requires.in_bounds))

pub returns : goal.returns
returns c = let a = c.args in
    let m = c.passing-s.ensures in
    pass_by_lem _ _ _ _ _ _ _ _ _ m.0 m.1 _ _ _ _ a.kept _ _ _ _ _ _ _ a.out.now c.requires.in_bounds c.simulate-t.ensures
