-- `field::squares::shade_near` meets its contract. Assumes nothing.
use mathlib.Core.Path.{refl}
use native.Mathlib.Omega.{arith}
use native.Mathlib.Nat.{mul-le-mul_right}
use Rattle.setup.proofs.PartLaws.{part_long}
use Rattle.field.proofs.ShadedLaws.{near_shaded}
use Rattle.field.proofs.squares.shade_near.Goals as goal

pub shade-requires : goal.shade-requires
shade-requires c = let n = c.cells-n.ensures in
    let a = c.dirty-a.ensures in
    let e = c.near-c.ensures in
    let w = c.requires.wanted_in in
    let l = c.requires.setup_in_bounds in
    let f = c.requires.takes in
    let h = mul-le-mul_right c.args.g.setup.grid.nx w.rows.high in record { on = record { wide = w.columns.high; order = w.columns.order; columns = omega (arith, w.columns.high, c.requires.sides.columns); rows = omega (arith, w.rows.high, c.requires.sides.rows) }; nx_in_bounds = (omega (arith, h, n, part_long 4 _ _ _ c.args.b.now a refl (omega (arith, n, l.0))), omega (arith, h, n, part_long 1 _ _ _ c.args.u.now e refl (omega (arith, n, l.1)))); step_nonzero = omega arith; near_le_most = (omega arith, f.few) }

pub returns : goal.returns
returns c = let l = c.requires.setup_in_bounds in
    let f = c.requires.takes in
    near_shaded c.args.g _ _ _ c.requires.wanted_in l.1 _ f _ _ _ c.cells-n.ensures c.dirty-a.ensures c.near-c.ensures _ c.shade.ensures
