-- `field::squares::shade_stock` meets its contract. Assumes nothing.
use native.Mathlib.Omega.{arith}
use native.Mathlib.Nat.{mul-le-mul_right}
use Rattle.setup.proofs.PartLaws.{part_long}
use Rattle.field.proofs.BandLaws.{wide_rows}
use Rattle.field.proofs.ShadedLaws.{wide-on, stock_shaded}
use Rattle.field.proofs.squares.shade_stock.Goals as goal

pub shade-requires : goal.shade-requires
shade-requires c = let n = c.cells-n.ensures in
    let w = c.requires.rows_of in
    let l = c.requires.setup_in_bounds in
    let f = c.requires.far in
    let d = c.requires.deep in
    let h = mul-le-mul_right c.args.g.setup.grid.nx (wide_rows _ _ _ _ c.widen-rows.ensures w.0.order w.0.high).high in record { on = wide-on c.args.g _ w.0 w.1 c.args.b.now c.args.u.now l.1 _ _ f d _ _ c.margin-m.ensures c.margin-k.ensures _ _ c.widen-rows.ensures c.widen-cols.ensures c.requires.sides; nx_in_bounds = (omega (arith, h, n, part_long 0 c.cells-n.result 0 c.cells-n.result c.args.b.now (omega arith) (omega arith) (omega (arith, n, l.0))), omega (arith, h, n, part_long 0 c.cells-n.result 0 c.cells-n.result c.args.u.now (omega arith) (omega arith) (omega (arith, n, l.1)))); step_nonzero = omega arith; near_le_most = (d.few, f.few) }

pub returns : goal.returns
returns c = let w = c.requires.rows_of in
    let l = c.requires.setup_in_bounds in
    let f = c.requires.far in
    let d = c.requires.deep in
    stock_shaded c.args.g _ w.0 w.1 _ _ l.1 _ _ f d _ _ c.margin-m.ensures c.margin-k.ensures _ _ c.widen-rows.ensures c.widen-cols.ensures _ c.cells-n.ensures _ c.shade.ensures
