-- `filling::rows::fill_row` meets its contract. Assumes nothing.
use mathlib.Core.Path.{sym, subst}
use Prim.Native.Nat.{ℕ}
use native.Mathlib.Omega.{arith}
use lib.ListN.{length}
use Rattle.loops.proofs.CellLaws.{row_below}
use Rattle.geom.proofs.RegionLaws.{first-held}
use Rattle.filling.specs.Columns.{InRow, in_loop}
use Rattle.filling.proofs.RowLaws.{blank-same, has_in_row, row-filled}
use Rattle.filling.proofs.rows.fill_row.Goals as goal

pub columns_of-c-requires : goal.columns_of-c-requires
columns_of-c-requires c = let f = c.cover_islands-some in record { centred = c.requires.centred.0; rising = c.requires.centred.1; n_in_bounds = first-held c.args.lens.now c.args.region c.args.vs.now c.requires.held c.size-n.result c.size-n.ensures; blank = record { long = omega (arith, c.requires.centred.0.long, c.requires.blank.0.long, f.auto.row); shows = f.ensures.row } }

pub returns : goal.returns
returns c = let p = c.set_columns in
    let f = c.columns_of-c in
    let i = c.cover_islands-some in
    row-filled c.args.g c.args.xs.now c.args.vs.now c.args.lens.now c.args.region c.args.j _ _ c.requires.centred.0 c.row_y-y.ensures c.size-n.ensures
    f.result i.result _ _ f.ensures i.ensures.cover i.ensures.none _ _ _ _ p.ensures
    (omega (arith, c.requires.blank.0.long, i.auto.row, f.auto.row, p.auto.row)) (omega (arith, c.requires.blank.1.long, i.auto.cover, p.auto.cover))
