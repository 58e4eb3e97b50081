-- `rims::tiles::mark_row` meets its contract. The invariant: the tiles so far are marked whose columns are, and what was marked is. Assumes nothing.
use mathlib.Core.Path.{sym, ◌∙◌, subst}
use mathlib.Core.List.{List}
use Prim.Native.Nat.{ℕ, ◌+◌}
use native.Mathlib.Omega.{arith}
use Rattle.rims.specs.Tiles.{Keeps, ColumnsMarked}
use Rattle.rims.proofs.TileLaws.{columns-none, columns-yes, columns-no, columns-end}
use Rattle.rims.proofs.tiles.mark_row.Goals as goal
use Rattle.rims.proofs.tiles.mark_row.Goals.{else-has_stock, then-has_stock}

pub loop-x-preserved : goal.loop-x-preserved
loop-x-preserved c = let s = c.args in
    let l = c.loop-x in
    let Next : List ℕ → Type 0 = λ t. Keeps s.tiles.now t × ColumnsMarked s.n s.y s.cols.now (l.x + 1) t in
    elim c.if-has_stock.branch [ then-has_stock w ↦ subst Next (sym w.tiles-is) (columns-yes _ _ _ _ _ _ _ w.mark.ensures l.invariant) | else-has_stock w ↦ subst Next (sym w.tiles-is) (columns-no _ _ _ _ _ _ (sym c.has_stock.ensures ∙ w.if-has_stock.false) l.invariant) ]
