-- `rims::tiles::fill_row` meets its contract. Assumes nothing.
use mathlib.Core.Path.{sym, subst}
use Prim.Native.Nat.{ℕ, ◌+◌, ◌*◌, ◌≤◌}
use lib.ListN.{length}
use native.Mathlib.Omega.{arith}
use Rattle.rims.proofs.TileLaws.{few_tiles, tiles_row, stock-row}
use Rattle.rims.proofs.tiles.fill_row.Goals as goal

pub overflow_mul-y : goal.overflow_mul-y
overflow_mul-y c = let p = c.requires in omega (arith, p.y_bound.0, few_tiles _ p.over.sides.rows)

pub overflow_mul-y-2 : goal.overflow_mul-y-2
overflow_mul-y-2 c = let p = c.requires in omega (arith, p.y_bound.0, few_tiles _ p.over.sides.rows)

pub overflow_add-y : goal.overflow_add-y
overflow_add-y c = let p = c.requires in omega (arith, p.y_bound.0, few_tiles _ p.over.sides.rows)

pub mark_row-requires : goal.mark_row-requires
mark_row-requires c = (omega (arith, c.tiles_of.ensures, few_tiles _ c.requires.over.sides.columns, c.gather_rows.ensures.0.long), subst (λ (n : ℕ). c.args.y * n + n ≤ length c.args.tiles.now) (sym c.tiles_of.ensures) (omega (arith, tiles_row c.args.g c.requires.over.sides c.args.y c.requires.y_bound.0, c.requires.y_bound.1)))

pub returns : goal.returns
returns c = let m = c.mark_row.ensures in
    (m.0, stock-row _ _ _ _ _ _ c.tiles_of.ensures c.gather_rows.ensures.1 m.1)
