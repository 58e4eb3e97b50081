-- `pocket::places::cell_of` meets its contract. Assumes nothing.
use mathlib.Core.Path.{sym, ap, ◌∙◌}
use Rattle.std.specs.Prelude.{Ok, Err}
use Rattle.std.proofs.lemmas.Result.{err_from_is_err_and}
use Rattle.pocket.specs.Leaves.{cell_at_of}
use Rattle.pocket.proofs.AskedLaws.{cell-none}
use Rattle.pocket.proofs.LeafLaws.{is-refused, is-answered}
use Rattle.pocket.proofs.places.cell_of.Goals as goal

pub returns-in_err-ask_cell : goal.returns-in_err-ask_cell
unfolding cell_at_of
returns-in_err-ask_cell c =
    let p = err_from_is_err_and c.from_residual.result c.from_residual.ensures.1 in
    rw (p.1, p.2) (is-refused Err _ _ c.ask_cell.ensures _ c.in_err-ask_cell.was _)

pub cell_of-requires : goal.cell_of-requires
cell_of-requires c = let s = cell-none _ _ (sym c.ask_cell.ensures ∙ c.in_ok-ask_cell.was) in record { nx_bound = s.columns; ny_bound = s.rows }

pub returns : goal.returns
unfolding cell_at_of
returns c = is-answered Err _ _ c.ask_cell.ensures c.in_ok-ask_cell.was _ _ (ap Ok c.cell_of.ensures)
