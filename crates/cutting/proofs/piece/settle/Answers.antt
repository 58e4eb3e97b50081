-- `cutting::piece::settle` meets its contract. Assumes nothing.
use mathlib.Core.Path.{◌∙◌}
use Rattle.raster.proofs.LogLaws.{undone-front, redone-front, logged-front}
use Rattle.cutting.proofs.SettleLaws.{first-logged, second_logged, settle_is}
use Rattle.cutting.proofs.piece.settle.Goals as goal

pub clear_again-requires : goal.clear_again-requires
clear_again-requires c = logged-front _ _ _ (first-logged _ _ c.requires.n_in_bounds _ _ c.requires.logged)

pub undo-requires : goal.undo-requires
undo-requires c =
    let first = c.clear_again.ensures ∙ redone-front _ _ _ _ (first-logged _ _ c.requires.n_in_bounds _ _ c.requires.logged) in
    logged-front _ _ _ (second_logged _ _ c.requires.n_in_bounds _ _ c.requires.logged _ first _ c.dirty-d.ensures)

pub returns : goal.returns
returns c =
    let first = c.clear_again.ensures ∙ redone-front _ _ _ _ (first-logged _ _ c.requires.n_in_bounds _ _ c.requires.logged) in
    let second = second_logged _ _ c.requires.n_in_bounds _ _ c.requires.logged _ first _ c.dirty-d.ensures in
    settle_is _ _ c.requires.n_in_bounds _ _ c.requires.logged _ first _ c.dirty-d.ensures _ (c.undo.ensures ∙ undone-front _ _ _ _ second)
