-- `vectors_maps::crescent::cut` meets its contract. Assumes nothing.
use Rattle.raster.proofs.RunLaws.{ready_for}
use Rattle.vectors_maps.proofs.AnswerLaws.{cut-logged, cut-is}
use mathlib.Core.Path.{◌∙◌}
use Rattle.raster.proofs.LogLaws.{undone-front, logged-front, front-long}
use Rattle.vectors_maps.proofs.crescent.cut.Goals as goal

pub clear_disk_after_logged-count-requires : goal.clear_disk_after_logged-count-requires
clear_disk_after_logged-count-requires c = record { over = c.requires.over; ready = ready_for _ _ c.requires.n_in_bounds.1 c.requires.n_in_bounds.2 }

pub slice_bounds-print-end : goal.slice_bounds-print-end
slice_bounds-print-end c = (cut-logged _ _ _ _ _ _ _ _ _ (ready_for _ _ c.requires.n_in_bounds.1 c.requires.n_in_bounds.2) c.clear_disk_after_logged-count.ensures).within

pub slice_bounds-print-end-2 : goal.slice_bounds-print-end-2
slice_bounds-print-end-2 c = front-long _ _ _ (cut-logged _ _ _ _ _ _ _ _ _ (ready_for _ _ c.requires.n_in_bounds.1 c.requires.n_in_bounds.2) c.clear_disk_after_logged-count.ensures)

pub slice_bounds-undo-end : goal.slice_bounds-undo-end
slice_bounds-undo-end c = (cut-logged _ _ _ _ _ _ _ _ _ (ready_for _ _ c.requires.n_in_bounds.1 c.requires.n_in_bounds.2) c.clear_disk_after_logged-count.ensures).within

pub slice_bounds-undo-end-2 : goal.slice_bounds-undo-end-2
slice_bounds-undo-end-2 c = front-long _ _ _ (cut-logged _ _ _ _ _ _ _ _ _ (ready_for _ _ c.requires.n_in_bounds.1 c.requires.n_in_bounds.2) c.clear_disk_after_logged-count.ensures)

pub undo-requires : goal.undo-requires
undo-requires c = logged-front _ _ _ (cut-logged _ _ _ _ _ _ _ _ _ (ready_for _ _ c.requires.n_in_bounds.1 c.requires.n_in_bounds.2) c.clear_disk_after_logged-count.ensures)

pub returns : goal.returns
returns c = cut-is _ _ _ _ _ _ _ _ _ _ _ _ _ _ c.clear_disk_after_logged-count.ensures c.print-cells.ensures c.print-after.ensures (c.undo.ensures ∙ undone-front _ _ _ _ (cut-logged _ _ _ _ _ _ _ _ _ (ready_for _ _ c.requires.n_in_bounds.1 c.requires.n_in_bounds.2) c.clear_disk_after_logged-count.ensures)) c.print-undone.ensures
