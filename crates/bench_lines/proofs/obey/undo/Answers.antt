-- `bench_lines::obey::undo` meets its contract. Assumes nothing.
use Rattle.bench_lines.proofs.ObeyLaws.{undo_is}
use mathlib.Core.Path.{◌∙◌}
use Rattle.raster.proofs.LogLaws.{undone-front}
use Rattle.bench_lines.proofs.obey.undo.Goals as goal

pub returns : goal.returns
returns c = undo_is _ _ _ _ _ _ (c.undo.ensures ∙ undone-front _ _ _ _ c.requires) c.count-standing.ensures
