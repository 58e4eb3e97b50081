-- `raster::log::clear_columns` meets its contract. Assumes nothing.
use mathlib.Core.Path.{◌∙◌, ap}
use Rattle.raster.specs.Log.{clear_cell}
use Rattle.raster.specs.Sweep.{over_span}
use Rattle.raster.proofs.SweepLaws.{inside_mono}
use Rattle.raster.proofs.LogLaws.{ready-kept, span_kept, le_same}
use native.Mathlib.Omega.{arith}
use Rattle.raster.proofs.log.clear_columns.Goals as goal

pub clear_span_logged-requires : goal.clear_span_logged-requires
clear_span_logged-requires c =
    let q = span_kept _ _ _ _ c.requires.ready c.clear_span_logged-n.ensures in
    record { inside = inside_mono _ _ _ _ (omega (arith, q.cells-long)) c.requires.right; ready = ready-kept _ _ c.requires.ready q }

pub returns : goal.returns
returns c = c.clear_span_logged.ensures ∙ ap (over_span clear_cell c.args.base c.args.row.right) c.clear_span_logged-n.ensures
