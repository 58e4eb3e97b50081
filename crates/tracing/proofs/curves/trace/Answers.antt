-- `tracing::curves::trace` meets its contract. Assumes nothing.
use Rattle.tracing.proofs.CurvesLaws.{laying, beside}
use Rattle.tracing.proofs.curves.trace.Goals as goal

pub returns : goal.returns
returns c = record { laying = laying _ _ _ _ c.requires.room _ _ _ _ _ _ c.cells-n.ensures c.segments-segments.ensures c.log-log.ensures c.marks-marks.ensures c.traced-traced.ensures c.guide-guide.ensures _ _ _ _ c.contours.ensures; beside = beside _ _ _ _ c.requires.room _ _ _ _ _ _ c.cells-n.ensures c.segments-segments.ensures c.log-log.ensures c.marks-marks.ensures c.traced-traced.ensures c.guide-guide.ensures _ _ _ _ c.contours.ensures c.contours.new.marks c.contours.auto.marks }
