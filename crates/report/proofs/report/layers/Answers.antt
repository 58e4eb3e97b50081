-- `report::report::layers` meets its contract. Assumes nothing.
use Rattle.report.proofs.ReportLaws.{layers_is}
use Rattle.report.proofs.report.layers.Goals as goal

pub returns : goal.returns
returns c = layers_is _ _ _ _ _ _ c.ceil-up.ensures c.max.ensures c.sat_u64.ensures
