-- `report::report::report_of` meets its contract. Assumes nothing.
use Rattle.report.proofs.ReportLaws.{report_is}
use Rattle.report.proofs.report.report_of.Goals as goal

pub returns : goal.returns
returns c = report_is c.args.g.cell c.args.f c.args.t c.args.b.now c.args.rows.now c.args.triples.now _ _ _ c.cells-n.ensures c.reach-a.ensures
    _ c.remaining-left.ensures _ c.count-standing.ensures _ c.count_kinds-count.ensures _ _ _ _ _ _ c.float_of.ensures c.float_of-2.ensures c.float_of-3.ensures
    _ c.layers.ensures c.to_degrees.ensures c.max.ensures c.max-2.ensures
