-- `smoothing::smooth::average_at` meets its contract. Assumes nothing.
use Rattle.smoothing.proofs.SmoothLaws.{average_held, average_moved}
use Rattle.smoothing.proofs.smooth.average_at.Goals as goal

pub returns-then-held : goal.returns-then-held
returns-then-held c = average_held _ _ _ _ _ _ _ _ c.vertex-p.ensures c.held.ensures c.if-held.true

pub returns : goal.returns
returns c = average_moved _ _ _ _ _ _ _ _ c.vertex-p.ensures c.held.ensures c.if-held.false _ _ _ c.next.ensures c.mean-m.ensures c.put.ensures
