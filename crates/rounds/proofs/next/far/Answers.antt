-- `rounds::next::far` meets its contract. Assumes nothing.
use Rattle.rounds.proofs.NextLaws.{far-closed, far_open}
use Rattle.rounds.proofs.next.far.Goals as goal

pub returns-then-r : goal.returns-then-r
returns-then-r c = far-closed _ _ _ _ c.least.ensures c.if-r.true

pub returns : goal.returns
returns c = far_open _ _ _ _ _ c.requires.some c.vertex.ensures c.distance.ensures c.if-r.false
