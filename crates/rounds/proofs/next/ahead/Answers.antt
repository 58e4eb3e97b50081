-- `rounds::next::ahead` meets its contract. Assumes nothing.
use Rattle.rounds.proofs.NextLaws.{ahead_equal, ahead_not}
use Rattle.rounds.proofs.next.ahead.Goals as goal

pub returns-then-a-b : goal.returns-then-a-b
returns-then-a-b c = ahead_equal _ _ c.if-a-b.true

pub returns : goal.returns
returns c = ahead_not _ _ c.if-a-b.false
