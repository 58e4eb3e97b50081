-- `rounds::next::comes_before` meets its contract. Assumes nothing.
use Rattle.rounds.proofs.NextLaws.{before-yes, before-no, before_level}
use Rattle.rounds.proofs.next.comes_before.Goals as goal

pub returns-then-is_nearer : goal.returns-then-is_nearer
returns-then-is_nearer c = before-yes _ _ _ c.is_nearer.ensures c.if-is_nearer.true

pub returns-then-is_nearer-2 : goal.returns-then-is_nearer-2
returns-then-is_nearer-2 c = before-no _ _ _ c.is_nearer.ensures c.if-is_nearer.false _ c.is_nearer-2.ensures c.if-is_nearer-2.true

pub returns : goal.returns
returns c = before_level _ _ _ c.is_nearer.ensures c.if-is_nearer.false _ c.is_nearer-2.ensures c.if-is_nearer-2.false _ c.ahead.ensures
