-- `pocket::adaptive::setting` meets its contract. Assumes nothing.
use Rattle.pocket.specs.Plan.{setting_of}
use Rattle.pocket.proofs.adaptive.setting.Goals as goal

pub returns-then-s : goal.returns-then-s
unfolding setting_of
returns-then-s c = rw c.if-s.true

pub returns : goal.returns
unfolding setting_of
returns c = rw c.if-s.false
