-- `entry::shapes::most_regions` meets its contract. Assumes nothing.
use Rattle.entry.specs.Questions.{most_regions}
use Rattle.entry.proofs.shapes.most_regions.Goals as goal

pub returns-then-whole : goal.returns-then-whole
unfolding most_regions
returns-then-whole c = rw c.if-whole.true

pub returns : goal.returns
unfolding most_regions
returns c = rw c.if-whole.false
