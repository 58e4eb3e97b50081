-- `links::straight::Ground::link_clear` meets its contract. Assumes nothing.
use Rattle.links.proofs.StraightLaws.{link-long, link-blocked, link-judged}
use Rattle.links.proofs.straight.Ground.link_clear.Goals as goal

pub returns-then-n-gt200000 : goal.returns-then-n-gt200000
returns-then-n-gt200000 c = link-long _ _ _ _ _ _ _ _ c.steps_of-n.ensures c.if-n-gt200000.true

pub returns-then-samples_clear : goal.returns-then-samples_clear
returns-then-samples_clear c = link-judged _ _ _ _ _ _ _ _ c.steps_of-n.ensures c.if-n-gt200000.false _ c.samples_clear.ensures c.if-samples_clear.true _ c.count_disk.ensures

pub returns : goal.returns
returns c = link-blocked _ _ _ _ _ _ _ _ c.steps_of-n.ensures c.if-n-gt200000.false _ c.samples_clear.ensures c.if-samples_clear.false
