-- `passes::trial::leg_of` meets its contract. Assumes nothing.
use Rattle.passes.proofs.SimulateLaws.{leg_short, leg_one, leg_more}
use Rattle.passes.proofs.trial.leg_of.Goals as goal

pub returns-then-length : goal.returns-then-length
returns-then-length c = leg_short _ _ _ _ c.sub-d.ensures _ c.length.ensures c.if-length.true

pub returns-then-m-lt1 : goal.returns-then-m-lt1
returns-then-m-lt1 c = leg_one _ _ _ _ c.sub-d.ensures _ c.length.ensures c.if-length.false _ _ c.normalized.ensures c.perp-left.ensures _ _ c.distance.ensures c.ceil.ensures _ c.sat_u64-m.ensures c.if-m-lt1.true

pub returns-else-m-lt1 : goal.returns-else-m-lt1
returns-else-m-lt1 c = leg_more _ _ _ _ c.sub-d.ensures _ c.length.ensures c.if-length.false _ _ c.normalized.ensures c.perp-left.ensures _ _ c.distance.ensures c.ceil.ensures _ c.sat_u64-m.ensures c.if-m-lt1.false
