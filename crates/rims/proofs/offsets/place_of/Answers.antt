-- `rims::offsets::place_of` meets its contract. Assumes nothing.
use Rattle.rims.proofs.OffsetLaws.{place-yes, place-past, place_none}
use Rattle.rims.proofs.offsets.place_of.Goals as goal

pub returns-then-i-n : goal.returns-then-i-n
returns-then-i-n c = place-yes _ _ _ _ _ c.if-f.true c.sat_u32-i.ensures c.if-i-n.true

pub returns-else-i-n : goal.returns-else-i-n
returns-else-i-n c = place-past _ _ _ _ _ c.if-f.true c.sat_u32-i.ensures c.if-i-n.false

pub returns-else-f : goal.returns-else-f
returns-else-f c = place_none _ _ _ _ c.if-f.false
