-- `links::straight::Ground::clear_at` meets its contract. Assumes nothing.
use Rattle.links.proofs.StraightLaws.{clear_there, clear_not}
use Rattle.links.proofs.straight.Ground.clear_at.Goals as goal

pub returns-then-allowed_at : goal.returns-then-allowed_at
returns-then-allowed_at c = clear_there _ _ _ _ _ _ _ _ c.allowed_at.ensures c.if-allowed_at.true _ _ c.contact_less-contact.ensures c.angle_of.ensures

pub returns : goal.returns
returns c = clear_not _ _ _ _ _ _ _ _ c.allowed_at.ensures c.if-allowed_at.false
