-- `geom::region::turn` meets its contract. Assumes nothing.
use Rattle.geom.specs.Region.{turned}
use Rattle.geom.proofs.region.turn.Goals as goal

pub returns-then-p-crossing : goal.returns-then-p-crossing
unfolding turned
returns-then-p-crossing c = rw (← c.straddles.ensures, c.if-straddles.true, ← c.crossing.ensures, c.if-p-crossing.true)

pub returns-else-p-crossing : goal.returns-else-p-crossing
unfolding turned
returns-else-p-crossing c = rw (← c.straddles.ensures, c.if-straddles.true, ← c.crossing.ensures, c.if-p-crossing.false)

pub returns-else-straddles : goal.returns-else-straddles
unfolding turned
returns-else-straddles c = rw (← c.straddles.ensures, c.if-straddles.false)
