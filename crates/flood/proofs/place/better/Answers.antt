-- `flood::place::better` meets its contract. Assumes nothing.
use Rattle.flood.proofs.PlaceLaws.{better_first, better_new, better_old}
use Rattle.flood.proofs.place.better.Goals as goal

pub returns-in_default : goal.returns-in_default
returns-in_default c = better_first _ _ c.in_default.is

pub returns-then-next-b : goal.returns-then-next-b
returns-then-next-b c = better_new _ _ _ c.in-Some.is c.if-next-b.true

pub returns : goal.returns
returns c = better_old _ _ _ c.in-Some.is c.if-next-b.false
