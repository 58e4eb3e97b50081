-- `pocket::refusals::ask_map` meets its contract. Assumes nothing.
use Rattle.pocket.proofs.AskedLaws.{map_odd, map-rest}
use Rattle.pocket.proofs.refusals.ask_map.Goals as goal

pub returns-then-not-numbers : goal.returns-then-not-numbers
returns-then-not-numbers c = map_odd _ _ _ _ c.if-not-numbers.true

pub returns : goal.returns
returns c = map-rest _ _ _ _ c.if-not-numbers.false _ c.ask_size.ensures
