-- `abi::of_links::links_push` meets its contract. Assumes nothing.
use Rattle.abi.specs.Links.{entry_of}
use Rattle.abi.proofs.of_links.links_push.Goals as goal

pub returns : goal.returns
unfolding entry_of
returns c = c.push.ensures
