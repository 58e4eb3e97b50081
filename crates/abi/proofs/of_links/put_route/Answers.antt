-- `abi::of_links::put_route` meets its contract. Assumes nothing.
use Rattle.abi.proofs.PathLaws.{put_along, put-lost}
use Rattle.abi.proofs.of_links.put_route.Goals as goal

pub returns-in-Some : goal.returns-in-Some
returns-in-Some c = put_along c.args.out.now _ _ c.requires c.in-Some.is

pub returns-in-None : goal.returns-in-None
returns-in-None c = put-lost c.args.out.now _ c.requires c.in-None.is
