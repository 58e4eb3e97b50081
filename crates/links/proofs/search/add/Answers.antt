-- `links::search::add` meets its contract. Assumes nothing.
use Rattle.loops.specs.Regions.{within}
use Rattle.links.proofs.SearchLaws.{add_asks, add_is}
use Rattle.links.proofs.search.add.Goals as goal

pub push-requires : goal.push-requires
unfolding within
push-requires c =
    let r = add_asks _ _ _ _ c.requires.ready c.requires.m_bound in
    record { lent = r.0; ordered = r.1 }

pub returns : goal.returns
unfolding within
returns c =
    let r = add_is _ _ _ _ c.requires.ready _ _ _ c.requires.m_bound c.push.ensures c.slice_known-3-1.given in
    record { costs_after = r.0; grown = r.1 }
