-- `links::search::next` meets its contract. Assumes nothing.
use Rattle.loops.specs.Regions.{within}
use Rattle.links.proofs.SearchLaws.{next_asks, next-is}
use Rattle.links.proofs.search.next.Goals as goal

pub pop-requires : goal.pop-requires
unfolding within
pop-requires c =
    let r = next_asks _ _ _ _ c.requires.ready c.requires.m_nonzero in
    record { n_nonzero = r.0; lent = r.1.0; ordered = r.1.1 }

pub returns : goal.returns
unfolding within
returns c =
    let r = next-is _ _ _ _ c.requires.ready _ _ _ c.requires.m_nonzero c.pop.ensures c.slice_known-3-1.given in
    record { costs_value = r.0; grown = r.1 }
