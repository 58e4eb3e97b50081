-- `links::search::offer` meets its contract. Assumes nothing.
use native.Mathlib.Omega.{arith}
use Rattle.links.proofs.SearchLaws.{offer_asks, offer_gives, offer_not, grown-none}
use Rattle.links.proofs.search.offer.Goals as goal

pub improve-requires : goal.improve-requires
improve-requires c =
    let r = offer_asks _ _ _ _ _ _ c.requires.node c.requires.node_2 _ _ c.centre.ensures c.centre-here.ensures _ c.distance.ensures _ _ c.from-i.ensures c.from-j.ensures _ c.nodes-n.ensures c.args.net.laid c.requires.ready c.requires.m_bound in
    record { ready = r.0; m_bound = r.1.0; n_bound = r.1.1.0; node_lt_n = r.1.1.1 }

pub returns-then-cand-costs : goal.returns-then-cand-costs
returns-then-cand-costs c =
    let r = offer_gives _ _ _ _ _ _ c.requires.node c.requires.node_2 _ _ c.centre.ensures c.centre-here.ensures _ c.distance.ensures _ _ c.from-i.ensures c.from-j.ensures _ c.nodes-n.ensures c.if-cand-costs.true _ c.distance-then-cand-costs.ensures _ _ c.improve.ensures.costs_after c.improve.ensures.grown in
    record { costs_after = r.0; grown = r.1.0; upper_bound = r.1.1 }

pub returns : goal.returns
returns c = record { costs_after = offer_not _ _ _ _ _ _ c.requires.node c.requires.node_2 _ _ c.centre.ensures c.centre-here.ensures _ c.distance.ensures _ _ c.from-i.ensures c.from-j.ensures c.if-cand-costs.false; grown = grown-none _ _ _ _ c.requires.ready; upper_bound = omega arith }
