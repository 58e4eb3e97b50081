-- `links::search::begin` meets its contract. Assumes nothing.
use native.Mathlib.Omega.{arith}
use Rattle.links.proofs.SeekLaws.{start_in, begin_asks, begin-long, begin-is}
use Rattle.links.proofs.search.begin.Goals as goal

pub add-requires : goal.add-requires
add-requires c =
    let r = begin_asks _ c.args.net.laid _ _ c.requires.l_in_bounds c.requires.l_in_bounds_2 _ c.nodes-n.ensures _ _ c.reset.ensures.words_after c.reset.ensures.costs_after _ c.from-i.ensures in
    record { ready = r.0; m_bound = r.1.0; n_bound = r.1.1 }

pub returns : goal.returns
returns c =
    let r = begin-is _ c.args.net.laid _ _ c.requires.l_in_bounds c.requires.l_in_bounds_2 _ c.nodes-n.ensures _ _ c.reset.ensures.words_after c.reset.ensures.costs_after _ c.from-i.ensures _ c.centre.ensures _ c.distance-est.ensures _ _ c.add.ensures.costs_after c.add.ensures.grown in
    record { costs_after = r.0; grown = r.1 }
