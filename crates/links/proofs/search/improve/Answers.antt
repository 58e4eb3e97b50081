-- `links::search::improve` meets its contract. Assumes nothing.
use native.Mathlib.Omega.{arith}
use Rattle.links.proofs.SearchLaws.{improve_ready, improve_is}
use Rattle.links.proofs.search.improve.Goals as goal

pub add-requires : goal.add-requires
add-requires c = record { ready = improve_ready _ _ _ _ c.requires.ready _ _ c.args.e c.requires.node_lt_n _ c.from-k.ensures _ c.put_node.ensures; m_bound = c.requires.m_bound; n_bound = c.requires.n_bound }

pub returns : goal.returns
returns c =
    let r = improve_is _ _ _ _ c.requires.ready _ _ _ c.requires.node_lt_n _ c.from-k.ensures _ c.put_node.ensures _ _ c.add.ensures.costs_after c.add.ensures.grown in
    record { costs_after = r.0; grown = r.1 }
