-- `geom::apart::edge_apart` meets its contract. Assumes nothing.
use Rattle.geom.proofs.ApartLaws.{edge-apart}
use Rattle.geom.proofs.apart.edge_apart.Goals as goal

pub returns : goal.returns
returns c = λ t.
    edge-apart c.args.vs.now c.args.at c.args.n c.args.r c.args.i _ c.args.c _ _ _ _ _ _ c.requires.rooted c.vertex-a.ensures c.next.ensures.0
    c.vertex-b.ensures c.lerp-s.ensures c.lerp-e.ensures c.is_beyond.ensures c.is_beyond-2.ensures t
