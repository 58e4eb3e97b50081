-- `entry::shapes::vertices_fit` meets its contract. Assumes nothing.
use Rattle.entry.proofs.ShapeLaws.{vertices_odd, vertices_many, vertices-sum}
use Rattle.entry.proofs.shapes.vertices_fit.Goals as goal

pub returns-then-n-le4096 : goal.returns-then-n-le4096
returns-then-n-le4096 c = let s = c.args in
    vertices-sum s.vs.now s.lens.now _ c.all_from.ensures c.if-all_from.true c.sum-n.result c.sum-n.ensures c.if-n-le4096.true

pub returns-else-n-le4096 : goal.returns-else-n-le4096
returns-else-n-le4096 c = let s = c.args in
    vertices_many s.vs.now s.lens.now _ c.all_from.ensures c.if-all_from.true c.sum-n.result c.sum-n.ensures c.if-n-le4096.false

pub returns-else-all_from : goal.returns-else-all_from
returns-else-all_from c = let s = c.args in vertices_odd s.vs.now s.lens.now _ c.all_from.ensures c.if-all_from.false
