-- `pocket::places::shape_fits` meets its contract. Assumes nothing.
use Rattle.pocket.proofs.ShapeLaws.{shape_few, shape_odd, shape_rest}
use Rattle.pocket.proofs.places.shape_fits.Goals as goal

pub vertices_fit-requires : goal.vertices_fit-requires
vertices_fit-requires c = let s = c.args in
    shape_few s.vs.now s.lens.now c.if-loops.true

pub returns-then-loops : goal.returns-then-loops
returns-then-loops c = let s = c.args in
    shape_rest s.vs.now s.lens.now c.if-loops.true _ c.vertices_fit.ensures

pub returns : goal.returns
returns c = let s = c.args in
    shape_odd s.vs.now s.lens.now c.if-loops.false
