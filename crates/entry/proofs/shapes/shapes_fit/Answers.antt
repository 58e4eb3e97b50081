-- `entry::shapes::shapes_fit` meets its contract. Assumes nothing.
use mathlib.Core.Path.{sym, ◌∙◌}
use Rattle.entry.proofs.ShapeLaws.{few_loops, shapes_odd, shapes_not, shapes_placed}
use Rattle.entry.proofs.shapes.shapes_fit.Goals as goal

pub vertices_fit-requires : goal.vertices_fit-requires
vertices_fit-requires c = let s = c.args in few_loops s.whole s.lens.now s.regions.now (sym c.counts_fit.ensures ∙ c.if-counts_fit.true)

pub returns-then-vertices_fit : goal.returns-then-vertices_fit
returns-then-vertices_fit c = let s = c.args in
    shapes_placed s.whole s.vs.now s.lens.now s.regions.now (sym c.counts_fit.ensures ∙ c.if-counts_fit.true) (sym c.vertices_fit.ensures ∙ c.if-vertices_fit.true) _ c.all_placed.ensures

pub returns-else-vertices_fit : goal.returns-else-vertices_fit
returns-else-vertices_fit c = let s = c.args in
    shapes_not s.whole s.vs.now s.lens.now s.regions.now (sym c.counts_fit.ensures ∙ c.if-counts_fit.true) (sym c.vertices_fit.ensures ∙ c.if-vertices_fit.false)

pub returns-else-counts_fit : goal.returns-else-counts_fit
returns-else-counts_fit c = let s = c.args in shapes_odd s.whole s.vs.now s.lens.now s.regions.now (sym c.counts_fit.ensures ∙ c.if-counts_fit.false)
