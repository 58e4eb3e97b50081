-- `links::lattice::Net::node_free` meets its contract. Assumes nothing.
use Rattle.raster.specs.declared.grid.CellNo.{CellNo}
use Rattle.distance.specs.declared.limits.Threshold.{Threshold}
use mathlib.Core.Path.{ap, ◌∙◌}
use Rattle.links.proofs.LatticeLaws.{free_not, free-judged, cell_below}
use native.Mathlib.Omega.{arith}
use Rattle.links.proofs.lattice.Net.node_free.Goals as goal

pub bounds-allowed-k : goal.bounds-allowed-k
bounds-allowed-k c = omega (arith, (c.index_of-k.ensures ∙ ap (λ (n : CellNo). n.0) c.cell_of_node.ensures), cell_below _ c.args.self.laid c.args.v c.requires.node, c.requires.over.long)

pub bounds-squares-k : goal.bounds-squares-k
bounds-squares-k c = omega (arith, (c.index_of-k.ensures ∙ ap (λ (n : CellNo). n.0) c.cell_of_node.ensures), cell_below _ c.args.self.laid c.args.v c.requires.node, c.requires.over_2.long)

pub returns-then-allowed-k-eq1 : goal.returns-then-allowed-k-eq1
returns-then-allowed-k-eq1 c = free-judged _ _ _ _ _ (c.index_of-k.ensures ∙ ap (λ (n : CellNo). n.0) c.cell_of_node.ensures) c.if-allowed-k-eq1.true _ c.args.self.bound _ c.beyond.ensures

pub returns : goal.returns
returns c = free_not _ _ _ _ _ (c.index_of-k.ensures ∙ ap (λ (n : CellNo). n.0) c.cell_of_node.ensures) c.if-allowed-k-eq1.false
