-- `raster::stock::intersect` meets its contract. The invariant: the map is what the cells so far leave. Assumes nothing.
use Rattle.std.proofs.lemmas.List.{set-get_or}
use mathlib.Core.Path.{◌≡◌, ap, ◌∙◌}
use native.Mathlib.Omega.{arith}
use lib.ListN.{length}
use Rattle.loops.proofs.LoopLaws.{going_none, going_more, going_end}
use Rattle.raster.specs.Stock.{intersection}
use Rattle.raster.proofs.StockLaws.{kept-one, kept_not, keep-long}
use Rattle.raster.proofs.stock.intersect.Goals as goal
use Rattle.raster.proofs.stock.intersect.Goals.{else-other-k-ne1, then-other-k-ne1}
use Rattle.raster.proofs.stock.intersect.Goals.{At-loop-k}

pub loop-k-init : goal.loop-k-init
loop-k-init c = going_none _ _ _ _

pub loop-k-preserved : goal.loop-k-preserved
loop-k-preserved c = going_more _ _ _ _ _ _ _ c.loop-k.invariant c.loop-k-test.true
    (elim c.if-other-k-ne1.branch [ then-other-k-ne1 w ↦ w.map-is ∙ kept_not _ _ _ w.if-other-k-ne1.true | else-other-k-ne1 w ↦ w.map-is ∙ set-get_or _ _ 0 ∙ kept-one _ _ _ w.if-other-k-ne1.false ])

pub returns : goal.returns
unfolding intersection
returns c = going_end _ _ _ _ _ _ c.loop-k.invariant c.loop-k-test.false
