-- `rims::hits::roomy_hits` meets its contract. The invariant: the hits are those of the samples so far. Assumes nothing.
use mathlib.Core.Path.{sym, ◌∙◌}
use native.Mathlib.Omega.{arith}
use Rattle.loops.proofs.LoopLaws.{going_none, going_more, going_end}
use Rattle.raster.specs.Grid.{center_of}
use Rattle.raster.specs.Contact.{hits_of}
use Rattle.raster.proofs.ContactLaws.{hit_yes, hit_no, hits-most}
use Rattle.rims.proofs.hits.roomy_hits.Goals as goal
use Rattle.rims.proofs.hits.roomy_hits.Goals.{else-sample_hit, then-sample_hit}

pub loop-k-init : goal.loop-k-init
loop-k-init c = going_none _ _ _ _

pub overflow_add-h : goal.overflow_add-h
overflow_add-h c = omega (arith, c.loop-k.invariant.is, hits-most c.args.g c.args.map.now (center_of c.args.g c.args.i c.args.j) c.args.r c.args.n c.loop-k.k, c.loop-k-test.true, c.requires.rims.entered.few)

pub loop-k-preserved : goal.loop-k-preserved
loop-k-preserved c = going_more _ _ _ _ _ _ _ c.loop-k.invariant c.loop-k-test.true
    (elim c.if-sample_hit.branch [ then-sample_hit w ↦ w.h-is ∙ hit_yes _ _ _ _ _ _ _ (sym c.sample_hit.ensures ∙ w.if-sample_hit.true) | else-sample_hit w ↦ w.h-is ∙ hit_no _ _ _ _ _ _ _ (sym c.sample_hit.ensures ∙ w.if-sample_hit.false) ])

pub returns : goal.returns
unfolding hits_of
returns c = going_end _ _ _ _ _ _ c.loop-k.invariant c.loop-k-test.false
