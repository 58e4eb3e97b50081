-- `raster::contact::hits` meets its contract. The invariant: the hits are those of the samples so far. Assumes nothing.
use mathlib.Core.Path.{sym, ap, ◌∙◌}
use Prim.Native.Nat.{◌≤◌}
use native.Mathlib.Omega.{arith}
use Rattle.loops.proofs.LoopLaws.{going_none, going_more, going_end}
use Rattle.raster.specs.Grid.{stock_at}
use Rattle.raster.specs.Contact.{hits_of}
use Rattle.raster.proofs.ContactLaws.{rim-point, hit_yes, hit_no, hits-most}
use Rattle.raster.proofs.contact.hits.Goals as goal
use Rattle.raster.proofs.contact.hits.Goals.{else-at, then-at}
use Rattle.raster.proofs.contact.hits.Goals.{At-loop-sample}

most : (c : At-loop-sample) → c.loop-sample.h ≤ c.loop-sample.sample
most c =
    omega (
      arith,
      c.loop-sample.invariant.is,
      hits-most c.args.g c.args.map.now c.args.c
          c.args.r c.args.n c.loop-sample.sample,
    )

pub loop-sample-init : goal.loop-sample-init
loop-sample-init c = going_none _ _ _ _

pub overflow_add-h : goal.overflow_add-h
overflow_add-h c = omega (arith, most (goal.at.overflow_add-h c).At-loop-sample)

pub loop-sample-preserved : goal.loop-sample-preserved
loop-sample-preserved c = let k = c.loop-sample.sample in
    let e =
    rim-point c.args.c c.args.r c.args.n k _ _ _ _ (c.requires.rim.x k c.loop-sample-test.true)
    (c.requires.rim.y k c.loop-sample-test.true) c.scale.ensures c.add.ensures in
    going_more _ _ _ _ _ _ _ c.loop-sample.invariant c.loop-sample-test.true
    (elim c.if-at.branch [ then-at w ↦ w.h-is ∙ hit_yes _ _ _ _ _ _ _ (sym (c.at.ensures ∙ ap (stock_at c.args.g c.args.map.now) e) ∙ w.if-at.true) | else-at w ↦ w.h-is ∙ hit_no _ _ _ _ _ _ _ (sym (c.at.ensures ∙ ap (stock_at c.args.g c.args.map.now) e) ∙ w.if-at.false) ])

pub returns : goal.returns
unfolding hits_of
returns c = going_end _ _ _ _ _ _ c.loop-sample.invariant c.loop-sample-test.false
