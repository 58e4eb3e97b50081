-- `rims::contact::block_hits` meets its contract. The invariant: the hits are those of the block's samples so far. Assumes nothing.
use mathlib.Core.Path.{sym, ◌∙◌, ap}
use Prim.Native.Nat.{ℕ, ◌*◌}
use native.Mathlib.Omega.{arith}
use Rattle.loops.specs.Loop.{loop}
use Rattle.loops.proofs.LoopLaws.{going_none, going_more, going_end}
use Rattle.raster.specs.Contact.{hit_at}
use Rattle.raster.proofs.ContactLaws.{hit_yes, hit_no}
use Rattle.rims.proofs.HitLaws.{hits_few}
use Rattle.rims.proofs.contact.block_hits.Goals as goal
use Rattle.rims.proofs.contact.block_hits.Goals.{else-sample_hit, then-sample_hit}

pub loop-k-init : goal.loop-k-init
loop-k-init c = going_none _ _ _ _

pub overflow_add-h : goal.overflow_add-h
overflow_add-h c = let l = c.loop-k in
    omega (arith, l.invariant.is, hits_few c.args.g c.args.map.now c.args.c c.args.r c.args.n (8 * c.args.b) l.k l.invariant.low, c.loop-k-test.true, c.min-k-end.ensures, c.requires.around.few)

pub loop-k-preserved : goal.loop-k-preserved
loop-k-preserved c = going_more _ _ _ _ _ _ _ c.loop-k.invariant c.loop-k-test.true
    (elim c.if-sample_hit.branch [ then-sample_hit w ↦ w.h-is ∙ hit_yes _ _ _ _ _ _ _ (sym c.sample_hit.ensures ∙ w.if-sample_hit.true) | else-sample_hit w ↦ w.h-is ∙ hit_no _ _ _ _ _ _ _ (sym c.sample_hit.ensures ∙ w.if-sample_hit.false) ])
