-- `dilation::cover::from_right` meets its contract. Assumes nothing.
use mathlib.Core.Path.{refl, sym, ◌∙◌, ap, subst}
use Prim.Native.Nat.{ℕ, ◌+◌, ◌-◌, ◌<◌, max}
use native.Mathlib.Omega.{arith}
use lib.ListN.{length, length-set}
use Rattle.dilation.specs.Parts.{CoveredRight}
use Rattle.dilation.proofs.CoverLaws.{reach-none, reach_more, rights_none, rights_on, rights_off, rights_end}
use Rattle.dilation.proofs.cover.from_right.Goals as goal
use Rattle.dilation.proofs.cover.from_right.Goals.{else-t-reach, then-t-reach}

pub loop-t-preserved : goal.loop-t-preserved
loop-t-preserved c = let v = c.loop-t.invariant in
    let d = c.loop-t-test.true in
    let l : c.args.n - 1 - c.loop-t.t < length c.loop-t.flags = omega (arith, v.2, c.requires.n_in_bounds, d) in
    let r = reach_more _ _ _ _ v.1 (c.max-reach.ensures ∙ ap (λ (x : ℕ). max c.loop-t.reach (c.loop-t.t + x)) c.width_at.ensures) in
    elim c.if-t-reach.branch [ then-t-reach w ↦ (subst (CoveredRight _ _ _) (sym w.flags-is) (rights_on _ _ _ _ _ d refl r _ v.0 l w.if-t-reach.true), r, ap length w.flags-is ∙ length-set c.loop-t.flags (c.args.n - 1 - c.loop-t.t) 1 ∙ v.2, omega (arith, d)) | else-t-reach w ↦ (subst (CoveredRight _ _ _) (sym w.flags-is) (rights_off _ _ _ _ _ d refl r _ v.0 w.if-t-reach.false), r, ap length w.flags-is ∙ v.2, omega (arith, d)) ]
