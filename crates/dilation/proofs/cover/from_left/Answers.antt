-- `dilation::cover::from_left` meets its contract. Assumes nothing.
use mathlib.Core.Path.{◌≡◌, refl, sym, ◌∙◌, ap, subst}
use Prim.Native.Nat.{ℕ, ◌+◌, ◌<◌, max}
use native.Mathlib.Omega.{arith}
use lib.ListN.{length, set, length-set}
use Rattle.dilation.specs.Parts.{width_at, CoveredLeft}
use Rattle.dilation.proofs.CoverLaws.{reach-none, reach_more, lefts_none, lefts_on, lefts_off}
use Rattle.dilation.proofs.cover.from_left.Goals as goal
use Rattle.dilation.proofs.cover.from_left.Goals.{else-i-reach, then-i-reach}

pub loop-i-preserved : goal.loop-i-preserved
loop-i-preserved c = let v = c.loop-i.invariant in
    let d = c.loop-i-test.true in
    let l : c.loop-i.i < length c.loop-i.flags = omega (arith, v.2, c.requires.n_in_bounds, d) in
    let r = reach_more _ _ _ _ v.1 (c.max-reach.ensures ∙ ap (λ (x : ℕ). max c.loop-i.reach (c.loop-i.i + x)) c.width_at.ensures) in
    let f = width_at c.args.dist.now c.args.widths.now in
    let g : CoveredLeft f c.args.n (c.loop-i.i + 1) (set c.loop-i.flags c.loop-i.i c.if-i-reach.flags) =
    elim c.if-i-reach.branch [ then-i-reach w ↦ subst (λ (x : ℕ). CoveredLeft f c.args.n (c.loop-i.i + 1) (set c.loop-i.flags c.loop-i.i x)) (sym w.flags-is) (lefts_on f _ _ _ _ v.0 l d r w.if-i-reach.true) | else-i-reach w ↦ subst (λ (x : ℕ). CoveredLeft f c.args.n (c.loop-i.i + 1) (set c.loop-i.flags c.loop-i.i x)) (sym w.flags-is) (lefts_off f _ _ _ _ v.0 l d r w.if-i-reach.false) ] in
    (g, r, length-set c.loop-i.flags c.loop-i.i c.if-i-reach.flags ∙ v.2, omega (arith, d))
