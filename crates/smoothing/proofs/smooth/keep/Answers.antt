-- `smoothing::smooth::keep` meets its contract. Assumes nothing.
use mathlib.Core.Path.{sym, subst}
use mathlib.Core.List.{[], ◌∷◌}
use native.Mathlib.Omega.{arith}
use Rattle.loops.specs.Loop.{loop}
use Rattle.geom.specs.Points.{points}
use Rattle.loops.proofs.LoopLaws.{going_none, going_more, going_end}
use Rattle.smoothing.specs.Smooth.{nth, keep_at, Keeping, kpt}
use Rattle.smoothing.proofs.SmoothLaws.{KeepStep, keep_run, keep-is}
use Rattle.smoothing.proofs.smooth.keep.Goals as goal
use Rattle.smoothing.proofs.smooth.keep.Goals.{At-loop-k}

run : (c : At-loop-k) → let a = c.args in let ps = points 0 a.n a.pts.now in
    KeepStep a.pts.now c.loop-k.k (kpt c.loop-k.pts c.loop-k.kept) (loop (keep_at a.cell.r ps) 1 c.loop-k.k (nth ps 0 ∷ []))
run c =
    let a = c.args in
    let ps = points 0 a.n a.pts.now in
    subst (λ (s : Keeping). KeepStep a.pts.now c.loop-k.k s (loop (keep_at a.cell.r ps) 1 c.loop-k.k (nth ps 0 ∷ []))) (sym c.loop-k.invariant.is)
    (keep_run _ _ _ c.requires.n_in_bounds c.loop-k.k c.loop-k.invariant.low (omega (arith, c.loop-k.invariant.high, c.requires.n_nonzero)))

pub loop-k-init : goal.loop-k-init
loop-k-init c = going_none _ _ _ _

pub keep_at-kept-requires : goal.keep_at-kept-requires
keep_at-kept-requires c = let r = run (goal.at.keep_at-kept-requires c).At-loop-k in record { kept_nonzero = (r.some, r.most); k_in_bounds = omega (arith, c.requires.n_in_bounds, c.loop-k-test.true, r.long) }

pub loop-k-preserved : goal.loop-k-preserved
loop-k-preserved c = going_more _ _ _ _ _ _ _ c.loop-k.invariant c.loop-k-test.true c.keep_at-kept.ensures

pub returns : goal.returns
returns c = keep-is _ _ _ c.requires.n_in_bounds _ c.requires.n_nonzero (going_end _ _ _ _ _ _ c.loop-k.invariant c.loop-k-test.false)
