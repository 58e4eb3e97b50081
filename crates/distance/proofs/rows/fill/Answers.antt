-- `distance::rows::fill` meets its contract. The invariant: the regions from k on are written. Assumes nothing.
use mathlib.Core.Path.{◌≡◌, refl, ◌∙◌}
use mathlib.Core.List.{List}
use Prim.Native.Nat.{ℕ, ◌-◌, ◌+◌, ◌*◌, ◌≤◌}
use native.Mathlib.Omega.{arith}
use lib.ListN.{get_or}
use Rattle.distance.specs.Envelope.{Entry}
use Rattle.distance.proofs.RowLaws.{edge_same, entry-same, edge_le, filled_none, filled_more, filled-all}
use Rattle.distance.proofs.rows.fill.Goals as goal
use Rattle.distance.proofs.rows.fill.Goals.{In-loop-k}

-- the parabola of this turn, as it was on entry and as it is read
module _ (c : In-loop-k) where
  abbrev work : List ℕ
  work = c.loop-k.work

  abbrev i : ℕ
  i = c.args.s + 3 * (c.loop-k.k - 1)

  same_at : (d : ℕ) → get_or work (i + d) 0 ≡ get_or c.args.work.now (i + d) 0
  same_at d = c.loop-k.invariant.same (i + d) (omega (arith, c.requires.nx_bound))

  same-column : get_or work i 0 ≡ get_or c.args.work.now i 0
  same-column = c.loop-k.invariant.same i (omega (arith, c.requires.nx_bound))

  entry : Entry work c.args.s c.args.nx c.args.nx (c.loop-k.k - 1)
  entry = entry-same c.args.work.now work c.args.s c.args.nx c.args.nx (c.loop-k.k - 1) same-column (same_at 1) (same_at 2) (c.requires.sound.entry _ (omega arith))

  ends : c.loop-k.e ≤ c.args.nx
  ends = edge_le _ _ _ _ _ _ c.requires.sound c.loop-k.invariant.edge

pub loop-k-preserved : goal.loop-k-preserved
loop-k-preserved c = let l = c.loop-k in
    let p = c.span in
    let e = entry (goal.at.loop-k-preserved c).In-loop-k in
    record {
      high = omega (arith, l.invariant.high);
      long = p.auto.work ∙ l.invariant.long;
      edge = record { inside = λ a. same_at (goal.at.loop-k-preserved c).In-loop-k 2; outside = λ a. absurd (let z : ⊥ = omega (arith, l.invariant.high, c.loop-k-test.true) in z) };
      same = λ x a. p.ensures.right x (omega (arith, ends (goal.at.loop-k-preserved c).In-loop-k)) (omega (arith, e.inside)) ∙ l.invariant.same x a;
      filled = filled_more _ _ _ _ (l.k - 1) _ _ _ _ l.invariant.filled (omega (arith, l.invariant.high, c.loop-k-test.true)) (edge_same (let z : l.k ≡ l.k - 1 + 1 = omega (arith, c.loop-k-test.true) in z) l.invariant.edge) _ _ _ (same-column (goal.at.loop-k-preserved c).In-loop-k) (same_at (goal.at.loop-k-preserved c).In-loop-k 1) (same_at (goal.at.loop-k-preserved c).In-loop-k 2) p.ensures;
    }
