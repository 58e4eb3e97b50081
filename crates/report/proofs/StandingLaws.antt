-- The stock that is left, counted: every stock cell is one that the tool could reach or one that it could not. Assumes nothing.
use mathlib.Core.Path.{◌≡◌, refl, sym, ap, ◌∙◌}
use mathlib.Core.List.{List}
use Prim.Native.Nat.{ℕ, ◌+◌, ◌≤◌}
use native.Mathlib.Omega.{arith}
use lib.ListN.{length, get_or, take}
use lib.Seq.{take-length}
use lib.Dec.{eqb}
use borrow.Author.Tests.{eq-eqb, ne_eqb}
use Rattle.loops.specs.Loop.{loop}
use Rattle.loops.specs.Cells.{ones, bit}
use Rattle.loops.proofs.Cases.{by_cases}
use Rattle.loops.proofs.LoopLaws.{Going, loop_both}
use Rattle.raster.proofs.StockLaws.{ones-take, count_most}
use Rattle.report.specs.Report.{rem, counted, remain_at, remaining_of}
use Rattle.report.specs.declared.standing.Left.{Left}

module _ (stock reach : ℕ) (t : Left) where
  pub counted_none : (stock ≡ 1 → ⊥) → t ≡ counted stock reach t
  unfolding counted
  counted_none e = rw (ne_eqb stock 1 e) refl

  pub counted-reach : stock ≡ 1 → reach ≡ 1 → rem (t.reach + 1) t.unreach ≡ counted stock reach t
  unfolding counted
  counted-reach e d = rw (eq-eqb stock 1 e, eq-eqb reach 1 d) refl

  pub counted_not : stock ≡ 1 → (reach ≡ 1 → ⊥) → rem t.reach (t.unreach + 1) ≡ counted stock reach t
  unfolding counted
  counted_not e d = rw (eq-eqb stock 1 e, ne_eqb reach 1 d) refl

  counted-sum : (counted stock reach t).reach + (counted stock reach t).unreach ≡ t.reach + t.unreach + bit stock
  unfolding counted
  counted-sum = by_cases (eqb stock 1)
      (λ e. rw e (by_cases (eqb reach 1) (λ d. rw d (omega arith)) (λ d. rw d (omega arith))))
      (λ e. rw e (omega arith))

module _ (map reach : List ℕ) where
  -- after k cells
  pub remain_sum : (k : ℕ) → k ≤ length map → let t = loop (remain_at map reach) 0 k (rem 0 0) in t.reach + t.unreach ≡ ones (take k map)
  unfolding ones
  remain_sum k h =
      loop_both (remain_at map reach) (remain_at map reach) (λ i t u. t.reach + t.unreach ≡ ones (take i map)) 0 k (omega arith)
      (λ i t u a b e. counted-sum (get_or map i 0) (get_or reach i 0) t ∙ ap (λ (n : ℕ). n + bit (get_or map i 0)) e ∙ sym (ones-take map i (omega arith)))
      (rem 0 0) (rem 0 0) (refl)

  -- no more than cells
  pub going_few : (t : Left) (k : ℕ) → Going (remain_at map reach) 0 (length map) (rem 0 0) t k → t.reach + t.unreach ≤ k
  going_few t k g = count_most map k (t.reach + t.unreach) (ap (λ (q : Left). q.reach + q.unreach) g.is ∙ remain_sum k (omega (arith, g.high)))

  -- what is left is all that stands
  pub remaining_sum : (remaining_of map reach).reach + (remaining_of map reach).unreach ≡ ones map
  unfolding remaining_of
  remaining_sum = remain_sum (length map) (omega arith) ∙ ap ones (take-length map)
