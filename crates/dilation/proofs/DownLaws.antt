-- The rows of a window, from the first to the last: the rows up to a mark. Assumes nothing.
use mathlib.Core.Path.{◌≡◌, sym, ap, ◌∙◌, subst}
use mathlib.Core.List.{List}
use Prim.Native.Nat.{ℕ, ◌+◌, ◌-◌, ◌*◌, ◌≤◌, ◌<◌}
use native.Mathlib.Omega.{arith}
use native.Mathlib.Nat.{add-mul, mul-le-mul_right}
use lib.ListN.{get_or}
use lib.Dec.{ltb}
use borrow.Author.Tests.{ltb-true, ltb-false}
use Rattle.loops.specs.Cells.{number}
use Rattle.loops.proofs.Cases.{by_cases}
use Rattle.distance.specs.Column.{lost, from_above}
use Rattle.distance.specs.Wrote.{Wrote}
use Rattle.dilation.specs.Window.{On}
use Rattle.dilation.specs.Parts.{Above, Runs, Down}
use Rattle.dilation.specs.declared.window.Window.{Window}
use Rattle.dilation.proofs.ColumnLaws.{above-none, above-next}

module _ (m : List ℕ) (nx : ℕ) (w : Window) where
  pub down-none : (u : List ℕ) → Down m nx w w.lo u
  down-none u = record { cell = λ i j a b d e. absurd (let z : ⊥ = omega arith in z) }

  pub down-end : (e k : ℕ) (u : List ℕ) → Down m nx w k u → e ≤ k → Down m nx w e u
  down-end e k u h b = record { cell = λ i j p q r s. h.cell i j p q r (omega arith) }

  pub runs_none : (run : List ℕ) → ((k : ℕ) → k < 4096 → get_or run k 0 ≡ lost) → w.right ≤ 4096 → Runs m nx w w.lo run
  runs_none run h b = record { at = λ i p q. subst (Above m nx w.lo w.lo i) (sym (h (i - w.left) (omega arith))) (above-none m nx w.lo i) }

  module _ (O : On nx w) (j : ℕ) (L : w.lo ≤ j) (H : j < w.hi) (run : List ℕ) (R : Runs m nx w j run) where
    abbrev f : ℕ → ℕ
    f k = from_above (get_or m (j * nx + w.left + k) 0) 1 (get_or run k 0)

    next : (i : ℕ) → w.left ≤ i → i < w.right → Above m nx w.lo (j + 1) i (f (i - w.left))
    next i p q =
        let e : number nx i j ≡ j * nx + w.left + (i - w.left) = omega arith in
        subst (λ (x : ℕ). Above m nx w.lo (j + 1) i (from_above (get_or m x 0) 1 (get_or run (i - w.left) 0))) e
        (above-next m nx w.lo i j L (omega (arith, O.rows)) (get_or run (i - w.left) 0) (R.at i p q))

    pub runs_more : (run' : List ℕ) → Wrote f 0 0 (w.right - w.left) run run' → Runs m nx w (j + 1) run'
    runs_more run' s = record {
      at = λ i p q.
          let e : i - w.left ≡ 0 + (i - w.left) = omega arith in
          subst (Above m nx w.lo (j + 1) i) (sym (ap (λ (x : ℕ). get_or run' x 0) e ∙ s.cell (i - w.left) (omega arith) (omega arith))) (next i p q);
    }

    pub down_more : (u u' : List ℕ) → Down m nx w j u → Wrote f (j * nx + w.left) 0 (w.right - w.left) u u' → Down m nx w (j + 1) u'
    down_more u u' d s = record {
      cell = λ i k p q a b. by_cases (ltb k j)
          (λ y.
          let z = ltb-true k j y in
          let g : (k + 1) * nx ≤ j * nx = mul-le-mul_right nx (omega arith) in
          subst (Above m nx w.lo (k + 1) i) (sym (s.left (number nx i k) (omega (arith, g, add-mul k 1 nx, O.wide)))) (d.cell i k p q a z))
          (λ y.
          let z : j ≡ k = omega (arith, ltb-false k j y) in
          let e : j * nx + w.left + (i - w.left) ≡ number nx i j = omega arith in
          subst (λ (x : ℕ). Above m nx w.lo (x + 1) i (get_or u' (number nx i x) 0)) z
          (subst (Above m nx w.lo (j + 1) i) (sym (ap (λ (x : ℕ). get_or u' x 0) (sym e) ∙ s.cell (i - w.left) (omega arith) (omega arith))) (next i p q)));
    }
