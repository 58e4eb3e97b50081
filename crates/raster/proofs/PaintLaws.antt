-- Turns that change cells one by one, clearing or setting them: which cells a loop of them changes, and which numbers a span names. Assumes nothing.
use Rattle.std.specs.Prelude.{None, Some}
use Rattle.raster.specs.Disk.{Span}
use mathlib.Core.Path.{◌≡◌, refl, sym, ap, ◌∙◌}
use mathlib.Core.Bool.{Bool, true, false, cond, ◌||◌}
use mathlib.Core.List.{List}
use Prim.Native.Nat.{ℕ, zero, suc, ◌+◌, ◌-◌, ◌*◌, ◌≤◌, ◌<◌}
use native.Mathlib.Omega.{arith}
use lib.ListN.{get_or}
use lib.Dec.{eqb}
use borrow.Author.Tests.{eqb-true, eqb-false, eq-eqb, ne_eqb}
use Rattle.loops.specs.Loop.{turns, loop, or_at, any}
use Rattle.loops.proofs.Cases.{by_cases, or_left, or_right}
use Rattle.loops.proofs.CellLaws.{same_row, row_below}
use Rattle.raster.specs.Sweep.{over_span}
use Rattle.raster.proofs.RowLaws.{InRow}

-- ---- one of the numbers from a on below e

pub or_none : (a b : Bool) → a ≡ false → b ≡ false → a || b ≡ false
or_none a b e d = rw (e, d)

turns_at : (p : ℕ → Bool) (a n i : ℕ) → a ≤ i → i < a + n → p i ≡ true → turns (or_at p) a n false ≡ true
unfolding turns
turns_at p a zero i h k e = absurd (let z : ⊥ = omega arith in z)
turns_at p a (suc n) i h k e =
    by_cases (eqb i (a + n))
    (λ d. or_right (turns (or_at p) a n false) (p (a + n)) (ap p (sym (eqb-true i (a + n) d)) ∙ e))
    (λ d. or_left (turns (or_at p) a n false) (p (a + n)) (turns_at p a n i h (let z : i < a + n = omega (arith, eqb-false i (a + n) d) in z) e))

turns-none : (p : ℕ → Bool) (a n : ℕ) → ((i : ℕ) → a ≤ i → i < a + n → p i ≡ false) → turns (or_at p) a n false ≡ false
unfolding turns
turns-none p a zero h = refl
turns-none p a (suc n) h = or_none (turns (or_at p) a n false) (p (a + n)) (turns-none p a n (λ i b c. h i b (omega arith))) (h (a + n) (omega arith) (omega arith))

pub any_at : (p : ℕ → Bool) (a e i : ℕ) → a ≤ i → i < e → p i ≡ true → any p a e ≡ true
unfolding any loop
any_at p a e i h k d = turns_at p a (e - a) i h (omega arith) d

pub any_none : (p : ℕ → Bool) (a e : ℕ) → ((i : ℕ) → a ≤ i → i < e → p i ≡ false) → any p a e ≡ false
unfolding any loop
any_none p a e h = turns-none p a (e - a) (λ i b c. h i b (omega arith))

-- ---- the numbers that a span names, its row's first cell having the number base

abbrev pub in_span : ℕ → Span → ℕ → Bool
in_span base None k = false
in_span base (Some (a, b)) k = any (λ i. eqb k i) (base + a) (base + b + 1)

-- column i is in the span
abbrev pub Has : ℕ → Span → Type 0
Has i None = ⊥
Has i (Some (a, b)) = (a ≤ i) × (i ≤ b)

pub span_has : (base i : ℕ) (p : Span) → Has i p → in_span base p (base + i) ≡ true
span_has base i None h = absurd h
span_has base i (Some (a, b)) h = any_at (λ q. eqb (base + i) q) (base + a) (base + b + 1) (base + i) (omega (arith, h.0)) (omega (arith, h.1)) (eq-eqb (base + i) (base + i) refl)

-- cell (i, j) is in a span of row j' only where the rows are one and the column is in it
pub span_lacks : (nx j j' i : ℕ) (p : Span) → InRow nx p → i < nx → (j ≡ j' → Has i p → ⊥) → in_span (j' * nx) p (j * nx + i) ≡ false
span_lacks nx j j' i None r h f = refl
span_lacks nx j j' i (Some (a, b)) r h f =
    any_none (λ q. eqb (j * nx + i) q) (j' * nx + a) (j' * nx + b + 1)
    (λ q l m. ne_eqb (j * nx + i) q (λ e.
    let d : j ≡ j' = same_row nx j j' i (q - j' * nx) h (omega (arith, r.0, r.1)) (omega arith) in
    let z : j * nx ≡ j' * nx = ap (λ (y : ℕ). y * nx) d in
    f d (omega (arith, r.0, r.1))))

-- no span of a row below ny names a number from ny * nx on
pub span_beyond : (nx ny j k : ℕ) (p : Span) → InRow nx p → j < ny → ny * nx ≤ k → in_span (j * nx) p k ≡ false
span_beyond nx ny j k None r h l = refl
span_beyond nx ny j k (Some (a, b)) r h l =
    any_none (λ q. eqb k q) (j * nx + a) (j * nx + b + 1) (λ q u w. ne_eqb k q (λ e. let z : ⊥ = omega (arith, row_below j ny nx k h l, r.0, r.1) in z))

-- ---- which cells are changed. A changed cell x becomes v x

abbrev pub pick : (ℕ → ℕ) → Bool → ℕ → ℕ
pick v b x = cond b (v x) x

-- of the cells below n those of P, and no other
unfoldable pub Changes : (ℕ → ℕ) → ℕ → (ℕ → Bool) → List ℕ → List ℕ → Type 0
Changes v n P s t = (k : ℕ) → k < n → get_or t k 0 ≡ pick v (P k) (get_or s k 0)

module _ (v : ℕ → ℕ) (idem : (x : ℕ) → v (v x) ≡ v x) (n : ℕ) where
  pick_pick : (a b : Bool) (x : ℕ) → pick v b (pick v a x) ≡ pick v (a || b) x
  pick_pick true true x = idem x
  pick_pick true false x = refl
  pick_pick false true x = refl
  pick_pick false false x = refl

  pub changes_then : (P Q : ℕ → Bool) (s t u : List ℕ) → Changes v n P s t → Changes v n Q t u → Changes v n (λ k. P k || Q k) s u
  unfolding Changes
  changes_then P Q s t u f g k h = g k h ∙ ap (pick v (Q k)) (f k h) ∙ pick_pick (P k) (Q k) (get_or s k 0)

  -- turns on maps of which K holds
  module _ (K : List ℕ → Type 0) (f : ℕ → List ℕ → List ℕ) (keep : (i : ℕ) (s : List ℕ) → K s → K (f i s)) (P : ℕ → ℕ → Bool)
      (each : (i : ℕ) (s : List ℕ) → K s → Changes v n (P i) s (f i s)) where
    keeps : (a m : ℕ) (s : List ℕ) → K s → K (turns f a m s)
    unfolding turns
    keeps a zero s q = q
    keeps a (suc m) s q = keep (a + m) (turns f a m s) (keeps a m s q)

    changes_turns : (a m : ℕ) (s : List ℕ) → K s → Changes v n (λ k. turns (or_at (λ i. P i k)) a m false) s (turns f a m s)
    unfolding turns Changes
    changes_turns a zero s q k h = refl
    changes_turns a (suc m) s q k h =
        each (a + m) (turns f a m s) (keeps a m s q) k h ∙ ap (pick v (P (a + m) k)) (changes_turns a m s q k h)
        ∙ pick_pick (turns (or_at (λ i. P i k)) a m false) (P (a + m) k) (get_or s k 0)

    -- a loop changes what its turns change
    pub changes_loop : (a e : ℕ) (s : List ℕ) → K s → Changes v n (λ k. any (λ i. P i k) a e) s (loop f a e s)
    unfolding any loop
    changes_loop a e s q = changes_turns a (e - a) s q

  -- a span changes the cells that it names
  pub changes_span : (K : List ℕ → Type 0) (f : ℕ → List ℕ → List ℕ) → ((i : ℕ) (s : List ℕ) → K s → K (f i s))
      → ((i : ℕ) (s : List ℕ) → K s → Changes v n (λ k. eqb k i) s (f i s)) → (base : ℕ) (p : Span) (s : List ℕ) → K s → Changes v n (in_span base p) s (over_span f base p s)
  unfolding over_span Changes
  changes_span K f keep each base None s q k h = refl
  changes_span K f keep each base (Some (a, b)) s q k h = unfold Changes in (changes_loop K f keep (λ i k. eqb k i) each (base + a) (base + b + 1) s q k h)
