-- Places that others reach, from the left and from the right. Assumes nothing.
use mathlib.Core.Path.{◌≡◌, sym, ◌∙◌, ap, subst}
use mathlib.Core.Bool.{true≢false}
use mathlib.Core.List.{List}
use Prim.Native.Nat.{ℕ, ◌+◌, ◌-◌, ◌≤◌, ◌<◌, max}
use native.Mathlib.Omega.{arith}
use lib.ListN.{length, get_or, set}
use lib.Seq.{get_or-set_same, get_or-set_other}
use lib.Dec.{ltb, eqb}
use borrow.Author.Tests.{ltb-true, ltb-false}
use Rattle.loops.proofs.Cases.{by_cases}
use Rattle.dilation.specs.Parts.{Reach, Covers, CoversLeft, Covered, CoveredLeft, CoveredRight}

module _ (f : ℕ → ℕ) where
  pub reach-none : Reach f 0 0
  reach-none = record { all = λ k b. absurd (let z : ⊥ = omega arith in z); from = λ b. absurd (let z : ⊥ = omega arith in z) }

  pub reach_more : (t r v : ℕ) → Reach f t r → v ≡ max r (t + f t) → Reach f (t + 1) v
  reach_more t r v h e = record {
    all = λ k b. by_cases (ltb k t)
        (λ y. omega (arith, h.all k (ltb-true k t y)))
        (λ y. let z : t ≡ k = omega (arith, ltb-false k t y) in subst (λ (x : ℕ). x + f x ≤ v) z (omega arith));
    from = λ b. by_cases (ltb r (t + f t))
        (λ y. record { place = t; place_in = omega arith; is = omega (arith, ltb-true r (t + f t) y) })
        (λ y. let z = ltb-false r (t + f t) y in
        let q = h.from (omega arith) in
        record { place = q.place; place_in = omega (arith, q.place_in); is = omega (arith, q.is) });
  }

  module _ (n : ℕ) where
    -- ---- from the left

    module _ (i r : ℕ) (I : i < n) (R : Reach f (i + 1) r) where
      left-yes : i < r → CoversLeft f n i 1
      left-yes h = record {
        yes = λ _. let q = R.from (omega arith) in record { place = q.place; place_in = omega (arith, q.place_in); over = omega (arith, q.is, q.place_in) };
        no = λ e. absurd (true≢false e);
      }

      left-no : r ≤ i → CoversLeft f n i 0
      left-no h = record {
        yes = λ e. absurd (true≢false (sym e));
        no = λ _ k b. omega (arith, R.all k (omega arith));
      }

    pub lefts_none : (t : List ℕ) → CoveredLeft f n 0 t
    lefts_none t = record { at = λ i b. absurd (let z : ⊥ = omega arith in z) }

    lefts_more : (i v : ℕ) (t : List ℕ) → CoveredLeft f n i t → i < length t → CoversLeft f n i v → CoveredLeft f n (i + 1) (set t i v)
    lefts_more i v t h l w = record {
      at = λ k b. by_cases (ltb k i)
          (λ y. let z = ltb-true k i y in subst (CoversLeft f n k) (sym (get_or-set_other t i k v 0 (λ q. let x : ⊥ = omega arith in x))) (h.at k z))
          (λ y. let z : i ≡ k = omega (arith, ltb-false k i y) in subst (λ (x : ℕ). CoversLeft f n x (get_or (set t i v) x 0)) z (subst (CoversLeft f n i) (sym (get_or-set_same t i v 0 l)) w));
    }

    pub lefts_on : (i r : ℕ) (t : List ℕ) → CoveredLeft f n i t → i < length t → i < n → Reach f (i + 1) r → i < r → CoveredLeft f n (i + 1) (set t i 1)
    lefts_on i r t h l I R b = lefts_more i 1 t h l (left-yes i r I R b)

    pub lefts_off : (i r : ℕ) (t : List ℕ) → CoveredLeft f n i t → i < length t → i < n → Reach f (i + 1) r → r ≤ i → CoveredLeft f n (i + 1) (set t i 0)
    lefts_off i r t h l I R b = lefts_more i 0 t h l (left-no i r I R b)

    -- ---- from the right

    pub rights_none : (t : List ℕ) → CoveredLeft f n n t → CoveredRight f n 0 t
    rights_none t h = record { done = λ i b d. absurd (let z : ⊥ = omega arith in z); rest = λ i b. h.at i (omega arith) }

    pub rights_end : (k : ℕ) (t : List ℕ) → CoveredRight f n k t → n ≤ k → Covered f n t
    rights_end k t h e = record { at = λ i b. h.done i b (omega arith) }

module _ (f : ℕ → ℕ) (n t r i : ℕ) (T : t < n) (E : i ≡ n - 1 - t) (R : Reach (λ k. f (n - 1 - k)) (t + 1) r) where
  right-yes : t < r → Covers f n i 1
  right-yes h = record {
    yes = λ _.
        let q = R.from (omega arith) in
        record { place = n - 1 - q.place; place_in = omega arith; over = omega (arith, q.is, q.place_in) };
    no = λ e. absurd (true≢false e);
  }

  right-no : (b : ℕ) → r ≤ t → CoversLeft f n i b → Covers f n i b
  right-no b h w = record {
    yes = w.yes;
    no = λ e k d. by_cases (ltb i k)
        (λ y.
        let z = ltb-true i k y in
        let m : n - 1 - (n - 1 - k) ≡ k = omega arith in
        let a = R.all (n - 1 - k) (omega arith) in
        let c : n - 1 - k + f k ≤ r = subst (λ (x : ℕ). n - 1 - k + f x ≤ r) m a in
        omega arith)
        (λ y. w.no e k (ltb-false i k y));
  }

  pub rights_off : (l : List ℕ) → CoveredRight f n t l → r ≤ t → CoveredRight f n (t + 1) l
  rights_off l h b = record {
    done = λ k p q. by_cases (ltb i k)
        (λ y. let z = ltb-true i k y in h.done k p (omega arith))
        (λ y. let z : i ≡ k = omega (arith, ltb-false i k y) in subst (λ (x : ℕ). Covers f n x (get_or l x 0)) z (right-no (get_or l i 0) b (h.rest i (omega arith))));
    rest = λ k p. h.rest k (omega arith);
  }

  pub rights_on : (l : List ℕ) → CoveredRight f n t l → i < length l → t < r → CoveredRight f n (t + 1) (set l i 1)
  rights_on l h L b = record {
    done = λ k p q. by_cases (ltb i k)
        (λ y. let z = ltb-true i k y in subst (Covers f n k) (sym (get_or-set_other l i k 1 0 (λ e. let x : ⊥ = omega arith in x))) (h.done k p (omega arith)))
        (λ y. let z : i ≡ k = omega (arith, ltb-false i k y) in subst (λ (x : ℕ). Covers f n x (get_or (set l i 1) x 0)) z (subst (Covers f n i) (sym (get_or-set_same l i 1 0 L)) (right-yes b)));
    rest = λ k p. subst (CoversLeft f n k) (sym (get_or-set_other l i k 1 0 (λ e. let x : ⊥ = omega arith in x))) (h.rest k (omega arith));
  }

-- ---- no bound

-- no place reaches another, and no flag is set
pub covered_none : (f : ℕ → ℕ) (n : ℕ) (t : List ℕ) → ((k : ℕ) → k < n → f k ≡ 0) → ((k : ℕ) → k < n → get_or t k 0 ≡ 0) → Covered f n t
covered_none f n t z o = record {
  at = λ i b. record {
    yes = λ e. absurd (true≢false (sym e ∙ ap (λ (x : ℕ). eqb x 1) (o i b)));
    no = λ _ k d. omega (arith, z k d);
  };
}
