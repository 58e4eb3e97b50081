-- A field of a number, read byte by byte: the decimal that it is, or a line that cannot end well. Assumes nothing.
use mathlib.Core.Path.{◌≡◌, refl, sym, ap, ◌∙◌, subst}
use mathlib.Core.Bool.{Bool, true, false, not, ◌&&◌}
use mathlib.Core.List.{List, [], ◌∷◌}
use Prim.Native.Nat.{ℕ, ◌+◌, ◌*◌, ◌-◌, ◌%◌, ◌≤◌, ◌<◌}
use native.Mathlib.Omega.{arith}
use Rattle.std.specs.Prelude.{Option, Some, None}
use lib.Dec.{eqb, ltb, leb}
use borrow.Author.Tests.{leb-true, leb-false, eqb-true, eqb-false, not-true, lt-ltb, le-ltb, ne_eqb}
use Rattle.loops.specs.Each.{over, Each}
use Rattle.loops.proofs.Cases.{by_cases, both, never}
use Rattle.bench_lines.specs.Words.{step_of, numbered, later_digit, digit_of}
use Rattle.bench_lines.specs.Meaning.{is_digit, all_digits, is_decimal, value_from, value_of, is_quarters}
use Rattle.bench_lines.specs.declared.words.Words.{Words}
use Rattle.bench_lines.proofs.FieldLaws.{Plain, Failing, bad_stays}

-- behind the word
abbrev pub Numbers : Words → Type 0
Numbers w = eqb w.count 0 ≡ false

-- what becomes of a line by a test: the words u, or a bad line
pub record Read (t : Bool) (u : Words) (r : Option Words) : Type 0 where
  pub so : t ≡ true → r ≡ Some u
  pub not_so : t ≡ false → r ≡ None

digit_step : (c : ℕ) (w : Words) → Numbers w → eqb c 9 ≡ false → step_of c (Some w) ≡ digit_of c w
unfolding step_of
digit_step c w n t = rw (t, n)

-- ---- a byte that is no digit

no_digit : (c : ℕ) (w : Words) → Numbers w → eqb c 9 ≡ false → is_digit c ≡ false → step_of c (Some w) ≡ None
unfolding digit_of
no_digit c w n t h =
    digit_step c w n t
    ∙ by_cases (leb 48 c)
    (λ a. by_cases (leb c 57) (λ b. never (sym (rw (a, b) at h))) (λ b. rw (le-ltb c 48 (leb-true 48 c a), lt-ltb 57 c (leb-false c 57 b))))
    (λ a. rw (lt-ltb c 48 (leb-false 48 c a)))

-- ---- digits behind others

value_ge : (n : ℕ) (l : List ℕ) → n ≤ value_from n l
unfolding value_from
value_ge n [] = omega arith
value_ge n (c ∷ l) = let h = value_ge (n * 10 + (c - 48)) l in omega arith

later_digit_lem : (c n : ℕ) (w : Words) → Numbers w → eqb c 9 ≡ false → 48 ≤ c → c ≤ 57 → 1 ≤ n → n ≤ 1000 → n * 10 + (c - 48) ≤ 1000 → step_of c (Some (numbered n w)) ≡ Some (numbered (n * 10 + (c - 48)) w)
unfolding digit_of later_digit
later_digit_lem c n w k t a b p q m =
    let e : (c - 48) % 10 ≡ c - 48 = omega arith in
    digit_step c (numbered n w) k t
    ∙ rw (le-ltb c 48 a, le-ltb 57 c b, ne_eqb n 0 (λ z. let f : ⊥ = omega arith in f), le-ltb 1000 n q, e, le-ltb 1000 (n * 10 + (c - 48)) m)

large_digit : (c n : ℕ) (w : Words) → Numbers w → eqb c 9 ≡ false → 48 ≤ c → c ≤ 57 → 1000 < n * 10 + (c - 48) → n ≤ 1000 → step_of c (Some (numbered n w)) ≡ None
unfolding digit_of later_digit
large_digit c n w k t a b m q =
    let e : (c - 48) % 10 ≡ c - 48 = omega arith in
    digit_step c (numbered n w) k t
    ∙ rw (le-ltb c 48 a, le-ltb 57 c b, ne_eqb n 0 (λ z. let f : ⊥ = omega arith in f), le-ltb 1000 n q, e, lt-ltb 1000 (n * 10 + (c - 48)) m)

zero_digit : (c : ℕ) (w : Words) → Numbers w → eqb c 9 ≡ false → step_of c (Some (numbered 0 w)) ≡ None
unfolding digit_of later_digit
zero_digit c w k t =
    digit_step c (numbered 0 w) k t
    ∙ by_cases (ltb c 48) (λ a. rw a) (λ a. by_cases (ltb 57 c) (λ b. rw (a, b)) (λ b. rw (a, b)))

digits_read : (l : List ℕ) (n : ℕ) (w : Words) → Numbers w → Plain l → 1 ≤ n → n ≤ 1000
    → Read (all_digits l && leb (value_from n l) 1000) (numbered (value_from n l) w) (over step_of l (Some (numbered n w)))
unfolding Each over all_digits value_from
digits_read [] n w k p a b = record { so = λ t. refl; not_so = λ t. let z = leb-false n 1000 t in absurd (let f : ⊥ = omega arith in f) }
digits_read (c ∷ l) n w k p a b =
    by_cases (is_digit c)
    (λ d. let e = both (leb 48 c) (leb c 57) d in
    let low = leb-true 48 c e.0 in
    let high = leb-true c 57 e.1 in
    let m : ℕ = n * 10 + (c - 48) in
    by_cases (leb m 1000)
    (λ f. let small = leb-true m 1000 f in
    let r = digits_read l m w k p.1 (omega arith) small in
    let s = later_digit_lem c n w k p.0 low high a b small in
    record { so = λ t. ap (over step_of l) s ∙ r.so (rw d at t); not_so = λ t. subst (λ (u : Option Words). over step_of l u ≡ None) (sym s) (r.not_so (rw d at t)) })
    (λ f. let big = leb-false m 1000 f in
    let v = value_ge m l in
    record {
      so = λ t. let z = leb-true (value_from m l) 1000 (both (is_digit c && all_digits l) (leb (value_from m l) 1000) t).1 in absurd (let g : ⊥ = omega arith in g);
      not_so = λ t. bad_stays l _ (large_digit c n w k p.0 low high big b);
    }))
    (λ d. record { so = λ t. never (rw d at t); not_so = λ t. bad_stays l _ (no_digit c (numbered n w) k p.0 d) })

-- ---- a whole field

module _ (w : Words) (k : Numbers w) (e : w.empty ≡ true) where
  failed : (r : Option Words) → r ≡ None → Failing r
  failed r h = subst Failing (sym h) tt

  first_digit_lem : (c : ℕ) → eqb c 9 ≡ false → 48 ≤ c → c ≤ 57 → step_of c (Some w) ≡ Some (numbered (0 * 10 + (c - 48)) w)
  unfolding digit_of
  first_digit_lem c t a b = let z : 0 * 10 + (c - 48) ≡ c - 48 = omega arith in digit_step c w k t ∙ rw (le-ltb c 48 a, le-ltb 57 c b, e, z)

  -- a first digit, and whether others may follow it
  module _ (c : ℕ) (t : eqb c 9 ≡ false) (digit : is_digit c ≡ true) where
    low : 48 ≤ c
    low = leb-true 48 c (both (leb 48 c) (leb c 57) digit).0

    high : c ≤ 57
    high = leb-true c 57 (both (leb 48 c) (leb c 57) digit).1

    begun : step_of c (Some w) ≡ Some (numbered (0 * 10 + (c - 48)) w)
    begun = first_digit_lem c t low high

    others : (l : List ℕ) → Plain l → eqb c 48 ≡ false → Read (all_digits l && leb (value_from (0 * 10 + (c - 48)) l) 1000) (numbered (value_from (0 * 10 + (c - 48)) l) w) (over step_of l (step_of c (Some w)))
    others l p h =
        let some : 1 ≤ 0 * 10 + (c - 48) = above (eqb-false c 48 h) in
        let l₀ = low in
        let h₀ = high in
        rw begun (digits_read l (0 * 10 + (c - 48)) w k p some (omega arith))
      where
        above : (c ≡ 48 → ⊥) → 1 ≤ 0 * 10 + (c - 48)
        above n = let l₀ = low in by_cases (leb c 48) (λ b. absurd (n (let z = leb-true c 48 b in omega arith))) (λ b. let z = leb-false c 48 b in omega arith)

    zero : (d : ℕ) (l : List ℕ) → eqb d 9 ≡ false → eqb c 48 ≡ true → over step_of l (step_of d (step_of c (Some w))) ≡ None
    zero d l s h =
        let z : 0 * 10 + (c - 48) ≡ 0 = let y = eqb-true c 48 h in omega arith in
        bad_stays l _ (rw (begun, z) (zero_digit d w k s))

  pub field-so : (f : List ℕ) → Plain f → is_quarters f ≡ true → over step_of f (Some w) ≡ Some (numbered (value_of f) w)
  unfolding is_quarters is_decimal value_from over Each
  field-so [] p t = never t
  field-so (c ∷ []) p t = begun c p.0 (both (is_digit c) (leb (0 * 10 + (c - 48)) 1000) t).0
  field-so (c ∷ d ∷ l) p t =
      let v = leb (value_from (0 * 10 + (c - 48)) (d ∷ l)) 1000 in
      let q = both ((is_digit c && not (eqb c 48)) && all_digits (d ∷ l)) v t in
      let g = both (is_digit c && not (eqb c 48)) (all_digits (d ∷ l)) q.0 in
      let h = both (is_digit c) (not (eqb c 48)) g.0 in
      (others c p.0 h.0 (d ∷ l) p.1 (not-true (eqb c 48) h.1)).so (rw g.1 q.1)

  pub field_not : (f : List ℕ) → Plain f → is_quarters f ≡ false → Failing (over step_of f (Some w))
  unfolding is_quarters is_decimal value_from over Each
  field_not [] p t = e
  field_not (c ∷ []) p t =
      by_cases (is_digit c)
      (λ d. let z = leb-false (0 * 10 + (c - 48)) 1000 (rw d at t) in let l₀ = high c p.0 d in absurd (let f : ⊥ = omega arith in f))
      (λ d. failed (step_of c (Some w)) (no_digit c w k p.0 d))
  field_not (c ∷ d ∷ l) p t =
      by_cases (is_digit c)
      (λ g. by_cases (eqb c 48) (λ h. failed (over step_of (d ∷ l) (step_of c (Some w))) (zero c p.0 g d l p.1.0 h)) (λ h. failed (over step_of (d ∷ l) (step_of c (Some w))) ((others c p.0 g (d ∷ l) p.1 h).not_so (rw (g, h) at t))))
      (λ g. failed (over step_of (d ∷ l) (step_of c (Some w))) (bad_stays (d ∷ l) (step_of c (Some w)) (no_digit c w k p.0 g)))
