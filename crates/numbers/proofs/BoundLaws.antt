-- From two neighbouring floats whose roots r separates to the bound that decides. Assumes nothing.
use Rattle.std.proofs.Common.{Option, None, Some, ◌≡◌, ℕ, zero, suc, ◌+◌, ◌-◌, ◌*◌, ◌/◌, ◌%◌, ◌^◌, ◌<◌, ◌≤◌, Bool, true, false, cond, not, T, eqb, ltb, leb, sym, refl, ap, ◌∙◌, subst, arith, ltb-true, le-ltb, lt-ltb}
use lib.Ieee.{Float, nan, inf, fin, binary64, odd, of_fields, of_bits, to_bits, fits, mul, is_nan, lt, eq, le}
use lib.Ieee.Bits.{is_false, of_bits-fits, to_bits-of_bits, nan_bits_is}
use borrow.Author.Tests.{lt-leb}
use denote.Struct.Props.{props}
use Rattle.loops.proofs.Cases.{by_test, both}
use Rattle.floats.proofs.OrderLaws.{le_is, le_numbers}
use Rattle.floats.proofs.SignLaws.{unsigned}
use Rattle.numbers.specs.Root.{root_of}
use Rattle.numbers.specs.declared.bound.Bound.{Bound}
use Rattle.loops.specs.Loop.{Run, on, out, turn}
use Rattle.loops.proofs.LoopLaws.{Going, loop_keeps, going_out}
use Rattle.numbers.specs.Bound.{Square, Decides, Bounds, separated, look_at, looked, bound_from, bound_of}
use Rattle.numbers.proofs.WholeLaws.{nought}
use Rattle.numbers.proofs.RootLaws.{no_nan_bits}
use Rattle.numbers.proofs.RootMono.{root_below, root_defined}

-- ---- a pattern below the infinity's

odd_unsigned : (d q k l : ℕ) → T (unsigned (odd d false q k l))
unfolding odd
odd_unsigned d zero k l = tt
odd_unsigned d (suc q) k l = tt

fields_unsigned : (x t : ℕ) → T (not (is_nan (of_fields binary64 false x t))) → T (unsigned (of_fields binary64 false x t))
unfolding of_fields is_nan
fields_unsigned zero t h = odd_unsigned 53 t 0 1074
fields_unsigned (suc x) t h = go (eqb (suc x) 2047) (eqb t 0) h
  where
    go : (a b : Bool) → T (not (is_nan (cond a (cond b (inf false) nan) (odd 53 false (2 ^ 52 + t) x 1074)))) → T (unsigned (cond a (cond b (inf false) nan) (odd 53 false (2 ^ 52 + t) x 1074)))
    go true true h = tt
    go true false h = absurd h
    go false b h = odd_unsigned 53 (2 ^ 52 + t) x 1074

module _ (k : ℕ) (K : k < 2047 * 2 ^ 52) where
  pub bits_number : T (not (is_nan (of_bits binary64 k)))
  bits_number = subst (λ (b : Bool). T (not b)) (nan_bits_is binary64 k) (no_nan_bits k K)

  pub bits_back : to_bits binary64 (of_bits binary64 k) ≡ k
  bits_back = to_bits-of_bits binary64 k (omega arith) bits_number

  pub bits_unsigned : T (unsigned (of_bits binary64 k))
  unfolding of_bits
  bits_unsigned =
      let e : leb 9223372036854775808 k ≡ false = lt-leb 9223372036854775808 k (omega arith) in
      subst (λ (b : Bool). T (not (is_nan (of_fields binary64 b (k % 2 ^ 63 / 2 ^ 52) (k % 2 ^ 52)))) → T (unsigned (of_fields binary64 b (k % 2 ^ 63 / 2 ^ 52) (k % 2 ^ 52)))) (sym e)
      (fields_unsigned (k % 2 ^ 63 / 2 ^ 52) (k % 2 ^ 52)) bits_number

-- ---- the bound

module _ (k : ℕ) (r : Float) (K : k + 1 < 2047 * 2 ^ 52) (S : separated r k ≡ true) where
  sides : (lt (root_of (of_bits binary64 k)) r ≡ true) × (le r (root_of (of_bits binary64 (k + 1))) ≡ true)
  unfolding separated
  sides = both (lt (root_of (of_bits binary64 k)) r) (le r (root_of (of_bits binary64 (k + 1)))) S

  abbrev h : Float
  h = of_bits binary64 (k + 1)

  number_decided : (x : Float) → T (fits binary64 x) → le nought x ≡ true → lt (root_of x) r ≡ lt x h
  number_decided x f u =
      root_below (of_bits binary64 k) h r x (of_bits-fits binary64 k) (of_bits-fits binary64 (k + 1)) f (bits_unsigned k (omega arith))
      (bits_back (k + 1) K ∙ ap (λ (n : ℕ). n + 1) (sym (bits_back k (omega arith)))) u sides.0 sides.1

  decided : (x : Float) → T (fits binary64 x) → Square x → lt (root_of x) r ≡ lt x h
  unfolding root_of is_nan lt of_bits
  decided nan f s = refl
  decided (inf b) f s = number_decided (inf b) f (s.up refl)
  decided (fin b m e) f s = number_decided (fin b m e) f (s.up refl)

  pub decides : Decides r h
  decides = record { held = of_bits-fits binary64 (k + 1); numbers = ((le_numbers r _ sides.1).0, is_false _ (bits_number (k + 1) K)); is = decided }

pub bounds-some : (r h : Float) → Decides r h → Bounds r (Some h)
bounds-some r h d x e = let is : h ≡ x = cc in subst (λ (z : Float). Decides r z) is d

pub bounds-none : (r : Float) → Bounds r None
bounds-none r x e = absurd (let z : ⊥ = cc in z)

-- ---- the search

abbrev Sound : Float → Run (Option Float) (Option Float) → Type 0
Sound r (on b) = Bounds r b
Sound r (out b) = Bounds r b

module _ (r : Float) (k : ℕ) (K : k < 0x7fe0_0000_0000_0000) where
  sound_turn : (i : ℕ) (s : Run (Option Float) (Option Float)) → i < 8 → Sound r s → Sound r (turn (look_at r k) i s)
  unfolding turn look_at
  sound_turn i (on b) h S =
      by_test (Sound r) (separated r (k + i)) (out (Some (of_bits binary64 (k + i + 1)))) (on b) (λ t. bounds-some _ _ (decides (k + i) r (omega arith) t)) (λ t. S)
  sound_turn i (out b) h S = S

  sound_bounds : (s : Run (Option Float) (Option Float)) → Sound r s → Bounds r (looked s)
  unfolding looked
  sound_bounds (on b) S = S
  sound_bounds (out b) S = S

  -- what is found decides
  from-bounds : Bounds r (bound_from r k)
  unfolding bound_from
  from-bounds = sound_bounds _ (loop_keeps (turn (look_at r k)) 0 (Sound r) 8 (λ i s l h S. sound_turn i s h S) (on None) (bounds-none r))

  module _ (b : Option Float) (i : ℕ) (G : Going (turn (look_at r k)) 0 8 (on None) (on b) i) where
    pub found_at : i < 8 → separated r (k + i) ≡ true → Some (of_bits binary64 (k + i + 1)) ≡ bound_from r k
    unfolding bound_from looked look_at
    found_at h t = sym (ap looked (going_out (look_at r k) 0 8 (on None) b i (Some (of_bits binary64 (k + i + 1))) G h (rw t)))

pub bounds_of : (r : Float) → Bounds r (bound_of r)
unfolding bound_of
bounds_of r =
    let square = mul binary64 r r in
    let n = to_bits binary64 square in
    by_test (Bounds r) (lt (of_bits binary64 0) square) _ None
    (λ t. by_test (Bounds r) (ltb n 4) (bound_from r 0) _ (λ u. from-bounds r 0 (omega arith))
    (λ u. by_test (Bounds r) (ltb n 0x7fe0_0000_0000_0000) (bound_from r (n - 4)) None (λ v. from-bounds r (n - 4) (omega (arith, ltb-true n 0x7fe0_0000_0000_0000 v))) (λ v. bounds-none r)))
    (λ t. bounds-none r)

-- what each arm of the code answers
module _ (r : Float) (b : Option Float) where
  abbrev Answers : Type 0
  Answers = (b ≡ bound_of r) × Bounds r b

  answers : b ≡ bound_of r → Answers
  answers e = (e, subst (Bounds r) (sym e) (bounds_of r))

  module _ (k : ℕ) (K : k ≡ to_bits binary64 (mul binary64 r r)) (up : lt (of_bits binary64 0) (mul binary64 r r) ≡ true) where
    pub answers_least : k < 4 → b ≡ bound_from r 0 → Answers
    unfolding bound_of
    answers_least h e = answers (rw (up, ← K, lt-ltb k 4 h) e)

    pub answers_near : 4 ≤ k → k < 0x7fe0_0000_0000_0000 → b ≡ bound_from r (k - 4) → Answers
    unfolding bound_of
    answers_near h l e = answers (rw (up, ← K, le-ltb k 4 h, lt-ltb k 0x7fe0_0000_0000_0000 l) e)

    pub answers_huge : 4 ≤ k → 0x7fe0_0000_0000_0000 ≤ k → b ≡ None → Answers
    unfolding bound_of
    answers_huge h l e = answers (rw (up, ← K, le-ltb k 4 h, le-ltb k 0x7fe0_0000_0000_0000 l) e)

  pub answers_none : lt (of_bits binary64 0) (mul binary64 r r) ≡ false → b ≡ None → Answers
  unfolding bound_of
  answers_none h e = answers (rw h e)

no_nan_reached : (x : Float) → le x nan ≡ false
unfolding le lt eq
no_nan_reached nan = refl
no_nan_reached (inf b) = refl
no_nan_reached (fin b m e) = refl

-- what is not below h has a root of r or more; a NaN has none
module _ (r h : Float) (d : Decides r h) where
  number_reaches : (x : Float) → T (fits binary64 x) → Square x → is_nan x ≡ false → le r (root_of x) ≡ le h x
  unfolding of_bits
  number_reaches x f s n = le_is r (root_of x) d.numbers.0 (root_defined x (s.up n)) ∙ ap not (d.is x f s) ∙ sym (le_is h x d.numbers.1 n)

  pub reaches : (x : Float) → T (fits binary64 x) → Square x → le r (root_of x) ≡ le h x
  unfolding root_of is_nan
  reaches nan f s = no_nan_reached r ∙ sym (no_nan_reached h)
  reaches (inf b) f s = number_reaches (inf b) f s refl
  reaches (fin b m e) f s = number_reaches (fin b m e) f s refl

-- ---- a fact of bounds has one proof

decides_prop : (r a : Float) → IsProp (Decides r a)
decides_prop r a = hlevel props

bounds_prop : (r : Float) (b : Option Float) → IsProp (Bounds r b)
bounds_prop r b = hlevel (props, decides_prop)

-- two bounds of one number that were found alike are one
pub bound_is : (b c : Bound) → b.r ≡ c.r → b.below ≡ c.below → b ≡ c
bound_is b c e f = go b.r c.r b.below c.below b.bounds c.bounds e f
  where
    made : (r : Float) (x : Option Float) → Bounds r x → Bound
    made r x p = record { r = r; below = x; bounds = p }

    go : (r s : Float) (x y : Option Float) (p : Bounds r x) (q : Bounds s y) → r ≡ s → x ≡ y → made r x p ≡ made s y q
    go r s x y p q e f =
        subst (λ (z : Float). (q : Bounds z y) → made r x p ≡ made z y q) e
        (subst (λ (z : Option Float). (q : Bounds r z) → made r x p ≡ made r z q) f (λ q. ap (made r x) (bounds_prop r x p q))) q
