-- The root keeps the order, so a test of a root against r is a test of its argument: `root_below`, `root-at-most` by two neighbours whose roots r separates,
-- `root-whole-below`, `root-whole-at-most` by two whole numbers n and n + 1. Assumes nothing.
use Rattle.std.proofs.Common.{◌≡◌, ℕ, zero, suc, ◌+◌, ◌*◌, ◌/◌, ◌^◌, ◌<◌, ◌≤◌, Bool, true, false, cond, T, ltb, leb, ℤ, pos, sym, refl, ◌∙◌, subst, inl, inr, true≢false, le_trans, le_of_eq, mul-le-mul_right, zero-lt-suc, eq-or-lt_of_le, mul-pos, mul_right_comm, arith, lt→ltb, pow_pos, ltb-true, lt-ltb}
use lib.Ieee.{Float, nan, inf, fin, binary64, up, down, round, lt, eq, le, is_nan, fits, of_int, to_bits}
use lib.Ieee.Bits.{is_true}
use lib.Ieee.Fits.{up_pos, down_pos}
use lib.Ieee.Nearest.{div_mono}
use lib.Ieee.Order.{round_mono}
use lib.Ieee.Positive.{above_of_le}
use Rattle.loops.proofs.Cases.{by_cases, never}
use Rattle.floats.proofs.OrderLaws.{le_of, le_back, le_refl, le_lt, le_le, lt_le, le_numbers, lt_numbers, le_not_lt, lt_not_le, not_lt_le}
use Rattle.floats.proofs.SignLaws.{unsigned, number, zero_under, under_top, round_unsigned}
use Rattle.floats.proofs.NextLaws.{none_between}
use Rattle.floats.proofs.IndexLaws.{whole_mono}
use Rattle.floats.proofs.ThresholdLaws.{at-most-to, below-to}
use Rattle.numbers.specs.Root.{root_of_nat, sticky, root_of}
use Rattle.numbers.proofs.RootLaws.{root_is, sq_le_back}
use Rattle.numbers.proofs.WholeLaws.{nought}

-- ---- roots of whole numbers

root_nat_mono : (a b : ℕ) → a ≤ b → root_of_nat a ≤ root_of_nat b
root_nat_mono a b h =
    let k : root_of_nat a < root_of_nat b + 1 = sq_le_back (root_of_nat a) (root_of_nat b + 1) b (le_trans (root_is a).0 h) (root_is b).1 in
    omega arith

-- the mark that n is no square, with the root r as a variable
marks : (r s a b : ℕ) → r ≤ s → a ≤ b → 2 * r + cond (ltb (r * r) a) 1 0 ≤ 2 * s + cond (ltb (s * s) b) 1 0
marks r s a b h k = elim (eq-or-lt_of_le h) [
  | inl e ↦ subst (λ (z : ℕ). 2 * r + cond (ltb (r * r) a) 1 0 ≤ 2 * z + cond (ltb (z * z) b) 1 0) e (same (ltb (r * r) a) refl)
  | inr l ↦ less (ltb (r * r) a) (cond (ltb (s * s) b) 1 0) l
]
  where
    same : (t : Bool) → ltb (r * r) a ≡ t → 2 * r + cond t 1 0 ≤ 2 * r + cond (ltb (r * r) b) 1 0
    same true e = let g = ltb-true (r * r) a e in rw (lt-ltb (r * r) b (omega arith)) (omega arith)
    same false e = omega arith

    less : (t : Bool) (z : ℕ) → r < s → 2 * r + cond t 1 0 ≤ 2 * s + z
    less true z l = omega arith
    less false z l = omega arith

sticky_mono : (a b : ℕ) → a ≤ b → sticky a ≤ sticky b
unfolding sticky
sticky_mono a b h = marks (root_of_nat a) (root_of_nat b) a b (root_nat_mono a b h) h

-- ---- roots of floats

no_zero : (m : ℕ) (e : ℤ) → suc m * up e * 1 ≡ 0 → ⊥
no_zero m e h = let k : 0 < suc m * up e = mul-pos (zero-lt-suc m) (up_pos e) in omega arith

positive-under : (m : ℕ) (e : ℤ) (y : Float) → le (fin false (suc m) e) y ≡ true → T (lib.Ieee.Positive.above y)
positive-under m e y h = above_of_le (fin false (suc m) e) y (lt→ltb 0 (suc m) (zero-lt-suc m)) (subst T (sym h) tt)

rounded : (m : ℕ) (e : ℤ) (n : ℕ) (d : ℤ) → le (fin false (suc m) e) (fin false (suc n) d) ≡ true → le (root_of (fin false (suc m) e)) (root_of (fin false (suc n) d)) ≡ true
unfolding root_of le lt eq
rounded m e n d h =
    let x = suc m * up e in
    let y = suc n * up d in
    let k : x * down d ≤ y * down e = le_of false (x * down d) false (y * down e) h in
    let l : x * 2 ^ 2148 * down d ≤ y * 2 ^ 2148 * down e = le_trans (le_of_eq (mul_right_comm x (2 ^ 2148) (down d))) (le_trans (mul-le-mul_right (2 ^ 2148) k) (le_of_eq (mul_right_comm y (down e) (2 ^ 2148)))) in
    is_true _
    (round_mono binary64 (sticky (x * 2 ^ 2148 / down e)) (2 ^ 1075) (sticky (y * 2 ^ 2148 / down d)) (2 ^ 1075) (pow_pos 1075) (pow_pos 1075)
    (mul-le-mul_right (2 ^ 1075) (sticky_mono (x * 2 ^ 2148 / down e) (y * 2 ^ 2148 / down d) (div_mono (x * 2 ^ 2148) (down e) (y * 2 ^ 2148) (down d) (down_pos e) (down_pos d) l))))

-- the root of a number that is not below zero: a zero, or with the sign clear
root_unsigned : (m : ℕ) (e : ℤ) → T (unsigned (root_of (fin false (suc m) e)))
unfolding root_of
root_unsigned m e = round_unsigned binary64 (sticky (suc m * up e * 2 ^ 2148 / down e)) (2 ^ 1075)

ordered : (x y : Float) → le nought x ≡ true → le x y ≡ true → le nought y ≡ true → le (root_of x) (root_of y) ≡ true
unfolding root_of le lt eq
ordered nan y a h b = never h
ordered (inf true) y a h b = never a
ordered (inf false) nan a h b = never h
ordered (inf false) (inf true) a h b = never h
ordered (inf false) (inf false) a h b = refl
ordered (inf false) (fin t n d) a h b = never h
ordered (fin s m e) nan a h b = never b
ordered (fin s m e) (inf true) a h b = never b
ordered (fin s zero e) (inf false) a h b = refl
ordered (fin s zero e) (fin t zero d) a h b = h
ordered (fin s zero e) (fin true (suc n) d) a h b = absurd (no_zero n d (le_of false (0 * 1 * down d) true (suc n * up d * 1) b).1)
ordered (fin s zero e) (fin false (suc n) d) a h b = zero_under s e (root_of (fin false (suc n) d)) (root_unsigned n d)
ordered (fin true (suc m) e) (inf false) a h b = absurd (no_zero m e (le_of false (0 * 1 * down e) true (suc m * up e * 1) a).1)
ordered (fin true (suc m) e) (fin t n d) a h b = absurd (no_zero m e (le_of false (0 * 1 * down e) true (suc m * up e * 1) a).1)
ordered (fin false (suc m) e) (inf false) a h b = under_top (root_of (fin false (suc m) e)) (number (root_of (fin false (suc m) e)) (root_unsigned m e))
ordered (fin false (suc m) e) (fin true n d) a h b = absurd (positive-under m e (fin true n d) h)
ordered (fin false (suc m) e) (fin false zero d) a h b = absurd (positive-under m e (fin false zero d) h)
ordered (fin false (suc m) e) (fin false (suc n) d) a h b = rounded m e n d h

pub root_mono : (x y : Float) → le nought x ≡ true → le x y ≡ true → le (root_of x) (root_of y) ≡ true
root_mono x y a h = ordered x y a h (le_le nought x y a h)

-- what is not below zero has a root
pub root_defined : (x : Float) → le nought x ≡ true → is_nan (root_of x) ≡ false
root_defined x a = (le_numbers (root_of x) (root_of x) (root_mono x x a (le_refl x (le_numbers nought x a).1))).0

-- and what has a root is not below zero
pub root-number : (x : Float) → is_nan (root_of x) ≡ false → le nought x ≡ true
unfolding root_of is_nan le lt eq
root-number nan n = never (sym n)
root-number (inf true) n = never (sym n)
root-number (inf false) n = refl
root-number (fin false m e) n = zero_under false (pos 0) (fin false m e) tt
root-number (fin true zero e) n = le_back false (0 * 1 * down e) true (0 * up e * 1) (omega arith, omega arith)
root-number (fin true (suc m) e) n = never (sym n)

-- ---- a test of a root is a test of its argument

-- lo and hi with nothing between them
module _ (lo hi r x : Float) (X : le nought x ≡ true) (none : lt x hi ≡ true → le x lo ≡ true) where
  below_at : lt (root_of lo) r ≡ true → le r (root_of hi) ≡ true → lt (root_of x) r ≡ lt x hi
  below_at a b = by_cases (lt x hi) (λ e. le_lt (root_of x) (root_of lo) r (root_mono x lo X (none e)) a ∙ sym e) (λ e. le_not_lt r (root_of x) (le_le r (root_of hi) (root_of x) b (past e)) ∙ sym e)
    where
      H : le nought hi ≡ true
      H = root-number hi (le_numbers r (root_of hi) b).1

      past : lt x hi ≡ false → le (root_of hi) (root_of x) ≡ true
      past e = root_mono hi x H (not_lt_le hi x (le_numbers nought hi H).1 (le_numbers nought x X).1 e)

  at-most-at : le (root_of lo) r ≡ true → lt r (root_of hi) ≡ true → le (root_of x) r ≡ le x lo
  at-most-at a b =
      by_cases (le x lo) (λ e. le_le (root_of x) (root_of lo) r (root_mono x lo X e) a ∙ sym e)
      (λ e. lt_not_le r (root_of x) (lt_le r (root_of hi) (root_of x) b (past e)) ∙ sym e)
    where
      H : le nought hi ≡ true
      H = root-number hi (lt_numbers r (root_of hi) b).1

      past : le x lo ≡ false → le (root_of hi) (root_of x) ≡ true
      past e =
          root_mono hi x H (not_lt_le hi x (le_numbers nought hi H).1 (le_numbers nought x X).1
          (by_cases (lt x hi) (λ k. absurd (true≢false (sym (none k) ∙ e))) (λ k. k)))

module _ (lo hi r x : Float) (L : T (fits binary64 lo)) (H : T (fits binary64 hi)) (F : T (fits binary64 x)) (S : T (unsigned lo)) (N : to_bits binary64 hi ≡ to_bits binary64 lo + 1) (X : le nought x ≡ true) where
  pub root_below : lt (root_of lo) r ≡ true → le r (root_of hi) ≡ true → lt (root_of x) r ≡ lt x hi
  root_below = below_at lo hi r x X (none_between binary64 lo hi x L H F S N)

  pub root-at-most : le (root_of lo) r ≡ true → lt r (root_of hi) ≡ true → le (root_of x) r ≡ le x lo
  root-at-most = at-most-at lo hi r x X (none_between binary64 lo hi x L H F S N)

-- ---- roots of whole numbers, of any size

pub whole_above : (n : ℕ) → le nought (of_int binary64 (pos n)) ≡ true
unfolding of_int
whole_above n = zero_under false (pos 0) (round binary64 false n 1) (round_unsigned binary64 n 1)

abbrev pub root_at : ℕ → Float
root_at n = root_of (of_int binary64 (pos n))

pub root-whole_mono : (m n : ℕ) → m ≤ n → le (root_at m) (root_at n) ≡ true
root-whole_mono m n h = root_mono (of_int binary64 (pos m)) (of_int binary64 (pos n)) (whole_above m) (whole_mono binary64 m n h)

module _ (n k : ℕ) (r : Float) where
  pub root-whole-at-most : le (root_at n) r ≡ true → lt r (root_at (n + 1)) ≡ true → le (root_at k) r ≡ leb k n
  root-whole-at-most = at-most-to root_at root-whole_mono n k r

  pub root-whole-below : lt (root_at n) r ≡ true → le r (root_at (n + 1)) ≡ true → lt (root_at k) r ≡ leb k n
  root-whole-below = below-to root_at root-whole_mono n k r
