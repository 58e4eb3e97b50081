-- The squares of the numbers between two, and so the squared half-widths of a disk's row for all centres between two. Assumes nothing.
use mathlib.Core.Path.{◌≡◌, refl, sym, ◌∙◌, subst}
use mathlib.Core.Bool.{true, false, cond}
use Prim.Native.Nat.{ℕ, ◌+◌, ◌-◌, ◌≤◌}
use native.Mathlib.Omega.{arith}
use borrow.Author.Tests.{eqb-true, eqb-false}
use lib.Dec.{eqb}
use lib.IntN.{pos}
use lib.Ieee.{Float, fin, binary64, of_bits, neg, sub, mul, lt, le, is_nan}
use Rattle.loops.proofs.Cases.{by_cases, by_test, never}
use Rattle.floats.proofs.OrderLaws.{le_le, le_refl, le_numbers, lt_to_le, not_lt_le, not_le_lt}
use Rattle.floats.proofs.SignLaws.{zero_under}
use Rattle.floats.proofs.SwapLaws.{mul_swap}
use Rattle.floats.proofs.AddMono.{sub_anti}
use Rattle.floats.proofs.MulMono.{mul_mono, mul_anti}
use Rattle.floats.proofs.NumberLaws.{mul_number}
use Rattle.floats.proofs.SquareLaws.{square_unsigned}
use Rattle.numbers.specs.Order.{max_of, min_of, is_finite}
use Rattle.numbers.proofs.MaxLaws.{max_ge_left, max_ge_right}
use Rattle.geom.specs.Vec.{f0}
use Rattle.raster.specs.Disk.{row_y}
use Rattle.raster.specs.declared.grid.Grid.{Grid}
use Rattle.spans.specs.Ends.{below_of, beyond_of, Small, Big, High, HighTo, height_of, joined_of}
use Rattle.spans.specs.declared.heights.Heights.{Heights}
use Rattle.spans.proofs.MonoLaws.{finite_of, finite_number, between_finite, zero_number, sub_some}

abbrev square : Float → Float
square x = mul binary64 x x

zero_is : f0 ≡ fin false 0 (pos 0)
unfolding of_bits
zero_is = refl

product : (x y : Float) → is_finite x ≡ true → is_finite y ≡ true → is_nan (mul binary64 x y) ≡ false
product x y p q = mul_number binary64 x y (finite_of x p) (finite_of y q)

-- squares rise from 0 on, and fall up to 0
rise : (x y : Float) → is_finite x ≡ true → is_finite y ≡ true → le f0 x ≡ true → le x y ≡ true → le (square x) (square y) ≡ true
rise x y p q z h =
    le_le (square x) (mul binary64 y x) (square y)
    (mul_mono binary64 x y x (subst (λ (w : Float). le w x ≡ true) zero_is z) h (product x x p p) (product y x q p))
    (subst (λ (w : Float). le w (square y) ≡ true) (mul_swap binary64 x y)
    (mul_mono binary64 x y y (subst (λ (w : Float). le w y ≡ true) zero_is (le_le f0 x y z h)) h (product x y p q) (product y y q q)))

fall : (x y : Float) → is_finite x ≡ true → is_finite y ≡ true → le y f0 ≡ true → le x y ≡ true → le (square y) (square x) ≡ true
fall x y p q z h =
    le_le (square y) (mul binary64 x y) (square x)
    (mul_anti binary64 x y y (subst (λ (w : Float). le y w ≡ true) zero_is z) h (product x y p q) (product y y q q))
    (subst (λ (w : Float). le w (square x) ≡ true) (mul_swap binary64 y x)
    (mul_anti binary64 x y x (subst (λ (w : Float). le x w ≡ true) zero_is (le_le x y f0 h z)) h (product x x p p) (product y x q p)))

module _ (a b : Float) (p : is_finite a ≡ true) (q : is_finite b ≡ true) where
  inner : (d : Float) → le a d ≡ true → le d b ≡ true → is_finite d ≡ true
  inner d h k = between_finite a d b p q h k

  pub small-first : le f0 a ≡ true → Small a b (square a)
  small-first z = record { number = product a a p p; at = λ d h k. rise a d p (inner d h k) z h }

  pub small-last : le b f0 ≡ true → Small a b (square b)
  small-last z = record { number = product b b q q; at = λ d h k. fall d b (inner d h k) q z k }

  pub small-none : Small a b f0
  small-none = record {
    number = zero_number;
    at = λ d h k.
        subst (λ (w : Float). le w (square d) ≡ true) (sym zero_is) (zero_under false (pos 0) (square d) (square_unsigned binary64 d (product d d (inner d h k) (inner d h k))));
  }

  -- no square is above both of the ends'
  most : (x d : Float) → le (square a) x ≡ true → le (square b) x ≡ true → le a d ≡ true → le d b ≡ true → le (square d) x ≡ true
  most x d u v h k =
      let r = inner d h k in
      by_cases (le f0 d)
      (λ t. le_le (square d) (square b) x (rise d b r q t k) v)
      (λ t. le_le (square d) (square a) x (fall a d p r (lt_to_le d f0 (not_le_lt d f0 (finite_number d r) zero_number t)) h) u)

  pub big_last : le (square a) (square b) ≡ true → Big a b (square b)
  big_last l = record { number = product b b q q; at = λ d h k. most (square b) d l (le_refl (square b) (product b b q q)) h k }

  pub big_first : le (square a) (square b) ≡ false → Big a b (square a)
  big_first l = record {
    number = product a a p p;
    at = λ d h k. most (square a) d (le_refl (square a) (product a a p p)) (lt_to_le (square b) (square a) (not_le_lt (square b) (square a) (product b b q q) (product a a p p) l)) h k;
  }

-- ---- heights

pub high_is : (r2 y lo hi big small : Float) → is_finite r2 ≡ true → is_finite lo ≡ true → is_finite hi ≡ true → is_finite y ≡ true
    → Big (sub binary64 y hi) (sub binary64 y lo) big → Small (sub binary64 y hi) (sub binary64 y lo) small
    → High r2 y lo hi (record { least = sub binary64 r2 big; most = sub binary64 r2 small })
unfolding height_of
high_is r2 y lo hi big small R L H Y B S = record {
  least-number = sub_some r2 big R B.number;
  most-number = sub_some r2 small R S.number;
  at = λ cy h k.
      let C = between_finite lo cy hi L H h k in
      let n = sub_some y cy Y (finite_number cy C) in
      let d = sub binary64 y cy in
      let u : le (sub binary64 y hi) d ≡ true = sub_anti binary64 y cy hi k n (sub_some y hi Y (finite_number hi H)) in
      let v : le d (sub binary64 y lo) ≡ true = sub_anti binary64 y lo cy h (sub_some y lo Y (finite_number lo L)) n in
      let b = B.at d u v in
      let s = S.at d u v in
      let m = sub_some r2 (square d) R (le_numbers (square d) big b).0 in
      (sub_anti binary64 r2 (square d) big b m (sub_some r2 big R B.number), sub_anti binary64 r2 small (square d) s (sub_some r2 small R S.number) m);
}

module _ (a b : Float) (p : is_nan a ≡ false) (q : is_nan b ≡ false) where
  min_number : is_nan (min_of a b) ≡ false
  unfolding min_of
  min_number = by_test (λ (z : Float). is_nan z ≡ false) (lt b a) b (cond (is_nan a) b a) (λ t. q) (λ t. by_test (λ (z : Float). is_nan z ≡ false) (is_nan a) b a (λ u. q) (λ u. p))

  max_number : is_nan (max_of a b) ≡ false
  unfolding max_of
  max_number = by_test (λ (z : Float). is_nan z ≡ false) (lt a b) b (cond (is_nan a) b a) (λ t. q) (λ t. by_test (λ (z : Float). is_nan z ≡ false) (is_nan a) b a (λ u. q) (λ u. p))

  min_le_left : le (min_of a b) a ≡ true
  unfolding min_of
  min_le_left =
      by_test (λ (z : Float). le z a ≡ true) (lt b a) b (cond (is_nan a) b a) (λ t. lt_to_le b a t)
      (λ t. by_test (λ (z : Float). le z a ≡ true) (is_nan a) b a (λ u. never (sym p ∙ u)) (λ u. le_refl a p))

  min_le_right : le (min_of a b) b ≡ true
  unfolding min_of
  min_le_right =
      by_test (λ (z : Float). le z b ≡ true) (lt b a) b (cond (is_nan a) b a) (λ t. le_refl b q)
      (λ t. by_test (λ (z : Float). le z b ≡ true) (is_nan a) b a (λ u. le_refl b q) (λ u. not_lt_le a b p q t))

-- ---- over the rows

-- -1.0, below the heights of every row with a column
pub least_start : is_nan (neg (of_bits binary64 0x3ff0_0000_0000_0000)) ≡ false
unfolding neg of_bits is_nan
least_start = refl

module _ (g : Grid) (r2 : Float) (s q : ℕ) where
  pub high-none : (h : Heights) → is_nan h.least ≡ false → is_nan h.most ≡ false → HighTo g r2 s q s h
  high-none h a b = record { least-number = a; most-number = b; at = λ j cy u v. absurd (let z : ⊥ = omega arith in z) }

  high_more : (e : ℕ) (h k : Heights) → HighTo g r2 s q e h → High r2 (row_y g (e + q - s)) (below_of g.origin.y g.cell e) (beyond_of g.origin.y g.cell e) k → HighTo g r2 s q (e + 1) (joined_of h k)
  unfolding joined_of
  high_more e h k H K =
      let a = H.least-number in
      let b = K.least-number in
      let c = H.most-number in
      let d = K.most-number in
      let least = min_of h.least k.least in
      let most = max_of h.most k.most in
      record {
        least-number = min_number h.least k.least a b;
        most-number = max_number h.most k.most c d;
        at = λ j cy u v x y.
            by_cases (eqb j e)
            (λ t.
            let f : j ≡ e = eqb-true j e t in
            let o = K.at cy (subst (λ (n : ℕ). le (below_of g.origin.y g.cell n) cy ≡ true) f x) (subst (λ (n : ℕ). le cy (beyond_of g.origin.y g.cell n) ≡ true) f y) in
            subst (λ (n : ℕ). (le least (height_of r2 (row_y g (n + q - s)) cy) ≡ true) × (le (height_of r2 (row_y g (n + q - s)) cy) most ≡ true)) (sym f)
            (le_le least k.least _ (min_le_right h.least k.least a b) o.0, le_le _ k.most most o.1 (max_ge_right h.most k.most d)))
            (λ t.
            let f = eqb-false j e t in
            let o = H.at j cy u (omega arith) x y in
            (le_le least h.least _ (min_le_left h.least k.least a b) o.0, le_le _ h.most most o.1 (max_ge_left h.most k.most c)));
      }

  pub high-turn : (e : ℕ) (h k j : Heights) (y lo hi : Float) → j ≡ joined_of h k → y ≡ row_y g (e + q - s) → lo ≡ below_of g.origin.y g.cell e → hi ≡ beyond_of g.origin.y g.cell e
      → High r2 y lo hi k → HighTo g r2 s q e h → HighTo g r2 s q (e + 1) j
  unfolding joined_of
  high-turn e h k j y lo hi d a b c K H =
      let x : High r2 (row_y g (e + q - s)) (below_of g.origin.y g.cell e) (beyond_of g.origin.y g.cell e) k = rw (← a, ← b, ← c) K in
      subst (HighTo g r2 s q (e + 1)) (sym d) (high_more e h k H x)

  pub high_end : (e k : ℕ) (h : Heights) → e ≤ k → HighTo g r2 s q k h → HighTo g r2 s q e h
  high_end e k h l H = record { least-number = H.least-number; most-number = H.most-number; at = λ j cy u v x y. H.at j cy u (omega arith) x y }
