-- An edge whose ends lie r or more beyond a box, on one side of it, passes within r of none of its points: the point of the edge that is asked about lies
-- between the ends, and differences, squares, sums and roots rise. Assumes nothing.
use mathlib.Core.Path.{◌≡◌, refl, sym, ap, ◌∙◌, subst}
use mathlib.Core.Bool.{Bool, true, false, ◌||◌, cond}
use mathlib.Core.List.{List}
use Prim.Native.Nat.{ℕ, zero, suc, ◌+◌, ◌≤◌}
use native.Mathlib.Omega.{arith}
use lib.IntN.{pos}
use lib.Ieee.{Float, nan, inf, fin, binary64, of_bits, add, sub, mul, neg, lt, le, eq, is_nan}
use Rattle.loops.specs.Loop.{or_at, any}
use Rattle.loops.proofs.Cases.{by_cases, by_test, never, both, either}
use Rattle.loops.proofs.LoopLaws.{loop-none, loop_more}
use Rattle.floats.proofs.OrderLaws.{le_le, lt_le, le_refl, le_numbers, lt_to_le, le_not_lt, not_lt_le}
use Rattle.floats.proofs.SignLaws.{zero_under, zero_not_over, neg_le, neg_neg}
use Rattle.floats.proofs.SwapLaws.{add_swap, mul_swap}
use Rattle.floats.proofs.AddMono.{add_mono, add_mono_right, sub_mono, sub_anti}
use Rattle.floats.proofs.MulMono.{mul_mono, mul_anti, mul_neg}
use Rattle.floats.proofs.NumberLaws.{add_number, scale_number}
use Rattle.floats.proofs.NanLaws.{add_numbers, sub_numbers, square-number}
use Rattle.floats.proofs.SquareLaws.{square_unsigned}
use Rattle.numbers.specs.Root.{root_of}
use Rattle.numbers.specs.Order.{clamp_of}
use Rattle.numbers.specs.Small.{f1}
use Rattle.numbers.proofs.RootMono.{root_mono, root-number}
use Rattle.geom.specs.Vec.{f0, sum, difference, scaled, dot_of, square_of, lerp_of}
use Rattle.geom.specs.Region.{vertex_of, after, size_of, start_of}
use Rattle.geom.specs.Segment.{tiny, along, seg_square, seg_distance, edge_within, loop_within, within}
use Rattle.geom.specs.Apart.{Holds, Apart, Rooted, beyond_of}
use Rattle.geom.specs.declared.vec2.Vec2.{Vec2}
use Rattle.geom.specs.declared.region.Region.{Region}
use Rattle.geom.specs.declared.region.Corners.{Corners}

-- ---- how far along: from 0 to 1

zero_number : is_nan f0 ≡ false
unfolding of_bits is_nan
zero_number = refl

one_number : is_nan f1 ≡ false
unfolding of_bits is_nan
one_number = refl

abbrev InUnit : Float → Type 0
InUnit t = is_nan t ≡ false → (le f0 t ≡ true) × (le t f1 ≡ true)

zero_in : InUnit f0
unfolding of_bits le lt eq
zero_in h = (refl, refl)

one_in : InUnit f1
unfolding of_bits le lt eq
one_in h = (refl, refl)

clamp_in : (x : Float) → InUnit (clamp_of x f0 f1)
unfolding clamp_of
clamp_in x =
    by_test (λ (y : Float). InUnit (cond (lt f1 y) f1 y)) (lt x f0) f0 x (λ e. by_test InUnit (lt f1 f0) f1 f0 (λ k. one_in) (λ k. zero_in))
    (λ e. by_test InUnit (lt f1 x) f1 x (λ k. one_in) (λ k n. (not_lt_le f0 x zero_number n e, not_lt_le x f1 n one_number k)))

along_in : (p a ab : Vec2) → InUnit (along p a ab)
unfolding along
along_in p a ab = by_test InUnit (lt (dot_of ab ab) tiny) f0 _ (λ e. zero_in) (λ e. clamp_in _)

-- ---- the point there lies between the ends

mul_from : (x y : Float) → is_nan (mul binary64 x y) ≡ false → is_nan x ≡ false
unfolding mul is_nan
mul_from nan y h = h
mul_from (inf s) y h = refl
mul_from (fin s m e) y h = refl

module _ (a ab : Float) where
  -- where it is along one axis
  abbrev place : Float → Float
  place t = add binary64 a (mul binary64 ab t)

  module _ (s t : Float) (h : le s t ≡ true) (S : is_nan (place s) ≡ false) (U : is_nan (place t) ≡ false) where
    product : (t : Float) → is_nan (place t) ≡ false → is_nan (mul binary64 t ab) ≡ false
    product t n = ap is_nan (mul_swap binary64 t ab) ∙ (add_numbers binary64 a (mul binary64 ab t) n).1

    rises : le f0 ab ≡ true → le (place s) (place t) ≡ true
    unfolding of_bits
    rises u = add_mono_right binary64 a (mul binary64 ab s) (mul binary64 ab t) (rw (mul_swap binary64 ab s, mul_swap binary64 ab t) (mul_mono binary64 s t ab u h (product s S) (product t U))) S U

    falls : le ab f0 ≡ true → le (place t) (place s) ≡ true
    unfolding of_bits
    falls u = add_mono_right binary64 a (mul binary64 ab t) (mul binary64 ab s) (rw (mul_swap binary64 ab s, mul_swap binary64 ab t) (mul_anti binary64 s t ab u h (product s S) (product t U))) U S

-- ---- differences

-- z less p is a number: two infinities of one sign do not meet
above-number : (z p hi r : Float) → le f0 r ≡ true → le p hi ≡ true → le r (sub binary64 z hi) ≡ true → is_nan (sub binary64 z p) ≡ false
unfolding sub add neg is_nan le lt eq of_bits
above-number nan p hi r R h k = never (sym (le_numbers r nan k).1)
above-number (inf true) p nan r R h k = never (sym (le_numbers r nan k).1)
above-number (inf true) p (inf true) r R h k = never (sym (le_numbers r nan k).1)
above-number (inf true) p (inf false) r R h k = never (le_le f0 r (inf true) R k)
above-number (inf true) p (fin t n d) r R h k = never (le_le f0 r (inf true) R k)
above-number (inf false) nan hi r R h k = never h
above-number (inf false) (inf true) hi r R h k = refl
above-number (inf false) (inf false) nan r R h k = never h
above-number (inf false) (inf false) (inf true) r R h k = never h
above-number (inf false) (inf false) (inf false) r R h k = never (sym (le_numbers r nan k).1)
above-number (inf false) (inf false) (fin t n d) r R h k = never h
above-number (inf false) (fin s m e) hi r R h k = refl
above-number (fin u l c) nan hi r R h k = never h
above-number (fin u l c) (inf s) hi r R h k = refl
above-number (fin u l c) (fin s m e) hi r R h k = add_number binary64 (fin u l c) (neg (fin s m e)) tt tt

below-number : (z p lo r : Float) → le f0 r ≡ true → le lo p ≡ true → le (sub binary64 z lo) (neg r) ≡ true → is_nan (sub binary64 z p) ≡ false
unfolding sub add neg is_nan le lt eq of_bits
below-number nan p lo r R h k = never (sym (le_numbers nan (neg r) k).0)
below-number (inf false) p nan r R h k = never (sym (le_numbers nan (neg r) k).0)
below-number (inf false) p (inf false) r R h k = never (sym (le_numbers nan (neg r) k).0)
below-number (inf false) p (inf true) r R h k = never (le_le (inf false) (neg r) (neg f0) k (neg_le f0 r R))
below-number (inf false) p (fin t n d) r R h k = never (le_le (inf false) (neg r) (neg f0) k (neg_le f0 r R))
below-number (inf true) nan lo r R h k = never (sym (le_numbers lo nan h).1)
below-number (inf true) (inf false) lo r R h k = refl
below-number (inf true) (inf true) nan r R h k = never h
below-number (inf true) (inf true) (inf false) r R h k = never h
below-number (inf true) (inf true) (inf true) r R h k = never (sym (le_numbers nan (neg r) k).0)
below-number (inf true) (inf true) (fin t n d) r R h k = never h
below-number (inf true) (fin s m e) lo r R h k = refl
below-number (fin u l c) nan lo r R h k = never (sym (le_numbers lo nan h).1)
below-number (fin u l c) (inf s) lo r R h k = refl
below-number (fin u l c) (fin s m e) lo r R h k = add_number binary64 (fin u l c) (neg (fin s m e)) tt tt

-- ---- squares

-- a number above 0 and one not below it
product_number : (r d : Float) → lt f0 r ≡ true → le r d ≡ true → is_nan (mul binary64 d r) ≡ false
unfolding mul is_nan lt le eq of_bits
product_number nan d R h = never R
product_number (inf true) d R h = never R
product_number (inf false) nan R h = never h
product_number (inf false) (inf s) R h = refl
product_number (inf false) (fin s m e) R h = never h
product_number (fin t zero k) d R h = absurd (zero_not_over t k f0 tt R)
product_number (fin t (suc n) k) d R h = scale_number binary64 d (fin t (suc n) k) (le_numbers (fin t (suc n) k) d h).1 tt tt

square_rises : (r d : Float) → lt f0 r ≡ true → le r d ≡ true → le (mul binary64 r r) (mul binary64 d d) ≡ true
unfolding of_bits
square_rises r d R h =
    let u = lt_to_le f0 r R in
    let v = le_le f0 r d u h in
    let w = product_number r d R h in
    le_le (mul binary64 r r) (mul binary64 d r) (mul binary64 d d) (mul_mono binary64 r d r u h (product_number r r R (le_refl r (le_numbers r d h).0)) w)
    (rw (mul_swap binary64 d r) (mul_mono binary64 r d d v h (ap is_nan (mul_swap binary64 r d) ∙ w) (product_number d d (lt_le f0 r d R h) (le_refl d (le_numbers r d h).1))))

square_neg : (d : Float) → mul binary64 (neg d) (neg d) ≡ mul binary64 d d
square_neg d = mul_neg binary64 (neg d) d ∙ ap neg (mul_swap binary64 (neg d) d ∙ mul_neg binary64 d d) ∙ neg_neg (mul binary64 d d)

square_falls : (r d : Float) → lt f0 r ≡ true → le d (neg r) ≡ true → le (mul binary64 r r) (mul binary64 d d) ≡ true
square_falls r d R h = rw (← square_neg d) (square_rises r (neg d) R (subst (λ (z : Float). le z (neg d) ≡ true) (neg_neg r) (neg_le d (neg r) h)))

-- ---- along one axis

module _ (a ab t p lo hi r : Float) (I : InUnit t) (L : le lo p ≡ true) (H : le p hi ≡ true) (R : lt f0 r ≡ true) (N : is_nan (sub binary64 (place a ab t) p) ≡ false) where
  abbrev q : Float
  q = place a ab t

  abbrev d : Float
  d = sub binary64 q p

  Q : is_nan q ≡ false
  Q = (sub_numbers binary64 q p N).0

  S : is_nan (mul binary64 ab t) ≡ false
  S = (add_numbers binary64 a (mul binary64 ab t) Q).1

  unit : (le f0 t ≡ true) × (le t f1 ≡ true)
  unit = I (mul_from t ab (ap is_nan (mul_swap binary64 t ab) ∙ S))

  over : (z : Float) → le z q ≡ true → le r (sub binary64 z hi) ≡ true → le (mul binary64 r r) (mul binary64 d d) ≡ true
  over z h k =
      let n = above-number z p hi r (lt_to_le f0 r R) H k in
      square_rises r d R
      (le_le r (sub binary64 z p) d (le_le r (sub binary64 z hi) (sub binary64 z p) k (sub_anti binary64 z p hi H n (le_numbers r (sub binary64 z hi) k).1)) (sub_mono binary64 z q p h n N))

  under : (z : Float) → le q z ≡ true → le (sub binary64 z lo) (neg r) ≡ true → le (mul binary64 r r) (mul binary64 d d) ≡ true
  under z h k =
      let n = below-number z p lo r (lt_to_le f0 r R) L k in
      square_falls r d R
      (le_le d (sub binary64 z p) (neg r) (sub_mono binary64 q z p h N n) (le_le (sub binary64 z p) (sub binary64 z lo) (neg r) (sub_anti binary64 z lo p L (le_numbers (sub binary64 z lo) (neg r) k).0 n) k))

  from-above : (x y : Float) → le r (sub binary64 x y) ≡ true → is_nan x ≡ false
  from-above x y k = (sub_numbers binary64 x y (le_numbers r (sub binary64 x y) k).1).0

  from-below : (x y : Float) → le (sub binary64 x y) (neg r) ≡ true → is_nan x ≡ false
  from-below x y k = (sub_numbers binary64 x y (le_numbers (sub binary64 x y) (neg r) k).0).0

  beyond : beyond_of (place a ab f0) (place a ab f1) lo hi r ≡ true → le (mul binary64 r r) (mul binary64 d d) ≡ true
  unfolding beyond_of
  beyond w =
      let s = place a ab f0 in
      let e = place a ab f1 in
      let back : lt f0 ab ≡ false → le ab f0 ≡ true = λ k. not_lt_le ab f0 (mul_from ab t S) zero_number k in
      either _ _ w
      (λ u.
      let v = both _ _ u in
      by_cases (lt f0 ab) (λ k. over s (rises a ab f0 t unit.0 (from-above s hi v.0) Q (lt_to_le f0 ab k)) v.0)
      (λ k. over e (falls a ab t f1 unit.1 Q (from-above e hi v.1) (back k)) v.1))
      (λ u.
      let v = both _ _ u in
      by_cases (lt f0 ab) (λ k. under e (rises a ab t f1 unit.1 Q (from-below e lo v.1) (lt_to_le f0 ab k)) v.1)
      (λ k. under s (falls a ab f0 t unit.0 (from-below s lo v.0) Q (back k)) v.0))

-- ---- the distance

root_nan : (x r : Float) → is_nan x ≡ true → lt (root_of x) r ≡ false
unfolding root_of is_nan lt
root_nan nan r h = refl
root_nan (inf s) r h = never h
root_nan (fin s m e) r h = never h

add-zero : (x : Float) → is_nan x ≡ false → is_nan (add binary64 x f0) ≡ false
unfolding add is_nan of_bits
add-zero nan h = h
add-zero (inf s) h = refl
add-zero (fin s m e) h = add_number binary64 (fin s m e) (fin false 0 (pos 0)) tt tt

-- a sum of squares one of which is not below that of r
module _ (r : Float) (R : Rooted r) (x y : Float) (h : le (mul binary64 r r) x ≡ true) where
  abbrev v : Float
  v = mul binary64 y y

  abbrev least : Float
  least = add binary64 (mul binary64 r r) f0

  sum-far : is_nan (add binary64 x v) ≡ false → lt (root_of (add binary64 x v)) r ≡ false
  unfolding of_bits
  sum-far n =
      let up : le f0 least ≡ true = root-number least (le_numbers r (root_of least) R.root).1 in
      let z = add-zero x (le_numbers (mul binary64 r r) x h).1 in
      let w = square_unsigned binary64 y (add_numbers binary64 x v n).1 in
      let k : le least (add binary64 x v) ≡ true =
      le_le least (add binary64 x f0) (add binary64 x v) (add_mono binary64 (mul binary64 r r) x f0 h (le_numbers f0 least up).1 z) (add_mono_right binary64 x f0 v (zero_under false (pos 0) v w) z n) in
      le_not_lt r (root_of (add binary64 x v)) (le_le r (root_of least) (root_of (add binary64 x v)) R.root (root_mono least (add binary64 x v) up k))

module _ (c : Corners) (r : Float) (R : Rooted r) (p a b : Vec2) (H : Holds c p) where
  abbrev t : Float
  t = along p a (difference b a)

  abbrev dx : Float
  dx = sub binary64 (place a.x (sub binary64 b.x a.x) t) p.x

  abbrev dy : Float
  dy = sub binary64 (place a.y (sub binary64 b.y a.y) t) p.y

  abbrev square : Float
  square = add binary64 (mul binary64 dx dx) (mul binary64 dy dy)

  abbrev aside_x : Bool
  aside_x = beyond_of (lerp_of a b f0).x (lerp_of a b f1).x c.lo.x c.hi.x r

  abbrev aside_y : Bool
  aside_y = beyond_of (lerp_of a b f0).y (lerp_of a b f1).y c.lo.y c.hi.y r

  far-x : aside_x ≡ true → is_nan square ≡ false → lt (root_of square) r ≡ false
  unfolding lerp_of difference
  far-x w n =
      let m = square-number binary64 dx (add_numbers binary64 (mul binary64 dx dx) (mul binary64 dy dy) n).0 in
      sum-far r R (mul binary64 dx dx) dy
      (beyond a.x (sub binary64 b.x a.x) t p.x c.lo.x c.hi.x r (along_in p a (difference b a)) H.left H.right R.positive m w) n

  far-y : aside_y ≡ true → is_nan square ≡ false → lt (root_of square) r ≡ false
  unfolding lerp_of difference
  far-y w n =
      let e = add_swap binary64 (mul binary64 dx dx) (mul binary64 dy dy) in
      let m = square-number binary64 dy (add_numbers binary64 (mul binary64 dx dx) (mul binary64 dy dy) n).1 in
      rw e
      (sum-far r R (mul binary64 dy dy) dx
      (beyond a.y (sub binary64 b.y a.y) t p.y c.lo.y c.hi.y r (along_in p a (difference b a)) H.below H.above R.positive m w)
      (ap is_nan (sym e) ∙ n))

  far : aside_x || aside_y ≡ true → lt (seg_distance p a b) r ≡ false
  unfolding seg_distance seg_square square_of sum scaled difference
  far w = by_cases (is_nan (seg_square p a b)) (λ e. root_nan (seg_square p a b) r e) (λ e. either _ _ w (λ u. far-x u e) (λ u. far-y u e))

-- ---- for the proofs of the code

pub edge-apart : (vs : List Float) (at n : ℕ) (r : Float) (i k : ℕ) (c : Corners) (a b s e : Vec2) (u v : Bool) → Rooted r → a ≡ vertex_of vs (at + i) → k ≡ after n i → b ≡ vertex_of vs (at + k) → s ≡ lerp_of a b f0 → e ≡ lerp_of a b f1
    → u ≡ beyond_of s.x e.x c.lo.x c.hi.x r → v ≡ beyond_of s.y e.y c.lo.y c.hi.y r → u || v ≡ true → Apart c (λ p. edge_within vs at n p r i)
unfolding edge_within
edge-apart vs at n r i k c a b s e u v R A K B S E X Y w = record {
  none = λ p H. rw (← A, ← K, ← B) (far c r R p a b H (rw (← S, ← E, ← X, ← Y) w));
}

-- a loop by its number
pub loop-apart : (vs : List Float) (lens : List ℕ) (g : Region) (c : Corners) (r : Float) (l at n : ℕ) → at ≡ start_of lens g l → n ≡ size_of lens g l → Apart c (λ p. loop_within vs at n p r) → Apart c (λ p. within vs lens g p r l)
unfolding within
loop-apart vs lens g c r l at n S N A = rw (← S, ← N) A

module _ (c : Corners) (f : Vec2 → ℕ → Bool) where
  pub apart_none : Apart c (λ p. any (f p) 0 0)
  unfolding any
  apart_none = record { none = λ p H. sym (loop-none (or_at (f p)) 0 false) }

  pub apart_more : (i : ℕ) → Apart c (λ p. any (f p) 0 i) → Apart c (λ p. f p i) → Apart c (λ p. any (f p) 0 (i + 1))
  unfolding any
  apart_more i A B = record { none = λ p H. sym (loop_more (or_at (f p)) 0 i false (omega arith)) ∙ rw (A.none p H) (B.none p H) }

  pub apart-end : (n i : ℕ) → i ≤ n → n ≤ i → Apart c (λ p. any (f p) 0 i) → Apart c (λ p. any (f p) 0 n)
  apart-end n i l k A = subst (λ (m : ℕ). Apart c (λ p. any (f p) 0 m)) (let z : i ≡ n = omega arith in z) A
