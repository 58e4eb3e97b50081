-- A sum grows with each operand, and a difference with the first and against the second: for all floats, infinities and overflow included, as far as the results are no NaN.
-- Assumes nothing.
use mathlib.Core.Path.{◌≡◌, refl, sym, ap, subst}
use mathlib.Core.Logic.{inl, inr}
use mathlib.Core.Bool.{Bool, true, false, cond}
use Prim.Native.Nat.{ℕ, ◌+◌, ◌-◌, ◌*◌, ◌≤◌}
use native.Mathlib.Nat.{zero-mul, mul-le-mul_right, mul-pos}
use native.Mathlib.Omega.{arith}
use lib.IntN.{ℤ}
use lib.Dec.{ltb}
use lib.Ieee.{Float, nan, inf, fin, Format, up, down, round, sum, add, sub, neg, lt, eq, le, is_nan}
use lib.Ieee.Fits.{down_pos}
use borrow.Author.Tests.{ltb-true, ltb-false}
use Rattle.loops.proofs.Cases.{by_test, never}
use Rattle.floats.proofs.OrderLaws.{Le, le_of, le_refl}
use Rattle.floats.proofs.SignLaws.{no_nan, under_top, over_bottom, neg_le}
use Rattle.floats.proofs.SwapLaws.{add_swap}
use Rattle.floats.proofs.RoundMono.{Rounds, rounds_le}

-- ---- a sum of ±a / c and ±b / c, as a difference

abbrev plus : Bool → ℕ → ℕ
plus s a = cond s 0 a

abbrev less : Bool → ℕ → ℕ
less s a = cond s a 0

module _ (f : Format) (a b c : ℕ) where
  at-round : (s : Bool) (x y : ℕ) → x ≡ y → round f s x c ≡ round f s y c
  at-round s x y e = ap (λ (z : ℕ). round f s z c) e

  sum_rounds : (s t : Bool) → Rounds f (sum f s a t b c) (plus s a + plus t b) (less s a + less t b) c
  unfolding sum
  sum_rounds false false = inl (omega arith, at-round false (a + b) (a + b - (0 + 0)) (omega arith))
  sum_rounds true true = inr (omega arith, at-round true (a + b) (a + b - (0 + 0)) (omega arith))
  sum_rounds false true =
      by_test (λ (z : Float). Rounds f z (a + 0) (0 + b) c) (ltb a b) (round f true (b - a) c) (round f false (a - b) c)
      (λ e. let h = ltb-true a b e in inr (omega arith, at-round true (b - a) (0 + b - (a + 0)) (omega arith)))
      (λ e. let h = ltb-false a b e in inl (omega arith, at-round false (a - b) (a + 0 - (0 + b)) (omega arith)))
  sum_rounds true false =
      by_test (λ (z : Float). Rounds f z (0 + b) (a + 0) c) (ltb a b) (round f false (b - a) c) (round f (ltb b a) (a - b) c)
      (λ e. let h = ltb-true a b e in inl (omega arith, at-round false (b - a) (0 + b - (a + 0)) (omega arith)))
      (λ e. let h = ltb-false a b e in go h (ltb b a) refl)
    where
      go : b ≤ a → (t : Bool) → ltb b a ≡ t → Rounds f (round f t (a - b) c) (0 + b) (a + 0) c
      go h true e = inr (omega arith, at-round true (a - b) (a + 0 - (0 + b)) (omega arith))
      go h false e = let k = ltb-false b a e in inl (omega arith, at-round false (a - b) (0 + b - (a + 0)) (omega arith))

plus_mul : (s : Bool) (a k : ℕ) → plus s (a * k) ≡ plus s a * k
plus_mul true a k = sym (zero-mul k)
plus_mul false a k = refl

less_mul : (s : Bool) (a k : ℕ) → less s (a * k) ≡ less s a * k
less_mul true a k = refl
less_mul false a k = sym (zero-mul k)

add_rounds : (f : Format) (s : Bool) (m : ℕ) (e : ℤ) (t : Bool) (n : ℕ) (d : ℤ)
    → Rounds f (add f (fin s m e) (fin t n d)) (plus s (m * up e) * down d + plus t (n * up d) * down e) (less s (m * up e) * down d + less t (n * up d) * down e) (down e * down d)
unfolding add
add_rounds f s m e t n d =
    subst (λ (z : ℕ). Rounds f (add f (fin s m e) (fin t n d)) z (less s (m * up e) * down d + less t (n * up d) * down e) (down e * down d))
    (λ i. plus_mul s (m * up e) (down d) i + plus_mul t (n * up d) (down e) i)
    (subst (λ (z : ℕ). Rounds f (add f (fin s m e) (fin t n d)) (plus s (m * up e * down d) + plus t (n * up d * down e)) z (down e * down d))
    (λ i. less_mul s (m * up e) (down d) i + less_mul t (n * up d) (down e) i)
    (sum_rounds f (m * up e * down d) (n * up d * down e) (down e * down d) s t))

-- ---- finite operands

-- ±X / E ≤ ±Y / E', with each number as a difference
apart : (s t : Bool) (X E Y E' : ℕ) → Le s (X * E') t (Y * E) → plus s X * E' + less t Y * E ≤ plus t Y * E + less s X * E'
apart false false X E Y E' h = omega arith
apart false true X E Y E' h = omega arith
apart true false X E Y E' h = omega arith
apart true true X E Y E' h = omega arith

cross : (x u y v z w E E' D : ℕ) → x * E' + v * E ≤ y * E + u * E' → (x * D + z * E) * (E' * D) + (v * D + w * E') * (E * D) ≤ (y * D + z * E') * (E * D) + (u * D + w * E) * (E' * D)
cross x u y v z w E E' D h = omega (arith, mul-le-mul_right (D * D) h)

add_finite : (f : Format) (s : Bool) (m : ℕ) (e : ℤ) (s' : Bool) (m' : ℕ) (e' : ℤ) (t : Bool) (n : ℕ) (d : ℤ) → le (fin s m e) (fin s' m' e') ≡ true → le (add f (fin s m e) (fin t n d)) (add f (fin s' m' e') (fin t n d)) ≡ true
unfolding le lt eq
add_finite f s m e s' m' e' t n d h =
    rounds_le f _ _ (down e * down d) _ _ (down e' * down d) (mul-pos (down_pos e) (down_pos d)) (mul-pos (down_pos e') (down_pos d))
    (cross (plus s (m * up e)) (less s (m * up e)) (plus s' (m' * up e')) (less s' (m' * up e')) (plus t (n * up d)) (less t (n * up d)) (down e) (down e') (down d)
    (apart s s' (m * up e) (down e) (m' * up e') (down e') (le_of s (m * up e * down e') s' (m' * up e' * down e) h)))
    (add f (fin s m e) (fin t n d)) (add f (fin s' m' e') (fin t n d)) (add_rounds f s m e t n d) (add_rounds f s' m' e' t n d)

-- ---- infinities

-- what an infinity is added to is that infinity, or there is no result
add_inf : (f : Format) (x : Float) (t : Bool) → is_nan (add f x (inf t)) ≡ false → add f x (inf t) ≡ inf t
unfolding add is_nan
add_inf f nan t n = never (sym n)
add_inf f (inf true) true n = refl
add_inf f (inf true) false n = never (sym n)
add_inf f (inf false) true n = never (sym n)
add_inf f (inf false) false n = refl
add_inf f (fin s m e) t n = refl

number_inf : (t : Bool) → is_nan (inf t) ≡ false
unfolding is_nan
number_inf t = refl

add_none : (f : Format) (x : Float) → add f x nan ≡ nan
unfolding add
add_none f nan = refl
add_none f (inf s) = refl
add_none f (fin s m e) = refl

-- ---- all floats

-- a finite second operand
to_finite : (f : Format) (x y : Float) (t : Bool) (n : ℕ) (d : ℤ) → le x y ≡ true → is_nan (add f x (fin t n d)) ≡ false → is_nan (add f y (fin t n d)) ≡ false → le (add f x (fin t n d)) (add f y (fin t n d)) ≡ true
unfolding le lt eq add is_nan
to_finite f nan y t n d h p q = never h
to_finite f (inf s) nan t n d h p q = never h
to_finite f (inf s) (inf s') t n d h p q = h
to_finite f (inf true) (fin s' m' e') t n d h p q = over_bottom (add f (fin s' m' e') (fin t n d)) q
to_finite f (inf false) (fin s' m' e') t n d h p q = never h
to_finite f (fin s m e) nan t n d h p q = never h
to_finite f (fin s m e) (inf true) t n d h p q = never h
to_finite f (fin s m e) (inf false) t n d h p q = under_top (add f (fin s m e) (fin t n d)) p
to_finite f (fin s m e) (fin s' m' e') t n d h p q = add_finite f s m e s' m' e' t n d h

module _ (f : Format) where
  -- the law, for those below: a mistake in what `add_mono` says is refused there, and hides none of them
  add_grows : (x y z : Float) → le x y ≡ true → is_nan (add f x z) ≡ false → is_nan (add f y z) ≡ false → le (add f x z) (add f y z) ≡ true
  add_grows x y nan h p q = no_nan (subst (λ (v : Float). is_nan v ≡ false) (add_none f x) p)
  add_grows x y (inf t) h p q = rw (add_inf f x t p, add_inf f y t q) (le_refl (inf t) (number_inf t))
  add_grows x y (fin t n d) h p q = to_finite f x y t n d h p q

  pub add_mono : (x y z : Float) → le x y ≡ true → is_nan (add f x z) ≡ false → is_nan (add f y z) ≡ false → le (add f x z) (add f y z) ≡ true
  add_mono x y z h p q = add_grows x y z h p q

  pub add_mono_right : (z x y : Float) → le x y ≡ true → is_nan (add f z x) ≡ false → is_nan (add f z y) ≡ false → le (add f z x) (add f z y) ≡ true
  add_mono_right z x y h p q =
      rw (add_swap f z x, add_swap f z y) (add_grows x y z h (subst (λ (v : Float). is_nan v ≡ false) (add_swap f z x) p) (subst (λ (v : Float). is_nan v ≡ false) (add_swap f z y) q))

  pub sub_mono : (x y z : Float) → le x y ≡ true → is_nan (sub f x z) ≡ false → is_nan (sub f y z) ≡ false → le (sub f x z) (sub f y z) ≡ true
  unfolding sub
  sub_mono x y z h p q = add_grows x y (neg z) h p q

  pub sub_anti : (z x y : Float) → le x y ≡ true → is_nan (sub f z x) ≡ false → is_nan (sub f z y) ≡ false → le (sub f z y) (sub f z x) ≡ true
  unfolding sub
  sub_anti z x y h p q = add_mono_right z (neg y) (neg x) (neg_le x y h) q p
