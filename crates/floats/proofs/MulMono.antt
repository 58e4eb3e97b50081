-- A product grows with each operand where the other is not below zero, and falls where it is not above: for all floats, infinities, zeros and overflow included,
-- as far as the results are no NaN. Assumes nothing.
use mathlib.Core.Path.{◌≡◌, refl, sym, ap, ◌∙◌, subst}
use mathlib.Core.Logic.{◌⊎◌, inl, inr}
use mathlib.Core.Bool.{Bool, true, false, not, cond}
use Prim.Native.Nat.{ℕ, zero, suc, ◌*◌, ◌≤◌, ◌<◌}
use native.Mathlib.Nat.{zero-lt-suc, zero-mul, mul-zero, mul-pos, mul-le-mul_right}
use native.Mathlib.Omega.{arith}
use lib.IntN.{ℤ, pos}
use lib.Dec.{T, eqb, eqb-suc-zero}
use lib.Ieee.{Float, nan, inf, fin, Format, up, down, unlike, round, mul, neg, lt, eq, le, is_nan}
use lib.Ieee.Fits.{up_pos, down_pos}
use Rattle.loops.proofs.Cases.{never}
use Rattle.floats.proofs.OrderLaws.{Le, le_of, zero_of}
use Rattle.floats.proofs.SignLaws.{unsigned, no_nan, under_top, over_bottom, neg_neg, neg_number, neg_le, round_neg}
use Rattle.floats.proofs.RoundMono.{round_zero, round_le}

-- ---- ±X / E ≤ ±Y / E', with both multiplied by a / c

module _ (X E Y E' a c : ℕ) where
  pub wider : (s t : Bool) → Le s (X * E') t (Y * E) → Le s (X * a * (E' * c)) t (Y * a * (E * c))
  wider false false h = omega (arith, mul-le-mul_right (a * c) h)
  wider false true h = (nil (X * E') (X * a * (E' * c)) h.0 (omega arith), nil (Y * E) (Y * a * (E * c)) h.1 (omega arith))
    where
      nil : (x y : ℕ) → x ≡ 0 → y ≡ x * (a * c) → y ≡ 0
      nil x y e g = g ∙ ap (λ (z : ℕ). z * (a * c)) e ∙ zero-mul (a * c)
  wider true false h = tt
  wider true true h = omega (arith, mul-le-mul_right (a * c) h)

pub fin_le : (s : Bool) (m : ℕ) (e : ℤ) (t : Bool) (n : ℕ) (d : ℤ) → le (fin s m e) (fin t n d) ≡ true → Le s (m * up e * down d) t (n * up d * down e)
unfolding le lt eq
fin_le s m e t n d h = le_of s (m * up e * down d) t (n * up d * down e) h

-- the product of finite numbers, the second with its sign clear
mul_is : (f : Format) (s : Bool) (m : ℕ) (e : ℤ) (n : ℕ) (d : ℤ) → mul f (fin s m e) (fin false n d) ≡ round f s (m * up e * (n * up d)) (down e * down d)
unfolding mul
mul_is f true m e n d = refl
mul_is f false m e n d = refl

mul_finite : (f : Format) (s : Bool) (m : ℕ) (e : ℤ) (s' : Bool) (m' : ℕ) (e' : ℤ) (n : ℕ) (d : ℤ) → le (fin s m e) (fin s' m' e') ≡ true → le (mul f (fin s m e) (fin false n d)) (mul f (fin s' m' e') (fin false n d)) ≡ true
mul_finite f s m e s' m' e' n d h =
    rw (mul_is f s m e n d, mul_is f s' m' e' n d)
    (round_le f s (m * up e * (n * up d)) (down e * down d) s' (m' * up e' * (n * up d)) (down e' * down d) (mul-pos (down_pos e) (down_pos d)) (mul-pos (down_pos e') (down_pos d))
    (wider (m * up e) (down e) (m' * up e') (down e') (n * up d) (down d) s s' (fin_le s m e s' m' e' h)))

-- ---- infinities

pub clear : (s : Bool) → unlike s false ≡ s
clear true = refl
clear false = refl

-- a finite number times an infinity, or over a zero, where that is a number: an infinity of the number's sign
abbrev pub pole : Bool → ℕ → Float
pole s m = cond (eqb m 0) nan (inf (unlike s false))

pole_is : (s : Bool) (m : ℕ) → is_nan (pole s m) ≡ false → pole s m ≡ inf s
pole_is s zero p = no_nan p
pole_is s (suc m) p = rw (eqb-suc-zero m, clear s)

pub poles : (s : Bool) (m : ℕ) (e : ℤ) (s' : Bool) (m' : ℕ) (e' : ℤ) → le (fin s m e) (fin s' m' e') ≡ true → is_nan (pole s m) ≡ false → is_nan (pole s' m') ≡ false → le (pole s m) (pole s' m') ≡ true
poles true m e s' m' e' h p q = rw (pole_is true m p) (over_bottom (pole s' m') q)
poles false m e false m' e' h p q = rw (pole_is false m' q) (under_top (pole false m) p)
poles false zero e true m' e' h p q = no_nan p
poles false (suc m) e true m' e' h p q =
    absurd (not_zero (suc m * up e) (mul-pos (zero-lt-suc m) (up_pos e)) (zero_of (suc m * up e) (down e') (down_pos e') (fin_le false (suc m) e true m' e' h).0))
  where
    not_zero : (a : ℕ) → 0 < a → a ≡ 0 → ⊥
    not_zero a h e = omega arith

times_inf : (f : Format) (s : Bool) (z : Float) → T (unsigned z) → is_nan (mul f (inf s) z) ≡ false → mul f (inf s) z ≡ inf s
unfolding mul
times_inf f s nan Z p = absurd Z
times_inf f s (inf true) Z p = absurd Z
times_inf f s (inf false) Z p = ap inf (clear s)
times_inf f s (fin true n d) Z p = absurd Z
times_inf f s (fin false zero d) Z p = no_nan p
times_inf f s (fin false (suc n) d) Z p = rw (eqb-suc-zero n, clear s)

-- ---- products, the second operand with its sign clear

of_finite : (f : Format) (s : Bool) (m : ℕ) (e : ℤ) (s' : Bool) (m' : ℕ) (e' : ℤ) (z : Float) → T (unsigned z) → le (fin s m e) (fin s' m' e') ≡ true
    → is_nan (mul f (fin s m e) z) ≡ false → is_nan (mul f (fin s' m' e') z) ≡ false → le (mul f (fin s m e) z) (mul f (fin s' m' e') z) ≡ true
unfolding mul
of_finite f s m e s' m' e' nan Z h p q = absurd Z
of_finite f s m e s' m' e' (inf true) Z h p q = absurd Z
of_finite f s m e s' m' e' (inf false) Z h p q = poles s m e s' m' e' h p q
of_finite f s m e s' m' e' (fin true n d) Z h p q = absurd Z
of_finite f s m e s' m' e' (fin false n d) Z h p q = mul_finite f s m e s' m' e' n d h

mul_up : (f : Format) (x y z : Float) → T (unsigned z) → le x y ≡ true → is_nan (mul f x z) ≡ false → is_nan (mul f y z) ≡ false → le (mul f x z) (mul f y z) ≡ true
unfolding le lt eq
mul_up f nan y z Z h p q = never h
mul_up f (inf s) nan z Z h p q = never h
mul_up f (inf s) (inf s') z Z h p q = subst (λ (v : Float). le v (mul f (inf s') z) ≡ true) (sym (times_inf f s z Z p)) (subst (λ (v : Float). le (inf s) v ≡ true) (sym (times_inf f s' z Z q)) h)
mul_up f (inf true) (fin s' m' e') z Z h p q = subst (λ (v : Float). le v (mul f (fin s' m' e') z) ≡ true) (sym (times_inf f true z Z p)) (over_bottom (mul f (fin s' m' e') z) q)
mul_up f (inf false) (fin s' m' e') z Z h p q = never h
mul_up f (fin s m e) nan z Z h p q = never h
mul_up f (fin s m e) (inf true) z Z h p q = never h
mul_up f (fin s m e) (inf false) z Z h p q = subst (λ (v : Float). le (mul f (fin s m e) z) v ≡ true) (sym (times_inf f false z Z q)) (under_top (mul f (fin s m e) z) p)
mul_up f (fin s m e) (fin s' m' e') z Z h p q = of_finite f s m e s' m' e' z Z h p q

-- ---- the second operand with its sign set: the product is that of its negative, negated

round_not : (f : Format) (s : Bool) (a c : ℕ) → round f (not s) a c ≡ neg (round f s a c)
round_not f true a c = sym (ap neg (round_neg f a c) ∙ neg_neg (round f false a c))
round_not f false a c = round_neg f a c

unlike_not : (s t : Bool) → unlike s (not t) ≡ not (unlike s t)
unlike_not true true = refl
unlike_not true false = refl
unlike_not false true = refl
unlike_not false false = refl

pub mul_neg : (f : Format) (x z : Float) → mul f x (neg z) ≡ neg (mul f x z)
unfolding mul neg
mul_neg f nan z = refl
mul_neg f (inf s) nan = refl
mul_neg f (inf s) (inf t) = ap inf (unlike_not s t)
mul_neg f (inf s) (fin t zero d) = refl
mul_neg f (inf s) (fin t (suc n) d) = rw (eqb-suc-zero n, unlike_not s t)
mul_neg f (fin s m e) nan = refl
mul_neg f (fin s zero e) (inf t) = refl
mul_neg f (fin s (suc m) e) (inf t) = rw (eqb-suc-zero m, unlike_not s t)
mul_neg f (fin s m e) (fin t n d) =
    ap (λ (b : Bool). round f b (m * up e * (n * up d)) (down e * down d)) (unlike_not s t) ∙ round_not f (unlike s t) (m * up e * (n * up d)) (down e * down d)

mul_down : (f : Format) (x y z : Float) → T (unsigned (neg z)) → le x y ≡ true → is_nan (mul f x z) ≡ false → is_nan (mul f y z) ≡ false → le (mul f y z) (mul f x z) ≡ true
mul_down f x y z Z h p q = subst (λ (v : Float). le (mul f y v) (mul f x v) ≡ true) (neg_neg z)
    (subst (λ (v : Float). le v (mul f x (neg (neg z))) ≡ true) (sym (mul_neg f y (neg z)))
    (subst (λ (v : Float). le (neg (mul f y (neg z))) v ≡ true) (sym (mul_neg f x (neg z)))
    (neg_le (mul f x (neg z)) (mul f y (neg z)) (mul_up f x y (neg z) Z h (turned x p) (turned y q)))))
  where
    turned : (x : Float) → is_nan (mul f x z) ≡ false → is_nan (mul f x (neg z)) ≡ false
    turned x p = ap is_nan (mul_neg f x z) ∙ neg_number (mul f x z) ∙ p

-- ---- by a zero of either sign

pub zeros : (s t : Bool) → le (fin s 0 (pos 0)) (fin t 0 (pos 0)) ≡ true
unfolding le lt eq
zeros true true = refl
zeros true false = refl
zeros false true = refl
zeros false false = refl

product_zero : (f : Format) (x : Float) (t : Bool) (d : ℤ) → is_nan (mul f x (fin t zero d)) ≡ false → (s : Bool) × (mul f x (fin t zero d) ≡ fin s 0 (pos 0))
unfolding mul
product_zero f nan t d p = no_nan p
product_zero f (inf s) t d p = no_nan p
product_zero f (fin s m e) t d p =
    (unlike s t, ap (λ (z : ℕ). round f (unlike s t) z (down e * down d)) (ap (λ (z : ℕ). m * up e * z) (zero-mul (up d)) ∙ mul-zero (m * up e)) ∙ round_zero f (unlike s t) (down e * down d) (mul-pos (down_pos e) (down_pos d)))

mul_zeros : (f : Format) (x y : Float) (t : Bool) (d : ℤ) → is_nan (mul f x (fin t zero d)) ≡ false → is_nan (mul f y (fin t zero d)) ≡ false → le (mul f x (fin t zero d)) (mul f y (fin t zero d)) ≡ true
mul_zeros f x y t d p q = let a = product_zero f x t d p in let b = product_zero f y t d q in rw (a.1, b.1) (zeros a.0 b.0)

-- ---- products

none : {A : Type 0} (m : ℕ) (e : ℤ) → suc m * up e * 1 ≡ 0 → A
none m e h = absurd (let k : 0 < suc m * up e = mul-pos (zero-lt-suc m) (up_pos e) in let z : ⊥ = omega arith in z)

not_below : (z : Float) → le (fin false 0 (pos 0)) z ≡ true → T (unsigned z) ⊎ ((d : ℤ) × (z ≡ fin true zero d))
unfolding le lt eq
not_below nan h = never h
not_below (inf true) h = never h
not_below (inf false) h = inl tt
not_below (fin false m e) h = inl tt
not_below (fin true zero e) h = inr (e, refl)
not_below (fin true (suc m) e) h = none m e (le_of false (0 * 1 * down e) true (suc m * up e * 1) h).1

not_above : (z : Float) → le z (fin false 0 (pos 0)) ≡ true → T (unsigned (neg z)) ⊎ ((d : ℤ) × (z ≡ fin false zero d))
unfolding le lt eq neg
not_above nan h = never h
not_above (inf true) h = inl tt
not_above (inf false) h = never h
not_above (fin true m e) h = inl tt
not_above (fin false zero e) h = inr (e, refl)
not_above (fin false (suc m) e) h = absurd (let k : 0 < suc m * up e = mul-pos (zero-lt-suc m) (up_pos e) in let l : suc m * up e * 1 ≤ 0 * 1 * down e = le_of false (suc m * up e * 1) false (0 * 1 * down e) h in let z : ⊥ = omega arith in z)

module _ (f : Format) where
  pub mul_mono : (x y z : Float) → le (fin false 0 (pos 0)) z ≡ true → le x y ≡ true → is_nan (mul f x z) ≡ false → is_nan (mul f y z) ≡ false → le (mul f x z) (mul f y z) ≡ true
  mul_mono x y z Z h p q = elim (not_below z Z) [
    | inl u ↦ mul_up f x y z u h p q
    | inr e ↦ subst (λ (v : Float). is_nan (mul f x v) ≡ false → is_nan (mul f y v) ≡ false → le (mul f x v) (mul f y v) ≡ true) (sym e.1) (mul_zeros f x y true e.0) p q
  ]

  pub mul_anti : (x y z : Float) → le z (fin false 0 (pos 0)) ≡ true → le x y ≡ true → is_nan (mul f x z) ≡ false → is_nan (mul f y z) ≡ false → le (mul f y z) (mul f x z) ≡ true
  mul_anti x y z Z h p q = elim (not_above z Z) [
    | inl u ↦ mul_down f x y z u h p q
    | inr e ↦ subst (λ (v : Float). is_nan (mul f y v) ≡ false → is_nan (mul f x v) ≡ false → le (mul f y v) (mul f x v) ≡ true) (sym e.1) (mul_zeros f y x false e.0) q p
  ]
