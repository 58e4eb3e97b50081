-- Rust's `as` to an unsigned integer of w bits: at and past the ends of its range, and in it by a shift. Assumes nothing.
use Rattle.std.proofs.Common.{◌≡◌, ℕ, suc, ◌+◌, ◌-◌, ◌*◌, ◌/◌, ◌^◌, ◌<◌, ◌≤◌, min, true, false, T, pos, sym, refl, ap, ◌∙◌, subst, true≢false, le_trans, le_of_eq, lt_of_lt_of_le, le_of_suc-le-suc, lt_of_le_of_lt, lt_irrefl, mul-le-mul_right, mul_comm, div-lt_iff_lt-mul, mul-lt-mul_of_pos_right, mul-pos, one-mul, lt_of_not-le, le-div_iff_mul-le, mul_right_comm, arith, lit<, lit≤, lt→ltb, pow_pos, pow_mono, pow-add, ltb-false, ltb-true, lt-ltb}
use native.Mathlib.Nat.{eq_of_mul-eq-mul_right, div-eq_of_lt}
use native.Mathlib.Decide.{dec_le}
use lib.Ieee.{Float, nan, inf, fin, up, down, lt, le, to_unsigned}
use lib.Ieee.Fits.{down_pos}
use lib.Ieee.Nearest.{div_same}
use lib.Ieee.Positive.{num, den, positive, den_pos, first_pos, le→cross, cross→le, above_of_le}
use Rattle.numbers.specs.Mantissa.{Normal}
use Rattle.numbers.proofs.PartLaws.{joined}
use Rattle.numbers.proofs.HalfLaws.{low_e}

some : (a b : ℕ) → 0 < b → 0 < a + b
some a b h = omega arith

module _ (w : ℕ) where
  -- from 2 ^ w on the quotient is capped
  capped : (n d : ℕ) → 0 < d → 1 * 2 ^ w * d ≤ n * 1 → 2 ^ w - 1 ≡ min (n / d) (2 ^ w - 1)
  capped n d D h = go (2 ^ w) (n / d) ((le-div_iff_mul-le D).1 (tidy (2 ^ w) h))
    where
      tidy : (p : ℕ) → 1 * p * d ≤ n * 1 → p * d ≤ n
      tidy p k = let e : 1 * p ≡ p = one-mul p in let f : 1 * p * d ≡ p * d = ap (λ (z : ℕ). z * d) e in omega arith

      go : (p q : ℕ) → p ≤ q → p - 1 ≡ min q (p - 1)
      go p q k = omega arith

  pub over : (x : Float) → lt (fin true 1 (pos 0)) x ≡ true → lt x (fin false 1 (pos w)) ≡ false → 2 ^ w - 1 ≡ to_unsigned w x
  unfolding lt to_unsigned
  over nan a b = absurd (true≢false (sym a))
  over (inf true) a b = absurd (true≢false (sym a))
  over (inf false) a b = refl
  over (fin true m e) a b = absurd (true≢false (sym (lt-ltb 0 (m * up e * 1 + 1 * 2 ^ w * down e) (some (m * up e * 1) (1 * 2 ^ w * down e) (mul-pos (mul-pos (lit< tt) (pow_pos w)) (down_pos e)))) ∙ b))
  over (fin false m e) a b = capped (m * up e) (down e) (down_pos e) (ltb-false (m * up e * 1) (1 * 2 ^ w * down e) b)

  pub under : (x : Float) → lt (fin true 1 (pos 0)) x ≡ false → 0 ≡ to_unsigned w x
  unfolding lt to_unsigned
  under nan a = refl
  under (inf true) a = refl
  under (inf false) a = absurd (true≢false a)
  under (fin true m e) a = refl
  under (fin false m e) a = absurd (true≢false (sym (lt-ltb 0 (1 * 1 * down e + m * up e * 1) (omega (arith, down_pos e))) ∙ a))

  -- below 2 ^ w it is the whole part
  pub in_range_lem : (x : Float) → T (positive x) → num x < 2 ^ w * den x → num x / den x ≡ to_unsigned w x
  unfolding to_unsigned
  in_range_lem nan p h = absurd p
  in_range_lem (inf s) p h = absurd p
  in_range_lem (fin true m e) p h = absurd p
  in_range_lem (fin false m e) p h = go (2 ^ w) (m * up e / down e) ((div-lt_iff_lt-mul (down_pos e)).1 h)
    where
      go : (p q : ℕ) → q < p → q ≡ min q (p - 1)
      go p q h = omega arith

-- ---- x against 1
abbrev pub one : Float
one = fin false 1 (pos 0)

pub over_minus_one : (x : Float) → le one x ≡ true → lt (fin true 1 (pos 0)) x ≡ true
unfolding lt le
over_minus_one nan h = absurd (true≢false (sym h))
over_minus_one (inf true) h = absurd (true≢false (sym h))
over_minus_one (inf false) h = refl
over_minus_one (fin true m e) h = absurd (above_of_le one (fin true m e) tt (subst T (sym h) tt))
over_minus_one (fin false m e) h = lt-ltb 0 (1 * 1 * down e + m * up e * 1) (omega (arith, down_pos e))

pub record Range (x : Float) : Type 0 where
  pub is_pos : T (positive x)
  pub lo : den x ≤ num x
  pub hi : num x < 2 ^ 32 * den x

pub range : (x : Float) → le one x ≡ true → lt x (fin false 1 (pos 32)) ≡ true → Range x
unfolding lt le
range nan a b = absurd (true≢false (sym a))
range (inf true) a b = absurd (true≢false (sym a))
range (inf false) a b = absurd (true≢false (sym b))
range (fin true m e) a b = absurd (above_of_le one (fin true m e) tt (subst T (sym a) tt))
range (fin false m e) a b =
    let x = fin false m e in
    let t : T (le one x) = subst T (sym a) tt in
    let p : T (positive x) = above_of_le one x tt t in
    record { is_pos = p; lo = low (num x) (den x) (le→cross one x tt p t); hi = high (num x) (den x) (ltb-true (m * up e * 1) (1 * 2 ^ 32 * down e) b) }
  where
    low : (n d : ℕ) → 1 * d ≤ n * 1 → d ≤ n
    low n d h = omega arith

    high : (n d : ℕ) → n * 1 < 4294967296 * d → n < 4294967296 * d
    high n d h = omega arith

pub below_one : (x : Float) → le one x ≡ false → 0 ≡ to_unsigned 32 x
unfolding le to_unsigned
below_one nan h = refl
below_one (inf true) h = refl
below_one (inf false) h = absurd (true≢false h)
below_one (fin true m e) h = refl
below_one (fin false m e) h = go (dec_le d n)
  where
    n : ℕ
    n = m * up e

    d : ℕ
    d = down e

    none : n / d ≡ 0 → 0 ≡ min (n / d) 4294967295
    none z = ap (λ (q : ℕ). min q 4294967295) (sym z)

    go : Dec (d ≤ n) → 0 ≡ min (n / d) 4294967295
    go (yes g) =
        let p : T (positive (fin false m e)) = lt→ltb 0 m (first_pos m (up e) (lt_of_lt_of_le (down_pos e) g)) in
        absurd (subst T h (cross→le one (fin false m e) tt p (tidy n d g)))
      where
        tidy : (n d : ℕ) → d ≤ n → 1 * d ≤ n * 1
        tidy n d h = omega arith
    go (no g) = none (div-eq_of_lt (lt_of_not-le g))

-- ---- the whole part by one shift
module _ (x : Float) (m e : ℕ) (N : Normal x m e) (R : Range x) where
  pub cut_low : 1074 ≤ e
  cut_low = le_of_suc-le-suc (lt_of_not-le no)
    where
      room : (e : ℕ) → suc e ≤ 1074 → 53 + e ≤ 1126
      room e h = omega arith

      no : suc e ≤ 1074 → ⊥
      no g =
          let a : m * 2 ^ e < 2 ^ 1126 = lt_of_lt_of_le (mul-lt-mul_of_pos_right N.hi (pow_pos e)) (le_trans (le_of_eq (sym (pow-add 2 53 e))) (pow_mono {j = 1126} (room e g))) in
          lt_irrefl (num x * 2 ^ 1126)
          (lt_of_le_of_lt (le_of_eq N.val) (lt_of_lt_of_le (mul-lt-mul_of_pos_right a (den_pos x)) (le_trans (le_of_eq (mul_comm (2 ^ 1126) (den x))) (mul-le-mul_right (2 ^ 1126) R.lo))))

  pub cut_high : e ≤ 1126
  cut_high = low_e x m e (record { is_pos = R.is_pos; less = lt_of_lt_of_le R.hi (mul-le-mul_right (den x) (lit≤ tt)) }) N

  pub cut-is : m / 2 ^ (1126 - e) ≡ to_unsigned 32 x
  cut-is =
      sym (div_same (num x) (den x) m (2 ^ (1126 - e)) (den_pos x) (pow_pos (1126 - e))
      (eq_of_mul-eq-mul_right (2 ^ e) (pow_pos e) (num x * 2 ^ (1126 - e)) (m * den x) (joined (num x) (1126 - e) e 1126 (whole e cut_high) ∙ N.val ∙ mul_right_comm m (2 ^ e) (den x))))
      ∙ in_range_lem 32 x R.is_pos R.hi
    where
      whole : (e : ℕ) → e ≤ 1126 → 1126 - e + e ≡ 1126
      whole e h = omega arith
