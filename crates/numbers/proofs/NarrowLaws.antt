-- The nearest `f32` to m * 2 ^ (e - 1126), with m of 53 digits: which digits of m it keeps, by e. Assumes nothing.
use Rattle.std.proofs.Common.{◌≡◌, ℕ, zero, suc, ◌+◌, ◌-◌, ◌*◌, ◌/◌, ◌%◌, ◌^◌, ◌<◌, ◌≤◌, Bool, true, false, not, ◌&&◌, T, eqb, ℤ, sym, refl, ap, ◌∙◌, subst, inl, inr, true≢false, zero-le, le_trans, le_of_eq, lt_of_lt_of_le, le-add_right, lt_of_le_of_lt, mul-le-mul_right, mod-eq_of_lt, zero-lt-suc, mul_comm, div-lt_iff_lt-mul, mul-le-mul, mul-lt-mul_of_pos_right, mul-pos, one-mul, lt_of_not-le, le-div_iff_mul-le, not-le_of_lt, le_of_mul-le-mul_right, arith, lit<, lit≤, lt→ltb, pow_pos, pow_mono, pow-add, shl_lt, ltb-false, ltb-true, le-ltb}
use Prim.Native.Nat.{compare}
use native.Mathlib.Nat.{div-eq_of_lt}
use lib.Ieee.{Float, nan, inf, fin, binary32, binary64, up, down, units, round, neg, lt, le, eq, ne, fits, is_nan, nan_bits, of_bits, to_bits}
use lib.Ieee.Bits.{nan_bits_above}
use lib.Ieee.Fits.{nearest-le, round-fits, up_pos, down_pos, and_i}
use lib.Ieee.Nearest.{closest, closest_same, nearest-ge}
use lib.Ieee.Scale.{round_same}
use lib.Ieee.Back.{whole_unique, round_whole}
use lib.Ieee.Positive.{num, den, positive, den_pos, first_pos, le→cross, cross→le, above_of_le}
use Rattle.numbers.specs.Narrow.{narrow_of, least}
use Rattle.numbers.specs.Mantissa.{Normal, Shifted}
use Rattle.numbers.proofs.WholeLaws.{nought, differs, neg_round}
use Rattle.floats.proofs.RoundLaws.{nearest_lt, Kept, round_bits, round-over, round_normal, round-low}
use Rattle.numbers.proofs.PartLaws.{joined, stays, field-high, field_lt, regular, normal}

-- a pattern up to the infinity's is no NaN's
pub no_nan_bits : (b : ℕ) → b ≤ 0x7f80_0000 → T (not (nan_bits binary32 b))
no_nan_bits b h = subst (λ (k : Bool). T (not k)) (sym (nan_bits_above binary32 b ∙ le-ltb 0x7f80_0000 (b % 2147483648) (go b h))) tt
  where
    go : (b : ℕ) → b ≤ 2139095040 → b % 2147483648 ≤ 2139095040
    go b h = omega arith

powers : (a i j k : ℕ) → a + i + j ≡ k → 2 ^ a * 2 ^ i * 2 ^ j ≡ 2 ^ k
powers a i j k e = ap (λ (z : ℕ). z * 2 ^ j) (sym (pow-add 2 a i)) ∙ sym (pow-add 2 (a + i) j) ∙ ap (λ (z : ℕ). 2 ^ z) e

-- 24 digits are kept
pub high_q : (m : ℕ) → m < 2 ^ 53 → closest m (2 ^ 29) ≤ 16777216
high_q m h = le_trans (nearest-le (m / 2 ^ 29) (compare (m % 2 ^ 29 * 2) (2 ^ 29))) ((div-lt_iff_lt-mul (pow_pos 29)).1 h)

module _ (x : Float) (m e : ℕ) (N : Normal x m e) where
  same : round binary32 false (num x) (den x) ≡ round binary32 false (m * 2 ^ e) (2 ^ 1126)
  same = round_same binary32 false (num x) (den x) (m * 2 ^ e) (2 ^ 1126) (den_pos x) (pow_pos 1126) N.val

  under : (i k : ℕ) → i + 53 ≡ k → m * 2 ^ i < 2 ^ k
  under i k h = subst (λ (z : ℕ). m * 2 ^ i < 2 ^ z) (turn i k h) (shl_lt 53 i N.hi)
    where
      turn : (i k : ℕ) → i + 53 ≡ k → 53 + i ≡ k
      turn i k h = omega arith

  at_least : (i k : ℕ) → i + 52 ≡ k → 2 ^ k ≤ m * 2 ^ i
  at_least i k h = le_trans (le_of_eq (ap (λ (z : ℕ). 2 ^ z) (turn i k h) ∙ pow-add 2 52 i)) (mul-le-mul_right (2 ^ i) N.lo)
    where
      turn : (i k : ℕ) → i + 52 ≡ k → k ≡ 52 + i
      turn i k h = omega arith

  scaled : m * 2 ^ e * 2 ^ 149 ≡ m * 2 ^ (e + 149)
  scaled = joined m e 149 (e + 149) refl

  -- ---- subnormal
  module _ (h : e < 948) where
    abbrev d : ℕ
    d = 977 - e

    abbrev q : ℕ
    q = closest m (2 ^ d)

    low_units : round binary32 false (num x) (den x) ≡ units binary32 false q 0
    low_units =
        same
        ∙ round-low binary32 false (m * 2 ^ e) (2 ^ 1126) (pow_pos 1126) (lt_of_le_of_lt (le_of_eq scaled) (lt_of_lt_of_le (under (e + 149) (e + 149 + 53) refl) (pow_mono (room e h))))
        ∙ ap (λ (z : ℕ). units binary32 false z 0)
        (closest_same (m * 2 ^ e * 2 ^ 149) (2 ^ 1126) m (2 ^ d) (pow_pos 1126) (pow_pos d) (ap (λ (z : ℕ). z * 2 ^ d) scaled ∙ joined m (e + 149) d 1126 (whole e h)))
      where
        room : (e : ℕ) → e < 948 → e + 149 + 53 ≤ 1150
        room e h = omega arith

        whole : (e : ℕ) → e < 948 → e + 149 + (977 - e) ≡ 1126
        whole e h = omega arith

    pub low_q : q ≤ 8388608
    low_q =
        le_trans (nearest-le (m / 2 ^ d) (compare (m % 2 ^ d * 2) (2 ^ d)))
        ((div-lt_iff_lt-mul (pow_pos d)).1 (lt_of_lt_of_le N.hi (le_trans (pow_mono (room e h)) (le_of_eq (pow-add 2 23 d)))))
      where
        room : (e : ℕ) → e < 948 → 53 ≤ 23 + (977 - e)
        room e h = omega arith

    pub low_bits : of_bits binary32 q ≡ round binary32 false (num x) (den x)
    low_bits =
        ap (of_bits binary32) (tidy q)
        ∙ round_bits binary32 (num x) (den x) q 0 low_units (le_trans low_q (lit≤ tt), inl refl) (few q low_q)
      where
        tidy : (q : ℕ) → q ≡ 0 * 8388608 + q
        tidy q = omega arith

        few : (q : ℕ) → q ≤ 8388608 → 0 * 8388608 + q < 255 * 8388608
        few q h = omega arith

  pub zero_bits : e < 924 → of_bits binary32 0 ≡ round binary32 false (num x) (den x)
  zero_bits g =
      let h : e < 948 = lt_of_lt_of_le g (lit≤ tt) in
      let p = 2 ^ (977 - e) in
      let l : 2 ^ 54 ≤ p = pow_mono (room e g) in
      let s : m < p = lt_of_lt_of_le N.hi (le_trans (lit≤ tt) l) in
      ap (of_bits binary32)
      (sym (nearest_lt (m / p) (m % p * 2) p (subst (λ (z : ℕ). z * 2 < p) (sym (mod-eq_of_lt s)) (lt_of_lt_of_le (mul-lt-mul_of_pos_right N.hi (zero-lt-suc 1)) l)) ∙ div-eq_of_lt s))
      ∙ low_bits h
    where
      room : (e : ℕ) → e < 924 → 54 ≤ 977 - e
      room e h = omega arith

  -- ---- normal
  module _ (h : 948 ≤ e) where
    abbrev k : ℕ
    k = e - 948

    abbrev r : ℕ
    r = closest m (2 ^ 29)

    high_units : round binary32 false (num x) (den x) ≡ units binary32 false r k
    high_units =
        same
        ∙ round_normal binary32 false (m * 2 ^ e) (2 ^ 1126) k (pow_pos 1126)
        (le_trans (le_of_eq (powers 23 k 1126 (e + 149 + 52) (lo e h))) (le_trans (at_least (e + 149) (e + 149 + 52) refl) (le_of_eq (sym scaled))))
        (lt_of_le_of_lt (le_of_eq scaled) (lt_of_lt_of_le (under (e + 149) (e + 149 + 53) refl) (le_of_eq (sym (powers 24 k 1126 (e + 149 + 53) (hi e h))))))
        ∙ ap (λ (z : ℕ). units binary32 false z k)
        (closest_same (m * 2 ^ e * 2 ^ 149) (2 ^ 1126 * 2 ^ k) m (2 ^ 29) (mul-pos (pow_pos 1126) (pow_pos k)) (pow_pos 29)
        (ap (λ (z : ℕ). z * 2 ^ 29) scaled ∙ joined m (e + 149) 29 (1126 + k) (whole e h) ∙ ap (λ (z : ℕ). m * z) (pow-add 2 1126 k)))
      where
        lo : (e : ℕ) → 948 ≤ e → 23 + (e - 948) + 1126 ≡ e + 149 + 52
        lo e h = omega arith

        hi : (e : ℕ) → 948 ≤ e → 24 + (e - 948) + 1126 ≡ e + 149 + 53
        hi e h = omega arith

        whole : (e : ℕ) → 948 ≤ e → e + 149 + 29 ≡ 1126 + (e - 948)
        whole e h = omega arith

    high-kept : Kept binary32 r k
    high-kept = (high_q m N.hi, inr (le_trans ((le-div_iff_mul-le (pow_pos 29)).1 N.lo) (nearest-ge (m / 2 ^ 29) (compare (m % 2 ^ 29 * 2) (2 ^ 29)))))

    pub high_bits : k * 8388608 + r < 0x7f80_0000 → of_bits binary32 (k * 8388608 + r) ≡ round binary32 false (num x) (den x)
    high_bits g = round_bits binary32 (num x) (den x) r k high_units high-kept g

    pub over_bits : 0x7f80_0000 ≤ k * 8388608 + r → inf false ≡ round binary32 false (num x) (den x)
    over_bits g = round-over binary32 (num x) (den x) r k high_units high-kept g

-- ---- x against 2 ^ -126
above-least : (x : Float) → T (positive x) → le least x ≡ true → den x ≤ num x * 2 ^ 126
above-least x p h = le_trans (le_of_eq (sym (one-mul (den x)))) (le→cross least x tt p (subst T (sym h) tt))

below-least : (x : Float) → T (positive x) → le least x ≡ false → num x * 2 ^ 126 < den x
below-least x p h = lt_of_not-le (λ (g : den x ≤ num x * 2 ^ 126). subst T h (cross→le least x tt p (le_trans (le_of_eq (one-mul (den x))) g)))

pub no_nan_high : (x : Float) → le least x ≡ true → T (not (is_nan x))
unfolding le is_nan
no_nan_high nan h = absurd (true≢false (sym h))
no_nan_high (inf s) h = tt
no_nan_high (fin s m e) h = tt

-- the field of such an x, an infinity's too
pub record High (x : Float) : Type 0 where
  pub lo : 897 ≤ to_bits binary64 x / 2 ^ 52
  pub hi : to_bits binary64 x / 2 ^ 52 < 2048

positive_of : (m : ℕ) (e : ℤ) (s : Bool) → le least (fin s m e) ≡ true → T (positive (fin s m e))
positive_of m e true h = above_of_le least (fin true m e) tt (subst T (sym h) tt)
positive_of m e false h = above_of_le least (fin false m e) tt (subst T (sym h) tt)

pub high : (x : Float) → T (fits binary64 x) → le least x ≡ true → High x
unfolding le to_bits
high nan F h = absurd (true≢false (sym h))
high (inf true) F h = absurd (true≢false (sym h))
high (inf false) F h = record { lo = lit≤ tt; hi = lit< tt }
high (fin s m e) F h =
    let P = positive_of m e s h in
    record { lo = field-high (fin s m e) F P (above-least (fin s m e) P h); hi = field_lt (fin s m e) F P }

abbrev pub High_shifted : Float → ℕ → ℕ → Type 0
High_shifted x m e = Shifted (2 ^ 52 + to_bits binary64 x % 2 ^ 52) (to_bits binary64 x / 2 ^ 52 - 1) m e

pub high_e : (x : Float) (m e : ℕ) → High x → High_shifted x m e → 948 ≤ e
high_e x m e H S =
    let b = to_bits binary64 x in
    go (b / 2 ^ 52) e H.lo (stays (2 ^ 52 + b % 2 ^ 52) (b / 2 ^ 52 - 1) m e (le-add_right (2 ^ 52) (b % 2 ^ 52)) S)
  where
    go : (f e : ℕ) → 897 ≤ f → f - 1 + 52 ≤ e → 948 ≤ e
    go f e h k = omega arith

-- the pattern, or an infinity
module _ (x : Float) (F : T (fits binary64 x)) (h : le least x ≡ true) (m e : ℕ) (S : High_shifted x m e) where
  abbrev bits : ℕ
  bits = (e - 948) * 8388608 + closest m (2 ^ 29)

  e_high : 948 ≤ e
  e_high = high_e x m e (high x F h) S

  normal_high : T (positive x) → Normal x m e
  normal_high P =
      let b = to_bits binary64 x in
      normal x F P (2 ^ 52 + b % 2 ^ 52) (b / 2 ^ 52 - 1) m e (regular x F P (some-field (b / 2 ^ 52) (high x F h).lo)) (few (b / 2 ^ 52) (field_lt x F P)) S
    where
      some-field : (f : ℕ) → 897 ≤ f → f ≡ 0 → ⊥
      some-field f a e = omega arith

      few : (f : ℕ) → f < 2048 → f - 1 < 2048
      few f a = omega arith

pub narrow_bits : (x : Float) (F : T (fits binary64 x)) (h : le least x ≡ true) (m e : ℕ) → High_shifted x m e → (e - 948) * 8388608 + closest m (2 ^ 29) < 0x7f80_0000 → of_bits binary32 ((e - 948) * 8388608 + closest m (2 ^ 29)) ≡ narrow_of x
unfolding le narrow_of to_bits
narrow_bits nan F h m e S g = absurd (true≢false (sym h))
narrow_bits (inf true) F h m e S g = absurd (true≢false (sym h))
narrow_bits (inf false) F h m e S g = absurd (no e (closest m (2 ^ 29)) (stays (2 ^ 52) 2046 m e (lit≤ tt) S) g)
  where
    no : (e r : ℕ) → 2098 ≤ e → (e - 948) * 8388608 + r < 2139095040 → ⊥
    no e r a g = omega arith
narrow_bits (fin true k i) F h m e S g = absurd (positive_of k i true h)
narrow_bits (fin false k i) F h m e S g =
    let x = fin false k i in
    let P : T (positive x) = positive_of k i false h in
    high_bits x m e (normal_high x F h m e S P) (e_high x F h m e S) g

pub narrow_over : (x : Float) (F : T (fits binary64 x)) (h : le least x ≡ true) (m e : ℕ) → High_shifted x m e → 0x7f80_0000 ≤ (e - 948) * 8388608 + closest m (2 ^ 29) → inf false ≡ narrow_of x
unfolding le narrow_of
narrow_over nan F h m e S g = absurd (true≢false (sym h))
narrow_over (inf true) F h m e S g = absurd (true≢false (sym h))
narrow_over (inf false) F h m e S g = refl
narrow_over (fin true k i) F h m e S g = absurd (positive_of k i true h)
narrow_over (fin false k i) F h m e S g =
    let x = fin false k i in
    let P : T (positive x) = positive_of k i false h in
    over_bits x m e (normal_high x F h m e S P) (e_high x F h m e S) g

-- ---- x between 0 and 2 ^ -126
pub pos_of : (x : Float) → lt nought x ≡ true → lt x (inf false) ≡ true → T (positive x)
unfolding lt
pos_of nan a b = absurd (true≢false (sym a))
pos_of (inf true) a b = absurd (true≢false (sym a))
pos_of (inf false) a b = absurd (true≢false (sym b))
pos_of (fin true m e) a b = absurd (true≢false (sym a))
pos_of (fin false m e) a b = lt→ltb 0 m (first_pos m (up e) (go (m * up e) (down e) (ltb-true (0 * down e) (m * up e * 1) a)))
  where
    go : (n d : ℕ) → 0 * d < n * 1 → 0 < n
    go n d h = omega arith

pub low_pos : (x : Float) → lt nought x ≡ true → le least x ≡ false → T (positive x)
unfolding lt le
low_pos nan a b = absurd (true≢false (sym a))
low_pos (inf true) a b = absurd (true≢false (sym a))
low_pos (inf false) a b = absurd (true≢false b)
low_pos (fin s m e) a b = pos_of (fin s m e) a refl

pub low_e : (x : Float) (m e : ℕ) → T (positive x) → le least x ≡ false → Normal x m e → e < 948
low_e x m e P h N = lt_of_not-le (λ (g : 948 ≤ e). not-le_of_lt (below-least x P h) (le_of_mul-le-mul_right (step g) (pow_pos 1000)))
  where
    step : 948 ≤ e → den x * 2 ^ 1000 ≤ num x * 2 ^ 126 * 2 ^ 1000
    step g =
        le_trans (le_of_eq (mul_comm (den x) (2 ^ 1000)))
        (le_trans (mul-le-mul_right (den x) (mul-le-mul {n₁ = 2 ^ 52} {m₁ = 2 ^ 948} N.lo (pow_mono g)))
        (le_of_eq (sym N.val ∙ sym (joined (num x) 126 1000 1126 refl))))

pub narrow_up : (x r : Float) → T (positive x) → r ≡ round binary32 false (num x) (den x) → r ≡ narrow_of x
unfolding narrow_of
narrow_up nan r p h = absurd p
narrow_up (inf s) r p h = absurd p
narrow_up (fin true m e) r p h = absurd p
narrow_up (fin false m e) r p h = h

-- ---- the arms of `narrow`
pub narrow_neg : (x r : Float) → r ≡ narrow_of (neg x) → neg r ≡ narrow_of x
unfolding narrow_of neg
narrow_neg x r h = ap neg h ∙ go x
  where
    go : (x : Float) → neg (narrow_of (neg x)) ≡ narrow_of x
    go nan = refl
    go (inf true) = refl
    go (inf false) = refl
    go (fin true m e) = neg_round binary32 false (m * up e) (down e)
    go (fin false m e) = neg_round binary32 true (m * up e) (down e)

pub narrow_nan : (x : Float) → eq x x ≡ false → nan ≡ narrow_of x
unfolding narrow_of ne is_nan
narrow_nan x h = go x (sym (differs x) ∙ ap not h)
  where
    go : (x : Float) → is_nan x ≡ true → nan ≡ narrow_of x
    go nan k = refl
    go (inf s) k = absurd (true≢false (sym k))
    go (fin s m e) k = absurd (true≢false (sym k))

-- a zero
pub narrow_zero : (x : Float) → T (fits binary64 x) → lt nought x ≡ false → lt x nought ≡ false → eq x x ≡ true → (x ≡ narrow_of x) × T (fits binary32 x && not (is_nan x))
unfolding narrow_of lt eq is_nan fits
narrow_zero nan f a b c = absurd (true≢false (sym c))
narrow_zero (inf true) f a b c = absurd (true≢false b)
narrow_zero (inf false) f a b c = absurd (true≢false a)
narrow_zero (fin s zero e) f a b c =
    let nothing : 0 * up e * 1 ≡ 0 * down e = omega arith in (
      whole_unique binary32 (fin s 0 e) (round binary32 s 0 1) s 0 f (round-fits binary32 s 0 1) (refl, nothing) (round_whole binary32 s 0 zero-le)
          ∙ round_same binary32 s 0 1 (0 * up e) (down e) (zero-lt-suc 0) (down_pos e) (sym nothing),
      and_i (eqb (up e * down e) 1) true f tt,
    )
narrow_zero (fin false (suc m) e) f a b c = absurd (go (suc m * up e) (down e) (mul-pos (zero-lt-suc m) (up_pos e)) (ltb-false (0 * down e) (suc m * up e * 1) a))
  where
    go : (n d : ℕ) → 0 < n → n * 1 ≤ 0 * d → ⊥
    go n d h k = omega arith
narrow_zero (fin true (suc m) e) f a b c = absurd (go (suc m * up e) (down e) (mul-pos (zero-lt-suc m) (up_pos e)) (ltb-false 0 (suc m * up e * 1 + 0 * down e) b))
  where
    go : (n d : ℕ) → 0 < n → n * 1 + 0 * d ≤ 0 → ⊥
    go n d h k = omega arith
