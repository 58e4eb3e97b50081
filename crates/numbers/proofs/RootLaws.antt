-- Roots of whole numbers: what `root_of_nat` of specs/ says, a square by halves, a digit of a root, and from the nearest whole number to half a root to the rounded root of a float.
-- Assumes nothing.
use Rattle.std.proofs.Common.{◌≡◌, ℕ, zero, suc, ◌+◌, ◌-◌, ◌*◌, ◌/◌, ◌%◌, ◌^◌, ◌<◌, ◌≤◌, Bool, true, false, cond, not, ◌&&◌, ◌||◌, T, eqb, ltb, leb, pos, sym, refl, ap, ◌∙◌, subst, inl, inr, true≢false, zero-le, le_trans, le_of_eq, lt_of_lt_of_le, le-add_right, lt_of_le_of_lt, le_of_lt, lt_irrefl, mul-le-mul_right, zero-lt-suc, mul_assoc, mul_comm, div-lt_iff_lt-mul, add-mul, mul-le-mul, eq-or-lt_of_le, mul-le-mul_left, mul-lt-mul_of_pos_right, mul-pos, pow-suc, lt_of_not-le, mul-one, mul-add, mul_right_comm, not-le_of_lt, mul-div_cancel, mul_left_comm, arith, lit<, lit≤, pow_pos, pow_mono, pow-add, ltb-false, le-ltb, lt-ltb, eq-eqb, ne_eqb, eqb-true, le-leb, leb-false, leb-true}
use native.Mathlib.Nat.{mul-mul-mul_comm, pow-succ', mul-mod_left}
use native.Mathlib.Decide.{dec_lt, dec_le}
use lib.Ieee.Digits.{size-lt}
use lib.Ieee.{Float, nan, inf, fin, binary64, up, down, size, units, round, lt, eq, fits, of_int, of_bits, to_bits, nan_bits}
use lib.Ieee.Bits.{nan_bits_above, of_bits-to_bits}
use lib.Ieee.Fits.{up_pos, of_int-fits}
use lib.Ieee.Exact.{HasValue}
use lib.Ieee.Back.{round_whole}
use lib.Ieee.Positive.{num, den, positive, den_pos, positive_of_value}
use borrow.Author.Tests.{lt-leb, eqb-false}
use Rattle.floats.proofs.RoundLaws.{round_normal, round_bits, closest_is}
use Rattle.numbers.proofs.PartLaws.{joined, normal}
use Rattle.numbers.proofs.WholeLaws.{nought}
use Rattle.numbers.proofs.OrderLaws.{zero_equal, not_zero}
use Rattle.loops.proofs.Cases.{by_cases}
use Rattle.numbers.specs.Mantissa.{Normal, Shifted}
use Rattle.numbers.specs.Root.{step_root, root_in, root_of_nat, sticky, root_of}
use Rattle.numbers.specs.Mantissa.{NearRoot, Digits, RootFrom}

-- ---- squares
sq_mono : {a b : ℕ} → a ≤ b → a * a ≤ b * b
sq_mono h = mul-le-mul h h

pub sq_lt_back : (a b : ℕ) → a * a < b * b → a < b
sq_lt_back a b h = lt_of_not-le (λ (g : b ≤ a). not-le_of_lt h (sq_mono g))

pub sq_le_back : (a b n : ℕ) → a * a ≤ n → n < b * b → a < b
sq_le_back a b n h k = sq_lt_back a b (lt_of_le_of_lt h k)

twice_sq : (a : ℕ) → 2 * a * (2 * a) ≡ a * a * 4
twice_sq a = mul-mul-mul_comm 2 a 2 a ∙ mul_comm 4 (a * a)

sum_sq : (p b : ℕ) → (p + b) * (p + b) ≡ p * p + 2 * (p * b) + b * b
sum_sq p b =
    let x : (p + b) * (p + b) ≡ p * (p + b) + b * (p + b) = add-mul p b (p + b) in
    let y : p * (p + b) ≡ p * p + p * b = mul-add p p b in
    let z : b * (p + b) ≡ b * p + b * b = mul-add b p b in
    let w : b * p ≡ p * b = mul_comm b p in
    omega arith

-- ---- what `root_of_nat` says
abbrev pub IsRoot : ℕ → ℕ → Type 0
IsRoot n r = (r * r ≤ n) × (n < (r + 1) * (r + 1))

-- one digit more
one_digit : (n r : ℕ) → IsRoot (n / 4) r → IsRoot n (step_root n r)
one_digit n r h = go (leb ((2 * r + 1) * (2 * r + 1)) n) refl
  where
    up-two : 2 * r + 1 + 1 ≡ 2 * (r + 1)
    up-two = omega arith

    go : (b : Bool) → leb ((2 * r + 1) * (2 * r + 1)) n ≡ b → IsRoot n (cond b (2 * r + 1) (2 * r))
    go true e =
        let x : (2 * r + 1 + 1) * (2 * r + 1 + 1) ≡ (r + 1) * (r + 1) * 4 = ap (λ (z : ℕ). z * z) up-two ∙ twice_sq (r + 1) in
        let y : n / 4 < (r + 1) * (r + 1) = h.1 in
        (leb-true ((2 * r + 1) * (2 * r + 1)) n e, omega arith)
    go false e =
        let x : 2 * r * (2 * r) ≡ r * r * 4 = twice_sq r in
        let y : r * r ≤ n / 4 = h.0 in
        (omega arith, leb-false ((2 * r + 1) * (2 * r + 1)) n e)

root_in_lem : (k n : ℕ) → n < 2 ^ (k + k) → IsRoot n (root_in k n)
unfolding root_in
root_in_lem zero n h = (zero-le, h)
root_in_lem (suc k) n h = one_digit n (root_in k (n / 4)) (root_in_lem k (n / 4) ((div-lt_iff_lt-mul (zero-lt-suc 3)).1 (lt_of_lt_of_le h (le_of_eq (ap (λ (z : ℕ). 2 ^ z) (two_more k) ∙ pow-add 2 (k + k) 2)))))
  where
    two_more : (k : ℕ) → suc k + suc k ≡ k + k + 2
    two_more k = omega arith

pub root_is : (n : ℕ) → IsRoot n (root_of_nat n)
unfolding root_of_nat
root_is n = root_in_lem (size n) n (lt_of_lt_of_le (size-lt n) (pow_mono (le-add_right (size n) (size n))))

-- ---- a square by halves
pub halves : (s : ℕ) → let a = s / 134217728 in let b = s % 134217728 in let low = b * b + a * b % 67108864 * 268435456 in s * s ≡ (a * a + a * b / 67108864 + low / 18014398509481984) * 18014398509481984 + low % 18014398509481984
halves s =
    let a = s / 134217728 in
    let b = s % 134217728 in
    let p = a * 134217728 in
    let x : s ≡ p + b = omega arith in
    let y : s * s ≡ p * p + 2 * (p * b) + b * b = ap (λ (z : ℕ). z * z) x ∙ sum_sq p b in
    let u : p * p ≡ a * a * 18014398509481984 = mul-mul-mul_comm a 134217728 a 134217728 in
    let v : p * b ≡ a * b * 134217728 = mul_right_comm a 134217728 b in
    omega arith

pub product_lt : (i j a b : ℕ) → a < 2 ^ i → b < 2 ^ j → a * b < 2 ^ (i + j)
product_lt i j a b h k = lt_of_lt_of_le (lt_of_le_of_lt (mul-le-mul_left a (le_of_lt k)) (mul-lt-mul_of_pos_right h (pow_pos j))) (le_of_eq (sym (pow-add 2 i j)))

pub same_leb : (a b c d : ℕ) → (a ≤ b → c ≤ d) → (c ≤ d → a ≤ b) → leb a b ≡ leb c d
same_leb a b c d f g = go (dec_le a b)
  where
    go : Dec (a ≤ b) → leb a b ≡ leb c d
    go (yes h) = le-leb a b h ∙ sym (le-leb c d (f h))
    go (no h) = lt-leb a b (lt_of_not-le h) ∙ sym (lt-leb c d (lt_of_not-le (λ k. h (g k))))

-- two numbers of two words each, compared without a branch
pub two-words : (h hi l lo : ℕ) → l < 2 ^ 54 → lo < 2 ^ 54 → (ltb h hi || (eqb h hi && leb l lo)) ≡ leb (h * 2 ^ 54 + l) (hi * 2 ^ 54 + lo)
two-words h hi l lo L O = go (dec_lt h hi) (dec_lt hi h)
  where
    n : ℕ
    n = h * 18014398509481984 + l

    m : ℕ
    m = hi * 18014398509481984 + lo

    go : Dec (h < hi) → Dec (hi < h) → (ltb h hi || (eqb h hi && leb l lo)) ≡ leb n m
    go (yes p) d = ap (λ (b : Bool). b || (eqb h hi && leb l lo)) (lt-ltb h hi p) ∙ sym (le-leb n m (omega arith))
    go (no p) (yes q) =
        ap (λ (b : Bool). b || (eqb h hi && leb l lo)) (le-ltb h hi (le_of_lt q))
        ∙ ap (λ (b : Bool). b && leb l lo) (ne_eqb h hi (λ e. lt_irrefl h (subst (λ (z : ℕ). z < h) (sym e) q)))
        ∙ sym (lt-leb n m (omega arith))
    go (no p) (no q) =
        let e : h ≡ hi = omega arith in
        ap (λ (b : Bool). b || (eqb h hi && leb l lo)) (le-ltb h hi (le_of_eq (sym e)))
        ∙ ap (λ (b : Bool). b && leb l lo) (eq-eqb h hi e)
        ∙ same_leb l lo n m (λ k. omega arith) (λ k. omega arith)

-- the square of 2 * q is within 4 * q of n
pub near-square : (n q : ℕ) → 0 < q → 2 * q * (2 * q) < n + 4 * q → n ≤ 2 * q * (2 * q) + 4 * q → NearRoot n q
near-square n q Q lo hi =
    let y = 2 * q - 1 in
    let e : 2 * q ≡ y + 1 = omega arith in
    let a : 2 * q * (2 * q) ≡ y * y + 2 * (y * 1) + 1 * 1 = ap (λ (z : ℕ). z * z) e ∙ sum_sq y 1 in
    let b : (2 * q + 1) * (2 * q + 1) ≡ 2 * q * (2 * q) + 2 * (2 * q * 1) + 1 * 1 = sum_sq (2 * q) 1 in
    record { lo = omega arith; hi = omega arith }

-- ---- the square of q by halves of 26 digits
module _ (q : ℕ) (Q : q ≤ 2 ^ 53) where
  abbrev upper : ℕ
  upper = q / 67108864

  abbrev lower : ℕ
  lower = q % 67108864

  upper_lt : upper < 2 ^ 28
  upper_lt = omega arith

  lower_lt : lower < 2 ^ 26
  lower_lt = omega arith

  pub upper_few : upper * upper < 2 ^ 56
  upper_few = product_lt 28 28 upper upper upper_lt upper_lt

  pub middle-few : upper * lower < 2 ^ 54
  middle-few = product_lt 28 26 upper lower upper_lt lower_lt

  pub lower_few : lower * lower < 2 ^ 52
  lower_few = product_lt 26 26 lower lower lower_lt lower_lt

  square-is : q * q ≡ upper * upper * 4503599627370496 + upper * lower * 134217728 + lower * lower
  square-is =
      let p = upper * 67108864 in
      let x : q ≡ p + lower = omega arith in
      let y : q * q ≡ p * p + 2 * (p * lower) + lower * lower = ap (λ (z : ℕ). z * z) x ∙ sum_sq p lower in
      let u : p * p ≡ upper * upper * 4503599627370496 = mul-mul-mul_comm upper 67108864 upper 67108864 in
      let v : p * lower ≡ upper * lower * 67108864 = mul_right_comm upper 67108864 lower in
      omega arith

  -- u is what the upper half leaves of hi, and d what the products of both leave of u, raised; neither has wrapped
  pub near_halves : (hi u d t : ℕ) → (u + upper * upper) % 2 ^ 64 ≡ hi → u < 1073741824 → (d + u * 67108864) % 2 ^ 64 ≡ 2 * (upper * lower) + 268435456 → d < 536870912
      → (t + 18014398509481984) % 2 ^ 64 ≡ d * 67108864 + lower * lower + q → t < 2 * q → NearRoot (hi * 2 ^ 54) q
  near_halves hi u d t e₁ l₁ e₂ l₂ e₃ l₃ =
      let a : u + upper * upper ≡ hi = omega (arith, upper_few) in
      let b : d + u * 67108864 ≡ 2 * (upper * lower) + 268435456 = omega arith in
      let c : t + 18014398509481984 ≡ d * 67108864 + lower * lower + q = omega arith in
      let f : 2 * q * (2 * q) ≡ q * q * 4 = twice_sq q in
      near-square (hi * 2 ^ 54) q (omega arith) (omega (arith, square-is)) (omega (arith, square-is))

-- ---- a digit of the slow root: i falls by one
abbrev pub Bracket : ℕ → ℕ → ℕ → Type 0
Bracket n s i = (i ≤ 54) × (s + 2 ^ i ≤ 2 ^ 54) × (s * s ≤ n) × (n < (s + 2 ^ i) * (s + 2 ^ i))

module _ (n s i : ℕ) (I : 0 < i) (B : Bracket n s i) where
  abbrev t : ℕ
  t = s + 2 ^ (i - 1)

  halved : 2 ^ i ≡ 2 ^ (i - 1) + 2 ^ (i - 1)
  halved = ap (λ (z : ℕ). 2 ^ z) (back i I) ∙ pow-succ' 2 (i - 1) ∙ twice (2 ^ (i - 1))
    where
      back : (i : ℕ) → 0 < i → i ≡ suc (i - 1)
      back i h = omega arith

      twice : (p : ℕ) → 2 * p ≡ p + p
      twice p = omega arith

  whole : t + 2 ^ (i - 1) ≡ s + 2 ^ i
  whole = let h : 2 ^ i ≡ 2 ^ (i - 1) + 2 ^ (i - 1) = halved in omega arith

  less : i - 1 ≤ 54
  less = omega arith

  pub t_le : t ≤ 2 ^ 54
  t_le =
      let h : 2 ^ i ≡ 2 ^ (i - 1) + 2 ^ (i - 1) = halved in
      omega arith

  pub taken : t * t ≤ n → Bracket n t (i - 1)
  taken h = (less, le_trans (le_of_eq whole) B.1, h, lt_of_lt_of_le B.3 (le_of_eq (ap (λ (z : ℕ). z * z) (sym whole))))

  pub left : n < t * t → Bracket n s (i - 1)
  left h = (less, t_le, B.2, h)

-- from a root to the nearest whole number to its half
pub half-root : (n s : ℕ) → s * s ≤ n → n < (s + 1) * (s + 1) → NearRoot n ((s + 1) / 2)
half-root n s a b = record {
  lo = le_trans (sq_mono (low s)) a;
  hi = lt_of_lt_of_le b (sq_mono (high s));
}
  where
    low : (s : ℕ) → 2 * ((s + 1) / 2) - 1 ≤ s
    low s = omega arith

    high : (s : ℕ) → s + 1 ≤ 2 * ((s + 1) / 2) + 1
    high s = omega arith

-- ---- the rounded root. X is n * H * H, and q the nearest whole number to half the root of n
odd_sq : (j : ℕ) → (2 * j + 1) * (2 * j + 1) % 2 ≡ 1
odd_sq j =
    let x : (2 * j + 1) * (2 * j + 1) ≡ 2 * j * (2 * j) + 2 * (2 * j * 1) + 1 * 1 = sum_sq (2 * j) 1 in
    let y : 2 * j * (2 * j) ≡ j * j * 4 = twice_sq j in
    omega arith

module _ (n q H X : ℕ) (HP : 0 < H) (E : X ≡ n * (H * H)) (N : NearRoot n q) (even : n % 2 ≡ 0) (nlo : 2 ^ 106 ≤ n) (nhi : n < 2 ^ 108) where
  abbrev S : ℕ
  S = root_of_nat X

  abbrev W : ℕ
  W = sticky X

  HH : 0 < H * H
  HH = mul-pos HP HP

  scale : (a : ℕ) → a * H * (a * H) ≡ a * a * (H * H)
  scale a = mul-mul-mul_comm a H a H

  over : (a : ℕ) → n < a * a → S < a * H
  over a h = sq_le_back S (a * H) X (root_is X).0 (lt_of_le_of_lt (le_of_eq E) (lt_of_lt_of_le (mul-lt-mul_of_pos_right h HH) (le_of_eq (sym (scale a)))))

  under : (a : ℕ) → a * a ≤ n → a * H ≤ S
  under a h =
      let k : a * H < S + 1 = sq_le_back (a * H) (S + 1) X (le_trans (le_of_eq (scale a)) (le_trans (mul-le-mul_right (H * H) h) (le_of_eq (sym E)))) (root_is X).1 in
      omega arith

  W_is : W ≡ 2 * S + cond (ltb (S * S) X) 1 0
  unfolding sticky
  W_is = refl

  W_low : 2 * S ≤ W
  W_low = le_trans (le-add_right (2 * S) (cond (ltb (S * S) X) 1 0)) (le_of_eq (sym W_is))

  W_high : W ≤ 2 * S + 1
  W_high = go (ltb (S * S) X) W_is
    where
      go : (b : Bool) → W ≡ 2 * S + cond b 1 0 → W ≤ 2 * S + 1
      go true e = le_of_eq e
      go false e = omega arith

  W_more : S * S < X → W ≡ 2 * S + 1
  W_more h = W_is ∙ ap (λ (b : Bool). 2 * S + cond b 1 0) (lt-ltb (S * S) X h)

  pub W_over : (a : ℕ) → n < a * a → W < 2 * (a * H)
  W_over a h =
      let x : S < a * H = over a h in
      let y : W ≤ 2 * S + 1 = W_high in
      omega arith

  pub W_under : (a : ℕ) → a * a ≤ n → 2 * (a * H) ≤ W
  W_under a h =
      let x : a * H ≤ S = under a h in
      let y : 2 * S ≤ W = W_low in
      omega arith

  pub W_past : (a : ℕ) → a * a < n → 2 * (a * H) < W
  W_past a h = elim (eq-or-lt_of_le (under a (le_of_lt h))) [
    | inl e ↦
        let x : W ≡ 2 * S + 1 = W_more (subst (λ (z : ℕ). z * z < X) e (lt_of_le_of_lt (le_of_eq (scale a)) (lt_of_lt_of_le (mul-lt-mul_of_pos_right h HH) (le_of_eq (sym E))))) in
        more (a * H) S W e x
    | inr l ↦ strict (a * H) S W l W_low
  ]
    where
      more : (b s w : ℕ) → b ≡ s → w ≡ 2 * s + 1 → 2 * b < w
      more b s w e h = omega arith

      strict : (b s w : ℕ) → b < s → 2 * s ≤ w → 2 * b < w
      strict b s w l h = omega arith

  pub q_low : 2 ^ 52 ≤ q
  q_low = go q (sq_le_back (2 ^ 53) (2 * q + 1) n nlo N.hi)
    where
      go : (q : ℕ) → 9007199254740992 < 2 * q + 1 → 4503599627370496 ≤ q
      go q h = omega arith

  pub q_high : q ≤ 2 ^ 53
  q_high = go q (sq_le_back (2 * q - 1) (2 ^ 54) n N.lo nhi)
    where
      go : (q : ℕ) → 2 * q - 1 < 18014398509481984 → q ≤ 9007199254740992
      go q h = omega arith

  -- n is even, and no odd number's square
  lo_strict : (2 * q - 1) * (2 * q - 1) < n
  lo_strict = elim (eq-or-lt_of_le N.lo) [
    | inl e ↦ absurd (no ((2 * q - 1) * (2 * q - 1)) (ap (λ (z : ℕ). z % 2) e ∙ even) (ap (λ (z : ℕ). z * z % 2) (turn q q_low) ∙ odd_sq (q - 1)))
    | inr l ↦ l
  ]
    where
      no : (a : ℕ) → a % 2 ≡ 0 → a % 2 ≡ 1 → ⊥
      no a h k = omega arith

      turn : (q : ℕ) → 4503599627370496 ≤ q → 2 * q - 1 ≡ 2 * (q - 1) + 1
      turn q h = omega arith

  -- the rounded root, where 2 ^ k is twice H
  module _ (k : ℕ) (K : 2 ^ k ≡ 2 * H) where
    pub root_units : round binary64 false W (2 ^ 1075) ≡ units binary64 false q k
    root_units =
        round_normal binary64 false W (2 ^ 1075) k (pow_pos 1075)
        (subst (λ (z : ℕ). 2 ^ 52 * z * 2 ^ 1075 ≤ W * 2 ^ 1074) (sym K) (low (2 ^ 1074) H W (W_under (2 ^ 53) nlo)))
        (subst (λ (z : ℕ). W * 2 ^ 1074 < 2 ^ 53 * z * 2 ^ 1075) (sym K) (high (2 ^ 1074) H W (pow_pos 1074) (W_over (2 ^ 54) nhi)))
        ∙ ap (λ (z : ℕ). units binary64 false z k)
        (closest_is (W * 2 ^ 1074) (2 ^ 1075 * 2 ^ k) q (mul-pos (pow_pos 1075) (pow_pos k))
        (subst (λ (z : ℕ). 2 * (W * 2 ^ 1074) < (2 * q + 1) * (2 ^ 1075 * z)) (sym K) (above (2 ^ 1074) H W q (pow_pos 1074) (W_over (2 * q + 1) N.hi)))
        (subst (λ (z : ℕ). 2 * q * (2 ^ 1075 * z) < 2 * (W * 2 ^ 1074) + 2 ^ 1075 * z) (sym K) (below (2 ^ 1074) H W q (pow_pos 1074) q_low (W_past (2 * q - 1) lo_strict))))
      where
        low : (u H W : ℕ) → 2 * (9007199254740992 * H) ≤ W → 4503599627370496 * (2 * H) * (2 * u) ≤ W * u
        low u H W h =
            let a : 4503599627370496 * (2 * H) ≡ 9007199254740992 * H = omega arith in
            let b : 4503599627370496 * (2 * H) * (2 * u) ≡ 18014398509481984 * (H * u) = ap (λ (z : ℕ). z * (2 * u)) a ∙ mul-mul-mul_comm 9007199254740992 H 2 u in
            let d : 2 * (9007199254740992 * H) ≡ 18014398509481984 * H = omega arith in
            let e : 2 * (9007199254740992 * H) * u ≡ 18014398509481984 * (H * u) = ap (λ (z : ℕ). z * u) d ∙ mul_assoc 18014398509481984 H u in
            le_trans (le_of_eq (b ∙ sym e)) (mul-le-mul_right u h)

        high : (u H W : ℕ) → 0 < u → W < 2 * (18014398509481984 * H) → W * u < 9007199254740992 * (2 * H) * (2 * u)
        high u H W U h =
            let a : 9007199254740992 * (2 * H) ≡ 18014398509481984 * H = omega arith in
            let b : 9007199254740992 * (2 * H) * (2 * u) ≡ 36028797018963968 * (H * u) = ap (λ (z : ℕ). z * (2 * u)) a ∙ mul-mul-mul_comm 18014398509481984 H 2 u in
            let d : 2 * (18014398509481984 * H) ≡ 36028797018963968 * H = omega arith in
            let e : 2 * (18014398509481984 * H) * u ≡ 36028797018963968 * (H * u) = ap (λ (z : ℕ). z * u) d ∙ mul_assoc 36028797018963968 H u in
            lt_of_lt_of_le (mul-lt-mul_of_pos_right h U) (le_of_eq (e ∙ sym b))

        turn : (y u H : ℕ) → y * (2 * u * (2 * H)) ≡ 4 * (y * H * u)
        turn y u H = ap (λ (z : ℕ). y * z) (mul-mul-mul_comm 2 u 2 H) ∙ mul_left_comm y 4 (u * H) ∙ ap (λ (z : ℕ). 4 * z) (ap (λ (z : ℕ). y * z) (mul_comm u H) ∙ sym (mul_assoc y H u))

        above : (u H W q : ℕ) → 0 < u → W < 2 * ((2 * q + 1) * H) → 2 * (W * u) < (2 * q + 1) * (2 * u * (2 * H))
        above u H W q U h =
            let a : (2 * q + 1) * (2 * u * (2 * H)) ≡ 4 * ((2 * q + 1) * H * u) = turn (2 * q + 1) u H in
            let b : 2 * ((2 * q + 1) * H) * u ≡ 2 * ((2 * q + 1) * H * u) = mul_assoc 2 ((2 * q + 1) * H) u in
            let d : W * u < 2 * ((2 * q + 1) * H) * u = mul-lt-mul_of_pos_right h U in
            omega arith

        below : (u H W q : ℕ) → 0 < u → 4503599627370496 ≤ q → 2 * ((2 * q - 1) * H) < W → 2 * q * (2 * u * (2 * H)) < 2 * (W * u) + 2 * u * (2 * H)
        below u H W q U Q h =
            let y = 2 * q - 1 in
            let e : 2 * q ≡ y + 1 = omega arith in
            let a : 2 * q * (2 * u * (2 * H)) ≡ y * (2 * u * (2 * H)) + 1 * (2 * u * (2 * H)) = ap (λ (z : ℕ). z * (2 * u * (2 * H))) e ∙ add-mul y 1 (2 * u * (2 * H)) in
            let b : y * (2 * u * (2 * H)) ≡ 4 * (y * H * u) = turn y u H in
            let d : 2 * (y * H) * u ≡ 2 * (y * H * u) = mul_assoc 2 (y * H) u in
            let f : 2 * (y * H) * u < W * u = mul-lt-mul_of_pos_right h U in
            omega arith

-- ---- from a float's mantissa m and exponent e: n is m * 2 ^ c, with c 54 or 55, so that e + 54 is c and an even number
module _ (x : Float) (m e c g q : ℕ) (P : T (positive x)) (Y : Normal x m e) (C : e + 54 ≡ c + (g + g)) (clo : 54 ≤ c) (chi : c ≤ 55) (N : NearRoot (m * 2 ^ c) q) where
  abbrev h : ℕ
  h = g + 484

  whole_part : num x * 2 ^ 2148 / den x ≡ m * 2 ^ c * (2 ^ h * 2 ^ h)
  whole_part =
      ap (λ (z : ℕ). z / den x)
      (sym (joined (num x) 1126 1022 2148 refl)
      ∙ ap (λ (z : ℕ). z * 2 ^ 1022) Y.val
      ∙ mul_right_comm (m * 2 ^ e) (den x) (2 ^ 1022)
      ∙ ap (λ (z : ℕ). z * den x) (joined m e 1022 (c + (h + h)) (exps e c g C) ∙ ap (λ (z : ℕ). m * z) (pow-add 2 c (h + h)) ∙ sym (mul_assoc m (2 ^ c) (2 ^ (h + h))) ∙ ap (λ (z : ℕ). m * 2 ^ c * z) (pow-add 2 h h)))
      ∙ mul-div_cancel (m * 2 ^ c * (2 ^ h * 2 ^ h)) (den_pos x)
    where
      exps : (e c g : ℕ) → e + 54 ≡ c + (g + g) → e + 1022 ≡ c + (g + 484 + (g + 484))
      exps e c g h = omega arith

  is_even : m * 2 ^ c % 2 ≡ 0
  is_even = ap (λ (z : ℕ). m * 2 ^ z % 2) (turn c clo) ∙ ap (λ (z : ℕ). m * z % 2) (pow-suc 2 (c - 1)) ∙ ap (λ (z : ℕ). z % 2) (sym (mul_assoc m (2 ^ (c - 1)) 2)) ∙ mul-mod_left (m * 2 ^ (c - 1)) 2
    where
      turn : (c : ℕ) → 54 ≤ c → c ≡ suc (c - 1)
      turn c h = omega arith

  n_low : 2 ^ 106 ≤ m * 2 ^ c
  n_low = mul-le-mul {n₁ = 2 ^ 52} {m₁ = 2 ^ 54} Y.lo (pow_mono clo)

  n_high : m * 2 ^ c < 2 ^ 108
  n_high = lt_of_lt_of_le (mul-lt-mul_of_pos_right Y.hi (pow_pos c)) (mul-le-mul_left (2 ^ 53) (pow_mono chi))

  doubled : 2 ^ (g + 485) ≡ 2 * 2 ^ h
  doubled = ap (λ (z : ℕ). 2 ^ z) (next g) ∙ pow-succ' 2 h
    where
      next : (g : ℕ) → g + 485 ≡ suc (g + 484)
      next g = omega arith

  pub low-enough : 2 ^ 52 ≤ q
  low-enough = q_low (m * 2 ^ c) q (2 ^ h) (num x * 2 ^ 2148 / den x) (pow_pos h) whole_part N is_even n_low n_high

  pub high-enough : q ≤ 2 ^ 53
  high-enough = q_high (m * 2 ^ c) q (2 ^ h) (num x * 2 ^ 2148 / den x) (pow_pos h) whole_part N is_even n_low n_high

  rounded : round binary64 false (sticky (num x * 2 ^ 2148 / den x)) (2 ^ 1075) ≡ units binary64 false q (g + 485)
  rounded = root_units (m * 2 ^ c) q (2 ^ h) (num x * 2 ^ 2148 / den x) (pow_pos h) whole_part N is_even n_low n_high (g + 485) doubled

  pub pattern_lt : (g + 485) * 2 ^ 52 + q < 2047 * 2 ^ 52
  pattern_lt = go e c g q C Y.few clo high-enough
    where
      go : (e c g q : ℕ) → e + 54 ≡ c + (g + g) → e < 2200 → 54 ≤ c → q ≤ 9007199254740992 → (g + 485) * 4503599627370496 + q < 2047 * 4503599627370496
      go e c g q a b d f = omega arith

  pub root_bits : of_bits binary64 ((g + 485) * 2 ^ 52 + q) ≡ root_of x
  unfolding root_of
  root_bits = round_bits binary64 (sticky (num x * 2 ^ 2148 / den x)) (2 ^ 1075) q (g + 485) rounded (high-enough, inr low-enough) pattern_lt ∙ at x P
    where
      at : (x : Float) → T (positive x) → round binary64 false (sticky (num x * 2 ^ 2148 / den x)) (2 ^ 1075) ≡ root_of x
      at nan p = absurd p
      at (inf s) p = absurd p
      at (fin true m e) p = absurd p
      at (fin false zero e) p = absurd p
      at (fin false (suc m) e) p = refl

-- a number times a remainder by 2 is at most the number
pub at_most : (d e : ℕ) → d * (e % 2) ≤ d
at_most d e = le_trans (mul-le-mul_left d (let h : e % 2 ≤ 1 = omega arith in h)) (le_of_eq (mul-one d))

-- what `root_from` cites: the result's pattern
pub record Result (x : Float) (e q : ℕ) : Type 0 where
  pub few : (e / 2 + 485) * 2 ^ 52 + q < 2047 * 2 ^ 52
  pub is : of_bits binary64 ((e / 2 + 485) * 2 ^ 52 + q) ≡ root_of x

pub result : (x : Float) (m e q : ℕ) → T (positive x) → Normal x m e → NearRoot ((m + m * (e % 2)) * 2 ^ 54) q → Result x e q
result x m e q P Y N = by_cases (eqb (e % 2) 0) (λ h. even (eqb-true (e % 2) 0 h)) (λ h. odd (eqb-false (e % 2) 0 h))
  where
    at : (c : ℕ) → e + 54 ≡ c + (e / 2 + e / 2) → 54 ≤ c → c ≤ 55 → NearRoot (m * 2 ^ c) q → Result x e q
    at c C a b R = record { few = pattern_lt x m e c (e / 2) q P Y C a b R; is = root_bits x m e c (e / 2) q P Y C a b R }

    same : (k n : ℕ) → e % 2 ≡ k → (m + m * k) * 2 ^ 54 ≡ n → NearRoot n q
    same k n h g = subst (λ (z : ℕ). NearRoot z q) (ap (λ (z : ℕ). (m + m * z) * 2 ^ 54) h ∙ g) N

    even : e % 2 ≡ 0 → Result x e q
    even h =
        let C : e + 54 ≡ 54 + (e / 2 + e / 2) = omega arith in
        let M : (m + m * 0) * 2 ^ 54 ≡ m * 2 ^ 54 = omega arith in
        at 54 C (lit≤ tt) (lit≤ tt) (same 0 (m * 2 ^ 54) h M)

    odd : (e % 2 ≡ 0 → ⊥) → Result x e q
    odd h =
        let o : e % 2 ≡ 1 = omega arith in
        let C : e + 54 ≡ 55 + (e / 2 + e / 2) = omega arith in
        let M : (m + m * 1) * 2 ^ 54 ≡ m * 2 ^ 55 = omega arith in
        at 55 C (lit≤ tt) (lit≤ tt) (same 1 (m * 2 ^ 55) o M)

-- the pattern is in range
pub root-few : (m e q : ℕ) → Digits m e → NearRoot ((m + m * (e % 2)) * 2 ^ 54) q → (e / 2 + 485) * 2 ^ 52 + q < 2047 * 2 ^ 52
root-few m e q D N = go e q D.few (sq_le_back (2 * q - 1) (2 ^ 54) _ N.lo (room m e D.hi))
  where
    go : (e q : ℕ) → e < 2200 → 2 * q - 1 < 18014398509481984 → (e / 2 + 485) * 4503599627370496 + q < 2047 * 4503599627370496
    go e q a b = omega arith

    room : (m e : ℕ) → m < 9007199254740992 → (m + m * (e % 2)) * 18014398509481984 < 18014398509481984 * 18014398509481984
    room m e h = let k : m * (e % 2) ≤ m = at_most m e in omega arith

-- a float is the root if its pattern is the exponent's half and the digits of the root
pub root_by_digits : (r : Float) (m e q : ℕ) → T (fits binary64 r) → Digits m e → (q + (e / 2 + 485) * 2 ^ 52) % 2 ^ 64 ≡ to_bits binary64 r → NearRoot ((m + m * (e % 2)) * 2 ^ 54) q → RootFrom m e r
root_by_digits r m e q F D w N =
    record { is = λ x p y. sym (of_bits-to_bits binary64 r F) ∙ ap (of_bits binary64) (sym w ∙ whole ((e / 2 + 485) * 2 ^ 52) q (root-few m e q D N)) ∙ (result x m e q p y N).is }
  where
    whole : (h q : ℕ) → h + q < 9218868437227405312 → (q + h) % 18446744073709551616 ≡ h + q
    whole h q l = omega arith

-- ---- a whole number as a float

whole-value : (n : ℕ) → n ≤ 2 ^ 53 → HasValue (of_int binary64 (pos n)) false (n * 2 ^ 1074) (2 ^ 1074)
unfolding of_int
whole-value n h = scaled (round binary64 false n 1) (round_whole binary64 false n h)
  where
    scaled : (x : Float) → HasValue x false n 1 → HasValue x false (n * 2 ^ 1074) (2 ^ 1074)
    scaled nan v = v
    scaled (inf s) v = v
    scaled (fin s m e) v =
        (v.0, ap (λ (z : ℕ). z * 2 ^ 1074) (sym (mul-one (m * up e)) ∙ v.1) ∙ mul_right_comm n (down e) (2 ^ 1074))

pub whole-root-is : (n m e : ℕ) (r : Float) → 0 < n → n < 2 ^ 53 → Shifted n 1074 m e → RootFrom m e r → r ≡ root_of (of_int binary64 (pos n))
whole-root-is n m e r N B S R =
    let v = whole-value n (le_of_lt B) in
    let P = positive_of_value (of_int binary64 (pos n)) (n * 2 ^ 1074) (2 ^ 1074) v (mul-pos N (pow_pos 1074)) in
    R.is (of_int binary64 (pos n)) P (normal (of_int binary64 (pos n)) (of_int-fits binary64 (pos n)) P n 1074 m e v (lit< tt) S)

-- a pattern below the infinity's is no NaN's
pub no_nan_bits : (b : ℕ) → b < 2047 * 2 ^ 52 → T (not (nan_bits binary64 b))
no_nan_bits b h = subst (λ (k : Bool). T (not k)) (sym (nan_bits_above binary64 b ∙ le-ltb (2047 * 2 ^ 52) (b % 9223372036854775808) (go b h))) tt
  where
    go : (b : ℕ) → b < 9218868437227405312 → b % 9223372036854775808 ≤ 9218868437227405312
    go b h = omega arith

-- ---- the arms of `sqrt`
pub root-top : (x : Float) → lt nought x ≡ true → lt x (inf false) ≡ false → x ≡ root_of x
unfolding root_of lt
root-top nan a b = absurd (true≢false (sym a))
root-top (inf true) a b = absurd (true≢false (sym a))
root-top (inf false) a b = refl
root-top (fin s m e) a b = absurd (true≢false b)

pub root_zero : (x : Float) → eq x nought ≡ true → x ≡ root_of x
unfolding root_of eq
root_zero nan a = absurd (true≢false (sym a))
root_zero (inf s) a = absurd (true≢false (sym a))
root_zero (fin s zero e) a = refl
root_zero (fin s (suc m) e) a = not_zero s m e a

pub root_none : (x : Float) → lt nought x ≡ false → eq x nought ≡ false → nan ≡ root_of x
unfolding root_of lt eq
root_none nan a b = refl
root_none (inf true) a b = refl
root_none (inf false) a b = absurd (true≢false a)
root_none (fin s zero e) a b = absurd (true≢false (sym (zero_equal s e) ∙ b))
root_none (fin true (suc m) e) a b = refl
root_none (fin false (suc m) e) a b = absurd (go (suc m * up e) (down e) (mul-pos (zero-lt-suc m) (up_pos e)) (ltb-false (0 * down e) (suc m * up e * 1) a))
  where
    go : (n d : ℕ) → 0 < n → n * 1 ≤ 0 * d → ⊥
    go n d h k = omega arith
