-- A share of a number: c * x is at most x for a c up to 1, and below it where c is up to 1 - 2 ^ (1 - prec) and x is normal.
-- Either order of the factors. Assumes nothing.
use mathlib.Core.Path.{◌≡◌, refl, sym, ap, ◌∙◌, subst}
use mathlib.Core.Logic.{inl, inr}
use mathlib.Core.Bool.{true, false}
use Prim.Native.Nat.{ℕ, suc, ◌+◌, ◌-◌, ◌*◌, ◌/◌, ◌%◌, ◌^◌, ◌≤◌, ◌<◌}
use native.Mathlib.Nat.{le_trans, le_of_eq, le_of_lt, lt_of_lt_of_le, lt_irrefl, le-add_right, add-mul, eq-zero-or-pos, le_of_mul-le-mul_right, one-mul, mul-one, mul_comm, mul_assoc, mul_left_comm, mul_right_comm, mul-le-mul_right, mul-le-mul_left, mul-lt-mul_of_pos_right, mul-pos, lt_of_mul-lt-mul_right, suc-mul, div-add-mod', le-div_iff_mul-le}
use native.Mathlib.Omega.{arith}
use native.Mathlib.Decide.{dec_lt}
use lib.IntN.{ℤ, pos, negsuc}
use lib.Dec.{T, ltb→lt}
use lib.Pow.{pow-add, pow_pos}
use lib.Ieee.{Float, nan, inf, fin, Format, binary32, binary64, prec, emax, low, hid, up, down, size, round, mul, lt, eq, le, fits, of_bits}
use lib.Ieee.Digits.{size_reaches}
use lib.Ieee.Fits.{up_pos, down_pos}
use lib.Ieee.Nearest.{closest}
use lib.Ieee.Order.{drop, kept}
use lib.Ieee.Scale.{grid, round_val}
use lib.Ieee.Positive.{num, den, positive, den_pos, own_value, mul_at, above, above_of_le, le→cross}
use borrow.Author.Tests.{ne_eqb}
use Rattle.loops.proofs.Cases.{never}
use Rattle.floats.proofs.RoundLaws.{nearest_lt, nearest_eq, nearest_gt}
use Rattle.floats.proofs.ExactLaws.{fits_range, round-at-most, round-at-least, lt_of_values}
use Rattle.floats.proofs.NextLaws.{whole-field}
use Rattle.floats.proofs.SwapLaws.{mul_swap}
use Rattle.floats.proofs.OrderLaws.{lt_le}
use Rattle.floats.proofs.SignLaws.{unsigned}

-- ---- at most the whole

cross : (p q m d : ℕ) → p ≤ q → p * m * d ≤ m * (q * d)
cross p q m d h = le_trans (mul-le-mul_right d (mul-le-mul_right m h)) (le_of_eq (ap (λ (z : ℕ). z * d) (mul_comm q m) ∙ mul_assoc m q d))

pub share_le : (f : Format) (c x : Float) → T (positive c) → num c ≤ den c → T (fits f x) → T (unsigned x) → le (mul f c x) x ≡ true
unfolding mul le lt eq
share_le f nan x C h F X = absurd C
share_le f (inf s) x C h F X = absurd C
share_le f (fin true m e) x C h F X = absurd C
share_le f (fin false m e) nan C h F X = absurd X
share_le f (fin false m e) (inf true) C h F X = absurd X
share_le f (fin false m e) (inf false) C h F X = rw (ne_eqb m 0 (λ z. lt_irrefl 0 (subst (λ (k : ℕ). 0 < k) z (ltb→lt 0 m C))))
share_le f (fin false m e) (fin true n d) C h F X = absurd X
share_le f (fin false m e) (fin false n d) C h F X =
    round-at-most f (m * up e * (n * up d)) (down e * down d) n d (mul-pos (down_pos e) (down_pos d)) F (cross (m * up e) (down e) (n * up d) (down d) h)

pub share_le_right : (f : Format) (c x : Float) → T (positive c) → num c ≤ den c → T (fits f x) → T (unsigned x) → le (mul f x c) x ≡ true
share_le_right f c x C h F X = subst (λ (z : Float). le z x ≡ true) (mul_swap f c x) (share_le f c x C h F X)

-- ---- below the whole

tie_le : (q b a r : ℕ) → q * b + r ≡ a → r * 2 ≡ b → 2 * ((q + q % 2) * b) ≤ 2 * a + b
tie_le q b a r e h =
    let k : (q + q % 2) * b ≤ suc q * b = mul-le-mul_right b (let z : q + q % 2 ≤ suc q = omega arith in z) in
    let y : suc q * b ≡ q * b + b = suc-mul q b in
    omega arith

-- rounded to the nearest whole number a / b grows by a half at most
closest_le : (a b : ℕ) → 2 * (closest a b * b) ≤ 2 * a + b
closest_le a b = go (dec_lt (a % b * 2) b) (dec_lt b (a % b * 2))
  where
    whole : a / b * b + a % b ≡ a
    whole = div-add-mod' a b

    go : Dec (a % b * 2 < b) → Dec (b < a % b * 2) → 2 * (closest a b * b) ≤ 2 * a + b
    go (yes h) d = let w = whole in rw (nearest_lt (a / b) (a % b * 2) b h) (omega arith)
    go (no h) (yes k) = let w = whole in rw (nearest_gt (a / b) (a % b * 2) b k) (omega (arith, add-mul (a / b) 1 b))
    go (no h) (no k) =
        let e : a % b * 2 ≡ b = omega arith in
        rw (nearest_eq (a / b) (a % b * 2) b e) (tie_le (a / b) b a (a % b) whole e)

-- with h for the weight of the exponent's field: h * B ≤ q * N says that the half of a step is small beside N
narrow : (h p q N B : ℕ) → 0 < q * N → p * h + q ≤ q * h → h * B ≤ q * N → 2 * (p * N) + B < 2 * (q * N)
narrow h p q N B Q s k =
    let a : (p * h + q) * N ≤ q * h * N = mul-le-mul_right N s in
    let b : (p * h + q) * N ≡ p * N * h + q * N = add-mul (p * h) q N ∙ ap (λ (z : ℕ). z + q * N) (mul_right_comm p h N) in
    let c : q * h * N ≡ q * N * h = mul_right_comm q h N in
    let d : (2 * (p * N) + B) * h ≡ 2 * (p * N) * h + B * h = add-mul (2 * (p * N)) B h in
    let e : 2 * (p * N) * h ≡ 2 * (p * N * h) = mul_assoc 2 (p * N) h in
    let g : 2 * (q * N) * h ≡ 2 * (q * N * h) = mul_assoc 2 (q * N) h in
    let i : B * h ≡ h * B = mul_comm B h in
    lt_of_mul-lt-mul_right h (omega arith)

module _ (f : Format) (p q m : ℕ) (e : ℤ) (Q : 0 < q) (share : p * hid f + q ≤ q * hid f) (M : 0 < m * up e) (normal : hid f * down e ≤ m * up e * 2 ^ low f) where
  abbrev N : ℕ
  N = m * up e * 2 ^ low f

  abbrev a : ℕ
  a = p * (m * up e)

  abbrev b : ℕ
  b = q * down e

  abbrev k : ℕ
  k = drop (prec f) (a * 2 ^ low f) b

  n_is : a * 2 ^ low f ≡ p * N
  n_is = mul_assoc p (m * up e) (2 ^ low f)

  p_le : p ≤ q
  p_le = le_of_mul-le-mul_right (le_trans (le-add_right (p * hid f) q) share) (pow_pos (prec f - 1))

  half_step : hid f * (b * 2 ^ k) ≤ q * N
  half_step = elim (eq-zero-or-pos k) [
    | inl z ↦
        subst (λ (j : ℕ). hid f * (b * 2 ^ j) ≤ q * N) (sym z)
        (le_trans (le_of_eq (ap (λ (j : ℕ). hid f * j) (mul-one b) ∙ mul_left_comm (hid f) q (down e))) (mul-le-mul_left q normal))
    | inr K ↦
        let w = a * 2 ^ low f / b in
        let g : 2 ^ (prec f - 1 + k) * b ≤ a * 2 ^ low f = (le-div_iff_mul-le (mul-pos Q (down_pos e))).0 (size_reaches w (prec f - 1 + k) (whole-field f (size w) K)) in
        le_trans (le_of_eq (ap (λ (j : ℕ). hid f * j) (mul_comm b (2 ^ k)) ∙ sym (mul_assoc (hid f) (2 ^ k) b) ∙ ap (λ (j : ℕ). j * b) (sym (pow-add 2 (prec f - 1) k))))
        (le_trans g (le_trans (le_of_eq n_is) (mul-le-mul_right N p_le)))
  ]

  -- the result, in units of the smallest value, is below m * 2 ^ e
  grid_lt : grid f a b * down e < N
  grid_lt =
      let t = kept (prec f) (a * 2 ^ low f) b in
      let u = b * 2 ^ k in
      let c : 2 * (t * u) ≤ 2 * (a * 2 ^ low f) + u = closest_le (a * 2 ^ low f) u in
      let d : 2 * (p * N) + u < 2 * (q * N) = narrow (hid f) p q N u (mul-pos Q (mul-pos M (pow_pos (low f)))) share half_step in
      let g : 2 * (a * 2 ^ low f) ≡ 2 * (p * N) = ap (λ (z : ℕ). 2 * z) n_is in
      let i : t * u ≡ t * 2 ^ k * down e * q = simp (mul_assoc, mul_comm, mul_left_comm) in
      let j : q * N ≡ N * q = mul_comm q N in
      lt_of_mul-lt-mul_right q (omega arith)

  below-whole : T (fits f (fin false m e)) → lt (round f false a b) (fin false m e) ≡ true
  below-whole F =
      lt_of_values (round f false a b) (fin false m e) (grid f a b) (2 ^ low f) (m * up e) (down e) (pow_pos (low f)) (down_pos e)
      (round_val f a b (lt_of_mul-lt-mul_right (down e) (lt_of_lt_of_le grid_lt (le_trans (le_of_lt (mul-lt-mul_of_pos_right (fits_range f false m e F) (pow_pos (low f))))
      (le_of_eq (mul_right_comm (2 ^ suc (emax f)) (down e) (2 ^ low f) ∙ ap (λ (z : ℕ). z * down e) (mul_comm (2 ^ suc (emax f)) (2 ^ low f) ∙ sym (pow-add 2 (low f) (suc (emax f))))))))))
      (refl, refl) grid_lt

-- x is in the normal range
abbrev pub Normal : Format → Float → Type 0
Normal f x = hid f * den x ≤ num x * 2 ^ low f

module _ (f : Format) (c : Float) (C : T (positive c)) (share : num c * hid f + den c ≤ den c * hid f) where
  pub share_lt : (x : Float) → T (positive x) → T (fits f x) → Normal f x → lt (mul f c x) x ≡ true
  share_lt x X F n = subst (λ (z : Float). lt z x ≡ true) (sym (mul_at f c x (num c) (den c) (num x) (den x) C X (den_pos c) (den_pos x) (own_value c C) (own_value x X))) (go x X F n)
    where
      go : (x : Float) → T (positive x) → T (fits f x) → Normal f x → lt (round f false (num c * num x) (den c * den x)) x ≡ true
      go nan X F n = absurd X
      go (inf s) X F n = absurd X
      go (fin true m e) X F n = absurd X
      go (fin false m e) X F n = below-whole f (num c) (den c) m e (den_pos c) share (mul-pos (ltb→lt 0 m X) (up_pos e)) n F

  pub share_lt_right : (x : Float) → T (positive x) → T (fits f x) → Normal f x → lt (mul f x c) x ≡ true
  share_lt_right x X F n = subst (λ (z : Float). lt z x ≡ true) (mul_swap f c x) (share_lt x X F n)

-- ---- and above zero, where c * x is the format's smallest value at least

smallest_fits : (f : Format) → T (fits f (fin false 1 (negsuc (low f - 1))))
unfolding fits
smallest_fits binary32 = tt
smallest_fits binary64 = tt

smallest_above : (f : Format) → lt (fin false 0 (pos 0)) (fin false 1 (negsuc (low f - 1))) ≡ true
unfolding lt
smallest_above binary32 = refl
smallest_above binary64 = refl

down_smallest : (f : Format) → down (negsuc (low f - 1)) ≡ 2 ^ low f
down_smallest binary32 = refl
down_smallest binary64 = refl

pub share_above : (f : Format) (c x : Float) → T (positive c) → T (positive x) → den c * den x ≤ num c * num x * 2 ^ low f → lt (fin false 0 (pos 0)) (mul f c x) ≡ true
share_above f c x C X h =
    lt_le (fin false 0 (pos 0)) (fin false 1 (negsuc (low f - 1))) (mul f c x) (smallest_above f)
    (subst (λ (z : Float). le (fin false 1 (negsuc (low f - 1))) z ≡ true)
    (sym (mul_at f c x (num c) (den c) (num x) (den x) C X (den_pos c) (den_pos x) (own_value c C) (own_value x X)))
    (round-at-least f (num c * num x) (den c * den x) 1 (negsuc (low f - 1)) (mul-pos (den_pos c) (den_pos x)) (smallest_fits f)
    (subst (λ (z : ℕ). 1 * 1 * (den c * den x) ≤ num c * num x * z) (sym (down_smallest f)) (le_trans (le_of_eq (one-mul (den c * den x))) h))))

-- ---- the normal range by a test: `of_bits f (hid f)` is the smallest normal value, 2 ^ (1 - emax)

scaled : (d n A L H : ℕ) → 1 * 1 * d ≤ n * A → H * A ≡ L → H * d ≤ n * L
scaled d n A L H h e = le_trans (le_of_eq (mul_comm H d)) (le_trans (mul-le-mul_right H (le_trans (le_of_eq (sym (one-mul d))) h)) (le_of_eq (mul_assoc n A H ∙ ap (λ (z : ℕ). n * z) (mul_comm A H ∙ e))))

finite_above : (x : Float) → T (above x) → lt x (inf false) ≡ true → T (positive x)
unfolding lt
finite_above nan a h = absurd a
finite_above (inf true) a h = absurd a
finite_above (inf false) a h = never h
finite_above (fin true m e) a h = absurd a
finite_above (fin false m e) a h = a

module _ (x : Float) where
  pub normal_of : (f : Format) → T (positive x) → le (of_bits f (hid f)) x ≡ true → Normal f x
  unfolding of_bits
  normal_of binary32 X h = scaled (den x) (num x) (2 ^ 126) (2 ^ 149) (2 ^ 23) (le→cross (of_bits binary32 (2 ^ 23)) x tt X (subst T (sym h) tt)) refl
  normal_of binary64 X h = scaled (den x) (num x) (2 ^ 1022) (2 ^ 1074) (2 ^ 52) (le→cross (of_bits binary64 (2 ^ 52)) x tt X (subst T (sym h) tt)) refl

  pub normal_positive : (f : Format) → le (of_bits f (hid f)) x ≡ true → lt x (inf false) ≡ true → T (positive x)
  unfolding of_bits
  normal_positive binary32 h k = finite_above x (above_of_le (of_bits binary32 (2 ^ 23)) x tt (subst T (sym h) tt)) k
  normal_positive binary64 h k = finite_above x (above_of_le (of_bits binary64 (2 ^ 52)) x tt (subst T (sym h) tt)) k
