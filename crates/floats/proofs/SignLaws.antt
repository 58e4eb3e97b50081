-- Values by their sign: which have it clear, what `round` gives, and that `neg` turns the order round. Assumes nothing.
use mathlib.Core.Path.{◌≡◌, refl, sym, ap, ◌∙◌, subst}
use mathlib.Core.Bool.{Bool, true, false, not, cond}
use Prim.Native.Nat.{ℕ, zero, suc, ◌+◌, ◌*◌, ◌^◌, zero-le}
use native.Mathlib.Nat.{le_trans, le_of_eq, zero-mul}
use lib.IntN.{ℤ}
use lib.Dec.{T, ltb}
use lib.Ieee.{Float, nan, inf, fin, Format, prec, emax, low, up, down, odd, units, round, neg, lt, eq, le, is_nan}
use lib.Ieee.Fits.{round_is}
use lib.Ieee.Order.{kept, drop}
use lib.Ieee.Positive.{positive}
use Rattle.loops.proofs.Cases.{never}
use Rattle.floats.proofs.OrderLaws.{Le, le_of, le_back, le_not_lt}

-- the sign is clear
abbrev pub unsigned : Float → Bool
unsigned nan = false
unsigned (inf s) = not s
unsigned (fin s m e) = not s

pub no_nan : {A : Type 0} → is_nan nan ≡ false → A
unfolding is_nan
no_nan h = never (sym h)

pub number : (x : Float) → T (unsigned x) → is_nan x ≡ false
unfolding is_nan
number nan a = absurd a
number (inf s) a = refl
number (fin s m e) a = refl

pub positive_unsigned : (x : Float) → T (positive x) → T (unsigned x)
positive_unsigned nan a = a
positive_unsigned (inf s) a = absurd a
positive_unsigned (fin true m e) a = a
positive_unsigned (fin false m e) a = tt

-- a value with the sign set is under one with it clear
pub signed_under : (x y : Float) → is_nan x ≡ false → T (not (unsigned x)) → T (unsigned y) → le x y ≡ true
unfolding le lt eq is_nan
signed_under nan y n a b = never (sym n)
signed_under (inf true) nan n a b = absurd b
signed_under (inf true) (inf true) n a b = absurd b
signed_under (inf true) (inf false) n a b = refl
signed_under (inf true) (fin t o d) n a b = refl
signed_under (inf false) y n a b = absurd a
signed_under (fin true m e) nan n a b = absurd b
signed_under (fin true m e) (inf true) n a b = absurd b
signed_under (fin true m e) (inf false) n a b = refl
signed_under (fin true m e) (fin true o d) n a b = absurd b
signed_under (fin true m e) (fin false o d) n a b = le_back true (m * up e * down d) false (o * up d * down e) tt
signed_under (fin false m e) y n a b = absurd a

-- what is above has the sign clear too
pub sign_up : (x y : Float) → T (unsigned x) → lt x y ≡ true → T (unsigned y)
unfolding lt
sign_up nan y a h = absurd a
sign_up (inf true) y a h = absurd a
sign_up (inf false) nan a h = never h
sign_up (inf false) (inf t) a h = never h
sign_up (inf false) (fin t o d) a h = never h
sign_up (fin true m e) y a h = absurd a
sign_up (fin false m e) nan a h = never h
sign_up (fin false m e) (inf true) a h = never h
sign_up (fin false m e) (inf false) a h = tt
sign_up (fin false m e) (fin true o d) a h = never h
sign_up (fin false m e) (fin false o d) a h = tt

-- every zero is under such a value, and the infinity over it
pub zero_under : (s : Bool) (e : ℤ) (y : Float) → T (unsigned y) → le (fin s zero e) y ≡ true
unfolding le lt eq
zero_under s e nan b = absurd b
zero_under s e (inf true) b = absurd b
zero_under s e (inf false) b = refl
zero_under s e (fin true n d) b = absurd b
zero_under true e (fin false n d) b = le_back true (zero * up e * down d) false (n * up d * down e) tt
zero_under false e (fin false n d) b =
    le_back false (zero * up e * down d) false (n * up d * down e) (le_trans (le_of_eq (ap (λ (z : ℕ). z * down d) (zero-mul (up e)) ∙ zero-mul (down d))) zero-le)

pub zero_not_over : (s : Bool) (e : ℤ) (y : Float) → T (unsigned y) → lt y (fin s zero e) ≡ true → ⊥
zero_not_over s e y b h = never (sym (le_not_lt (fin s zero e) y (zero_under s e y b)) ∙ h)

pub under_top : (x : Float) → is_nan x ≡ false → le x (inf false) ≡ true
unfolding le lt eq is_nan
under_top nan n = never (sym n)
under_top (inf true) n = refl
under_top (inf false) n = refl
under_top (fin s m e) n = refl

pub over_bottom : (y : Float) → is_nan y ≡ false → le (inf true) y ≡ true
unfolding le lt eq is_nan
over_bottom nan n = never (sym n)
over_bottom (inf true) n = refl
over_bottom (inf false) n = refl
over_bottom (fin t k d) n = refl

-- ---- `round`

-- its sign is the one that it is given
units_unsigned : (f : Format) (q k : ℕ) → T (unsigned (units f false q k))
unfolding units odd
units_unsigned f zero k = go (ltb (zero * 2 ^ k) (2 ^ (low f + suc (emax f))))
  where
    go : (b : Bool) → T (unsigned (cond b (odd (suc (prec f)) false zero k (low f)) (inf false)))
    go true = tt
    go false = tt
units_unsigned f (suc q) k = go (ltb (suc q * 2 ^ k) (2 ^ (low f + suc (emax f))))
  where
    go : (b : Bool) → T (unsigned (cond b (odd (suc (prec f)) false (suc q) k (low f)) (inf false)))
    go true = tt
    go false = tt

pub round_unsigned : (f : Format) (a c : ℕ) → T (unsigned (round f false a c))
round_unsigned f a c =
    subst (λ (z : Float). T (unsigned z)) (sym (round_is f false a c)) (units_unsigned f (kept (prec f) (a * 2 ^ low f) c) (drop (prec f) (a * 2 ^ low f) c))

units_neg : (f : Format) (q k : ℕ) → units f true q k ≡ neg (units f false q k)
unfolding units odd neg
units_neg f zero k = go (ltb (zero * 2 ^ k) (2 ^ (low f + suc (emax f))))
  where
    go : (b : Bool) → cond b (odd (suc (prec f)) true zero k (low f)) (inf true) ≡ neg (cond b (odd (suc (prec f)) false zero k (low f)) (inf false))
    go true = refl
    go false = refl
units_neg f (suc q) k = go (ltb (suc q * 2 ^ k) (2 ^ (low f + suc (emax f))))
  where
    go : (b : Bool) → cond b (odd (suc (prec f)) true (suc q) k (low f)) (inf true) ≡ neg (cond b (odd (suc (prec f)) false (suc q) k (low f)) (inf false))
    go true = refl
    go false = refl

pub round_neg : (f : Format) (a c : ℕ) → round f true a c ≡ neg (round f false a c)
round_neg f a c = round_is f true a c ∙ units_neg f (kept (prec f) (a * 2 ^ low f) c) (drop (prec f) (a * 2 ^ low f) c) ∙ ap neg (sym (round_is f false a c))

-- ---- `neg`

pub neg_neg : (x : Float) → neg (neg x) ≡ x
unfolding neg
neg_neg nan = refl
neg_neg (inf true) = refl
neg_neg (inf false) = refl
neg_neg (fin true m e) = refl
neg_neg (fin false m e) = refl

pub neg_number : (x : Float) → is_nan (neg x) ≡ is_nan x
unfolding neg is_nan
neg_number nan = refl
neg_number (inf s) = refl
neg_number (fin s m e) = refl

-- it turns the order round
pub neg_le : (x y : Float) → le x y ≡ true → le (neg y) (neg x) ≡ true
unfolding le lt eq neg
neg_le nan y h = never h
neg_le (inf s) nan h = never h
neg_le (inf true) (inf true) h = refl
neg_le (inf true) (inf false) h = refl
neg_le (inf false) (inf true) h = never h
neg_le (inf false) (inf false) h = refl
neg_le (inf true) (fin t n d) h = refl
neg_le (inf false) (fin t n d) h = never h
neg_le (fin s m e) nan h = never h
neg_le (fin s m e) (inf true) h = never h
neg_le (fin s m e) (inf false) h = refl
neg_le (fin s m e) (fin t n d) h = le_back (not t) (n * up d * down e) (not s) (m * up e * down d) (turn s t (le_of s (m * up e * down d) t (n * up d * down e) h))
  where
    turn : (s t : Bool) → Le s (m * up e * down d) t (n * up d * down e) → Le (not t) (n * up d * down e) (not s) (m * up e * down d)
    turn false false h = h
    turn false true h = (h.1, h.0)
    turn true false h = tt
    turn true true h = h
