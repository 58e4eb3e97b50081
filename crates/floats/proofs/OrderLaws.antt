-- The order of floats, of all signs, zeros and infinities: x ≤ y < z gives x < z, x ≤ y ≤ z gives x ≤ z, and numbers are in one line. Assumes nothing.
use mathlib.Core.Path.{◌≡◌, refl, sym, ap, ◌∙◌}
use mathlib.Core.Bool.{Bool, true, false, not, ◌&&◌, ◌||◌, beq, true≢false}
use Prim.Native.Nat.{ℕ, zero, suc, ◌+◌, ◌*◌, ◌≤◌, ◌<◌}
use native.Mathlib.Nat.{le_of_eq, lt_of_le_of_lt, lt_of_lt_of_le, mul_right_comm, mul-le-mul_right, mul-lt-mul_of_pos_right, lt_of_mul-lt-mul_right, mul-pos, zero-mul}
use native.Mathlib.Omega.{arith}
use lib.Dec.{ltb, eqb}
use lib.Ieee.{Float, nan, inf, fin, up, down, below, level, lt, eq, le, is_nan}
use lib.Ieee.Positive.{den_pos, first_pos, through}
use borrow.Author.Tests.{ltb-true, ltb-false, eqb-true, lt-ltb, eq-eqb, not-true, not-false}
use Rattle.loops.proofs.Cases.{by_cases, never, both, either}

-- ---- fractions x / p, y / q, z / r

module _ (x y z p q r : ℕ) (P : 0 < p) (Q : 0 < q) where
  le_lt_frac : x * q ≤ y * p → y * r < z * q → x * r < z * p
  le_lt_frac h k =
      lt_of_mul-lt-mul_right q
      (lt_of_le_of_lt (omega (arith, mul_right_comm x r q, mul_right_comm y p r, mul-le-mul_right r h))
      (lt_of_lt_of_le (mul-lt-mul_of_pos_right k P) (le_of_eq (mul_right_comm z q p))))

  lt_le_frac : z * q < y * r → y * p ≤ x * q → z * p < x * r
  lt_le_frac h k =
      lt_of_mul-lt-mul_right q
      (lt_of_le_of_lt (le_of_eq (mul_right_comm z p q))
      (lt_of_lt_of_le (mul-lt-mul_of_pos_right h P) (omega (arith, mul_right_comm y r p, mul_right_comm x r q, mul-le-mul_right r k))))

pub zero_of : (x q : ℕ) → 0 < q → x * q ≡ 0 → x ≡ 0
zero_of zero q Q h = refl
zero_of (suc n) q Q h = absurd (let k : 0 < suc n * q = mul-pos (let z : 0 < suc n = omega arith in z) Q in let z : ⊥ = omega arith in z)

-- ---- with signs

abbrev pub Le : Bool → ℕ → Bool → ℕ → Type 0
Le false a false b = a ≤ b
Le false a true b = (a ≡ 0) × (b ≡ 0)
Le true a false b = Unit
Le true a true b = b ≤ a

abbrev pub Lt : Bool → ℕ → Bool → ℕ → Type 0
Lt false a false b = a < b
Lt false a true b = ⊥
Lt true a false b = 0 < a + b
Lt true a true b = b < a

pub le_of : (s : Bool) (a : ℕ) (t : Bool) (b : ℕ) → below s a t b || level s a t b ≡ true → Le s a t b
le_of false a false b h = either (ltb a b) _ h (λ e. let k = ltb-true a b e in omega arith) (λ e. let k = eqb-true a b (both _ _ e).0 in omega arith)
le_of false a true b h = let k = eqb-true a b (both _ _ h).0 in let n = eqb-true a 0 (both (eqb a b) _ h).1 in (n, sym k ∙ n)
le_of true a false b h = tt
le_of true a true b h = either (ltb b a) _ h (λ e. let k = ltb-true b a e in omega arith) (λ e. let k = eqb-true a b (both _ _ e).0 in omega arith)

pub lt_of : (s : Bool) (a : ℕ) (t : Bool) (b : ℕ) → below s a t b ≡ true → Lt s a t b
lt_of false a false b h = ltb-true a b h
lt_of false a true b h = never h
lt_of true a false b h = ltb-true 0 (a + b) h
lt_of true a true b h = ltb-true b a h

pub lt_back : (s : Bool) (a : ℕ) (t : Bool) (b : ℕ) → Lt s a t b → below s a t b ≡ true
lt_back false a false b h = lt-ltb a b h
lt_back false a true b h = absurd h
lt_back true a false b h = lt-ltb 0 (a + b) h
lt_back true a true b h = lt-ltb b a h

module _ (x y z p q r : ℕ) (P : 0 < p) (Q : 0 < q) (R : 0 < r) where
  signed : (s t u : Bool) → Le s (x * q) t (y * p) → Lt t (y * r) u (z * q) → Lt s (x * r) u (z * p)
  signed false false false h k = le_lt_frac x y z p q r P Q h k
  signed false false true h k = k
  signed false true false h k =
      let a = zero_of x q Q h.0 in
      let b = zero_of y p P h.1 in
      let c : y * r ≡ 0 = ap (λ (n : ℕ). n * r) b ∙ zero-mul r in
      let d : x * r ≡ 0 = ap (λ (n : ℕ). n * r) a ∙ zero-mul r in
      let e : 0 < z * p = mul-pos (first_pos z q (omega arith)) P in
      omega arith
  signed false true true h k =
      let b = zero_of y p P h.1 in
      let c : y * r ≡ 0 = ap (λ (n : ℕ). n * r) b ∙ zero-mul r in
      omega arith
  signed true false false h k = let e : 0 < z * p = mul-pos (first_pos z q (omega arith)) P in omega arith
  signed true false true h k = absurd k
  signed true true false h k =
      by_cases (eqb (z * q) 0)
      (λ e. let n = eqb-true (z * q) 0 e in
      let c : 0 < y * p = mul-pos (first_pos y r (omega arith)) P in
      let d : 0 < x * r = mul-pos (first_pos x q (omega arith)) R in
      omega arith)
      (λ e. let d : 0 < z * p = mul-pos (first_pos z q (let g = borrow.Author.Tests.eqb-false (z * q) 0 e in omega arith)) P in omega arith)
  signed true true true h k = lt_le_frac x y z p q r P Q k h

-- ---- with infinities

iii : (s t u : Bool) → (s && not t) || beq s t ≡ true → t && not u ≡ true → s && not u ≡ true
iii s false u h k = never k
iii s true true h k = never k
iii true true false h k = refl
iii false true false h k = never h

iif : (s t : Bool) → (s && not t) || beq s t ≡ true → t ≡ true → s ≡ true
iif s false h k = never k
iif true true h k = refl
iif false true h k = never h

ifi : (s u : Bool) → s || false ≡ true → not u ≡ true → s && not u ≡ true
ifi true u h k = k
ifi false u h k = never h

iff : (s : Bool) → s || false ≡ true → s ≡ true
iff true h = refl
iff false h = never h

fi : {A : Type 0} (t : Bool) → not t || false ≡ true → t ≡ true → A
fi true h k = never h
fi false h k = never k

pub le_lt : (x y z : Float) → le x y ≡ true → lt y z ≡ true → lt x z ≡ true
unfolding le lt eq
le_lt nan y z h k = never h
le_lt (inf s) nan z h k = never k
le_lt (inf s) (inf t) nan h k = never k
le_lt (inf s) (inf t) (inf u) h k = iii s t u h k
le_lt (inf s) (inf t) (fin u n d) h k = iif s t h k
le_lt (inf s) (fin t n d) nan h k = never k
le_lt (inf s) (fin t n d) (inf u) h k = ifi s u h k
le_lt (inf s) (fin t n d) (fin u o c) h k = iff s h
le_lt (fin s m e) nan z h k = never k
le_lt (fin s m e) (inf t) nan h k = never k
le_lt (fin s m e) (inf t) (inf u) h k = fi t h (both t (not u) k).0
le_lt (fin s m e) (inf t) (fin u o c) h k = fi t h k
le_lt (fin s m e) (fin t n d) nan h k = never k
le_lt (fin s m e) (fin t n d) (inf u) h k = k
le_lt (fin s m e) (fin t n d) (fin u o c) h k =
    lt_back s (m * up e * down c) u (o * up c * down e)
    (signed (m * up e) (n * up d) (o * up c) (down e) (down d) (down c) (den_pos (fin s m e)) (den_pos (fin t n d)) (den_pos (fin u o c)) s t u
    (le_of s (m * up e * down d) t (n * up d * down e) h) (lt_of t (n * up d * down c) u (o * up c * down d) k))

-- ---- x ≤ y ≤ z

pub le_back : (s : Bool) (a : ℕ) (t : Bool) (b : ℕ) → Le s a t b → below s a t b || level s a t b ≡ true
le_back false a false b h =
    by_cases (ltb a b) (λ e. rw e) (λ e. let k = ltb-false a b e in let z : a ≡ b = omega arith in rw (e, eq-eqb a b z))
le_back false a true b h = let z : a ≡ b = omega arith in rw (eq-eqb a b z, eq-eqb a 0 h.0)
le_back true a false b h =
    by_cases (ltb 0 (a + b)) (λ e. rw e)
    (λ e. let k = ltb-false 0 (a + b) e in let z : a ≡ b = omega arith in let y : a ≡ 0 = omega arith in rw (e, eq-eqb a b z, eq-eqb a 0 y))
le_back true a true b h =
    by_cases (ltb b a) (λ e. rw e) (λ e. let k = ltb-false b a e in let z : a ≡ b = omega arith in rw (e, eq-eqb a b z))

nil : (x r : ℕ) → x ≡ 0 → x * r ≡ 0
nil x r e = ap (λ (n : ℕ). n * r) e ∙ zero-mul r

module _ (x y z p q r : ℕ) (P : 0 < p) (Q : 0 < q) (R : 0 < r) where
  signed_le : (s t u : Bool) → Le s (x * q) t (y * p) → Le t (y * r) u (z * q) → Le s (x * r) u (z * p)
  signed_le false false false h k = through x y z p q r Q h k
  signed_le false false true h k =
      let b = nil y p (zero_of y r R k.0) in (nil x r (zero_of x q Q (omega arith)), nil z p (zero_of z q Q k.1))
  signed_le false true false h k = let a = nil x r (zero_of x q Q h.0) in omega arith
  signed_le false true true h k =
      let b = nil y r (zero_of y p P h.1) in (nil x r (zero_of x q Q h.0), nil z p (zero_of z q Q (omega arith)))
  signed_le true false false h k = tt
  signed_le true false true h k = let a = nil z p (zero_of z q Q k.1) in omega arith
  signed_le true true false h k = tt
  signed_le true true true h k = through z y x r q p Q k h

iii_le : (s t u : Bool) → (s && not t) || beq s t ≡ true → (t && not u) || beq t u ≡ true → (s && not u) || beq s u ≡ true
iii_le true t true h k = refl
iii_le true t false h k = refl
iii_le false true u h k = never h
iii_le false false true h k = never k
iii_le false false false h k = refl

iif_le : (s t : Bool) → (s && not t) || beq s t ≡ true → t || false ≡ true → s || false ≡ true
iif_le true t h k = refl
iif_le false true h k = never h
iif_le false false h k = never k

ifi_le : (s u : Bool) → s || false ≡ true → not u || false ≡ true → (s && not u) || beq s u ≡ true
ifi_le true true h k = refl
ifi_le true false h k = refl
ifi_le false u h k = never h

fii_le : (t u : Bool) → not t || false ≡ true → (t && not u) || beq t u ≡ true → not u || false ≡ true
fii_le true u h k = never h
fii_le false true h k = never k
fii_le false false h k = refl

fif_le : {A : Type 0} (t : Bool) → not t || false ≡ true → t || false ≡ true → A
fif_le true h k = never h
fif_le false h k = never k

pub le_le : (x y z : Float) → le x y ≡ true → le y z ≡ true → le x z ≡ true
unfolding le lt eq
le_le nan y z h k = never h
le_le (inf s) nan z h k = never k
le_le (inf s) (inf t) nan h k = never k
le_le (inf s) (inf t) (inf u) h k = iii_le s t u h k
le_le (inf s) (inf t) (fin u o c) h k = iif_le s t h k
le_le (inf s) (fin t n d) nan h k = never k
le_le (inf s) (fin t n d) (inf u) h k = ifi_le s u h k
le_le (inf s) (fin t n d) (fin u o c) h k = h
le_le (fin s m e) nan z h k = never k
le_le (fin s m e) (inf t) nan h k = never k
le_le (fin s m e) (inf t) (inf u) h k = fii_le t u h k
le_le (fin s m e) (inf t) (fin u o c) h k = fif_le t h k
le_le (fin s m e) (fin t n d) nan h k = never k
le_le (fin s m e) (fin t n d) (inf u) h k = k
le_le (fin s m e) (fin t n d) (fin u o c) h k =
    le_back s (m * up e * down c) u (o * up c * down e)
    (signed_le (m * up e) (n * up d) (o * up c) (down e) (down d) (down c) (den_pos (fin s m e)) (den_pos (fin t n d)) (den_pos (fin u o c)) s t u
    (le_of s (m * up e * down d) t (n * up d * down e) h) (le_of t (n * up d * down c) u (o * up c * down d) k))

-- ---- numbers are in one line: of two that are no NaN, x ≤ y is that y < x fails

opposite : (s : Bool) (a : ℕ) (t : Bool) (b : ℕ) → below s a t b || level s a t b ≡ not (below t b s a)
opposite s a t b =
    by_cases (below t b s a)
    (λ e. rw e (by_cases (below s a t b || level s a t b) (λ k. absurd (clash s t (le_of s a t b k) (lt_of t b s a e))) (λ k. k)))
    (λ e. rw e (le_back s a t b (from s t e)))
  where
    clash : (s t : Bool) → Le s a t b → Lt t b s a → ⊥
    clash false false h k = omega arith
    clash false true h k = omega arith
    clash true false h k = k
    clash true true h k = omega arith

    from : (s t : Bool) → below t b s a ≡ false → Le s a t b
    from false false e = ltb-false b a e
    from false true e = let k = ltb-false 0 (b + a) e in (omega arith, omega arith)
    from true false e = tt
    from true true e = ltb-false a b e

pub le_is : (x y : Float) → is_nan x ≡ false → is_nan y ≡ false → le x y ≡ not (lt y x)
unfolding le lt eq is_nan
le_is nan y p q = never (sym p)
le_is (inf s) nan p q = never (sym q)
le_is (inf true) (inf true) p q = refl
le_is (inf true) (inf false) p q = refl
le_is (inf false) (inf true) p q = refl
le_is (inf false) (inf false) p q = refl
le_is (inf true) (fin t n d) p q = refl
le_is (inf false) (fin t n d) p q = refl
le_is (fin s m e) nan p q = never (sym q)
le_is (fin s m e) (inf true) p q = refl
le_is (fin s m e) (inf false) p q = refl
le_is (fin s m e) (fin t n d) p q = opposite s (m * up e * down d) t (n * up d * down e)

-- what is compared is no NaN
pub le_numbers : (x y : Float) → le x y ≡ true → (is_nan x ≡ false) × (is_nan y ≡ false)
unfolding le lt eq is_nan
le_numbers nan y h = never h
le_numbers (inf s) nan h = never h
le_numbers (inf s) (inf t) h = (refl, refl)
le_numbers (inf s) (fin t n d) h = (refl, refl)
le_numbers (fin s m e) nan h = never h
le_numbers (fin s m e) (inf t) h = (refl, refl)
le_numbers (fin s m e) (fin t n d) h = (refl, refl)

pub lt_to_le : (x y : Float) → lt x y ≡ true → le x y ≡ true
unfolding le
lt_to_le x y h = rw h

pub lt_numbers : (x y : Float) → lt x y ≡ true → (is_nan x ≡ false) × (is_nan y ≡ false)
lt_numbers x y h = le_numbers x y (lt_to_le x y h)

pub le_not_lt : (x y : Float) → le x y ≡ true → lt y x ≡ false
le_not_lt x y h = not-true (lt y x) (sym (le_is x y (le_numbers x y h).0 (le_numbers x y h).1) ∙ h)

pub lt_not_le : (x y : Float) → lt x y ≡ true → le y x ≡ false
lt_not_le x y h = le_is y x (lt_numbers x y h).1 (lt_numbers x y h).0 ∙ ap not h

pub not_lt_le : (x y : Float) → is_nan x ≡ false → is_nan y ≡ false → lt y x ≡ false → le x y ≡ true
not_lt_le x y p q h = le_is x y p q ∙ ap not h

pub not_le_lt : (x y : Float) → is_nan x ≡ false → is_nan y ≡ false → le y x ≡ false → lt x y ≡ true
not_le_lt x y p q h = not-false (lt x y) (sym (le_is y x q p) ∙ h)

pub lt_irrefl : (x : Float) → lt x x ≡ false
lt_irrefl x = by_cases (lt x x) (λ h. absurd (true≢false (sym h ∙ le_not_lt x x (lt_to_le x x h)))) (λ h. h)

pub le_refl : (x : Float) → is_nan x ≡ false → le x x ≡ true
le_refl x p = not_lt_le x x p p (lt_irrefl x)

pub lt_le : (x y z : Float) → lt x y ≡ true → le y z ≡ true → lt x z ≡ true
lt_le x y z h k =
    by_cases (le z x)
    (λ e. absurd (true≢false (sym (le_lt z x y e h) ∙ le_not_lt y z k)))
    (λ e. not_le_lt x z (lt_numbers x y h).0 (le_numbers y z k).1 e)

-- -0 and 0 are equal and not the same, so this is `eq`
pub le_antisym : (x y : Float) → le x y ≡ true → le y x ≡ true → eq x y ≡ true
unfolding le
le_antisym x y h k = either (lt x y) (eq x y) h (λ e. absurd (true≢false (sym e ∙ le_not_lt y x k))) (λ e. e)
