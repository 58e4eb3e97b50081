-- Facts on numbers and lists that the other laws share. Assumes nothing.
use mathlib.Core.Path.{◌≡◌, refl, sym, ap, ◌∙◌, subst}
use mathlib.Core.Bool.{Bool, true, false}
use mathlib.Core.Logic.{◌⊎◌, inl, inr, ⊎_elim}
use mathlib.Core.List.{List}
use Prim.Native.Nat.{ℕ, ◌+◌, ◌-◌, ◌*◌, ◌≤◌, ◌<◌}
use native.Mathlib.Nat.{suc-mul, mul-add, mul_comm, mul-le-mul, mul-le-mul_right}
use native.Mathlib.Omega.{arith}
use lib.ListN.{length, get_or, set}
use lib.Seq.{get_or-set_same, get_or-set_other}
use lib.Dec.{ltb, eqb}
use borrow.Author.Tests.{ltb-true, ltb-false, eqb-true, eqb-false}
use Rattle.loops.proofs.CellLaws.{row_below}
use Rattle.distance.specs.Least.{gap, square}

pub lt_or_le : (a b : ℕ) → (a < b) ⊎ (b ≤ a)
lt_or_le a b = go (ltb a b) refl
  where
    go : (t : Bool) → ltb a b ≡ t → (a < b) ⊎ (b ≤ a)
    go true e = inl (ltb-true _ _ e)
    go false e = inr (ltb-false _ _ e)

pub same_or_not : (a b : ℕ) → (a ≡ b) ⊎ (a ≡ b → ⊥)
same_or_not a b = go (eqb a b) refl
  where
    go : (t : Bool) → eqb a b ≡ t → (a ≡ b) ⊎ (a ≡ b → ⊥)
    go true e = inl (eqb-true _ _ e)
    go false e = inr (eqb-false _ _ e)

-- what holds of the new value at i, and of the old value elsewhere, holds after a store
pub at_set : (P : ℕ → ℕ → Type 0) (l : List ℕ) (i v : ℕ) → i < length l → (j : ℕ) → (j ≡ i → P j v) → ((j ≡ i → ⊥) → P j (get_or l j 0)) → P j (get_or (set l i v) j 0)
at_set P l i v h j f g =
    ⊎_elim
    (λ e. subst (λ (k : ℕ). P k (get_or (set l i v) k 0)) (sym e) (subst (P i) (sym (get_or-set_same l i v 0 h)) (subst (λ (k : ℕ). P k v) e (f e))))
    (λ e. subst (P j) (sym (get_or-set_other l i j v 0 e)) (g e))
    (same_or_not j i)

-- the product of the sides of a map is below 2 ^ 24
pub product : {a b : ℕ} → a < 4096 → b < 4096 → a * b ≤ 16769025
product {a} {b} h k = let u : a ≤ 4095 = omega arith in let v : b ≤ 4095 = omega arith in mul-le-mul u v

pub spread : (x p q : ℕ) → p ≤ q → x * q ≡ x * p + x * (q - p)
spread x p q h = ap (λ (n : ℕ). x * n) (let e : q ≡ p + (q - p) = omega arith in e) ∙ mul-add x p (q - p)

pub cross : (x y p q : ℕ) → x ≤ y → p ≤ q → x * q + y * p ≤ x * p + y * q
cross x y p q h k = omega (arith, spread x p q k, spread y p q k, mul-le-mul_right (q - p) h)

-- x² + p² - 2xp is the square of their gap
pub gap-square : (x p : ℕ) → square (gap x p) + 2 * (x * p) ≡ x * x + p * p
gap-square x p = ⊎_elim low high (lt_or_le x p)
  where
    low : x < p → square (gap x p) + 2 * (x * p) ≡ x * x + p * p
    low h =
        let g : gap x p ≡ p - x = omega arith in
        ap (λ (n : ℕ). square n + 2 * (x * p)) g
        ∙ omega (arith, spread x x p (omega arith), spread p x p (omega arith), spread (p - x) x p (omega arith), mul_comm x p, mul_comm x (p - x), mul_comm p (p - x))

    high : p ≤ x → square (gap x p) + 2 * (x * p) ≡ x * x + p * p
    high h =
        let g : gap x p ≡ x - p = omega arith in
        ap (λ (n : ℕ). square n + 2 * (x * p)) g
        ∙ omega (arith, spread x p x h, spread p p x h, spread (x - p) p x h, mul_comm x p, mul_comm x (x - p), mul_comm p (x - p))

pub square_le : {a b : ℕ} → a ≤ b → square a ≤ square b
square_le h = mul-le-mul h h

-- cells of a map by row and column
pub row_in : (i j nx ny : ℕ) → i < nx → j < ny → j * nx + i < ny * nx
row_in i j nx ny h k = let z = row_below j ny nx (ny * nx) k (omega arith) in omega arith

-- a map of one row or more is at least as large as a row
pub one-row : (nx ny : ℕ) → 0 < ny → nx ≤ ny * nx
one-row nx ny h = omega (arith, mul-le-mul_right nx h, suc-mul 0 nx)
