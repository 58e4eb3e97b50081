-- The cells of a map: which numbers a row has, and how the count of set cells changes with one cell. Assumes nothing.
use mathlib.Core.Path.{◌≡◌}
use mathlib.Core.Bool.{false}
use mathlib.Core.List.{List, [], ◌∷◌}
use Prim.Native.Nat.{ℕ, zero, suc, ◌+◌, ◌*◌, ◌≤◌, ◌<◌}
use native.Mathlib.Omega.{arith}
use native.Mathlib.Nat.{mul-le-mul_right, suc-mul}
use lib.ListN.{length, get_or, set}
use lib.Dec.{eqb, ltb}
use borrow.Author.Tests.{ltb-true, ltb-false}
use Rattle.loops.specs.Cells.{ones}
use Rattle.loops.proofs.Cases.{by_cases}

-- row j of ny rows lies within n cells
pub row_below : (j ny nx n : ℕ) → j < ny → ny * nx ≤ n → j * nx + nx ≤ n
row_below j ny nx n h k = omega (arith, mul-le-mul_right nx h, suc-mul j nx)

-- two cells with one number are in one row
pub same_row : (nx j j' i b : ℕ) → i < nx → b < nx → j * nx + i ≡ j' * nx + b → j ≡ j'
same_row nx j j' i b h k e =
    by_cases (ltb j j')
    (λ d. absurd (let z : ⊥ = omega (arith, mul-le-mul_right nx (ltb-true j j' d), suc-mul j nx) in z))
    (λ d. by_cases (ltb j' j)
    (λ f. absurd (let z : ⊥ = omega (arith, mul-le-mul_right nx (ltb-true j' j f), suc-mul j' nx) in z))
    (λ f. omega (arith, ltb-false j j' d, ltb-false j' j f)))

-- a set cell that is cleared is one less
pub ones-set : (m : List ℕ) (k : ℕ) → get_or m k 0 ≡ 1 → ones (set m k 0) + 1 ≡ ones m
unfolding ones
ones-set [] k e = absurd (let z : ⊥ = omega arith in z)
ones-set (x ∷ xs) zero e = rw e (omega arith)
ones-set (x ∷ xs) (suc k) e = omega (arith, ones-set xs k e)

-- a cell more is one more
pub ones-mark : (m : List ℕ) (k : ℕ) → k < length m → eqb (get_or m k 0) 1 ≡ false → ones (set m k 1) ≡ ones m + 1
unfolding ones
ones-mark [] k h e = absurd (let z : ⊥ = omega arith in z)
ones-mark (x ∷ m) zero h e = rw e (omega arith)
ones-mark (x ∷ m) (suc k) h e = omega (arith, ones-mark m k (omega arith) e)

-- a set cell is one of the map
pub below_length : (m : List ℕ) (k : ℕ) → get_or m k 0 ≡ 1 → k < length m
below_length [] k e = absurd (let z : ⊥ = omega arith in z)
below_length (x ∷ xs) zero e = omega arith
below_length (x ∷ xs) (suc k) e = omega (arith, below_length xs k e)

-- no more cells are set than there are
pub ones_le : (m : List ℕ) → ones m ≤ length m
unfolding ones
ones_le [] = omega arith
ones_le (x ∷ xs) = by_cases (eqb x 1) (λ e. rw e (omega (arith, ones_le xs))) (λ e. rw e (omega (arith, ones_le xs)))
