-- The square of a cell beside its marks: none is nearer, and no bound of theirs is above it. Assumes nothing.
use mathlib.Core.Path.{◌≡◌, ap, ◌∙◌, subst}
use mathlib.Core.List.{List}
use mathlib.Core.Logic.{⊎_elim}
use mathlib.Core.Bool.{cond}
use Prim.Native.Nat.{ℕ, zero, suc, ◌+◌, ◌*◌, ◌%◌, ◌/◌, ◌≤◌, ◌<◌}
use native.Mathlib.Omega.{arith}
use native.Mathlib.Nat.{mul-add-mod_self_right, mod-eq_of_lt, mul-add-div_right, div-eq_of_lt}
use lib.ListN.{get_or}
use lib.Dec.{eqb}
use borrow.Author.Tests.{eq-eqb, eqb-true}
use Rattle.loops.specs.Cells.{number}
use Rattle.loops.proofs.Cases.{by_test}
use Rattle.distance.specs.Least.{far, Cell, at, apart}
use Rattle.distance.specs.Nearest.{nearest_in_row, nearest, squares_of}
use Rattle.distance.proofs.NumberLaws.{lt_or_le, row_in}
use Rattle.distance.proofs.NearestLaws.{listed_at}

-- the squares by cell
pub square_of_lem : (m : List ℕ) (nx ny i j : ℕ) → i < nx → j < ny → get_or (squares_of 1 m nx ny) (number nx i j) 0 ≡ nearest 1 m nx (at i j) ny
unfolding squares_of
square_of_lem m nx ny i j h k =
    let e : (j * nx + i) / nx ≡ j = mul-add-div_right (let z : 0 < nx = omega arith in z) j i ∙ (let q : i / nx ≡ 0 = div-eq_of_lt h in omega arith) in
    listed_at (λ k. nearest 1 m nx (at (k % nx) (k / nx)) ny) 0 (ny * nx) (number nx i j) (row_in i j nx ny h k)
    ∙ ap (λ (x : ℕ). nearest 1 m nx (at x ((j * nx + i) / nx)) ny) (mul-add-mod_self_right j nx i ∙ mod-eq_of_lt h)
    ∙ ap (λ (x : ℕ). nearest 1 m nx (at i x) ny) e

module _ (m : List ℕ) (nx : ℕ) (c : Cell) where
  pub nearest-far : (n : ℕ) → nearest 1 m nx c n ≤ far
  unfolding nearest
  nearest-far zero = omega arith
  nearest-far (suc n) = omega (arith, nearest-far n)

  row_at : (k n x : ℕ) → x < n → get_or m (number nx x k) 0 ≡ 1 → nearest_in_row 1 m nx c k n ≤ apart c (at x k)
  unfolding nearest_in_row
  row_at k zero x h e = absurd (let z : ⊥ = omega arith in z)
  row_at k (suc n) x h e = ⊎_elim
      (λ a. omega (arith, row_at k n x a e))
      (λ a.
      let z : x ≡ n = omega arith in
      let t : cond (eqb (get_or m (number nx n k) 0) 1) (apart c (at n k)) far ≡ apart c (at x k) = rw (← z, eq-eqb (get_or m (number nx x k) 0) 1 e) in
      omega (arith, t))
      (lt_or_le x n)

  -- no mark is nearer than the nearest
  pub nearest-at : (n x k : ℕ) → x < nx → k < n → get_or m (number nx x k) 0 ≡ 1 → nearest 1 m nx c n ≤ apart c (at x k)
  unfolding nearest
  nearest-at zero x k h l e = absurd (let z : ⊥ = omega arith in z)
  nearest-at (suc n) x k h l e = ⊎_elim
      (λ a. omega (arith, nearest-at n x k h a e))
      (λ a. let z : k ≡ n = omega arith in let t = subst (λ (r : ℕ). nearest_in_row 1 m nx c r nx ≤ apart c (at x k)) z (row_at k nx x h e) in omega (arith, t))
      (lt_or_le k n)

  module _ (b : ℕ) (h : b ≤ far) where
    row-over : (k n : ℕ) → ((x : ℕ) → x < n → get_or m (number nx x k) 0 ≡ 1 → b ≤ apart c (at x k)) → b ≤ nearest_in_row 1 m nx c k n
    unfolding nearest_in_row
    row-over k zero f = h
    row-over k (suc n) f =
        let here = by_test (λ (v : ℕ). b ≤ v) (eqb (get_or m (number nx n k) 0) 1) (apart c (at n k)) far (λ e. f n (omega arith) (eqb-true _ _ e)) (λ e. h) in
        omega (arith, here, row-over k n (λ x l e. f x (omega arith) e))

    -- a bound of all marks is one of the nearest
    pub nearest-over : (n : ℕ) → ((x k : ℕ) → x < nx → k < n → get_or m (number nx x k) 0 ≡ 1 → b ≤ apart c (at x k)) → b ≤ nearest 1 m nx c n
    unfolding nearest
    nearest-over zero f = h
    nearest-over (suc n) f = omega (arith, row-over n nx (λ x l e. f x n l (omega arith) e), nearest-over n (λ x k l g e. f x k l (omega arith) e))
