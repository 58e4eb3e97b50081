-- The squares of a band of rows, taken as a map of its own, beside those of the whole map. Assumes nothing.
use mathlib.Core.Path.{◌≡◌, refl, ap, ◌∙◌}
use mathlib.Core.Bool.{true, cond}
use mathlib.Core.List.{List}
use mathlib.Core.Logic.{◌⊎◌, inl, inr}
use Prim.Native.Nat.{ℕ, zero, suc, ◌+◌, ◌-◌, ◌*◌, ◌≤◌, ◌<◌, min}
use native.Mathlib.Omega.{arith}
use native.Mathlib.Nat.{add-mul}
use lib.ListN.{get_or}
use lib.Dec.{eqb, ltb}
use borrow.Author.Tests.{ltb-true, ltb-false}
use Rattle.loops.specs.Cells.{number}
use Rattle.loops.proofs.Cases.{by_cases, by_test}
use Rattle.distance.specs.Least.{far, Cell, at, gap, square, apart}
use Rattle.distance.specs.Nearest.{nearest_in_row, nearest}
use Rattle.raster.proofs.GridLaws.{number-below}

-- ---- the least of r over the numbers below n, at most `far`

unfoldable lowest : (ℕ → ℕ) → ℕ → ℕ
lowest r zero = far
lowest r (suc n) = min (lowest r n) (r n)

lowest_far : (r : ℕ → ℕ) (n : ℕ) → lowest r n ≤ far
unfolding lowest
lowest_far r zero = omega arith
lowest_far r (suc n) = omega (arith, lowest_far r n)

lowest_above : (r : ℕ → ℕ) (b n : ℕ) → b ≤ far → ((k : ℕ) → k < n → b ≤ r k) → b ≤ lowest r n
unfolding lowest
lowest_above r b zero h f = h
lowest_above r b (suc n) h f = omega (arith, lowest_above r b n h (λ k l. f k (omega arith)), f n (omega arith))

lowest_same : (r q : ℕ → ℕ) (n : ℕ) → ((k : ℕ) → k < n → r k ≡ q k) → lowest r n ≡ lowest q n
unfolding lowest
lowest_same r q zero f = refl
lowest_same r q (suc n) f = omega (arith, lowest_same r q n (λ k l. f k (omega arith)), f n (omega arith))

lowest_split : (r : ℕ → ℕ) (a d : ℕ) → lowest r (a + d) ≡ min (lowest r a) (lowest (λ k. r (a + k)) d)
unfolding lowest
lowest_split r a zero = let z = lowest_far r a in ap (lowest r) (let e : a + zero ≡ a = omega arith in e) ∙ omega arith
lowest_split r a (suc d) = ap (lowest r) (let e : a + suc d ≡ suc (a + d) = omega arith in e) ∙ omega (arith, lowest_split r a d)

-- ---- the squares of a cell

abbrev cell_square : List ℕ → ℕ → Cell → ℕ → ℕ → ℕ
cell_square m nx c j i = cond (eqb (get_or m (number nx i j) 0) 1) (apart c (at i j)) far

abbrev row_square : List ℕ → ℕ → Cell → ℕ → ℕ
row_square m nx c j = lowest (cell_square m nx c j) nx

row_lowest : (m : List ℕ) (nx : ℕ) (c : Cell) (j n : ℕ) → nearest_in_row 1 m nx c j n ≡ lowest (cell_square m nx c j) n
unfolding nearest_in_row lowest
row_lowest m nx c j zero = refl
row_lowest m nx c j (suc n) = ap (λ (x : ℕ). min x (cell_square m nx c j n)) (row_lowest m nx c j n)

rows_lowest : (m : List ℕ) (nx : ℕ) (c : Cell) (n : ℕ) → nearest 1 m nx c n ≡ lowest (row_square m nx c) n
unfolding nearest lowest
rows_lowest m nx c zero = refl
rows_lowest m nx c (suc n) = ap (λ (x : ℕ). min (nearest 1 m nx c n) x) (row_lowest m nx c n nx) ∙ ap (λ (x : ℕ). min x (row_square m nx c n)) (rows_lowest m nx c n)

-- a row is no nearer than b if none of its marks is
row-over : (m : List ℕ) (nx i j k b : ℕ) → b ≤ far → ((x : ℕ) → x < nx → eqb (get_or m (number nx x k) 0) 1 ≡ true → b ≤ apart (at i j) (at x k)) → b ≤ row_square m nx (at i j) k
row-over m nx i j k b h f =
    lowest_above (cell_square m nx (at i j) k) b nx h
    (λ x l. by_test (λ (v : ℕ). b ≤ v) (eqb (get_or m (number nx x k) 0) 1) (apart (at i j) (at x k)) far (λ e. f x l e) (λ e. h))

-- q is the least of the band, between what lies before it and behind it
either_way : (q p front before here behind b : ℕ) → p ≡ min front behind → front ≡ min before here → q ≡ here → b ≤ before → b ≤ behind → (q ≡ p) ⊎ ((b ≤ q) × (b ≤ p))
either_way q p front before here behind b P F Q h k = by_cases (ltb q b)
    (λ t. let z = ltb-true q b t in inl (omega arith))
    (λ t. let z = ltb-false q b t in inr (omega arith, omega arith))

-- ---- the band from row lo on, of d rows, is the map p

module _ (m p : List ℕ) (nx lo d : ℕ) (P : (x : ℕ) → x < d * nx → get_or p x 0 ≡ get_or m (lo * nx + x) 0) (i j : ℕ) (J : lo ≤ j) where
  band_cell : (k x : ℕ) → k < d → x < nx → cell_square p nx (at i (j - lo)) k x ≡ cell_square m nx (at i j) (lo + k) x
  band_cell k x K X =
      let e : lo * nx + (k * nx + x) ≡ (lo + k) * nx + x = omega (arith, add-mul lo k nx) in
      let g : gap (j - lo) k ≡ gap j (lo + k) = omega arith in
      ap (λ (b : ℕ). cond (eqb b 1) (apart (at i (j - lo)) (at x k)) far) (P (k * nx + x) (number-below nx d x k (d * nx) X K (omega arith)) ∙ ap (λ (y : ℕ). get_or m y 0) e)
      ∙ ap (λ (y : ℕ). cond (eqb (get_or m ((lo + k) * nx + x) 0) 1) (square (gap i x) + square y) far) g

  band_rows : nearest 1 p nx (at i (j - lo)) d ≡ lowest (λ k. row_square m nx (at i j) (lo + k)) d
  band_rows =
      rows_lowest p nx (at i (j - lo)) d
      ∙ lowest_same (row_square p nx (at i (j - lo))) (λ k. row_square m nx (at i j) (lo + k)) d
      (λ k K. lowest_same (cell_square p nx (at i (j - lo)) k) (cell_square m nx (at i j) (lo + k)) nx (λ x X. band_cell k x K X))

  -- its square is that of the whole map, or neither is below b, if that holds of each mark beyond the band
  pub band_square : (ny b : ℕ) → lo + d ≤ ny → b ≤ far
      → ((x k : ℕ) → x < nx → k < ny → (k < lo) ⊎ (lo + d ≤ k) → eqb (get_or m (number nx x k) 0) 1 ≡ true → b ≤ square (gap j k))
      → (nearest 1 p nx (at i (j - lo)) d ≡ nearest 1 m nx (at i j) ny) ⊎ ((b ≤ nearest 1 p nx (at i (j - lo)) d) × (b ≤ nearest 1 m nx (at i j) ny))
  band_square ny b h B f =
      let r = row_square m nx (at i j) in
      let e = ny - (lo + d) in
      either_way _ _ (lowest r (lo + d)) (lowest r lo) (lowest (λ k. r (lo + k)) d) (lowest (λ k. r (lo + d + k)) e) b
      (rows_lowest m nx (at i j) ny ∙ ap (lowest r) (let z : ny ≡ lo + d + e = omega arith in z) ∙ lowest_split r (lo + d) e)
      (lowest_split r lo d)
      band_rows
      (lowest_above r b lo B (λ k l. row-over m nx i j k b B (λ x q t. let z = f x k q (omega arith) (inl l) t in omega arith)))
      (lowest_above (λ k. r (lo + d + k)) b e B (λ k l. row-over m nx i j (lo + d + k) b B (λ x q t. let z = f x (lo + d + k) q (omega arith) (inr (omega arith)) t in omega arith)))
