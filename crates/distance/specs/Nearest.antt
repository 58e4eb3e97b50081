-- The distance map as functions: what `Least` describes, as equations (proofs/NearestLaws.antt).
use Rattle.std.specs.Prelude.{cond, List, [], ◌∷◌, ◌++◌, ℕ, zero, suc, ◌+◌, ◌*◌, ◌/◌, ◌%◌, min, get_or, drop, replicate, eqb}
use Rattle.loops.specs.Cells.{number}
use Rattle.distance.specs.Least.{far, Cell, at, apart}

-- the least over the first n cells of row j, and over the first n rows
unfoldable pub nearest_in_row : ℕ → List ℕ → ℕ → Cell → ℕ → ℕ → ℕ
nearest_in_row mark m nx c j zero = far
nearest_in_row mark m nx c j (suc n) = min (nearest_in_row mark m nx c j n) (cond (eqb (get_or m (number nx n j) 0) mark) (apart c (at n j)) far)

unfoldable pub nearest : ℕ → List ℕ → ℕ → Cell → ℕ → ℕ
nearest mark m nx c zero = far
nearest mark m nx c (suc n) = min (nearest mark m nx c n) (nearest_in_row mark m nx c n nx)

-- f 0, f 1, .. f (n - 1)
unfoldable pub listed : {A : Type 0} → ℕ → (ℕ → A) → List A
listed zero f = []
listed (suc n) f = listed n f ++ (f n ∷ [])

-- the squares of the map, by cell number
unfoldable pub squares_of : ℕ → List ℕ → ℕ → ℕ → List ℕ
squares_of mark m nx ny = listed (ny * nx) (λ k. nearest mark m nx (at (k % nx) (k / nx)) ny)

-- what `transform` leaves of s
unfoldable pub transform_of : ℕ → List ℕ → ℕ → ℕ → List ℕ → List ℕ
transform_of mark m nx ny s = squares_of mark m nx ny ++ (replicate (3 * nx) 0 ++ drop (ny * nx + 3 * nx) s)
