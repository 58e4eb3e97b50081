-- The column pass: how many rows away the nearest mark of the same column is.
use Rattle.std.specs.Prelude.{◌≡◌, cond, List, ℕ, ◌+◌, ◌-◌, ◌*◌, ◌≤◌, ◌<◌, get_or, eqb, ltb}
use Rattle.distance.specs.Least.{Least, gap}

-- more rows than any column has: where a column has no mark
abbrev pub lost : ℕ
lost = 4096

abbrev pub from_above : ℕ → ℕ → ℕ → ℕ
from_above byte mark above = cond (eqb byte mark) 0 (cond (ltb above lost) (above + 1) lost)

abbrev pub from_below : ℕ → ℕ → ℕ
from_below here below = cond (ltb below here) (below + 1) here

-- row b of column i is marked, and lies at or above row j
pub record Above (mark : ℕ) (m : List ℕ) (nx i j b : ℕ) : Type 0 where
  pub row : b ≤ j
  pub set : get_or m (b * nx + i) 0 ≡ mark

-- row b of column i is marked
pub record InColumn (mark : ℕ) (m : List ℕ) (nx ny i b : ℕ) : Type 0 where
  pub row : b < ny
  pub set : get_or m (b * nx + i) 0 ≡ mark

-- the cells before cell k hold the rows up to the nearest mark at or above
pub record Down (mark : ℕ) (m : List ℕ) (nx k : ℕ) (s t : List ℕ) : Type 0 where
  pub cell : (i j : ℕ) → i < nx → j * nx + i < k → Least lost (Above mark m nx i j) (λ b. j - b) (get_or t (j * nx + i) 0)
  pub rest : (c : ℕ) → k ≤ c → get_or t c 0 ≡ get_or s c 0

-- the cells from cell k on hold the rows to the nearest mark
pub record Up (mark : ℕ) (m : List ℕ) (nx ny k : ℕ) (s t : List ℕ) : Type 0 where
  pub cell : (i j : ℕ) → i < nx → j < ny → k ≤ j * nx + i → Least lost (InColumn mark m nx ny i) (λ b. gap j b) (get_or t (j * nx + i) 0)
  pub front : (c : ℕ) → c < k → get_or t c 0 ≡ get_or s c 0
  pub rest : (c : ℕ) → ny * nx ≤ c → get_or t c 0 ≡ get_or s c 0

-- whatever marks the rows above were counted to
abbrev pub Raised : ℕ → ℕ → ℕ → List ℕ → List ℕ → Type 0
Raised nx ny k s t = (mark : ℕ) (m : List ℕ) → Down mark m nx (ny * nx) s s → Up mark m nx ny k s t

-- each cell of s holds the rows to the nearest mark of its column
abbrev pub Columns : ℕ → List ℕ → ℕ → ℕ → List ℕ → Type 0
Columns mark m nx ny s = (i j : ℕ) → i < nx → j < ny → Least lost (InColumn mark m nx ny i) (λ b. gap j b) (get_or s (j * nx + i) 0)
