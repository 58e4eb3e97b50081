-- Maps of cells in lent bytes: the number of a cell, and how many cells are set. A cell is set where its byte is 1.
use Rattle.std.specs.Prelude.{ℕ, ◌+◌, ◌*◌, cond, List, [], ◌∷◌, eqb}

-- cell (i, j) of rows of nx cells
abbrev pub number : ℕ → ℕ → ℕ → ℕ
number nx i j = j * nx + i

abbrev pub bit : ℕ → ℕ
bit x = cond (eqb x 1) 1 0

-- how many cells are set
unfoldable pub ones : List ℕ → ℕ
ones [] = 0
ones (x ∷ xs) = bit x + ones xs
