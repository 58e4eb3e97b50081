-- The distance map: each cell holds the least exact squared distance to a marked cell, and `far` where no cell is marked.
use Rattle.std.specs.Prelude.{◌≡◌, List, ℕ, ◌+◌, ◌-◌, ◌*◌, ◌≤◌, ◌<◌, get_or}
use Rattle.loops.specs.Cells.{number}

-- d is the least value of f where P holds: some x attains it and no y is below it. Where P holds nowhere, d is `top`
pub data Least {A : Type 0} (top : ℕ) (P : A → Type 0) (f : A → ℕ) (d : ℕ) : Type 0 where
  some : (x : A) → P x → d ≡ f x → ((y : A) → P y → d ≤ f y) → Least top P f d
  none : ((y : A) → P y → ⊥) → d ≡ top → Least top P f d

-- stands for infinity: the largest u32
abbrev pub far : ℕ
far = 4294967295

-- column i, row j
pub record Cell : Type 0 where
  pub i : ℕ
  pub j : ℕ

abbrev pub at : ℕ → ℕ → Cell
at i j = record { i = i; j = j }

-- how far apart two numbers are
abbrev pub gap : ℕ → ℕ → ℕ
gap a b = (a - b) + (b - a)

abbrev pub square : ℕ → ℕ
square n = n * n

-- the squared distance of two cells
abbrev pub apart : Cell → Cell → ℕ
apart c k = square (gap c.i k.i) + square (gap c.j k.j)

-- a marked cell of the nx by ny map m: its byte is `mark`
pub record Mark (mark : ℕ) (m : List ℕ) (nx ny : ℕ) (c : Cell) : Type 0 where
  pub col : c.i < nx
  pub row : c.j < ny
  pub set : get_or m (number nx c.i c.j) 0 ≡ mark

-- t begins with the distance map of m, then come 3 nx zeros; what stood in s beyond them is kept
pub record Transformed (mark : ℕ) (m : List ℕ) (nx ny : ℕ) (s t : List ℕ) : Type 0 where
  pub cell : (i j : ℕ) → i < nx → j < ny → Least far (Mark mark m nx ny) (apart (at i j)) (get_or t (number nx i j) 0)
  pub scratch : (k : ℕ) → k < 3 * nx → get_or t (ny * nx + k) 0 ≡ 0
  pub rest : (k : ℕ) → ny * nx + 3 * nx ≤ k → get_or t k 0 ≡ get_or s k 0

-- a map's sides
pub record MapSides (nx ny : ℕ) : Type 0 where
  pub column : 0 < nx
  pub wide : nx ≤ 4096
  pub row : 0 < ny
  pub high : ny ≤ 4096
