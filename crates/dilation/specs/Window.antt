-- Which cells of a window a mark of it is nearer to than a bound, by squares of whole numbers. Definitions only.
use Rattle.std.specs.Prelude.{ℕ, ◌+◌, ◌%◌, ◌≤◌, ◌<◌, ◌≡◌, true, ◌||◌, List, length, get_or, eqb, Some}
use Rattle.loops.specs.Cells.{number}
use Rattle.distance.specs.Least.{at, apart}
use Rattle.distance.specs.Least as Least
use Rattle.distance.specs.declared.limits.Limit.{Limit}
use Rattle.dilation.specs.declared.window.Window.{Window}

-- the greatest bound that is taken, the square of 8192
abbrev pub most : ℕ
most = 67108864

-- the limit is told as n, and as a bound it is taken
pub record Takes (l : Limit) (n : ℕ) : Type 0 where
  pub told : l.below ≡ Some n
  pub few : n ≤ most

-- cell (i, j) is one of the window's
pub record In (w : Window) (i j : ℕ) : Type 0 where
  pub low : w.lo ≤ j
  pub high : j < w.hi
  pub left : w.left ≤ i
  pub right : i < w.right

-- the window lies on a map of nx columns that has its rows
pub record On (nx : ℕ) (w : Window) : Type 0 where
  pub wide : w.right ≤ nx
  pub order : w.left ≤ w.right
  pub columns : w.right ≤ 4096
  pub rows : w.hi ≤ 4096

module _ (m : List ℕ) (nx : ℕ) (w : Window) (i j e : ℕ) where
  -- a mark of the window is nearer to cell (i, j) than the bound e
  pub record Near : Type 0 where
    pub column : ℕ
    pub row : ℕ
    pub inside : In w column row
    pub set : get_or m (number nx column row) 0 ≡ 1
    pub less : apart (at i j) (at column row) < e

  -- none is
  pub record Clear : Type 0 where
    pub least : (p q : ℕ) → In w p q → get_or m (number nx p q) 0 ≡ 1 → e ≤ apart (at i j) (at p q)

-- The word o tells of cell (i, j) what its square would: whether it is below the farther bound, and if so whether it is below the nearer one.
pub record Shade (m : List ℕ) (nx : ℕ) (w : Window) (near far i j o : ℕ) : Type 0 where
  pub within : o < far → Near m nx w i j far
  pub beyond : far ≤ o → Clear m nx w i j far
  pub deep : o < far → o < near → Near m nx w i j near
  pub shallow : o < far → near ≤ o → Clear m nx w i j near
  pub fits : o ≤ Least.far

-- the rows that are told: each step-th from `phase` on, and the last
abbrev pub Told : ℕ → ℕ → Window → ℕ → Type 0
Told step phase w j = eqb (j % step) phase || eqb (j + 1) w.hi ≡ true

-- the words of the window's cells in these rows tell it
pub record Shaded (m : List ℕ) (nx : ℕ) (w : Window) (step phase near far : ℕ) (u v : List ℕ) : Type 0 where
  pub long : length v ≡ length u
  pub cell : (i j : ℕ) → In w i j → Told step phase w j → Shade m nx w near far i j (get_or v (number nx i j) 0)
