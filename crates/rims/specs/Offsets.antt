-- Where the samples of a rim lie, counted from the cell of its centre, for centres of cells. Definitions only.
use Rattle.std.specs.Prelude.{ℕ, ◌+◌, ◌-◌, ◌*◌, ◌≤◌, ◌<◌, min, ◌≡◌, not, cond, List, length, get_or, T, Float, Some}
use Rattle.std.specs.Float.{nan, binary64}
use Rattle.std.specs.Float.Ieee.{is_nan, to_unsigned, add, sub, mul, div, le}
use Rattle.numbers.specs.Cast.{float}
use Rattle.numbers.specs.Small.{half}
use Rattle.geom.specs.Vec.{f0}
use Rattle.geom.specs.declared.vec2.Vec2.{Vec2}
use Rattle.raster.specs.Grid.{center_of, cell_of}
use Rattle.raster.specs.Contact.{direction_at, rim_at, Rim}
use Rattle.raster.specs.declared.grid.Grid.{Grid}
use Rattle.spans.specs.Spans.{word}

-- ---- along one axis

-- the centre of cell i
unfoldable pub middle_of : Float → Float → ℕ → Float
middle_of o cell i = add binary64 o (mul binary64 (add binary64 (float i) half) cell)

-- the cell of n in which x lies, or n
unfoldable pub place_of : Float → Float → ℕ → Float → ℕ
place_of o cell n x = let f = div binary64 (sub binary64 x o) cell in cond (le f0 f) (min (to_unsigned 32 f) n) n

-- the point v away from the centre of cell i lies in cell i + a - s
abbrev pub FixedAt : Float → Float → ℕ → ℕ → Float → ℕ → ℕ → Type 0
FixedAt o cell n s v a i = (place_of o cell n (add binary64 (middle_of o cell i) v) < n) × (place_of o cell n (add binary64 (middle_of o cell i) v) + s ≡ i + a)

-- and it does so beside every cell with s cells on both sides
abbrev pub Fixed : Float → Float → ℕ → ℕ → Float → ℕ → Type 0
Fixed o cell n s v a = (i : ℕ) → s ≤ i → i + s < n → FixedAt o cell n s v a i

-- ---- the rim

-- the whole cells that cover the radius
unfoldable pub reach_of : Grid → Float → ℕ
reach_of g r = to_unsigned 32 (div binary64 r g.cell) + 1

-- a cell with s cells on each side
pub record Roomy (g : Grid) (s i j : ℕ) : Type 0 where
  pub left : s ≤ i
  pub right : i + s < g.nx
  pub below : s ≤ j
  pub above : j + s < g.ny

-- around every cell with room the rim's point in direction u lies in the same cell, counted from the cell s columns and s rows before the centre's:
-- `column` columns and `row` rows after it, which is `e` by number
pub record Lies (g : Grid) (r : Float) (s : ℕ) (u : Vec2) (e : ℕ) : Type 0 where
  pub column : ℕ
  pub row : ℕ
  pub is : e ≡ row * g.nx + column
  pub at : (i j : ℕ) → Roomy g s i j → cell_of g (rim_at (center_of g i j) r u) ≡ Some (i - s + column, j - s + row)

-- 0 says nothing, and e + 1 that it is so
abbrev pub Entry : Grid → Float → ℕ → Vec2 → ℕ → Type 0
Entry g r s u x = (e : ℕ) → x ≡ e + 1 → Lies g r s u e

-- ---- the table

-- sample k's word
abbrev pub entry_at : List Float → ℕ → ℕ
entry_at w k = word w (4096 + k)

-- n words stand behind the directions
pub record Words (n : ℕ) (w : List Float) : Type 0 where
  pub long : 4096 + n ≤ length w
  pub number : (k : ℕ) → k < n → T (not (is_nan (get_or w (4096 + k) nan)))

-- each of the first k samples has a cell
pub record AllTold (k : ℕ) (w : List Float) : Type 0 where
  pub at : (i : ℕ) → i < k → 0 < entry_at w i

-- w holds the directions of n samples, and behind them the cells that they lie in around the centre of a cell
pub record Entered (g : Grid) (r : Float) (n : ℕ) (w : List Float) : Type 0 where
  pub long : 6144 ≤ length w
  pub few : n ≤ 2048
  pub rim : Rim n w
  pub number : (k : ℕ) → k < n → T (not (is_nan (get_or w (4096 + k) nan)))
  pub lies : (k : ℕ) → k < n → Entry g r (reach_of g r) (direction_at n k) (entry_at w k)

-- so it is, and where the first sample has a cell each has
pub record Rims (g : Grid) (r : Float) (n : ℕ) (w : List Float) : Type 0 where
  pub entered : Entered g r n w
  pub all : 0 < entry_at w 0 → AllTold n w
