-- The map and the grid that a line's numbers name. Definitions only.
use Rattle.std.specs.Prelude.{ℕ, ◌+◌, ◌%◌, ◌<◌, ◌≤◌, cond, List, from_bits, nat_lt, slice_index, slice_set, Float}
use Rattle.std.specs.Float.{binary64}
use Rattle.loops.specs.Loop.{loop}
use Rattle.geom.specs.Vec.{v2}
use Rattle.geom.specs.declared.vec2.Vec2.{Vec2}
use Rattle.raster.specs.declared.grid.Grid.{Grid}
use Rattle.prints.specs.Print.{mixed}

-- sides of 1 to 32 cells
pub record Small (nx ny : ℕ) : Type 0 where
  pub wide : 0 < nx
  pub columns : nx ≤ 32
  pub high : 0 < ny
  pub rows : ny ≤ 32

-- the generator's number, and the cells made so far
pub record Made : Type 0 where
  pub x : ℕ
  pub cells : List ℕ

abbrev pub making : ℕ → List ℕ → Made
making x m = record { x = x; cells = m }

-- cell k is stock where the last eight bits of the next number are below the share
abbrev pub make_cell : ℕ → ℕ → Made → Made
make_cell share k s = making (mixed s.x 0) (slice_set s.cells k (cond (nat_lt (mixed s.x 0 % 256) share) 1 0))

unfoldable pub made_of : ℕ → ℕ → ℕ → List ℕ → List ℕ
made_of seed share n m = (loop (make_cell share) 0 n (making seed m)).cells

-- number k of a line as a float
abbrev pub float_at : List ℕ → ℕ → Float
float_at s k = from_bits binary64 (slice_index s k)

unfoldable pub point_at : List ℕ → ℕ → Vec2
point_at s k = v2 (float_at s k) (float_at s (k + 1))

unfoldable pub grid_of : List ℕ → ℕ → ℕ → Grid
grid_of s nx ny = record { origin = point_at s 5; cell = float_at s 7; nx = nx; ny = ny }
