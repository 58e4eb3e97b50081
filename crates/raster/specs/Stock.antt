-- The stock map: what is done to one cell of it. A cell is stock where its byte is 1. Definitions only.
use Rattle.std.specs.Prelude.{ℕ, ◌+◌, ◌≤◌, cond, List, length, get_or, set, eqb, Float}
use Rattle.loops.specs.Loop.{loop}
use Rattle.loops.specs.Cells.{bit, ones}
use Rattle.geom.specs.declared.vec2.Vec2.{Vec2}
use Rattle.raster.specs.Sweep.{over_disk}
use Rattle.raster.specs.declared.grid.Grid.{Grid}

-- cell k is cleared
unfoldable pub wipe_cell : ℕ → List ℕ → List ℕ
wipe_cell k m = cond (eqb (get_or m k 0) 1) (set m k 0) m

-- a map, and how many cells were cleared
pub record Cleared : Type 0 where
  pub cells : List ℕ
  pub removed : ℕ

abbrev pub cl : List ℕ → ℕ → Cleared
cl m n = record { cells = m; removed = n }

abbrev pub dropped : ℕ → Cleared → Cleared
dropped k s = cl (set s.cells k 0) (s.removed + 1)

-- cell k is cleared, and counted if it was stock
unfoldable pub drop_cell : ℕ → Cleared → Cleared
drop_cell k s = cond (eqb (get_or s.cells k 0) 1) (dropped k s) s

unfoldable pub clear_disk : Grid → Vec2 → Float → List ℕ → Cleared
clear_disk g c r m = over_disk drop_cell g c r (cl m 0)

-- no more is cleared than there are cells
pub record Fair (s : Cleared) : Type 0 where
  pub most : s.removed + ones s.cells ≤ length s.cells

-- cell k is counted if it is stock
unfoldable pub tally : List ℕ → ℕ → ℕ → ℕ
tally m k n = n + bit (get_or m k 0)

unfoldable pub count_disk : Grid → Vec2 → Float → List ℕ → ℕ
count_disk g c r m = over_disk (tally m) g c r 0

-- cell k stays stock only where it is stock in `other` too
unfoldable pub keep_cell : List ℕ → ℕ → List ℕ → List ℕ
keep_cell other k m = cond (eqb (get_or other k 0) 1) m (set m k 0)

unfoldable pub intersection : List ℕ → List ℕ → List ℕ
intersection m other = loop (keep_cell other) 0 (length m) m
