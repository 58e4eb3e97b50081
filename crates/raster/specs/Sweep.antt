-- One turn for each cell of a span, of a disk and of a crescent, in the order of raster.rs's loops: rows upward, each from left to right. What a turn does is
-- a parameter: it clears the cell, counts it, or clears and logs it. Definitions only.
use Rattle.std.specs.Prelude.{ℕ, ◌+◌, ◌*◌, ◌<◌, cond, leb, Float, None, Some}
use Rattle.loops.specs.Loop.{loop}
use Rattle.geom.specs.declared.vec2.Vec2.{Vec2}
use Rattle.raster.specs.Disk.{Span, disk_row, crescent_row, rows_of}
use Rattle.raster.specs.declared.grid.Grid.{Grid}

module _ {S : Type 0} (f : ℕ → S → S) where
  -- the row's first cell has the number base
  unfoldable pub over_span : ℕ → Span → S → S
  over_span base None s = s
  over_span base (Some (a, b)) s = loop f (base + a) (base + b + 1) s

  unfoldable pub disk_at : Grid → Vec2 → Float → ℕ → S → S
  disk_at g c r j s = over_span (j * g.nx) (disk_row g c r j) s

  unfoldable pub over_disk : Grid → Vec2 → Float → S → S
  over_disk g c r s = loop (disk_at g c r) (rows_of g c r).0 ((rows_of g c r).1 + 1) s

  unfoldable pub crescent_at : Grid → Vec2 → Vec2 → Float → ℕ → S → S
  crescent_at g prev c r j s = over_span (j * g.nx) (crescent_row g prev c r j).right (over_span (j * g.nx) (crescent_row g prev c r j).left s)

  -- the rows are those of the disk at c
  unfoldable pub over_crescent : Grid → Vec2 → Vec2 → Float → S → S
  over_crescent g prev c r s = loop (crescent_at g prev c r) (rows_of g c r).0 ((rows_of g c r).1 + 1) s

-- the numbers of a span's cells in a row from base on: from the first up to the second
unfoldable pub cells_of : ℕ → Span → ℕ × ℕ
cells_of base None = (0, 0)
cells_of base (Some (a, b)) = cond (leb a b) (base + a, base + b + 1) (0, 0)

-- the span of a row from base on lies within n cells
abbrev pub Inside : ℕ → ℕ → Span → Type 0
Inside base n None = Unit
Inside base n (Some (a, b)) = (base + a < n) × (base + b < n)
