-- Grids and cells of `raster` as C has them.
use Rattle.std.specs.Prelude.{ℕ, ◌+◌, ◌*◌, ◌%◌, Float, List, Err, None, Ok, Option, Result, Some}
use Rattle.geom.specs.Vec.{v2}
use Rattle.raster.specs.declared.grid.Grid.{Grid}
use Rattle.raster.specs.Grid.{refusal_of}
use Rattle.raster.specs.Disk.{Span}
use Rattle.raster.specs.declared.grid.Refusal.{Refusal}
use Rattle.abi.specs.Geom.{put2}

abbrev pub grid : Float → Float → Float → ℕ → ℕ → Grid
grid ox oy cell nx ny = record { origin = v2 ox oy; cell = cell; nx = nx; ny = ny }

-- a grid's sides, or the refusal
unfoldable pub packed_grid : Result Grid Refusal → ℕ
packed_grid (Err r) = refusal_of r
packed_grid (Ok g) = g.ny * 0x1_0000_0000 + g.nx

unfoldable pub corner_put : Result Grid Refusal → List Float → List Float
corner_put (Err r) out = out
corner_put (Ok g) out = put2 g.origin out

unfoldable pub packed_cell : Option (ℕ × ℕ) → ℕ
packed_cell None = 0xffff_ffff_ffff_ffff
packed_cell (Some (i, j)) = j * 0x1_0000_0000 + i

-- columns below 2 ^ 16, as all of a grid's are
unfoldable pub packed_span : Span → ℕ
packed_span None = 0xffff_ffff_ffff_ffff
packed_span (Some (a, b)) = b % 0x1_0000 * 0x1_0000_0000 + a % 0x1_0000
