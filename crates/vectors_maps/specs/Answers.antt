-- What a line says where it agrees: its answer is that of the definitions. Definitions only.
use Rattle.std.specs.Prelude.{◌≡◌, ℕ, ◌+◌, ◌-◌, ◌*◌, List, [], ◌∷◌, replicate, slice_index, slice_index_or, slice_set, to_bits, Float}
use Rattle.std.specs.Float.{binary64}
use Rattle.loops.specs.Loop.{loop}
use Rattle.loops.specs.Cells.{ones}
use Rattle.distance.specs.Nearest.{transform_of}
use Rattle.geom.specs.Vec.{f0}
use Rattle.geom.specs.declared.vec2.Vec2.{Vec2}
use Rattle.geom.specs.declared.region.Region.{Region}
use Rattle.raster.specs.Log.{Stock, st, clear_after, undone}
use Rattle.raster.specs.Contact.{rim_contact, angle_of}
use Rattle.filling.specs.Fill.{fill_region}
use Rattle.raster.specs.declared.grid.Grid.{Grid}
use Rattle.vectors_maps.specs.Print.{roots_of}
use Rattle.prints.specs.Print.{print_of}
use Rattle.vectors_maps.specs.Maps.{made_of, float_at, point_at, grid_of}
use Rattle.vectors_maps.specs.declared.crescent.Removed.{Removed}

-- the map that a line's first numbers make
abbrev pub map_of : List ℕ → ℕ → ℕ → List ℕ
map_of s nx ny = made_of (slice_index s 1) (slice_index s 2) (ny * nx) (replicate 1024 0)

-- ---- a crescent

-- what is told of a map with its log after it
abbrev pub told : ℕ → Stock → Removed
told n s = record {
  count = s.count;
  log = print_of s.log s.count;
  after = print_of s.cells n;
  undone = print_of (undone s.log 0 s.count s.cells) n;
}

unfoldable pub cut_of : Grid → ℕ → Vec2 → Vec2 → Float → List ℕ → List ℕ → Removed
cut_of g n from to r m l = told n (clear_after g from to r (st m l 0))

pub record Crescent (s : List ℕ) (nx ny : ℕ) : Type 0 where
  pub is : record { count = slice_index s 13; log = slice_index s 14; after = slice_index s 15; undone = slice_index s 16 }
      ≡ cut_of (grid_of s nx ny) (ny * nx) (point_at s 8) (point_at s 10) (float_at s 12) (map_of s nx ny) (replicate 1024 0)

-- ---- a region filled in

-- 24 vertices, of which the region has the first
unfoldable pub vertices_of : List ℕ → List Float → List Float
vertices_of s vs = loop (λ k w. slice_set w k (float_at s (k + 11))) 0 48 vs

abbrev pub lens_of : List ℕ → List ℕ
lens_of s = slice_index s 8 ∷ slice_index s 9 ∷ slice_index s 10 ∷ []

abbrev pub three_loops : Region
three_loops = record { at = 0; first = 0; loops = 3 }

unfoldable pub filled_of : List ℕ → ℕ → ℕ → List ℕ
filled_of s nx ny = fill_region (grid_of s nx ny) (vertices_of s (replicate 48 f0)) (lens_of s) three_loops (map_of s nx ny)

pub record Fill (s : List ℕ) (last nx ny : ℕ) : Type 0 where
  pub stock : slice_index_or s (last - 1) 0 ≡ ones (filled_of s nx ny)
  pub print : slice_index_or s last 0 ≡ print_of (filled_of s nx ny) (ny * nx)

-- ---- contact

pub record Contact (s : List ℕ) (nx ny : ℕ) : Type 0 where
  pub angle : slice_index_or s 12 0 ≡ to_bits binary64 (angle_of (rim_contact (grid_of s nx ny) (map_of s nx ny) (point_at s 8) (float_at s 10) (slice_index s 11)))

-- ---- the distance map

abbrev pub work_of : List ℕ → ℕ → ℕ → List ℕ
work_of s nx ny = transform_of 1 (map_of s nx ny) nx ny (replicate 1120 0)

pub record Squares (s : List ℕ) (nx ny : ℕ) : Type 0 where
  pub squares : slice_index_or s 5 0 ≡ print_of (work_of s nx ny) (ny * nx)
  pub roots : slice_index_or s 6 0 ≡ roots_of (work_of s nx ny) (ny * nx)
