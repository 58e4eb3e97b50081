-- What a round traces, as `plan` of adaptive.rs has it: the distance to stock, the field over it, its curves at twice the target, smoothed. Definitions only.
use Rattle.std.specs.Prelude.{ℕ, ◌*◌, ◌≡◌, Bool, List, map, length, replicate, Float}
use Rattle.std.specs.Float.{binary64}
use Rattle.std.specs.Float.Ieee.{mul}
use Rattle.numbers.specs.Narrow.{narrow_of}
use Rattle.numbers.specs.Small.{f2}
use Rattle.distance.specs.Nearest.{squares_of}
use Rattle.setup.specs.Layout.{run, map_in, allowed_in, dirty_in, log_in}
use Rattle.setup.specs.Place.{cells_of}
use Rattle.setup.specs.declared.Setup.{Setup}
use Rattle.field.specs.Field.{Sensed, field_of}
use Rattle.pieces.specs.Piece.{Piece}
use Rattle.contours.specs.Curve.{contours_of}
use Rattle.smoothing.specs.Smooth.{smoothed}
use Rattle.workspace.specs.Standing.{abandoned_in, CellsKept, WallsKept}
use Rattle.workspace.specs.Lies.{Lies}
use Rattle.tracing.specs.declared.round.Traced.{Traced}

-- let dist = self.material_distance(); let f = self.field(&dist)
unfoldable pub sensed_of : Setup → Bool → List ℕ → List ℕ → List ℕ → List Float → Sensed
sensed_of s all m allowed dirty f = field_of s all m allowed (squares_of 1 m s.grid.nx s.grid.ny) dirty f

-- (2.0 * self.target) as f32
unfoldable pub level_of : Setup → Float
level_of s = narrow_of (mul binary64 f2 s.target)

-- let mut pieces = self.contours(&f, ..); smooth(&mut p.pts, p.closed, self.cell) of each
unfoldable pub curves_of : Setup → List Float → List Piece
curves_of s f = map (smoothed s.grid.cell) (contours_of s.grid f (level_of s))

-- ---- in the workspace

abbrev pub sensed_in : Setup → Bool → List ℕ → List Float → Sensed
sensed_in s all b f = let n = cells_of s in sensed_of s all (map_in n b) (allowed_in n b) (dirty_in n b) (run 0 n f)

-- self.work += self.samples of each cell that was sampled
unfoldable pub work_of : Setup → ℕ → ℕ
work_of s sampled = sampled * s.samples

-- a round is traced: r pieces, the field and the work; no cell is dirty any more, and what else planning keeps is as it was
pub record TracedRound (s : Setup) (all : Bool) (b u : List ℕ) (f w : List Float) (r : Traced) (b' u' : List ℕ) (f' w' : List Float) : Type 0 where
  pub lies : Lies (cells_of s) (curves_of s (sensed_in s all b f).field) r.pieces u' w'
  pub work : r.work ≡ work_of s (sensed_in s all b f).sampled
  pub field : run 0 (cells_of s) f' ≡ (sensed_in s all b f).field
  pub map : map_in (cells_of s) b' ≡ map_in (cells_of s) b
  pub dirty : dirty_in (cells_of s) b' ≡ replicate (cells_of s) 0
  pub abandoned : abandoned_in (cells_of s) b' ≡ abandoned_in (cells_of s) b
  pub cells : CellsKept (cells_of s) b b'
  pub log : log_in (cells_of s) u' ≡ log_in (cells_of s) u
  pub words_long : length u' ≡ length u
  pub singles-long : length f' ≡ length f
  pub walls : WallsKept (cells_of s) w w'
