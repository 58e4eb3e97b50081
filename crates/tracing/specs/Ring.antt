-- The ring along the boundary of where the tool may go, as `plan` and `nudge_inside` of adaptive.rs have it. Definitions only.
use Rattle.std.specs.Prelude.{ℕ, ◌≡◌, Bool, cond, List, map, length, Float, Option, Some, None}
use Rattle.std.specs.Float.{binary32, binary64}
use Rattle.std.specs.Float.Ieee.{of_bits, mul, div}
use Rattle.loops.specs.Loop.{loop, Run, on, out, turn}
use Rattle.numbers.specs.Cast.{float}
use Rattle.numbers.specs.Circle.{tau}
use Rattle.numbers.specs.Small.{f16, quarter}
use Rattle.distance.specs.Nearest.{listed}
use Rattle.geom.specs.Vec.{sum, scaled, from_angle}
use Rattle.geom.specs.Points.{put_point}
use Rattle.geom.specs.Region.{vertex_of}
use Rattle.geom.specs.declared.vec2.Vec2.{Vec2}
use Rattle.setup.specs.Layout.{run, map_in, allowed_in, dirty_in, log_in}
use Rattle.setup.specs.Place.{cells_of, allowed_at}
use Rattle.setup.specs.declared.Setup.{Setup}
use Rattle.field.specs.Field.{ring_at}
use Rattle.links.specs.Path.{wall_in}
use Rattle.pieces.specs.Piece.{Piece}
use Rattle.contours.specs.Curve.{contours_of}
use Rattle.workspace.specs.Standing.{abandoned_in, CellsKept, WallsKept}
use Rattle.workspace.specs.Lies.{Lies}

-- ---- a point pulled to the allowed side

-- point k of sixteen round q, at r quarters of a cell: q + Vec2::from_angle(TAU * k as f64 / 16.0) * (r as f64 * 0.25 * self.cell)
unfoldable pub around_of : Float → Vec2 → ℕ → ℕ → Vec2
around_of cell q r k = sum q (scaled (from_angle (div binary64 (mul binary64 tau (float k)) f16)) (mul binary64 (mul binary64 (float r) quarter) cell))

unfoldable pub looked_end : Run (Option Vec2) (Option Vec2) → Option Vec2
looked_end (on p) = p
looked_end (out p) = p

unfoldable pub placed_by : Vec2 → Option Vec2 → Run Vec2 Vec2
placed_by q None = on q
placed_by q (Some p) = out p

unfoldable pub placed_end : Run Vec2 Vec2 → Vec2
placed_end (on p) = p
placed_end (out p) = p

module _ (allowed : Vec2 → Bool) (cell : Float) (q : Vec2) where
  -- for k in 0..16
  unfoldable pub look_at : ℕ → ℕ → Option Vec2 → Run (Option Vec2) (Option Vec2)
  look_at r k p = cond (allowed (around_of cell q r k)) (out (Some (around_of cell q r k))) (on p)

  unfoldable pub look_round : ℕ → Option Vec2
  look_round r = looked_end (loop (turn (look_at r)) 0 16 (on None))

  -- for r in 1..=8
  unfoldable pub look_farther : ℕ → Vec2 → Run Vec2 Vec2
  look_farther r p = placed_by p (look_round r)

  -- the nearest allowed point that is found, or q as it was
  unfoldable pub nudge_inside : Vec2
  nudge_inside = cond (allowed q) q (placed_end (loop (turn look_farther) 1 9 (on q)))

-- ---- of the pieces

abbrev pub nudged_by : Setup → List Float → List Float → List ℕ → Vec2 → Vec2
nudged_by s wall vs lens q = nudge_inside (allowed_at s wall vs lens) s.grid.cell q

abbrev pub nudged_piece : (Vec2 → Vec2) → Piece → Piece
nudged_piece f p = record { points = map f p.points; closed = p.closed }

-- 0.5f32
abbrev pub s05 : Float
s05 = of_bits binary32 0x3f00_0000

-- (0..nx * ny).map(|k| if self.allowed[k] { 0.0 } else { 1.0 }), its curves at one half, each of their points pulled in
unfoldable pub ring_of : Setup → List Float → List Float → List ℕ → List ℕ → List Piece
ring_of s wall vs lens allowed =
    map (nudged_piece (nudged_by s wall vs lens)) (contours_of s.grid (listed (cells_of s) (ring_at allowed)) s05)

-- ---- in the workspace

-- point k of the traced ones is pulled in
unfoldable pub nudge_put : (Vec2 → Vec2) → ℕ → List Float → List Float
nudge_put f k pts = put_point k (f (vertex_of pts k)) pts

unfoldable pub nudge_all : (Vec2 → Vec2) → ℕ → List Float → List Float
nudge_all f m pts = loop (nudge_put f) 0 m pts

-- the ring is traced, r pieces; what else planning keeps is as it was
pub record TracedRing (s : Setup) (vs : List Float) (lens b u : List ℕ) (f w : List Float) (r : ℕ) (b' u' : List ℕ) (f' w' : List Float) : Type 0 where
  pub lies : Lies (cells_of s) (ring_of s (wall_in s w) vs lens (allowed_in (cells_of s) b)) r u' w'
  pub field : run 0 (cells_of s) f' ≡ run 0 (cells_of s) f
  pub map : map_in (cells_of s) b' ≡ map_in (cells_of s) b
  pub dirty : dirty_in (cells_of s) b' ≡ dirty_in (cells_of s) b
  pub abandoned : abandoned_in (cells_of s) b' ≡ abandoned_in (cells_of s) b
  pub cells : CellsKept (cells_of s) b b'
  pub log : log_in (cells_of s) u' ≡ log_in (cells_of s) u
  pub words_long : length u' ≡ length u
  pub singles-long : length f' ≡ length f
  pub walls : WallsKept (cells_of s) w w'
