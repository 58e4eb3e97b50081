-- The distance of a point from a segment, and whether a region's boundary passes within r of it, as geom.rs has them. Definitions only.
use Rattle.std.specs.Prelude.{ℕ, ◌+◌, Bool, cond, List, Float}
use Rattle.std.specs.Float.{binary64}
use Rattle.std.specs.Float.Ieee.{of_bits, div, lt}
use Rattle.loops.specs.Loop.{any}
use Rattle.numbers.specs.Root.{root_of}
use Rattle.numbers.specs.Order.{clamp_of}
use Rattle.numbers.specs.Small.{f1}
use Rattle.geom.specs.Vec.{f0, sum, difference, scaled, dot_of, square_of}
use Rattle.geom.specs.Region.{vertex_of, after, size_of, start_of}
use Rattle.geom.specs.declared.vec2.Vec2.{Vec2}
use Rattle.geom.specs.declared.region.Region.{Region}

-- 1e-24
abbrev pub tiny : Float
tiny = of_bits binary64 0x3af3_57c2_99a8_8ea7

-- how far along the segment from a, which goes ab far, its point nearest to p lies
unfoldable pub along : Vec2 → Vec2 → Vec2 → Float
along p a ab = let l2 = dot_of ab ab in cond (lt l2 tiny) f0 (clamp_of (div binary64 (dot_of (difference p a) ab) l2) f0 f1)

-- the square of the distance from a + ab * t to p, and the distance
unfoldable pub seg_square : Vec2 → Vec2 → Vec2 → Float
seg_square p a b = let ab = difference b a in square_of (sum a (scaled ab (along p a ab))) p

unfoldable pub seg_distance : Vec2 → Vec2 → Vec2 → Float
seg_distance p a b = root_of (seg_square p a b)

-- ---- every segment is looked at: yes below r

unfoldable pub edge_within : List Float → ℕ → ℕ → Vec2 → Float → ℕ → Bool
edge_within vs at n p r i = lt (seg_distance p (vertex_of vs (at + i)) (vertex_of vs (at + after n i))) r

unfoldable pub loop_within : List Float → ℕ → ℕ → Vec2 → Float → Bool
loop_within vs at n p r = any (edge_within vs at n p r) 0 n

unfoldable pub within : List Float → List ℕ → Region → Vec2 → Float → ℕ → Bool
within vs lens g p r l = loop_within vs (start_of lens g l) (size_of lens g l) p r

unfoldable pub any_within : List Float → List ℕ → Region → Vec2 → Float → Bool
any_within vs lens g p r = any (within vs lens g p r) 0 g.loops
