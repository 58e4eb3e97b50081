-- A box that no edge comes near. Definitions only.
use Rattle.std.specs.Prelude.{◌≡◌, Bool, true, false, ◌&&◌, ◌||◌, Float}
use Rattle.std.specs.Float.{binary64}
use Rattle.std.specs.Float.Ieee.{add, sub, mul, neg, lt, le}
use Rattle.numbers.specs.Root.{root_of}
use Rattle.geom.specs.Vec.{f0}
use Rattle.geom.specs.declared.vec2.Vec2.{Vec2}
use Rattle.geom.specs.declared.region.Corners.{Corners}

-- p lies in the box
pub record Holds (c : Corners) (p : Vec2) : Type 0 where
  pub left : le c.lo.x p.x ≡ true
  pub right : le p.x c.hi.x ≡ true
  pub below : le c.lo.y p.y ≡ true
  pub above : le p.y c.hi.y ≡ true

-- nothing is near a point of the box
pub record Apart (c : Corners) (near : Vec2 → Bool) : Type 0 where
  pub none : (p : Vec2) → Holds c p → near p ≡ false

-- the root of r * r, as a sum of squares has it, is not below r
pub record Rooted (r : Float) : Type 0 where
  pub positive : lt f0 r ≡ true
  pub root : le r (root_of (add binary64 (mul binary64 r r) f0)) ≡ true

-- s and e are r or more above lo..hi, or both below it
unfoldable pub beyond_of : Float → Float → Float → Float → Float → Bool
beyond_of s e lo hi r =
    (le r (sub binary64 s hi) && le r (sub binary64 e hi)) || (le (sub binary64 s lo) (neg r) && le (sub binary64 e lo) (neg r))
