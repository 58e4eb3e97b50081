-- Vectors and regions of `geom` as C has them: numbers, and places of a lent slice.
use Rattle.std.specs.Prelude.{ℕ, List, set, Float}
use Rattle.geom.specs.declared.vec2.Vec2.{Vec2}
use Rattle.geom.specs.declared.region.Region.{Region}
use Rattle.geom.specs.declared.region.Corners.{Corners}

abbrev pub region : ℕ → ℕ → ℕ → Region
region at first loops = record { at = at; first = first; loops = loops }

unfoldable pub put2 : Vec2 → List Float → List Float
put2 v out = set (set out 0 v.x) 1 v.y

unfoldable pub put4 : Corners → List Float → List Float
put4 c out = set (set (set (set out 0 c.lo.x) 1 c.lo.y) 2 c.hi.x) 3 c.hi.y
