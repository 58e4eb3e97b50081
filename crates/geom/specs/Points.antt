-- Points in a lent slice, x and y of each. Definitions only.
use Rattle.std.specs.Prelude.{ℕ, zero, suc, ◌+◌, ◌*◌, List, [], ◌∷◌, ◌++◌, set, Float}
use Rattle.geom.specs.Region.{vertex_of}
use Rattle.geom.specs.declared.vec2.Vec2.{Vec2}

-- point k becomes p
unfoldable pub put_point : ℕ → Vec2 → List Float → List Float
put_point k p w = set (set w (2 * k) p.x) (2 * k + 1) p.y

-- the n points from point a on
unfoldable pub points : ℕ → ℕ → List Float → List Vec2
points a zero w = []
points a (suc n) w = points a n w ++ (vertex_of w (a + n) ∷ [])
