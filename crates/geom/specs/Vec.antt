-- Vectors of the plane, by document 01's rules, operation by operation. Definitions only.
use Rattle.std.specs.Prelude.{cond, Float}
use Rattle.std.specs.Float.{binary64}
use Rattle.std.specs.Float.Ieee.{of_bits, add, sub, mul, div, neg, eq}
use Rattle.numbers.specs.Root.{root_of}
use Rattle.numbers.specs.Circle.{cos_of, sin_of}
use Rattle.geom.specs.declared.vec2.Vec2.{Vec2}

abbrev pub v2 : Float → Float → Vec2
v2 x y = record { x = x; y = y }

abbrev pub f0 : Float
f0 = of_bits binary64 0

unfoldable pub sum : Vec2 → Vec2 → Vec2
sum a b = v2 (add binary64 a.x b.x) (add binary64 a.y b.y)

unfoldable pub difference : Vec2 → Vec2 → Vec2
difference a b = v2 (sub binary64 a.x b.x) (sub binary64 a.y b.y)

unfoldable pub scaled : Vec2 → Float → Vec2
scaled a k = v2 (mul binary64 a.x k) (mul binary64 a.y k)

-- a + (b - a) * t
unfoldable pub lerp_of : Vec2 → Vec2 → Float → Vec2
lerp_of a b t = v2 (add binary64 a.x (mul binary64 (sub binary64 b.x a.x) t)) (add binary64 a.y (mul binary64 (sub binary64 b.y a.y) t))

unfoldable pub dot_of : Vec2 → Vec2 → Float
dot_of a b = add binary64 (mul binary64 a.x b.x) (mul binary64 a.y b.y)

unfoldable pub cross_of : Vec2 → Vec2 → Float
cross_of a b = sub binary64 (mul binary64 a.x b.y) (mul binary64 a.y b.x)

unfoldable pub perp_of : Vec2 → Vec2
perp_of a = v2 (neg a.y) a.x

-- dx * dx + dy * dy
unfoldable pub square_of : Vec2 → Vec2 → Float
square_of a b =
    let dx = sub binary64 a.x b.x in
    let dy = sub binary64 a.y b.y in
    add binary64 (mul binary64 dx dx) (mul binary64 dy dy)

unfoldable pub distance_of : Vec2 → Vec2 → Float
distance_of a b = root_of (square_of a b)

unfoldable pub length_of : Vec2 → Float
length_of a = root_of (add binary64 (mul binary64 a.x a.x) (mul binary64 a.y a.y))

-- divided by the length; zero stays zero
unfoldable pub normalized_of : Vec2 → Vec2
normalized_of a = cond (eq (length_of a) f0) (v2 f0 f0) (v2 (div binary64 a.x (length_of a)) (div binary64 a.y (length_of a)))

unfoldable pub from_angle : Float → Vec2
from_angle a = v2 (cos_of a) (sin_of a)
