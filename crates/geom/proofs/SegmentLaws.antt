-- What the proofs of `segment` cite. Assumes nothing.
use mathlib.Core.Path.{◌≡◌, ◌∙◌}
use mathlib.Core.Bool.{Bool, true, false}
use mathlib.Core.List.{List}
use Prim.Native.Nat.{ℕ, ◌+◌}
use lib.IntN.{pos}
use lib.Ieee.{Float, binary64, of_bits, div, lt}
use Rattle.floats.proofs.SignLaws.{zero_under}
use Rattle.floats.proofs.SquareLaws.{squares_unsigned}
use Rattle.numbers.specs.Root.{root_of}
use Rattle.numbers.specs.Bound.{Square}
use Rattle.numbers.specs.Order.{clamp_of}
use Rattle.numbers.specs.Small.{f1}
use Rattle.geom.specs.Vec.{f0, sum, difference, scaled, dot_of, square_of}
use Rattle.geom.specs.Region.{vertex_of, after, size_of, start_of}
use Rattle.geom.specs.Segment.{tiny, along, seg_square, seg_distance, edge_within, loop_within, within}
use Rattle.geom.specs.declared.vec2.Vec2.{Vec2}
use Rattle.geom.specs.declared.region.Region.{Region}

module _ (p a ab : Vec2) (l2 : Float) (L : l2 ≡ dot_of ab ab) where
  pub along-start : lt l2 tiny ≡ true → f0 ≡ along p a ab
  unfolding along
  along-start h = rw (← L, h)

  pub along-on : lt l2 tiny ≡ false → (d : Vec2) (e t : Float) → d ≡ difference p a → e ≡ dot_of d ab → t ≡ clamp_of (div binary64 e l2) f0 f1 → t ≡ along p a ab
  unfolding along
  along-on h d e t D E T = rw (← L, h, ← D, ← E) T

pub square-is : (p a b ab m q : Vec2) (t r : Float) → ab ≡ difference b a → t ≡ along p a ab → m ≡ scaled ab t → q ≡ sum a m → r ≡ square_of q p → r ≡ seg_square p a b
unfolding seg_square
square-is p a b ab m q t r A T M Q R = rw (← A, ← T, ← M, ← Q) R

-- the square of a distance has a root, or is a NaN
pub point-square : (a b : Vec2) (x : Float) → x ≡ square_of a b → Square x
unfolding square_of of_bits
point-square a b x e = rw e (record { up = λ h. zero_under false (pos 0) _ (squares_unsigned binary64 _ _ h) })

pub a_square : (p a b : Vec2) (x : Float) → x ≡ seg_square p a b → Square x
unfolding seg_square
a_square p a b x e = point-square _ p x e

pub edge-is : (vs : List Float) (at n : ℕ) (p : Vec2) (r : Float) (i k : ℕ) (a b : Vec2) (x : Float) (t : Bool) → a ≡ vertex_of vs (at + i) → k ≡ after n i → b ≡ vertex_of vs (at + k)
    → x ≡ seg_square p a b → t ≡ lt (root_of x) r → t ≡ edge_within vs at n p r i
unfolding edge_within seg_distance
edge-is vs at n p r i k a b x t A K B X T = rw (← A, ← K, ← B, ← X) T

pub within-is : (vs : List Float) (lens : List ℕ) (g : Region) (p : Vec2) (r : Float) (l at n : ℕ) (t : Bool) → at ≡ start_of lens g l → n ≡ size_of lens g l → t ≡ loop_within vs at n p r → t ≡ within vs lens g p r l
unfolding within
within-is vs lens g p r l at n t a b e = e ∙ rw (a, b)
