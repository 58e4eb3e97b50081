-- What the proofs of `place` cite. Assumes nothing.
use Rattle.std.specs.Prelude.{None, Option, Some}
use mathlib.Core.Path.{◌≡◌}
use mathlib.Core.Bool.{Bool, true, false}
use mathlib.Core.List.{List}
use Prim.Native.Nat.{ℕ, ◌+◌, ◌*◌}
use lib.ListN.{get_or}
use lib.Ieee.{Float, nan, binary64, add, sub, mul, le}
use Rattle.numbers.specs.Circle.{cos_of}
use Rattle.numbers.specs.Small.{f1, f2}
use Rattle.geom.specs.Region.{contains_of}
use Rattle.geom.specs.Segment.{any_within}
use Rattle.geom.specs.declared.vec2.Vec2.{Vec2}
use Rattle.raster.specs.Grid.{cell_of}
use Rattle.raster.specs.declared.grid.Grid.{Grid}
use Rattle.setup.specs.Place.{wall_at, allowed_at, bite_of}
use Rattle.setup.specs.declared.Setup.{Setup}

module _ (g : Grid) (wall : List Float) (keep : Float) (p : Vec2) (f : Option (ℕ × ℕ)) (F : f ≡ cell_of g p) where
  pub wall-none : f ≡ None → false ≡ wall_at g wall keep p
  unfolding wall_at
  wall-none e = rw (← F, e)

  pub wall-some : (i j k : ℕ) → f ≡ Some (i, j) → k ≡ j * g.nx + i → le keep (add binary64 (get_or wall k nan) (mul binary64 f2 g.cell)) ≡ wall_at g wall keep p
  unfolding wall_at
  wall-some i j k e h = rw (← F, e, h)

module _ (s : Setup) (wall vs : List Float) (lens : List ℕ) (p : Vec2) (w : Bool) (W : w ≡ wall_at s.grid wall s.keep.r p) where
  pub allowed-far : w ≡ false → false ≡ allowed_at s wall vs lens p
  unfolding allowed_at
  allowed-far e = rw (← W, e)

  module _ (e : w ≡ true) (t : Bool) (T : t ≡ any_within vs lens s.region p s.keep.r) where
    pub allowed-near : t ≡ true → false ≡ allowed_at s wall vs lens p
    unfolding allowed_at
    allowed-near d = rw (← W, e, ← T, d)

    pub allowed-clear : t ≡ false → (i : Bool) → i ≡ contains_of vs lens s.region p → i ≡ allowed_at s wall vs lens p
    unfolding allowed_at
    allowed-clear d i I = rw (← W, e, ← T, d) I

pub bite_is : (s : Setup) (c : Float) → c ≡ cos_of s.target → mul binary64 s.r (sub binary64 f1 c) ≡ bite_of s
unfolding bite_of
bite_is s c C = rw (← C)
