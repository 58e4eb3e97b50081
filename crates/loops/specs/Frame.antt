-- What a function leaves of a slice that it writes only a region of. Definitions only.
use Rattle.std.specs.Prelude.{◌≡◌, List, ℕ, length}
use Rattle.loops.specs.Regions.{within, put}

-- w becomes w', and what stands before a and from e on is as it was
pub record Only {A : Type 0} (a e : ℕ) (w w' : List A) : Type 0 where
  pub long : length w' ≡ length w
  pub rest : w' ≡ put a e (within a e w') w
