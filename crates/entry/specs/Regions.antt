-- A job's regions as they are lent: `lens` has the vertices of each loop, `regions` the loops of each region, the pocket first. Definitions only.
use Rattle.std.specs.Prelude.{ℕ, ◌+◌, ◌<◌, List, length, get_or, Float}
use Rattle.loops.specs.Loop.{loop}
use Rattle.geom.specs.Region.{Held}
use Rattle.geom.specs.declared.region.Region.{Region}

-- the sum of the first k numbers, and of all
unfoldable pub sum_to : List ℕ → ℕ → ℕ
sum_to l k = loop (λ i s. s + get_or l i 0) 0 k 0

abbrev pub sum_of : List ℕ → ℕ
sum_of l = sum_to l (length l)

-- region k: behind the loops of the regions before, and their vertices
unfoldable pub region_at : List ℕ → List ℕ → ℕ → Region
region_at lens regions k = record { at = sum_to lens (sum_to regions k); first = sum_to regions k; loops = get_or regions k 0 }

abbrev pub pocket_of : List ℕ → List ℕ → Region
pocket_of lens regions = region_at lens regions 0

-- all regions are lent
pub record AllHeld (vs : List Float) (lens regions : List ℕ) : Type 0 where
  pub some : 0 < length regions
  pub held : (k : ℕ) → k < length regions → Held vs lens (region_at lens regions k)
