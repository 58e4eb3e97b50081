-- The place where a helix is tried, as `find_helix` of adaptive.rs looks for it: of the cells where the tool may go and stock that it can reach still stands, the
-- one that is farthest from the walls. Definitions only.
use Rattle.std.specs.Prelude.{ℕ, Bool, cond, not, ◌&&◌, List, get_or, eqb, Option, Some, None, Float}
use Rattle.std.specs.Float.{nan}
use Rattle.std.specs.Float.Ieee.{lt}
use Rattle.loops.specs.Loop.{loop}
use Rattle.flood.specs.declared.place.Far.{Far}

-- cell k is open: reachable stock that is not given up
unfoldable pub open_at : List ℕ → List ℕ → List ℕ → ℕ → Bool
open_at map reach gone k = eqb (get_or map k 0) 1 && (eqb (get_or reach k 0) 1 && not (eqb (get_or gone k 0) 1))

-- best.is_none_or(|b| d > b.0)
unfoldable pub better_of : Far → Option Far → Far
better_of next None = next
better_of next (Some b) = cond (lt b.distance next.distance) next b

module _ (map allowed reach gone : List ℕ) (wall : List Float) where
  unfoldable pub farther_of : ℕ → Option Far → Option Far
  farther_of k best = cond (open_at map reach gone k && eqb (get_or allowed k 0) 1) (Some (better_of (record { cell = record { 0 = k }; distance = get_or wall k nan }) best)) best

  -- of n cells, in the order of their numbers; the first on a tie
  unfoldable pub farthest_of : ℕ → Option Far
  farthest_of n = loop farther_of 0 n None
