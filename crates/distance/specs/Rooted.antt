-- The distance in cells that a square stands for: its rounded root, infinite for `far`.
use Rattle.std.specs.Prelude.{false, cond, List, ◌++◌, ℕ, ◌*◌, ◌/◌, ◌%◌, get_or, drop, eqb, pos, Float}
use Rattle.std.specs.Float.{inf, binary64}
use Rattle.std.specs.Float.Ieee.{of_int}
use Rattle.numbers.specs.Root.{root_of}
use Rattle.distance.specs.Least.{far, at}
use Rattle.distance.specs.Nearest.{listed, nearest}

unfoldable pub rooted_of : ℕ → Float
rooted_of d = cond (eqb d far) (inf false) (root_of (of_int binary64 (pos d)))

-- the distances of the first n squares of q, and what stood in s beyond them
unfoldable pub distances_of : ℕ → List ℕ → List Float → List Float
distances_of n q s = listed n (λ k. rooted_of (get_or q k 0)) ++ drop n s

-- the Rust's `distance_transform`: the distances of the map, by cell number
unfoldable pub distance_transform : ℕ → List ℕ → ℕ → ℕ → List Float
distance_transform mark m nx ny = listed (ny * nx) (λ k. rooted_of (nearest mark m nx (at (k % nx) (k / nx)) ny))
