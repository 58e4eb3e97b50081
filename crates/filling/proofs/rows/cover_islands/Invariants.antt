-- `filling::rows::cover_islands` meets its contract. The invariant: the columns of the islands before l are covered, and `at` is where loop l starts. Assumes nothing.
use mathlib.Core.Path.{◌≡◌}
use mathlib.Core.Bool.{Bool}
use mathlib.Core.List.{List}
use Prim.Native.Nat.{ℕ, ◌≤◌, max}
use lib.ListN.{length, get_or}
use lib.Ieee.{Float, nan}
use Rattle.geom.specs.Vec.{v2}
use Rattle.geom.specs.Region.{start_of, inside_loop}
use Rattle.geom.specs.declared.region.Region.{Region}
use Rattle.geom.proofs.RegionLaws.{region}
use Rattle.filling.specs.Columns.{Islands}
use Rattle.filling.proofs.RowLaws.{any_to}
use Rattle.filling.proofs.rows.cover_islands.Given as goal

-- whether column c of the row y is in loop l
abbrev pub inColumn : List Float → List Float → List ℕ → Region → Float → ℕ → ℕ → Bool
inColumn xs vs lens g y c l = inside_loop vs lens g (v2 (get_or xs c nan) y) l

abbrev pub invariant-loop-l : goal.invariant-loop-l
invariant-loop-l l = (1 ≤ l.l) × (l.at ≡ start_of l.lens (region l.start l.first l.l-end) l.l)
    × (length l.row ≡ length l.initial.row) × (length l.cover ≡ length l.initial.cover) × (l.l ≤ max 1 l.l-end) × Islands (length l.xs) (any_to (inColumn l.xs l.vs l.lens (region l.start l.first l.l-end) l.y) l.l) l.some l.row l.cover
