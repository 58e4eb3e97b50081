-- One row read from the lent slices, by number, and a pass cleared from its triples. Definitions only.
use Rattle.std.specs.Prelude.{ℕ, zero, suc, ◌+◌, ◌-◌, ◌*◌, ◌/◌, cond, List, [], ◌∷◌, ◌++◌, map, length, take, drop, get_or, eqb, ltb, Option as Maybe, Some, None, Float}
use Rattle.std.proofs.Math.Option.{Option, none, some}
use Rattle.std.specs.Float.{nan}
use Rattle.loops.specs.Loop.{loop}
use Rattle.geom.specs.Vec.{v2}
use Rattle.geom.specs.declared.vec2.Vec2.{Vec2}
use Rattle.raster.specs.Log.{Stock, clear_after}
use Rattle.raster.specs.declared.grid.Grid.{Grid}
use Rattle.events.specs.Chunk.{Point, Chunk, helix, plunge, link, cut}
use Rattle.events.specs.Lent.{point_of, read_triples, push}
use Rattle.events.specs.declared.list.Read.{Read}
use Rattle.events.specs.declared.list.Read.TheVariants.{Helix, Plunge, Link, Cut}
use Rattle.events.specs.declared.list.Kind.{Kind}
use Rattle.events.specs.declared.list.Kind.TheVariants as kind

-- the number of a row's kind
abbrev pub number_of : Kind → ℕ
number_of kind.Helix = 1
number_of kind.Plunge = 2
number_of kind.Link = 3
number_of kind.Cut = 4

-- triple n: its point, and its third number
abbrev pub spot_at : List Float → ℕ → Vec2
spot_at ts n = v2 (get_or ts (n * 3) nan) (get_or ts (n * 3 + 1) nan)

abbrev pub value_at : List Float → ℕ → Float
value_at ts n = get_or ts (n * 3 + 2) nan

-- a row of one triple
unfoldable pub read_one : List Float → ℕ → ℕ → Maybe Read
read_one ts kind n =
    cond (eqb kind 1) (Some (Helix (spot_at ts n) (value_at ts n)))
    (cond (eqb kind 2) (Some (Plunge (spot_at ts n)))
    (cond (eqb kind 3) (Some (Link (spot_at ts n))) None))

unfoldable pub read_whole : List Float → ℕ → ℕ → ℕ → Maybe Read
read_whole ts kind first count =
    cond (ltb (length ts / 3) (first + count)) None
    (cond (eqb kind 4) (Some (Cut first count))
    (cond (eqb count 1) (read_one ts kind first) None))

unfoldable pub read_at : List ℕ → List Float → ℕ → Maybe Read
read_at rows ts k = read_whole ts (get_or rows (k * 3) 0) (get_or rows (k * 3 + 1) 0) (get_or rows (k * 3 + 2) 0)

-- the chunk that a row so read stands for
abbrev pub meant : List Float → Maybe Read → Option Chunk
meant ts (Some (Helix c rad)) = some (helix c rad)
meant ts (Some (Plunge p)) = some (plunge p)
meant ts (Some (Link p)) = some (link p)
meant ts (Some (Cut first count)) = some (cut (map point_of (take count (drop first (read_triples ts)))))
meant ts None = none

-- n rows from row k on, read one by one
unfoldable pub list_from : List ℕ → List Float → ℕ → ℕ → Option (List Chunk)
list_from rows ts k zero = some []
list_from rows ts k (suc n) = push (meant ts (read_at rows ts k)) (list_from rows ts (suc k) n)

-- ---- a pass whose triples lie in a slice, from triple `first` on, cleared as a loop does it

abbrev pub point_at : List Float → ℕ → Point
point_at ts n = record { at = spot_at ts n; angle = value_at ts n }

-- the points of n triples from number `first` on
abbrev pub points_from : List Float → ℕ → ℕ → List Point
points_from ts first zero = []
points_from ts first (suc n) = points_from ts first n ++ (point_at ts (first + n) ∷ [])

-- the crescent to point i of the pass
unfoldable pub crescent_by : Grid → Float → List Float → ℕ → ℕ → Stock → Stock
crescent_by g r ts first i s = clear_after g (spot_at ts (first + i - 1)) (spot_at ts (first + i)) r s

unfoldable pub pass_by : Grid → Float → List Float → ℕ → ℕ → Stock → Stock
pass_by g r ts first count s = loop (crescent_by g r ts first) 1 count s
