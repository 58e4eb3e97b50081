-- Chunks listed in the lent rows and triples: what is full first, and the greatest contact. Definitions only.
use Rattle.std.specs.Prelude.{ℕ, ◌-◌, ◌*◌, ◌≤◌, cond, List, [], ◌∷◌, map, length, eqb, ltb, Result, Ok, Err, Float}
use Rattle.loops.specs.Each.{over}
use Rattle.numbers.specs.Order.{max_of}
use Rattle.events.specs.Chunk.{Point, Chunk}
use Rattle.events.specs.Lent.{triples_of}
use Rattle.cutting.specs.declared.listing.Full.{Full}
use Rattle.cutting.specs.declared.listing.Full.TheVariants.{Triples, Rows}

-- how many triples each chunk has
abbrev pub needs : List Chunk → List ℕ
needs cs = map (λ (c : Chunk). length (triples_of c)) cs

-- chunks of so many triples, listed with so many triples and rows free: the triples are full at one whose triples do not fit, the rows at one whose row does not
unfoldable pub room_of : ℕ → ℕ → List ℕ → Result Unit Full
room_of triples rows [] = Ok tt
room_of triples rows (n ∷ ns) = cond (ltb triples n) (Err Triples) (cond (eqb rows 0) (Err Rows) (room_of (triples - n) (rows - 1) ns))

-- document 01's number of a refusal
abbrev pub number_of : Full → ℕ
number_of Triples = 16
number_of Rows = 17

-- planned_max = planned_max.max(e), point by point
abbrev pub greater : Point → Float → Float
greater p so = max_of so p.angle

unfoldable pub greatest_of : List Point → Float → Float
greatest_of ps so = over greater ps so

-- a row's numbers are u32: so many triples and rows are lent at most
abbrev pub most_listed : ℕ
most_listed = 4294967295

pub record Countable (rows : List ℕ) (out : List Float) : Type 0 where
  pub few-rows : length rows ≤ 3 * most_listed
  pub few-triples : length out ≤ 3 * most_listed
