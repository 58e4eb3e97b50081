-- The last part of a round of `plan` of adaptive.rs: the tool enters by a helix where there is room for one. Definitions only.
use Rattle.std.specs.Prelude.{ℕ, ◌+◌, ◌-◌, ◌/◌, ◌≡◌, List, [], ◌∷◌, ◌++◌, length, Option, Some, None, Result, Ok, Err, Float}
use Rattle.std.specs.Float.{binary64}
use Rattle.std.specs.Float.Ieee.{add}
use Rattle.geom.specs.declared.vec2.Vec2.{Vec2}
use Rattle.raster.specs.Stock.{clear_disk}
use Rattle.setup.specs.Layout.{map_in, map_put}
use Rattle.setup.specs.declared.Setup.{Setup}
use Rattle.events.specs.Chunk.{helix}
use Rattle.events.specs.Replay.{helix_end}
use Rattle.events.specs.Events.{Event, entered}
use Rattle.events.specs.Lent.{triple_at, row_at, set_row, set_triple}
use Rattle.cutting.specs.Listing.{needs, room_of}
use Rattle.cutting.specs.Piece.{sta}
use Rattle.cutting.specs.declared.piece.State.{State}
use Rattle.cutting.specs.declared.listing.Full.{Full}
use Rattle.workspace.specs.Standing.{abandoned_in, abandoned_put}
use Rattle.helix.specs.Search.{Found, seek_of}

-- the state after an entry, if there is room for one, and how many places were given up before; or what is full
abbrev pub Entered : Type 0
Entered = Result (Option State × ℕ) Full

-- what is left of map, cells given up, rows and triples, and the answer
pub record Left : Type 0 where
  pub map : List ℕ
  pub gone : List ℕ
  pub rows : List ℕ
  pub out : List Float
  pub answer : Entered

abbrev pub lf : List ℕ → List ℕ → List ℕ → List Float → Entered → Left
lf m gone r o a = record { map = m; gone = gone; rows = r; out = o; answer = a }

-- of n cells, map and cells given up in the bytes b
abbrev pub left_in : ℕ → List ℕ → List ℕ → List Float → Entered → Left
left_in n b r o a = lf (map_in n b) (abandoned_in n b) r o a

-- the same with the events that led there
pub record WithEvents : Type 0 where
  pub left : Left
  pub events : List Event

abbrev pub with_events : Left → List Event → WithEvents
with_events l es = record { left = l; events = es }

module _ (s : Setup) (t : State) (m gone rows : List ℕ) (o : List Float) where
  -- where it fits: its disk is cleared, row and triple stand behind the listed ones, and the tool is at its end
  unfoldable pub bored_of : Vec2 → Float → ℕ → Left
  bored_of c rad n =
      lf (clear_disk s.grid c (add binary64 rad s.r) m).cells gone (set_row t.rows (row_at t.triples (helix c rad)) rows) (set_triple t.triples (triple_at c rad) o)
      (Ok (Some (sta (Some (helix_end c rad)) (t.rows + 1) (t.triples + 1) t.planned_max t.work), n))

  -- a helix of radius rad at c, after n places that were given up by the events es
  unfoldable pub listed_where : Result Unit Full → Vec2 → Float → ℕ → List Event → WithEvents
  listed_where (Ok u) c rad n es = with_events (bored_of c rad n) (es ++ (entered c rad ∷ []))
  listed_where (Err f) c rad n es = with_events (lf m gone rows o (Err f)) es

  unfoldable pub listed_of : Vec2 → Float → ℕ → List Event → WithEvents
  listed_of c rad n es = listed_where (room_of (length o / 3 - t.triples) (length rows / 3 - t.rows) (needs (helix c rad ∷ []))) c rad n es

  unfoldable pub after_search : Found → List Event → WithEvents
  after_search (None, n) es = with_events (lf m gone rows o (Ok (None, n))) es
  after_search (Some (c, rad), n) es = listed_of c rad n es

unfoldable pub helix_of : Setup → List Float → List Float → List ℕ → List ℕ → List ℕ → Float → State → List ℕ → List ℕ → List ℕ → List Float → WithEvents
helix_of s wall vs lens allowed reach pref t m gone rows o = let q = seek_of s wall vs lens allowed reach pref m gone in after_search s t m q.gone rows o q.found q.events

-- ---- what is left alone

-- of the bytes the stock map and the cells given up are written, and no other
pub record Settled (n : ℕ) (b b' : List ℕ) : Type 0 where
  pub long : length b' ≡ length b
  pub rest : b' ≡ map_put n (map_in n b') (abandoned_put n (abandoned_in n b') b)
