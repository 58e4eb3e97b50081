-- `cut_piece` of adaptive.rs, step by step: the tries, then the way to the pass that is worth it, judged on the map before it, and the pass kept.
-- Definitions only.
use Rattle.std.specs.Prelude.{ℕ, ◌+◌, ◌-◌, ◌*◌, ◌/◌, ◌≤◌, ◌≡◌, Bool, cond, List, [], ◌∷◌, ◌++◌, map, length, drop, Result, Ok, Err, Float, eqb, Some, None}
use Rattle.passes.specs.Start.{Place}
use Rattle.loops.specs.Regions.{within}
use Rattle.geom.specs.declared.vec2.Vec2.{Vec2}
use Rattle.raster.specs.Log.{undone, redone}
use Rattle.setup.specs.Layout.{map_put, dirty_put, map_in, dirty_in, segments_from, log_from}
use Rattle.setup.specs.Place.{allowed_at}
use Rattle.setup.specs.declared.Setup.{Setup}
use Rattle.links.specs.Path.{Way, lost, way}
use Rattle.events.specs.Chunk.{Point, Chunk, cut}
use Rattle.events.specs.Events.{Event, linked, plunged, no_way, kept, withdrawn}
use Rattle.events.specs.Lent.{all_triples, rows_from, gap_triples, put_rows}
use Rattle.events.specs.Read.{spot_at, points_from}
use Rattle.passes.specs.Shifts.{sat_add}
use Rattle.passes.specs.Attempt.{Outcome}
use Rattle.cutting.specs.Tries.{Tries, tries_of}
use Rattle.cutting.specs.Way.{route_of, way_chunks}
use Rattle.cutting.specs.Listing.{needs, room_of, greatest_of, Countable}
use Rattle.cutting.specs.declared.listing.Full.{Full}
use Rattle.cutting.specs.declared.listing.Full.TheVariants.{Triples}
use Rattle.cutting.specs.declared.piece.State.{State}
use Rattle.cutting.specs.declared.piece.Cut.{Cut}
use Rattle.cutting.specs.declared.piece.Cut.TheVariants.{Nothing, Kept}

abbrev pub sta : Place → ℕ → ℕ → Float → ℕ → State
sta pos rows triples most work = record { pos = pos; rows = rows; triples = triples; planned_max = most; work = work }

-- the work of the tries or of a search
abbrev pub spending : ℕ → State → State
spending w t = sta t.pos t.rows t.triples t.planned_max (sat_add t.work w)

-- what is left of map, dirty cells, log, rows and triples, and the answer
pub record Left : Type 0 where
  pub map : List ℕ
  pub dirty : List ℕ
  pub log : List ℕ
  pub rows : List ℕ
  pub out : List Float
  pub answer : Result Cut Full

abbrev pub lf : List ℕ → List ℕ → List ℕ → List ℕ → List Float → Result Cut Full → Left
lf m d l r o a = record { map = m; dirty = d; log = l; rows = r; out = o; answer = a }

-- of n cells, map and dirty cells in the bytes b
abbrev pub left_in : ℕ → List ℕ → List ℕ → List ℕ → List Float → Result Cut Full → Left
left_in n b l r o a = lf (map_in n b) (dirty_in n b) l r o a

-- the same with the events that led there
pub record WithEvents : Type 0 where
  pub left : Left
  pub events : List Event

abbrev pub with_events : Left → List Event → WithEvents
with_events l es = record { left = l; events = es }

-- ---- the way's events

-- a link refused is followed by a plunge; without a link asked for there is the plunge alone
unfoldable pub way_events : Bool → Place → Way → Vec2 → List Event
way_events down None p q = plunged q ∷ []
way_events down (Some a) lost q = cond down (no_way q ∷ plunged q ∷ []) (plunged q ∷ [])
way_events down (Some a) (way ps) q = map linked ps

-- ---- a pass kept: `removed` cells are logged, and its n points stand in the triples behind those that are listed

module _ (s : Setup) (path : Way) (removed n : ℕ) (t : State) (m d log rows : List ℕ) (o : List Float) where
  abbrev pub lead_of : Vec2
  lead_of = spot_at o t.triples

  abbrev pub points_of : List Point
  points_of = points_from o t.triples n

  -- the chunks that are listed
  abbrev pub new_of : List Chunk
  new_of = way_chunks path lead_of ++ (cut points_of ∷ [])

  -- where all of them fit: the logged cells are cleared for good and marked dirty, and the tool is at the pass's last point
  unfoldable pub listed_of : WithEvents
  listed_of =
      with_events (lf (redone log 0 removed m) (undone log 0 removed d) log (put_rows t.rows (rows_from t.triples new_of) rows) (gap_triples t.triples n (all_triples (way_chunks path lead_of)) o)
      (Ok (Kept (sta (Some (spot_at o (t.triples + n - 1))) (t.rows + length new_of) (t.triples + length (all_triples new_of)) (greatest_of points_of t.planned_max) t.work))))
      (way_events s.keep_down t.pos path lead_of ++ (kept ∷ []))

  -- where there is no room for them: nothing is listed, and the pass is withdrawn
  unfoldable pub kept_where : Result Unit Full → WithEvents
  kept_where (Ok u) = listed_of
  kept_where (Err e) = with_events (lf m d log rows o (Err e)) (withdrawn ∷ [])

  unfoldable pub kept_of : WithEvents
  kept_of = kept_where (room_of (length o / 3 - t.triples) (length rows / 3 - t.rows) (needs new_of))

-- the way is judged on the map before the pass
unfoldable pub went_of : Setup → List Float → List Float → List ℕ → List ℕ → State → ℕ → ℕ → List ℕ → List ℕ → List ℕ → List ℕ → List Float → WithEvents
went_of s wall vs lens allowed t removed n m d log rows o =
    let r = route_of s wall vs lens m allowed t.pos (spot_at o t.triples) in
    kept_of s r.path removed n (spending r.work t) m d log rows o

-- ---- the piece

module _ (s : Setup) (wall vs : List Float) (lens allowed : List ℕ) (pts : List Vec2) (closed : Bool) (t : State) (m d rows : List ℕ) where
  -- a pass that is worth it, after the tries
  unfoldable pub worthy_of : Outcome → WithEvents
  worthy_of c = let a = c.attempt in went_of s wall vs lens allowed (spending a.work t) a.removed a.points m d c.log rows c.out

  unfoldable pub after_tries : Tries → WithEvents
  after_tries q =
      let c = q.outcome in
      let a = c.attempt in
      cond a.full (with_events (lf m d c.log rows c.out (Err Triples)) q.events)
      (cond a.worth (with_events (worthy_of c).left (q.events ++ (worthy_of c).events))
      (with_events (lf m d c.log rows c.out (Ok (Nothing (spending a.work t)))) q.events))

  unfoldable pub cut_piece_of : List ℕ → List Float → WithEvents
  cut_piece_of log o = after_tries (tries_of s (allowed_at s wall vs lens) pts closed t.pos t.triples m log o)

-- ---- what callers keep

-- the bytes and u32 of planning are lent for n cells
pub record Lends (n : ℕ) (b u : List ℕ) : Type 0 where
  pub bytes : 8 * n ≤ length b
  pub words : 32 * n + 8192 ≤ length u

-- what is listed lies in rows and triples, and so do n triples more, those of the pass on trial
pub record Listed (rows : List ℕ) (o : List Float) (t : State) (n : ℕ) : Type 0 where
  pub countable : Countable rows o
  pub fit_rows : t.rows * 3 ≤ length rows
  pub fit_triples : (t.triples + n) * 3 ≤ length o

-- ---- what is left alone

-- of the bytes the stock map and the dirty cells are written, and no other
pub record Settled (n : ℕ) (b b' : List ℕ) : Type 0 where
  pub long : length b' ≡ length b
  pub rest : b' ≡ dirty_put n (dirty_in n b') (map_put n (map_in n b') b)

-- of the u32 the search's part and the log are written: the pieces stay, and what stands behind the log
pub record Behind (n : ℕ) (u u' : List ℕ) : Type 0 where
  pub long : length u' ≡ length u
  pub pieces : within (segments_from n) (log_from n) u' ≡ within (segments_from n) (log_from n) u
  pub rest : drop (log_from n + n) u' ≡ drop (log_from n + n) u
