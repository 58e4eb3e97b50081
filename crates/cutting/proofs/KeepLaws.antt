-- What the proof of `keep_pass` cites, over plain values. Assumes nothing.
use Rattle.std.specs.Prelude.{Some}
use mathlib.Core.Path.{◌≡◌, sym, ap, ◌∙◌, subst}
use mathlib.Core.List.{List, [], ◌∷◌, ◌++◌}
use Prim.Native.Nat.{ℕ, ◌+◌, ◌-◌, ◌*◌, ◌/◌, ◌≤◌}
use native.Mathlib.Omega.{arith}
use lib.ListN.{length, replicate, length-append}
use lib.Ieee.{Float}
use Rattle.geom.specs.declared.vec2.Vec2.{Vec2}
use Rattle.raster.specs.Log.{undone, redone}
use Rattle.setup.specs.Layout.{run, put_run}
use Rattle.setup.specs.declared.Setup.{Setup}
use Rattle.links.specs.Path.{Way}
use Rattle.links.specs.Link.{way_by}
use Rattle.links.specs.declared.link.Route.{Route}
use Rattle.events.specs.Chunk.{Chunk, cut}
use Rattle.events.specs.Lent.{all_triples, rows_from, gap_triples, put_rows}
use Rattle.events.specs.Read.{spot_at, points_from}
use Rattle.events.proofs.PassLaws.{points-long}
use Rattle.passes.specs.Shifts.{sat_add}
use Rattle.cutting.specs.Way.{way_chunks, moves_of}
use Rattle.cutting.specs.Listing.{needs, room_of, greatest_of}
use Rattle.cutting.specs.Piece.{sta, spending, Left, lf, WithEvents, new_of, listed_of, kept_where, kept_of, Listed, Settled}
use Rattle.cutting.specs.declared.piece.State.{State}
use Rattle.std.specs.Prelude.{Result, Ok, Err}
use Rattle.cutting.specs.declared.listing.Full.{Full}
use Rattle.cutting.specs.declared.piece.Cut.{Cut}
use Rattle.cutting.specs.declared.piece.Cut.TheVariants.{Kept}
use Rattle.cutting.proofs.RoomLaws.{needs_are, room-fits}
use Rattle.cutting.proofs.ListingLaws.{way_long}
use Rattle.cutting.proofs.ListedLaws.{listed-long}
use Rattle.cutting.proofs.SettleLaws.{settled-map, settled-dirty, settled_only}

left_eq : {m m' d d' l r r' : List ℕ} {o o' : List Float} {a a' : Result Cut Full} → m ≡ m' → d ≡ d' → r ≡ r' → o ≡ o' → a ≡ a' → lf m d l r o a ≡ lf m' d' l r' o' a'
left_eq {l = l} M D R O A = λ i. lf (M i) (D i) l (R i) (O i) (A i)

pub spend_is : (t : State) (w v : ℕ) → v ≡ sat_add t.work w → sta t.pos t.rows t.triples t.planned_max v ≡ spending w t
spend_is t w v e = ap (sta t.pos t.rows t.triples t.planned_max) e

module _ (s : Setup) (t : State) (b log : List ℕ) (path o : List Float) (rows : List ℕ) (route : Route) (removed n size moves : ℕ) (K : moves ≡ moves_of route) where
  -- the way as it was found, its lead, and the chunks that are listed
  abbrev by : Way
  by = way_by route path

  abbrev lead : Vec2
  lead = spot_at o t.triples

  abbrev new : List Chunk
  new = new_of s by removed n t (run 0 size b) (run 4 size b) log rows o

  abbrev left : Left
  left = (kept_of s by removed n t (run 0 size b) (run 4 size b) log rows o).left

  abbrev wanted : Result Unit Full
  wanted = room_of (length o / 3 - t.triples) (length rows / 3 - t.rows) (needs new)

  abbrev listed : WithEvents
  listed = listed_of s by removed n t (run 0 size b) (run 4 size b) log rows o

  abbrev where_left : Result Unit Full → Left
  where_left r = (kept_where s by removed n t (run 0 size b) (run 4 size b) log rows o r).left

  way_moves : length (way_chunks by lead) ≡ moves
  way_moves = way_long route path lead ∙ sym K

  module _ (no : Result Unit Full) (N : no ≡ room_of (length o / 3 - t.triples) (length rows / 3 - t.rows) (replicate moves 1 ++ (n ∷ []))) where
    same_room : no ≡ wanted
    same_room =
        N ∙ sym (needs_are (length o / 3 - t.triples) (length rows / 3 - t.rows) by lead (points_from o t.triples n)
        ∙ ap (λ (k : ℕ). room_of (length o / 3 - t.triples) (length rows / 3 - t.rows) (replicate k 1 ++ (length (points_from o t.triples n) ∷ []))) way_moves
        ∙ ap (λ (k : ℕ). room_of (length o / 3 - t.triples) (length rows / 3 - t.rows) (replicate moves 1 ++ (k ∷ []))) (points-long o t.triples n))

    -- not all of the chunks fit
    pub keep-refused : (f : Full) → no ≡ Err f → lf (run 0 size b) (run 4 size b) log rows o (Err f) ≡ left
    unfolding kept_of kept_where
    keep-refused f z = ap where_left (sym z ∙ same_room)

    module _ (u : Unit) (z : no ≡ Ok u) where
      -- all of them fit
      pub keep-fits : Listed rows o t n → ((t.triples + moves + n) * 3 ≤ length o) × ((t.rows + moves + 1) * 3 ≤ length rows)
      keep-fits L =
          let f = room-fits (length o / 3 - t.triples) (length rows / 3 - t.rows) moves n (sym N ∙ z) in
          (omega (arith, f.0, L.fit_triples), omega (arith, f.1, L.fit_rows))

      row_count : t.rows + moves + 1 ≡ t.rows + length new
      row_count = omega (arith, length-append (way_chunks by lead) (cut (points_from o t.triples n) ∷ []), way_moves)

      triple_count : t.triples + moves + n ≡ t.triples + length (all_triples new)
      triple_count = omega (arith, listed-long by lead (points_from o t.triples n), way_moves, points-long o t.triples n)

      pub keep-listed : 8 * size ≤ length b → (most : Float) → most ≡ greatest_of (points_from o t.triples n) t.planned_max → (p : Vec2) → p ≡ lead
          → (last : Vec2) → last ≡ spot_at o (t.triples + n - 1) → (o' : List Float) → o' ≡ gap_triples t.triples n (all_triples (way_chunks by p)) o
          → (rows' : List ℕ) → rows' ≡ put_rows t.rows (rows_from t.triples (way_chunks by p ++ (cut (points_from o t.triples n) ∷ []))) rows
          → (b' : List ℕ) → b' ≡ put_run 4 size (undone log 0 removed (run 4 size b)) (put_run 0 size (redone log 0 removed (run 0 size b)) b)
          → (lf (run 0 size b') (run 4 size b') log rows' o' (Ok (Kept (sta (Some last) (t.rows + moves + 1) (t.triples + moves + n) most t.work))) ≡ left) × Settled size b b'
      unfolding listed_of kept_of kept_where
      keep-listed h most P p Q last A o' O rows' R b' B = (
        left_eq
            (ap (run 0 size) B ∙ settled-map size b h log removed)
            (ap (run 4 size) B ∙ settled-dirty size b h log removed)
            (R ∙ ap (λ (q : Vec2). put_rows t.rows (rows_from t.triples (way_chunks by q ++ (cut (points_from o t.triples n) ∷ []))) rows) Q)
            (O ∙ ap (λ (q : Vec2). gap_triples t.triples n (all_triples (way_chunks by q)) o) Q)
            (λ i. Ok (Kept (sta (Some (A i)) (row_count i) (triple_count i) (P i) t.work)))
            ∙ ap where_left (sym z ∙ same_room),
        subst (Settled size b) (sym B) (settled_only size b h log removed),
      )
