-- After a piece is cut the lent rows and triples are as long as before, and what is listed lies in them. Assumes nothing.
use mathlib.Core.Path.{◌≡◌, refl, sym, ◌∙◌}
use mathlib.Core.Bool.{Bool}
use mathlib.Core.List.{List, [], ◌∷◌, ◌++◌}
use Prim.Native.Nat.{ℕ, ◌+◌, ◌-◌, ◌*◌, ◌/◌, ◌≤◌}
use native.Mathlib.Omega.{arith}
use lib.ListN.{length, length-append}
use lib.Ieee.{Float}
use Rattle.loops.proofs.Cases.{by_test}
use Rattle.geom.specs.declared.vec2.Vec2.{Vec2}
use Rattle.raster.specs.Log.{st, Ready}
use Rattle.setup.specs.Place.{allowed_at}
use Rattle.setup.specs.declared.Setup.{Setup}
use Rattle.links.specs.Path.{Way}
use Rattle.links.specs.Link.{Linked}
use Rattle.events.specs.Chunk.{Point, Chunk, cut}
use Rattle.events.specs.Lent.{rows_from, all_triples}
use Rattle.events.specs.Read.{spot_at, points_from}
use Rattle.events.proofs.PassLaws.{points-long}
use Rattle.passes.specs.Attempt.{Outcome}
use Rattle.cutting.specs.Tries.{Tries, tries_of}
use Rattle.cutting.specs.Way.{route_of, way_chunks}
use Rattle.cutting.specs.Listing.{needs, room_of}
use Rattle.cutting.specs.Piece.{spending, Left, WithEvents, listed_of, kept_where, kept_of, went_of, worthy_of, after_tries, cut_piece_of}
use Rattle.cutting.specs.declared.piece.State.{State}
use Rattle.std.specs.Prelude.{Result, Ok, Err}
use Rattle.cutting.specs.declared.listing.Full.{Full}
use Rattle.cutting.specs.declared.piece.Cut.{Cut}
use Rattle.cutting.specs.declared.piece.Cut.TheVariants.{Nothing, Kept}
use Rattle.cutting.proofs.ListingLaws.{rows_long, way-singles}
use Rattle.cutting.proofs.RoomLaws.{needs_are, room-fits}
use Rattle.cutting.proofs.ListedLaws.{listed-long, gap-long}
use Rattle.cutting.proofs.TriesKeep.{tries_long}

-- ---- fits cutting

-- so many rows and triples are lent, and the counts of t fit
pub record Fit (rows : List ℕ) (o : List Float) (t : State) : Type 0 where
  pub fit_rows : t.rows * 3 ≤ length rows
  pub fit_triples : t.triples * 3 ≤ length o

-- a refusal counts no more
abbrev pub FitAfter : List ℕ → List Float → Result Cut Full → Type 0
FitAfter rows o (Ok (Nothing t)) = Fit rows o t
FitAfter rows o (Ok (Kept t)) = Fit rows o t
FitAfter rows o (Err f) = Unit {0}

pub record Room (rows : List ℕ) (o : List Float) (l : Left) : Type 0 where
  pub rows_long : length l.rows ≡ length rows
  pub out-long : length l.out ≡ length o
  pub fit : FitAfter rows o l.answer

-- ---- a pass on trial is listed behind its way, or refused

module _ (s : Setup) (w : Way) (removed n : ℕ) (t : State) (m d log rows : List ℕ) (o : List Float) (F : Fit rows o t) where
  abbrev ps : List Point
  ps = points_from o t.triples n

  abbrev ms : List Chunk
  ms = way_chunks w (spot_at o t.triples)

  abbrev new : List Chunk
  new = ms ++ (cut ps ∷ [])

  listed-room : room_of (length o / 3 - t.triples) (length rows / 3 - t.rows) (needs new) ≡ Ok tt → Room rows o (listed_of s w removed n t m d log rows o).left
  unfolding listed_of
  listed-room e =
      let r = room-fits (length o / 3 - t.triples) (length rows / 3 - t.rows) (length ms) (length ps) (sym (needs_are _ _ w (spot_at o t.triples) ps) ∙ e) in
      let a = r.0 in
      let b = r.1 in
      let l = points-long o t.triples n in
      let c : (t.triples + n + length ms) * 3 ≤ length o = omega arith in
      record {
        rows_long = rows_long (rows_from t.triples new) t.rows rows;
        out-long = gap-long t.triples n (all_triples ms) o (omega (arith, way-singles w (spot_at o t.triples)));
        fit = record {
          fit_rows = omega (arith, length-append ms (cut ps ∷ []));
          fit_triples = omega (arith, listed-long w (spot_at o t.triples) ps);
        };
      }

  kept-room : Room rows o (kept_of s w removed n t m d log rows o).left
  unfolding kept_of kept_where
  kept-room =
      where_room (room_of (length o / 3 - t.triples) (length rows / 3 - t.rows) (needs new)) refl
    where
      where_room : (r : Result Unit Full) → room_of (length o / 3 - t.triples) (length rows / 3 - t.rows) (needs new) ≡ r → Room rows o (kept_where s w removed n t m d log rows o r).left
      where_room (Ok u) e = listed-room e
      where_room (Err f) e = record { rows_long = refl; out-long = refl; fit = tt }

-- ---- the piece

module _ (s : Setup) (wall vs : List Float) (lens allowed : List ℕ) (pts : List Vec2) (closed : Bool) (t : State) (m d rows : List ℕ) where
  after-room : (q : Tries) → Fit rows q.outcome.out t → Room rows q.outcome.out (after_tries s wall vs lens allowed pts closed t m d rows q).left
  unfolding after_tries worthy_of went_of
  after-room q F =
      let c : Outcome = q.outcome in
      let r : Linked = route_of s wall vs lens m allowed t.pos (spot_at c.out t.triples) in
      let P : WithEvents → Type 0 = λ x. Room rows c.out x.left in
      by_test P c.attempt.full _ _
      (λ b. record { rows_long = refl; out-long = refl; fit = tt })
      (λ b. by_test P c.attempt.worth _ _
      (λ e. kept-room s r.path c.attempt.removed c.attempt.points (spending r.work (spending c.attempt.work t)) m d c.log rows c.out (record { fit_rows = F.fit_rows; fit_triples = F.fit_triples }))
      (λ e. record { rows_long = refl; out-long = refl; fit = record { fit_rows = F.fit_rows; fit_triples = F.fit_triples } }))

  fit_same : (o o' : List Float) → length o' ≡ length o → (a : Result Cut Full) → FitAfter rows o' a → FitAfter rows o a
  fit_same o o' e (Ok (Nothing x)) f = record { fit_rows = f.fit_rows; fit_triples = omega (arith, f.fit_triples, e) }
  fit_same o o' e (Ok (Kept x)) f = record { fit_rows = f.fit_rows; fit_triples = omega (arith, f.fit_triples, e) }
  fit_same o o' e (Err x) f = tt

  pub cut-room : (log : List ℕ) → Ready (st m log 0) → (o : List Float) → Fit rows o t → Room rows o (cut_piece_of s wall vs lens allowed pts closed t m d rows log o).left
  unfolding cut_piece_of
  cut-room log R o F =
      let may : Vec2 → Bool = allowed_at s wall vs lens in
      let q : Tries = tries_of s may pts closed t.pos t.triples m log o in
      let long = tries_long s may pts closed t.pos t.triples m log o R in
      let x = after-room q (record { fit_rows = F.fit_rows; fit_triples = omega (arith, F.fit_triples, long) }) in
      record { rows_long = x.rows_long; out-long = x.out-long ∙ long; fit = fit_same o q.outcome.out long (after_tries s wall vs lens allowed pts closed t m d rows q).left.answer x.fit }
