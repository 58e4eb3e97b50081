-- After cutting a piece the lent rows and triples hold the chunks that were listed, those of the events. Assumes nothing.
use mathlib.Core.Path.{◌≡◌, refl, sym, ap, ◌∙◌, subst}
use mathlib.Core.Bool.{Bool, true, false}
use mathlib.Core.List.{List, [], ◌∷◌, ◌++◌, append-nil}
use Prim.Native.Nat.{ℕ, ◌+◌, ◌-◌, ◌*◌, ◌/◌, ◌≤◌}
use native.Mathlib.Omega.{arith}
use lib.ListN.{length, length-append}
use lib.Ieee.{Float}
use Rattle.loops.proofs.Cases.{by_test}
use Rattle.geom.specs.declared.vec2.Vec2.{Vec2}
use Rattle.raster.specs.Log.{st, Ready}
use Rattle.setup.specs.Place.{allowed_at}
use Rattle.setup.specs.declared.Setup.{Setup}
use Rattle.links.specs.Path.{Way}
use Rattle.links.specs.Link.{Linked}
use Rattle.events.specs.Chunk.{Point, Chunk, cut}
use Rattle.events.specs.Lent.{rows_from, all_triples, Holds, HoldsTrial, gap_triples, put_rows}
use Rattle.events.specs.Read.{spot_at, points_from}
use Rattle.events.proofs.LentLaws.{trial-withdrawn, triples-append}
use Rattle.events.proofs.PassLaws.{points-long}
use Rattle.passes.specs.Attempt.{Outcome}
use Rattle.setup.specs.Made.{Measured}
use Rattle.cutting.specs.Tries.{Tries, tries_of}
use Rattle.cutting.specs.Way.{route_of, way_chunks}
use Rattle.cutting.specs.Listing.{needs, room_of}
use Rattle.cutting.specs.Piece.{spending, Left, WithEvents, lf, listed_of, kept_where, kept_of, went_of, worthy_of, after_tries, cut_piece_of}
use Rattle.cutting.specs.declared.piece.State.{State as Plan}
use Rattle.std.specs.Prelude.{Result, Ok, Err}
use Rattle.cutting.specs.declared.listing.Full.TheVariants.{Triples}
use Rattle.cutting.specs.declared.listing.Full.{Full}
use Rattle.cutting.specs.declared.piece.Cut.{Cut}
use Rattle.cutting.specs.declared.piece.Cut.TheVariants.{Nothing, Kept}
use Rattle.cutting.proofs.ListingLaws.{rows_long, way-singles}
use Rattle.cutting.proofs.RoomLaws.{needs_are, room-fits}
use Rattle.cutting.proofs.ListedLaws.{listed-holds, gap-long}
use Rattle.cutting.proofs.TriesKeep.{tries_long, tries_room}
use Rattle.cutting.proofs.TriesHolds.{tries_stand}
use Rattle.cutting.proofs.CutLegal.{listed_by, new_after}

-- ---- the claim

-- the plan's numbers of rows and triples are those of the chunks cs; a refusal ends the plan
abbrev pub Counts : Result Cut Full → List Chunk → Type 0
Counts (Ok (Nothing t)) cs = (length cs ≡ t.rows) × (length (all_triples cs) ≡ t.triples)
Counts (Ok (Kept t)) cs = (length cs ≡ t.rows) × (length (all_triples cs) ≡ t.triples)
Counts (Err f) cs = Unit {0}

-- the slices rows and o held cs; `new` are the chunks of a pass that is kept
pub record CutHolds (rows : List ℕ) (o : List Float) (cs new : List Chunk) (l : Left) : Type 0 where
  pub held : Holds l.rows l.out (cs ++ listed_by l.answer new)
  pub counted : Counts l.answer (cs ++ listed_by l.answer new)
  pub rows_long : length l.rows ≡ length rows
  pub out-long : length l.out ≡ length o

-- ---- a pass on trial is listed behind its way, or refused

module _ (s : Setup) (w : Way) (removed n : ℕ) (t : Plan) (m d log rows : List ℕ) (o : List Float) (cs : List Chunk) (A : length cs ≡ t.rows) (B : length (all_triples cs) ≡ t.triples)
    (H : HoldsTrial rows o cs (points_from o t.triples n)) where
  abbrev ps : List Point
  ps = points_from o t.triples n

  abbrev ms : List Chunk
  ms = way_chunks w (spot_at o t.triples)

  abbrev new : List Chunk
  new = ms ++ (cut ps ∷ [])

  refused-holds : (x : Result Cut Full) → listed_by x new ≡ [] → Counts x cs → CutHolds rows o cs new (lf m d log rows o x)
  refused-holds x e k =
      let z : cs ≡ cs ++ listed_by x new = sym (append-nil cs) ∙ ap (λ (l : List Chunk). cs ++ l) (sym e) in
      record {
        held = subst (Holds rows o) z (trial-withdrawn rows o cs ps H);
        counted = subst (Counts x) z k;
        rows_long = refl;
        out-long = refl;
      }

  module _ (some-point : 1 ≤ n) where
    listed_fit : room_of (length o / 3 - t.triples) (length rows / 3 - t.rows) (needs new) ≡ Ok tt
        → ((t.triples + length ms + n) * 3 ≤ length o) × ((t.rows + length ms + 1) * 3 ≤ length rows)
    listed_fit e =
        let r = room-fits (length o / 3 - t.triples) (length rows / 3 - t.rows) (length ms) (length ps) (sym (needs_are _ _ w (spot_at o t.triples) ps) ∙ e) in
        let a = r.0 in
        let b = r.1 in
        let l = points-long o t.triples n in
        (omega arith, omega arith)

    listed_there : (t.triples + length ms + n) * 3 ≤ length o → (t.rows + length ms + 1) * 3 ≤ length rows → CutHolds rows o cs new (listed_of s w removed n t m d log rows o).left
    unfolding listed_of
    listed_there a b =
        let l = points-long o t.triples n in
        record {
          held =
              subst (λ (k : ℕ). Holds (put_rows t.rows (rows_from t.triples new) rows) (gap_triples t.triples k (all_triples ms) o) (cs ++ new)) l
              (subst (λ (k : ℕ). Holds (put_rows t.rows (rows_from k new) rows) (gap_triples k (length ps) (all_triples ms) o) (cs ++ new)) B
              (subst (λ (k : ℕ). Holds (put_rows k (rows_from (length (all_triples cs)) new) rows) (gap_triples (length (all_triples cs)) (length ps) (all_triples ms) o) (cs ++ new)) A
              (listed-holds rows o cs ps w (spot_at o t.triples) (omega (arith, A, B)) (omega (arith, A, B)) H)));
          counted = (
            length-append cs new ∙ ap (λ (k : ℕ). k + length new) A,
            ap length (triples-append cs new) ∙ length-append (all_triples cs) (all_triples new) ∙ ap (λ (k : ℕ). k + length (all_triples new)) B,
          );
          rows_long = rows_long (rows_from t.triples new) t.rows rows;
          out-long = gap-long t.triples n (all_triples ms) o (omega (arith, way-singles w (spot_at o t.triples)));
        }

    kept-holds : CutHolds rows o cs new (kept_of s w removed n t m d log rows o).left
    unfolding kept_of kept_where
    kept-holds =
        where_holds (room_of (length o / 3 - t.triples) (length rows / 3 - t.rows) (needs new)) refl
      where
        where_holds : (r : Result Unit Full) → room_of (length o / 3 - t.triples) (length rows / 3 - t.rows) (needs new) ≡ r → CutHolds rows o cs new (kept_where s w removed n t m d log rows o r).left
        where_holds (Ok u) e = let f = listed_fit e in listed_there f.0 f.1
        where_holds (Err f) e = refused-holds (Err f) refl tt

-- ---- the piece

module _ (s : Setup) (wall vs : List Float) (lens allowed : List ℕ) (pts : List Vec2) (closed : Bool) (t : Plan) (m d rows : List ℕ) (M : Measured s) (log : List ℕ) (R : Ready (st m log 0))
    (cs : List Chunk) (A : length cs ≡ t.rows) (B : length (all_triples cs) ≡ t.triples) where
  abbrev new_by : Outcome → List Chunk
  new_by c = new_after s wall vs lens allowed pts closed t m d rows c

  after_holds : (q : Tries) → HoldsTrial rows q.outcome.out cs (points_from q.outcome.out t.triples q.outcome.attempt.points)
      → (q.outcome.attempt.full ≡ false → q.outcome.attempt.worth ≡ true → 1 ≤ q.outcome.attempt.points)
      → CutHolds rows q.outcome.out cs (new_by q.outcome) (after_tries s wall vs lens allowed pts closed t m d rows q).left
  unfolding after_tries worthy_of went_of
  after_holds q h g =
      let c : Outcome = q.outcome in
      let to : Vec2 = spot_at c.out t.triples in
      let r : Linked = route_of s wall vs lens m allowed t.pos to in
      let P : WithEvents → Type 0 = λ x. CutHolds rows c.out cs (new_by c) x.left in
      let still : (x : Result Cut Full) → listed_by x (new_by c) ≡ [] → Counts x cs → CutHolds rows c.out cs (new_by c) (lf m d c.log rows c.out x) =
      refused-holds s r.path c.attempt.removed c.attempt.points t m d c.log rows c.out cs A B h in
      by_test P c.attempt.full _ _
      (λ b. still (Err Triples) refl tt)
      (λ b. by_test P c.attempt.worth _ _
      (λ e. kept-holds s r.path c.attempt.removed c.attempt.points (spending r.work (spending c.attempt.work t)) m d c.log rows c.out cs A B h (g b e))
      (λ e. still (Ok (Nothing (spending c.attempt.work t))) refl (A, B)))

  pub cut_holds : (o : List Float) → Holds rows o cs
      → CutHolds rows o cs (new_by (tries_of s (allowed_at s wall vs lens) pts closed t.pos t.triples m log o).outcome) (cut_piece_of s wall vs lens allowed pts closed t m d rows log o).left
  unfolding cut_piece_of
  cut_holds o h =
      let may : Vec2 → Bool = allowed_at s wall vs lens in
      let q : Tries = tries_of s may pts closed t.pos t.triples m log o in
      let x = after_holds q (tries_stand s wall vs lens M t.triples m rows cs B pts closed t.pos log R o h).held
      (λ f w. let two = (tries_room s may pts closed t.pos t.triples m log o R f w).1 in omega arith) in
      record { held = x.held; counted = x.counted; rows_long = x.rows_long; out-long = x.out-long ∙ tries_long s may pts closed t.pos t.triples m log o R }
