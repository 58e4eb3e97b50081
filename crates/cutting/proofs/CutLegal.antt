-- The events of cutting a piece are legal, and lead to the map, the log and the chunks that its definition leaves. Assumes nothing.
use mathlib.Core.Path.{◌≡◌, refl, sym, ap, ◌∙◌, subst}
use mathlib.Core.Bool.{Bool, true, false}
use mathlib.Core.List.{List, [], ◌∷◌, ◌++◌, append-nil, append_assoc}
use mathlib.Core.Option.{Option, none, some}
use Prim.Native.Nat.{ℕ, suc, ◌+◌, ◌-◌, ◌/◌}
use native.Mathlib.Omega.{arith}
use lib.ListN.{length}
use lib.Ieee.{Float}
use Rattle.loops.proofs.Cases.{by_test}
use Rattle.geom.specs.declared.vec2.Vec2.{Vec2}
use Rattle.raster.specs.Grid.{Sides}
use Rattle.raster.specs.Log.{Stock, st, Ready, redone}
use Rattle.raster.proofs.LogLaws.{Kept as Cleared}
use Rattle.setup.specs.Place.{allowed_at}
use Rattle.setup.specs.declared.Setup.{Setup}
use Rattle.links.specs.Path.{Way}
use Rattle.links.specs.Link.{Linked}
use Rattle.events.specs.Chunk.{Point, Chunk, cut, Entry, Job}
use Rattle.events.specs.Replay.{BeginsGood}
use Rattle.events.specs.Events.{Event, kept, withdrawn, State, state, step, steps, LegalFrom}
use Rattle.events.specs.Read.{spot_at, point_at, points_from}
use Rattle.events.specs.Told.{how_many, events_of}
use Rattle.events.proofs.GrowLaws.{steps-append, legal_append}
use Rattle.events.proofs.CountLaws.{events-append}
use Rattle.passes.specs.Attempt.{Outcome}
use Rattle.setup.specs.Made.{Measured}
use Rattle.passes.specs.Tried.{job_at}
use Rattle.cutting.specs.Tries.{Tries, tries_of}
use Rattle.cutting.specs.Way.{route_of, way_chunks}
use Rattle.cutting.specs.Listing.{needs, room_of}
use Rattle.cutting.specs.Piece.{spending, WithEvents, with_events, lf, way_events, listed_of, kept_where, kept_of, went_of, worthy_of, after_tries, cut_piece_of}
use Rattle.cutting.specs.declared.piece.State.{State as Plan}
use Rattle.std.specs.Prelude.{Result, Ok, Err}
use Rattle.cutting.specs.declared.listing.Full.TheVariants.{Triples}
use Rattle.cutting.specs.declared.listing.Full.{Full}
use Rattle.cutting.specs.declared.piece.Cut.{Cut}
use Rattle.cutting.specs.declared.piece.Cut.TheVariants.{Nothing, Kept}
use Rattle.cutting.proofs.WayLegal.{position_of, way-places, Leads, route_leads, way_goes, way_leaves, keep_checked, keep_leaves}
use Rattle.cutting.proofs.TryLegal.{TriesLegal}
use Rattle.cutting.proofs.TriesLegal.{Idle, from-idle, tries_legal}

-- ---- the claim

-- what was listed: the chunks `new` of a pass that was kept
abbrev pub listed_by : Result Cut Full → List Chunk → List Chunk
listed_by (Ok (Nothing t)) new = []
listed_by (Ok (Kept t)) new = new
listed_by (Err f) new = []

-- where the tool is then; p is where it was
abbrev pub placed_by : Result Cut Full → Option Vec2 → Option Vec2
placed_by (Ok (Nothing t)) p = position_of t.pos
placed_by (Ok (Kept t)) p = position_of t.pos
placed_by (Err f) p = p

-- from the state e, with the map m and the log's slice `log`
pub record CutLegal (j : Job) (e : State) (m log : List ℕ) (new : List Chunk) (q : WithEvents) : Type 0 where
  pub legal : LegalFrom j e q.events
  pub places : events_of 5 q.events ≡ 0
  pub leaves : steps j e q.events ≡ state (st q.left.map q.left.log 0) (e.rows ++ listed_by q.left.answer new) (placed_by q.left.answer e.position) none none e.abandoned
  pub map-long : length q.left.map ≡ length m
  pub log-long : length q.left.log ≡ length log

-- after events that list nothing
more_legal : (j : Job) (e : State) (m log : List ℕ) (new : List Chunk) (k : Stock) (x : Option (List Point)) (es : List Event) (r : WithEvents) → LegalFrom j e es → events_of 5 es ≡ 0 → steps j e es ≡ state k e.rows e.position x none e.abandoned
    → CutLegal j (state k e.rows e.position x none e.abandoned) m log new r → CutLegal j e m log new (with_events r.left (es ++ r.events))
more_legal j e m log new k x es r h z d g = record {
  places = omega (arith, events-append 5 es r.events, g.places);
  legal = legal_append j es r.events e h (subst (λ (f : State). LegalFrom j f r.events) (sym d) g.legal);
  leaves = steps-append j es r.events e ∙ ap (λ (f : State). steps j f r.events) d ∙ g.leaves;
  map-long = g.map-long;
  log-long = g.log-long;
}

-- ---- a pass on trial is listed and kept, or it is withdrawn

module _ (s : Setup) (wall vs : List Float) (lens start : List ℕ) (limit : Float) (entry : Entry) (m log gone : List ℕ)
    (k : Stock) (l : List ℕ) (K : Cleared (st m l 0) k) (long : length k.log ≡ length log) (cs : List Chunk) (t : Plan) (d rows : List ℕ) (o : List Float) where
  abbrev j : Job
  j = job_at s wall vs lens start limit entry

  abbrev at : ℕ
  at = t.triples

  -- with n points
  abbrev trial_of : ℕ → State
  trial_of n = state k cs (position_of t.pos) (some (points_from o at n)) none gone

  abbrev chunks_of : Way → ℕ → List Chunk
  chunks_of w n = way_chunks w (spot_at o at) ++ (cut (points_from o at n) ∷ [])

  module _ (B : BeginsGood j m (point_at o at)) (w : Way) (L : Leads s wall vs lens m t.pos w (spot_at o at)) (n : ℕ) where
    abbrev pn : List Point
    pn = points_from o at (suc n)

    listed_legal : CutLegal j (trial_of (suc n)) m log (chunks_of w (suc n)) (listed_of s w k.count (suc n) t m d k.log rows o)
    unfolding listed_of steps how_many
    listed_legal =
        let es : List Event = way_events s.keep_down t.pos w (spot_at o at) in
        let come = way_leaves s wall vs lens start limit entry m k l K cs pn (point_at o at) B gone s.keep_down t.pos w L in
        let z : at + n ≡ at + suc n - 1 = omega arith in
        record {
          legal = legal_append j es (kept ∷ []) (trial_of (suc n)) (way_goes s wall vs lens start limit entry m k l K cs pn (point_at o at) B gone s.keep_down refl t.pos w L)
              (subst (λ (f : State). LegalFrom j f (kept ∷ [])) (sym come) (keep_checked j m k l K o at n gone (cs ++ way_chunks w (spot_at o at)), tt));
          places = omega (arith, events-append 5 es (kept ∷ []), way-places s.keep_down t.pos w (spot_at o at));
          leaves = steps-append j es (kept ∷ []) (trial_of (suc n))
              ∙ ap (λ (f : State). step j f kept) come
              ∙ keep_leaves j m k l K o at n gone (cs ++ way_chunks w (spot_at o at))
              ∙ (λ i. state (st (redone k.log 0 k.count m) k.log 0) (append_assoc cs (way_chunks w (spot_at o at)) (cut pn ∷ []) i) (some (spot_at o (z i))) none none gone);
          map-long = ap length K.again ∙ K.cells-long;
          log-long = long;
        }

    refused_legal : (num : Full) → CutLegal j (trial_of (suc n)) m log (chunks_of w (suc n)) (with_events (lf m d k.log rows o (Err num)) (withdrawn ∷ []))
    unfolding steps step how_many
    refused_legal num = record {
      legal = (record { points = pn; on = refl }, tt);
      places = refl;
      leaves = λ i. state (st (K.back i) k.log 0) (sym (append-nil cs) i) (position_of t.pos) none none gone;
      map-long = refl;
      log-long = long;
    }

    kept_legal : CutLegal j (trial_of (suc n)) m log (chunks_of w (suc n)) (kept_of s w k.count (suc n) t m d k.log rows o)
    unfolding kept_of kept_where
    kept_legal =
        where_legal (room_of (length o / 3 - t.triples) (length rows / 3 - t.rows) (needs (chunks_of w (suc n))))
      where
        where_legal : (r : Result Unit Full) → CutLegal j (trial_of (suc n)) m log (chunks_of w (suc n)) (kept_where s w k.count (suc n) t m d k.log rows o r)
        where_legal (Ok u) = listed_legal
        where_legal (Err f) = refused_legal f

    -- the log, the count and the number of points as the tries have them
    kept_by : (log' : List ℕ) (removed points : ℕ) → k.log ≡ log' → k.count ≡ removed → points ≡ suc n
        → CutLegal j (trial_of points) m log (chunks_of w points) (kept_of s w removed points t m d log' rows o)
    kept_by log' removed points a b c =
        subst (λ (i : ℕ). CutLegal j (trial_of i) m log (chunks_of w i) (kept_of s w removed i t m d log' rows o)) (sym c)
        (subst (λ (i : ℕ). CutLegal j (trial_of (suc n)) m log (chunks_of w (suc n)) (kept_of s w i (suc n) t m d log' rows o)) b
        (subst (λ (x : List ℕ). CutLegal j (trial_of (suc n)) m log (chunks_of w (suc n)) (kept_of s w k.count (suc n) t m d x rows o)) a kept_legal))

-- ---- the piece

module _ (s : Setup) (wall vs : List Float) (lens allowed : List ℕ) (pts : List Vec2) (closed : Bool) (t : Plan) (m d rows : List ℕ) where
  -- the chunks of a pass that the tries left on trial: those of the way to it, and its points
  abbrev pub new_after : Outcome → List Chunk
  new_after c =
      let q = spot_at c.out t.triples in
      way_chunks (route_of s wall vs lens m allowed t.pos q).path q ++ (cut (points_from c.out t.triples c.attempt.points) ∷ [])

  module _ (S : Sides s.grid) (M : Measured s) (start : List ℕ) (limit : Float) (entry : Entry) (log : List ℕ) (R : Ready (st m log 0)) where
    abbrev job : Job
    job = job_at s wall vs lens start limit entry

    module _ (cs : List Chunk) (gone : List ℕ) (q : Tries) where
      abbrev here : State
      here = state (st m log 0) cs (position_of t.pos) none none gone

      abbrev Fits : WithEvents → Type 0
      Fits r = CutLegal job here m log (new_after q.outcome) r

      module _ (h : TriesLegal job here t.triples m log q.outcome q.events) where
        abbrev c : Outcome
        c = q.outcome

        -- nothing is on trial
        quiet : (x : Result Cut Full) → listed_by x (new_after c) ≡ [] → placed_by x (position_of t.pos) ≡ position_of t.pos → c.attempt.worth ≡ false
            → Fits (with_events (lf m d c.log rows c.out x) q.events)
        quiet x a b w = record {
          legal = h.legal;
          places = h.places;
          leaves = h.idle w ∙ (λ i. state (st m c.log 0) ((sym (append-nil cs) ∙ ap (λ (n : List Chunk). cs ++ n) (sym a)) i) (sym b i) none none gone);
          map-long = refl;
          log-long = h.long;
        }

        worthy : c.attempt.worth ≡ true → Fits (with_events (worthy_of s wall vs lens allowed pts closed t m d rows c).left (q.events ++ (worthy_of s wall vs lens allowed pts closed t m d rows c).events))
        unfolding worthy_of went_of
        worthy w =
            let T = h.trial w in
            let p : Vec2 = spot_at c.out t.triples in
            let r : Linked = route_of s wall vs lens m allowed t.pos p in
            more_legal job here m log (new_after c) T.stock (some (points_from c.out t.triples c.attempt.points)) q.events _ h.legal h.places T.is
            (kept_by s wall vs lens start limit entry m log gone T.stock T.slice T.ran (ap length T.log ∙ h.long) cs (spending r.work (spending c.attempt.work t)) d rows c.out
            T.begins r.path (route_leads s wall vs lens m S allowed p t.pos) T.more c.log c.attempt.removed c.attempt.points T.log T.count T.points)

        after_legal : Fits (after_tries s wall vs lens allowed pts closed t m d rows q)
        unfolding after_tries
        after_legal =
            by_test Fits c.attempt.full _ _
            (λ b. quiet (Err Triples) refl refl (h.full b))
            (λ b. by_test Fits c.attempt.worth _ _ worthy (quiet (Ok (Nothing (spending c.attempt.work t))) refl refl))

    -- from any state with the map m, the log's slice `log` and the tool where the plan has it
    pub cut_legal : (o : List Float) (e : State) → Idle e (st m log 0) → e.position ≡ position_of t.pos
        → CutLegal job e m log (new_after (tries_of s (allowed_at s wall vs lens) pts closed t.pos t.triples m log o).outcome) (cut_piece_of s wall vs lens allowed pts closed t m d rows log o)
    unfolding cut_piece_of
    cut_legal o e a x =
        let q : Tries = tries_of s (allowed_at s wall vs lens) pts closed t.pos t.triples m log o in
        let r : WithEvents = after_tries s wall vs lens allowed pts closed t m d rows q in
        from-idle (λ (f : State). CutLegal job f m log (new_after q.outcome) r) e (st m log 0) a
        (subst (λ (p : Option Vec2). CutLegal job (state (st m log 0) e.rows p none none e.abandoned) m log (new_after q.outcome) r) (sym x)
        (after_legal e.rows e.abandoned q
        (tries_legal s wall vs lens start limit entry M pts closed t.pos t.triples m log o R (here e.rows e.abandoned q) (record { stock = refl; trial = refl; refused = refl }))))
