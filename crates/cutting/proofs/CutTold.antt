-- Demand 3 over a piece that is cut: behind the plan so far its events are legal and told by their rows, and the lent slices hold these. Assumes nothing.
use mathlib.Core.Path.{◌≡◌, refl, sym, ap, ◌∙◌, subst}
use mathlib.Core.Bool.{Bool}
use mathlib.Core.List.{List, [], ◌∷◌, ◌++◌}
use mathlib.Core.Option.{Option, none}
use Prim.Native.Nat.{ℕ}
use native.Mathlib.Omega.{arith}
use lib.ListN.{length}
use lib.Ieee.{Float}
use Rattle.geom.specs.declared.vec2.Vec2.{Vec2}
use Rattle.raster.specs.Grid.{Sides}
use Rattle.raster.specs.Log.{Stock, st, Ready}
use Rattle.raster.proofs.RunLaws.{ready_for}
use Rattle.setup.specs.Place.{allowed_at}
use Rattle.setup.specs.declared.Setup.{Setup}
use Rattle.links.specs.Path.{Way, lost, way}
use Rattle.events.specs.Chunk.{Point, Chunk, cut, Entry, Job}
use Rattle.events.specs.Followed.{Followed}
use Rattle.events.specs.Lent.{rows_from, all_triples, flat_rows, flat_triples, Holds}
use Rattle.events.specs.Events.{Event, State, state, zeros, begin, steps, after, Legal, Fit}
use Rattle.events.specs.Told.{events_of, Demand3, Report, Counted, Finished}
use Rattle.events.proofs.Demand.{demand3}
use Rattle.events.proofs.GrowLaws.{after-append, legal_more, inv_all}
use Rattle.events.proofs.CountLaws.{events-append}
use Rattle.events.proofs.Finish.{finished}
use Rattle.events.proofs.FollowLaws.{followed_append, links_followed, plunge_followed}
use Rattle.passes.specs.Attempt.{Outcome}
use Rattle.setup.specs.Made.{Measured}
use Rattle.passes.specs.Tried.{job_at}
use Rattle.cutting.specs.Tries.{tries_of}
use Rattle.cutting.specs.Way.{route_of, way_chunks}
use Rattle.cutting.specs.Piece.{Left, WithEvents, cut_piece_of}
use Rattle.cutting.specs.declared.piece.State.{State as Plan}
use Rattle.std.specs.Prelude.{Result, Ok, Err}
use Rattle.cutting.specs.declared.listing.Full.{Full}
use Rattle.cutting.specs.declared.piece.Cut.{Cut}
use Rattle.cutting.specs.declared.piece.Cut.TheVariants.{Nothing, Kept}
use Rattle.cutting.proofs.WayLegal.{position_of}
use Rattle.cutting.proofs.TriesLegal.{Idle}
use Rattle.cutting.proofs.CutLegal.{listed_by, placed_by, new_after, CutLegal, cut_legal}
use Rattle.cutting.proofs.CutHolds.{Counts, CutHolds, cut_holds}

-- ---- between pieces

-- the events so far are legal, and lead to the map m, the cells given up, the log's slice l, nothing on trial and the chunks that rows and triples hold; a way is
-- followed by its cut
pub record Planned (j : Job) (es : List Event) (m gone l rows : List ℕ) (o : List Float) : Type 0 where
  pub legal : Legal j es
  pub idle : Idle (after j es) (st m l 0)
  pub abandoned : (after j es).abandoned ≡ gone
  pub held : Holds rows o (after j es).rows
  pub followed : Followed (after j es).rows

-- what planning holds by value is so in the state e
pub record Agrees (e : State) (t : Plan) : Type 0 where
  pub position : e.position ≡ position_of t.pos
  pub rows : length e.rows ≡ t.rows
  pub triples : length (all_triples e.rows) ≡ t.triples

-- a refusal ends the plan
abbrev pub Answers : State → Result Cut Full → Type 0
Answers e (Ok (Nothing t)) = Agrees e t
Answers e (Ok (Kept t)) = Agrees e t
Answers e (Err f) = Unit {0}

-- q came of the map m, the log's slice l, rows and triples after the events es
pub record CutTold (j : Job) (es : List Event) (m gone l rows : List ℕ) (o : List Float) (q : WithEvents) : Type 0 where
  pub planned : Planned j (es ++ q.events) q.left.map gone q.left.log q.left.rows q.left.out
  pub claim : Demand3 j (es ++ q.events)
  -- no place of a helix is given up by it
  pub places : events_of 5 (es ++ q.events) ≡ events_of 5 es
  pub answers : Answers (after j (es ++ q.events)) q.left.answer
  pub map-long : length q.left.map ≡ length m
  pub log-long : length q.left.log ≡ length l
  pub rows_long : length q.left.rows ≡ length rows
  pub out-long : length q.left.out ≡ length o

answer_of_lem : (a : Result Cut Full) (k : Stock) (cs : List Chunk) (p : Option Vec2) (gone : List ℕ) → Counts a cs → Answers (state k cs (placed_by a p) none none gone) a
answer_of_lem (Ok (Nothing t)) k cs p gone c = record { position = refl; rows = c.0; triples = c.1 }
answer_of_lem (Ok (Kept t)) k cs p gone c = record { position = refl; rows = c.0; triples = c.1 }
answer_of_lem (Err f) k cs p gone c = tt

-- the chunks of a piece: a way and its cut, or none
way_followed : (w : Way) (q : Vec2) (ps : List Point) → Followed (way_chunks w q ++ (cut ps ∷ []))
unfolding way_chunks
way_followed lost q ps = plunge_followed q ps
way_followed (way ws) q ps = links_followed ws ps

listed_followed : (a : Result Cut Full) (new : List Chunk) → Followed new → Followed (listed_by a new)
listed_followed (Ok (Nothing t)) new h = tt
listed_followed (Ok (Kept t)) new h = h
listed_followed (Err f) new h = tt

-- a plan begins with no events
pub planned_begin : (j : Job) (rows : List ℕ) (o : List Float) → Planned j [] j.start (zeros j) (zeros j) rows o
unfolding after steps begin rows_from all_triples flat_rows flat_triples
planned_begin j rows o = record {
  legal = tt;
  idle = record { stock = refl; trial = refl; refused = refl };
  abandoned = refl;
  held = record { rows = refl; triples = refl };
  followed = tt;
}

module _ (j : Job) (F : Fit j) (es : List Event) (m gone l rows : List ℕ) (o : List Float) (P : Planned j es m gone l rows o) where
  -- the log has room for another pass
  pub planned_ready : Ready (st m l 0)
  planned_ready =
      let i = inv_all j F es P.legal in
      subst (λ (k : Stock). Ready (st k.cells k.log 0)) P.idle.stock (ready_for (after j es).stock.cells (after j es).stock.log i.room i.small)

  -- and it may end there
  pub planned_finished : (r : Report) → Counted j es m r → Finished j es r m (length (after j es).rows) rows o
  planned_finished r c = finished j es P.legal F P.idle.trial rows o P.held m (sym (ap (λ (k : Stock). k.cells) P.idle.stock)) r c

  -- what is legal and leaves chunks that the slices hold is a plan so far again
  planned_more : (q : WithEvents) (new : List Chunk) → Followed new → CutLegal j (after j es) m l new q → CutHolds rows o (after j es).rows new q.left → CutTold j es m gone l rows o q
  planned_more q new f g h =
      let x = after-append j es q.events ∙ g.leaves in
      let legal : Legal j (es ++ q.events) = legal_more j es q.events P.legal g.legal in
      let left : Left = q.left in
      record {
        planned = record {
          legal = legal;
          idle = record { stock = ap (λ (e : State). e.stock) x; trial = ap (λ (e : State). e.trial) x; refused = ap (λ (e : State). e.refused) x };
          abandoned = ap (λ (e : State). e.abandoned) x ∙ P.abandoned;
          held = subst (λ (e : State). Holds left.rows left.out e.rows) (sym x) h.held;
          followed = subst (λ (e : State). Followed e.rows) (sym x) (followed_append (after j es).rows (listed_by left.answer new) P.followed (listed_followed left.answer new f));
        };
        claim = demand3 j F (es ++ q.events) legal;
        places = omega (arith, events-append 5 es q.events, g.places);
        answers = subst (λ (e : State). Answers e left.answer) (sym x) (answer_of_lem left.answer _ _ _ _ h.counted);
        map-long = g.map-long;
        log-long = g.log-long;
        rows_long = h.rows_long;
        out-long = h.out-long;
      }

-- ---- the theorem

module _ (s : Setup) (wall vs : List Float) (lens start : List ℕ) (limit : Float) (entry : Entry) (S : Sides s.grid) (M : Measured s) where
  abbrev job : Job
  job = job_at s wall vs lens start limit entry

  pub cut-told : Fit job → (es : List Event) (m gone l rows : List ℕ) (o : List Float) → Planned job es m gone l rows o → (t : Plan) → Agrees (after job es) t
      → (allowed : List ℕ) (pts : List Vec2) (closed : Bool) (d : List ℕ) → CutTold job es m gone l rows o (cut_piece_of s wall vs lens allowed pts closed t m d rows l o)
  cut-told F es m gone l rows o P t A allowed pts closed d =
      let e : State = after job es in
      let R : Ready (st m l 0) = planned_ready job F es m gone l rows o P in
      let c : Outcome = (tries_of s (allowed_at s wall vs lens) pts closed t.pos t.triples m l o).outcome in
      planned_more job F es m gone l rows o P _ (new_after s wall vs lens allowed pts closed t m d rows c)
      (way_followed (route_of s wall vs lens m allowed t.pos _).path _ _)
      (cut_legal s wall vs lens allowed pts closed t m d rows S M start limit entry l R o e P.idle A.position)
      (cut_holds s wall vs lens allowed pts closed t m d rows M l R e.rows A.rows A.triples o P.held)
