-- Demand 3 over the search for an entry: behind the plan so far its events are legal and told by their rows, and the lent slices hold these. Assumes nothing.
use mathlib.Core.Path.{◌≡◌, refl, sym, ap, ◌∙◌, subst}
use mathlib.Core.List.{List, [], ◌∷◌, ◌++◌, append_assoc, append-nil}
use mathlib.Core.Option.{Option, none, some}
use Prim.Native.Nat.{ℕ, ◌+◌, ◌-◌, ◌*◌, ◌/◌, ◌≤◌}
use native.Mathlib.Omega.{arith}
use lib.ListN.{length, length-append}
use lib.Ieee.{Float, binary64, add}
use Rattle.loops.specs.Loop.{Run, on, out, turn}
use Rattle.loops.proofs.LoopLaws.{loop_both}
use Rattle.geom.specs.declared.vec2.Vec2.{Vec2}
use Rattle.raster.specs.Stock.{clear_disk}
use Rattle.raster.specs.Log.{Stock}
use Rattle.raster.proofs.StockLaws.{clear-disk-left}
use Rattle.setup.specs.declared.Setup.{Setup}
use Rattle.events.specs.Chunk.{helix, Spot, Job}
use Rattle.events.specs.Replay.{helix_end}
use Rattle.events.specs.Helix.{radius_of}
use Rattle.events.specs.Events.{Event, entered, given_up, State, bored, step, steps, after, PlaceChecked, Fit}
use Rattle.events.specs.Followed.{Followed}
use Rattle.events.specs.Lent.{triple_at, row_at, all_triples, Holds, set_row, set_triple}
use Rattle.events.specs.Told.{how_many, events_of, Demand3}
use Rattle.events.proofs.Demand.{demand3}
use Rattle.events.proofs.GrowLaws.{after-append, legal_more}
use Rattle.events.proofs.CountLaws.{events-append}
use Rattle.events.proofs.FollowLaws.{followed_append}
use Rattle.events.proofs.LentLaws.{triples_more, holds_move}
use Rattle.events.proofs.ShiftLaws.{set3-long}
use Rattle.passes.specs.Tried.{job_at}
use Rattle.cutting.specs.Listing.{needs, room_of}
use Rattle.cutting.specs.Piece.{sta}
use Rattle.std.specs.Prelude.{Some, None}
use Rattle.std.specs.Prelude.{Result, Ok, Err}
use Rattle.cutting.specs.declared.listing.Full.{Full}
use Rattle.cutting.specs.declared.piece.State.{State as Plan}
use Rattle.cutting.proofs.RoomLaws.{room-fits}
use Rattle.cutting.proofs.CutTold.{Planned, Agrees}
use Rattle.helix.specs.Search.{Found, place_of, abandon_of, entry_of, radius_at, Seeking, Sought, sk, sought_end, fitting, attempt_at, attempt_of, step_by, seek_step, seek_of}
use Rattle.helix.specs.Enter.{Entered, lf, WithEvents, with_events, bored_of, listed_where, listed_of, after_search, helix_of}
use Rattle.helix.specs.declared.search.Attempt.{Attempt}
use Rattle.helix.proofs.RadiusLaws.{radius-same}
use Rattle.helix.proofs.SearchLaws.{seek_long}

-- ---- one event more, of any job

-- the place that the job finds, and what its radii come to
pub record PlaceIs (j : Job) (m gone : List ℕ) (c : Vec2) (o : Option Float) : Type 0 where
  pub widest : Float
  pub found : j.entry.place m gone ≡ some (record { centre = c; widest = widest })
  pub radius : radius_of j c widest ≡ o

module _ (j : Job) (es : List Event) (m gone l rows : List ℕ) (o : List Float) (P : Planned j es m gone l rows o) where
  abbrev e : State
  e = after j es

  cells_are : e.stock.cells ≡ m
  cells_are = ap (λ (k : Stock). k.cells) P.idle.stock

  checked : (c : Vec2) (r : Option Float) → PlaceIs j m gone c r → PlaceChecked j e c r
  checked c r h = record {
    idle = P.idle.trial;
    widest = h.widest;
    found = ap (λ (x : List ℕ). j.entry.place x e.abandoned) cells_are ∙ ap (j.entry.place m) P.abandoned ∙ h.found;
    radius = h.radius;
  }

  after_one : (x : Event) → after j (es ++ (x ∷ [])) ≡ step j e x
  unfolding steps
  after_one x = after-append j es (x ∷ [])

  -- a place given up keeps the plan
  pub planned_gone : (c : Vec2) → PlaceIs j m gone c none → Planned j (es ++ (given_up c ∷ [])) m (j.entry.abandon m gone) l rows o
  unfolding step
  planned_gone c h =
      let x = after_one (given_up c) in
      record {
        legal = legal_more j es (given_up c ∷ []) P.legal (checked c none h, tt);
        idle = record {
          stock = ap (λ (f : State). f.stock) x ∙ P.idle.stock;
          trial = ap (λ (f : State). f.trial) x ∙ P.idle.trial;
          refused = ap (λ (f : State). f.refused) x;
        };
        abandoned = ap (λ (f : State). f.abandoned) x ∙ ap (λ (y : List ℕ). j.entry.abandon y e.abandoned) cells_are ∙ ap (j.entry.abandon m) P.abandoned;
        held = subst (λ (f : State). Holds rows o f.rows) (sym x) P.held;
        followed = subst (λ (f : State). Followed f.rows) (sym x) P.followed;
      }

  module _ (t : Plan) (A : Agrees e t) where
    pub agrees_gone : (c : Vec2) → Agrees (after j (es ++ (given_up c ∷ []))) t
    unfolding step
    agrees_gone c =
        let x = after_one (given_up c) in
        record {
          position = ap (λ (f : State). f.position) x ∙ A.position;
          rows = ap (λ (f : State). length f.rows) x ∙ A.rows;
          triples = ap (λ (f : State). length (all_triples f.rows)) x ∙ A.triples;
        }

    -- so does an entry whose row and triple fit
    module _ (c : Vec2) (rad : Float) (h : PlaceIs j m gone c (some rad)) (fit_rows : (t.rows + 1) * 3 ≤ length rows) (fit_triples : (t.triples + 1) * 3 ≤ length o) where
      abbrev map : List ℕ
      map = (clear_disk j.grid c (add binary64 rad j.r) m).cells

      listed : Holds (set_row t.rows (row_at t.triples (helix c rad)) rows) (set_triple t.triples (triple_at c rad) o) (e.rows ++ (helix c rad ∷ []))
      listed =
          subst (λ (k : ℕ). Holds (set_row t.rows (row_at k (helix c rad)) rows) (set_triple k (triple_at c rad) o) (e.rows ++ (helix c rad ∷ []))) A.triples
          (subst (λ (k : ℕ). Holds (set_row k (row_at (length (all_triples e.rows)) (helix c rad)) rows) (set_triple (length (all_triples e.rows)) (triple_at c rad) o) (e.rows ++ (helix c rad ∷ []))) A.rows
          (holds_move (helix c rad) (triple_at c rad) refl rows o e.rows (omega (arith, A.rows)) (omega (arith, A.triples)) P.held))

      pub planned_entered : Planned j (es ++ (entered c rad ∷ [])) map gone l (set_row t.rows (row_at t.triples (helix c rad)) rows) (set_triple t.triples (triple_at c rad) o)
      unfolding step
      planned_entered =
          let x = after_one (entered c rad) in
          record {
            legal = legal_more j es (entered c rad ∷ []) P.legal (checked c (some rad) h, tt);
            idle = record {
              stock = ap (λ (f : State). f.stock) x ∙ ap (bored j c rad) P.idle.stock;
              trial = ap (λ (f : State). f.trial) x ∙ P.idle.trial;
              refused = ap (λ (f : State). f.refused) x;
            };
            abandoned = ap (λ (f : State). f.abandoned) x ∙ P.abandoned;
            held = subst (λ (f : State). Holds (set_row t.rows (row_at t.triples (helix c rad)) rows) (set_triple t.triples (triple_at c rad) o) f.rows) (sym x) listed;
            followed = subst (λ (f : State). Followed f.rows) (sym x) (followed_append e.rows (helix c rad ∷ []) P.followed tt);
          }

      row_more : length (e.rows ++ (helix c rad ∷ [])) ≡ t.rows + 1
      row_more = length-append e.rows (helix c rad ∷ []) ∙ ap (λ (k : ℕ). k + 1) A.rows

      triple_more : length (all_triples (e.rows ++ (helix c rad ∷ []))) ≡ t.triples + 1
      triple_more = ap length (triples_more e.rows (helix c rad)) ∙ length-append (all_triples e.rows) (triple_at c rad ∷ []) ∙ ap (λ (k : ℕ). k + 1) A.triples

      pub agrees_entered : Agrees (after j (es ++ (entered c rad ∷ []))) (sta (Some (helix_end c rad)) (t.rows + 1) (t.triples + 1) t.planned_max t.work)
      unfolding step
      agrees_entered =
          let x = after_one (entered c rad) in
          record {
            position = ap (λ (f : State). f.position) x;
            rows = ap (λ (f : State). length f.rows) x ∙ row_more;
            triples = ap (λ (f : State). length (all_triples f.rows)) x ∙ triple_more;
          }

-- ---- place after place

-- behind the events es the events fs gave n places up, and the cells given up are now `gone`
pub record Sofar (j : Job) (es fs : List Event) (m gone l rows : List ℕ) (o : List Float) (t : Plan) (n : ℕ) : Type 0 where
  pub planned : Planned j (es ++ fs) m gone l rows o
  pub agrees : Agrees (after j (es ++ fs)) t
  pub places : events_of 5 fs ≡ n

one-gone : (c : Vec2) → events_of 5 (given_up c ∷ []) ≡ 1
unfolding how_many
one-gone c = refl

sofar_none : (j : Job) (es : List Event) (m gone l rows : List ℕ) (o : List Float) (t : Plan) → Planned j es m gone l rows o → Agrees (after j es) t → Sofar j es [] m gone l rows o t 0
unfolding how_many
sofar_none j es m gone l rows o t P A = record {
  planned = subst (λ (x : List Event). Planned j x m gone l rows o) (sym (append-nil es)) P;
  agrees = subst (λ (x : List Event). Agrees (after j x) t) (sym (append-nil es)) A;
  places = refl;
}

sofar_more : (j : Job) (es fs : List Event) (m gone l rows : List ℕ) (o : List Float) (t : Plan) (n : ℕ) → Sofar j es fs m gone l rows o t n → (c : Vec2) → PlaceIs j m gone c none
    → Sofar j es (fs ++ (given_up c ∷ [])) m (j.entry.abandon m gone) l rows o t (n + 1)
sofar_more j es fs m gone l rows o t n h c p = record {
  planned = subst (λ (x : List Event). Planned j x m (j.entry.abandon m gone) l rows o) (append_assoc es fs (given_up c ∷ [])) (planned_gone j (es ++ fs) m gone l rows o h.planned c p);
  agrees = subst (λ (x : List Event). Agrees (after j x) t) (append_assoc es fs (given_up c ∷ [])) (agrees_gone j (es ++ fs) m gone l rows o h.planned t h.agrees c);
  places = omega (arith, events-append 5 fs (given_up c ∷ []), h.places, one-gone c);
}

-- how many places were given up before
abbrev places_of : Found → ℕ
places_of (None, n) = n
places_of (Some (c, rad), n) = n

module _ (s : Setup) (wall vs : List Float) (lens start allowed reach : List ℕ) (limit pref : Float) where
  abbrev job : Job
  job = job_at s wall vs lens start limit (entry_of s wall allowed reach pref)

  abbrev FoundIs : List ℕ → List ℕ → Found → Type 0
  FoundIs m gone (None, n) = Unit
  FoundIs m gone (Some (c, rad), n) = PlaceIs job m gone c (some rad)

  module _ (es : List Event) (m l rows : List ℕ) (o : List Float) (t : Plan) where
    abbrev Kept : ℕ → Run Seeking Sought → Type 0
    Kept i (on q) = Sofar job es q.events m q.gone l rows o t i
    Kept i (out q) = Sofar job es q.events m q.gone l rows o t (places_of q.found) × FoundIs m q.gone q.found

    abbrev stepped : Attempt → ℕ → Seeking → Run Seeking Sought
    stepped a i q = step_by s wall vs lens allowed reach pref m a i q

    place_is : (gone : List ℕ) (p : Spot) → place_of s wall allowed reach pref m gone ≡ some p → (r : Option Float) → radius_at s wall vs lens p.centre p.widest ≡ r → PlaceIs job m gone p.centre r
    place_is gone p e r f = record {
      widest = p.widest;
      found = e;
      radius = radius-same s wall vs lens start limit (place_of s wall allowed reach pref) (abandon_of s wall allowed reach pref) p.centre p.widest ∙ f;
    }

    radius-kept : (i : ℕ) (q : Seeking) → Kept i (on q) → (p : Spot) → place_of s wall allowed reach pref m q.gone ≡ some p → (r : Option Float) → radius_at s wall vs lens p.centre p.widest ≡ r
        → Kept (i + 1) (stepped (fitting p.centre r) i q)
    unfolding fitting step_by
    radius-kept i q h p e none f = sofar_more job es q.events m q.gone l rows o t i h p.centre (place_is q.gone p e none f)
    radius-kept i q h p e (some rad) f = (h, place_is q.gone p e (some rad) f)

    place_kept : (i : ℕ) (q : Seeking) → Kept i (on q) → (p : Option Spot) → place_of s wall allowed reach pref m q.gone ≡ p → Kept (i + 1) (stepped (attempt_at s wall vs lens allowed reach pref p) i q)
    unfolding attempt_at step_by
    place_kept i q h none e = (h, tt)
    place_kept i q h (some p) e = radius-kept i q h p e (radius_at s wall vs lens p.centre p.widest) refl

    step_kept : (i : ℕ) (r : Run Seeking Sought) → Kept i r → Kept (i + 1) (turn (seek_step s wall vs lens allowed reach pref m) i r)
    unfolding turn seek_step attempt_of
    step_kept i (on q) h = place_kept i q h (place_of s wall allowed reach pref m q.gone) refl
    step_kept i (out q) h = h

    abbrev SoughtKept : Sought → Type 0
    SoughtKept q = Kept 64 (out q)

    end_kept : (r : Run Seeking Sought) → Kept 64 r → SoughtKept (sought_end r)
    unfolding sought_end
    end_kept (on q) h = (h, tt)
    end_kept (out q) h = h

    seek_kept : (gone : List ℕ) → Planned job es m gone l rows o → Agrees (after job es) t → SoughtKept (seek_of s wall vs lens allowed reach pref m gone)
    unfolding seek_of
    seek_kept gone P A =
        end_kept _
        (loop_both (turn (seek_step s wall vs lens allowed reach pref m)) (λ (i : ℕ) (u : ℕ). u) (λ (i : ℕ) (r : Run Seeking Sought) (u : ℕ). Kept i r) 0 64 (omega arith)
        (λ i r u a b h. step_kept i r h) (on (sk gone [])) 0 (sofar_none job es m gone l rows o t P A))

-- ---- the theorem

-- what planning holds by value is so in the state e, and so many places were given up: `before` the search, and by it those that the answer tells. A refusal ends
-- the plan
abbrev pub Answers : State → Plan → ℕ → ℕ → Entered → Type 0
Answers e t before places (Ok (Some t', n)) = Agrees e t' × (places ≡ before + n)
Answers e t before places (Ok (None, n)) = Agrees e t × (places ≡ before + n)
Answers e t before places (Err f) = Unit {0}

-- q came of the map m, the cells given up, rows and triples after the events es
pub record HelixTold (j : Job) (es : List Event) (m gone l rows : List ℕ) (o : List Float) (t : Plan) (q : WithEvents) : Type 0 where
  pub planned : Planned j (es ++ q.events) q.left.map q.left.gone l q.left.rows q.left.out
  pub claim : Demand3 j (es ++ q.events)
  pub answers : Answers (after j (es ++ q.events)) t (events_of 5 es) (events_of 5 (es ++ q.events)) q.left.answer
  pub map-long : length q.left.map ≡ length m
  pub gone_long : length q.left.gone ≡ length gone
  pub rows_long : length q.left.rows ≡ length rows
  pub out-long : length q.left.out ≡ length o

no-gone : (c : Vec2) (rad : Float) → events_of 5 (entered c rad ∷ []) ≡ 0
unfolding how_many
no-gone c rad = refl

module _ (s : Setup) (wall vs : List Float) (lens start allowed reach : List ℕ) (limit pref : Float) where
  abbrev the_job : Job
  the_job = job_at s wall vs lens start limit (entry_of s wall allowed reach pref)

  module _ (F : Fit the_job) (es : List Event) (m gone l rows : List ℕ) (o : List Float) (t : Plan) (fs : List Event) (now : List ℕ) (long : length now ≡ length gone) (n : ℕ)
      (h : Sofar the_job es fs m now l rows o t n) where
    abbrev Tells : WithEvents → Type 0
    Tells q = HelixTold the_job es m gone l rows o t q

    places_are : events_of 5 (es ++ fs) ≡ events_of 5 es + n
    places_are = events-append 5 es fs ∙ ap (λ (k : ℕ). events_of 5 es + k) h.places

    -- nothing is listed
    still : (a : Entered) → Answers (after the_job (es ++ fs)) t (events_of 5 es) (events_of 5 (es ++ fs)) a → Tells (with_events (lf m now rows o a) fs)
    still a z = record {
      planned = h.planned;
      claim = demand3 the_job F (es ++ fs) h.planned.legal;
      answers = z;
      map-long = refl;
      gone_long = long;
      rows_long = refl;
      out-long = refl;
    }

    listed-told : (c : Vec2) (rad : Float) → PlaceIs the_job m now c (some rad) → Tells (listed_of s t m now rows o c rad n fs)
    unfolding listed_of listed_where bored_of
    listed-told c rad p = where-told (room_of (length o / 3 - t.triples) (length rows / 3 - t.rows) (needs (helix c rad ∷ []))) refl
      where
        where-told : (r : Result Unit Full) → room_of (length o / 3 - t.triples) (length rows / 3 - t.rows) (needs (helix c rad ∷ [])) ≡ r → Tells (listed_where s t m now rows o r c rad n fs)
        where-told (Ok u) z =
            let f = room-fits (length o / 3 - t.triples) (length rows / 3 - t.rows) 0 1 z in
            let a : (t.rows + 1) * 3 ≤ length rows = omega (arith, f.1) in
            let b : (t.triples + 1) * 3 ≤ length o = omega (arith, f.0) in
            let x : (es ++ fs) ++ (entered c rad ∷ []) ≡ es ++ (fs ++ (entered c rad ∷ [])) = append_assoc es fs (entered c rad ∷ []) in
            let map : List ℕ = (clear_disk s.grid c (add binary64 rad s.r) m).cells in
            let rows' : List ℕ = set_row t.rows (row_at t.triples (helix c rad)) rows in
            let o' : List Float = set_triple t.triples (triple_at c rad) o in
            let t' : Plan = sta (Some (helix_end c rad)) (t.rows + 1) (t.triples + 1) t.planned_max t.work in
            let P = subst (λ (w : List Event). Planned the_job w map now l rows' o') x (planned_entered the_job (es ++ fs) m now l rows o h.planned t h.agrees c rad p a b) in
            record {
              planned = P;
              claim = demand3 the_job F (es ++ (fs ++ (entered c rad ∷ []))) P.legal;
              answers = (
                subst (λ (w : List Event). Agrees (after the_job w) t') x (agrees_entered the_job (es ++ fs) m now l rows o h.planned t h.agrees c rad p a b),
                ap (events_of 5) (sym x) ∙ events-append 5 (es ++ fs) (entered c rad ∷ [])
                    ∙ (let u : events_of 5 (es ++ fs) + events_of 5 (entered c rad ∷ []) ≡ events_of 5 es + n = omega (arith, no-gone c rad, places_are) in u),
              );
              map-long = (clear-disk-left s.grid c (add binary64 rad s.r) m).long;
              gone_long = long;
              rows_long = set3-long rows (t.rows * 3) 1 t.triples 1;
              out-long = set3-long o (t.triples * 3) c.x c.y rad;
            }
        where-told (Err f) z = still (Err f) tt

  found-told : Fit the_job → (es : List Event) (m gone l rows : List ℕ) (o : List Float) (t : Plan) (q : Sought) → length q.gone ≡ length gone → SoughtKept s wall vs lens start allowed reach limit pref es m l rows o t q
      → (f : Found) → q.found ≡ f → HelixTold the_job es m gone l rows o t (after_search s t m q.gone rows o f q.events)
  unfolding after_search
  found-told F es m gone l rows o t q long h (None, n) e =
      let k = subst (λ (x : Found). Sofar the_job es q.events m q.gone l rows o t (places_of x)) e h.0 in
      still F es m gone l rows o t q.events q.gone long n k (Ok (None, n)) (k.agrees, places_are F es m gone l rows o t q.events q.gone long n k)
  found-told F es m gone l rows o t q long h (Some (c, rad), n) e =
      listed-told F es m gone l rows o t q.events q.gone long n (subst (λ (x : Found). Sofar the_job es q.events m q.gone l rows o t (places_of x)) e h.0) c rad
      (subst (FoundIs s wall vs lens start allowed reach limit pref m q.gone) e h.1)

  pub helix-told : Fit the_job → (es : List Event) (m gone l rows : List ℕ) (o : List Float) → Planned the_job es m gone l rows o → (t : Plan) → Agrees (after the_job es) t
      → HelixTold the_job es m gone l rows o t (helix_of s wall vs lens allowed reach pref t m gone rows o)
  unfolding helix_of
  helix-told F es m gone l rows o P t A =
      let q : Sought = seek_of s wall vs lens allowed reach pref m gone in
      found-told F es m gone l rows o t q (seek_long s wall vs lens allowed reach pref (length gone) m gone refl) (seek_kept s wall vs lens start allowed reach limit pref es m l rows o t gone P A) q.found refl
