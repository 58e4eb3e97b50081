-- A start of a piece tried is legal events: a pass that is not worth it is withdrawn, and one that is stays on trial. Assumes nothing.
use mathlib.Core.Path.{◌≡◌, refl, sym, ap, ◌∙◌, subst}
use mathlib.Core.Bool.{Bool, true, false, cond, true≢false}
use mathlib.Core.List.{List, [], ◌∷◌}
use mathlib.Core.Option.{Option, none, some}
use Prim.Native.Nat.{ℕ, zero, suc, ◌≤◌}
use native.Mathlib.Omega.{arith}
use lib.ListN.{length}
use lib.Ieee.{Float}
use Rattle.loops.proofs.Cases.{never}
use Rattle.geom.specs.declared.vec2.Vec2.{Vec2}
use Rattle.raster.specs.Log.{Stock, st, Ready}
use Rattle.raster.proofs.LogLaws.{Kept}
use Rattle.setup.specs.Place.{allowed_at, free_at}
use Rattle.setup.specs.declared.Setup.{Setup}
use Rattle.events.specs.Chunk.{Point, Chunk, Entry, Job}
use Rattle.events.specs.Replay.{BeginsGood}
use Rattle.events.specs.Events.{Event, tried, withdrawn, State, state, step, steps, PassChecked, OnTrial, Checked, LegalFrom}
use Rattle.events.specs.Told.{how_many, events_of}
use Rattle.events.specs.Read.{point_at, points_from}
use Rattle.events.proofs.PassLaws.{first-point}
use Rattle.passes.specs.Simulate.{Pass, simulate_of}
use Rattle.passes.specs.Guide.{blend_of}
use Rattle.passes.specs.Worth.{spots_from, worth_of}
use Rattle.passes.specs.Attempt.{Outcome, judged_by, outcome_of, start_by}
use Rattle.setup.specs.Made.{Measured}
use Rattle.passes.specs.Tried.{job_at}
use Rattle.passes.proofs.KeepLaws.{simulate_ran, ran_kept}
use Rattle.passes.proofs.WorthLaws.{worth-points}
use Rattle.passes.proofs.TriedLaws.{Tried, tried-step}
use Rattle.passes.proofs.PieceLaws.{blend_tried, tried-withdrawn}
use Rattle.cutting.specs.Tries.{try_events}

-- ---- what tries leave

-- the pass of the outcome c, behind `kept` triples, is on trial in the state `after`, which the state e led to; m is the map before it
pub record Trial (j : Job) (e : State) (kept : ℕ) (m : List ℕ) (c : Outcome) (after : State) : Type 0 where
  pub stock : Stock
  pub slice : List ℕ
  pub ran : Kept (st m slice 0) stock
  pub log : stock.log ≡ c.log
  pub count : stock.count ≡ c.attempt.removed
  pub is : after ≡ state stock e.rows e.position (some (points_from c.out kept c.attempt.points)) none e.abandoned
  pub more : ℕ
  pub points : c.attempt.points ≡ suc more
  -- its first point is where the tool may be, and free
  pub begins : BeginsGood j m (point_at c.out kept)

-- the events es of tries with the outcome c, from the state e on, whose map is m and whose log's slice is l
pub record TriesLegal (j : Job) (e : State) (kept : ℕ) (m l : List ℕ) (c : Outcome) (es : List Event) : Type 0 where
  pub legal : LegalFrom j e es
  -- no place of a helix is given up
  pub places : events_of 5 es ≡ 0
  pub long : length c.log ≡ length l
  pub full : c.attempt.full ≡ true → c.attempt.worth ≡ false
  pub idle : c.attempt.worth ≡ false → steps j e es ≡ state (st m c.log 0) e.rows e.position none none e.abandoned
  pub trial : c.attempt.worth ≡ true → Trial j e kept m c (steps j e es)

-- ---- one try

-- a pass on trial from the state e is withdrawn, or stays
module _ (j : Job) (m l gone : List ℕ) (rows : List Chunk) (position : Option Vec2) (u : Pass) (K : Kept (st m l 0) (st u.cells u.log u.trial.removed)) (ps : List Point) where
  abbrev before : State
  before = state (st m l 0) rows position none none gone

  abbrev on_trial : State
  on_trial = state (st u.cells u.log u.trial.removed) rows position (some ps) none gone

  abbrev attempt : Event
  attempt = tried ps u.trial.removed

  try_places : (b : Bool) → events_of 5 (attempt ∷ cond b [] (withdrawn ∷ [])) ≡ 0
  unfolding how_many
  try_places true = refl
  try_places false = refl

  module _ (C : Checked j before attempt) (D : step j before attempt ≡ on_trial) where
    try_legal : (b : Bool) → LegalFrom j before (attempt ∷ cond b [] (withdrawn ∷ []))
    try_legal true = (C, tt)
    try_legal false = (C, (subst OnTrial (sym D) (record { points = ps; on = refl }), tt))

    try_idle : (b : Bool) → b ≡ false → steps j before (attempt ∷ cond b [] (withdrawn ∷ [])) ≡ state (st m u.log 0) rows position none none gone
    unfolding steps
    try_idle true h = absurd (true≢false h)
    try_idle false h = ap (λ (f : State). step j f withdrawn) D ∙ tried-withdrawn j rows position (some ps) gone m l u K

    try_on : (b : Bool) → b ≡ true → steps j before (attempt ∷ cond b [] (withdrawn ∷ [])) ≡ on_trial
    unfolding steps
    try_on true h = D
    try_on false h = never h

-- where the pass is full it is not worth it
full_not : (f w : Bool) → f ≡ true → cond f false w ≡ false
full_not true w h = refl
full_not false w h = never h

worth_by : (f w : Bool) → cond f false w ≡ true → w ≡ true
worth_by true w h = never h
worth_by false w h = h

begins-at : (j : Job) (k : Stock) (o : List Float) (a n : ℕ) → PassChecked j k (points_from o a (suc n)) → BeginsGood j k.cells (point_at o a)
begins-at j k o a n h = (subst (PassChecked j k) (first-point o a n) h).0

pred_of : (n : ℕ) → 2 ≤ n → (k : ℕ) × (n ≡ suc k)
pred_of zero h = absurd (let z : ⊥ = omega arith in z)
pred_of (suc k) h = (k, refl)

module _ (s : Setup) (wall vs : List Float) (lens start : List ℕ) (limit : Float) (entry : Entry) (M : Measured s) (kept : ℕ) (m gone : List ℕ) (rows : List Chunk) (position : Option Vec2) where
  abbrev job : Job
  job = job_at s wall vs lens start limit entry

  abbrev allowed : Vec2 → Bool
  allowed = allowed_at s wall vs lens

  abbrev idle_at : List ℕ → State
  idle_at l = state (st m l 0) rows position none none gone

  abbrev Tells : List ℕ → Outcome → List Event → Type 0
  Tells l c es = TriesLegal job (idle_at l) kept m l c es

  -- a pass along a guide
  guide_legal : (l : List ℕ) (o : List Float) (u : Pass) → Tried job kept m l o u → Kept (st m l 0) (st u.cells u.log u.trial.removed) → (pts : List Vec2)
      → Tells l (judged_by s.grid.cell kept u) (try_events kept (some pts) (judged_by s.grid.cell kept u))
  unfolding judged_by try_events
  guide_legal l o u T K pts =
      let ps : List Point = points_from u.out kept u.trial.points in
      let w : Bool = worth_of s.grid.cell (spots_from u.out kept u.trial.points) u.trial.removed in
      let b : Bool = cond u.trial.full false w in
      let n : ℕ = u.trial.removed in
      let P : Checked job (idle_at l) (tried ps n) × (step job (idle_at l) (tried ps n) ≡ on_trial job m l gone rows position u K ps) =
      subst (λ (q : List Point). Checked job (idle_at l) (tried q n) × (step job (idle_at l) (tried q n) ≡ on_trial job m l gone rows position u K q)) (sym T.read) (tried-step job kept m l o u T (idle_at l) refl refl refl) in
      record {
        legal = try_legal job m l gone rows position u K ps P.0 P.1 b;
        places = try_places job m l gone rows position u K ps b;
        long = K.log-long;
        full = full_not u.trial.full w;
        idle = try_idle job m l gone rows position u K ps P.0 P.1 b;
        trial = λ e.
            let k = pred_of u.trial.points (worth-points s.grid.cell u.out kept u.trial.points u.trial.removed (worth_by u.trial.full w e)) in
            record {
              stock = st u.cells u.log u.trial.removed;
              slice = l;
              ran = K;
              log = refl;
              count = refl;
              is = try_on job m l gone rows position u K ps P.0 P.1 b e;
              more = k.0;
              points = k.1;
              begins = begins-at job (st m l 0) u.out kept k.0 (subst (λ (i : ℕ). PassChecked job (st m l 0) (points_from u.out kept i)) k.1 (subst (PassChecked job (st m l 0)) (sym T.read) T.checked));
            };
      }

  -- a start, with a guide or without
  pub start_legal : (l : List ℕ) (o : List Float) → Ready (st m l 0) → (pts : List Vec2) (g : Option (List Vec2)) → blend_of s allowed (free_at s m) pts ≡ g
      → Tells l (start_by s allowed g kept m l o) (try_events kept g (start_by s allowed g kept m l o))
  unfolding start_by outcome_of try_events steps how_many
  start_legal l o R pts none e = record { legal = tt; places = refl; long = refl; full = λ h. never h; idle = λ h. refl; trial = λ h. never h }
  start_legal l o R pts (some q) e =
      let u : Pass = simulate_of s allowed q kept m l o in
      guide_legal l o u (blend_tried s wall vs lens start limit entry M kept m l o R pts q e) (ran_kept s kept m l o R u (simulate_ran s allowed kept m l o q)) q
