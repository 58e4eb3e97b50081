-- The tries of a piece are legal events: nothing is left on trial, or the pass that is worth it. Assumes nothing.
use Rattle.passes.specs.Start.{Place}
use mathlib.Core.Path.{◌≡◌, refl, sym, ap, ◌∙◌, subst}
use mathlib.Core.Bool.{Bool, false}
use mathlib.Core.List.{List, ◌++◌}
use mathlib.Core.Option.{Option, none}
use Prim.Native.Nat.{ℕ}
use native.Mathlib.Omega.{arith}
use lib.Ieee.{Float}
use Rattle.loops.proofs.Cases.{never}
use Rattle.geom.specs.declared.vec2.Vec2.{Vec2}
use Rattle.raster.specs.Log.{Stock, st, Ready}
use Rattle.setup.specs.Place.{allowed_at, free_at}
use Rattle.setup.specs.declared.Setup.{Setup}
use Rattle.events.specs.Chunk.{Chunk, Entry, Job}
use Rattle.events.specs.Events.{Event, State, state, steps, LegalFrom}
use Rattle.events.specs.Told.{how_many}
use Rattle.events.proofs.GrowLaws.{steps-append, legal_append}
use Rattle.events.proofs.CountLaws.{events-append}
use Rattle.passes.specs.Guide.{blend_of}
use Rattle.passes.specs.Attempt.{Outcome, oc, start_by}
use Rattle.setup.specs.Made.{Measured}
use Rattle.passes.specs.Tried.{job_at}
use Rattle.cutting.specs.Tries.{start_at, guide_of, Tries, worked, try_events, guide_at, try_at, tries_of}
use Rattle.cutting.proofs.TriesKeep.{ready-same, keeps_tries}
use Rattle.cutting.proofs.TryLegal.{TriesLegal, start_legal}

-- nothing is on trial, and no link was just refused; the stock is k
pub record Idle (e : State) (k : Stock) : Type 0 where
  pub stock : e.stock ≡ k
  pub trial : e.trial ≡ none
  pub refused : e.refused ≡ none

pub from-idle : (P : State → Type 0) (e : State) (k : Stock) → Idle e k → P (state k e.rows e.position none none e.abandoned) → P e
from-idle P e k d h = subst P (λ i. state (sym d.stock i) e.rows e.position (sym d.trial i) (sym d.refused i) e.abandoned) h

-- ---- try after try

module _ (s : Setup) (wall vs : List Float) (lens start : List ℕ) (limit : Float) (entry : Entry) (M : Measured s) (kept : ℕ) (m gone : List ℕ) (rows : List Chunk) (position : Option Vec2) where
  abbrev job : Job
  job = job_at s wall vs lens start limit entry

  abbrev allowed : Vec2 → Bool
  allowed = allowed_at s wall vs lens

  abbrev idle_at : List ℕ → State
  idle_at l = state (st m l 0) rows position none none gone

  abbrev Tells : List ℕ → Outcome → List Event → Type 0
  Tells l c es = TriesLegal job (idle_at l) kept m l c es

  -- the events before left nothing on trial
  next_legal : (l : List ℕ) (c : Outcome) (es : List Event) → Tells l c es → c.attempt.worth ≡ false → (w : ℕ) (r : Outcome) (fs : List Event) → Tells c.log r fs
      → Tells l (oc r.log r.out (worked w r.attempt)) (es ++ fs)
  next_legal l c es h z w r fs g =
      let d : steps job (idle_at l) es ≡ idle_at c.log = h.idle z in
      let x : steps job (idle_at l) (es ++ fs) ≡ steps job (idle_at c.log) fs = steps-append job es fs (idle_at l) ∙ ap (λ (f : State). steps job f fs) d in
      record {
        legal = legal_append job es fs (idle_at l) h.legal (subst (λ (f : State). LegalFrom job f fs) (sym d) g.legal);
        places = omega (arith, events-append 5 es fs, h.places, g.places);
        long = g.long ∙ h.long;
        full = g.full;
        idle = λ b. x ∙ g.idle b;
        trial = λ b. let t = g.trial b in
            record { stock = t.stock; slice = t.slice; ran = t.ran; log = t.log; count = t.count; is = x ∙ t.is; more = t.more; points = t.points; begins = t.begins };
      }

  module _ (pts : List Vec2) (closed : Bool) (pos : Place) (log : List ℕ) (R : Ready (st m log 0)) where
    abbrev Claim : Tries → Type 0
    Claim t = Tells log t.outcome t.events

    try_each : (k : ℕ) (t : Tries) → Claim t → t.outcome.attempt.worth ≡ false → Claim (try_at s allowed pts closed pos kept m k t)
    unfolding try_at guide_at
    try_each k t h w =
        let c : Outcome = t.outcome in
        let walk : List Vec2 = guide_of pts closed (start_at pts closed pos k) in
        let g : Option (List Vec2) = blend_of s allowed (free_at s m) walk in
        let r : Outcome = start_by s allowed g kept m c.log c.out in
        next_legal log c t.events h w c.attempt.work r (try_events kept g r)
        (start_legal s wall vs lens start limit entry M kept m gone rows position c.log c.out (ready-same m log c.log R h.long) walk g refl)

    tries_here : (o : List Float) → let q = tries_of s allowed pts closed pos kept m log o in Tells log q.outcome q.events
    unfolding steps how_many
    tries_here o = keeps_tries s allowed pts closed pos kept m Claim try_each log o (record { legal = tt; places = refl; long = refl; full = λ h. never h; idle = λ h. refl; trial = λ h. never h })

-- from any state with the map m and the log's slice `log`
pub tries_legal : (s : Setup) (wall vs : List Float) (lens start : List ℕ) (limit : Float) (entry : Entry) → Measured s → (pts : List Vec2) (closed : Bool) (pos : Place) (kept : ℕ) (m log : List ℕ) (o : List Float)
    → Ready (st m log 0) → (e : State) → Idle e (st m log 0)
    → let q = tries_of s (allowed_at s wall vs lens) pts closed pos kept m log o in TriesLegal (job_at s wall vs lens start limit entry) e kept m log q.outcome q.events
tries_legal s wall vs lens start limit entry M pts closed pos kept m log o R e d =
    let q : Tries = tries_of s (allowed_at s wall vs lens) pts closed pos kept m log o in
    from-idle (λ (f : State). TriesLegal (job_at s wall vs lens start limit entry) f kept m log q.outcome q.events) e (st m log 0) d
    (tries_here s wall vs lens start limit entry M kept m e.abandoned e.rows e.position pts closed pos log R o)
