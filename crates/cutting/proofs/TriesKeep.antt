-- What the tries of a piece keep, whatever they found: a law for any claim, and lengths, log and room for their callers. Assumes nothing.
use Rattle.passes.specs.Start.{Place}
use mathlib.Core.Path.{◌≡◌, refl, sym, ap, ◌∙◌, subst}
use mathlib.Core.Bool.{Bool, true, false, cond, ◌||◌}
use mathlib.Core.List.{List, []}
use mathlib.Core.Option.{Option, none, some}
use Prim.Native.Nat.{ℕ, ◌+◌, ◌*◌, ◌≤◌}
use native.Mathlib.Omega.{arith}
use lib.ListN.{length}
use lib.Ieee.{Float}
use Rattle.loops.specs.Loop.{loop, Run, on, out, turn}
use Rattle.loops.proofs.Cases.{by_test, never, neither}
use Rattle.loops.proofs.LoopLaws.{loop_keeps}
use Rattle.geom.specs.declared.vec2.Vec2.{Vec2}
use Rattle.raster.specs.Log.{st, Ready, Logged}
use Rattle.setup.specs.declared.Setup.{Setup}
use Rattle.passes.specs.Simulate.{Pass, simulate_of}
use Rattle.passes.specs.Worth.{spots_from, worth_of}
use Rattle.passes.specs.Attempt.{Outcome, att, oc, judged_by, outcome_of, start_by}
use Rattle.passes.proofs.KeepLaws.{Ran, simulate_ran, ran_kept, ran_logged}
use Rattle.passes.proofs.WorthLaws.{worth-points}
use Rattle.cutting.specs.Tries.{starts_of, Tries, ts, tried_end, guide_at, try_at, try_step, tries_of}

-- the log's slice may be another of the same length
pub ready-same : (m l l' : List ℕ) → Ready (st m l 0) → length l' ≡ length l → Ready (st m l' 0)
ready-same m l l' R e = record { room = omega (arith, R.room, e); small = R.small }

-- ---- what each try keeps, the tries keep

module _ (s : Setup) (allowed : Vec2 → Bool) (pts : List Vec2) (closed : Bool) (pos : Place) (kept : ℕ) (m : List ℕ) (P : Tries → Type 0)
    (each : (k : ℕ) (t : Tries) → P t → t.outcome.attempt.worth ≡ false → P (try_at s allowed pts closed pos kept m k t)) where
  -- the loop goes on without a pass that is worth it, or it is left
  abbrev Goes : Run Tries Tries → Type 0
  Goes (on t) = P t × (t.outcome.attempt.worth ≡ false)
  Goes (out t) = P t

  goes_step : (k : ℕ) (r : Run Tries Tries) → Goes r → Goes (turn (try_step s allowed pts closed pos kept m) k r)
  unfolding turn try_step
  goes_step k (out t) h = h
  goes_step k (on t) h =
      let u : Tries = try_at s allowed pts closed pos kept m k t in
      let p : P u = each k t h.0 h.1 in
      by_test Goes (u.outcome.attempt.full || u.outcome.attempt.worth) (out u) (on u) (λ e. p) (λ e. (p, (neither u.outcome.attempt.full u.outcome.attempt.worth e).1))

  goes_end : (r : Run Tries Tries) → Goes r → P (tried_end r)
  unfolding tried_end
  goes_end (on t) h = h.0
  goes_end (out t) h = h

  module _ (l : List ℕ) (o : List Float) (h : P (ts (oc l o (att false false 0 0 0)) [])) where
    abbrev after : ℕ → Run Tries Tries
    after e = loop (turn (try_step s allowed pts closed pos kept m)) 0 e (on (ts (oc l o (att false false 0 0 0)) []))

    goes_loop : (e : ℕ) → Goes (after e)
    goes_loop e = loop_keeps (turn (try_step s allowed pts closed pos kept m)) 0 Goes e (λ i r b c g. goes_step i r g) (on (ts (oc l o (att false false 0 0 0)) [])) (h, refl)

    -- while they go on
    pub keeps_on : (e : ℕ) (t : Tries) → on t ≡ after e → P t
    keeps_on e t i = (subst Goes (sym i) (goes_loop e)).0

    pub keeps_tries : P (tries_of s allowed pts closed pos kept m l o)
    unfolding tries_of
    keeps_tries = goes_end (after (starts_of closed)) (goes_loop (starts_of closed))

-- ---- lengths, the log and room

pub record Sound (kept : ℕ) (m l : List ℕ) (o : List Float) (c : Outcome) : Type 0 where
  pub log-long : length c.log ≡ length l
  pub long : length c.out ≡ length o
  pub logged : Logged c.log c.attempt.removed (length m)
  pub room : c.attempt.full ≡ false → c.attempt.worth ≡ true → ((kept + c.attempt.points) * 3 ≤ length o) × (2 ≤ c.attempt.points)

-- the log and the triples may be those that an earlier try left
module _ (s : Setup) (allowed : Vec2 → Bool) (kept : ℕ) (m l₀ : List ℕ) (o₀ : List Float) (R : Ready (st m l₀ 0)) (l : List ℕ) (o : List Float) (L : length l ≡ length l₀) (O : length o ≡ length o₀) where
  ready_still : Ready (st m l 0)
  ready_still = ready-same m l₀ l R L

  sound_none : Sound kept m l₀ o₀ (oc l o (att false false 0 0 0))
  sound_none = record {
    log-long = L;
    long = O;
    logged = record { within = omega arith; cell = λ i h. absurd (let z : ⊥ = omega arith in z) };
    room = λ f w. never w;
  }

  sound_pass : (pts : List Vec2) → Sound kept m l₀ o₀ (outcome_of s allowed pts kept m l o)
  unfolding outcome_of judged_by
  sound_pass pts =
      let p : Pass = simulate_of s allowed pts kept m l o in
      let h : Ran s kept m l o p = simulate_ran s allowed kept m l o pts in
      let k = ran_kept s kept m l o ready_still p h in
      let n = h.long in
      record {
        log-long = k.log-long ∙ L;
        long = h.long ∙ O;
        logged = subst (Logged p.log p.trial.removed) k.cells-long (ran_logged s kept m l o ready_still p h);
        room = λ f w.
            let r = h.room f in
            let two = worth-points s.grid.cell p.out kept p.trial.points p.trial.removed (sym (ap (λ (b : Bool). cond b false (worth_of s.grid.cell (spots_from p.out kept p.trial.points) p.trial.removed)) f) ∙ w) in
            (omega arith, two);
      }

  sound_start : (g : Option (List Vec2)) → Sound kept m l₀ o₀ (start_by s allowed g kept m l o)
  unfolding start_by
  sound_start none = sound_none
  sound_start (some pts) = sound_pass pts

module _ (s : Setup) (allowed : Vec2 → Bool) (pts : List Vec2) (closed : Bool) (pos : Place) (kept : ℕ) (m l : List ℕ) (o : List Float) (R : Ready (st m l 0)) where
  abbrev Keeps : Tries → Type 0
  Keeps t = Sound kept m l o t.outcome

  sound_each : (k : ℕ) (t : Tries) → Keeps t → t.outcome.attempt.worth ≡ false → Keeps (try_at s allowed pts closed pos kept m k t)
  unfolding try_at
  sound_each k t h w =
      let q = sound_start s allowed kept m l o R t.outcome.log t.outcome.out h.log-long h.long (guide_at s allowed pts closed pos kept m k) in
      record { log-long = q.log-long; long = q.long; logged = q.logged; room = q.room }

  sound_first : Keeps (ts (oc l o (att false false 0 0 0)) [])
  sound_first = sound_none s allowed kept m l o R l o refl refl

  pub sound_on : (e : ℕ) (t : Tries) → on t ≡ loop (turn (try_step s allowed pts closed pos kept m)) 0 e (on (ts (oc l o (att false false 0 0 0)) [])) → Sound kept m l o t.outcome
  sound_on e t i = keeps_on s allowed pts closed pos kept m Keeps sound_each l o sound_first e t i

  tries_sound : Sound kept m l o (tries_of s allowed pts closed pos kept m l o).outcome
  tries_sound = keeps_tries s allowed pts closed pos kept m Keeps sound_each l o sound_first

  pub tries_log_long : length (tries_of s allowed pts closed pos kept m l o).outcome.log ≡ length l
  tries_log_long = tries_sound.log-long

  pub tries_long : length (tries_of s allowed pts closed pos kept m l o).outcome.out ≡ length o
  tries_long = tries_sound.long

  pub tries_logged : let c = (tries_of s allowed pts closed pos kept m l o).outcome in Logged c.log c.attempt.removed (length m)
  tries_logged = tries_sound.logged

  -- a pass that is worth it has two points or more, and its triples fit
  pub tries_room : let a = (tries_of s allowed pts closed pos kept m l o).outcome.attempt in a.full ≡ false → a.worth ≡ true → ((kept + a.points) * 3 ≤ length o) × (2 ≤ a.points)
  tries_room f w = tries_sound.room f w
