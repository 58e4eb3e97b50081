-- What each step of a pass keeps, the pass keeps. Whatever it found, undoing by its log gives the map back, and its triples lie behind the kept ones. Assumes nothing.
use mathlib.Core.Path.{◌≡◌, refl, sym, ap, ◌∙◌, subst}
use mathlib.Core.Bool.{Bool, false, true≢false}
use mathlib.Core.List.{List, [], ◌∷◌, ◌++◌}
use Prim.Native.Nat.{ℕ, ◌+◌, ◌/◌, ◌≤◌, ◌<◌}
use native.Mathlib.Omega.{arith}
use lib.ListN.{length, get_or}
use lib.Dec.{leb}
use lib.Ieee.{Float}
use borrow.Author.Tests.{leb-false}
use Rattle.loops.specs.Loop.{loop, Run, on, out, turn}
use Rattle.loops.proofs.Cases.{by_test}
use Rattle.loops.proofs.LoopLaws.{loop_keeps}
use Rattle.geom.specs.Vec.{f0}
use Rattle.geom.specs.declared.vec2.Vec2.{Vec2}
use Rattle.raster.specs.Log.{Stock, st, Ready, Logged, clear_after, Cut, passes}
use Rattle.raster.specs.declared.grid.Grid.{Grid}
use Rattle.raster.proofs.LogLaws.{Kept}
use Rattle.raster.proofs.RunLaws.{kept-passes, logged-run}
use Rattle.setup.specs.declared.Setup.{Setup}
use Rattle.events.specs.Lent.{triple_at}
use Rattle.passes.specs.declared.shifts.Shift.{Shift}
use Rattle.std.specs.Prelude.{Option, Some, None}
use Rattle.passes.specs.declared.trial.Leg.{Leg}
use Rattle.passes.specs.Shifts.{max_shift, search_of}
use Rattle.passes.specs.Simulate.{nowhere, gap_of, Pass, spent, filled, h_of, step_of, advance_of, went, sample_step, sample_of, along_leg, leg_step, ended, begun, simulate_of}
use Rattle.passes.proofs.SimulateLaws.{long-put}

-- D is what a search finds on a map, P what a pass keeps
module _ (s : Setup) (allowed : Vec2 → Bool) (kept : ℕ) (D : List ℕ → Option Shift → Type 0)
    (found : (m : List ℕ) (g left : Vec2) (shift : Float) (work : ℕ) → D m (search_of s allowed m g left (step_of s) (max_shift s) shift work).found)
    (P : Pass → Type 0) (each_spent : (w : ℕ) (p : Pass) → P p → P (spent w p)) (each-filled : (p : Pass) → P p → P (filled p))
    (Each-on : (p : Pass) → P p → (f : Shift) → D p.cells (Some f) → kept + p.trial.points < length p.out / 3 → P (advance_of s kept f.at f.angle f.shift p)) where
  -- the loop goes on, or it is left
  abbrev Still : Run Pass Pass → Type 0
  Still (on p) = P p
  Still (out p) = P p

  still_went : (p : Pass) (f : Option Shift) → P p → D p.cells f → Still (went s allowed kept p f)
  unfolding went
  still_went p None h g = h
  still_went p (Some f) h g =
      by_test Still (gap_of (h_of s) (max_shift s) f.at p.trial.prev) _ _
      (λ t. h)
      (λ t. by_test Still (leb (length p.out / 3) (kept + p.trial.points)) _ _
      (λ b. each-filled p h)
      (λ b. Each-on p h f g (leb-false (length p.out / 3) (kept + p.trial.points) b)))

  still_sample : (l : Leg) (k : ℕ) (r : Run Pass Pass) → Still r → Still (turn (sample_step s allowed kept l) k r)
  unfolding turn sample_step
  still_sample l k (out p) h = h
  still_sample l k (on p) h = still_went (spent _ p) _ (each_spent _ p h) (found p.cells (sample_of l (k + 1)) l.left p.trial.shift p.trial.work)

  still_leg : (pts : List Vec2) (k : ℕ) (r : Run Pass Pass) → Still r → Still (turn (leg_step s allowed kept pts) k r)
  unfolding turn leg_step along_leg
  still_leg pts k (out p) h = h
  still_leg pts k (on p) h = loop_keeps (turn (sample_step s allowed kept _)) 0 Still _ (λ i r b c g. still_sample _ i r g) (on p) h

  still_ended : (r : Run Pass Pass) → Still r → P (ended r)
  unfolding ended
  still_ended (on p) h = h
  still_ended (out p) h = h

  pub keeps_legs : (pts : List Vec2) (n : ℕ) (p : Pass) → P p → P (ended (loop (turn (leg_step s allowed kept pts)) 1 n (on p)))
  keeps_legs pts n p h = still_ended _ (loop_keeps (turn (leg_step s allowed kept pts)) 1 Still n (λ i r b c g. still_leg pts i r g) (on p) h)

-- ---- a pass is a run of crescents with one log

passes_more : (g : Grid) (cs : List Cut) (c : Cut) (t : Stock) → clear_after g c.from c.to c.radius (passes g cs t) ≡ passes g (cs ++ (c ∷ [])) t
unfolding passes
passes_more g [] c t = refl
passes_more g (d ∷ cs) c t = passes_more g cs c _

pub record Ran (s : Setup) (kept : ℕ) (m l : List ℕ) (o : List Float) (p : Pass) : Type 0 where
  pub cuts : List Cut
  pub is : st p.cells p.log p.trial.removed ≡ passes s.grid cuts (st m l 0)
  pub long : length p.out ≡ length o
  -- the triples of a pass that is not full fit
  pub room : p.trial.full ≡ false → kept + p.trial.points ≤ length o / 3

module _ (s : Setup) (allowed : Vec2 → Bool) (kept : ℕ) (m l : List ℕ) (o : List Float) where
  ran_on : (p : Pass) → Ran s kept m l o p → (q : Vec2) (e x : Float) → Unit {0} → kept + p.trial.points < length p.out / 3 → Ran s kept m l o (advance_of s kept q e x p)
  unfolding advance_of
  ran_on p h q e x u b = record {
    cuts = h.cuts ++ (record { from = p.trial.prev; to = q; radius = s.r } ∷ []);
    is = ap (clear_after s.grid p.trial.prev q s.r) h.is ∙ passes_more s.grid h.cuts _ (st m l 0);
    long = long-put (kept + p.trial.points) (triple_at q e) p.out ∙ h.long;
    room = λ f. omega (arith, h.long, b);
  }

  ran_begun : (q : Vec2) → kept < length o / 3 → Ran s kept m l o (begun q kept m l o)
  unfolding begun passes
  ran_begun q h = record { cuts = []; is = refl; long = long-put kept (triple_at q f0) o; room = λ f. omega arith }

  pub simulate_ran : (pts : List Vec2) → Ran s kept m l o (simulate_of s allowed pts kept m l o)
  unfolding simulate_of passes
  simulate_ran pts =
      by_test (Ran s kept m l o) (leb (length o / 3) kept) _ _
      (λ b. record { cuts = []; is = refl; long = refl; room = λ f. absurd (true≢false f) })
      (λ b. keeps_legs s allowed kept (λ n f. Unit {0}) (λ n g left shift work. tt) (Ran s kept m l o)
      (λ w p h. record { cuts = h.cuts; is = h.is; long = h.long; room = h.room })
      (λ p h. record { cuts = h.cuts; is = h.is; long = h.long; room = λ f. absurd (true≢false f) })
      (λ p h f. ran_on p h f.at f.angle f.shift) pts (length pts) _ (ran_begun (get_or pts 0 nowhere) (leb-false (length o / 3) kept b)))

module _ (s : Setup) (kept : ℕ) (m l : List ℕ) (o : List Float) (R : Ready (st m l 0)) (p : Pass) (h : Ran s kept m l o p) where
  -- lengths are kept, undoing gives the map back, and clearing again what the pass left
  pub ran_kept : Kept (st m l 0) (st p.cells p.log p.trial.removed)
  ran_kept = subst (Kept (st m l 0)) (sym h.is) (kept-passes (st m l 0) R s.grid h.cuts)

  -- what undoing asks of the log
  pub ran_logged : Logged p.log p.trial.removed (length p.cells)
  ran_logged = subst (λ (t : Stock). Logged t.log t.count (length t.cells)) (sym h.is) (logged-run m l R s.grid h.cuts)
