-- Each way through the functions of `trial`, over plain values: callees' results are variables, what they ensure are hypotheses. Assumes nothing.
use mathlib.Core.Path.{◌≡◌, refl, sym, ap, ◌∙◌, subst}
use mathlib.Core.Bool.{Bool, true, false}
use mathlib.Core.List.{List, [], ◌∷◌}
use Prim.Native.Nat.{ℕ, zero, suc, ◌+◌, ◌-◌, ◌/◌, ◌≤◌, ◌<◌, max}
use native.Mathlib.Omega.{arith}
use lib.ListN.{length, get_or, set, length-set}
use lib.Ieee.{Float, binary64, to_unsigned, add, mul, div, lt}
use borrow.Author.Tests.{le-leb, lt-leb}
use Rattle.loops.specs.Loop.{loop, on, out, turn}
use Rattle.loops.proofs.Cases.{never}
use Rattle.numbers.specs.Whole.{ceil_of}
use Rattle.numbers.specs.Small.{f2, tiny}
use Rattle.geom.specs.Vec.{f0, difference, lerp_of, perp_of, distance_of, length_of, normalized_of}
use Rattle.geom.specs.Region.{vertex_of}
use Rattle.geom.specs.Points.{points}
use Rattle.geom.specs.declared.vec2.Vec2.{Vec2}
use Rattle.geom.proofs.PointLaws.{points_get, points-length}
use Rattle.raster.specs.Grid.{Over}
use Rattle.numbers.specs.Cast.{float}
use Rattle.raster.specs.Log.{Stock, st, Ready, clear_after}
use Rattle.raster.specs.declared.grid.Grid.{Grid}
use Rattle.raster.proofs.LogLaws.{Kept, cell_cases, kept-none, kept-cell, keep-after, ready-kept}
use Rattle.rims.proofs.TileLaws.{Fewer}
use Rattle.setup.specs.declared.Setup.{Setup}
use Rattle.events.specs.Lent.{Triple, triple_at, set_triple}
use Rattle.std.specs.Prelude.{Some, None}
use Rattle.passes.specs.declared.shifts.Shift.{Shift}
use Rattle.passes.specs.declared.shifts.Search.{Search}
use Rattle.passes.specs.declared.trial.Leg.{Leg}
use Rattle.passes.specs.declared.trial.Trial.{Trial}
use Rattle.passes.specs.Shifts.{max_shift, search_of}
use Rattle.passes.specs.Simulate.{nowhere, lg, leg_of, sample_of, gap_of, Pass, ps, tr, spent, filled, h_of, step_of, advance_of, went, sample_step, along_leg, leg_step, ended, begun, simulate_of, Usable, Fit}

-- ---- a leg

module _ (h : Float) (a b d : Vec2) (D : d ≡ difference b a) (l : Float) (L : l ≡ length_of d) where
  pub leg_short : lt l tiny ≡ true → lg a b d 0 ≡ leg_of h a b
  unfolding leg_of
  leg_short t = rw (← D, ← L, t)

  module _ (t : lt l tiny ≡ false) (u left : Vec2) (U : u ≡ normalized_of d) (F : left ≡ perp_of u) (r c : Float) (R : r ≡ distance_of a b) (C : c ≡ ceil_of (div binary64 r h)) (m : ℕ) (M : m ≡ to_unsigned 64 c) where
    leg_long : (n : ℕ) → n ≡ max m 1 → lg a b left n ≡ leg_of h a b
    unfolding leg_of
    leg_long n N = rw (← D, ← L, t, ← R, ← C, ← M, ← N, ← U, ← F)

    pub leg_one : m < 1 → lg a b left 1 ≡ leg_of h a b
    leg_one k = leg_long 1 (omega arith)

    pub leg_more : 1 ≤ m → lg a b left m ≡ leg_of h a b
    leg_more k = leg_long m (omega arith)

pub leg_ends : (h : Float) (pts : List Float) (k : ℕ) (a b : Vec2) (l : Leg) → a ≡ vertex_of pts (k - 1) → b ≡ vertex_of pts k → l ≡ leg_of h a b → l ≡ leg_of h (vertex_of pts (k - 1)) (vertex_of pts k)
leg_ends h pts k a b l A B L = rw (← A, ← B) L

pub sample_is : (l : Leg) (k : ℕ) (x y : Float) (g : Vec2) → x ≡ float k → y ≡ float l.n → g ≡ lerp_of l.a l.b (div binary64 x y) → g ≡ sample_of l k
unfolding sample_of
sample_is l k x y g X Y G = rw (← X, ← Y) G

pub gap_is : (h most : Float) (q prev : Vec2) (d : Float) → d ≡ distance_of q prev → lt (add binary64 (mul binary64 f2 h) most) d ≡ gap_of h most q prev
unfolding gap_of
gap_is h most q prev d D = rw (← D)

-- ---- a point more

pub long-put : (k : ℕ) (t : Triple) (o : List Float) → length (set_triple k t o) ≡ length o
long-put k t o = simp length-set

module _ (s : Setup) (kept : ℕ) (q : Vec2) (e x : Float) where
  pub advance_is : (m l : List ℕ) (o : List Float) (t : Trial) (m' l' : List ℕ) (o' : List Float) (n : ℕ)
      → st m' l' n ≡ clear_after s.grid t.prev q s.r (st m l t.removed) → o' ≡ set_triple (kept + t.points) (triple_at q e) o
      → ps m' l' o' (tr t.full (t.points + 1) n t.work q x) ≡ advance_of s kept q e x (ps m l o t)
  unfolding advance_of
  advance_is m l o t m' l' o' n h k = rw (← h, ← k)

-- ---- what a pass keeps: `p` is the pass at first

pub record Safe (kept : ℕ) (p t : Pass) : Type 0 where
  pub cells-long : length t.cells ≡ length p.cells
  pub fewer : Fewer p.cells t.cells
  pub log-long : length t.log ≡ length p.log
  pub out-long : length t.out ≡ length p.out
  pub ready : Ready (st t.cells t.log t.trial.removed)
  pub room : kept + t.trial.points ≤ length p.out / 3

-- a cell that is cleared is stock no more
fewer-set : (m : List ℕ) (j : ℕ) → Fewer m (set m j 0)
fewer-set [] j k e = e
fewer-set (x ∷ m) zero zero e = never e
fewer-set (x ∷ m) zero (suc k) e = e
fewer-set (x ∷ m) (suc j) zero e = e
fewer-set (x ∷ m) (suc j) (suc k) e = fewer-set m j k e

fewer-after : (g : Grid) (prev q : Vec2) (rad : Float) (s : Stock) → Fewer s.cells (clear_after g prev q rad s).cells
fewer-after g prev q rad s =
    let P : Stock → Type 0 = λ t. Fewer s.cells t.cells in
    keep-after P (λ k t h. cell_cases P k t (λ e i b. h i (fewer-set t.cells k i b)) h) g prev q rad s (λ i b. b)

pub kept-after : (g : Grid) (prev q : Vec2) (rad : Float) (s : Stock) → Ready s → Kept s (clear_after g prev q rad s)
kept-after g prev q rad s r = keep-after (Kept s) (kept-cell s r) g prev q rad s (kept-none s)

module _ (s : Setup) (kept : ℕ) (q : Vec2) (e x : Float) (p t : Pass) (h : Safe kept p t) (k : kept + t.trial.points < length p.out / 3) where
  cleared : Kept (st t.cells t.log t.trial.removed) (clear_after s.grid t.trial.prev q s.r (st t.cells t.log t.trial.removed))
  cleared = kept-after s.grid t.trial.prev q s.r (st t.cells t.log t.trial.removed) h.ready

  pub safe_advance : Safe kept p (advance_of s kept q e x t)
  unfolding advance_of
  safe_advance = record {
    cells-long = cleared.cells-long ∙ h.cells-long;
    fewer = λ i b. h.fewer i (fewer-after s.grid t.trial.prev q s.r _ i b);
    log-long = cleared.log-long ∙ h.log-long;
    out-long = long-put (kept + t.trial.points) (triple_at q e) t.out ∙ h.out-long;
    ready = ready-kept _ _ h.ready cleared;
    room = omega arith;
  }

pub safe_none : (kept : ℕ) (p : Pass) → Ready (st p.cells p.log p.trial.removed) → kept + p.trial.points ≤ length p.out / 3 → Safe kept p p
safe_none kept p r h = record { cells-long = refl; fewer = λ i b. b; log-long = refl; out-long = refl; ready = r; room = h }

pub safe_then : (kept : ℕ) (p t u : Pass) → Safe kept p t → Safe kept t u → Safe kept p u
safe_then kept p t u a b = record {
  cells-long = b.cells-long ∙ a.cells-long;
  fewer = λ i d. a.fewer i (b.fewer i d);
  log-long = b.log-long ∙ a.log-long;
  out-long = b.out-long ∙ a.out-long;
  ready = b.ready;
  room = omega (arith, a.out-long, b.room);
}

pub safe_spent : (kept w : ℕ) (p t : Pass) → Safe kept p t → Safe kept p (spent w t)
safe_spent kept w p t h = record { cells-long = h.cells-long; fewer = h.fewer; log-long = h.log-long; out-long = h.out-long; ready = h.ready; room = h.room }

pub point_in_lem : (w : List Float) (n k : ℕ) → k < n → get_or (points 0 n w) k nowhere ≡ vertex_of w k
point_in_lem w n k h = points_get 0 n k w nowhere h ∙ ap (vertex_of w) (let z : 0 + k ≡ k = omega arith in z)

module _ (s : Setup) (allowed : Vec2 → Bool) (kept : ℕ) where
  -- ---- a turn of the loop over the samples of a leg

  module _ (l : Leg) (k : ℕ) (p : Pass) (most : Float) (M : most ≡ max_shift s) (g : Vec2) (r : Search) (G : g ≡ sample_of l (k + 1))
      (R : r ≡ search_of s allowed p.cells g l.left (step_of s) most p.trial.shift p.trial.work) where
    searched : r ≡ search_of s allowed p.cells g l.left (step_of s) (max_shift s) p.trial.shift p.trial.work
    searched = R ∙ ap (λ (x : Float). search_of s allowed p.cells g l.left (step_of s) x p.trial.shift p.trial.work) M

    pub turn-none : r.found ≡ None → sample_step s allowed kept l k p ≡ out (spent r.work p)
    unfolding sample_step went
    turn-none h = rw (← G, ← searched, h)

    module _ (v : Shift) (h : r.found ≡ Some v) (f : Bool) (F : f ≡ gap_of (h_of s) most v.at p.trial.prev) where
      apart : f ≡ gap_of (h_of s) (max_shift s) v.at p.trial.prev
      apart = F ∙ ap (λ (y : Float). gap_of (h_of s) y v.at p.trial.prev) M

      pub turn_gap : f ≡ true → sample_step s allowed kept l k p ≡ out (spent r.work p)
      unfolding sample_step went
      turn_gap c = rw (← G, ← searched, h, ← apart, c)

      pub turn-full : f ≡ false → length p.out / 3 ≤ kept + p.trial.points → sample_step s allowed kept l k p ≡ out (filled (spent r.work p))
      unfolding sample_step went
      turn-full c o = rw (← G, ← searched, h, ← apart, c, le-leb (length p.out / 3) (kept + p.trial.points) o)

      pub turn_on : f ≡ false → kept + p.trial.points < length p.out / 3 → (u : Pass) → u ≡ advance_of s kept v.at v.angle v.shift (spent r.work p) → on u ≡ sample_step s allowed kept l k p
      unfolding sample_step went
      turn_on c o u y = rw (← G, ← searched, h, ← apart, c, lt-leb (length p.out / 3) (kept + p.trial.points) o) (ap on y)

  -- ---- a turn of the loop over the legs, whose points are those of a slice: what leaves the inner loop leaves this one too

  module _ (w : List Float) (n k : ℕ) (lo : 1 ≤ k) (hi : k < n) (l : Leg) (p t : Pass) (L : l ≡ leg_of (h_of s) (vertex_of w (k - 1)) (vertex_of w k)) where
    same_leg : l ≡ leg_of (h_of s) (get_or (points 0 n w) (k - 1) nowhere) (get_or (points 0 n w) k nowhere)
    same_leg = rw (point_in_lem w n (k - 1) (omega arith), point_in_lem w n k hi) L

    pub leg_on : on t ≡ loop (turn (sample_step s allowed kept l)) 0 l.n (on p) → on t ≡ leg_step s allowed kept (points 0 n w) k p
    unfolding leg_step along_leg
    leg_on e = rw (← same_leg) e

    pub leg_out : loop (turn (sample_step s allowed kept l)) 0 l.n (on p) ≡ out t → leg_step s allowed kept (points 0 n w) k p ≡ out t
    unfolding leg_step along_leg
    leg_out e = rw (← same_leg) e

  -- ---- the whole pass

  module _ (w : List Float) (n : ℕ) (N : 1 ≤ n) (m l : List ℕ) (o : List Float) (q : Vec2) (Q : q ≡ vertex_of w 0) where
    same_first : q ≡ get_or (points 0 n w) 0 nowhere
    same_first = rw (point_in_lem w n 0 N) Q

    pub pass-full : length o / 3 ≤ kept → ps m l o (tr true 0 0 0 q f0) ≡ simulate_of s allowed (points 0 n w) kept m l o
    unfolding simulate_of
    pass-full h = rw (le-leb (length o / 3) kept h, ← same_first)

    module _ (h : kept < length o / 3) (o' : List Float) (O : o' ≡ set_triple kept (triple_at q f0) o) (u : Pass) where
      pub pass_on : on u ≡ loop (turn (leg_step s allowed kept (points 0 n w))) 1 n (on (ps m l o' (tr false 1 0 0 q f0))) → u ≡ simulate_of s allowed (points 0 n w) kept m l o
      unfolding simulate_of begun ended
      pass_on e = rw (lt-leb (length o / 3) kept h, ← same_first, points-length 0 n w, ← O) (ap ended e)

      pub pass-out : loop (turn (leg_step s allowed kept (points 0 n w))) 1 n (on (ps m l o' (tr false 1 0 0 q f0))) ≡ out u → u ≡ simulate_of s allowed (points 0 n w) kept m l o
      unfolding simulate_of begun ended
      pass-out e = rw (lt-leb (length o / 3) kept h, ← same_first, points-length 0 n w, ← O) (ap ended (sym e))

-- ---- for the proof of `simulate`

pub safe_start : (kept : ℕ) (m l : List ℕ) (o o' : List Float) (q : Vec2) → Ready (st m l 0) → kept < length o / 3 → o' ≡ set_triple kept (triple_at q f0) o
    → Safe kept (ps m l o' (tr false 1 0 0 q f0)) (ps m l o' (tr false 1 0 0 q f0))
safe_start kept m l o o' q r h e =
    let d : length o' ≡ length o = ap length e ∙ long-put kept (triple_at q f0) o in
    safe_none kept (ps m l o' (tr false 1 0 0 q f0)) r (omega arith)

pub safe_again : (kept : ℕ) (p t : Pass) → Safe kept p t → Safe kept t t
safe_again kept p t h = safe_none kept t h.ready (omega (arith, h.out-long, h.room))

pub safe_on : (s : Setup) (kept : ℕ) (q : Vec2) (e x : Float) (p t u : Pass) → Safe kept p t → kept + t.trial.points < length p.out / 3 → u ≡ advance_of s kept q e x t → Safe kept p u
safe_on s kept q e x p t u h k d = subst (Safe kept p) (sym d) (safe_advance s kept q e x p t h k)

pub over-same : (g : Grid) (n k : ℕ) → k ≡ n → Over g n → Over g k
over-same g n k e o = subst (Over g) (sym e) o

pub fit_of_lem : (s : Setup) (kept : ℕ) (l : List ℕ) (w : List Float) (p t : Pass) → Usable s p.cells l w → Safe kept p t → Fit s t
fit_of_lem s kept l w p t a h = record { over = over-same _ _ _ h.cells-long a.over; ready = h.ready }

pub half-some : (n : ℕ) → 2 ≤ n → 1 ≤ n / 2
half-some n h = omega arith

pub room_then : (k a b : ℕ) → b ≡ a → k < a / 3 → k < b / 3
room_then k a b e h = omega arith

pub full_then : (k a b : ℕ) → b ≡ a → a / 3 ≤ k → b / 3 ≤ k
full_then k a b e h = omega arith
