-- A pass that is simulated is the event `tried`: the points it wrote are checked, and map, log and removed count are those of the event and of the replay. Assumes nothing.
use mathlib.Core.Path.{◌≡◌, refl, sym, ap, ◌∙◌, subst}
use mathlib.Core.Bool.{Bool, true}
use mathlib.Core.List.{List, [], ◌∷◌, ◌++◌}
use mathlib.Core.Option.{none, some}
use Prim.Native.Nat.{ℕ, zero, suc, ◌+◌, ◌*◌, ◌/◌, ◌≤◌, ◌<◌}
use native.Mathlib.Omega.{arith}
use lib.ListN.{length, get_or, set, length-set, length-append}
use lib.Seq.{get_or-set_same, get_or-set_other}
use lib.Dec.{leb}
use lib.Ieee.{Float, nan}
use borrow.Author.Tests.{leb-false}
use Rattle.loops.specs.Loop.{loop, on, turn}
use Rattle.loops.specs.Cells.{ones}
use Rattle.loops.proofs.Cases.{by_test}
use Rattle.geom.specs.Vec.{v2, f0}
use Rattle.geom.specs.declared.vec2.Vec2.{Vec2}
use Rattle.raster.specs.Log.{Stock, st, Ready, clear_after, passes}
use Rattle.raster.proofs.RunLaws.{kept-passes}
use Rattle.raster.specs.Contact.{angle_of}
use Rattle.setup.specs.Place.{allowed_at, contact_at}
use Rattle.setup.specs.declared.Setup.{Setup}
use Rattle.events.specs.Chunk.{Point, Chunk, Entry, Job}
use Rattle.events.specs.Lent.{triple_at, all_triples, Holds, HoldsTrial, set_triple}
use Rattle.events.specs.Read.{point_at, points_from}
use Rattle.events.specs.Replay.{last_of, spots, removed, BeginsGood}
use Rattle.events.specs.Events.{State, state, cuts_from, cuts_of, pass_logged, PointChecked, LaterChecked, PassChecked, Checked, tried, step}
use Rattle.events.proofs.LentLaws.{trial-none, trial_more}
use Rattle.events.proofs.TrialLaws.{pass-cells}
use Rattle.events.proofs.PassLaws.{last_more, later_logged, later_more, checked_more}
use Rattle.std.specs.Prelude.{Some}
use Rattle.passes.specs.Shifts.{shifted}
use Rattle.passes.specs.Shifts.{max_shift}
use Rattle.passes.specs.Simulate.{nowhere, Pass, ps, tr, spent, filled, step_of, advance_of, leg_step, ended, begun, simulate_of}
use Rattle.setup.specs.Made.{widened, Measured}
use Rattle.passes.specs.Tried.{job_at}
use Rattle.passes.proofs.ServedLaws.{Served, search_served}
use Rattle.passes.proofs.KeepLaws.{keeps_legs}

-- ---- triples that are put are read back, and no other changes

abbrev pt : Vec2 → Float → Point
pt q e = record { at = q; angle = e }

point_eq : {a a' b b' c c' : Float} → a ≡ a' → b ≡ b' → c ≡ c' → pt (v2 a b) c ≡ pt (v2 a' b') c'
point_eq p q r = λ i. pt (v2 (p i) (q i)) (r i)

module _ (k : ℕ) (q : Vec2) (e : Float) (o : List Float) where
  other : (i : ℕ) → (i ≡ k * 3 → ⊥) → (i ≡ k * 3 + 1 → ⊥) → (i ≡ k * 3 + 2 → ⊥) → get_or (set_triple k (triple_at q e) o) i nan ≡ get_or o i nan
  other i a b c =
      get_or-set_other (set (set o (k * 3) q.x) (k * 3 + 1) q.y) (k * 3 + 2) i e nan c
      ∙ get_or-set_other (set o (k * 3) q.x) (k * 3 + 1) i q.y nan b
      ∙ get_or-set_other o (k * 3) i q.x nan a

  pub point_there : (i : ℕ) → (i ≡ k → ⊥) → point_at (set_triple k (triple_at q e) o) i ≡ point_at o i
  point_there i h =
      point_eq
      (other (i * 3) (λ z. h (omega arith)) (λ z. omega arith) (λ z. omega arith))
      (other (i * 3 + 1) (λ z. omega arith) (λ z. h (omega arith)) (λ z. omega arith))
      (other (i * 3 + 2) (λ z. omega arith) (λ z. omega arith) (λ z. h (omega arith)))

  pub point-here : k * 3 + 3 ≤ length o → point_at (set_triple k (triple_at q e) o) k ≡ pt q e
  point-here h =
      let a = set o (k * 3) q.x in
      let b = set a (k * 3 + 1) q.y in
      point_eq
      (get_or-set_other b (k * 3 + 2) (k * 3) e nan (λ z. omega arith) ∙ get_or-set_other a (k * 3 + 1) (k * 3) q.y nan (λ z. omega arith) ∙ get_or-set_same o (k * 3) q.x nan (omega arith))
      (get_or-set_other b (k * 3 + 2) (k * 3 + 1) e nan (λ z. omega arith) ∙ get_or-set_same a (k * 3 + 1) q.y nan (omega (arith, length-set o (k * 3) q.x)))
      (get_or-set_same b (k * 3 + 2) e nan (omega (arith, length-set o (k * 3) q.x, length-set a (k * 3 + 1) q.y)))

  points-before : (a n : ℕ) → a + n ≤ k → points_from (set_triple k (triple_at q e) o) a n ≡ points_from o a n
  points-before a zero h = refl
  points-before a (suc n) h =
      ap (λ (l : List Point). l ++ (point_at (set_triple k (triple_at q e) o) (a + n) ∷ [])) (points-before a n (omega arith))
      ∙ ap (λ (d : Point). points_from o a n ++ (d ∷ [])) (point_there (a + n) (λ z. omega arith))

-- the next point is put
pub points-put : (a n : ℕ) (q : Vec2) (e : Float) (o : List Float) → (a + n) * 3 + 3 ≤ length o → points_from (set_triple (a + n) (triple_at q e) o) a (n + 1) ≡ points_from o a n ++ (pt q e ∷ [])
points-put a n q e o h =
    ap (points_from (set_triple (a + n) (triple_at q e) o) a) (let z : n + 1 ≡ suc n = omega arith in z)
    ∙ ap (λ (l : List Point). l ++ (point_at (set_triple (a + n) (triple_at q e) o) (a + n) ∷ [])) (points-before (a + n) q e o a n (omega arith))
    ∙ ap (λ (d : Point). points_from o a n ++ (d ∷ [])) (point-here (a + n) q e o h)

-- ---- the claim

-- u is what the pass behind `kept` triples of o, on the map m with the log's slice l, has left
pub record Tried (j : Job) (kept : ℕ) (m l : List ℕ) (o : List Float) (u : Pass) : Type 0 where
  pub points : List Point
  -- the points are those that it wrote
  pub read : points_from u.out kept u.trial.points ≡ points
  pub held : (rows : List ℕ) (cs : List Chunk) → length (all_triples cs) ≡ kept → Holds rows o cs → HoldsTrial rows u.out cs points
  pub checked : PassChecked j (st m l 0) points
  -- map and log are those of the event, and the count is what the replay counts
  pub stock : st u.cells u.log u.trial.removed ≡ pass_logged j points (st m l 0)
  pub counted : u.trial.removed ≡ removed j points m

-- the same while the pass goes on: it has a first point
record Trying (j : Job) (kept : ℕ) (s : Stock) (o : List Float) (first : Point) (p : Pass) : Type 0 where
  later : List Point
  count : p.trial.points ≡ length (first ∷ later)
  read : points_from p.out kept p.trial.points ≡ first ∷ later
  held : (rows : List ℕ) (cs : List Chunk) → length (all_triples cs) ≡ kept → Holds rows o cs → HoldsTrial rows p.out cs (first ∷ later)
  checked : LaterChecked j s first.at later
  stock : st p.cells p.log p.trial.removed ≡ later_logged j first.at later s
  prev : p.trial.prev ≡ last_of first.at (spots later)

module _ (s : Setup) (wall vs : List Float) (lens start : List ℕ) (limit : Float) (entry : Entry) (M : Measured s) (kept : ℕ) (stock : Stock) (o : List Float) (first : Point) where
  abbrev job : Job
  job = job_at s wall vs lens start limit entry

  abbrev allowed : Vec2 → Bool
  allowed = allowed_at s wall vs lens

  abbrev Goes : Pass → Type 0
  Goes p = Trying job kept stock o first p

  goes_spent : (w : ℕ) (p : Pass) → Goes p → Goes (spent w p)
  goes_spent w p h = record { later = h.later; count = h.count; read = h.read; held = h.held; checked = h.checked; stock = h.stock; prev = h.prev }

  goes_filled : (p : Pass) → Goes p → Goes (filled p)
  goes_filled p h = record { later = h.later; count = h.count; read = h.read; held = h.held; checked = h.checked; stock = h.stock; prev = h.prev }

  module _ (p : Pass) (h : Goes p) (q : Vec2) (e x : Float) (f : Served s allowed p.cells (Some (shifted q e x))) (room : kept + p.trial.points < length p.out / 3) where
    same-cells : p.cells ≡ (later_logged job first.at h.later stock).cells
    same-cells = ap (λ (t : Stock). t.cells) h.stock

    good : PointChecked job (later_logged job first.at h.later stock).cells (pt q e)
    good = record {
      allowed = f.0;
      measured = f.1 ∙ ap (λ (w : Float). angle_of (contact_at s p.cells q w)) M.wide ∙ ap (λ (m : List ℕ). angle_of (contact_at s m q (widened s))) same-cells;
      guarded = f.2;
    }

    goes_on : Goes (advance_of s kept q e x p)
    unfolding advance_of
    goes_on =
        let n = p.trial.points in
        let fits : (kept + n) * 3 + 3 ≤ length p.out = omega arith in
        record {
          later = h.later ++ (pt q e ∷ []);
          count = omega (arith, h.count, length-append h.later (pt q e ∷ []));
          read = points-put kept n q e p.out fits ∙ ap (λ (l : List Point). l ++ (pt q e ∷ [])) h.read;
          held = λ rows cs k b.
              let z : length (all_triples cs) + length (first ∷ h.later) ≡ kept + n = omega (arith, h.count, k) in
              subst (λ (i : ℕ). HoldsTrial rows (set_triple i (triple_at q e) p.out) cs (first ∷ (h.later ++ (pt q e ∷ [])))) z
              (trial_more rows p.out cs (first ∷ h.later) (pt q e) (omega arith) (h.held rows cs k b));
          checked = checked_more job stock first.at h.later (pt q e) h.checked good;
          stock = ap (λ (a : Vec2). clear_after s.grid a q s.r (st p.cells p.log p.trial.removed)) h.prev
              ∙ ap (clear_after s.grid (last_of first.at (spots h.later)) q s.r) h.stock
              ∙ later_more job first.at h.later (pt q e) stock;
          prev = sym (last_more (λ (d : Point). d.at) first.at h.later (pt q e));
        }

  goes_legs : (pts : List Vec2) (n : ℕ) (p : Pass) → Goes p → Goes (ended (loop (turn (leg_step s allowed kept pts)) 1 n (on p)))
  goes_legs pts n p h =
      keeps_legs s allowed kept (Served s allowed) (λ m g left shift work. search_served s allowed m M.below g left (step_of s) (max_shift s) shift work) Goes goes_spent goes_filled (λ u g f. goes_on u g f.at f.angle f.shift) pts n p h

-- ---- the theorem

module _ (s : Setup) (wall vs : List Float) (lens start : List ℕ) (limit : Float) (entry : Entry) (M : Measured s) (kept : ℕ) (m l : List ℕ) (o : List Float) where
  abbrev job_here : Job
  job_here = job_at s wall vs lens start limit entry

  -- the count is what is stock no more
  count-is : Ready (st m l 0) → (points : List Point) (n : ℕ) → n ≡ (pass_logged job_here points (st m l 0)).count → n ≡ removed job_here points m
  unfolding removed
  count-is r points n e =
      omega (arith, e, (kept-passes (st m l 0) r s.grid (cuts_of job_here points)).sum, ap ones (pass-cells job_here points (st m l 0)))

  begins : (q : Vec2) → kept < length o / 3 → Trying job_here kept (st m l 0) o (pt q f0) (begun q kept m l o)
  unfolding begun passes cuts_from
  begins q h =
      let fits : (kept + 0) * 3 + 3 ≤ length o = omega arith in
      let z : kept + 0 ≡ kept = omega arith in
      record {
        later = [];
        count = refl;
        read = ap (λ (i : ℕ). points_from (set_triple i (triple_at q f0) o) kept 1) (sym z) ∙ points-put kept 0 q f0 o fits;
        held = λ rows cs k b.
            let y : length (all_triples cs) + 0 ≡ kept = omega (arith, k) in
            subst (λ (i : ℕ). HoldsTrial rows (set_triple i (triple_at q f0) o) cs (pt q f0 ∷ [])) y
            (trial_more rows o cs [] (pt q f0) (omega arith) (trial-none rows o cs b));
        checked = tt;
        stock = refl;
        prev = refl;
      }

  module _ (R : Ready (st m l 0)) where
    whole : (q : Vec2) (u : Pass) → BeginsGood job_here m (pt q f0) → Trying job_here kept (st m l 0) o (pt q f0) u → Tried job_here kept m l o u
    unfolding cuts_of
    whole q u g h = record {
      points = pt q f0 ∷ h.later;
      read = h.read;
      held = h.held;
      checked = (g, h.checked);
      stock = h.stock;
      counted = count-is R (pt q f0 ∷ h.later) u.trial.removed (ap (λ (t : Stock). t.count) h.stock);
    }

    -- no triple is left: a pass without points
    empty : (q : Vec2) → Tried job_here kept m l o (ps m l o (tr true 0 0 0 q f0))
    unfolding passes cuts_of
    empty q = record {
      points = [];
      read = refl;
      held = λ rows cs k b. trial-none rows o cs b;
      checked = tt;
      stock = refl;
      counted = count-is R [] 0 refl;
    }

    -- the first point of the guide is where the tool may be, and free
    pub simulate_tried : (pts : List Vec2) → BeginsGood job_here m (pt (get_or pts 0 nowhere) f0) → Tried job_here kept m l o (simulate_of s (allowed_at s wall vs lens) pts kept m l o)
    unfolding simulate_of
    simulate_tried pts g =
        let q : Vec2 = get_or pts 0 nowhere in
        by_test (Tried job_here kept m l o) (leb (length o / 3) kept) _ _
        (λ b. empty q)
        (λ b. whole q _ g (goes_legs s wall vs lens start limit entry M kept (st m l 0) o (pt q f0) pts (length pts) _ (begins q (leb-false (length o / 3) kept b))))

-- in a state whose map and log's slice it began with, the event is checked, and it leaves the map, the log and the count that the pass left
pub tried-step : (j : Job) (kept : ℕ) (m l : List ℕ) (o : List Float) (u : Pass) (t : Tried j kept m l o u) (e : State) → e.stock.cells ≡ m → e.stock.log ≡ l → e.trial ≡ none
    → let v = tried t.points u.trial.removed in
    Checked j e v × (step j e v ≡ state (st u.cells u.log u.trial.removed) e.rows e.position (some t.points) none e.abandoned)
unfolding step
tried-step j kept m l o u t e a b c =
    let d : st e.stock.cells e.stock.log 0 ≡ st m l 0 = λ i. st (a i) (b i) 0 in
    let k : pass_logged j t.points (st e.stock.cells e.stock.log 0) ≡ st u.cells u.log u.trial.removed = ap (pass_logged j t.points) d ∙ sym t.stock in (
      record { idle = c; points = subst (λ (x : Stock). PassChecked j x t.points) (sym d) t.checked; count = sym (ap (λ (x : Stock). x.count) k) },
      ap (λ (x : Stock). state x e.rows e.position (some t.points) none e.abandoned) k,
    )
