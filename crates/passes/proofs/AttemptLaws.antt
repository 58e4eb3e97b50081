-- An attempt and its answer, and what the proof of `try_guide` cites, over plain values. Assumes nothing.
use mathlib.Core.Path.{◌≡◌, refl, sym, ◌∙◌, subst}
use mathlib.Core.Bool.{Bool, true, false}
use mathlib.Core.List.{List}
use Prim.Native.Nat.{ℕ, ◌+◌, ◌*◌, ◌≤◌}
use native.Mathlib.Omega.{arith}
use lib.ListN.{length}
use lib.Ieee.{Float}
use Rattle.loops.proofs.Cases.{by_test}
use Rattle.geom.specs.declared.vec2.Vec2.{Vec2}
use Rattle.raster.specs.Log.{st, Ready, Logged, undone}
use Rattle.raster.proofs.LogLaws.{Kept}
use Rattle.setup.specs.declared.Setup.{Setup}
use Rattle.passes.specs.declared.attempt.Attempt.{Attempt}
use Rattle.passes.specs.declared.attempt.Attempt.TheVariants.{Full, Worth, Nothing}
use Rattle.passes.specs.declared.trial.Trial.{Trial}
use Rattle.passes.specs.Simulate.{ps, simulate_of}
use Rattle.passes.specs.Worth.{spots_from, worth_of}
use Rattle.passes.specs.Attempt.{Attempted, answer_of, ans, answered, judged_by, outcome_of}
use Rattle.passes.proofs.KeepLaws.{Ran, simulate_ran, ran_kept, ran_logged}

-- what an answer tells of the attempt
abbrev pub Tells : Attempt → Attempted → Type 0
Tells Full a = a.full ≡ true
Tells (Worth points removed work) a = (a.full ≡ false) × ((a.worth ≡ true) × ((points ≡ a.points) × ((removed ≡ a.removed) × (work ≡ a.work))))
Tells (Nothing work) a = (a.full ≡ false) × ((a.worth ≡ false) × (work ≡ a.work))

pub answer_tells : (t : Attempt) (a : Attempted) → t ≡ answer_of a → Tells t a
unfolding answer_of
answer_tells t a e = subst (λ (x : Attempt). Tells x a) (sym e)
    (by_test (λ (x : Attempt). Tells x a) a.full _ _ (λ f. f) (λ f. by_test (λ (x : Attempt). Tells x a) a.worth _ _ (λ w. (f, (w, (refl, (refl, refl))))) (λ w. (f, (w, refl)))))

-- and what it is by that
pub answer-full : (a : Attempted) → a.full ≡ true → Full ≡ answer_of a
unfolding answer_of
answer-full a f = rw f

pub answer-worth : (a : Attempted) → a.full ≡ false → a.worth ≡ true → Worth a.points a.removed a.work ≡ answer_of a
unfolding answer_of
answer-worth a f w = rw (f, w)

pub answer-nothing : (a : Attempted) → a.full ≡ false → a.worth ≡ false → Nothing a.work ≡ answer_of a
unfolding answer_of
answer-nothing a f w = rw (f, w)

module _ (s : Setup) (allowed : Vec2 → Bool) (pts : List Vec2) (kept : ℕ) (m l : List ℕ) (o : List Float) (m' l' : List ℕ) (o' : List Float) (t : Trial)
    (e : ps m' l' o' t ≡ simulate_of s allowed pts kept m l o) where
  ran : Ran s kept m l o (ps m' l' o' t)
  ran = subst (Ran s kept m l o) (sym e) (simulate_ran s allowed kept m l o pts)

  module _ (R : Ready (st m l 0)) where
    pub tried-kept : Kept (st m l 0) (st m' l' t.removed)
    tried-kept = ran_kept s kept m l o R (ps m' l' o' t) ran

    pub tried-logged : Logged l' t.removed (length m')
    tried-logged = ran_logged s kept m l o R (ps m' l' o' t) ran

    pub tried-back : (m'' : List ℕ) → m'' ≡ undone l' 0 t.removed m' → m'' ≡ m
    tried-back m'' d = d ∙ tried-kept.back

  pub tried-long : length o' ≡ length o
  tried-long = ran.long

  pub tried-room : t.full ≡ false → (kept + t.points) * 3 ≤ length o'
  tried-room f = let r = ran.room f in let n = ran.long in omega arith

  pub tried-full : t.full ≡ true → ans l' o' Full ≡ answered (outcome_of s allowed pts kept m l o)
  unfolding answered outcome_of judged_by answer_of
  tried-full f = rw (← e, f)

  -- by whether the pass is worth it
  module _ (f : t.full ≡ false) (b : Bool) (B : b ≡ worth_of s.grid.cell (spots_from o' kept t.points) t.removed) where
    pub tried-worth : b ≡ true → ans l' o' (Worth t.points t.removed t.work) ≡ answered (outcome_of s allowed pts kept m l o)
    unfolding answered outcome_of judged_by answer_of
    tried-worth g = rw (← e, f, ← B, g)

    pub tried-nothing : b ≡ false → ans l' o' (Nothing t.work) ≡ answered (outcome_of s allowed pts kept m l o)
    unfolding answered outcome_of judged_by answer_of
    tried-nothing g = rw (← e, f, ← B, g)
