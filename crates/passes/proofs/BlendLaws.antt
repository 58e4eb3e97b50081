-- A blended guide has as many points as it had, and a pass may begin at its first: the tool may be there, and touches no stock. Assumes nothing.
use mathlib.Core.Path.{◌≡◌, refl, subst}
use mathlib.Core.Bool.{Bool, true, ◌&&◌}
use mathlib.Core.List.{List, [], ◌∷◌, ◌++◌}
use mathlib.Core.Option.{Option, none, some}
use Prim.Native.Nat.{ℕ, zero, suc, ◌+◌, ◌-◌, ◌≤◌}
use native.Mathlib.Omega.{arith}
use lib.ListN.{length, get_or, drop, length-append, length-drop}
use lib.Ieee.{Float, le}
use Rattle.loops.specs.Loop.{turns, loop, Run, on, out, turn}
use Rattle.loops.proofs.Cases.{by_test, both}
use Rattle.loops.proofs.LoopLaws.{loop_keeps}
use Rattle.geom.specs.Vec.{f0}
use Rattle.geom.specs.declared.vec2.Vec2.{Vec2}
use Rattle.setup.specs.Place.{allowed_at, free_at, bite_of}
use Rattle.setup.specs.declared.Setup.{Setup}
use Rattle.events.specs.Chunk.{Entry}
use Rattle.events.specs.Replay.{BeginsGood}
use Rattle.passes.specs.declared.guide.Blend.{Blend}
use Rattle.std.specs.Prelude.{Option as RustOption, Some, None}
use Rattle.passes.specs.Simulate.{nowhere}
use Rattle.passes.specs.Guide.{blend, Bend, bd, bend_step, bent_end, bent_of, far_of, len_of, attempt, chosen, choose_of, blended, blend_of}
use Rattle.passes.specs.Tried.{job_at}

-- ---- as many points

module _ (len far : Float) (pts : List Vec2) where
  -- after n turns
  abbrev Long : ℕ → Run Bend (List Vec2) → Type 0
  Long n (on t) = length t.res ≡ n
  Long n (out l) = length l ≡ length pts

  long-step : (n : ℕ) → n ≤ length pts → (r : Run Bend (List Vec2)) → Long n r → Long (suc n) (turn (bend_step len far pts) (0 + n) r)
  unfolding turn bend_step
  long-step n h (out l) g = g
  long-step n h (on t) g =
      by_test (Long (suc n)) (le len _) _ _
      (λ b. let z : length (t.res ++ drop (0 + n) pts) ≡ length pts = omega (arith, g, length-append t.res (drop (0 + n) pts), length-drop (0 + n) pts) in z)
      (λ b. one-longer t.res _ n g)
    where
      one-longer : (l : List Vec2) (q : Vec2) (k : ℕ) → length l ≡ k → length (l ++ (q ∷ [])) ≡ suc k
      one-longer l q k e = omega (arith, length-append l (q ∷ []))

  long-turns : (n : ℕ) → n ≤ length pts → Long n (turns (turn (bend_step len far pts)) 0 n (on (bd f0 [])))
  unfolding turns
  long-turns zero h = refl
  long-turns (suc n) h = long-step n (omega arith) (turns (turn (bend_step len far pts)) 0 n (on (bd f0 []))) (long-turns n (omega arith))

  long-end : (r : Run Bend (List Vec2)) → Long (length pts) r → length (bent_end r) ≡ length pts
  unfolding bent_end
  long-end (on t) g = g
  long-end (out l) g = g

  pub bent_length : length (bent_of len far pts) ≡ length pts
  unfolding bent_of loop
  bent_length =
      long-end _ (subst (λ (k : ℕ). Long (length pts) (turns (turn (bend_step len far pts)) 0 k (on (bd f0 [])))) (let z : length pts ≡ length pts - 0 = omega arith in z) (long-turns (length pts) (omega arith)))

-- ---- the first point

module _ (s : Setup) (allowed free : Vec2 → Bool) (pts : List Vec2) where
  abbrev pub Begins : RustOption Blend → Type 0
  Begins None = Unit
  Begins (Some b) = let q = get_or (bent_of b.len b.far pts) 0 nowhere in (allowed q ≡ true) × (free q ≡ true)

  abbrev Tries : Run (Unit {0}) (RustOption Blend) → Type 0
  Tries (on u) = Unit
  Tries (out b) = Begins b

  tries_step : (len : Float) (k : ℕ) (r : Run (Unit {0}) (RustOption Blend)) → Tries r → Tries (turn (attempt s allowed free pts len) k r)
  unfolding turn attempt
  tries_step len k (out b) g = g
  tries_step len k (on u) g =
      let far : Float = far_of s.grid.cell s.r (bite_of s) k in
      let q : Vec2 = get_or (bent_of len far pts) 0 nowhere in
      by_test Tries (allowed q && free q) (out (Some (blend len far))) (on tt) (λ e. both (allowed q) (free q) e) (λ e. tt)

  tries_end : (r : Run (Unit {0}) (RustOption Blend)) → Tries r → Begins (chosen r)
  unfolding chosen
  tries_end (on u) g = tt
  tries_end (out b) g = g

  pub choose_begins : Begins (choose_of s allowed free pts)
  unfolding choose_of
  choose_begins =
      by_test Begins (le (len_of s pts) s.grid.cell) _ _ (λ e. tt)
      (λ e. tries_end _ (loop_keeps (turn (attempt s allowed free pts (len_of s pts))) 0 Tries 3 (λ i r a b g. tries_step (len_of s pts) i r g) (on tt) tt))

  -- what the blend gives is as long, and begins well
  abbrev Blends : Option (List Vec2) → Type 0
  Blends none = Unit
  Blends (some l) = (length l ≡ length pts) × (allowed (get_or l 0 nowhere) ≡ true) × (free (get_or l 0 nowhere) ≡ true)

  blends : (b : RustOption Blend) → Begins b → Blends (blended pts b)
  unfolding blended
  blends None g = tt
  blends (Some b) g = (bent_length b.len b.far pts, g.0, g.1)

  blend_good : (l : List Vec2) → blend_of s allowed free pts ≡ some l → Blends (some l)
  unfolding blend_of
  blend_good l e = subst Blends e (blends (choose_of s allowed free pts) choose_begins)

  pub blend_length : (l : List Vec2) → blend_of s allowed free pts ≡ some l → length l ≡ length pts
  blend_length l e = (blend_good l e).0

-- a pass along it begins well, by the job's own judges
pub blend_begins : (s : Setup) (wall vs : List Float) (lens start : List ℕ) (limit : Float) (entry : Entry) (m : List ℕ) (pts l : List Vec2)
    → blend_of s (allowed_at s wall vs lens) (free_at s m) pts ≡ some l
    → BeginsGood (job_at s wall vs lens start limit entry) m (record { at = get_or l 0 nowhere; angle = f0 })
blend_begins s wall vs lens start limit entry m pts l e =
    let g = blend_good s (allowed_at s wall vs lens) (free_at s m) pts l e in
    record { allowed = g.1; free = g.2; unmeasured = refl }
