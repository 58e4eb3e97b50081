-- What `simulate` requires holds of a Setup made of its numbers, and what it answers is put down in parts. Assumes nothing.
use mathlib.Core.Path.{◌≡◌, refl, sym, subst}
use mathlib.Core.Bool.{true}
use mathlib.Core.List.{List, [], ◌∷◌}
use Prim.Native.Nat.{ℕ, ◌/◌, ◌≤◌}
use native.Mathlib.Omega.{arith}
use lib.ListN.{length, get_or, set}
use lib.Ieee.{Float}
use Rattle.geom.specs.Points.{points}
use Rattle.geom.specs.declared.region.Region.{Region}
use Rattle.raster.specs.declared.grid.Grid.{Grid}
use Rattle.setup.specs.Place.{Walls, allowed_at}
use Rattle.setup.specs.Tables.{Tables}
use Rattle.setup.specs.declared.Setup.{Setup}
use Rattle.passes.specs.Simulate.{ps, simulate_of, Usable}
use Rattle.passes.specs.declared.trial.Trial.{Trial}
use Rattle.abi.specs.Setup.{loose}
use Rattle.abi.specs.Passes.{passing, PassBy}

-- three numbers that are put down
record Told (a b c : ℕ) (l : List ℕ) : Type 0 where
  pub first : get_or l 0 0 ≡ a
  pub second : get_or l 1 0 ≡ b
  pub third : get_or l 2 0 ≡ c

told : (a b c : ℕ) (l : List ℕ) → 3 ≤ length l → Told a b c (set (set (set l 0 a) 1 b) 2 c)
told a b c [] h = absurd (let z : ⊥ = omega arith in z)
told a b c (x ∷ []) h = absurd (let z : ⊥ = omega arith in z)
told a b c (x ∷ y ∷ []) h = absurd (let z : ⊥ = omega arith in z)
told a b c (x ∷ y ∷ z ∷ l) h = record { first = refl; second = refl; third = refl }

module _ (s : Setup) (g : Grid) (region : Region) (r wide keep target guard : Float) (samples : ℕ) (e : s ≡ passing g region r wide s.keep target guard samples true) (b : s.keep.r ≡ keep) where
  abbrev plain : Setup
  plain = passing g region r wide (loose keep) target guard samples true

  pub pass-walls : (wall vs : List Float) (lens : List ℕ) → Walls plain wall vs lens → Walls s wall vs lens
  pass-walls wall vs lens f = subst (λ (z : Setup). Walls z wall vs lens) (sym e) record { over = f.over; held = f.held }

  pub pass-tables : (w : List Float) → Tables plain w → Tables s w
  pass-tables w h = subst (λ (z : Setup). Tables z w) (sym e) h

  pub pass_usable : (m l : List ℕ) (guide : List Float) → Usable plain m l guide → Usable s m l guide
  pass_usable m l guide f = subst (λ (z : Setup). Usable z m l guide) (sym e) record { over = f.over; ready = f.ready; point = f.point }

  pub pass_by_lem : (wall vs : List Float) (lens : List ℕ) (guide : List Float) (kept : ℕ) (m l : List ℕ) (o : List Float) (m' l' : List ℕ) (o' : List Float) (t : Trial) (out : List ℕ) → 3 ≤ length out
      → ps m' l' o' t ≡ simulate_of s (allowed_at s wall vs lens) (points 0 (length guide / 2) guide) kept m l o
      → PassBy g region r wide keep target guard samples wall vs lens guide kept m l o m' l' o' t.full (set (set (set out 0 t.points) 1 t.removed) 2 t.work)
  pass_by_lem wall vs lens guide kept m l o m' l' o' t out h d =
      let q = told t.points t.removed t.work out h in
      record {
        bound = s.keep;
        bounds = b;
        trial = t;
        full_is = refl;
        points-is = q.first;
        removed-is = q.second;
        work-is = q.third;
        is = subst (λ (z : Setup). ps m' l' o' t ≡ simulate_of z (allowed_at z wall vs lens) (points 0 (length guide / 2) guide) kept m l o) e d;
      }
