-- 64 shrinks of a helix's radius are never met, for every job whose questions are answered yes. Assumes nothing.
use mathlib.Core.Path.{◌≡◌, refl, subst}
use mathlib.Core.Bool.{Bool, true}
use mathlib.Core.List.{List}
use Prim.Native.Nat.{ℕ}
use lib.Ieee.{Float, binary64, of_bits, round, mul, le, lt, eq, is_nan}
use Rattle.numbers.specs.Small.{f1000}
use Rattle.loops.specs.Loop.{loop, on, out, turn}
use Rattle.floats.proofs.OrderLaws.{le_le, le_numbers}
use Rattle.floats.proofs.SwapLaws.{mul_swap}
use Rattle.floats.proofs.MulMono.{mul_mono}
use Rattle.floats.proofs.NumberLaws.{scale_number}
use Rattle.geom.specs.declared.vec2.Vec2.{Vec2}
use Rattle.raster.specs.declared.grid.Grid.{Grid}
use Rattle.setup.specs.Made.{setup_of}
use Rattle.events.specs.Helix.{shrink}
use Rattle.entry.specs.Admitted.{Admitted}
use Rattle.entry.specs.Questions.{c03, f100, absent_or, at_most1000, given_or, helix_of}
use Rattle.entry.specs.declared.params.AdaptiveParams.{AdaptiveParams}
use Rattle.std.specs.Prelude.{Option, None, Some}
use Rattle.entry.specs.declared.judge.Lengths.{Lengths}
use Rattle.helix.specs.Search.{bare_job, widest_of, radius_at}
use Rattle.helix.proofs.ShrinkLaws.{shrinks_unmet}
use Rattle.planner.specs.Planner.{job, setup_for}

-- 0.3 * diameter, where no radius is given
default_few : (d : Float) → le d f100 ≡ true → le (mul binary64 c03 d) f1000 ≡ true
unfolding of_bits round mul le lt eq is_nan
default_few d h =
    subst (λ (x : Float). le x f1000 ≡ true) (mul_swap binary64 d c03)
    (le_le (mul binary64 d c03) (mul binary64 f100 c03) f1000 (mul_mono binary64 d f100 c03 refl h (scale_number binary64 d c03 (le_numbers d f100 h).0 tt tt) refl) refl)

setting_few : (d : Float) (r : Option Float) → le d f100 ≡ true → absent_or at_most1000 r ≡ true → le (given_or (mul binary64 c03 d) r) f1000 ≡ true
unfolding absent_or at_most1000 given_or
setting_few d None h g = default_few d h
setting_few d (Some x) h g = g

module _ (p : AdaptiveParams) (whole : Bool) (vs : List Float) (lens regions : List ℕ) (l : Lengths) (g : Grid) (A : Admitted p whole vs lens regions l g) where
  pref-few : le (helix_of p) f1000 ≡ true
  unfolding helix_of
  pref-few = setting_few p.tool_diameter p.helix_radius A.thin A.short

  pub job_shrinks : (wall : List Float) (d : Float) (c : Vec2) → let s = setup_for (job p whole vs lens regions) in
      loop (turn (shrink (bare_job s wall vs lens) c)) 0 65 (on (widest_of s (helix_of p) d)) ≡ out (radius_at s wall vs lens c (widest_of s (helix_of p) d))
  unfolding setup_of
  job_shrinks wall d c = shrinks_unmet (setup_for (job p whole vs lens regions)) wall vs lens p.tool_diameter (helix_of p) d c refl A.thick pref-few
