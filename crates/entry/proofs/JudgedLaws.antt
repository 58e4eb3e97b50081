-- What the answer to questions 1 to 15 says: of a raster, all that the layers above ask of a job (`Admitted`); of a refusal, its range. Assumes nothing.
use mathlib.Core.Path.{◌≡◌, refl, subst}
use mathlib.Core.Bool.{Bool}
use Rattle.std.specs.Prelude.{Option, None, Some, Result, Ok, Err}
use mathlib.Core.List.{List, ◌++◌}
use Prim.Native.Nat.{ℕ, ◌≤◌}
use lib.Ieee.{Float}
use Rattle.raster.specs.declared.grid.Grid.{Grid}
use Rattle.entry.specs.Admitted.{Admitted}
use Rattle.entry.specs.Questions.{Answer, first_twelve, last_three, number_of, first_no, refusal_of, judged_by, judged_of, job_grid}
use Rattle.entry.specs.declared.params.AdaptiveParams.{AdaptiveParams}
use Rattle.entry.specs.declared.judge.Lengths.{Lengths}
use Rattle.entry.specs.declared.questions.Question.{Question}
use Rattle.entry.proofs.FirstLaws.{All, first-all, number-known}
use Rattle.entry.proofs.FitLaws.{cell_fit_lem}
use Rattle.entry.proofs.RangeLaws.{engagement_is, helix-is, diameter_is, coarse-is, short-is, lent_is}
use Rattle.entry.proofs.RasterLaws.{fit_sides}
use Rattle.entry.proofs.ShapeLaws.{shapes_held}

module _ (p : AdaptiveParams) (whole : Bool) (vs : List Float) (lens regions : List ℕ) (l : Lengths) where
  abbrev pub answers : List Answer
  answers = first_twelve p ++ last_three p whole vs lens regions l

  all_yes : All answers → Admitted p whole vs lens regions l (job_grid p vs lens regions)
  all_yes a =
      let engagement = engagement_is p a.1.0 in
      let b = a.1.1.1.1.1.1 in
      let ranges = b.1.1.1.1.1.0 in
      let c = b.1.1.1.1.1.1 in
      let across = diameter_is p ranges in
      record {
        is = refl;
        sides = fit_sides p vs lens regions c.1.0;
        held = shapes_held whole vs lens regions c.0;
        lent = lent_is (job_grid p vs lens regions) l c.1.1.0;
        low = engagement.0;
        high = engagement.1;
        thick = across.0;
        thin = across.1;
        cell = cell_fit_lem p b.1.1.1.1.0 ranges;
        coarse = coarse-is p ranges;
        turning = helix-is p b.1.1.0;
        short = short-is p ranges;
      }

  -- by the answer
  abbrev Says : Result Grid Question → Type 0
  Says (Err q) = (1 ≤ number_of q) × (number_of q ≤ 15)
  Says (Ok g) = Admitted p whole vs lens regions l g × All answers

  judged_says : Says (judged_of p whole vs lens regions l)
  unfolding judged_of refusal_of judged_by
  judged_says = go (first_no answers) refl
    where
      go : (n : Option Question) → first_no answers ≡ n → Says (judged_by n (job_grid p vs lens regions))
      go None e = let a = first-all answers e in (all_yes a, a)
      go (Some q) e = number-known q

  pub judged_fit : (g : Grid) → judged_of p whole vs lens regions l ≡ Ok g → Admitted p whole vs lens regions l g
  judged_fit g e = (subst Says e judged_says).0

  -- each single answer
  pub judged-yes : (g : Grid) → judged_of p whole vs lens regions l ≡ Ok g → All answers
  judged-yes g e = (subst Says e judged_says).1

  pub judged-refused : (q : Question) → judged_of p whole vs lens regions l ≡ Err q → (1 ≤ number_of q) × (number_of q ≤ 15)
  judged-refused q e = subst Says e judged_says
