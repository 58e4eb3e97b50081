-- `vectors::of_numbers::float_of_one` meets its contract: the row of each number. Assumes nothing.
use Rattle.std.proofs.Common.{arith, ℕ, sym, ap, ◌∙◌}
use Rattle.vectors.specs.OfNumbers.{float_of_one}
use Rattle.vectors.proofs.of_numbers.float_of_one.Goals as goal

pub returns-in-5 : goal.returns-in-5
unfolding float_of_one
returns-in-5 c = c.abs.ensures ∙ ap (λ (g : ℕ). float_of_one g c.args.x) (sym c.in-5.is)

pub returns-in-7 : goal.returns-in-7
unfolding float_of_one
returns-in-7 c = c.floor.ensures ∙ ap (λ (g : ℕ). float_of_one g c.args.x) (sym c.in-7.is)

pub returns-in-8 : goal.returns-in-8
unfolding float_of_one
returns-in-8 c = c.ceil.ensures ∙ ap (λ (g : ℕ). float_of_one g c.args.x) (sym c.in-8.is)

pub returns-in-9 : goal.returns-in-9
unfolding float_of_one
returns-in-9 c = c.round.ensures ∙ ap (λ (g : ℕ). float_of_one g c.args.x) (sym c.in-9.is)

pub returns-in-11 : goal.returns-in-11
unfolding float_of_one
returns-in-11 c = c.sqrt.ensures ∙ ap (λ (g : ℕ). float_of_one g c.args.x) (sym c.in-11.is)

pub returns-in-12 : goal.returns-in-12
unfolding float_of_one
returns-in-12 c = c.cos.ensures ∙ ap (λ (g : ℕ). float_of_one g c.args.x) (sym c.in-12.is)

pub returns-in-13 : goal.returns-in-13
unfolding float_of_one
returns-in-13 c = c.sin.ensures ∙ ap (λ (g : ℕ). float_of_one g c.args.x) (sym c.in-13.is)

pub returns-in-14 : goal.returns-in-14
unfolding float_of_one
returns-in-14 c = c.to_radians.ensures ∙ ap (λ (g : ℕ). float_of_one g c.args.x) (sym c.in-14.is)

pub returns-in_default : goal.returns-in_default
unfolding float_of_one
returns-in_default c = grind arith
