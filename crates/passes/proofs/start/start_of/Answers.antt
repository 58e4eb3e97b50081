-- `passes::start::start_of` meets its contract. Assumes nothing.
use mathlib.Core.Path.{refl}
use native.Mathlib.Omega.{arith}
use native.Mathlib.Nat.{mul-le-mul_right, suc-mul}
use Rattle.passes.specs.Start.{start_of}
use Rattle.passes.proofs.start.start_of.Goals as goal

pub overflow_mul-result : goal.overflow_mul-result
overflow_mul-result c = omega (arith, mul-le-mul_right c.args.n c.requires.k_bound, suc-mul c.args.k c.args.n, c.requires.near_lt_n, c.requires.n_bound)

pub overflow_add-result : goal.overflow_add-result
overflow_add-result c = omega (arith, mul-le-mul_right c.args.n c.requires.k_bound, suc-mul c.args.k c.args.n, c.requires.near_lt_n, c.requires.n_bound)

pub returns : goal.returns
unfolding start_of
returns c = refl
