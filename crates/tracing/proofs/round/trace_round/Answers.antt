-- `tracing::round::trace_round` meets its contract. Assumes nothing.
use mathlib.Core.Path.{refl}
use native.Mathlib.Omega.{arith}
use Rattle.tracing.proofs.RoundLaws.{work-fits, round_traced}
use Rattle.tracing.proofs.round.trace_round.Goals as goal

pub overflow_mul-result : goal.overflow_mul-result
overflow_mul-result c = let z = work-fits c.args.s _ _ _ _ _ c.requires _ c.field-sampled.ensures.sampled in
    omega arith

pub returns : goal.returns
returns c = round_traced c.args.s _ _ _ _ _ c.requires _ _ _ _ c.field-sampled.ensures _ _ _ _ c.curves-pieces.ensures.lies c.curves-pieces.ensures.beside _ refl refl
