-- `vectors_maps::fill::judged` meets its contract. Assumes nothing.
use Rattle.std.proofs.Common.{refl, sym, arith, length-take-le}
use Rattle.vectors_maps.proofs.MapLaws.{few, over_made}
use Rattle.vectors_maps.proofs.AnswerLaws.{fill_agrees}
use Rattle.vectors_maps.proofs.fill.judged.Goals as goal

pub overflow_mul-n : goal.overflow_mul-n
overflow_mul-n c = omega (arith, few _ _ c.requires)

pub make-requires : goal.make-requires
make-requires c = omega (arith, few _ _ c.requires)

pub filled-requires : goal.filled-requires
filled-requires c = record { over = over_made _ _ _ _ _ _ _ _ _ c.requires c.grid.ensures c.make.ensures refl; c_bound = c.if-total-gt24.false }

pub slice_bounds-print-end : goal.slice_bounds-print-end
slice_bounds-print-end c = sym (length-take-le _ _ (omega (arith, few _ _ c.requires)))

pub returns : goal.returns
returns c = λ h. fill_agrees c.args.s.now _ _ _ _ _ _ _ _ _ _ _ c.make.ensures c.grid.ensures c.in_ok-a.ensures.0 c.in_ok-b.ensures.0 c.in_ok-c.ensures.0 c.filled.ensures c.count-standing.ensures c.print.ensures h
