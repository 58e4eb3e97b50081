-- `vectors_maps::squares::judged` meets its contract. Assumes nothing.
use Rattle.std.proofs.Common.{arith}
use Rattle.vectors_maps.proofs.MapLaws.{few, sides-small}
use Rattle.vectors_maps.proofs.AnswerLaws.{squares_agree}
use Rattle.vectors_maps.proofs.squares.judged.Goals as goal

pub overflow_mul-n : goal.overflow_mul-n
overflow_mul-n c = omega (arith, few _ _ c.requires)

pub make-requires : goal.make-requires
make-requires c = omega (arith, few _ _ c.requires)

pub transform-requires : goal.transform-requires
transform-requires c = record { map_sides = sides-small _ _ c.requires; nx_in_bounds = omega (arith, few _ _ c.requires); nx_in_bounds_2 = omega (arith, few _ _ c.requires, c.requires.columns) }

pub returns : goal.returns
returns c = λ h. squares_agree c.args.s.now _ _ _ _ _ _ c.make.ensures c.transform.ensures.work_after c.print.ensures c.of_roots.ensures h
