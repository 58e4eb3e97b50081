-- `vectors_maps::crescent::judged` meets its contract. Assumes nothing.
use Rattle.std.proofs.Common.{refl, arith}
use Rattle.vectors_maps.proofs.MapLaws.{few, made_full, over_made}
use Rattle.vectors_maps.proofs.AnswerLaws.{crescent_agrees}
use Rattle.vectors_maps.proofs.crescent.judged.Goals as goal

pub overflow_mul-n : goal.overflow_mul-n
overflow_mul-n c = omega (arith, few _ _ c.requires)

pub make-requires : goal.make-requires
make-requires c = omega (arith, few _ _ c.requires)

pub cut-c-requires : goal.cut-c-requires
cut-c-requires c = let m = c.make.ensures in
    let k = few _ _ c.requires in
    let e = made_full _ _ _ 1024 _ _ m refl in record { over = over_made _ _ _ _ _ _ _ _ _ c.requires c.grid-g.ensures m refl; n_in_bounds = (omega (arith, k, e), omega (arith, e), omega (arith, e)) }

pub returns : goal.returns
returns c = λ h. crescent_agrees c.args.s.now _ _ _ _ _ _ _ _ c.make.ensures c.grid-g.ensures c.point.ensures c.point-2.ensures c.float.ensures c.cut-c.ensures h
