-- `numbers::cast::cut` meets its contract. Assumes nothing.
use Rattle.std.proofs.Common.{arith}
use Rattle.numbers.proofs.CastLaws.{Range, range, cut_low, cut_high, cut-is}
use Rattle.numbers.proofs.cast.cut.Goals as goal
use Rattle.numbers.proofs.cast.cut.Goals.{Start}

in_range_lem : (c : Start) → Range c.args.x
in_range_lem c = range c.args.x c.requires.x_value c.requires.pos_value

pub parts-p-requires : goal.parts-p-requires
parts-p-requires c = (in_range_lem (goal.at.parts-p-requires c).Start).is_pos

pub overflow_sub-result : goal.overflow_sub-result
overflow_sub-result c = cut_high c.args.x c.parts-p.result.m c.parts-p.result.e c.parts-p.ensures (in_range_lem (goal.at.overflow_sub-result c).Start)

pub overflow_shr-result : goal.overflow_shr-result
overflow_shr-result c = omega (arith, cut_low c.args.x c.parts-p.result.m c.parts-p.result.e c.parts-p.ensures (in_range_lem (goal.at.overflow_shr-result c).Start))

pub returns : goal.returns
returns c = cut-is c.args.x c.parts-p.result.m c.parts-p.result.e c.parts-p.ensures (in_range_lem (goal.at.returns c).Start)
