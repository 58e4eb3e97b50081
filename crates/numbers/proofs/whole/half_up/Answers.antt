-- `numbers::whole::half_up` meets its contract. Assumes nothing.
use Rattle.std.proofs.Common.{◌-◌, ◌*◌, ◌^◌, div-le_self, arith}
use Rattle.numbers.proofs.HalfLaws.{Under, small, low_e, nothing, some}
use Rattle.numbers.proofs.whole.half_up.Goals as goal
use Rattle.numbers.proofs.whole.half_up.Goals.{Start}

under : (c : Start) → Under c.args.x
under c = small c.args.x c.requires.x_value c.requires.pos_value

pub parts-p-requires : goal.parts-p-requires
parts-p-requires c = (under (goal.at.parts-p-requires c).Start).is_pos

pub overflow_sub-result : goal.overflow_sub-result
overflow_sub-result c = low_e c.args.x c.parts-p.result.m c.parts-p.result.e (under (goal.at.overflow_sub-result c).Start) c.parts-p.ensures

pub returns-then-e-lt1073 : goal.returns-then-e-lt1073
returns-then-e-lt1073 c = nothing c.args.x c.parts-p.result.m c.parts-p.result.e (under (goal.at.returns-then-e-lt1073 c).Start) c.parts-p.ensures c.if-e-lt1073.true

pub returns-else-e-lt1073 : goal.returns-else-e-lt1073
returns-else-e-lt1073 c = some c.args.x c.parts-p.result.m c.parts-p.result.e (under (goal.at.returns-else-e-lt1073 c).Start) c.parts-p.ensures
