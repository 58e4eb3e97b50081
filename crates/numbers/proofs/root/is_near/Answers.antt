-- `numbers::root::is_near` meets its contract: only the last line answers true. Assumes nothing.
use Rattle.std.proofs.Common.{◌*◌, arith, ltb-true}
use Rattle.loops.proofs.Cases.{never}
use Rattle.numbers.proofs.RootLaws.{upper_few, middle-few, lower_few, near_halves}
use Rattle.numbers.proofs.root.is_near.Goals as goal

pub returns : goal.returns
returns c = λ h.
    let q = c.args.q in
    near_halves q c.if-q-gt9007199254740992.false _ _ _ _ c.wrapping_sub_u64-u.ensures.value c.if-u-ge1073741824.false c.wrapping_sub_u64-d.ensures.value c.if-d-ge536870912.false
    c.wrapping_sub_u64.ensures.value (ltb-true c.wrapping_sub_u64.result (2 * q) h)
