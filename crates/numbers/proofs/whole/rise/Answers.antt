-- `numbers::whole::rise` meets its contract. Assumes nothing.
use Rattle.std.proofs.Common.{◌^◌, le_of_lt, arith, le→leb}
use lib.Ieee.{in_float}
use Rattle.numbers.proofs.WholeLaws.{small, whole_lt, risen, stayed}
use Rattle.numbers.proofs.whole.rise.Goals as goal

pub truncating_f64_to_u64-t-requires : goal.truncating_f64_to_u64-t-requires
truncating_f64_to_u64-t-requires c = record { lower_bound = (small c.args.x c.requires.x_value c.requires.pos_value).over; upper_bound = (small c.args.x c.requires.x_value c.requires.pos_value).under }

pub int_to_float-t : goal.int_to_float-t
unfolding in_float
int_to_float-t c = let t = c.truncating_f64_to_u64-t in
    le→leb t.result (2 ^ 53) (le_of_lt (whole_lt c.args.x c.requires.x_value c.requires.pos_value t.result t.ensures))

pub overflow_add-result : goal.overflow_add-result
overflow_add-result c = let t = c.truncating_f64_to_u64-t in
    omega (arith, whole_lt c.args.x c.requires.x_value c.requires.pos_value t.result t.ensures)

pub returns-then-t-x : goal.returns-then-t-x
returns-then-t-x c = let t = c.truncating_f64_to_u64-t in
    risen c.args.x c.requires.x_value c.requires.pos_value t.result t.ensures c.if-t-x.true

pub returns-else-t-x : goal.returns-else-t-x
returns-else-t-x c = let t = c.truncating_f64_to_u64-t in
    stayed c.args.x c.requires.x_value c.requires.pos_value t.result t.ensures c.if-t-x.false
