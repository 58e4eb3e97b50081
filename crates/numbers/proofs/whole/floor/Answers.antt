-- `numbers::whole::floor` meets its contract. Assumes nothing.
use Rattle.std.proofs.Common.{ℕ, ◌^◌, ◌≤◌, T, sym, subst, le_of_lt, le→leb}
use lib.Ieee.{binary64, fits, of_bits, in_float, neg}
use Rattle.numbers.proofs.WholeLaws.{small, whole_lt, above_le, turned, floor_over, floor_under, large_over, large_under, neither}
use Rattle.numbers.proofs.whole.floor.Goals as goal
use Rattle.numbers.proofs.whole.floor.Goals.{Start}

-- what owning an `f64` tells: the format holds it
held : (c : Start) → T (fits binary64 c.args.x)
held c = subst T (sym c.well_formed.0.1) tt

pub truncating_f64_to_u64-requires : goal.truncating_f64_to_u64-requires
unfolding of_bits
truncating_f64_to_u64-requires c = let z = small c.args.x c.if-x.true c.if-x-2.true in record { lower_bound = z.over; upper_bound = z.under }

pub int_to_float-result : goal.int_to_float-result
unfolding of_bits in_float
int_to_float-result c = let t = c.truncating_f64_to_u64 in
    le→leb t.result (2 ^ 53) (le_of_lt (whole_lt c.args.x c.if-x.true c.if-x-2.true t.result t.ensures))

pub rise-requires : goal.rise-requires
unfolding of_bits
rise-requires c = record { x_value = turned c.args.x c.if-x-3.true; pos_value = c.if-x-4.true }

pub int_to_float-result-then-x-4 : goal.int_to_float-result-then-x-4
unfolding of_bits in_float
int_to_float-result-then-x-4 c = let t = c.rise in
    let x = c.args.x in
    le→leb t.result (2 ^ 53) (subst (λ (z : ℕ). z ≤ 2 ^ 53) (sym t.ensures) (above_le (neg x) (turned x c.if-x-3.true) c.if-x-4.true))

pub returns-then-x-2 : goal.returns-then-x-2
unfolding of_bits
returns-then-x-2 c = let t = c.truncating_f64_to_u64 in
    floor_over c.args.x c.if-x.true c.if-x-2.true t.result t.ensures

pub returns-else-x-2 : goal.returns-else-x-2
unfolding of_bits
returns-else-x-2 c = (large_over c.args.x (held (goal.at.returns-else-x-2 c).Start) c.if-x.true c.if-x-2.false).0

pub returns-then-x-4 : goal.returns-then-x-4
unfolding of_bits
returns-then-x-4 c = let t = c.rise in
    floor_under c.args.x c.if-x-3.true c.if-x-4.true t.result t.ensures

pub returns-else-x-4 : goal.returns-else-x-4
unfolding of_bits
returns-else-x-4 c = (large_under c.args.x (held (goal.at.returns-else-x-4 c).Start) c.if-x-3.true c.if-x-4.false).0

pub returns-else-x-3 : goal.returns-else-x-3
unfolding of_bits
returns-else-x-3 c = (neither c.args.x (held (goal.at.returns-else-x-3 c).Start) c.if-x.false c.if-x-3.false).0
