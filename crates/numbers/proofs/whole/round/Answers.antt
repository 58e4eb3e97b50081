-- `numbers::whole::round` meets its contract. Assumes nothing.
use Rattle.std.proofs.Common.{ℕ, ◌^◌, ◌≤◌, T, sym, subst, le→leb}
use lib.Ieee.{binary64, fits, of_bits, in_float, neg}
use Rattle.numbers.proofs.WholeLaws.{turned, large_over, large_under, neither}
use Rattle.numbers.proofs.HalfLaws.{small, closer_le, round-over, round_under}
use Rattle.numbers.proofs.whole.round.Goals as goal
use Rattle.numbers.proofs.whole.round.Goals.{Start}

held : (c : Start) → T (fits binary64 c.args.x)
held c = subst T (sym c.well_formed.0.1) tt

pub half_up-requires : goal.half_up-requires
unfolding of_bits
half_up-requires c = record { x_value = c.if-x.true; pos_value = c.if-x-2.true }

pub int_to_float-result : goal.int_to_float-result
unfolding of_bits in_float
int_to_float-result c = let t = c.half_up in
    let x = c.args.x in
    le→leb t.result (2 ^ 53) (subst (λ (z : ℕ). z ≤ 2 ^ 53) (sym t.ensures) (closer_le x (small x c.if-x.true c.if-x-2.true)))

pub half_up-requires-then-x-4 : goal.half_up-requires-then-x-4
unfolding of_bits
half_up-requires-then-x-4 c = record { x_value = turned c.args.x c.if-x-3.true; pos_value = c.if-x-4.true }

pub int_to_float-result-then-x-4 : goal.int_to_float-result-then-x-4
unfolding of_bits in_float
int_to_float-result-then-x-4 c = let t = c.half_up-then-x-4 in
    let x = c.args.x in
    le→leb t.result (2 ^ 53) (subst (λ (z : ℕ). z ≤ 2 ^ 53) (sym t.ensures) (closer_le (neg x) (small (neg x) (turned x c.if-x-3.true) c.if-x-4.true)))

pub returns-then-x-2 : goal.returns-then-x-2
unfolding of_bits
returns-then-x-2 c = let t = c.half_up in
    let x = c.args.x in
    round-over x (small x c.if-x.true c.if-x-2.true).is_pos t.result t.ensures

pub returns-else-x-2 : goal.returns-else-x-2
unfolding of_bits
returns-else-x-2 c = (large_over c.args.x (held (goal.at.returns-else-x-2 c).Start) c.if-x.true c.if-x-2.false).2

pub returns-then-x-4 : goal.returns-then-x-4
unfolding of_bits
returns-then-x-4 c = let t = c.half_up-then-x-4 in
    let x = c.args.x in
    round_under x (small (neg x) (turned x c.if-x-3.true) c.if-x-4.true).is_pos t.result t.ensures

pub returns-else-x-4 : goal.returns-else-x-4
unfolding of_bits
returns-else-x-4 c = (large_under c.args.x (held (goal.at.returns-else-x-4 c).Start) c.if-x-3.true c.if-x-4.false).2

pub returns-else-x-3 : goal.returns-else-x-3
unfolding of_bits
returns-else-x-3 c = (neither c.args.x (held (goal.at.returns-else-x-3 c).Start) c.if-x.false c.if-x-3.false).2
