-- `numbers::narrow::parts` meets its contract. Assumes nothing.
use Rattle.std.proofs.Common.{ℕ, ◌+◌, ◌-◌, ◌/◌, ◌%◌, ◌^◌, ◌<◌, T, sym, subst, mod-lt, arith, pow_pos}
use lib.Bits.{and_mask}
use lib.Ieee.{binary64, fits, to_bits}
use Rattle.numbers.specs.Mantissa.{Shifted}
use Rattle.numbers.proofs.PartLaws.{no_nan, digits_are, field_lt, subnormal, regular, some, normal}
use Rattle.numbers.proofs.narrow.parts.Goals as goal
use Rattle.numbers.proofs.narrow.parts.Goals.{Start}

held : (c : Start) → T (fits binary64 c.args.x)
held c = subst T (sym c.well_formed.0.1) tt

pub float_to_bits-bits : goal.float_to_bits-bits
float_to_bits-bits c = no_nan c.args.x c.requires

pub moved-requires : goal.moved-requires
moved-requires c = let x = c.args.x in
    let b = to_bits binary64 x in record { q_nonzero = subst (λ (k : ℕ). 0 < k) (sym (and_mask b 52)) (some x (held (goal.at.moved-requires c).Start) c.requires c.if-field-eq0.true); q_bound = omega (arith, and_mask b 52, mod-lt b (pow_pos 52)); j_bound = omega arith }

pub moved-requires-else-field-eq0 : goal.moved-requires-else-field-eq0
moved-requires-else-field-eq0 c = let x = c.args.x in
    let b = to_bits binary64 x in
    let d = digits_are b in
    let l : b % 2 ^ 52 < 2 ^ 52 = mod-lt b (pow_pos 52) in record { q_nonzero = subst (λ (k : ℕ). 0 < k) (sym d) (omega arith); q_bound = subst (λ (k : ℕ). k < 2 ^ 53) (sym d) (omega arith); j_bound = omega (arith, field_lt x (held (goal.at.moved-requires-else-field-eq0 c).Start) c.requires) }

pub returns-then-field-eq0 : goal.returns-then-field-eq0
returns-then-field-eq0 c = let x = c.args.x in
    let b = to_bits binary64 x in
    let r = c.moved.result in
    normal x (held (goal.at.returns-then-field-eq0 c).Start) c.requires (b % 2 ^ 52) 0 r.m r.e (subnormal x (held (goal.at.returns-then-field-eq0 c).Start) c.requires c.if-field-eq0.true) (omega arith)
    (subst (λ (k : ℕ). Shifted k 0 r.m r.e) (and_mask b 52) c.moved.ensures)

pub returns-else-field-eq0 : goal.returns-else-field-eq0
returns-else-field-eq0 c = let x = c.args.x in
    let b = to_bits binary64 x in
    let r = c.moved-else-field-eq0.result in
    normal x (held (goal.at.returns-else-field-eq0 c).Start) c.requires (2 ^ 52 + b % 2 ^ 52) (b / 2 ^ 52 - 1) r.m r.e (regular x (held (goal.at.returns-else-field-eq0 c).Start) c.requires c.if-field-eq0.false) (omega (arith, field_lt x (held (goal.at.returns-else-field-eq0 c).Start) c.requires))
    (subst (λ (k : ℕ). Shifted k (b / 2 ^ 52 - 1) r.m r.e) (digits_are b) c.moved-else-field-eq0.ensures)
