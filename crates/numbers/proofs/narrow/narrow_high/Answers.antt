-- `numbers::narrow::narrow_high` meets its contract: 53 digits stay where they are, and 24 of them are kept. Assumes nothing.
use Rattle.std.proofs.Common.{◌≡◌, ℕ, ◌+◌, ◌-◌, ◌*◌, ◌/◌, ◌%◌, ◌^◌, ◌<◌, ◌≤◌, T, sym, ap, ◌∙◌, subst, le_of_eq, le_of_lt, mod-lt, arith, pow_pos}
use lib.Ieee.{binary32, binary64, fits, of_bits, to_bits}
use lib.Ieee.Nearest.{closest}
use Rattle.numbers.specs.Narrow.{narrow_of}
use Rattle.numbers.specs.Mantissa.{Shifted}
use Rattle.numbers.proofs.PartLaws.{digits_are}
use Rattle.numbers.proofs.ShiftLaws.{carried}
use Rattle.numbers.proofs.NarrowLaws.{no_nan_bits, no_nan_high, High, high, High_shifted, high_e, narrow_bits, narrow_over}
use Rattle.numbers.proofs.narrow.narrow_high.Goals as goal
use Rattle.numbers.proofs.narrow.narrow_high.Goals.{then-b-lt2139095040, else-b-lt2139095040, After-moved-p, After-nearest_shift-b, Joined-b-lt2139095040, Start}

held : (c : Start) → T (fits binary64 c.args.x)
held c = subst T (sym c.well_formed.0.1) tt

field : (c : Start) → High c.args.x
field c = high c.args.x (held c) c.requires

shifted : (c : After-moved-p) → High_shifted c.args.x c.moved-p.result.m c.moved-p.result.e
shifted c =
    let b = to_bits binary64 c.args.x in
    subst (λ (k : ℕ). Shifted k (b / 2 ^ 52 - 1) c.moved-p.result.m c.moved-p.result.e) (digits_are b) c.moved-p.ensures

-- what is rounded is the pattern
pattern : (c : After-nearest_shift-b) → c.nearest_shift-b.result ≡ (c.moved-p.result.e - 948) * 8388608 + closest c.moved-p.result.m (2 ^ 29)
pattern c = c.nearest_shift-b.ensures ∙ carried (c.moved-p.result.e - 948) c.moved-p.result.m

is : (c : Joined-b-lt2139095040) → (c.if-b-lt2139095040.b ≤ 0x7f80_0000) × (of_bits binary32 c.if-b-lt2139095040.b ≡ narrow_of c.args.x)
unfolding of_bits
is c =
    let x = c.args.x in
    elim c.if-b-lt2139095040.branch [
      | then-b-lt2139095040 w ↦ (
        subst (λ (z : ℕ). z ≤ 0x7f80_0000) (sym w.b-is) (le_of_lt w.if-b-lt2139095040.true),
        ap (of_bits binary32) (w.b-is ∙ pattern c.before)
            ∙ narrow_bits x (held c.before.before.before.before.before) c.requires c.moved-p.result.m c.moved-p.result.e (shifted c.before.before.before.before) (subst (λ (z : ℕ). z < 0x7f80_0000) (pattern c.before) w.if-b-lt2139095040.true),
      )
      | else-b-lt2139095040 w ↦ (
        le_of_eq w.b-is,
        ap (of_bits binary32) w.b-is
            ∙ narrow_over x (held c.before.before.before.before.before) c.requires c.moved-p.result.m c.moved-p.result.e (shifted c.before.before.before.before) (subst (λ (z : ℕ). 0x7f80_0000 ≤ z) (pattern c.before) w.if-b-lt2139095040.false),
      )
    ]

pub overflow_sub-bits : goal.overflow_sub-bits
overflow_sub-bits c = omega (arith, (field (goal.at.overflow_sub-bits c).Start).lo)

pub moved-p-requires : goal.moved-p-requires
moved-p-requires c = let b = to_bits binary64 c.args.x in
    let d = digits_are b in
    let l : b % 2 ^ 52 < 2 ^ 52 = mod-lt b (pow_pos 52) in record { q_nonzero = subst (λ (k : ℕ). 0 < k) (sym d) (omega arith); q_bound = subst (λ (k : ℕ). k < 2 ^ 53) (sym d) (omega arith); j_bound = omega (arith, (field (goal.at.moved-p-requires c).Start).hi) }

pub overflow_sub-p : goal.overflow_sub-p
overflow_sub-p c = high_e c.args.x c.moved-p.result.m c.moved-p.result.e (field (goal.at.overflow_sub-p c).Start) (shifted (goal.at.overflow_sub-p c).After-moved-p)

pub overflow_mul-p : goal.overflow_mul-p
overflow_mul-p c = omega (arith, c.moved-p.ensures.few, (field (goal.at.overflow_mul-p c).Start).hi)

pub overflow_add-p : goal.overflow_add-p
overflow_add-p c = omega (arith, c.moved-p.ensures.few, c.moved-p.ensures.hi, (field (goal.at.overflow_add-p c).Start).hi)

pub nearest_shift-b-requires : goal.nearest_shift-b-requires
nearest_shift-b-requires c = record { m_bound = omega (arith, c.moved-p.ensures.few, c.moved-p.ensures.hi, (field (goal.at.nearest_shift-b-requires c).Start).hi); d_nonzero = omega arith; d_bound = omega arith }

pub float_from_bits-result : goal.float_from_bits-result
float_from_bits-result c = no_nan_bits _ (is (goal.at.float_from_bits-result c).Joined-b-lt2139095040).0

pub returns : goal.returns
returns c = (is (goal.at.returns c).Joined-b-lt2139095040).1
