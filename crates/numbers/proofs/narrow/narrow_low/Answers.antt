-- `numbers::narrow::narrow_low` meets its contract. Assumes nothing.
use Rattle.std.proofs.Common.{ℕ, ◌<◌, ◌≤◌, T, sym, ap, ◌∙◌, subst, le_trans, arith, lit≤}
use lib.Ieee.{binary32, of_bits}
use lib.Ieee.Positive.{positive}
use Rattle.numbers.proofs.NarrowLaws.{no_nan_bits, low_pos, low_e, low_q, low_bits, zero_bits, narrow_up}
use Rattle.numbers.proofs.narrow.narrow_low.Goals as goal
use Rattle.numbers.proofs.narrow.narrow_low.Goals.{After-nearest_shift, After-parts-p, Start}

is_pos : (c : Start) → T (positive c.args.x)
is_pos c = low_pos c.args.x c.requires.x_value c.requires.x_value_2

few : (c : After-parts-p) → c.parts-p.result.e < 948
few c = low_e c.args.x c.parts-p.result.m c.parts-p.result.e (is_pos c.before) c.requires.x_value_2 c.parts-p.ensures

small : (c : After-nearest_shift) → c.nearest_shift.result ≤ 8388608
small c =
    subst (λ (z : ℕ). z ≤ 8388608) (sym c.nearest_shift.ensures) (low_q c.args.x c.parts-p.result.m c.parts-p.result.e c.parts-p.ensures (few c.before.before))

pub parts-p-requires : goal.parts-p-requires
parts-p-requires c = is_pos (goal.at.parts-p-requires c).Start

pub overflow_sub-e : goal.overflow_sub-e
overflow_sub-e c = omega (arith, few (goal.at.overflow_sub-e c).After-parts-p)

pub nearest_shift-requires : goal.nearest_shift-requires
nearest_shift-requires c = let f = few (goal.at.nearest_shift-requires c).After-parts-p in record { m_bound = omega (arith, c.parts-p.ensures.hi); d_nonzero = omega arith; d_bound = omega arith }

pub overflow_cast-result : goal.overflow_cast-result
overflow_cast-result c = omega (arith, small (goal.at.overflow_cast-result c).After-nearest_shift)

pub float_from_bits-result : goal.float_from_bits-result
float_from_bits-result c = no_nan_bits _ (le_trans (small (goal.at.float_from_bits-result c).After-nearest_shift) (lit≤ tt))

pub returns-then-e-lt924 : goal.returns-then-e-lt924
returns-then-e-lt924 c = let x = c.args.x in
    narrow_up x _ (is_pos (goal.at.returns-then-e-lt924 c).Start) (zero_bits x c.parts-p.result.m c.parts-p.result.e c.parts-p.ensures c.if-e-lt924.true)

pub returns-else-e-lt924 : goal.returns-else-e-lt924
returns-else-e-lt924 c = let x = c.args.x in
    narrow_up x _ (is_pos (goal.at.returns-else-e-lt924 c).Start) (ap (of_bits binary32) c.nearest_shift.ensures ∙ low_bits x c.parts-p.result.m c.parts-p.result.e c.parts-p.ensures (few (goal.at.returns-else-e-lt924 c).After-parts-p))
