-- `numbers::circle::sin` meets its contract: an arm for each quadrant. Assumes nothing.
use Rattle.std.proofs.Common.{◌≡◌, ℕ, sym, ap, ◌∙◌, le_trans, arith, lit≤, le→leb}
use lib.Ieee.{neg, in_float}
use Rattle.numbers.specs.Circle.{rest, sin_at, sin_of}
use Rattle.numbers.proofs.circle.sin.Goals as goal
use Rattle.numbers.proofs.circle.sin.Goals.{After-row_known-1}

-- in the quadrant k
at : (k : ℕ) (c : After-row_known-1) → c.quadrant-q.result ≡ k → sin_at k (rest c.quadrant-q.result c.args.a) ≡ sin_of c.args.a
unfolding sin_of
at k c e =
    let a = c.args.a in
    ap (λ (j : ℕ). sin_at j (rest c.quadrant-q.result a)) (sym e) ∙ ap (λ (j : ℕ). sin_at j (rest j a)) c.quadrant-q.ensures.0

pub returns-then-q-eq0 : goal.returns-then-q-eq0
unfolding sin_at
returns-then-q-eq0 c = c.sin_series.ensures ∙ at 0 (goal.at.returns-then-q-eq0 c).After-row_known-1 c.if-q-eq0.true

pub returns-then-q-eq1 : goal.returns-then-q-eq1
unfolding sin_at
returns-then-q-eq1 c = c.cos_series.ensures ∙ at 1 (goal.at.returns-then-q-eq1 c).After-row_known-1 c.if-q-eq1.true

pub returns-then-q-eq2 : goal.returns-then-q-eq2
unfolding sin_at
returns-then-q-eq2 c = ap neg c.sin_series-then-q-eq2.ensures ∙ at 2 (goal.at.returns-then-q-eq2 c).After-row_known-1 c.if-q-eq2.true

pub returns-then-q-eq3 : goal.returns-then-q-eq3
unfolding sin_at
returns-then-q-eq3 c = ap neg c.cos_series-then-q-eq3.ensures ∙ at 3 (goal.at.returns-then-q-eq3 c).After-row_known-1 c.if-q-eq3.true

pub returns-else-q-eq3 : goal.returns-else-q-eq3
unfolding sin_at
returns-else-q-eq3 c = let e : c.quadrant-q.result ≡ 4 = omega (arith, c.quadrant-q.ensures.1, c.if-q-eq0.false, c.if-q-eq1.false, c.if-q-eq2.false, c.if-q-eq3.false) in
    c.sin_series-else-q-eq3.ensures ∙ at 4 (goal.at.returns-else-q-eq3 c).After-row_known-1 e
