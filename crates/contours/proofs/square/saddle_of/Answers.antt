-- `contours::square::saddle_of` meets its contract. Assumes nothing.
use Rattle.std.proofs.Common.{eq-eqb, ne_eqb}
use Rattle.contours.specs.Square.{saddle_of}
use Rattle.contours.proofs.square.saddle_of.Goals as goal

pub returns-then-joined : goal.returns-then-joined
unfolding saddle_of
returns-then-joined c = rw (eq-eqb _ 5 c.if-code-eq5.true, c.if-joined.true)

pub returns-then-code-eq5 : goal.returns-then-code-eq5
unfolding saddle_of
returns-then-code-eq5 c = rw (eq-eqb _ 5 c.if-code-eq5.true, c.if-joined.false)

pub returns-then-joined-2 : goal.returns-then-joined-2
unfolding saddle_of
returns-then-joined-2 c = rw (ne_eqb _ 5 c.if-code-eq5.false, c.if-joined-2.true)

pub returns : goal.returns
unfolding saddle_of
returns c = rw (ne_eqb _ 5 c.if-code-eq5.false, c.if-joined-2.false)
