-- `dilation::window::word` meets its contract. Assumes nothing.
use borrow.Author.Tests.{eq-eqb, ne_eqb}
use Rattle.dilation.specs.Parts.{word_of}
use Rattle.dilation.proofs.window.word.Goals as goal

pub returns-then-deep-eq1 : goal.returns-then-deep-eq1
unfolding word_of
returns-then-deep-eq1 c = rw (eq-eqb _ _ c.if-far-eq1.true, eq-eqb _ _ c.if-deep-eq1.true)

pub returns-then-far-eq1 : goal.returns-then-far-eq1
unfolding word_of
returns-then-far-eq1 c = rw (eq-eqb _ _ c.if-far-eq1.true, ne_eqb _ _ c.if-deep-eq1.false)

pub returns : goal.returns
unfolding word_of
returns c = rw (ne_eqb _ _ c.if-far-eq1.false)
