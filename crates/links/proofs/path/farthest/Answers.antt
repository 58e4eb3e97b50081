-- `links::path::farthest` meets its contract. The invariant: no point from k on is in view. Assumes nothing.
use Rattle.links.specs.Path.{clear_in}
use mathlib.Core.Path.{refl, ap, ◌∙◌}
use native.Mathlib.Omega.{arith}
use Rattle.links.proofs.ShortenLaws.{far-found, far_more, far_none}
use Rattle.links.proofs.path.farthest.Goals as goal

pub returns-then-clear : goal.returns-then-clear
returns-then-clear c = let l = c.loop-k in far-found _ _ _ _ l.k c.loop-k-test.true _ (c.clear.ensures ∙ ap (clear_in _ _ _ _ _ _) c.point-p.ensures) c.if-clear.true ∙ l.invariant.1.1

pub loop-k-preserved : goal.loop-k-preserved
loop-k-preserved c = let l = c.loop-k in let h = c.loop-k-test.true in (omega arith, (omega (arith, l.invariant.1.0), far_more _ _ _ _ l.k h _ (c.clear.ensures ∙ ap (clear_in _ _ _ _ _ _) c.point-p.ensures) c.if-clear.false ∙ l.invariant.1.1))

pub returns : goal.returns
returns c = let l = c.loop-k in far_none _ _ _ _ l.k c.loop-k-test.false ∙ l.invariant.1.1
