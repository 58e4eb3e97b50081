-- `links::search::Seeker::reaches` meets its contract. Assumes nothing.
use mathlib.Core.Path.{sym, ◌∙◌}
use borrow.Author.Tests.{eqb-true, eqb-false}
use Rattle.links.proofs.VisitLaws.{reach_goal, reach-free}
use Rattle.links.proofs.search.Seeker.reaches.Goals as goal

pub returns-then-eq : goal.returns-then-eq
returns-then-eq c = reach_goal _ _ _ _ (eqb-true _ _ (sym c.eq.ensures ∙ c.if-eq.true))

pub returns : goal.returns
returns c = reach-free _ _ _ _ (eqb-false _ _ (sym c.eq.ensures ∙ c.if-eq.false)) _ c.node_free.ensures
