-- `links::search::Seeker::step` meets its contract. Assumes nothing.
use mathlib.Core.Path.{sym, ◌∙◌}
use native.Mathlib.Omega.{arith}
use borrow.Author.Tests.{eqb-true, eqb-false}
use Rattle.links.proofs.LatticeLaws.{nodes-most}
use Rattle.links.proofs.VisitLaws.{words-lent}
use Rattle.links.proofs.SeekLaws.{step-none, next_fits, step_goal, step-spent, step-node, step_room, step-on}
use Rattle.links.proofs.search.Seeker.step.Goals as goal

pub returns-then-m-eq0 : goal.returns-then-m-eq0
returns-then-m-eq0 c =
    let r = step-none _ _ _ _ _ _ c.requires.searching c.if-m-eq0.true in
    record { costs_after = r.0; turned = r.1 }

pub next-e-requires : goal.next-e-requires
next-e-requires c =
    let r = next_fits _ c.args.self.now.allowed.now _ _ _ c.args.i c.requires.searching c.args.self.now.net.laid _ c.nodes-most.ensures c.if-m-eq0.false _ (words-lent c.args.self.now.net.lattice _ c.cells-n.ensures _ c.before-from.ensures _ c.segments-to.ensures c.args.u.now) in
    record { ready = r.0; m_nonzero = r.1.0; n_bound = r.1.1 }

pub returns-then-eq : goal.returns-then-eq
returns-then-eq c =
    let r = step_goal _ _ _ _ _ c.args.i c.requires.searching _ c.cells-n.ensures _ c.before-from.ensures _ c.segments-to.ensures _ c.nodes-most.ensures _ _ _ c.next-e.ensures.costs_value c.next-e.ensures.grown (eqb-true _ _ (sym c.eq.ensures ∙ c.if-eq.true)) in
    record { costs_after = r.0; turned = r.1 }

pub returns-then-most-i : goal.returns-then-most-i
returns-then-most-i c =
    let r = step-spent _ _ _ _ _ c.args.i c.requires.searching _ c.cells-n.ensures _ c.before-from.ensures _ c.segments-to.ensures _ c.nodes-most.ensures _ _ _ c.next-e.ensures.costs_value c.next-e.ensures.grown (eqb-false _ _ (sym c.eq.ensures ∙ c.if-eq.false)) c.if-most-i.true in
    record { costs_after = r.0; turned = r.1 }

pub expand-requires : goal.expand-requires
expand-requires c = let D = c.requires.sound in let M = c.requires.m_bound in let N = c.nodes-most.ensures in let I = c.if-most-i.false in let w = step_room _ c.args.self.now.allowed.now _ _ _ c.args.i c.requires.searching _ c.cells-n.ensures _ c.before-from.ensures _ c.segments-to.ensures _ N _ _ _ c.next-e.ensures.costs_value c.next-e.ensures.grown D M I in record { node = step-node _ c.args.self.now.allowed.now _ _ _ c.args.i c.requires.searching _ c.cells-n.ensures _ c.before-from.ensures _ c.segments-to.ensures _ N _ _ _ c.next-e.ensures.costs_value c.next-e.ensures.grown D M I; searching = w.0; len_bound = w.1 }

pub returns : goal.returns
returns c = let D = c.requires.sound in let M = c.requires.m_bound in
    let r = step-on _ c.args.self.now.allowed.now _ _ _ c.args.i c.requires.searching _ c.cells-n.ensures _ c.before-from.ensures _ c.segments-to.ensures _ c.nodes-most.ensures _ _ _ c.next-e.ensures.costs_value c.next-e.ensures.grown D M c.if-most-i.false (eqb-false _ _ (sym c.eq.ensures ∙ c.if-eq.false)) _ _ _ c.expand.ensures.costs_after c.expand.ensures.visited c.expand.ensures.upper_bound in
    record { costs_after = r.0; turned = r.1 }
