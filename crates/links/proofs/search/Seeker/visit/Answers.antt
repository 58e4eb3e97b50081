-- `links::search::Seeker::visit` meets its contract. Assumes nothing.
use mathlib.Core.Path.{sym, ap, ◌∙◌, subst}
use mathlib.Core.List.{List}
use Prim.Native.Nat.{ℕ}
use native.Mathlib.Omega.{arith}
use lib.ListN.{length}
use Rattle.raster.specs.Grid.{Over}
use Rattle.links.specs.Search.{reachable, Ready}
use Rattle.links.specs.Lattice.{nodes}
use Rattle.links.proofs.LatticeLaws.{beside_node}
use Rattle.links.proofs.VisitLaws.{visit_off, visit_not, visit_yes, squares-over, words-lent, squares-lent}
use Rattle.links.proofs.search.Seeker.visit.Goals as goal

pub returns-in_default : goal.returns-in_default
returns-in_default c =
    let r = visit_off _ _ _ _ c.requires.searching _ _ _ _ c.beside.ensures c.in_default.is in
    record { costs_after = r.0; visited = r.1.0; upper_bound = r.1.1 }

pub reaches-requires : goal.reaches-requires
reaches-requires c = record { node = beside_node _ _ _ _ _ c.beside.ensures c.in-Some.is; over = subst (λ (q : List ℕ). Over c.args.self.now.net.lattice.grid (length q)) (sym (squares-lent c.args.self.now.net.lattice _ c.cells-n.ensures _ c.before-from.ensures _ c.segments-to.ensures c.args.u.now)) (squares-over _ _ _ _ c.requires.searching c.args.self.now.net.laid) }

pub offer-requires : goal.offer-requires
offer-requires c = record { node = c.requires.node; node_2 = beside_node _ _ _ _ _ c.beside.ensures c.in-Some.is; ready = subst (λ (w : List ℕ). Ready (nodes c.args.self.now.net.lattice) c.args.m w c.args.costs.now) (sym (words-lent c.args.self.now.net.lattice _ c.cells-n.ensures _ c.before-from.ensures _ c.segments-to.ensures c.args.u.now)) c.requires.searching.ready; m_bound = c.requires.m_bound }

pub returns-then-reaches : goal.returns-then-reaches
returns-then-reaches c =
    let r = visit_yes _ _ _ _ c.requires.searching _ _ _ _ c.beside.ensures _ c.in-Some.is _ (c.reaches.ensures ∙ ap (λ (q : List ℕ). reachable c.args.self.now.net.lattice c.args.self.now.allowed.now q c.in-Some.t) (squares-lent c.args.self.now.net.lattice _ c.cells-n.ensures _ c.before-from.ensures _ c.segments-to.ensures c.args.u.now)) _ c.cells-n.ensures _ c.before-from.ensures _ c.segments-to.ensures c.if-reaches.true _ _ _ c.offer.ensures.costs_after c.offer.ensures.grown c.offer.ensures.upper_bound in
    record { costs_after = r.0; visited = r.1.0; upper_bound = r.1.1 }

pub returns : goal.returns
returns c =
    let r = visit_not _ _ _ _ c.requires.searching _ _ _ _ c.beside.ensures _ c.in-Some.is _ (c.reaches.ensures ∙ ap (λ (q : List ℕ). reachable c.args.self.now.net.lattice c.args.self.now.allowed.now q c.in-Some.t) (squares-lent c.args.self.now.net.lattice _ c.cells-n.ensures _ c.before-from.ensures _ c.segments-to.ensures c.args.u.now)) c.if-reaches.false in
    record { costs_after = r.0; visited = r.1.0; upper_bound = r.1.1 }
