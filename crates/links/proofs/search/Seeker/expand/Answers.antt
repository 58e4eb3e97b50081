-- `links::search::Seeker::expand` meets its contract. The invariant: d neighbours are visited, and no more than d entries are new. Assumes nothing.
use Rattle.links.specs.Search.{expand_of}
use Rattle.loops.proofs.LoopLaws.{going_none, going_end}
use mathlib.Core.Path.{◌≡◌}
use native.Mathlib.Omega.{arith}
use Rattle.links.proofs.VisitLaws.{visited_none, visited_more, expand_more}
use Rattle.links.proofs.search.Seeker.expand.Goals as goal

pub loop-d-init : goal.loop-d-init
loop-d-init c = (going_none _ _ _ _, (visited_none _ _ _ _ c.requires.searching, omega arith))

pub loop-d-preserved : goal.loop-d-preserved
loop-d-preserved c = let l = c.loop-d in
    let S = c.requires.searching in (
      expand_more _ _ _ c.args.u.now _ _ _ l.d _ S.long l.invariant.1.0.only l.invariant.0 c.loop-d-test.true c.visit-m.ensures.costs_after,
      (visited_more _ _ _ _ S _ _ _ _ _ _ l.invariant.1.0 c.visit-m.ensures.visited, omega (arith, c.visit-m.ensures.upper_bound, l.invariant.1.1)),
    )

pub returns : goal.returns
unfolding expand_of
returns c = let l = c.loop-d in
    let d : l.d ≡ 8 = omega (arith, l.invariant.0.high, c.loop-d-test.false) in record { costs_after = going_end _ _ _ _ _ _ l.invariant.0 c.loop-d-test.false; visited = l.invariant.1.0; upper_bound = omega (arith, l.invariant.1.1) }
