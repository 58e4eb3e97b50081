-- `links::search::Seeker::expand` meets its contract. The invariant: d neighbours are visited, and no more than d entries are new. Assumes nothing.
use Rattle.links.specs.Search.{visit_of, search_in, squares_in, words_in, Visited}
use Rattle.links.specs.Lattice.{nodes}
use Rattle.loops.proofs.LoopLaws.{Going}
use Prim.Native.Nat.{◌+◌, ◌≤◌}
use Rattle.links.proofs.search.Seeker.expand.Given as goal

abbrev pub invariant-loop-d : goal.invariant-loop-d
invariant-loop-d l = Going (visit_of l.self.net.lattice l.self.allowed.now (squares_in l.self.net.lattice l.initial.u) l.v) 0 8 (search_in (nodes l.self.net.lattice) l.len (words_in l.self.net.lattice l.initial.u) l.initial.costs) (search_in (nodes l.self.net.lattice) l.m (words_in l.self.net.lattice l.u) l.costs) l.d
    × (Visited l.self.net.lattice l.m l.initial.u l.initial.costs l.u l.costs × (l.m ≤ l.len + l.d))
