-- `contours::chain::chain_all` meets its contract. The invariant: the chains of k segments are taken up. Assumes nothing.
use Rattle.std.proofs.Common.{◌≤◌}
use Rattle.contours.specs.Chain.{chains, edge_point}
use Rattle.contours.specs.Traced.{pieces_in, Traced}
use Rattle.contours.proofs.TourLaws.{toured}
use Rattle.contours.proofs.chain.chain_all.Given as goal

abbrev pub invariant-loop-k : goal.invariant-loop-k
invariant-loop-k l = Traced l.g l.n (toured (edge_point l.g l.f l.level) l.g l.n l.first l.initial.words l.initial.pts (chains l.initial.marks (pieces_in l.n l.initial.c l.initial.words l.initial.pts)) l.k) l.initial.words l.initial.pts l.words l.marks l.pts l.c × (l.k ≤ l.m)
