-- `links::search::Seeker::run` meets its contract. The invariant: i turns are done. Assumes nothing.
use Rattle.links.proofs.SeekLaws.{Seeking}
use Rattle.links.proofs.search.Seeker.run.Given as goal

abbrev pub invariant-loop-i : goal.invariant-loop-i
invariant-loop-i l = Seeking l.self.net.lattice l.self.allowed.now l.initial.u l.initial.costs l.u l.costs l.m l.i
