-- `links::path::shorten` meets its contract. The invariant: that many points are kept. Assumes nothing.
use Prim.Native.Nat.{◌-◌}
use Rattle.links.proofs.ShortenLaws.{Shortening}
use Rattle.links.proofs.path.shorten.Given as goal

abbrev pub invariant-loop-first : goal.invariant-loop-first
invariant-loop-first l = Shortening l.s l.vs l.lens l.map l.initial.w l.at l.end l.initial.here l.w l.here l.first l.kept

abbrev pub decreases-loop-first : goal.decreases-loop-first
decreases-loop-first l = l.end - l.first
