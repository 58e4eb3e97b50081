-- `helix::search::find` meets its contract. Assumes nothing.
use mathlib.Core.Path.{◌≡◌}
use lib.ListN.{length}
use Rattle.helix.proofs.SearchLaws.{Tried}
use Rattle.helix.proofs.search.find.Given as goal

abbrev pub invariant-loop-k : goal.invariant-loop-k
invariant-loop-k l = (length l.stack ≡ length l.initial.stack) × Tried l.s l.wall l.vs l.lens l.pref l.initial.b l.b l.k
