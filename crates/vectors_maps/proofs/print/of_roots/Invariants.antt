-- `vectors_maps::print::of_roots` meets its contract. Assumes nothing.
use Rattle.std.proofs.Common.{◌≡◌}
use lib.ListN.{drop}
use Rattle.prints.specs.Print.{printed}
use Rattle.vectors_maps.specs.Print.{root_bits}
use Rattle.vectors_maps.proofs.print.of_roots.Given as goal

abbrev pub invariant-loop-q : goal.invariant-loop-q
invariant-loop-q l = printed root_bits l.h (drop l.q-index l.squares) ≡ printed root_bits 1 l.squares
