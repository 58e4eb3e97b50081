-- `rims::boxes::fill_entries` meets its contract. The invariant: the entries of the samples so far stand in the table, and nothing else has changed. Assumes nothing.
use Prim.Native.Nat.{◌+◌}
use Rattle.rims.specs.Boxes.{Apart, EntriesTo}
use Rattle.rims.proofs.boxes.fill_entries.Given as goal

abbrev pub invariant-loop-k : goal.invariant-loop-k
invariant-loop-k l = Apart (l.at + 1) (l.at + 2049) l.initial.w l.w × EntriesTo l.g l.r l.n l.at l.s l.k l.w
