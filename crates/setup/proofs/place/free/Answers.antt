-- `setup::place::free` meets its contract. Assumes nothing.
use mathlib.Core.Path.{ap}
use Prim.Native.Nat.{ℕ}
use lib.Dec.{eqb}
use Rattle.setup.specs.Place.{free_at}
use Rattle.setup.proofs.place.free.Goals as goal

pub returns : goal.returns
unfolding free_at
returns c = ap (λ (n : ℕ). eqb n 0) c.count_disk.ensures
