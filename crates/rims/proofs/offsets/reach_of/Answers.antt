-- `rims::offsets::reach_of` meets its contract. Assumes nothing.
use mathlib.Core.Path.{ap}
use Prim.Native.Nat.{ℕ, ◌+◌}
use native.Mathlib.Omega.{arith}
use Rattle.rims.specs.Offsets.{reach_of}
use Rattle.rims.proofs.offsets.reach_of.Goals as goal

pub returns : goal.returns
unfolding reach_of
returns c = (ap (λ (n : ℕ). n + 1) c.sat_u32.ensures, omega arith)
