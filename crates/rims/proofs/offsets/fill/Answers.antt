-- `rims::offsets::fill` meets its contract. Assumes nothing.
use native.Mathlib.Omega.{arith}
use Rattle.rims.proofs.OffsetLaws.{rims-told, rims-off}
use Rattle.rims.proofs.offsets.fill.Goals as goal

pub returns-then-not-are_told : goal.returns-then-not-are_told
returns-then-not-are_told c = rims-off _ _ _ _ c.fill_entries.ensures.1
