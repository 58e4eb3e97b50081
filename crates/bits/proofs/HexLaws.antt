-- A digit is below 16. Assumes nothing.
use Rattle.std.proofs.Common.{◌≡◌, ℕ, ◌<◌, Some, arith}
use Rattle.bits.specs.Hex.{digit_of}

pub digit_small : (c d : ℕ) → digit_of c ≡ Some d → d < 16
unfolding digit_of
digit_small c d h = grind arith
