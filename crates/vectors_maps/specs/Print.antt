-- Fingerprints of the distances that squares stand for. Definitions only.
use Rattle.std.specs.Prelude.{ℕ, List, take, to_bits}
use Rattle.std.specs.Float.{binary64}
use Rattle.distance.specs.Rooted.{rooted_of}
use Rattle.prints.specs.Print.{printed}

-- a square's distance, as a bit pattern
abbrev pub root_bits : ℕ → ℕ
root_bits q = to_bits binary64 (rooted_of q)

-- the distances of the first n squares of s
abbrev pub roots_of : List ℕ → ℕ → ℕ
roots_of s n = printed root_bits 1 (take n s)
