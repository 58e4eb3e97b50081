-- Fingerprints of numbers and of floats in order. Definitions only.
use Rattle.std.specs.Prelude.{ℕ, ◌+◌, ◌*◌, ◌%◌, List, [], ◌∷◌, take}

-- one value more, by the remainder of 2^31 - 1
unfoldable pub mixed : ℕ → ℕ → ℕ
mixed h v = (h % 2147483647 * 48271 + v % 2147483647) % 2147483647

-- of values, each of which has a number, behind the fingerprint h
abbrev pub printed : {T : Type 0} → (T → ℕ) → ℕ → List T → ℕ
printed number h [] = h
printed number h (x ∷ xs) = printed number (mixed h (number x)) xs

-- the first n numbers of s
abbrev pub print_of : List ℕ → ℕ → ℕ
print_of s n = printed (λ v. v) 1 (take n s)
