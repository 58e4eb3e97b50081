-- Numbers in hexadecimal digits. Definitions only.
use Rattle.std.specs.Prelude.{ℕ, ◌+◌, ◌*◌, ◌-◌, cond, ◌&&◌, nat_le}
use Rattle.std.specs.declared.option.Option.{Option}
use Rattle.std.specs.declared.option.Option.TheVariants.{None, Some}

-- the value of 0 to 9 and of a to f
unfoldable pub digit_of : ℕ → Option ℕ
digit_of c = cond (nat_le 48 c && nat_le c 57) (Some (c - 48)) (cond (nat_le 97 c && nat_le c 102) (Some (c - 97 + 10)) None)

-- a digit behind a number of at most 15 of them
abbrev pub behind : ℕ → Option ℕ → Option ℕ
behind n None = None
behind n (Some d) = cond (nat_le n 1152921504606846975) (Some (n * 16 + d)) None

unfoldable pub grown : ℕ → ℕ → Option ℕ
grown n c = behind n (digit_of c)
