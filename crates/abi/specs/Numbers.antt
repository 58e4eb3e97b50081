-- The answers of `numbers` that C has no type for, as numbers.
use Rattle.std.specs.Prelude.{ℕ}
use Rattle.std.specs.declared.cmp.Ordering.{Ordering}
use Rattle.std.specs.declared.cmp.Ordering.TheVariants.{Less, Equal, Greater}

unfoldable pub sign_of : Ordering → ℕ
sign_of Less = 0
sign_of Equal = 1
sign_of Greater = 2
