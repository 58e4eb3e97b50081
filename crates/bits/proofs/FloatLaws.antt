-- What equals itself is no NaN, and what does not is the NaN. Assumes nothing.
use mathlib.Core.Path.{◌≡◌, refl, sym, ap, ◌∙◌, subst}
use mathlib.Core.Bool.{Bool, true, false, not, true≢false}
use Prim.Native.Nat.{ℕ}
use lib.Dec.{T}
use lib.Ieee.{Float, nan, inf, fin, Format, eq, ne, is_nan, nan_bits, of_bits}
use lib.Ieee.Bits.{nan_bits_is}
use Rattle.numbers.proofs.WholeLaws.{differs}

pub no_nan : (x : Float) → eq x x ≡ true → T (not (is_nan x))
unfolding ne
no_nan x h = subst (λ (k : Bool). T (not k)) (sym (sym (differs x) ∙ ap not h)) tt

is_nan_lem : (x : Float) → is_nan x ≡ true → nan ≡ x
unfolding is_nan
is_nan_lem nan h = refl
is_nan_lem (inf s) h = absurd (true≢false (sym h))
is_nan_lem (fin s m e) h = absurd (true≢false (sym h))

pub the_nan : (x : Float) → eq x x ≡ false → nan ≡ x
unfolding ne
the_nan x h = is_nan_lem x (sym (differs x) ∙ ap not h)

pub nan_read : (f : Format) (b : ℕ) → nan_bits f b ≡ true → nan ≡ of_bits f b
nan_read f b h = is_nan_lem (of_bits f b) (sym (nan_bits_is f b) ∙ h)
