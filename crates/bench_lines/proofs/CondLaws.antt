-- A branch whose test is known. Assumes nothing.
use mathlib.Core.Path.{◌≡◌, refl, sym, subst}
use mathlib.Core.Bool.{Bool, true, false, cond}

module _ {A : Type 0} where
  pub if_so : (b : Bool) (x y : A) → b ≡ true → x ≡ cond b x y
  if_so b x y e = subst (λ (t : Bool). x ≡ cond t x y) (sym e) refl

  pub if_not : (b : Bool) (x y : A) → b ≡ false → y ≡ cond b x y
  if_not b x y e = subst (λ (t : Bool). y ≡ cond t x y) (sym e) refl
