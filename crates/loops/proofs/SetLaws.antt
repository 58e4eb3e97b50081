-- A number that is set: what each number is then, and each part of the slice. Assumes nothing.
use mathlib.Core.Path.{◌≡◌, ap, ◌∙◌}
use mathlib.Core.List.{List, [], ◌∷◌}
use Prim.Native.Nat.{ℕ, zero, suc, ◌+◌, ◌-◌, ◌≤◌, ◌<◌}
use native.Mathlib.Omega.{arith}
use lib.ListN.{get_or, set, take, drop}
use lib.Seq.{take-set-le, take-set-lt, drop-set-add}
use Rattle.loops.specs.Regions.{within}

-- what holds of the number that is set and of those that were there holds of each
pub set_either : {A : Type 0} (P : A → Type 0) (l : List A) (i j : ℕ) (v d : A) → P v → P (get_or l j d) → P (get_or (set l i v) j d)
set_either P [] i j v d p q = q
set_either P (x ∷ l) zero zero v d p q = p
set_either P (x ∷ l) zero (suc j) v d p q = q
set_either P (x ∷ l) (suc i) zero v d p q = q
set_either P (x ∷ l) (suc i) (suc j) v d p q = set_either P l i j v d p q

module _ {A : Type 0} (w : List A) (v : A) where
  pub set-within : (a e i : ℕ) → i < e - a → within a e (set w (a + i) v) ≡ set (within a e w) i v
  unfolding within
  set-within a e i h = ap (take (e - a)) (drop-set-add a w i v) ∙ take-set-lt (e - a) (drop a w) i v h

  pub set_behind : (a e i : ℕ) → a ≤ e → e ≤ i → within a e (set w i v) ≡ within a e w
  unfolding within
  set_behind a e i h k =
      ap (λ (j : ℕ). take (e - a) (drop a (set w j v))) (let z : i ≡ a + (i - a) = omega arith in z)
      ∙ ap (take (e - a)) (drop-set-add a w (i - a) v)
      ∙ take-set-le (e - a) (drop a w) (i - a) v (omega arith)
