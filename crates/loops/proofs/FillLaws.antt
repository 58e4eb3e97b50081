-- A slice that is filled with one value, number by number. Assumes nothing.
use mathlib.Core.Path.{◌≡◌, refl, sym, ap, ◌∙◌}
use mathlib.Core.List.{List, [], ◌∷◌, ◌++◌, append_assoc, append-nil}
use Prim.Native.Nat.{ℕ, suc, ◌+◌, ◌≤◌, ◌<◌}
use native.Mathlib.Omega.{arith}
use lib.ListN.{length, get_or, set, drop, replicate, length-replicate, length-append, length-drop, replicate-append-replicate, drop_of_length-le}
use lib.Seq.{set_at, drop-cons}

-- the first k numbers of w are x
abbrev pub filled : {A : Type 0} → A → ℕ → List A → List A
filled x k w = replicate k x ++ drop k w

module _ {A : Type 0} (x : A) (w : List A) where
  pub filled_none : w ≡ filled x 0 w
  filled_none = refl

  pub filled_more : (k : ℕ) → k < length w → set (filled x k w) k x ≡ filled x (k + 1) w
  filled_more k h =
      ap (λ (l : List A). set (replicate k x ++ l) k x) (drop-cons w k x h)
      ∙ set_at (replicate k x) (get_or w k x) (drop (suc k) w) x k (length-replicate k x)
      ∙ sym (append_assoc (replicate k x) (x ∷ []) (drop (suc k) w))
      ∙ ap (λ (l : List A). l ++ drop (suc k) w) (replicate-append-replicate k 1 x)
      ∙ ap (λ (n : ℕ). replicate (k + 1) x ++ drop n w) (let e : suc k ≡ k + 1 = omega arith in e)

  pub filled-length : (k : ℕ) → k ≤ length w → length (filled x k w) ≡ length w
  filled-length k h = omega (arith, length-append (replicate k x) (drop k w), length-replicate k x, length-drop k w)

  pub filled-end : (k : ℕ) → k ≡ length w → filled x k w ≡ replicate (length w) x
  filled-end k e = ap (λ (l : List A). replicate k x ++ l) (drop_of_length-le w (let z : length w ≤ k = omega arith in z)) ∙ append-nil (replicate k x) ∙ ap (λ (n : ℕ). replicate n x) e
