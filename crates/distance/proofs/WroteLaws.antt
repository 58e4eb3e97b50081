-- One more place is written. Assumes nothing.
use mathlib.Core.Path.{◌≡◌, refl, ap, ◌∙◌}
use mathlib.Core.Logic.{⊎_elim}
use mathlib.Core.List.{List}
use Prim.Native.Nat.{ℕ, ◌+◌, ◌≤◌, ◌<◌, max}
use native.Mathlib.Omega.{arith}
use lib.ListN.{length, set}
use lib.Seq.{get_or-set_other}
use Rattle.distance.specs.Wrote.{Wrote}
use Rattle.distance.proofs.NumberLaws.{lt_or_le, at_set}

module _ (f : ℕ → ℕ) (start a : ℕ) (s : List ℕ) where
  pub wrote_none : Wrote f start a a s s
  wrote_none = record { cell = λ x b c. absurd (let z : ⊥ = omega arith in z); left = λ c b. refl; right = λ c b d. refl }

  pub wrote_more : (e p v : ℕ) (t : List ℕ) → Wrote f start a e s t → p ≡ start + e → a ≤ e → p < length t → v ≡ f e → Wrote f start a (e + 1) s (set t p v)
  wrote_more e p v t w q h l d = record {
    cell = λ x b c. at_set (λ j u. u ≡ f x) t p v l (start + x)
        (λ z. d ∙ ap f (let y : e ≡ x = omega arith in y))
        (λ z. w.cell x b (⊎_elim (λ g. g) (λ g. absurd (z (omega arith))) (lt_or_le x e)));
    left = λ c b. get_or-set_other t p c v 0 (λ z. omega arith) ∙ w.left c b;
    right = λ c b g. get_or-set_other t p c v 0 (λ z. omega arith) ∙ w.right c (omega arith) g;
  }

  -- where the counter stops, also where the range is empty
  pub wrote-end : (k e : ℕ) (t : List ℕ) → Wrote f start a k s t → e ≤ k → k ≤ max a e → Wrote f start a e s t
  wrote-end k e t w h g = record { cell = λ x b c. w.cell x b (omega arith); left = w.left; right = λ c b d. w.right c (omega arith) d }
