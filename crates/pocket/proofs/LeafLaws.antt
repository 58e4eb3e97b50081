-- A leaf's answer, by the first no of its questions; the same told to C. Assumes nothing.
use mathlib.Core.Path.{◌≡◌, sym, ap, ◌∙◌}
use mathlib.Core.Bool.{Bool, true, false, cond}
use mathlib.Core.List.{List}
use Prim.Native.Nat.{ℕ}
use lib.Ieee.{Float}
use borrow.Author.Tests.{eq-eqb, ne_eqb}
use Rattle.std.specs.Prelude.{Ok, Err}
use Rattle.pocket.specs.Refusals.{Asked}
use Rattle.pocket.specs.declared.refusals.Refusal.{Refusal}
use Rattle.pocket.specs.Leaves.{unless, OnMap, on_map, told_map, OnLog, on_log, told_log, OnFar, on_far, told_far}

-- by one test
module _ {A : Type 0} (b want : Bool) (e : b ≡ want) where
  pub when_yes : b ≡ true → (x y z : A) → z ≡ x → z ≡ cond want x y
  when_yes h x y z i = i ∙ sym (ap (λ (q : Bool). cond q x y) (sym e ∙ h))

  pub when_not : b ≡ false → (x y : A) → y ≡ cond want x y
  when_not h x y = sym (ap (λ (q : Bool). cond q x y) (sym e ∙ h))

-- by the first no
module _ {A : Type 0} (refused : Refusal → A) (n want : Asked) (e : n ≡ want) where
  pub is-refused : (why : Refusal) → n ≡ Err why → (x : A) → refused why ≡ unless want refused x
  is-refused why h x = sym (ap (λ (k : Asked). unless k refused x) (sym e ∙ h))

  pub is-answered : n ≡ Ok tt → (x z : A) → z ≡ x → z ≡ unless want refused x
  is-answered h x z i = i ∙ sym (ap (λ (k : Asked). unless k refused x) (sym e ∙ h))

-- ---- an answer told to C

module _ {A B : Type 0} (f : A → B) (x : B) (a : A) (e : x ≡ f a) where
  pub told-map : (m : List ℕ) (o : OnMap A) → on_map a m ≡ o → on_map x m ≡ told_map f o
  told-map m o h = ap (λ (b : B). on_map b m) e ∙ ap (told_map f) h

  pub told-log : (m l : List ℕ) (o : OnLog A) → on_log a m l ≡ o → on_log x m l ≡ told_log f o
  told-log m l o h = ap (λ (b : B). on_log b m l) e ∙ ap (told_log f) h

  pub told-far : (q : List ℕ) (d : List Float) (o : OnFar A) → on_far a q d ≡ o → on_far x q d ≡ told_far f o
  told-far q d o h = ap (λ (b : B). on_far b q d) e ∙ ap (told_far f) h
