-- The first no of a list of answers. Assumes nothing.
use mathlib.Core.Path.{◌≡◌, refl, sym, ap, ◌∙◌}
use mathlib.Core.Bool.{Bool, true, false, cond}
use mathlib.Core.List.{List, [], ◌∷◌, ◌++◌}
use Prim.Native.Nat.{◌≤◌}
use native.Mathlib.Omega.{arith}
use Rattle.std.specs.Prelude.{Option, None, Some, Result, Ok, Err}
use Rattle.std.specs.Result.{IsErrAnd}
use Rattle.loops.proofs.Cases.{by_cases}
use Rattle.entry.specs.Questions.{Answer, asked, number_of, first_no, judged_by}
use Rattle.entry.specs.declared.questions.Question.{Question}
use Rattle.entry.specs.declared.questions.Question.TheVariants.{Diameter, Engagement, StepDown, Depth, Leave, Safe, Feeds, Ramp, Helix, Thinning, Resolution, Ranges, Shapes, Raster, Lent}

-- all are yes
abbrev pub All : List Answer → Type 0
All [] = Unit
All (a ∷ l) = (a.fit ≡ true) × All l

pub first-all : (l : List Answer) → first_no l ≡ None → All l
unfolding first_no
first-all [] e = tt
first-all (a ∷ l) e =
    by_cases a.fit (λ t. (t, first-all l (rw t at e))) (λ t. let none : Some a.question ≡ None = rw t at e in absurd (let z : ⊥ = cc in z))

-- of two lists, the second is asked where the first has no no
pub first-append : (a b : List Answer) → first_no a ≡ None → first_no (a ++ b) ≡ first_no b
unfolding first_no
first-append [] b e = refl
first-append (x ∷ a) b e =
    by_cases x.fit (λ t. rw t (first-append a b (rw t at e))) (λ t. let none : Some x.question ≡ None = rw t at e in absurd (let z : ⊥ = cc in z))

pub first-found : (a b : List Answer) (q : Question) → first_no a ≡ Some q → first_no (a ++ b) ≡ Some q
unfolding first_no
first-found [] b q e = absurd (let z : ⊥ = cc in z)
first-found (x ∷ a) b q e = by_cases x.fit (λ t. rw t (first-found a b q (rw t at e))) (λ t. rw t (rw t at e))

-- what a result says of the first no
module _ {A : Type 0} (a : A) where
  pub none-told : (n : Option Question) (x : A) → judged_by n a ≡ Ok x → n ≡ None
  unfolding judged_by
  none-told None x e = refl
  none-told (Some q) x e = absurd (let z : ⊥ = cc in z)

  pub some-told : (n : Option Question) (q : Question) → judged_by n a ≡ Err q → n ≡ Some q
  unfolding judged_by
  some-told None q e = absurd (let z : ⊥ = cc in z)
  some-told (Some p) q e = let same : p ≡ q = cc in ap Some same

-- of one question
pub asked-yes : (q : Question) (b : Bool) (r : Result Unit Question) → r ≡ asked q b → (x : Unit) → r ≡ Ok x → b ≡ true
asked-yes q true r e x o = refl
asked-yes q false r e x o = let other : Err q ≡ Ok x = sym e ∙ o in absurd (let z : ⊥ = cc in z)

pub asked-no : (q : Question) (b : Bool) (r : Result Unit Question) → r ≡ asked q b → (n : Question) → r ≡ Err n → (b ≡ false) × (q ≡ n)
asked-no q true r e n o = let other : Ok tt ≡ Err n = sym e ∙ o in absurd (let z : ⊥ = cc in z)
asked-no q false r e n o = let is : ◌≡◌ {A = Result Unit Question} (Err q) (Err n) = sym e ∙ o in (refl, let same : q ≡ n = cc in same)

pub asked-last : (q : Question) (b : Bool) → asked q b ≡ judged_by (cond b None (Some q)) tt
unfolding judged_by
asked-last q true = refl
asked-last q false = refl

-- what leaves by a `?`
pub passed : {A : Type 0} (r : Result A Question) (q : Question) → IsErrAnd r (λ y. y ≡ q) → r ≡ Err q
passed (Ok x) q h = absurd h
passed (Err y) q h = ap Err h

-- they are 1 to 15
pub number-known : (q : Question) → (1 ≤ number_of q) × (number_of q ≤ 15)
unfolding number_of
number-known Diameter = (omega arith, omega arith)
number-known Engagement = (omega arith, omega arith)
number-known StepDown = (omega arith, omega arith)
number-known Depth = (omega arith, omega arith)
number-known Leave = (omega arith, omega arith)
number-known Safe = (omega arith, omega arith)
number-known Feeds = (omega arith, omega arith)
number-known Ramp = (omega arith, omega arith)
number-known Helix = (omega arith, omega arith)
number-known Thinning = (omega arith, omega arith)
number-known Resolution = (omega arith, omega arith)
number-known Ranges = (omega arith, omega arith)
number-known Shapes = (omega arith, omega arith)
number-known Raster = (omega arith, omega arith)
number-known Lent = (omega arith, omega arith)
