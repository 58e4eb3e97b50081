-- A list gone over grows at its end, and what holds of each of its elements. Assumes nothing.
use mathlib.Core.Path.{◌≡◌, refl, ap}
use mathlib.Core.List.{List, [], ◌∷◌, ◌++◌, map}
use Rattle.loops.specs.Each.{over, Each}

module _ {A : Type 0} (P : A → Type 0) where
  pub each_more : (l : List A) (x : A) → Each P l → P x → Each P (l ++ (x ∷ []))
  unfolding Each
  each_more [] x e p = (p, tt)
  each_more (y ∷ l) x e p = (e.0, each_more l x e.1 p)

  pub each-less : (l : List A) (x : A) → Each P (l ++ (x ∷ [])) → Each P l × P x
  unfolding Each
  each-less [] x e = (tt, e.0)
  each-less (y ∷ l) x e = let r = each-less l x e.1 in ((e.0, r.0), r.1)

-- what it implies holds too
pub each_all : {A : Type 0} (P Q : A → Type 0) → ((x : A) → P x → Q x) → (l : List A) → Each P l → Each Q l
unfolding Each
each_all P Q f [] e = tt
each_all P Q f (x ∷ l) e = (f x e.0, each_all P Q f l e.1)

module _ {A S : Type 0} (f : A → S → S) where
  -- one more at the end
  pub over_more : (l : List A) (x : A) (s : S) → f x (over f l s) ≡ over f (l ++ (x ∷ [])) s
  unfolding over
  over_more [] x s = refl
  over_more (y ∷ l) x s = over_more l x (f y s)

  -- what each turn keeps, the whole keeps
  pub over_keeps : (Q : A → Type 0) (P : S → Type 0) → ((x : A) (s : S) → Q x → P s → P (f x s)) → (l : List A) → Each Q l → (s : S) → P s → P (over f l s)
  unfolding over Each
  over_keeps Q P h [] e s p = p
  over_keeps Q P h (x ∷ l) e s p = over_keeps Q P h l e.1 (f x s) (h x s e.0 p)

-- a list that is mapped grows at its end too
pub map_more : {A B : Type 0} (f : A → B) (l : List A) (x : A) → map f (l ++ (x ∷ [])) ≡ map f l ++ (f x ∷ [])
map_more f [] x = refl
map_more {B = B} f (y ∷ l) x = ap (λ (r : List B). f y ∷ r) (map_more f l x)
