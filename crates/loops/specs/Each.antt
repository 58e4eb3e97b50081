-- Lists gone over from the first element on. Definitions only.
use Rattle.std.specs.Prelude.{List, [], ◌∷◌}

-- for x in l { s = f(x, s) }
unfoldable pub over : {A S : Type 0} → (A → S → S) → List A → S → S
over f [] s = s
over f (x ∷ l) s = over f l (f x s)

-- P holds of every one of a list
unfoldable pub Each : {A : Type 0} → (A → Type 0) → List A → Type 0
Each P [] = Unit
Each P (x ∷ l) = P x × Each P l
