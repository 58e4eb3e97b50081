-- A list of events grows at its end: what a plan has done so far, and then what it does next. Assumes nothing.
use mathlib.Core.Path.{◌≡◌, refl, sym, subst}
use mathlib.Core.List.{List, [], ◌∷◌, ◌++◌, append-nil}
use Rattle.events.specs.Chunk.{Job}
use Rattle.events.specs.Events.{Event, State, begin, step, steps, after, LegalFrom, Legal, Fit}
use Rattle.events.proofs.Demand.{Inv, inv_after}

module _ (j : Job) where
  pub steps-append : (a b : List Event) (s : State) → steps j s (a ++ b) ≡ steps j (steps j s a) b
  unfolding steps
  steps-append [] b s = refl
  steps-append (e ∷ a) b s = steps-append a b (step j s e)

  pub legal_append : (a b : List Event) (s : State) → LegalFrom j s a → LegalFrom j (steps j s a) b → LegalFrom j s (a ++ b)
  unfolding steps
  legal_append [] b s h g = g
  legal_append (e ∷ a) b s h g = (h.0, legal_append a b (step j s e) h.1 g)

  pub after-append : (a b : List Event) → after j (a ++ b) ≡ steps j (after j a) b
  unfolding after
  after-append a b = steps-append a b (begin j)

  -- what was checked before more events, in the state that the plan is in, makes the whole list legal
  pub legal_more : (a b : List Event) → Legal j a → LegalFrom j (after j a) b → Legal j (a ++ b)
  unfolding after
  legal_more a b h g = legal_append a b (begin j) h g

  -- the invariant after a whole list
  pub inv_all : Fit j → (es : List Event) → Legal j es → Inv j (after j es)
  inv_all f es h = inv_after j f es [] (subst (Legal j) (sym (append-nil es)) h)
