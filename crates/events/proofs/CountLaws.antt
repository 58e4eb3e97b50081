-- A list has as many rows of a kind as events listed one: the numbers of a report may be counted from the rows. Assumes nothing.
use mathlib.Core.Path.{◌≡◌, ap, ◌∙◌}
use mathlib.Core.Bool.{Bool, false, cond}
use mathlib.Core.List.{List, [], ◌∷◌, ◌++◌}
use mathlib.Core.Option.{Option}
use Prim.Native.Nat.{ℕ, ◌+◌}
use native.Mathlib.Omega.{arith}
use native.Mathlib.Nat.{zero-add}
use lib.Dec.{eqb}
use Rattle.events.specs.Chunk.{Point, Chunk, cut, Job}
use Rattle.events.specs.Lent.{kind_of}
use Rattle.events.specs.Events.{Event, tried, withdrawn, linked, plunged, no_way, kept, entered, given_up, State, begin, keep, step, steps, after, Checked, LegalFrom, Legal}
use Rattle.events.specs.Told.{how_many, kind_by, events_of, chunks_of}

many_append : {A : Type 0} (f : A → Bool) (a b : List A) → how_many f (a ++ b) ≡ how_many f a + how_many f b
unfolding how_many
many_append f [] b = omega arith
many_append f (x ∷ a) b = omega (arith, many_append f a b)

pub events-append : (k : ℕ) (a b : List Event) → events_of k (a ++ b) ≡ events_of k a + events_of k b
events-append k a b = many_append (λ (e : Event). eqb (kind_by e) k) a b

-- a kind of rows: neither 0 nor 5
module _ (j : Job) (k : ℕ) (some-kind : eqb 0 k ≡ false) (no_place : eqb 5 k ≡ false) where
  -- one more row
  row_more : (cs : List Chunk) (c : Chunk) → chunks_of k (cs ++ (c ∷ [])) ≡ chunks_of k cs + cond (eqb (kind_of c) k) 1 0
  unfolding how_many
  row_more cs c = omega (arith, many_append (λ (d : Chunk). eqb (kind_of d) k) cs (c ∷ []))

  -- and none more
  no_row : (n : ℕ) → eqb n k ≡ false → (a : ℕ) → a ≡ a + cond (eqb n k) 1 0
  no_row n e a = omega (arith, ap (λ (b : Bool). cond {A = ℕ} b 1 0) e)

  kind-step : (s : State) (e : Event) → Checked j s e → chunks_of k (step j s e).rows ≡ chunks_of k s.rows + cond (eqb (kind_by e) k) 1 0
  unfolding step
  kind-step s (tried ps n) h = no_row 0 some-kind (chunks_of k s.rows)
  kind-step s withdrawn h = no_row 0 some-kind (chunks_of k s.rows)
  kind-step s (linked p) h = row_more s.rows _
  kind-step s (plunged p) h = row_more s.rows _
  kind-step s (no_way p) h = no_row 0 some-kind (chunks_of k s.rows)
  kind-step s kept h = ap (λ (t : Option (List Point)). chunks_of k (keep s t).rows) h.on ∙ row_more s.rows (cut (h.first ∷ h.rest))
  kind-step s (entered c rad) h = row_more s.rows _
  kind-step s (given_up c) h = no_row 5 no_place (chunks_of k s.rows)

  kind-steps : (es : List Event) (s : State) → LegalFrom j s es → chunks_of k (steps j s es).rows ≡ chunks_of k s.rows + events_of k es
  unfolding steps how_many
  kind-steps [] s h = omega arith
  kind-steps (e ∷ es) s h = omega (arith, kind-step s e h.0, kind-steps es (step j s e) h.1)

  pub rows-events : (es : List Event) → Legal j es → chunks_of k (after j es).rows ≡ events_of k es
  unfolding after begin how_many
  rows-events es h = kind-steps es (begin j) h ∙ zero-add (events_of k es)
