-- A way of several links, listed between one undoing and one clearing again, is the links one by one: what `go_to` of adaptive.rs does at once is a list of
-- events. Assumes nothing.
use mathlib.Core.Path.{◌≡◌, refl, sym, ap, ◌∙◌, subst}
use mathlib.Core.Bool.{true}
use Prim.Native.Nat.{ℕ}
use mathlib.Core.List.{List, [], ◌∷◌, ◌++◌, map, append-nil, append_assoc}
use mathlib.Core.Option.{none, some}
use Rattle.raster.specs.Log.{Stock}
use Rattle.geom.specs.declared.vec2.Vec2.{Vec2}
use Rattle.events.specs.Chunk.{Chunk, plunge, link, Job}
use Rattle.events.specs.Replay.{gone_to}
use Rattle.events.specs.Events.{linked, plunged, no_way, State, state, put_back_all, take_again, step, steps, LegalFrom}

module _ (j : Job) where
  -- `e` is `same` of `Demand`
  one_link : (s : State) → take_again (put_back_all s.stock) ≡ s.stock → (p : Vec2)
      → step j s (linked p) ≡ state s.stock (s.rows ++ (link p ∷ [])) (some p) s.trial none s.abandoned
  unfolding step
  one_link s e p = ap (λ (k : Stock). state k (s.rows ++ (link p ∷ [])) (some p) s.trial none s.abandoned) e

  -- from a state in which no link was just refused
  pub way-is : (ps : List Vec2) (s : State) → take_again (put_back_all s.stock) ≡ s.stock → s.refused ≡ none
      → steps j s (map linked ps) ≡ state (take_again (put_back_all s.stock)) (s.rows ++ map link ps) (gone_to s.position ps) s.trial none s.abandoned
  unfolding steps
  way-is [] s e n = λ i. state (sym e i) (sym (append-nil s.rows) i) s.position s.trial (n i) s.abandoned
  way-is (p ∷ ps) s e n =
      ap (λ (t : State). steps j t (map linked ps)) (one_link s e p)
      ∙ way-is ps (state s.stock (s.rows ++ (link p ∷ [])) (some p) s.trial none s.abandoned) e refl
      ∙ ap (λ (l : List Chunk). state (take_again (put_back_all s.stock)) l (gone_to (some p) ps) s.trial none s.abandoned) (append_assoc s.rows (link p ∷ []) (map link ps))

  -- a plunge for want of a way, between one undoing and one clearing again
  pub no-way-is : (p : Vec2) (s : State) → take_again (put_back_all s.stock) ≡ s.stock
      → steps j s (no_way p ∷ plunged p ∷ []) ≡ state (take_again (put_back_all s.stock)) (s.rows ++ (plunge p ∷ [])) (some p) s.trial none s.abandoned
  unfolding step steps
  no-way-is p s e = ap (λ (k : Stock). state (take_again (put_back_all k)) (s.rows ++ (plunge p ∷ [])) (some p) s.trial none s.abandoned) e

  -- every feed of a way from p passes its samples on the map m
  abbrev pub WayChecked : List ℕ → Vec2 → List Vec2 → Type 0
  WayChecked m p [] = Unit
  WayChecked m p (q ∷ qs) = (j.link_clear m p q ≡ true) × WayChecked m q qs

  -- a way judged as a whole on the map before the pass on trial is legal, link by link
  pub way_legal : (ps : List Vec2) (s : State) → take_again (put_back_all s.stock) ≡ s.stock → (p : Vec2) → s.position ≡ some p → WayChecked (put_back_all s.stock).cells p ps
      → LegalFrom j s (map linked ps)
  way_legal [] s e p h w = tt
  way_legal (q ∷ qs) s e p h w = (
    record { from = p; here = h; clear = w.0 },
    subst (λ (t : State). LegalFrom j t (map linked qs)) (sym (one_link s e q))
        (way_legal qs (state s.stock (s.rows ++ (link q ∷ [])) (some q) s.trial none s.abandoned) e q refl w.1),
  )
