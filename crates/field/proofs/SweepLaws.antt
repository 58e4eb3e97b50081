-- A sweep over a window is the sweep over all cells, if no cell outside the window is wanted. Assumes nothing.
use mathlib.Core.Path.{◌≡◌, refl, sym, ap, ◌∙◌}
use mathlib.Core.Bool.{Bool, false}
use mathlib.Core.List.{List}
use Prim.Native.Nat.{ℕ, ◌-◌, ◌≤◌, ◌<◌, min, max}
use native.Mathlib.Omega.{arith}
use lib.Dec.{ltb}
use borrow.Author.Tests.{ltb-true, ltb-false}
use Rattle.loops.specs.Loop.{loop}
use Rattle.loops.specs.Cells.{number}
use Rattle.loops.proofs.Cases.{by_cases}
use Rattle.loops.proofs.LoopLaws.{loop-end, loop_keeps, loop_split, loop_both, Going}
use Rattle.setup.specs.declared.Setup.{Setup}
use Rattle.dilation.specs.Window.{In}
use Rattle.dilation.specs.declared.window.Window.{Window}
use Rattle.field.specs.Bands.{Inside, columns_of, window_row, window_rows}
use Rattle.field.specs.Field.{value_at, wanted_at, Sensed, field_cell, field_row, field_rows}

module _ {S : Type 0} (f : ℕ → S → S) where
  -- many turns at once
  pub going_over : (a e : ℕ) (s t t' : S) (k m : ℕ) → Going f a e s t k → k ≤ m → m ≤ e → t' ≡ loop f k m t → Going f a e s t' m
  going_over a e s t t' k m G h l d = record { low = omega (arith, G.low); high = omega arith; is = d ∙ ap (loop f k m) G.is ∙ sym (loop_split f a k m s G.low h) }

  -- a loop whose turns do nothing
  loop-idle : (a e : ℕ) (s : S) → ((i : ℕ) (t : S) → a ≤ i → i < e → f i t ≡ t) → loop f a e s ≡ s
  loop-idle a e s h = loop_keeps f a (λ (t : S). t ≡ s) e (λ i t p q r. h i t p q ∙ r) s refl

  -- two loops whose turns are one
  loop-same : (g : ℕ → S → S) (a e : ℕ) (s : S) → ((i : ℕ) (t : S) → a ≤ i → i < e → f i t ≡ g i t) → loop f a e s ≡ loop g a e s
  loop-same g a e s h =
      let k = max a e in
      sym (loop-end f a k e s (omega arith) (omega arith) (omega arith))
      ∙ loop_both f g (λ _ (t u : S). t ≡ u) a k (omega arith) (λ i t u p q r. h i t p (omega arith) ∙ ap (g i) r) s s refl
      ∙ loop-end g a k e s (omega arith) (omega arith) (omega arith)

  -- a loop over a part of the range does the same, if the turns outside do nothing
  loop_part : (g : ℕ → S → S) (a e b d : ℕ) (s : S) → a ≤ b → d ≤ e → ((i : ℕ) (t : S) → a ≤ i → i < e → (b ≤ i → i < d → ⊥) → f i t ≡ t) → ((i : ℕ) (t : S) → b ≤ i → i < d → g i t ≡ f i t)
      → loop g b d s ≡ loop f a e s
  loop_part g a e b d s p q idle same =
      by_cases (ltb d b)
      (λ t.
      let z = ltb-true d b t in
      outside g b d s (omega arith) ∙ sym (loop-idle a e s (λ i u k l. idle i u k l (λ x y. omega arith))))
      (λ t.
      let z = ltb-false d b t in
      sym
      (loop_split f a b e s p (omega arith)
      ∙ ap (loop f b e) (loop-idle a b s (λ i u k l. idle i u k (omega arith) (λ x y. omega arith)))
      ∙ loop_split f b d e s z q
      ∙ loop-idle d e (loop f b d s) (λ i u k l. idle i u (omega arith) l (λ x y. omega arith))
      ∙ sym (same-loop b d s same)))
    where
      outside : (g : ℕ → S → S) (b d : ℕ) (s : S) → d ≤ b → loop g b d s ≡ s
      outside g b d s h = loop_keeps g b (λ (t : S). t ≡ s) d (λ i t k l r. absurd (let z : ⊥ = omega arith in z)) s refl

      same-loop : (b d : ℕ) (s : S) → ((i : ℕ) (t : S) → b ≤ i → i < d → g i t ≡ f i t) → loop g b d s ≡ loop f b d s
      same-loop b d s h = sym (loop-same g b d s (λ i t k l. sym (h i t k l)))

module _ (s : Setup) (all : Bool) (map allowed stock near stock' near' : List ℕ) where
  -- a row of which no cell is wanted
  row-idle : (j : ℕ) (t : Sensed) → ((i : ℕ) → i < s.grid.nx → wanted_at s all allowed near (number s.grid.nx i j) ≡ false) → field_row s all map allowed stock near j t ≡ t
  unfolding field_row field_cell
  row-idle j t h = loop-idle (field_cell s all map allowed stock near j) 1 (s.grid.nx - 1) t (λ i u a b. rw (h i (omega arith)) refl)

  -- a row's cells in a window, by other squares that say the same of them; no other cell is wanted
  row_same : (w : Window) (j : ℕ) (t : Sensed) → ((i : ℕ) → Inside (columns_of w) i → value_at s map stock i j ≡ value_at s map stock' i j)
      → ((i : ℕ) → Inside (columns_of w) i → wanted_at s all allowed near (number s.grid.nx i j) ≡ wanted_at s all allowed near' (number s.grid.nx i j))
      → ((i : ℕ) → i < s.grid.nx → (Inside (columns_of w) i → ⊥) → wanted_at s all allowed near' (number s.grid.nx i j) ≡ false)
      → window_row s all map allowed stock near w j t ≡ field_row s all map allowed stock' near' j t
  unfolding window_row field_row field_cell
  row_same w j t v d o =
      loop_part (field_cell s all map allowed stock' near' j) (field_cell s all map allowed stock near j) 1 (s.grid.nx - 1) (max 1 w.left) (min w.right (s.grid.nx - 1)) t (omega arith) (omega arith)
      (λ i u a b n. rw (o i (omega arith) (λ I. let p = I.low in let q = I.high in n (omega arith) (omega arith))) refl)
      (λ i u a b. let I : Inside (columns_of w) i = record { low = omega arith; high = omega arith } in rw (v i I, d i I) refl)

-- the cells of a window, by squares that say of them what the others say
pub window_sweep : (s : Setup) (all : Bool) (map allowed stock near stock' near' : List ℕ) (w : Window) (t : Sensed)
    → ((i j : ℕ) → In w i j → value_at s map stock i j ≡ value_at s map stock' i j)
    → ((i j : ℕ) → In w i j → wanted_at s all allowed near (number s.grid.nx i j) ≡ wanted_at s all allowed near' (number s.grid.nx i j))
    → ((i j : ℕ) → i < s.grid.nx → j < s.grid.ny → (In w i j → ⊥) → wanted_at s all allowed near' (number s.grid.nx i j) ≡ false)
    → window_rows s all map allowed stock near w t ≡ field_rows s all map allowed stock' near' t
unfolding window_rows field_rows
window_sweep s all map allowed stock near stock' near' w t v d o =
    loop_part (field_row s all map allowed stock' near') (window_row s all map allowed stock near w) 1 (s.grid.ny - 1) (max 1 w.lo) (min w.hi (s.grid.ny - 1)) t (omega arith) (omega arith)
    (λ j u a b n. row-idle s all map allowed stock' near' stock near j u
    (λ i h. o i j h (omega arith) (λ I. let p = I.low in let q = I.high in n (omega arith) (omega arith))))
    (λ j u a b.
    let in_row : (i : ℕ) → Inside (columns_of w) i → In w i j = λ i I. record { low = omega arith; high = omega arith; left = I.low; right = I.high } in
    row_same s all map allowed stock near stock' near' w j u (λ i I. v i j (in_row i I)) (λ i I. d i j (in_row i I))
    (λ i h n. o i j h (omega arith) (λ I. n (record { low = I.left; high = I.right }))))

-- the loops that go through them
module _ (s : Setup) (all : Bool) (map allowed stock near : List ℕ) (w : Window) (first end : ℕ) (t u : Sensed) where
  pub row_is : (j : ℕ) → first ≡ max 1 w.left → end ≡ min w.right (s.grid.nx - 1) → u ≡ loop (field_cell s all map allowed stock near j) first end t → u ≡ window_row s all map allowed stock near w j t
  unfolding window_row
  row_is j F E e =
      e
      ∙ ap (λ (k : ℕ). loop (field_cell s all map allowed stock near j) k end t) F
      ∙ ap (λ (k : ℕ). loop (field_cell s all map allowed stock near j) (max 1 w.left) k t) E

  pub rows_are : first ≡ max 1 w.lo → end ≡ min w.hi (s.grid.ny - 1) → u ≡ loop (window_row s all map allowed stock near w) first end t → u ≡ window_rows s all map allowed stock near w t
  unfolding window_rows
  rows_are F E e =
      e
      ∙ ap (λ (k : ℕ). loop (window_row s all map allowed stock near w) k end t) F
      ∙ ap (λ (k : ℕ). loop (window_row s all map allowed stock near w) (max 1 w.lo) k t) E
