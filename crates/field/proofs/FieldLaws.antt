-- A sweep of the field keeps its length, and no more cells are sampled than are passed; what is not wanted is as it was. Assumes nothing.
use mathlib.Core.Path.{◌≡◌, refl, sym, ap, ◌∙◌, subst}
use mathlib.Core.Bool.{Bool, true, false, cond, true≢false}
use mathlib.Core.List.{List}
use Prim.Native.Nat.{min, ℕ, ◌+◌, ◌-◌, ◌*◌, ◌≤◌, ◌<◌, max}
use native.Mathlib.Omega.{arith}
use native.Mathlib.Nat.{add-mul}
use lib.ListN.{length, get_or, set, length-set, replicate, length-replicate, get_or-replicate}
use lib.Seq.{get_or-set_other}
use lib.Dec.{eqb}
use lib.Ieee.{Float, nan}
use Rattle.loops.specs.Loop.{loop}
use Rattle.loops.specs.Cells.{number}
use Rattle.loops.proofs.Cases.{by_cases}
use Rattle.loops.proofs.LoopLaws.{loop-end, loop_keeps, loop_both}
use Rattle.distance.specs.Nearest.{squares_of}
use Rattle.setup.specs.declared.Setup.{Setup}
use Rattle.dilation.specs.declared.window.Window.{Window}
use Rattle.field.specs.Bands.{window_row}
use Rattle.field.specs.Field.{value_at, wanted_at, Sensed, sensed, put_value, field_cell, field_row, field_rows, field_of}
use Rattle.field.specs.declared.gauge.Value.{Value}

-- the field is L long, and at most n cells of it were sampled
pub record Swept (L n : ℕ) (t : Sensed) : Type 0 where
  pub long : length t.field ≡ L
  pub few : t.sampled ≤ n

put_swept : (L n k : ℕ) (v : Float) (b : Bool) (t : Sensed) → Swept L n t → Swept L (n + 1) (sensed (set t.field k v) (cond b (t.sampled + 1) t.sampled))
put_swept L n k v true t s = record { long = length-set t.field k v ∙ s.long; few = omega (arith, s.few) }
put_swept L n k v false t s = record { long = length-set t.field k v ∙ s.long; few = omega (arith, s.few) }

cell_cases : (L n k : ℕ) (v : Value) (w : Bool) (t : Sensed) → Swept L n t → Swept L (n + 1) (cond w (put_value k v t) t)
unfolding put_value
cell_cases L n k v true t s = put_swept L n k v.v v.sampled t s
cell_cases L n k v false t s = record { long = s.long; few = omega (arith, s.few) }

module _ (s : Setup) (all : Bool) (map allowed stock near : List ℕ) (L : ℕ) where
  cell_swept : (j i n : ℕ) (t : Sensed) → Swept L n t → Swept L (n + 1) (field_cell s all map allowed stock near j i t)
  unfolding field_cell
  cell_swept j i n t h = cell_cases L n (number s.grid.nx i j) (value_at s map stock i j) (wanted_at s all allowed near (number s.grid.nx i j)) t h

  -- the cells of row j from cell a on, before cell k
  pub row-run : (j a k : ℕ) (t : Sensed) → a ≤ k → Swept L (j * s.grid.nx + a) t → Swept L (j * s.grid.nx + k) (loop (field_cell s all map allowed stock near j) a k t)
  row-run j a k t o h =
      loop_both (field_cell s all map allowed stock near j) (field_cell s all map allowed stock near j) (λ i u v. Swept L (j * s.grid.nx + i) u) a k o
      (λ i u v b c q. let z = cell_swept j i (j * s.grid.nx + i) u q in record { long = z.long; few = omega (arith, z.few) })
      t t h

  -- a row's cells from cell a on, before cell e
  cells_swept : (j a e : ℕ) (t : Sensed) → a ≤ s.grid.nx → e ≤ s.grid.nx → Swept L (j * s.grid.nx) t → Swept L ((j + 1) * s.grid.nx) (loop (field_cell s all map allowed stock near j) a e t)
  cells_swept j a e t p q h =
      let k = max a e in
      let z = row-run j a k t (omega arith) (record { long = h.long; few = omega (arith, h.few) }) in
      let r = subst (Swept L (j * s.grid.nx + k)) (loop-end (field_cell s all map allowed stock near j) a k e t (omega arith) (omega arith) (omega arith)) z in
      record { long = r.long; few = omega (arith, r.few, add-mul j 1 s.grid.nx) }

  -- rows that are gone through from row a on, before row k, each with at most its cells sampled
  rows_swept : (f : ℕ → Sensed → Sensed) → ((j : ℕ) (u : Sensed) → Swept L (j * s.grid.nx) u → Swept L ((j + 1) * s.grid.nx) (f j u))
      → (a k : ℕ) (t : Sensed) → a ≤ k → Swept L 0 t → Swept L (k * s.grid.nx) (loop f a k t)
  rows_swept f r a k t b h = loop_both f f (λ j u v. Swept L (j * s.grid.nx) u) a k b (λ j u v c d q. r j u q) t t (record { long = h.long; few = omega (arith, h.few) })

  pub rows_run : (a k : ℕ) (t : Sensed) → 0 < s.grid.nx → a ≤ k → Swept L 0 t → Swept L (k * s.grid.nx) (loop (field_row s all map allowed stock near) a k t)
  unfolding field_row
  rows_run a k t w b h = rows_swept (field_row s all map allowed stock near) (λ j u q. cells_swept j 1 (s.grid.nx - 1) u w (omega arith) q) a k t b h

  pub window_run : (w : Window) → w.left ≤ s.grid.nx → 0 < s.grid.nx → (a k : ℕ) (t : Sensed) → a ≤ k → Swept L 0 t → Swept L (k * s.grid.nx) (loop (window_row s all map allowed stock near w) a k t)
  unfolding window_row
  window_run w o p a k t b h =
      rows_swept (window_row s all map allowed stock near w) (λ j u q. cells_swept j (max 1 w.left) (min w.right (s.grid.nx - 1)) u (omega arith) (omega arith) q) a k t b h

  pub rows_long : (t : Sensed) → length t.field ≡ L → length (field_rows s all map allowed stock near t).field ≡ L
  unfolding field_rows field_row
  rows_long t h =
      let P : Sensed → Type 0 = λ u. length u.field ≡ L in
      loop_keeps (field_row s all map allowed stock near) 1 P (s.grid.ny - 1)
      (λ j u a b p. loop_keeps (field_cell s all map allowed stock near j) 1 P (s.grid.nx - 1)
      (λ i v c d q. (cell_swept j i v.sampled v (record { long = q; few = omega arith })).long) u p) t h

-- ---- a cell that is not wanted keeps its value

module _ (s : Setup) (all : Bool) (map allowed stock near : List ℕ) (k : ℕ) (h : wanted_at s all allowed near k ≡ false) where
  cell-kept : (x : Float) (j i : ℕ) (t : Sensed) → get_or t.field k nan ≡ x → get_or (field_cell s all map allowed stock near j i t).field k nan ≡ x
  unfolding field_cell put_value
  cell-kept x j i t e = by_cases (wanted_at s all allowed near (number s.grid.nx i j))
      (λ w. rw w (get_or-set_other t.field (number s.grid.nx i j) k _ nan (λ z. true≢false (sym w ∙ ap (wanted_at s all allowed near) (sym z) ∙ h)) ∙ e))
      (λ w. rw w e)

  pub rows-kept : (t : Sensed) → get_or (field_rows s all map allowed stock near t).field k nan ≡ get_or t.field k nan
  unfolding field_rows field_row
  rows-kept t =
      let x = get_or t.field k nan in
      let P : Sensed → Type 0 = λ u. get_or u.field k nan ≡ x in
      loop_keeps (field_row s all map allowed stock near) 1 P (s.grid.ny - 1)
      (λ j u a b p. loop_keeps (field_cell s all map allowed stock near j) 1 P (s.grid.nx - 1) (λ i v c d q. cell-kept x j i v q) u p) t refl

-- ---- of the field of a round

pub field-length : (s : Setup) (all : Bool) (map allowed stock dirty : List ℕ) (f : List Float) → length (field_of s all map allowed stock dirty f).field ≡ length f
unfolding field_of
field-length s true map allowed stock dirty f = rows_long s true map allowed stock (squares_of 1 dirty s.grid.nx s.grid.ny) (length f) (sensed (replicate (length f) nan) 0) (length-replicate (length f) nan)
field-length s false map allowed stock dirty f = rows_long s false map allowed stock (squares_of 1 dirty s.grid.nx s.grid.ny) (length f) (sensed f 0) refl

not_allowed : (s : Setup) (all : Bool) (allowed near : List ℕ) (k : ℕ) → eqb (get_or allowed k 0) 1 ≡ false → wanted_at s all allowed near k ≡ false
unfolding wanted_at
not_allowed s all allowed near k e = rw e refl

module _ (s : Setup) (map allowed stock dirty : List ℕ) (f : List Float) (k : ℕ) where
  -- where it is not worked out anew it is that of the last round
  pub field-kept : wanted_at s false allowed (squares_of 1 dirty s.grid.nx s.grid.ny) k ≡ false → get_or (field_of s false map allowed stock dirty f).field k nan ≡ get_or f k nan
  unfolding field_of
  field-kept h = rows-kept s false map allowed stock (squares_of 1 dirty s.grid.nx s.grid.ny) k h (sensed f 0)

  pub field_barred : eqb (get_or allowed k 0) 1 ≡ false → get_or (field_of s false map allowed stock dirty f).field k nan ≡ get_or f k nan
  field_barred e = field-kept (not_allowed s false allowed (squares_of 1 dirty s.grid.nx s.grid.ny) k e)

  -- and NaN where the tool may not go, when all is worked out anew
  pub field-none : eqb (get_or allowed k 0) 1 ≡ false → k < length f → get_or (field_of s true map allowed stock dirty f).field k nan ≡ nan
  unfolding field_of
  field-none e h =
      let near = squares_of 1 dirty s.grid.nx s.grid.ny in
      rows-kept s true map allowed stock near k (not_allowed s true allowed near k e) (sensed (replicate (length f) nan) 0) ∙ get_or-replicate (length f) k nan nan h
