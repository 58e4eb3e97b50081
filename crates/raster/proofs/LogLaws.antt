-- What clearing with a log and undoing do to the map, the log and the count, of the definitions alone. Assumes nothing.
use Rattle.raster.specs.Disk.{Span}
use mathlib.Core.Path.{◌≡◌, refl, sym, ap, ◌∙◌, subst}
use mathlib.Core.List.{List, [], ◌∷◌}
use Prim.Native.Nat.{ℕ, zero, suc, ◌+◌, ◌-◌, ◌≤◌, ◌<◌}
use native.Mathlib.Omega.{arith}
use lib.ListN.{length, get_or, set, take, length-set, length-take}
use Rattle.std.proofs.lemmas.List.{get_or-take}
use lib.Seq.{get_or-set_same, get_or-set_other, set-set, set-get_or}
use lib.Dec.{eqb}
use lib.Ieee.{Float}
use borrow.Author.Tests.{eqb-true, eq-eqb, ne_eqb}
use Rattle.loops.specs.Loop.{turns, loop}
use Rattle.loops.specs.Cells.{ones}
use Rattle.loops.proofs.Cases.{by_test}
use Rattle.loops.proofs.CellLaws.{ones-set}
use Rattle.loops.proofs.LoopLaws.{loop_more, loop-none, loop_keeps, Going}
use Rattle.geom.specs.declared.vec2.Vec2.{Vec2}
use Rattle.raster.specs.Sweep.{over_span, crescent_at}
use Rattle.raster.specs.Log.{Stock, st, Ready, Logged, written, taken, clear_cell, clear_after, put_back, take_out, undone, redone}
use Rattle.raster.specs.declared.grid.Grid.{Grid}
use Rattle.raster.proofs.SweepLaws.{keep_run, keep_span, keep-crescent-rows, keep-crescent}

-- ---- one cell

-- what holds of the state with the cell taken, where it was stock, and of the state as it was, holds of the state after `clear_cell`
pub cell_cases : (P : Stock → Type 0) (k : ℕ) (t : Stock) → (get_or t.cells k 0 ≡ 1 → P (taken k t)) → P t → P (clear_cell k t)
unfolding clear_cell
cell_cases P k t f p = by_test P (eqb (get_or t.cells k 0) 1) (taken k t) t (λ e. f (eqb-true _ _ e)) (λ e. p)

-- ---- undoing

set_again : (l : List ℕ) (i j a : ℕ) → set (set l i a) j a ≡ set (set l j a) i a
set_again [] i j a = refl
set_again (x ∷ xs) zero zero a = refl
set_again (x ∷ xs) zero (suc j) a = refl
set_again (x ∷ xs) (suc i) zero a = refl
set_again (x ∷ xs) (suc i) (suc j) a = ap (λ (r : List ℕ). x ∷ r) (set_again xs i j a)

back-set : (l : List ℕ) (a n : ℕ) (m : List ℕ) (k : ℕ) → set (turns (put_back l) a n m) k 1 ≡ turns (put_back l) a n (set m k 1)
unfolding turns
back-set l a zero m k = refl
back-set l a (suc n) m k =
    set_again (turns (put_back l) a n m) (get_or l (a + n) 0) k 1 ∙ ap (λ (r : List ℕ). set r (get_or l (a + n) 0) 1) (back-set l a n m k)

-- to put back after a cell is set to 1 is to set it after
undone-set : (l : List ℕ) (a e : ℕ) (m : List ℕ) (k : ℕ) → set (undone l a e m) k 1 ≡ undone l a e (set m k 1)
unfolding undone loop
undone-set l a e m k = back-set l a (e - a) m k

back-log : (l : List ℕ) (a n : ℕ) (m : List ℕ) (i v : ℕ) → a + n ≤ i → turns (put_back (set l i v)) a n m ≡ turns (put_back l) a n m
unfolding turns
back-log l a zero m i v h = refl
back-log l a (suc n) m i v h =
    ap (λ (k : ℕ). set (turns (put_back (set l i v)) a n m) k 1) (get_or-set_other l i (a + n) v 0 (omega arith))
    ∙ ap (λ (r : List ℕ). set r (get_or l (a + n) 0) 1) (back-log l a n m i v (omega arith))

-- what is logged later does not matter
undone-log : (l : List ℕ) (a e : ℕ) (m : List ℕ) (i v : ℕ) → a ≤ e → e ≤ i → undone (set l i v) a e m ≡ undone l a e m
unfolding undone loop
undone-log l a e m i v h k = back-log l a (e - a) m i v (omega arith)

undone-none : (l : List ℕ) (a : ℕ) (m : List ℕ) → undone l a a m ≡ m
unfolding undone
undone-none l a m = sym (loop-none (put_back l) a m)

-- one more entry, the cell k that was stock
undone_more : (l m : List ℕ) (a n k : ℕ) → a ≤ n → n < length l → get_or m k 0 ≡ 1 → undone (set l n k) a (n + 1) (set m k 0) ≡ undone l a n m
unfolding undone
undone_more l m a n k h b e =
    sym (loop_more (put_back (set l n k)) a n (set m k 0) h)
    ∙ ap (λ (i : ℕ). set (undone (set l n k) a n (set m k 0)) i 1) (get_or-set_same l n k 0 b)
    ∙ ap (λ (r : List ℕ). set r k 1) (undone-log l a n (set m k 0) n k h (omega arith))
    ∙ undone-set l a n (set m k 0) k
    ∙ ap (λ (r : List ℕ). undone l a n r) (set-set m k 0 1 ∙ ap (λ (v : ℕ). set m k v) (sym e) ∙ set-get_or m k 0)

-- ---- clearing again

redo_log : (l : List ℕ) (a n : ℕ) (m : List ℕ) (i v : ℕ) → a + n ≤ i → turns (take_out (set l i v)) a n m ≡ turns (take_out l) a n m
unfolding turns
redo_log l a zero m i v h = refl
redo_log l a (suc n) m i v h =
    ap (λ (k : ℕ). set (turns (take_out (set l i v)) a n m) k 0) (get_or-set_other l i (a + n) v 0 (omega arith))
    ∙ ap (λ (r : List ℕ). set r (get_or l (a + n) 0) 0) (redo_log l a n m i v (omega arith))

redone-none : (l : List ℕ) (a : ℕ) (m : List ℕ) → redone l a a m ≡ m
unfolding redone
redone-none l a m = sym (loop-none (take_out l) a m)

-- one more entry, the cell k
redone_more : (l m : List ℕ) (a n k : ℕ) → a ≤ n → n < length l → redone (set l n k) a (n + 1) m ≡ set (redone l a n m) k 0
unfolding redone loop
redone_more l m a n k h b =
    sym (loop_more (take_out (set l n k)) a n m h)
    ∙ ap (λ (i : ℕ). set (turns (take_out (set l n k)) a (n - a) m) i 0) (get_or-set_same l n k 0 b)
    ∙ ap (λ (r : List ℕ). set r k 0) (redo_log l a (n - a) m n k (omega arith))

-- ---- what clearing keeps. `s` is the state at first, with room in its log, and `t` what any run of clearing leaves

pub record Kept (s t : Stock) : Type 0 where
  pub cells-long : length t.cells ≡ length s.cells
  pub log-long : length t.log ≡ length s.log
  pub more : s.count ≤ t.count
  -- the count grows by as many as are stock no more
  pub sum : t.count + ones t.cells ≡ s.count + ones s.cells
  -- undoing gives the map back
  pub back : undone t.log s.count t.count t.cells ≡ s.cells
  -- and clearing again what clearing left
  pub again : redone t.log s.count t.count s.cells ≡ t.cells

pub kept-none : (s : Stock) → Kept s s
kept-none s = record {
  cells-long = refl;
  log-long = refl;
  more = omega arith;
  sum = refl;
  back = undone-none s.log s.count s.cells;
  again = redone-none s.log s.count s.cells;
}

-- while a cell is stock the log has room
pub room-left : (s t : Stock) → Ready s → Kept s t → (k : ℕ) → get_or t.cells k 0 ≡ 1 → t.count < length t.log
room-left s t r h k e = omega (arith, ones-set t.cells k e, r.room, h.sum, h.log-long)

pub kept-taken : (s t : Stock) → Ready s → Kept s t → (k : ℕ) → get_or t.cells k 0 ≡ 1 → Kept s (taken k t)
kept-taken s t r h k e = record {
  cells-long = length-set t.cells k 0 ∙ h.cells-long;
  log-long = length-set t.log t.count k ∙ h.log-long;
  more = omega (arith, h.more);
  sum = omega (arith, ones-set t.cells k e, h.sum);
  back = undone_more t.log t.cells s.count t.count k h.more (room-left s t r h k e) e ∙ h.back;
  again = redone_more t.log s.cells s.count t.count k h.more (room-left s t r h k e) ∙ ap (λ (m : List ℕ). set m k 0) h.again;
}

pub kept-cell : (s : Stock) → Ready s → (k : ℕ) (t : Stock) → Kept s t → Kept s (clear_cell k t)
kept-cell s r k t h = cell_cases (Kept s) k t (kept-taken s t r h k) h

-- what each cleared cell keeps, a crescent keeps
pub keep-after : (P : Stock → Type 0) → ((k : ℕ) (t : Stock) → P t → P (clear_cell k t)) → (g : Grid) (prev c : Vec2) (r : Float) (t : Stock) → P t → P (clear_after g prev c r t)
unfolding clear_after
keep-after P each g prev c r t h = keep-crescent clear_cell P each g prev c r t h

-- ---- for the proofs of the code

pub st_eq : {m m' l l' : List ℕ} {n n' : ℕ} → m ≡ m' → l ≡ l' → n ≡ n' → st m l n ≡ st m' l' n'
st_eq p q r = λ i. record { cells = p i; log = q i; count = r i }

pub cell-taken : (k : ℕ) (s : Stock) → get_or s.cells k 0 ≡ 1 → taken k s ≡ clear_cell k s
unfolding clear_cell
cell-taken k s e = rw (eq-eqb (get_or s.cells k 0) 1 e)

pub cell-left : (k : ℕ) (s : Stock) → (get_or s.cells k 0 ≡ 1 → ⊥) → s ≡ clear_cell k s
unfolding clear_cell
cell-left k s e = rw (ne_eqb (get_or s.cells k 0) 1 e)

-- in a turn of `clear_run` the state is what clearing keeps
pub going_kept : (a e : ℕ) (s t : Stock) (k : ℕ) → Ready s → Going clear_cell a e s t k → Kept s t
going_kept a e s t k r g = subst (Kept s) (sym g.is) (keep_run clear_cell (Kept s) (kept-cell s r) a k s (kept-none s))

pub going_rows : (g : Grid) (prev c : Vec2) (rad : Float) (a e : ℕ) (s t : Stock) (k : ℕ) → Ready s → Going (crescent_at clear_cell g prev c rad) a e s t k → Kept s t
going_rows g prev c rad a e s t k r h = subst (Kept s) (sym h.is) (keep-crescent-rows clear_cell (Kept s) (kept-cell s r) g prev c rad a k s (kept-none s))

pub ready-kept : (s t : Stock) → Ready s → Kept s t → Ready t
ready-kept s t r h = record { room = omega (arith, r.room, h.sum, h.log-long); small = omega (arith, r.small, h.cells-long) }

pub span_kept : (base : ℕ) (p : Span) (s t : Stock) → Ready s → t ≡ over_span clear_cell base p s → Kept s t
span_kept base p s t r e = subst (Kept s) (sym e) (keep_span clear_cell (Kept s) (kept-cell s r) base p s (kept-none s))

pub undone-long : (l : List ℕ) (a e : ℕ) (m : List ℕ) → length (loop (put_back l) a e m) ≡ length m
undone-long l a e m = loop_keeps (put_back l) a (λ (r : List ℕ). length r ≡ length m) e (λ i r b c h. length-set r (get_or l i 0) 1 ∙ h) m refl

pub redone-long : (l : List ℕ) (a e : ℕ) (m : List ℕ) → length (loop (take_out l) a e m) ≡ length m
redone-long l a e m = loop_keeps (take_out l) a (λ (r : List ℕ). length r ≡ length m) e (λ i r b c h. length-set r (get_or l i 0) 0 ∙ h) m refl

-- ---- the logged cells as a slice of their own

-- the first n entries are written as from the whole log
turns-front : (l : List ℕ) (v n k : ℕ) (m : List ℕ) → k ≤ n → turns (written (take n l) v) 0 k m ≡ turns (written l v) 0 k m
unfolding turns
turns-front l v n zero m h = refl
turns-front l v n (suc k) m h =
    ap (λ (i : ℕ). set (turns (written (take n l) v) 0 k m) i v) (let b : 0 + k < n = omega arith in get_or-take n l (0 + k) 0 b)
    ∙ ap (λ (t : List ℕ). set t (get_or l (0 + k) 0) v) (turns-front l v n k m (omega arith))

written-front : (l : List ℕ) (v n : ℕ) (m : List ℕ) → n ≤ length l → loop (written (take n l) v) 0 (length (take n l)) m ≡ loop (written l v) 0 n m
unfolding loop
written-front l v n m h =
    ap (λ (k : ℕ). turns (written (take n l) v) 0 (k - 0) m) (let e : length (take n l) ≡ n = omega (arith, length-take n l) in e)
    ∙ turns-front l v n (n - 0) m (omega arith)

module _ (log : List ℕ) (n : ℕ) where
  pub undone-front : (k : ℕ) (m : List ℕ) → Logged log n k → undone (take n log) 0 (length (take n log)) m ≡ undone log 0 n m
  unfolding undone
  undone-front k m h = written-front log 1 n m h.within

  pub redone-front : (k : ℕ) (m : List ℕ) → Logged log n k → redone (take n log) 0 (length (take n log)) m ≡ redone log 0 n m
  unfolding redone
  redone-front k m h = written-front log 0 n m h.within

  pub front-long : (k : ℕ) → Logged log n k → n ≡ length (take n log)
  front-long k h = let w = h.within in omega (arith, length-take n log)

  pub logged-front : (k : ℕ) → Logged log n k → Logged (take n log) (length (take n log)) k
  logged-front k h = let w = h.within in let long : length (take n log) ≡ n = omega (arith, length-take n log) in
      record { within = omega arith; cell = λ i b. let c : i < n = omega arith in subst (λ (x : ℕ). x < k) (sym (get_or-take n log i 0 c)) (h.cell i c) }

pub le_same : {a n m : ℕ} → a ≤ n → m ≡ n → a ≤ m
le_same h e = omega arith
