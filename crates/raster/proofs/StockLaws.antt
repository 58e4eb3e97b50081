-- Counting and clearing on the map: what is removed is what is stock no more. Assumes nothing.
use Rattle.std.specs.Prelude.{◌==◌}
use Rattle.std.specs.List.{count_by}
use Rattle.std.proofs.lemmas.List.Recursion.{is_sum_by}
use Rattle.std.specs.Prelude.{None, Some}
use Rattle.raster.specs.Disk.{Span}
use mathlib.Core.Bool.{Bool, cond}
use mathlib.Core.Path.{◌≡◌, refl, sym, ap, ◌∙◌, subst}
use mathlib.Core.List.{List, [], ◌∷◌, ◌++◌}
use Prim.Native.Nat.{ℕ, zero, suc, ◌+◌, ◌-◌, ◌≤◌, ◌<◌}
use native.Mathlib.Omega.{arith}
use native.Mathlib.Numerals.{add-one}
use lib.ListN.{length, get_or, set, take, drop, length-set, length-take, length-drop, take-append-drop}
use borrow.Rule.Slice.PartMut.{put_mid}
use Rattle.std.proofs.lemmas.List.{get_or-drop, get_or_append_left, get_or-append_right, set-append_left, set-append_right}
use lib.Seq.{take_all}
use lib.Dec.{eqb}
use lib.Ieee.{Float}
use borrow.Author.Tests.{eqb-true, eq-eqb, ne_eqb}
use Rattle.loops.specs.Loop.{turns, loop}
use Rattle.loops.specs.Cells.{bit, ones}
use Rattle.loops.proofs.Cases.{by_test}
use Rattle.loops.proofs.CellLaws.{ones-set, ones_le}
use Rattle.loops.proofs.LoopLaws.{Going, loop_keeps}
use Rattle.geom.specs.declared.vec2.Vec2.{Vec2}
use Rattle.raster.specs.Sweep.{over_span, disk_at, Inside, cells_of}
use Rattle.raster.specs.Stock.{Cleared, cl, dropped, drop_cell, clear_disk, Fair, tally, keep_cell}
use Rattle.raster.specs.declared.grid.Grid.{Grid}
use Rattle.raster.proofs.RowLaws.{InRow}
use Rattle.raster.proofs.SweepLaws.{cells-lie, span-cells, keep_run, keep-disk-rows, keep-disk}

-- ---- counting

-- the cells that are stock, as the library counts them
pub ones-count : (m : List ℕ) → ones m ≡ count_by (λ x. x == 1) m
unfolding ones
ones-count m = is_sum_by ones bit refl (λ x xs. refl) m

pub bit-one : (x : ℕ) → x ≡ 1 → bit x ≡ 1
bit-one x e = rw (eq-eqb x 1 e)

pub bit-none : (x : ℕ) → (x ≡ 1 → ⊥) → bit x ≡ 0
bit-none x e = rw (ne_eqb x 1 e)

-- one more cell of the map
more_taken : (m : List ℕ) (k : ℕ) → k < length m → ones (take (suc k) m) ≡ ones (take k m) + bit (get_or m k 0)
unfolding ones
more_taken [] k h = absurd (let z : ⊥ = omega arith in z)
more_taken (x ∷ xs) zero h = omega arith
more_taken (x ∷ xs) (suc k) h = omega (arith, more_taken xs k (let z : k < length xs = omega arith in z))

pub ones-take : (m : List ℕ) (k : ℕ) → k < length m → ones (take (k + 1) m) ≡ ones (take k m) + bit (get_or m k 0)
ones-take m k h = ap (λ (n : ℕ). ones (take n m)) (add-one k) ∙ more_taken m k h

pub count-one : (m : List ℕ) (k n : ℕ) → k < length m → n ≡ ones (take k m) → get_or m k 0 ≡ 1 → n + 1 ≡ ones (take (k + 1) m)
count-one m k n h e d = omega (arith, ones-take m k h, bit-one (get_or m k 0) d)

pub count_none : (m : List ℕ) (k n : ℕ) → k < length m → n ≡ ones (take k m) → (get_or m k 0 ≡ 1 → ⊥) → n ≡ ones (take (k + 1) m)
count_none m k n h e d = omega (arith, ones-take m k h, bit-none (get_or m k 0) d)

pub count_most : (m : List ℕ) (k n : ℕ) → n ≡ ones (take k m) → n ≤ k
count_most m k n e = omega (arith, ones_le (take k m), length-take k m)

pub count-all : (m : List ℕ) (k n : ℕ) → length m ≤ k → n ≡ ones (take k m) → n ≡ ones m
count-all m k n h e = e ∙ ap ones (take_all k m h)

bit_le : (x : ℕ) → bit x ≤ 1
bit_le x = by_test (λ (n : ℕ). n ≤ 1) (eqb x 1) 1 0 (λ t. omega arith) (λ t. omega arith)

pub tally-one : (m : List ℕ) (k n : ℕ) → get_or m k 0 ≡ 1 → n + 1 ≡ tally m k n
unfolding tally
tally-one m k n e = omega (arith, bit-one (get_or m k 0) e)

pub tally-none : (m : List ℕ) (k n : ℕ) → (get_or m k 0 ≡ 1 → ⊥) → n ≡ tally m k n
unfolding tally
tally-none m k n e = omega (arith, bit-none (get_or m k 0) e)

turns-most : (m : List ℕ) (a n c : ℕ) → turns (tally m) a n c ≤ c + n
unfolding turns tally
turns-most m a zero c = omega arith
turns-most m a (suc n) c = omega (arith, turns-most m a n c, bit_le (get_or m (a + n) 0))

-- what turns count is what the cells hold as a slice of their own
turns-tally : (m : List ℕ) (a n c : ℕ) → a + n ≤ length m → turns (tally m) a n c ≡ c + ones (take n (drop a m))
unfolding turns tally ones
turns-tally m a zero c h = omega arith
turns-tally m a (suc n) c h =
    let one = more_taken (drop a m) n (omega (arith, length-drop a m)) in
    let at = get_or-drop a m n 0 in
    omega (arith, turns-tally m a n c (omega arith), ap bit at, one)

pub span-counted : (m : List ℕ) (base n : ℕ) (p : Span) (s : ℕ × ℕ) (c : ℕ) → Inside base (length m) p → s ≡ cells_of base p → c ≡ ones (take (s.1 - s.0) (drop s.0 m)) → n + c ≡ over_span (tally m) base p n
unfolding loop
span-counted m base n p s c h e k =
    let w = cells-lie base (length m) p s e h in
    span-cells (tally m) base p s n (n + c) e (ap (λ (x : ℕ). n + x) k ∙ sym (turns-tally m s.0 (s.1 - s.0) n (omega (arith, w.0, w.1))))

-- no more is counted than there are cells
pub run-most : (m : List ℕ) (a e c : ℕ) → loop (tally m) a e c ≤ c + (e - a)
unfolding loop
run-most m a e c = turns-most m a (e - a) c

pub span_most : (m : List ℕ) (base nx c : ℕ) (p : Span) → InRow nx p → over_span (tally m) base p c ≤ c + nx
unfolding over_span
span_most m base nx c None h = omega arith
span_most m base nx c (Some (a, b)) h = omega (arith, run-most m (base + a) (base + b + 1) c, h.1)

-- nor in the rows so far
pub row-most : (m : List ℕ) (base nx n n' : ℕ) (p : Span) → InRow nx p → n ≤ base → n' ≡ over_span (tally m) base p n → n' ≤ base + nx
row-most m base nx n n' p h k e = omega (arith, span_most m base nx n p h)

-- ---- clearing

-- what holds of the state with the cell dropped, where it was stock, and of the state as it was, holds of the state after `drop_cell`
pub drop_cases : (P : Cleared → Type 0) (k : ℕ) (t : Cleared) → (get_or t.cells k 0 ≡ 1 → P (dropped k t)) → P t → P (drop_cell k t)
unfolding drop_cell
drop_cases P k t f p = by_test P (eqb (get_or t.cells k 0) 1) (dropped k t) t (λ e. f (eqb-true _ _ e)) (λ e. p)

-- `s` is the state at first, and `t` what any clearing leaves
pub record Left (s t : Cleared) : Type 0 where
  pub long : length t.cells ≡ length s.cells
  -- as many are removed as are stock no more
  pub sum : t.removed + ones t.cells ≡ s.removed + ones s.cells

pub left-none : (s : Cleared) → Left s s
left-none s = record { long = refl; sum = refl }

pub left-cell : (s : Cleared) (k : ℕ) (t : Cleared) → Left s t → Left s (drop_cell k t)
left-cell s k t h =
    drop_cases (Left s) k t
    (λ e. record {
      long = length-set t.cells k 0 ∙ h.long;
      sum = omega (arith, ones-set t.cells k e, h.sum);
    })
    h

pub fair_left : (s t : Cleared) → Fair s → Left s t → Fair t
fair_left s t f h = record { most = omega (arith, f.most, h.sum, h.long) }

pub fair_none : (m : List ℕ) → Fair (cl m 0)
fair_none m = record { most = omega (arith, ones_le m) }

pub cl_eq : {m m' : List ℕ} {n n' : ℕ} → m ≡ m' → n ≡ n' → cl m n ≡ cl m' n'
cl_eq p q = λ i. record { cells = p i; removed = q i }

turns-left : (s : Cleared) (k : ℕ) → Left s (turns drop_cell 0 k s)
unfolding turns
turns-left s zero = left-none s
turns-left s (suc k) = left-cell s (0 + k) (turns drop_cell 0 k s) (turns-left s k)

-- ---- cells cleared as a slice of their own

module _ (a : ℕ) (front rest : List ℕ) (A : length front ≡ a) where
  -- n cells and those of t that were cleared, with t's cells between the others of the map
  abbrev with : ℕ → Cleared → Cleared
  with n t = cl (front ++ (t.cells ++ rest)) (n + t.removed)

  with-drop : (n k : ℕ) (t : Cleared) → k < length t.cells → with n (drop_cell k t) ≡ drop_cell (a + k) (with n t)
  unfolding drop_cell
  with-drop n k t h =
      let q : a ≤ a + k = omega arith in
      let at : get_or (front ++ (t.cells ++ rest)) (a + k) 0 ≡ get_or t.cells k 0 =
      get_or-append_right front (t.cells ++ rest) a (a + k) 0 A q ∙ ap (λ (i : ℕ). get_or (t.cells ++ rest) i 0) (let z : a + k - a ≡ k = omega arith in z) ∙ get_or_append_left t.cells rest 0 k h in
      let put : set (front ++ (t.cells ++ rest)) (a + k) 0 ≡ front ++ (set t.cells k 0 ++ rest) =
      set-append_right front (t.cells ++ rest) a (a + k) 0 A q ∙ ap (λ (i : ℕ). front ++ set (t.cells ++ rest) i 0) (let z : a + k - a ≡ k = omega arith in z) ∙ ap (λ (l : List ℕ). front ++ l) (set-append_left t.cells rest k 0 h) in
      by_test (λ (u : Cleared). with n u ≡ cond (eqb (get_or (front ++ (t.cells ++ rest)) (a + k) 0) 1) (dropped (a + k) (with n t)) (with n t)) (eqb (get_or t.cells k 0) 1) (dropped k t) t
      (λ e. sym (ap (λ (x : ℕ). cond (eqb x 1) (dropped (a + k) (with n t)) (with n t)) at ∙ ap (λ (b : Bool). cond b (dropped (a + k) (with n t)) (with n t)) e ∙ cl_eq put (omega arith)))
      (λ e. sym (ap (λ (x : ℕ). cond (eqb x 1) (dropped (a + k) (with n t)) (with n t)) at ∙ ap (λ (b : Bool). cond b (dropped (a + k) (with n t)) (with n t)) e))

  with-turns : (n k : ℕ) (t : Cleared) → k ≤ length t.cells → with n (turns drop_cell 0 k t) ≡ turns drop_cell a k (with n t)
  unfolding turns
  with-turns n zero t h = refl
  with-turns n (suc k) t h =
      let u = turns drop_cell 0 k t in
      let long : length u.cells ≡ length t.cells = (turns-left t k).long in
      with-drop n (0 + k) u (omega arith) ∙ ap (λ (i : ℕ). drop_cell i (with n u)) (let z : a + (0 + k) ≡ a + k = omega arith in z) ∙ ap (drop_cell (a + k)) (with-turns n k t (omega arith))

-- what comes back of a slice of the map's cells that was cleared is what turns over them leave
pub span-cleared : (m : List ℕ) (base n : ℕ) (p : Span) (s : ℕ × ℕ) (cells : List ℕ) (c : ℕ) → Inside base (length m) p → s ≡ cells_of base p
    → cl cells c ≡ loop drop_cell 0 (length (take (s.1 - s.0) (drop s.0 m))) (cl (take (s.1 - s.0) (drop s.0 m)) 0) → cl (put_mid s.0 (s.1 - s.0) m cells) (n + c) ≡ over_span drop_cell base p (cl m n)
unfolding loop
span-cleared m base n p s cells c h e k =
    let w = cells-lie base (length m) p s e h in
    let a = s.0 in
    let q = s.1 - s.0 in
    let part = take q (drop a m) in
    let rest = drop q (drop a m) in
    let long : length part ≡ q = omega (arith, length-take q (drop a m), length-drop a m, w.0, w.1) in
    let front : length (take a m) ≡ a = omega (arith, length-take a m, w.0, w.1) in
    span-cells drop_cell base p s (cl m n) (cl (put_mid a q m cells) (n + c)) e
    (ap (λ (t : Cleared). with a (take a m) rest front n t) (k ∙ ap (λ (x : ℕ). turns drop_cell 0 x (cl part 0)) (let z : length part - 0 ≡ q = omega arith in z))
    ∙ with-turns a (take a m) rest front n q (cl part 0) (omega arith)
    ∙ ap (turns drop_cell a q) (cl_eq (ap (λ (l : List ℕ). take a m ++ l) (take-append-drop q (drop a m)) ∙ take-append-drop a m) (omega arith)))

-- removed is what was stock before less what is stock after
pub clear-disk-left : (g : Grid) (c : Vec2) (r : Float) (m : List ℕ) → Left (cl m 0) (clear_disk g c r m)
unfolding clear_disk
clear-disk-left g c r m = keep-disk drop_cell (Left (cl m 0)) (left-cell (cl m 0)) g c r (cl m 0) (left-none (cl m 0))

pub clear-disk-removed : (g : Grid) (c : Vec2) (r : Float) (m : List ℕ) → (clear_disk g c r m).removed ≡ ones m - ones (clear_disk g c r m).cells
clear-disk-removed g c r m = omega (arith, (clear-disk-left g c r m).sum)

-- ---- for the proofs of the code

pub drop-taken : (k : ℕ) (s : Cleared) → get_or s.cells k 0 ≡ 1 → dropped k s ≡ drop_cell k s
unfolding drop_cell
drop-taken k s e = rw (eq-eqb (get_or s.cells k 0) 1 e)

pub drop_passed : (k : ℕ) (s : Cleared) → (get_or s.cells k 0 ≡ 1 → ⊥) → s ≡ drop_cell k s
unfolding drop_cell
drop_passed k s e = rw (ne_eqb (get_or s.cells k 0) 1 e)

pub going_left : (a e : ℕ) (s t : Cleared) (k : ℕ) → Going drop_cell a e s t k → Left s t
going_left a e s t k g = subst (Left s) (sym g.is) (keep_run drop_cell (Left s) (left-cell s) a k s (left-none s))

pub going_rows_left : (g : Grid) (c : Vec2) (r : Float) (a e : ℕ) (s t : Cleared) (k : ℕ) → Going (disk_at drop_cell g c r) a e s t k → Left s t
going_rows_left g c r a e s t k h = subst (Left s) (sym h.is) (keep-disk-rows drop_cell (Left s) (left-cell s) g c r a k s (left-none s))

-- ---- a map intersected with another

pub kept-one : (o : List ℕ) (k : ℕ) (m : List ℕ) → get_or o k 0 ≡ 1 → m ≡ keep_cell o k m
unfolding keep_cell
kept-one o k m e = rw (eq-eqb (get_or o k 0) 1 e)

pub kept_not : (o : List ℕ) (k : ℕ) (m : List ℕ) → (get_or o k 0 ≡ 1 → ⊥) → set m k 0 ≡ keep_cell o k m
unfolding keep_cell
kept_not o k m e = rw (ne_eqb (get_or o k 0) 1 e)

pub keep-long : (o : List ℕ) (a e : ℕ) (m : List ℕ) → length (loop (keep_cell o) a e m) ≡ length m
keep-long o a e m =
    loop_keeps (keep_cell o) a (λ (r : List ℕ). length r ≡ length m) e (λ i r b c h. keeps i r h) m refl
  where
    keeps : (i : ℕ) (r : List ℕ) → length r ≡ length m → length (keep_cell o i r) ≡ length m
    keeps i r h = unfold keep_cell in (by_test (λ (q : List ℕ). length q ≡ length m) (eqb (get_or o i 0) 1) r (set r i 0) (λ t. h) (λ t. length-set r i 0 ∙ h))
