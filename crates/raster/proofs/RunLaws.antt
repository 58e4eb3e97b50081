-- What a run of crescents with one growing log does: undoing gives the map back, clearing again what the run left, the count is what went, and the log lists
-- exactly the cells that went, each once. Assumes nothing.
use mathlib.Core.Path.{◌≡◌, refl, sym, ap, ◌∙◌}
use mathlib.Core.Logic.{◌⊎◌, inl, inr, ⊎_elim}
use mathlib.Core.List.{List, [], ◌∷◌}
use Prim.Native.Nat.{ℕ, ◌+◌, ◌-◌, ◌≤◌, ◌<◌, ◌^◌}
use native.Mathlib.Omega.{arith}
use lib.ListN.{length, get_or}
use lib.Seq.{get_or-set_same, get_or-set_other}
use lib.Dec.{eqb, ltb}
use borrow.Author.Tests.{eqb-true, eqb-false, ltb-true, ltb-false}
use Rattle.loops.specs.Cells.{ones}
use Rattle.loops.proofs.Cases.{by_cases}
use Rattle.loops.proofs.CellLaws.{below_length, ones_le}
use Rattle.raster.specs.Log.{Stock, st, Ready, Logged, taken, clear_cell, undone, redone, Cut, passes}
use Rattle.raster.specs.declared.grid.Grid.{Grid}
use Rattle.raster.proofs.LogLaws.{cell_cases, Kept, kept-none, kept-taken, kept-cell, keep-after, le_same, room-left}

-- ---- what each cleared cell keeps, a run of crescents keeps

module _ (P : Stock → Type 0) (each : (k : ℕ) (t : Stock) → P t → P (clear_cell k t)) where
  pub keep-passes : (g : Grid) (cs : List Cut) (t : Stock) → P t → P (passes g cs t)
  unfolding passes
  keep-passes g [] t h = h
  keep-passes g (c ∷ cs) t h = keep-passes g cs _ (keep-after P each g c.from c.to c.radius t h)

-- ---- undoing a run gives the map back, and clearing again what it left

pub kept-passes : (s : Stock) → Ready s → (g : Grid) (cs : List Cut) → Kept s (passes g cs s)
kept-passes s r g cs = keep-passes (Kept s) (kept-cell s r) g cs s (kept-none s)

pub undo_run : (m l : List ℕ) → Ready (st m l 0) → (g : Grid) (cs : List Cut)
    → undone (passes g cs (st m l 0)).log 0 (passes g cs (st m l 0)).count (passes g cs (st m l 0)).cells ≡ m
undo_run m l r g cs = (kept-passes (st m l 0) r g cs).back

pub redo_run : (m l : List ℕ) → Ready (st m l 0) → (g : Grid) (cs : List Cut)
    → redone (passes g cs (st m l 0)).log 0 (passes g cs (st m l 0)).count m ≡ (passes g cs (st m l 0)).cells
redo_run m l r g cs = (kept-passes (st m l 0) r g cs).again

-- a log as long as the map has room for any run
pub ready_for : (m l : List ℕ) → length m ≤ length l → length m ≤ 2 ^ 32 → Ready (st m l 0)
ready_for m l a b = record { room = omega (arith, ones_le m); small = b }

-- what went is what was stock before less what is stock after; the log's length and the standing cells add up to what they did
pub removed-run : (s : Stock) → Ready s → (g : Grid) (cs : List Cut) → (passes g cs s).count - s.count ≡ ones s.cells - ones (passes g cs s).cells
removed-run s r g cs = omega (arith, (kept-passes s r g cs).sum, (kept-passes s r g cs).more)

pub standing-run : (s : Stock) → Ready s → (g : Grid) (cs : List Cut) → (passes g cs s).count + ones (passes g cs s).cells ≡ s.count + ones s.cells
standing-run s r g cs = (kept-passes s r g cs).sum

-- ---- the log lists exactly the cells that went

pub record Logs (s t : Stock) : Type 0 where
  pub kept : Kept s t
  -- what was logged before stays
  pub front : (i : ℕ) → i < s.count → get_or t.log i 0 ≡ get_or s.log i 0
  -- each entry is a cell that was stock and is not now
  pub was : (i : ℕ) → s.count ≤ i → i < t.count → get_or s.cells (get_or t.log i 0) 0 ≡ 1
  pub gone : (i : ℕ) → s.count ≤ i → i < t.count → get_or t.cells (get_or t.log i 0) 0 ≡ 0
  -- no cell stands twice
  pub once : (i j : ℕ) → s.count ≤ i → i < j → j < t.count → get_or t.log i 0 ≡ get_or t.log j 0 → ⊥
  -- a cell is as it was, or an entry names it
  pub all : (k : ℕ) → (get_or t.cells k 0 ≡ get_or s.cells k 0) ⊎ ((i : ℕ) × (s.count ≤ i) × (i < t.count) × (get_or t.log i 0 ≡ k))

pub logs_none : (s : Stock) → Logs s s
logs_none s = record {
  kept = kept-none s;
  front = λ i h. refl;
  was = λ i h k. absurd (let z : ⊥ = omega arith in z);
  gone = λ i h k. absurd (let z : ⊥ = omega arith in z);
  once = λ i j h k l. absurd (let z : ⊥ = omega arith in z);
  all = λ k. inl refl;
}

module _ (s t : Stock) (r : Ready s) (h : Logs s t) (k : ℕ) (e : get_or t.cells k 0 ≡ 1) where
  room : t.count < length t.log
  room = room-left s t r h.kept k e

  old : (i : ℕ) → i < t.count → get_or (taken k t).log i 0 ≡ get_or t.log i 0
  old i b = get_or-set_other t.log t.count i k 0 (omega arith)

  new : get_or (taken k t).log t.count 0 ≡ k
  new = get_or-set_same t.log t.count k 0 room

  new_at : (i : ℕ) → i < t.count + 1 → t.count ≤ i → get_or (taken k t).log i 0 ≡ k
  new_at i a b = let z : i ≡ t.count = omega arith in ap (λ (j : ℕ). get_or (taken k t).log j 0) z ∙ new

  -- an old entry is not k, which is still stock
  other : (i : ℕ) → s.count ≤ i → i < t.count → get_or t.log i 0 ≡ k → ⊥
  other i a b z = let y : get_or t.cells k 0 ≡ 0 = ap (λ (j : ℕ). get_or t.cells j 0) (sym z) ∙ h.gone i a b in omega arith

  before : get_or s.cells k 0 ≡ 1
  before = ⊎_elim (λ z. sym z ∙ e) (λ w. absurd (other w.0 w.1 w.2 w.3)) (h.all k)

  was_more : (i : ℕ) → s.count ≤ i → i < t.count + 1 → get_or s.cells (get_or (taken k t).log i 0) 0 ≡ 1
  was_more i a b =
      by_cases (ltb i t.count)
      (λ z. ap (λ (j : ℕ). get_or s.cells j 0) (old i (ltb-true _ _ z)) ∙ h.was i a (ltb-true _ _ z))
      (λ z. ap (λ (j : ℕ). get_or s.cells j 0) (new_at i b (ltb-false _ _ z)) ∙ before)

  gone_more : (i : ℕ) → s.count ≤ i → i < t.count + 1 → get_or (taken k t).cells (get_or (taken k t).log i 0) 0 ≡ 0
  gone_more i a b =
      by_cases (ltb i t.count)
      (λ z. ap (λ (j : ℕ). get_or (taken k t).cells j 0) (old i (ltb-true _ _ z))
      ∙ get_or-set_other t.cells k (get_or t.log i 0) 0 0 (other i a (ltb-true _ _ z)) ∙ h.gone i a (ltb-true _ _ z))
      (λ z. ap (λ (j : ℕ). get_or (taken k t).cells j 0) (new_at i b (ltb-false _ _ z)) ∙ get_or-set_same t.cells k 0 0 (below_length t.cells k e))

  once_more : (i j : ℕ) → s.count ≤ i → i < j → j < t.count + 1 → get_or (taken k t).log i 0 ≡ get_or (taken k t).log j 0 → ⊥
  once_more i j a b d z =
      by_cases (ltb j t.count)
      (λ y. h.once i j a b (ltb-true _ _ y) (sym (old i (omega (arith, ltb-true j t.count y))) ∙ z ∙ old j (ltb-true _ _ y)))
      (λ y. other i a (omega arith) (sym (old i (omega arith)) ∙ z ∙ new_at j d (ltb-false _ _ y)))

  all_more : (q : ℕ) → (get_or (taken k t).cells q 0 ≡ get_or s.cells q 0) ⊎ ((i : ℕ) × (s.count ≤ i) × (i < t.count + 1) × (get_or (taken k t).log i 0 ≡ q))
  all_more q =
      by_cases (eqb q k)
      (λ z. inr (t.count, h.kept.more, omega arith, new ∙ sym (eqb-true _ _ z)))
      (λ z. ⊎_elim
      (λ y. inl (get_or-set_other t.cells k q 0 0 (eqb-false _ _ z) ∙ y))
      (λ w. inr (w.0, w.1, omega (arith, w.2), old w.0 w.2 ∙ w.3))
      (h.all q))

pub logs_cell : (s : Stock) → Ready s → (k : ℕ) (t : Stock) → Logs s t → Logs s (clear_cell k t)
logs_cell s r k t h =
    cell_cases (Logs s) k t
    (λ e. record {
      kept = kept-taken s t r h.kept k e;
      front = λ i b. get_or-set_other t.log t.count i k 0 (omega (arith, h.kept.more)) ∙ h.front i b;
      was = was_more s t r h k e;
      gone = gone_more s t r h k e;
      once = once_more s t r h k e;
      all = all_more s t r h k e;
    })
    h

pub logs_passes : (s : Stock) → Ready s → (g : Grid) (cs : List Cut) → Logs s (passes g cs s)
logs_passes s r g cs = keep-passes (Logs s) (logs_cell s r) g cs s (logs_none s)

-- a cell that was stock and is not now is an entry's
pub listed : (s t : Stock) → Logs s t → (k : ℕ) → get_or s.cells k 0 ≡ 1 → get_or t.cells k 0 ≡ 0
    → (i : ℕ) × (s.count ≤ i) × (i < t.count) × (get_or t.log i 0 ≡ k)
listed s t h k a b = ⊎_elim (λ z. absurd (let y : ⊥ = omega arith in y)) (λ w. w) (h.all k)

-- what `undo` requires after a run from an empty log
pub logged-run : (m l : List ℕ) → Ready (st m l 0) → (g : Grid) (cs : List Cut) → Logged (passes g cs (st m l 0)).log (passes g cs (st m l 0)).count (length (passes g cs (st m l 0)).cells)
logged-run m l r g cs =
    let h = logs_passes (st m l 0) r g cs in
    record {
      within = omega (arith, h.kept.sum, h.kept.log-long, r.room);
      cell = λ i b. le_same (below_length m _ (h.was i (omega arith) b)) h.kept.cells-long;
    }
