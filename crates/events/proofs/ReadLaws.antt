-- Rows read one by one are the list that the slices hold: for every pair of slices `list_from` is `decode`. Assumes nothing.
use mathlib.Core.Path.{◌≡◌, refl, sym, ap, ◌∙◌, subst}
use mathlib.Core.Bool.{Bool, false, cond}
use mathlib.Core.List.{List, [], ◌∷◌}
use mathlib.Core.Option.{Option, none, some}
use Prim.Native.Nat.{ℕ, zero, suc, ◌+◌, ◌*◌, ◌/◌, ◌≤◌, ◌<◌}
use native.Mathlib.Omega.{arith}
use lib.ListN.{length, take, drop, get_or, length-take, length-drop}
use lib.Seq.{drop-cons}
use lib.Dec.{eqb, ltb}
use lib.Ieee.{Float, nan}
use borrow.Author.Tests.{ltb-true, ltb-false, le-leb, lt-leb, eqb-true, eqb-false}
use Rattle.loops.proofs.Cases.{by_cases}
use Rattle.events.specs.Chunk.{Chunk}
use Rattle.events.specs.Lent.{Triple, single, read_rows, read_triples, chunk_of, chunk_at, push, read_chunks, decode, Holds}
use Rattle.events.specs.Read.{read_one, read_whole, read_at, meant, list_from}
use Rattle.std.specs.Prelude.{Some, None}
use Rattle.events.specs.declared.list.Read.TheVariants.{Cut}
use Rattle.events.proofs.LentLaws.{holds-decode, holds-long}

-- a rest of one or two counts for none
count-triples : (ts : List Float) → length (read_triples ts) ≡ length ts / 3
unfolding read_triples
count-triples [] = refl
count-triples (x ∷ []) = refl
count-triples (x ∷ y ∷ []) = refl
count-triples (x ∷ y ∷ v ∷ l) = omega (arith, count-triples l)

-- triple n, by the numbers of the slice
abbrev triple_by : List Float → ℕ → Triple
triple_by ts n = record { x = get_or ts (n * 3) nan; y = get_or ts (n * 3 + 1) nan; value = get_or ts (n * 3 + 2) nan }

triple_eq : {a a' b b' c c' : Float} → a ≡ a' → b ≡ b' → c ≡ c' → ◌≡◌ {A = List Triple} (record { x = a; y = b; value = c } ∷ []) (record { x = a'; y = b'; value = c' } ∷ [])
triple_eq p q r = λ i. record { x = p i; y = q i; value = r i } ∷ []

one_triple : (ts : List Float) (n : ℕ) → n < length (read_triples ts) → take 1 (drop n (read_triples ts)) ≡ triple_by ts n ∷ []
unfolding read_triples
one_triple [] n h = absurd (let z : ⊥ = omega arith in z)
one_triple (x ∷ []) n h = absurd (let z : ⊥ = omega arith in z)
one_triple (x ∷ y ∷ []) n h = absurd (let z : ⊥ = omega arith in z)
one_triple (x ∷ y ∷ v ∷ l) zero h = refl
one_triple (x ∷ y ∷ v ∷ l) (suc n) h =
    one_triple l n (omega arith)
    ∙ triple_eq (here (n * 3) (suc n * 3) (omega arith)) (here (n * 3 + 1) (suc n * 3 + 1) (omega arith)) (here (n * 3 + 2) (suc n * 3 + 2) (omega arith))
  where
    here : (i k : ℕ) → suc (suc (suc i)) ≡ k → get_or l i nan ≡ get_or (x ∷ y ∷ v ∷ l) k nan
    here i k e = ap (λ (q : ℕ). get_or (x ∷ y ∷ v ∷ l) q nan) e

-- ---- one row

single-none : (f : Triple → Chunk) (l : List Triple) → (length l ≡ 1 → ⊥) → none ≡ single f l
single-none f [] h = refl
single-none f (t ∷ []) h = absurd (h refl)
single-none f (t ∷ u ∷ l) h = refl

-- a kind of one triple that has another count
not_one : (kind : ℕ) (l : List Triple) → eqb kind 4 ≡ false → (length l ≡ 1 → ⊥) → none ≡ chunk_of kind l
unfolding chunk_of
not_one kind l d h =
    by_cases (eqb kind 1)
    (λ e. rw e (single-none _ l h))
    (λ e. by_cases (eqb kind 2)
    (λ f. rw (e, f) (single-none _ l h))
    (λ f. by_cases (eqb kind 3) (λ g. rw (e, f, g) (single-none _ l h)) (λ g. rw (e, f, g, d))))

one : (ts : List Float) (kind first : ℕ) → eqb kind 4 ≡ false → meant ts (read_one ts kind first) ≡ chunk_of kind (triple_by ts first ∷ [])
unfolding read_one chunk_of
one ts kind first d =
    by_cases (eqb kind 1)
    (λ e. rw e)
    (λ e. by_cases (eqb kind 2) (λ f. rw (e, f)) (λ f. by_cases (eqb kind 3) (λ g. rw (e, f, g)) (λ g. rw (e, f, g, d))))

part_long : (ts : List Triple) (first count : ℕ) → first + count ≤ length ts → length (take count (drop first ts)) ≡ count
part_long ts first count h = omega (arith, length-take count (drop first ts), length-drop first ts)

-- a row whose triples are there
fitting : (ts : List Float) (kind first count : ℕ) → first + count ≤ length (read_triples ts)
    → meant ts (cond (eqb kind 4) (Some (Cut first count)) (cond (eqb count 1) (read_one ts kind first) None)) ≡ chunk_of kind (take count (drop first (read_triples ts)))
fitting ts kind first count h =
    by_cases (eqb kind 4)
    (λ e. subst (λ (k : ℕ). meant ts (cond (eqb k 4) (Some (Cut first count)) (cond (eqb count 1) (read_one ts k first) None)) ≡ chunk_of k (take count (drop first (read_triples ts))))
    (sym (eqb-true kind 4 e)) (unfold chunk_of in refl))
    (λ e. ap (λ (b : Bool). meant ts (cond b (Some (Cut first count)) (cond (eqb count 1) (read_one ts kind first) None))) e
    ∙ by_cases (eqb count 1)
    (λ d. ap (λ (b : Bool). meant ts (cond b (read_one ts kind first) None)) d
    ∙ one ts kind first e
    ∙ ap (chunk_of kind) (sym (one_triple ts first (omega (arith, eqb-true count 1 d))) ∙ ap (λ (n : ℕ). take n (drop first (read_triples ts))) (sym (eqb-true count 1 d))))
    (λ d. ap (λ (b : Bool). meant ts (cond b (read_one ts kind first) None)) d
    ∙ not_one kind (take count (drop first (read_triples ts))) e (λ z. eqb-false count 1 d (sym (part_long (read_triples ts) first count h) ∙ z))))

read_is : (ts : List Float) (kind first count : ℕ) → meant ts (read_whole ts kind first count) ≡ chunk_at (record { kind = kind; first = first; count = count }) (read_triples ts)
unfolding read_whole chunk_at
read_is ts kind first count =
    by_cases (ltb (length ts / 3) (first + count))
    (λ e. rw (e, lt-leb (first + count) (length (read_triples ts)) (omega (arith, ltb-true (length ts / 3) (first + count) e, count-triples ts))))
    (λ e. let h : first + count ≤ length (read_triples ts) = omega (arith, ltb-false (length ts / 3) (first + count) e, count-triples ts) in
    rw (e, le-leb (first + count) (length (read_triples ts)) h) (fitting ts kind first count h))

-- ---- all rows

drop_three : (l : List ℕ) (k : ℕ) → k * 3 + 3 ≤ length l → drop (k * 3) l ≡ get_or l (k * 3) 0 ∷ get_or l (k * 3 + 1) 0 ∷ get_or l (k * 3 + 2) 0 ∷ drop (suc k * 3) l
drop_three l k h =
    drop-cons l (k * 3) 0 (omega arith)
    ∙ ap (λ (r : List ℕ). get_or l (k * 3) 0 ∷ r) (ap (λ (i : ℕ). drop i l) (let z : suc (k * 3) ≡ k * 3 + 1 = omega arith in z) ∙ drop-cons l (k * 3 + 1) 0 (omega arith))
    ∙ ap (λ (r : List ℕ). get_or l (k * 3) 0 ∷ get_or l (k * 3 + 1) 0 ∷ r) (ap (λ (i : ℕ). drop i l) (let z : suc (k * 3 + 1) ≡ k * 3 + 2 = omega arith in z) ∙ drop-cons l (k * 3 + 2) 0 (omega arith))
    ∙ ap (λ (i : ℕ). get_or l (k * 3) 0 ∷ get_or l (k * 3 + 1) 0 ∷ get_or l (k * 3 + 2) 0 ∷ drop i l) (let z : suc (k * 3 + 2) ≡ suc k * 3 = omega arith in z)

module _ (rows : List ℕ) (ts : List Float) where
  list_rows : (n k : ℕ) → (k + n) * 3 ≤ length rows → list_from rows ts k n ≡ read_chunks (read_rows n (drop (k * 3) rows)) (read_triples ts)
  unfolding list_from read_chunks read_rows read_at
  list_rows zero k h = refl
  list_rows (suc n) k h =
      ap (λ (o : Option Chunk). push o (list_from rows ts (suc k) n)) (read_is ts (get_or rows (k * 3) 0) (get_or rows (k * 3 + 1) 0) (get_or rows (k * 3 + 2) 0))
      ∙ ap (push (chunk_at (record { kind = get_or rows (k * 3) 0; first = get_or rows (k * 3 + 1) 0; count = get_or rows (k * 3 + 2) 0 }) (read_triples ts))) (list_rows n (suc k) (omega arith))
      ∙ sym (ap (λ (l : List ℕ). read_chunks (read_rows (suc n) l) (read_triples ts)) (drop_three rows k (omega arith)))

  -- for all slices: rows read one by one are the list read as a whole
  pub decode_list : (n : ℕ) → n * 3 ≤ length rows → decode n rows ts ≡ list_from rows ts 0 n
  unfolding decode
  decode_list n h =
      ap (λ (b : Bool). cond b (read_chunks (read_rows n rows) (read_triples ts)) none) (le-leb (n * 3) (length rows) h) ∙ sym (list_rows n 0 (omega arith))

  -- and of slices that hold a list they are that list
  pub holds_read : (cs : List Chunk) → Holds rows ts cs → list_from rows ts 0 (length cs) ≡ some cs
  holds_read cs h = sym (decode_list (length cs) (holds-long rows ts cs h)) ∙ holds-decode rows ts cs h
