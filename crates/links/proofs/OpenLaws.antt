-- The open list: `insert` keeps it in order and adds one entry, and the first of a list in order is a least of it. Counts decide both. Assumes nothing.
use mathlib.Core.Path.{◌≡◌, refl, sym, ap, ◌∙◌}
use mathlib.Core.Bool.{Bool, true, false, cond, not}
use mathlib.Core.List.{List, [], ◌∷◌}
use Prim.Native.Nat.{ℕ, zero, suc, ◌+◌, ◌≤◌, ◌<◌}
use native.Mathlib.Omega.{arith}
use lib.Dec.{T, eqb}
use lib.ListN.{length}
use lib.Ieee.{binary64, fits}
use borrow.Author.Tests.{eqb-true, eqb-false, not-false}
use Rattle.loops.proofs.Cases.{by_cases}
use Rattle.links.specs.declared.heap.Entry.{Entry}
use Rattle.links.specs.Heap.{before_of, insert, one, count, count_to, Sorted, none, first}
use Rattle.links.proofs.RankLaws.{told}
use Rattle.links.proofs.OrderLaws.{before_same, before-once, not_before, one_entry}

-- by whether i is k
pub which : {A : Type 0} (i k : ℕ) → (i ≡ k → A) → ((i ≡ k → ⊥) → A) → A
which i k f g = by_cases (eqb i k) (λ d. f (eqb-true i k d)) (λ d. g (eqb-false i k d))

-- ---- counts of a list

none_passes : (t : Bool) → ◌≡◌ {A = ℕ} (cond t 1 0) 0 → t ≡ false
none_passes true e = absurd (let z : ⊥ = omega arith in z)
none_passes false e = refl

pub one-fails : (p : Entry → Bool) (e : Entry) → p e ≡ false → one p e ≡ 0
one-fails p e h = rw h

-- an estimate that is no f64
pub unfit : Entry → Bool
unfit e = not (fits binary64 e.est)

pub fit_one : (e : Entry) → unfit e ≡ false → T (fits binary64 e.est)
unfolding unfit
fit_one e h = told (not-false (fits binary64 e.est) h)

pub fit_not : (e : Entry) → T (fits binary64 e.est) → unfit e ≡ false
unfolding unfit
fit_not e h = go (fits binary64 e.est) h
  where
    go : (b : Bool) → T b → not b ≡ false
    go true h = refl
    go false h = absurd h

-- insert keeps what was there and adds e
pub count-insert : (p : Entry → Bool) (e : Entry) (l : List Entry) → count p (insert e l) ≡ one p e + count p l
unfolding insert count
count-insert p e [] = refl
count-insert p e (a ∷ l) = by_cases (before_of a e) (λ h. rw h (omega (arith, count-insert p e l))) (λ h. rw h)

-- a test that each passes counts them
pub count-all : (l : List Entry) → count (λ (e : Entry). true) l ≡ length l
unfolding count
count-all [] = refl
count-all (e ∷ l) = omega (arith, count-all l)

-- where b does not come before a, and nothing before b, nothing comes before a
none_before : (a b : Entry) (l : List Entry) → before_of b a ≡ false → count (λ (e : Entry). before_of e b) l ≡ 0 → count (λ (e : Entry). before_of e a) l ≡ 0
unfolding count
none_before a b [] h k = refl
none_before a b (e ∷ l) h k =
    let d : before_of e b ≡ false = none_passes (before_of e b) (omega arith) in
    omega (arith, one-fails (λ (x : Entry). before_of x a) e (not_before a b e h d), none_before a b l h (omega arith))

-- the list stays in order
pub sorted_insert : (e : Entry) (l : List Entry) → Sorted l → Sorted (insert e l)
unfolding insert count
sorted_insert e [] s = first refl none
sorted_insert e (a ∷ l) (first h s) =
    by_cases (before_of a e)
    (λ d. rw d (first {e = a} {l = insert e l} (omega (arith, count-insert (λ (x : Entry). before_of x a) e l, one-fails (λ (x : Entry). before_of x a) e (before-once a e d))) (sorted_insert e l s)))
    (λ d. rw d (first {e = e} {l = a ∷ l} (omega (arith, one-fails (λ (x : Entry). before_of x e) a d, none_before e a l d h)) (first h s)))

-- nothing comes before the first of a list in order
pub first-least : (e : Entry) (l : List Entry) → Sorted (e ∷ l) → count (λ (a : Entry). before_of a e) (e ∷ l) ≡ 0
unfolding count
first-least e l (first h s) = omega (arith, one-fails (λ (a : Entry). before_of a e) e (before_same e))

pub sorted_rest : (e : Entry) (l : List Entry) → Sorted (e ∷ l) → Sorted l
sorted_rest e l (first h s) = s

-- the first passes no test that none passes
pub first-fails : (p : Entry → Bool) (e : Entry) (l : List Entry) → count p (e ∷ l) ≡ 0 → p e ≡ false
unfolding count
first-fails p e l h = none_passes (p e) (omega arith)

-- Two lists in order with the same counts are the same list. The estimates are to be f64s.
pub sorted-one : (l m : List Entry) → Sorted l → Sorted m → ((p : Entry → Bool) → count p l ≡ count p m) → count unfit l ≡ 0 → l ≡ m
unfolding count
sorted-one [] [] s t h z = refl
sorted-one [] (e ∷ m) s t h z = absurd (let d : ⊥ = omega (arith, h (λ (a : Entry). true)) in d)
sorted-one (e ∷ l) [] s t h z = absurd (let d : ⊥ = omega (arith, h (λ (a : Entry). true)) in d)
sorted-one (e ∷ l) (a ∷ m) s t h z =
    let same : e ≡ a = one_entry e a (fit_one e (first-fails unfit e l z)) (fit_one a (first-fails unfit a m (sym (h unfit) ∙ z)))
    (first-fails (λ (x : Entry). before_of x a) e l (h (λ (x : Entry). before_of x a) ∙ first-least a m t))
    (first-fails (λ (x : Entry). before_of x e) a m (sym (h (λ (x : Entry). before_of x e)) ∙ first-least e l s)) in
    let rest : l ≡ m = sorted-one l m (sorted_rest e l s) (sorted_rest a m t) (λ p. omega (arith, h p, ap (one p) same)) (omega arith) in
    ap (λ (x : Entry). x ∷ l) same ∙ ap (λ (x : List Entry). a ∷ x) rest

-- ---- the first n of a row of entries

module _ (p : Entry → Bool) (f : ℕ → Entry) where
  pub to_none : (n : ℕ) → ((i : ℕ) → i < n → p (f i) ≡ false) → count_to p f n ≡ 0
  unfolding count_to
  to_none zero h = refl
  to_none (suc n) h = omega (arith, one-fails p (f n) (h n (omega arith)), to_none n (λ i k. h i (omega arith)))

  pub to-fails : (n i : ℕ) → count_to p f n ≡ 0 → i < n → p (f i) ≡ false
  unfolding count_to
  to-fails zero i e h = absurd (let z : ⊥ = omega arith in z)
  to-fails (suc n) i e h =
      which i n
      (λ d. ap (λ (k : ℕ). p (f k)) d ∙ none_passes (p (f n)) (omega arith))
      (λ d. to-fails n i (omega arith) (omega (arith, d)))

  pub to_more : (n : ℕ) → count_to p f (n + 1) ≡ one p (f n) + count_to p f n
  unfolding count_to
  to_more n = ap (count_to p f) (let e : n + 1 ≡ suc n = omega arith in e)

pub to-all : (f : ℕ → Entry) (n : ℕ) → count_to (λ (e : Entry). true) f n ≡ n
unfolding count_to
to-all f zero = refl
to-all f (suc n) = omega (arith, to-all f n)

-- g is f with e at place k
pub record Put (f g : ℕ → Entry) (k : ℕ) (e : Entry) : Type 0 where
  pub here : g k ≡ e
  pub there : (i : ℕ) → (i ≡ k → ⊥) → g i ≡ f i

module _ (p : Entry → Bool) (f g : ℕ → Entry) (k : ℕ) (e : Entry) (w : Put f g k e) where
  pub to-before : (n : ℕ) → n ≤ k → count_to p g n ≡ count_to p f n
  unfolding count_to
  to-before zero h = refl
  to-before (suc n) h = omega (arith, ap (one p) (w.there n (λ d. omega arith)), to-before n (omega arith))

  pub to-put : (n : ℕ) → k < n → count_to p g n + one p (f k) ≡ count_to p f n + one p e
  unfolding count_to
  to-put zero h = absurd (let z : ⊥ = omega arith in z)
  to-put (suc n) h =
      which n k
      (λ d. omega (arith, ap (λ (i : ℕ). one p (g i)) d, ap (λ (i : ℕ). one p (f i)) d, ap (one p) w.here, to-before n (omega arith)))
      (λ d. omega (arith, ap (one p) (w.there n d), to-put n (omega (arith, d))))
