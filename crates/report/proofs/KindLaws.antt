-- The counts of the kinds are those of the chunks that the slices hold. Assumes nothing.
use mathlib.Core.Path.{◌≡◌, sym, ap, ◌∙◌, subst}
use mathlib.Core.List.{List}
use mathlib.Core.Option.{Option, none, some}
use Prim.Native.Nat.{ℕ, zero, suc, ◌+◌, ◌-◌, ◌*◌, ◌≤◌}
use native.Mathlib.Omega.{arith}
use lib.ListN.{length}
use lib.Ieee.{Float}
use Rattle.loops.specs.Loop.{loop}
use Rattle.loops.proofs.LoopLaws.{Going, loop-none, loop_more, loop_split, loop-few}
use Rattle.events.specs.Chunk.{Chunk}
use Rattle.events.specs.Lent.{push, decode}
use Rattle.events.specs.Read.{read_at, meant, list_from}
use Rattle.events.specs.Told.{how_many, chunks_of}
use Rattle.std.specs.Prelude.{Option as Maybe, Some, None}
use Rattle.events.specs.declared.list.Read.{Read}
use Rattle.events.specs.declared.list.Read.TheVariants.{Helix, Plunge, Link, Cut}
use Rattle.events.proofs.ReadLaws.{decode_list}
use Rattle.report.specs.Kinds.{kinds, total, counting, count_row, kinds_of}
use Rattle.report.specs.declared.kinds.Kinds.{Kinds}

-- ---- a row counts for one at most

counting-few : (c : Maybe Read) (t : Kinds) → total (counting c t) ≤ total t + 1
counting-few (Some (Helix c rad)) t = omega arith
counting-few (Some (Plunge p)) t = omega arith
counting-few (Some (Link p)) t = omega arith
counting-few (Some (Cut first count)) t = omega arith
counting-few None t = omega arith

pub going_few : (rows : List ℕ) (ts : List Float) (n : ℕ) (t : Kinds) (k : ℕ) → Going (count_row rows ts) 0 n (kinds 0 0 0 0) t k → total t ≤ k
going_few rows ts n t k g =
    let few : total (loop (count_row rows ts) 0 k (kinds 0 0 0 0)) ≤ 0 + (k - 0) * 1 = loop-few (count_row rows ts) total 0 1 k (λ i s. counting-few (read_at rows ts i) s) (kinds 0 0 0 0) in
    let same : total t ≡ total (loop (count_row rows ts) 0 k (kinds 0 0 0 0)) = ap total g.is in
    omega arith

-- ---- the chunks of a list, added to what was counted

abbrev more : Kinds → List Chunk → Kinds
more t cs = kinds (t.passes + chunks_of 4 cs) (t.helices + chunks_of 1 cs) (t.plunges + chunks_of 2 cs) (t.links + chunks_of 3 cs)

abbrev Counts : Kinds → Option (List Chunk) → Kinds → Type 0
Counts t none r = Unit
Counts t (some cs) r = r ≡ more t cs

kinds_eq : {a a' b b' c c' d d' : ℕ} → a ≡ a' → b ≡ b' → c ≡ c' → d ≡ d' → kinds a b c d ≡ kinds a' b' c' d'
kinds_eq p q r s = λ i. record { passes = p i; helices = q i; plunges = r i; links = s i }

push_counts : (ts : List Float) (c : Maybe Read) (o : Option (List Chunk)) (t r : Kinds) → Counts (counting c t) o r → Counts t (push (meant ts c) o) r
unfolding how_many
push_counts ts None o t r h = tt
push_counts ts (Some (Helix c rad)) none t r h = tt
push_counts ts (Some (Plunge p)) none t r h = tt
push_counts ts (Some (Link p)) none t r h = tt
push_counts ts (Some (Cut first count)) none t r h = tt
push_counts ts (Some (Helix c rad)) (some cs) t r h = h ∙ kinds_eq (omega arith) (omega arith) (omega arith) (omega arith)
push_counts ts (Some (Plunge p)) (some cs) t r h = h ∙ kinds_eq (omega arith) (omega arith) (omega arith) (omega arith)
push_counts ts (Some (Link p)) (some cs) t r h = h ∙ kinds_eq (omega arith) (omega arith) (omega arith) (omega arith)
push_counts ts (Some (Cut first count)) (some cs) t r h = h ∙ kinds_eq (omega arith) (omega arith) (omega arith) (omega arith)

module _ (rows : List ℕ) (ts : List Float) where
  -- the first turn taken off
  first-turn : (k n : ℕ) (t : Kinds) → loop (count_row rows ts) (suc k) (suc k + n) (count_row rows ts k t) ≡ loop (count_row rows ts) k (k + suc n) t
  first-turn k n t =
      let f = count_row rows ts in
      let one : loop f k (k + 1) t ≡ f k t = sym (loop_more f k k t (omega arith)) ∙ ap (f k) (sym (loop-none f k t)) in
      sym (loop_split f k (k + 1) (k + suc n) t (omega arith) (omega arith)
      ∙ ap (loop f (k + 1) (k + suc n)) one
      ∙ ap (λ (z : ℕ). loop f z (k + suc n) (f k t)) (let z : k + 1 ≡ suc k = omega arith in z)
      ∙ ap (λ (z : ℕ). loop f (suc k) z (f k t)) (let z : k + suc n ≡ suc k + n = omega arith in z))

  list_counts : (n k : ℕ) (t : Kinds) → Counts t (list_from rows ts k n) (loop (count_row rows ts) k (k + n) t)
  unfolding list_from how_many
  list_counts zero k t =
      sym (loop-none (count_row rows ts) k t ∙ ap (λ (z : ℕ). loop (count_row rows ts) k z t) (let z : k ≡ k + zero = omega arith in z))
      ∙ kinds_eq (omega arith) (omega arith) (omega arith) (omega arith)
  list_counts (suc n) k t =
      push_counts ts (read_at rows ts k) (list_from rows ts (suc k) n) t (loop (count_row rows ts) k (k + suc n) t)
      (subst (Counts (count_row rows ts k t) (list_from rows ts (suc k) n)) (first-turn k n t) (list_counts n (suc k) (count_row rows ts k t)))

  -- the counts of a report are those of the list that the slices hold
  pub kinds_are : (n : ℕ) (cs : List Chunk) → n * 3 ≤ length rows → decode n rows ts ≡ some cs → kinds_of rows ts n ≡ kinds (chunks_of 4 cs) (chunks_of 1 cs) (chunks_of 2 cs) (chunks_of 3 cs)
  unfolding kinds_of
  kinds_are n cs h e =
      ap (λ (z : ℕ). loop (count_row rows ts) 0 z (kinds 0 0 0 0)) (let z : n ≡ 0 + n = omega arith in z)
      ∙ subst (λ (o : Option (List Chunk)). Counts (kinds 0 0 0 0) o (loop (count_row rows ts) 0 (0 + n) (kinds 0 0 0 0))) (sym (decode_list rows ts n h) ∙ e) (list_counts n 0 (kinds 0 0 0 0))
      ∙ kinds_eq (omega arith) (omega arith) (omega arith) (omega arith)
