-- The word of a line, read byte by byte: up to four small letters, which their number tells, or a line that cannot end well. Assumes nothing.
use mathlib.Core.Path.{◌≡◌, refl, sym, ap, ◌∙◌, subst}
use mathlib.Core.Bool.{Bool, true, false}
use mathlib.Core.List.{List, [], ◌∷◌}
use mathlib.Core.Logic.{◌⊎◌, inl, inr, ⊎_elim}
use Prim.Native.Nat.{ℕ, ◌+◌, ◌*◌, ◌≤◌, ◌<◌}
use native.Mathlib.Omega.{arith}
use Rattle.std.specs.Prelude.{Option, Some, None}
use lib.ListN.{length}
use lib.Dec.{eqb, ltb}
use borrow.Author.Tests.{ltb-false, eqb-true, lt-ltb, le-ltb, eq-eqb}
use Rattle.loops.specs.Each.{over, Each}
use Rattle.loops.proofs.Cases.{by_cases, both, never}
use Rattle.bench_lines.specs.Words.{no_words, step_of, letter_of}
use Rattle.bench_lines.specs.Meaning.{same, map_word, pass_word, undo_word}
use Rattle.bench_lines.specs.declared.words.Words.{Words}
use Rattle.bench_lines.proofs.FieldLaws.{Plain, Failing, bad_stays}

-- a word so far
abbrev pub spelled : Bool → ℕ → Words
spelled e n = record { empty = e; count = 0; word = n; a = 0; b = 0; c = 0; d = 0; last = 0 }

-- its letters' number
unfoldable pub code_from : ℕ → List ℕ → ℕ
code_from n [] = n
code_from n (c ∷ l) = code_from (n * 256 + c) l

pub record Letter (c : ℕ) : Type 0 where
  pub low : 97 ≤ c
  pub high : c ≤ 122

-- f is up to four letters, and read as such
pub record Spelt (f : List ℕ) : Type 0 where
  pub is : over step_of f (Some no_words) ≡ Some (spelled false (code_from 0 f))
  pub letters : Each Letter f
  pub few : length f ≤ 4

module _ (c n : ℕ) (e : Bool) (t : eqb c 9 ≡ false) where
  letter_step : Letter c → n ≤ 16777215 → step_of c (Some (spelled e n)) ≡ Some (spelled false (n * 256 + c))
  unfolding step_of letter_of
  letter_step l h = rw (t, le-ltb c 97 l.low, le-ltb 122 c l.high, le-ltb 16777215 n h)

  full-step : 16777215 < n → step_of c (Some (spelled e n)) ≡ None
  unfolding step_of letter_of
  full-step h = by_cases (ltb c 97) (λ a. rw (t, a)) (λ a. by_cases (ltb 122 c) (λ b. rw (t, a, b)) (λ b. rw (t, a, b, lt-ltb 16777215 n h)))

  -- c is a letter, or ends the line badly
  letter_or : (step_of c (Some (spelled e n)) ≡ None) ⊎ Letter c
  unfolding step_of letter_of
  letter_or =
      by_cases (ltb c 97) (λ a. inl (rw (t, a)))
      (λ a. by_cases (ltb 122 c) (λ b. inl (rw (t, a, b))) (λ b. inr (record { low = ltb-false c 97 a; high = ltb-false 122 c b })))

failing : (w : Option Words) → w ≡ None → Failing w
failing w h = subst Failing (sym h) tt

-- up to k letters more, behind those whose number is n
pub record Rest (k n : ℕ) (l : List ℕ) : Type 0 where
  pub is : over step_of l (Some (spelled false n)) ≡ Some (spelled false (code_from n l))
  pub letters : Each Letter l
  pub few : length l ≤ k

abbrev RestOr : ℕ → ℕ → List ℕ → Type 0
RestOr k n l = Failing (over step_of l (Some (spelled false n))) ⊎ Rest k n l

rest-none : (n : ℕ) → 16777215 < n → (l : List ℕ) → Plain l → RestOr 0 n l
unfolding over Each code_from
rest-none n h [] p = inr (record { is = refl; letters = tt; few = omega arith })
rest-none n h (c ∷ l) p = inl (failing (over step_of l (step_of c (Some (spelled false n)))) (bad_stays l _ (full-step c n false p.0 h)))

rest_more : (k n : ℕ) → n ≤ 16777215 → ((c : ℕ) → Letter c → (l : List ℕ) → Plain l → RestOr k (n * 256 + c) l) → (l : List ℕ) → Plain l → RestOr (k + 1) n l
unfolding over Each code_from
rest_more k n h next [] p = inr (record { is = refl; letters = tt; few = omega arith })
rest_more k n h next (c ∷ l) p =
    ⊎_elim (λ b. inl (failing (over step_of l (step_of c (Some (spelled false n)))) (bad_stays l _ b)))
    (λ a. let s = letter_step c n false p.0 a h in
    ⊎_elim (λ f. inl (subst (λ (u : Option Words). Failing (over step_of l u)) (sym s) f))
    (λ r. inr (record { is = ap (over step_of l) s ∙ r.is; letters = (a, r.letters); few = let z = r.few in omega arith }))
    (next c a l p.1))
    (letter_or c n false p.0)

-- three letters more, behind a first one
rest_three : (a : ℕ) → Letter a → (l : List ℕ) → Plain l → RestOr 3 (0 * 256 + a) l
rest_three a A =
    rest_more 2 _ (let z = A.high in omega arith) (λ b B.
    rest_more 1 _ (let z = A.high in let y = B.high in omega arith) (λ c C.
    rest_more 0 _ (let z = A.high in let y = B.high in let x = C.high in omega arith) (λ d D.
    rest-none _ (let z = A.low in omega arith))))

pub spell : (f : List ℕ) → Plain f → Failing (over step_of f (Some no_words)) ⊎ Spelt f
unfolding over Each code_from
spell [] p = inl refl
spell (a ∷ l) p =
    ⊎_elim (λ b. inl (failing (over step_of l (step_of a (Some no_words))) (bad_stays l _ b)))
    (λ A. let s = letter_step a 0 true p.0 A (omega arith) in
    ⊎_elim (λ f. inl (subst (λ (u : Option Words). Failing (over step_of l u)) (sym s) f))
    (λ r. inr (record { is = ap (over step_of l) s ∙ r.is; letters = (A, r.letters); few = let z = r.few in omega arith }))
    (rest_three a A l p.1))
    (letter_or a 0 true p.0)

-- ---- a number tells its word

pub same-is : (k l : List ℕ) → same k l ≡ true → k ≡ l
unfolding same
same-is [] [] h = refl
same-is [] (d ∷ l) h = never h
same-is (c ∷ k) [] h = never h
same-is (c ∷ k) (d ∷ l) h =
    let b = both (eqb c d) (same k l) h in
    ap (λ (x : ℕ). x ∷ k) (eqb-true c d b.0) ∙ ap (λ (m : List ℕ). d ∷ m) (same-is k l b.1)

map_code : (f : List ℕ) → Each Letter f → length f ≤ 4 → code_from 0 f ≡ 0x6d6170 → same f map_word ≡ true
unfolding Each code_from same
map_code [] L n e = absurd (let z : ⊥ = omega arith in z)
map_code (a ∷ []) L n e = let A = L.0.high in absurd (let z : ⊥ = omega arith in z)
map_code (a ∷ b ∷ []) L n e = let A = L.0.high in let B = L.1.0.high in absurd (let z : ⊥ = omega arith in z)
map_code (a ∷ b ∷ c ∷ []) L n e =
    let A = L.0.high in
    let B = L.1.0.high in
    let C = L.1.1.0.high in
    rw (eq-eqb a 109 (let z : a ≡ 109 = omega arith in z), eq-eqb b 97 (let z : b ≡ 97 = omega arith in z), eq-eqb c 112 (let z : c ≡ 112 = omega arith in z))
map_code (a ∷ b ∷ c ∷ d ∷ []) L n e = let A = L.0.low in absurd (let z : ⊥ = omega arith in z)
map_code (a ∷ b ∷ c ∷ d ∷ k ∷ l) L n e = absurd (let z : ⊥ = omega arith in z)

-- a word of four letters, by its own number
module _ (x y z w code : ℕ) (X : x ≤ 122) (Y : y ≤ 122) (Z : z ≤ 122) (W : w ≤ 122) (X' : 97 ≤ x) (C : code ≡ (((0 * 256 + x) * 256 + y) * 256 + z) * 256 + w) where
  four_code : (f : List ℕ) → Each Letter f → length f ≤ 4 → code_from 0 f ≡ code → same f (x ∷ y ∷ z ∷ w ∷ []) ≡ true
  unfolding Each code_from same
  four_code [] L n e = absurd (let q : ⊥ = omega arith in q)
  four_code (a ∷ []) L n e = let A = L.0.high in absurd (let q : ⊥ = omega arith in q)
  four_code (a ∷ b ∷ []) L n e = let A = L.0.high in let B = L.1.0.high in absurd (let q : ⊥ = omega arith in q)
  four_code (a ∷ b ∷ c ∷ []) L n e = let A = L.0.high in let B = L.1.0.high in let D = L.1.1.0.high in absurd (let q : ⊥ = omega arith in q)
  four_code (a ∷ b ∷ c ∷ d ∷ []) L n e =
      let A = L.0.high in
      let B = L.1.0.high in
      let D = L.1.1.0.high in
      let E = L.1.1.1.0.high in
      rw (eq-eqb a x (let q : a ≡ x = omega arith in q), eq-eqb b y (let q : b ≡ y = omega arith in q), eq-eqb c z (let q : c ≡ z = omega arith in q), eq-eqb d w (let q : d ≡ w = omega arith in q))
  four_code (a ∷ b ∷ c ∷ d ∷ k ∷ l) L n e = absurd (let q : ⊥ = omega arith in q)

-- so a test of the number is a test of the word
told : (f word : List ℕ) (code : ℕ) → code_from 0 word ≡ code → (code_from 0 f ≡ code → same f word ≡ true) → eqb (code_from 0 f) code ≡ same f word
told f word code c h =
    by_cases (same f word)
    (λ s. eq-eqb (code_from 0 f) code (ap (code_from 0) (same-is f word s) ∙ c) ∙ sym s)
    (λ s. by_cases (eqb (code_from 0 f) code) (λ e. never (sym s ∙ h (eqb-true (code_from 0 f) code e))) (λ e. e ∙ sym s))

module _ (f : List ℕ) (S : Spelt f) where
  pub is-map : eqb (code_from 0 f) 0x6d6170 ≡ same f map_word
  unfolding code_from
  is-map = told f map_word 0x6d6170 refl (map_code f S.letters S.few)

  pub is-pass : eqb (code_from 0 f) 0x70617373 ≡ same f pass_word
  unfolding code_from
  is-pass = told f pass_word 0x70617373 refl (four_code 112 97 115 115 0x70617373 (omega arith) (omega arith) (omega arith) (omega arith) (omega arith) refl f S.letters S.few)

  pub is_undo : eqb (code_from 0 f) 0x756e646f ≡ same f undo_word
  unfolding code_from
  is_undo = told f undo_word 0x756e646f refl (four_code 117 110 100 111 0x756e646f (omega arith) (omega arith) (omega arith) (omega arith) (omega arith) refl f S.letters S.few)
