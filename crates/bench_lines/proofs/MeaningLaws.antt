-- The parser's answer is what a line means by its fields. Assumes nothing.
use mathlib.Core.Path.{◌≡◌, refl, sym, ap, ◌∙◌, subst}
use mathlib.Core.Bool.{Bool, true, false, cond, ◌&&◌}
use mathlib.Core.List.{List, [], ◌∷◌}
use mathlib.Core.Logic.{⊎_elim}
use Prim.Native.Nat.{ℕ, ◌+◌, ◌≤◌, ◌<◌}
use native.Mathlib.Omega.{arith}
use Rattle.std.specs.Prelude.{Option, Some, None}
use lib.Dec.{eqb, ltb, leb}
use borrow.Author.Tests.{leb-true, leb-false, le-leb, lt-ltb, le-ltb, ne_eqb}
use Rattle.loops.specs.Each.{over, Each}
use Rattle.loops.proofs.Cases.{by_cases, never}
use Rattle.bench_lines.specs.Words.{no_words, step_of, shifted, next_field, letter_of, numbered}
use Rattle.bench_lines.specs.Line.{sides, side_of, map_of, pass_of, undo_of, word_of, line_of, words_of}
use Rattle.bench_lines.specs.Meaning.{is_decimal, value_of, is_side, is_quarters, same, map_word, pass_word, undo_word, map_by, pass_by, undo_by, meant_by, meaning_of}
use Rattle.bench_lines.specs.declared.words.Words.{Words}
use Rattle.bench_lines.specs.declared.line.Line.{Line}
use Rattle.bench_lines.specs.declared.line.Line.TheVariants.{Map}
use Rattle.bench_lines.proofs.FieldLaws.{Plain, parted, later_read, all_read, read_fields, bad_later, bad_stays, bad_line, failing_line, Failing}
use Rattle.bench_lines.proofs.DecimalLaws.{Numbers, field-so, field_not}
use Rattle.bench_lines.proofs.SpellLaws.{spelled, code_from, spell, same-is, is-map, is-pass, is_undo}

-- ---- a field more

-- a number behind the others
abbrev pushed : ℕ → Words → Words
pushed v w = numbered v (shifted w)

module _ (w : Words) (b : w.empty ≡ false) where
  tab : w.count ≤ 4 → step_of 9 (Some w) ≡ Some (shifted w)
  unfolding step_of next_field
  tab h = rw (b, le-ltb 4 w.count h)

  tab_full : 4 < w.count → step_of 9 (Some w) ≡ None
  unfolding step_of next_field
  tab_full h = rw (b, lt-ltb 4 w.count h)

  next : w.count ≤ 4 → (f : List ℕ) (fs : List (List ℕ)) → Plain f → line_of (later_read (f ∷ fs) (Some w)) ≡ cond (is_quarters f) (line_of (later_read fs (Some (pushed (value_of f) w)))) None
  unfolding later_read
  next h f fs p =
      let k : Numbers (shifted w) = ne_eqb (w.count + 1) 0 (λ z. let y : ⊥ = omega arith in y) in
      ap (λ (u : Option Words). line_of (later_read fs (over step_of f u))) (tab h)
      ∙ by_cases (is_quarters f)
      (λ t. ap (λ (u : Option Words). line_of (later_read fs u)) (field-so (shifted w) k refl f p t) ∙ ap (λ (c : Bool). cond c (line_of (later_read fs (Some (pushed (value_of f) w)))) None) (sym t))
      (λ t. failing_line fs (over step_of f (Some (shifted w))) (field_not (shifted w) k refl f p t) ∙ ap (λ (c : Bool). cond c (line_of (later_read fs (Some (pushed (value_of f) w)))) None) (sym t))

  no-next : 4 < w.count → (f : List ℕ) (fs : List (List ℕ)) → line_of (later_read (f ∷ fs) (Some w)) ≡ None
  unfolding later_read
  no-next h f fs = bad_line (later_read fs (over step_of f (step_of 9 (Some w)))) (bad_later fs (over step_of f (step_of 9 (Some w))) (bad_stays f (step_of 9 (Some w)) (tab_full h)))

-- ---- tests that lead to the same

bad_if : (t : Bool) (l : Option Line) → l ≡ None → cond t l None ≡ None
bad_if true l e = e
bad_if false l e = refl

-- the three words
abbrev by_words : Bool → Bool → Bool → Option Line → Option Line → Option Line → Option Line
by_words p q r a b c = cond p a (cond q b (cond r c None))

all_bad : (p q r : Bool) → by_words p q r None None None ≡ None
all_bad true q r = refl
all_bad false true r = refl
all_bad false false true = refl
all_bad false false false = refl

side_is : (f : List ℕ) → is_side f ≡ is_quarters f && side_of (value_of f)
unfolding is_side is_quarters side_of
side_is f = go (is_decimal f)
  where
    v : ℕ
    v = value_of f

    go : (d : Bool) → (d && (leb 1 v && leb v 64)) ≡ ((d && leb v 1000) && cond (ltb 0 v) (leb v 64) false)
    go false = refl
    go true =
        by_cases (leb v 64)
        (λ a. let x = leb-true v 64 a in
        by_cases (leb 1 v)
        (λ b. let y = leb-true 1 v b in rw (a, b, le-leb v 1000 (let z : v ≤ 1000 = omega arith in z)))
        (λ b. let y = leb-false 1 v b in rw (a, b, le-leb v 1000 (let z : v ≤ 1000 = omega arith in z))))
        (λ a. let x = leb-false v 64 a in
        by_cases (leb v 1000)
        (λ c. rw (a, c, le-leb 1 v (let z : 1 ≤ v = omega arith in z)))
        (λ c. rw (a, c, le-leb 1 v (let z : 1 ≤ v = omega arith in z))))

sides_are : (qa qb sa sb : Bool) (l : Option Line) → cond qa (cond qb (cond sa (cond sb l None) None) None) None ≡ cond ((qa && sa) && (qb && sb)) l None
sides_are true true true sb l = refl
sides_are true true false sb l = refl
sides_are true false true sb l = refl
sides_are true false false sb l = refl
sides_are false qb sa sb l = refl

five_are : (a b c d e : Bool) (l : Option Line) → cond a (cond b (cond c (cond d (cond e l None) None) None) None) None ≡ cond (a && (b && (c && (d && e)))) l None
five_are true true true true e l = refl
five_are true true true false e l = refl
five_are true true false d e l = refl
five_are true false c d e l = refl
five_are false b c d e l = refl

-- ---- tests of fields around tests of the word

map-words : (p q r qa qb : Bool) (x y : Option Line) → cond qa (cond qb x None) None ≡ y → cond qa (cond qb (by_words p q r x None None) None) None ≡ by_words p q r y None None
map-words true q r qa qb x y e = e
map-words false q r qa qb x y e = bad_if qa _ (bad_if qb _ (all_bad false q r)) ∙ sym (all_bad false q r)

five_bad : (a b c d e : Bool) (l : Option Line) → l ≡ None → cond a (cond b (cond c (cond d (cond e l None) None) None) None) None ≡ None
five_bad a b c d e l h = bad_if a _ (bad_if b _ (bad_if c _ (bad_if d _ (bad_if e l h))))

pass-words : (p q r a b c d e : Bool) (x y : Option Line) → cond a (cond b (cond c (cond d (cond e x None) None) None) None) None ≡ y
    → cond a (cond b (cond c (cond d (cond e (by_words p q r None x None) None) None) None) None) None ≡ by_words p q r None y None
pass-words true q r a b c d e x y h = five_bad a b c d e None refl
pass-words false true r a b c d e x y h = h
pass-words false false r a b c d e x y h = five_bad a b c d e _ (all_bad false false r) ∙ sym (all_bad false false r)

-- ---- the fields behind a word, by how many they are

module _ (n : ℕ) (p q r : Bool) (M : eqb n 0x6d6170 ≡ p) (P : eqb n 0x70617373 ≡ q) (U : eqb n 0x756e646f ≡ r) where
  abbrev w0 : Words
  w0 = spelled false n

  at : (w : Words) → w.empty ≡ false → w.word ≡ n → line_of (Some w) ≡ by_words p q r (map_of w) (pass_of w) (undo_of w)
  unfolding line_of word_of
  at w b e = rw (b, e, M, P, U)

  -- a line that has too few fields or too many
  short : (w : Words) → w.empty ≡ false → w.word ≡ n → map_of w ≡ None → pass_of w ≡ None → undo_of w ≡ None → line_of (Some w) ≡ None
  short w b e x y z = at w b e ∙ rw (x, y, z) (all_bad p q r)

  pub line_by : (fs : List (List ℕ)) → Each Plain fs → line_of (later_read fs (Some w0)) ≡ by_words p q r (map_by fs) (pass_by fs) (undo_by fs)
  unfolding Each later_read map_of pass_of undo_of map_by pass_by undo_by
  line_by [] h = at w0 refl refl
  line_by (a ∷ []) h =
      next w0 refl (omega arith) a [] h.0
      ∙ bad_if (is_quarters a) _ (short (pushed (value_of a) w0) refl refl refl refl refl)
      ∙ sym (all_bad p q r)
  line_by (a ∷ b ∷ []) h =
      let w1 = pushed (value_of a) w0 in
      let w2 = pushed (value_of b) w1 in
      next w0 refl (omega arith) a (b ∷ []) h.0
      ∙ ap (λ (l : Option Line). cond (is_quarters a) l None) (next w1 refl (omega arith) b [] h.1.0 ∙ ap (λ (l : Option Line). cond (is_quarters b) l None) (at w2 refl refl))
      ∙ map-words p q r (is_quarters a) (is_quarters b) _ _ (sides_are (is_quarters a) (is_quarters b) (side_of (value_of a)) (side_of (value_of b)) (Some (Map (sides (value_of a) (value_of b)))) ∙ rw (side_is a, side_is b))
  line_by (a ∷ b ∷ c ∷ []) h =
      let w1 = pushed (value_of a) w0 in
      let w2 = pushed (value_of b) w1 in
      let w3 = pushed (value_of c) w2 in
      next w0 refl (omega arith) a (b ∷ c ∷ []) h.0
      ∙ bad_if (is_quarters a) _ (next w1 refl (omega arith) b (c ∷ []) h.1.0
      ∙ bad_if (is_quarters b) _ (next w2 refl (omega arith) c [] h.1.1.0
      ∙ bad_if (is_quarters c) _ (short w3 refl refl refl refl refl)))
      ∙ sym (all_bad p q r)
  line_by (a ∷ b ∷ c ∷ d ∷ []) h =
      let w1 = pushed (value_of a) w0 in
      let w2 = pushed (value_of b) w1 in
      let w3 = pushed (value_of c) w2 in
      let w4 = pushed (value_of d) w3 in
      next w0 refl (omega arith) a (b ∷ c ∷ d ∷ []) h.0
      ∙ bad_if (is_quarters a) _ (next w1 refl (omega arith) b (c ∷ d ∷ []) h.1.0
      ∙ bad_if (is_quarters b) _ (next w2 refl (omega arith) c (d ∷ []) h.1.1.0
      ∙ bad_if (is_quarters c) _ (next w3 refl (omega arith) d [] h.1.1.1.0
      ∙ bad_if (is_quarters d) _ (short w4 refl refl refl refl refl))))
      ∙ sym (all_bad p q r)
  line_by (a ∷ b ∷ c ∷ d ∷ e ∷ []) h =
      let w1 = pushed (value_of a) w0 in
      let w2 = pushed (value_of b) w1 in
      let w3 = pushed (value_of c) w2 in
      let w4 = pushed (value_of d) w3 in
      let w5 = pushed (value_of e) w4 in
      next w0 refl (omega arith) a (b ∷ c ∷ d ∷ e ∷ []) h.0
      ∙ ap (λ (l : Option Line). cond (is_quarters a) l None) (next w1 refl (omega arith) b (c ∷ d ∷ e ∷ []) h.1.0
      ∙ ap (λ (l : Option Line). cond (is_quarters b) l None) (next w2 refl (omega arith) c (d ∷ e ∷ []) h.1.1.0
      ∙ ap (λ (l : Option Line). cond (is_quarters c) l None) (next w3 refl (omega arith) d (e ∷ []) h.1.1.1.0
      ∙ ap (λ (l : Option Line). cond (is_quarters d) l None) (next w4 refl (omega arith) e [] h.1.1.1.1.0
      ∙ ap (λ (l : Option Line). cond (is_quarters e) l None) (at w5 refl refl)))))
      ∙ pass-words p q r (is_quarters a) (is_quarters b) (is_quarters c) (is_quarters d) (is_quarters e) _ _ (five_are (is_quarters a) (is_quarters b) (is_quarters c) (is_quarters d) (is_quarters e) _)
  line_by (a ∷ b ∷ c ∷ d ∷ e ∷ f ∷ fs) h =
      let w1 = pushed (value_of a) w0 in
      let w2 = pushed (value_of b) w1 in
      let w3 = pushed (value_of c) w2 in
      let w4 = pushed (value_of d) w3 in
      let w5 = pushed (value_of e) w4 in
      next w0 refl (omega arith) a (b ∷ c ∷ d ∷ e ∷ f ∷ fs) h.0
      ∙ bad_if (is_quarters a) _ (next w1 refl (omega arith) b (c ∷ d ∷ e ∷ f ∷ fs) h.1.0
      ∙ bad_if (is_quarters b) _ (next w2 refl (omega arith) c (d ∷ e ∷ f ∷ fs) h.1.1.0
      ∙ bad_if (is_quarters c) _ (next w3 refl (omega arith) d (e ∷ f ∷ fs) h.1.1.1.0
      ∙ bad_if (is_quarters d) _ (next w4 refl (omega arith) e (f ∷ fs) h.1.1.1.1.0
      ∙ bad_if (is_quarters e) _ (no-next w5 refl (omega arith) f fs)))))
      ∙ sym (all_bad p q r)

-- ---- the theorem

-- a word of the bench does not fail
no_word : (f word : List ℕ) → (Failing (over step_of word (Some no_words)) → ⊥) → Failing (over step_of f (Some no_words)) → same f word ≡ false
no_word f word n h = by_cases (same f word) (λ s. absurd (n (subst (λ (x : List ℕ). Failing (over step_of x (Some no_words))) (same-is f word s) h))) (λ s. s)

failing_same : (f : List ℕ) → Failing (over step_of f (Some no_words)) → (same f map_word ≡ false) × ((same f pass_word ≡ false) × (same f undo_word ≡ false))
unfolding over step_of letter_of
failing_same f h = (no_word f map_word (λ z. never z) h, (no_word f pass_word (λ z. never z) h, no_word f undo_word (λ z. never z) h))

pub meaning_is : (l : List ℕ) → line_of (words_of l) ≡ meaning_of l
unfolding words_of meaning_of meant_by all_read
meaning_is l =
    let d = parted l in
    let f = d.first in
    let fs = d.rest in
    ap line_of (read_fields l (Some no_words) ∙ ap (λ (x : List (List ℕ)). all_read x (Some no_words)) d.is)
    ∙ ⊎_elim
    (λ h. failing_line fs (over step_of f (Some no_words)) h ∙ (let n = failing_same f h in sym (rw (n.0, n.1.0, n.1.1))))
    (λ S. ap (λ (w : Option Words). line_of (later_read fs w)) S.is ∙ line_by (code_from 0 f) _ _ _ (is-map f S) (is-pass f S) (is_undo f S) fs d.plains)
    (spell f d.plain)
    ∙ ap meant_by (sym d.is)
