-- Runs of columns, and bytes that tell columns: turned round, painted, covered. Assumes nothing.
use borrow.Rule.Slice.PartMut.{put_mid}
use native.Mathlib.Numerals.{add-one}
use lib.ListN.{take, drop, replicate, length-take, length-drop, take-append-drop}
use mathlib.Core.List.{◌++◌}
use Rattle.std.proofs.lemmas.List.{set-append_right}
use Rattle.loops.specs.Loop.{turns}
use Rattle.loops.proofs.FillLaws.{filled, filled_more}
use mathlib.Core.Path.{◌≡◌, refl, sym, ap, ◌∙◌}
use mathlib.Core.Bool.{Bool, true, false, not, cond, ◌&&◌, ◌||◌, beq, and-false}
use mathlib.Core.List.{List}
use Prim.Native.Nat.{ℕ, zero, suc, ◌+◌, ◌-◌, ◌≤◌, ◌<◌, max}
use native.Mathlib.Omega.{arith}
use lib.ListN.{length, get_or, set, length-set}
use lib.Seq.{get_or-set_same, get_or-set_other, set-get_or}
use lib.Dec.{eqb, leb, ltb}
use borrow.Author.Tests.{ltb-true, ltb-false, eqb-true, eqb-false, eq-eqb, ne_eqb, lt-ltb, le-ltb, le-leb, lt-leb}
use Rattle.loops.specs.Loop.{loop}
use Rattle.loops.proofs.Cases.{by_cases}
use Rattle.loops.proofs.LoopLaws.{loop_keeps}
use Rattle.filling.specs.Columns.{in_run, turned_if, Shows, nowhere, Turned, paint_at, free_at, shown_at, Covered}

-- ---- runs

pub and_no : (a b : Bool) → b ≡ false → a && b ≡ false
and_no a b e = ap (λ (t : Bool). a && t) e ∙ and-false a

pub run-yes : (a b i : ℕ) → a ≤ i → i < b → in_run a b i ≡ true
unfolding in_run
run-yes a b i h k = rw (le-leb a i h, lt-ltb i b k)

pub run-before : (a b i : ℕ) → i < a → in_run a b i ≡ false
unfolding in_run
run-before a b i h = rw (lt-leb a i h)

pub run-after : (a b i : ℕ) → b ≤ i → in_run a b i ≡ false
unfolding in_run
run-after a b i h = and_no (leb a i) (ltb i b) (le-ltb i b h)

pub run_none : (a i : ℕ) → in_run a a i ≡ false
run_none a i = by_cases (ltb i a) (λ e. run-before a a i (ltb-true i a e)) (λ e. run-after a a i (ltb-false i a e))

pub turned-no : (b : Bool) → turned_if b false ≡ b
turned-no true = refl
turned-no false = refl

-- one column more is that column
pub run-next : (a k i : ℕ) → (i ≡ k → ⊥) → in_run a (k + 1) i ≡ in_run a k i
unfolding in_run
run-next a k i h = ap (λ (t : Bool). leb a i && t) (by_cases (ltb i k)
    (λ e. lt-ltb i (k + 1) (omega (arith, ltb-true i k e)) ∙ sym e)
    (λ e. le-ltb i (k + 1) (let z = ltb-false i k e in omega (arith, z, h)) ∙ sym e))

-- ---- bytes turned round

pub turned_none : (a : ℕ) (l : List ℕ) → Turned a a l l
turned_none a l = record {
  long = refl;
  at = λ i h. rw (run_none a i);
}

pub turned_more : (a k : ℕ) (l t : List ℕ) (v : ℕ) → Turned a k l t → a ≤ k → k < length l → eqb v 1 ≡ not (eqb (get_or t k 0) 1) → Turned a (k + 1) l (set t k v)
turned_more a k l t v w b h e = record {
  long = length-set t k v ∙ w.long;
  at = λ i g. by_cases (eqb i k)
      (λ d. let z = eqb-true i k d in rw (z, get_or-set_same t k v 0 (omega (arith, w.long)), e, w.at k h, run-yes a (k + 1) k b (omega arith), run-after a k k (omega arith)))
      (λ d. rw (get_or-set_other t k i v 0 (eqb-false i k d), run-next a k i (eqb-false i k d)) (w.at i g));
}

-- where the counter stops
pub turned-end : (a b k : ℕ) (l t : List ℕ) → Turned a k l t → b ≤ k → k ≤ max a b → Turned a b l t
turned-end a b k l t w h g = record {
  long = w.long;
  at = λ i m. w.at i m ∙ ap (λ (r : Bool). turned_if r (eqb (get_or l i 0) 1)) (by_cases (ltb i a)
      (λ e. run-before a k i (ltb-true i a e) ∙ sym (run-before a b i (ltb-true i a e)))
      (λ e. by_cases (ltb i b)
      (λ d. run-yes a k i (ltb-false i a e) (omega (arith, ltb-true i b d)) ∙ sym (run-yes a b i (ltb-false i a e) (ltb-true i b d)))
      (λ d. run-after a k i (let z = ltb-false i b d in let y = ltb-false i a e in omega arith) ∙ sym (run-after a b i (ltb-false i b d)))));
}

-- 1 becomes 0, all else 1
pub flip_one : (x v : ℕ) → x ≡ 1 → v ≡ 0 → eqb v 1 ≡ not (eqb x 1)
flip_one x v e d = rw (d, e)

pub flip_other : (x v : ℕ) → (x ≡ 1 → ⊥) → v ≡ 1 → eqb v 1 ≡ not (eqb x 1)
flip_other x v e d = rw (d, ne_eqb x 1 e)

-- ---- lengths

-- turns that keep a list as long as it was
pub loop-long : (f : ℕ → List ℕ → List ℕ) → ((i : ℕ) (l : List ℕ) → length (f i l) ≡ length l) → (a e : ℕ) (m : List ℕ) → length (loop f a e m) ≡ length m
loop-long f h a e m = loop_keeps f a (λ (l : List ℕ). length l ≡ length m) e (λ i l b c p. h i l ∙ p) m refl

pub set_long : (b : Bool) (k : ℕ) (m : List ℕ) → length (cond b (set m k 1) m) ≡ length m
set_long true k m = length-set m k 1
set_long false k m = refl

free_one : (base : ℕ) (cover : List ℕ) (i : ℕ) (m : List ℕ) → length (free_at base cover i m) ≡ length m
free_one base cover i m = by_cases (eqb (get_or cover i 0) 1) (λ e. rw e) (λ e. rw e (length-set m (base + i) 1))

-- bytes that are filled as a slice of their own
painted-turns : (l : List ℕ) (base v a k : ℕ) → base + a + k ≤ length l → turns (paint_at base v) a k l ≡ take (base + a) l ++ filled v k (drop (base + a) l)
unfolding turns
painted-turns l base v a zero h = sym (take-append-drop (base + a) l)
painted-turns l base v a (suc k) h =
    let p = base + a in
    let front : length (take p l) ≡ p = omega (arith, length-take p l) in
    let room : k < length (drop p l) = omega (arith, length-drop p l) in
    let past : p ≤ base + (a + k) = omega arith in
    ap (λ (t : List ℕ). set t (base + (a + k)) v) (painted-turns l base v a k (omega arith))
    ∙ set-append_right (take p l) (filled v k (drop p l)) p (base + (a + k)) v front past
    ∙ ap (λ (i : ℕ). take p l ++ set (filled v k (drop p l)) i v) (let z : base + (a + k) - p ≡ k = omega arith in z)
    ∙ ap (λ (t : List ℕ). take p l ++ t) (filled_more v (drop p l) k room ∙ ap (λ (i : ℕ). filled v i (drop p l)) (add-one k))

pub filled-painted : (l : List ℕ) (base v a b : ℕ) (r : List ℕ) → a ≤ b → base + b ≤ length l → r ≡ replicate (base + b - (base + a)) v → put_mid (base + a) (base + b - (base + a)) l r ≡ loop (paint_at base v) a b l
unfolding loop
filled-painted l base v a b r h k e =
    ap (put_mid (base + a) (base + b - (base + a)) l) e
    ∙ sym (ap (λ (n : ℕ). turns (paint_at base v) a n l) (let z : b - a ≡ base + b - (base + a) = omega arith in z) ∙ painted-turns l base v a (base + b - (base + a)) (omega arith))

pub paint_long : (base v a e : ℕ) (m : List ℕ) → length (loop (paint_at base v) a e m) ≡ length m
paint_long base v a e m = loop-long (paint_at base v) (λ i l. length-set l (base + i) v) a e m

pub free-long : (base : ℕ) (cover : List ℕ) (a e : ℕ) (m : List ℕ) → length (loop (free_at base cover) a e m) ≡ length m
free-long base cover a e m = loop-long (free_at base cover) (free_one base cover) a e m

pub shown_long : (base : ℕ) (row : List ℕ) (a e : ℕ) (m : List ℕ) → length (loop (shown_at base row) a e m) ≡ length m
shown_long base row a e m = loop-long (shown_at base row) (λ i l. set_long (eqb (get_or row i 0) 1) (base + i) l) a e m

-- ---- bytes set where nothing covers them, and where a row says so

module _ (base : ℕ) (cover : List ℕ) (i : ℕ) (m : List ℕ) (v : ℕ) where
  pub free_not : get_or cover i 0 ≡ 1 → v ≡ get_or m (base + i) 0 → set m (base + i) v ≡ free_at base cover i m
  free_not e d = ap (set m (base + i)) d ∙ set-get_or m (base + i) 0 ∙ sym (rw (eq-eqb (get_or cover i 0) 1 e))

  pub free-yes : (get_or cover i 0 ≡ 1 → ⊥) → v ≡ 1 → set m (base + i) v ≡ free_at base cover i m
  free-yes e d = ap (set m (base + i)) d ∙ sym (rw (ne_eqb (get_or cover i 0) 1 e))

-- byte i of the row tells whether the cell is set; it may be read from a row l' that is as l from i on
module _ (base : ℕ) (l l' : List ℕ) (i : ℕ) (E : get_or l' i 0 ≡ get_or l i 0) (m : List ℕ) (v : ℕ) where
  pub shown_yes : get_or l' i 0 ≡ 1 → v ≡ 1 → set m (base + i) v ≡ shown_at base l i m
  shown_yes e d = ap (set m (base + i)) d ∙ sym (rw (eq-eqb (get_or l i 0) 1 (sym E ∙ e)))

  pub shown_not : (get_or l' i 0 ≡ 1 → ⊥) → v ≡ get_or m (base + i) 0 → set m (base + i) v ≡ shown_at base l i m
  shown_not e d = ap (set m (base + i)) d ∙ set-get_or m (base + i) 0 ∙ sym (rw (ne_eqb (get_or l i 0) 1 (λ z. e (E ∙ z))))

-- ---- columns covered

pub cover-yes : (t : Bool) (v x : ℕ) → t ≡ true → v ≡ 1 → eqb v 1 ≡ (t || eqb x 1)
cover-yes t v x e d = rw (e, d)

pub cover_not : (t : Bool) (v x : ℕ) → t ≡ false → v ≡ x → eqb v 1 ≡ (t || eqb x 1)
cover_not t v x e d = rw (e, d)

-- the bytes below k are 0 now, and those from k on are as they were
pub record Wiped (l l' : List ℕ) (k : ℕ) : Type 0 where
  pub long : length l' ≡ length l
  pub blank : Shows k nowhere l'
  pub rest : (i : ℕ) → k ≤ i → get_or l' i 0 ≡ get_or l i 0

pub wiped_none : (l : List ℕ) → Wiped l l 0
wiped_none l = record { long = refl; blank = record { at = λ i h. absurd (let z : ⊥ = omega arith in z) }; rest = λ i h. refl }

pub wiped_more : (l l' : List ℕ) (k : ℕ) → Wiped l l' k → k < length l → Wiped l (set l' k 0) (k + 1)
wiped_more l l' k w a = record {
  long = length-set l' k 0 ∙ w.long;
  blank = record {
    at = λ i h. by_cases (eqb i k)
        (λ d. rw (eqb-true i k d, get_or-set_same l' k 0 0 (omega (arith, w.long))))
        (λ d. rw (get_or-set_other l' k i 0 0 (eqb-false i k d)) (w.blank.at i (let z = eqb-false i k d in omega arith)));
  };
  rest = λ i h. get_or-set_other l' k i 0 0 (λ z. omega arith) ∙ w.rest i (omega arith);
}

pub wiped_end : (n : ℕ) (l l' : List ℕ) (k : ℕ) → Wiped l l' k → n ≤ k → Shows n nowhere l'
wiped_end n l l' k w h = record { at = λ i g. w.blank.at i (omega arith) }

-- columns below k are covered where they are to be, and those from k on are as they were
pub record Covering (one : Bool) (l m l' m' : List ℕ) (k : ℕ) : Type 0 where
  pub wiped : Wiped l l' k
  pub long : length m' ≡ length m
  pub cover : (i : ℕ) → i < k → eqb (get_or m' i 0) 1 ≡ (beq (eqb (get_or l i 0) 1) one || eqb (get_or m i 0) 1)
  pub rest : (i : ℕ) → k ≤ i → get_or m' i 0 ≡ get_or m i 0

pub covering_none : (one : Bool) (l m : List ℕ) → Covering one l m l m 0
covering_none one l m = record { wiped = wiped_none l; long = refl; cover = λ i h. absurd (let z : ⊥ = omega arith in z); rest = λ i h. refl }

pub covering_more : (one : Bool) (l m l' m' : List ℕ) (k v : ℕ) → Covering one l m l' m' k → k < length l → k < length m
    → eqb v 1 ≡ (beq (eqb (get_or l' k 0) 1) one || eqb (get_or m' k 0) 1) → Covering one l m (set l' k 0) (set m' k v) (k + 1)
covering_more one l m l' m' k v w a b e = record {
  wiped = wiped_more l l' k w.wiped a;
  long = length-set m' k v ∙ w.long;
  cover = λ i h. by_cases (eqb i k)
      (λ d. rw (eqb-true i k d, get_or-set_same m' k v 0 (omega (arith, w.long)), e, w.wiped.rest k (omega arith), w.rest k (omega arith)))
      (λ d. rw (get_or-set_other m' k i v 0 (eqb-false i k d)) (w.cover i (let z = eqb-false i k d in omega arith)));
  rest = λ i h. get_or-set_other m' k i v 0 (λ z. omega arith) ∙ w.rest i (omega arith);
}

pub covering_end : (n : ℕ) (one : Bool) (l m l' m' : List ℕ) (k : ℕ) → Covering one l m l' m' k → n ≤ k → Covered n one l m l' m'
covering_end n one l m l' m' k w h = record { row-long = w.wiped.long; cover-long = w.long; row = wiped_end n l l' k w.wiped h; cover = λ i g. w.cover i (omega arith) }
