-- A line read byte by byte is its fields read one after the other. Assumes nothing.
use mathlib.Core.Path.{◌≡◌, refl, sym, ap, ◌∙◌}
use mathlib.Core.Bool.{Bool, true, false, cond}
use mathlib.Core.List.{List, [], ◌∷◌}
use Prim.Native.Nat.{ℕ}
use lib.Dec.{eqb}
use Rattle.std.specs.Prelude.{Option, Some, None, IfSome}
use borrow.Author.Tests.{eqb-true}
use Rattle.loops.specs.Each.{over, Each}
use Rattle.loops.proofs.Cases.{by_cases}
use Rattle.bench_lines.specs.Words.{step_of, next_field}
use Rattle.bench_lines.specs.Line.{line_of}
use Rattle.bench_lines.specs.Meaning.{on_first, fields_of}
use Rattle.bench_lines.specs.declared.words.Words.{Words}

-- ---- fields

-- no byte is a tab
abbrev pub Plain : List ℕ → Type 0
Plain f = Each (λ (c : ℕ). eqb c 9 ≡ false) f

-- a line has a first field, and no field has a tab
pub record Parted (l : List ℕ) : Type 0 where
  pub first : List ℕ
  pub rest : List (List ℕ)
  pub is : fields_of l ≡ first ∷ rest
  pub plain : Plain first
  pub plains : Each Plain rest

pub parted : (l : List ℕ) → Parted l
unfolding fields_of Each on_first
parted [] = record { first = []; rest = []; is = refl; plain = tt; plains = tt }
parted (c ∷ l) =
    let p = parted l in
    by_cases (eqb c 9)
    (λ t. record { first = []; rest = p.first ∷ p.rest; is = ap (λ (b : Bool). cond b ([] ∷ fields_of l) (on_first c (fields_of l))) t ∙ ap (λ (fs : List (List ℕ)). [] ∷ fs) p.is; plain = tt; plains = (p.plain, p.plains) })
    (λ t. record { first = c ∷ p.first; rest = p.rest; is = ap (λ (b : Bool). cond b ([] ∷ fields_of l) (on_first c (fields_of l))) t ∙ on-first c l p; plain = (t, p.plain); plains = p.plains })
  where
    on-first : (c : ℕ) (l : List ℕ) (p : Parted l) → on_first c (fields_of l) ≡ (c ∷ p.first) ∷ p.rest
    on-first c l p = ap (on_first c) p.is

-- ---- fields read

-- behind the first, each after its tab
unfoldable pub later_read : List (List ℕ) → Option Words → Option Words
later_read [] w = w
later_read (f ∷ fs) w = later_read fs (over step_of f (step_of 9 w))

unfoldable pub all_read : List (List ℕ) → Option Words → Option Words
all_read [] w = w
all_read (f ∷ fs) w = later_read fs (over step_of f w)

pub read_fields : (l : List ℕ) (w : Option Words) → over step_of l w ≡ all_read (fields_of l) w
unfolding fields_of over all_read later_read on_first
read_fields [] w = refl
read_fields (c ∷ l) w =
    let p = parted l in
    let h : over step_of l (step_of c w) ≡ later_read p.rest (over step_of p.first (step_of c w)) = read_fields l (step_of c w) ∙ ap (λ (fs : List (List ℕ)). all_read fs (step_of c w)) p.is in
    by_cases (eqb c 9)
    (λ t. h ∙ sym (ap (λ (b : Bool). all_read (cond b ([] ∷ fields_of l) (on_first c (fields_of l))) w) t ∙ ap (λ (fs : List (List ℕ)). all_read ([] ∷ fs) w) p.is ∙ ap (λ (k : ℕ). later_read p.rest (over step_of p.first (step_of k w))) (sym (eqb-true c 9 t))))
    (λ t. h ∙ sym (ap (λ (b : Bool). all_read (cond b ([] ∷ fields_of l) (on_first c (fields_of l))) w) t ∙ ap (λ (fs : List (List ℕ)). all_read (on_first c fs) w) p.is))

-- ---- what a bad line stays

-- bad, or nothing yet of the present field: neither can end well
abbrev pub Failing : Option Words → Type 0
Failing w = IfSome w (λ (u : Words). u.empty ≡ true)

pub bad_step : (c : ℕ) (w : Option Words) → w ≡ None → step_of c w ≡ None
unfolding step_of
bad_step c w h = ap (step_of c) h

pub bad_stays : (l : List ℕ) (w : Option Words) → w ≡ None → over step_of l w ≡ None
unfolding over
bad_stays [] w h = h
bad_stays (c ∷ l) w h = bad_stays l (step_of c w) (bad_step c w h)

pub bad_later : (fs : List (List ℕ)) (w : Option Words) → w ≡ None → later_read fs w ≡ None
unfolding later_read
bad_later [] w h = h
bad_later (f ∷ fs) w h = bad_later fs _ (bad_stays f (step_of 9 w) (bad_step 9 w h))

pub bad_line : (w : Option Words) → w ≡ None → line_of w ≡ None
unfolding line_of
bad_line w h = ap line_of h

failing_next : (w : Option Words) → Failing w → step_of 9 w ≡ None
unfolding step_of next_field
failing_next None h = refl
failing_next (Some w) h = rw h

pub failing_line : (fs : List (List ℕ)) (w : Option Words) → Failing w → line_of (later_read fs w) ≡ None
unfolding later_read line_of
failing_line [] None h = refl
failing_line [] (Some w) h = rw h
failing_line (f ∷ fs) w h = bad_line (later_read fs (over step_of f (step_of 9 w))) (bad_later fs (over step_of f (step_of 9 w)) (bad_stays f (step_of 9 w) (failing_next w h)))
