-- The flood's stack in its slice, one cell visited, and that the flood ends: its turns are never used up. Assumes nothing.
use mathlib.Core.Path.{◌≡◌, refl, sym, ap, ◌∙◌, subst}
use mathlib.Core.Bool.{Bool, true, false, cond}
use mathlib.Core.List.{List, [], ◌∷◌, ◌++◌}
use Prim.Native.Nat.{ℕ, zero, suc, ◌+◌, ◌-◌, ◌*◌, ◌/◌, ◌%◌, ◌≤◌, ◌<◌}
use native.Mathlib.Omega.{arith}
use native.Mathlib.Nat.{div-add-mod', div-lt_iff_lt-mul, mod-lt, add-mul, one-mul}
use lib.ListN.{length, get_or, set, length-set, take, drop}
use lib.Seq.{get_or-set_same, get_or-set_other, take-set-le, drop-set-lt}
use lib.Dec.{eqb, ltb}
use borrow.Author.Tests.{ltb-true, not-true}
use Rattle.loops.specs.Loop.{loop, Run, on, out, turn}
use Rattle.loops.specs.Regions.{Fits, within, put}
use Rattle.loops.specs.Frame.{Only}
use Rattle.loops.specs.Cells.{ones}
use Rattle.loops.specs.Each.{Each}
use Rattle.loops.proofs.Cases.{by_test, both}
use Rattle.loops.proofs.LoopLaws.{loop_keeps, loop_both, Going, going_none, going_end, going_out, going_on}
use Rattle.loops.proofs.CellLaws.{row_below, ones-mark, ones_le}
use Rattle.loops.proofs.SetLaws.{set-within}
use Rattle.loops.proofs.FrameLaws.{only_same, only_more, only-before}
use Rattle.raster.specs.Grid.{Sides}
use Rattle.raster.specs.declared.grid.Grid.{Grid}
use Rattle.setup.specs.Layout.{map_in}
use Rattle.setup.proofs.PartLaws.{run_long}
use Rattle.workspace.specs.Standing.{reach_in, abandoned_in, abandoned_put}
use Rattle.flood.specs.Place.{open_at}
use Rattle.flood.specs.Flood.{Flood, fl, around_of, flood_turns, flooded, visit_of, pop_of, flood_step, flood_of, stack_of}

-- ---- fits loops: a number set in a region

pub set-only : {A : Type 0} (a e i : ℕ) (w : List A) (v : A) → Fits a e w → i < e - a → Only a e w (set w (a + i) v)
unfolding put
set-only {A} a e i w v h l =
    let u : List A = set w (a + i) v in
    let k : length u ≡ length w = length-set w (a + i) v in
    record {
      long = k;
      rest = (only_same a e u (record { start = h.start; end = omega (arith, h.end, k) })).rest
          ∙ ap (λ (x : List A). x ++ (within a e u ++ drop e u)) (take-set-le a w (a + i) v (omega arith))
          ∙ ap (λ (x : List A). take a w ++ (within a e u ++ x)) (drop-set-lt e w (a + i) v (omega arith));
    }

-- ---- the stack

pub stack-long : (n : ℕ) (s : List ℕ) → length (stack_of n s) ≡ n
unfolding stack_of
stack-long zero s = refl
stack-long (suc n) s = ap suc (stack-long n s)

stack_set : (n i v : ℕ) (s : List ℕ) → n ≤ i → stack_of n (set s i v) ≡ stack_of n s
unfolding stack_of
stack_set zero i v s h = refl
stack_set (suc n) i v s h =
    ap (λ (x : ℕ). x ∷ stack_of n (set s i v)) (get_or-set_other s i n v 0 (λ e. omega arith))
    ∙ ap (λ (l : List ℕ). get_or s n 0 ∷ l) (stack_set n i v s (omega arith))

stack_push : (n v : ℕ) (s : List ℕ) → n < length s → stack_of (n + 1) (set s n v) ≡ v ∷ stack_of n s
unfolding stack_of
stack_push n v s h =
    ap (λ (i : ℕ). stack_of i (set s n v)) (let z : n + 1 ≡ suc n = omega arith in z)
    ∙ ap (λ (x : ℕ). x ∷ stack_of n (set s n v)) (get_or-set_same s n v 0 h)
    ∙ ap (λ (l : List ℕ). v ∷ l) (stack_set n n v s (omega arith))

stack_pop : (n : ℕ) (s : List ℕ) → 0 < n → stack_of n s ≡ get_or s (n - 1) 0 ∷ stack_of (n - 1) s
unfolding stack_of
stack_pop n s h = ap (λ (i : ℕ). stack_of i s) (let z : n ≡ suc (n - 1) = omega arith in z)

-- ---- pushing

module _ (len k less : ℕ) (there : Bool) (s : List ℕ) where
  pub push_new : len < length s → there ≡ true → (v : ℕ) → v ≡ k - less → stack_of (len + 1) (set s len v) ≡ cond there ((k - less) ∷ stack_of len s) (stack_of len s)
  push_new h t v e =
      stack_push len v s h ∙ ap (λ (x : ℕ). x ∷ stack_of len s) e
      ∙ sym (ap (λ (b : Bool). cond b ((k - less) ∷ stack_of len s) (stack_of len s)) t)

  pub push_old : there ≡ false → stack_of len s ≡ cond there ((k - less) ∷ stack_of len s) (stack_of len s)
  push_old t = sym (ap (λ (b : Bool). cond b ((k - less) ∷ stack_of len s) (stack_of len s)) t)

-- cell k is in row k / nx
module _ (g : Grid) (S : Sides g) (k : ℕ) (h : k < g.ny * g.nx) where
  parts : k / g.nx * g.nx + k % g.nx ≡ k
  parts = div-add-mod' k g.nx

  pub left_there : 0 < k % g.nx → 1 ≤ k
  left_there l = omega (arith, parts)

  pub down_there : 0 < k / g.nx → g.nx ≤ k
  down_there l = let r = row_below 0 (k / g.nx) g.nx (k / g.nx * g.nx) l (omega arith) in omega (arith, parts)

  pub row_there : k / g.nx < g.ny
  row_there = (div-lt_iff_lt-mul S.wide).1 h

  pub right-below : k % g.nx + 1 < g.nx → k + 1 < g.ny * g.nx
  right-below l = let r = row_below (k / g.nx) g.ny g.nx (g.ny * g.nx) row_there (omega arith) in omega (arith, parts)

  pub up-below : k / g.nx + 1 < g.ny → k + g.nx < g.ny * g.nx
  up-below l =
      let r = row_below (k / g.nx + 1) g.ny g.nx (g.ny * g.nx) l (omega arith) in
      let d : (k / g.nx + 1) * g.nx ≡ k / g.nx * g.nx + g.nx = add-mul (k / g.nx) 1 g.nx ∙ ap (λ (x : ℕ). k / g.nx * g.nx + x) (one-mul g.nx) in
      let m = mod-lt k S.wide in
      omega (arith, parts)

module _ (g : Grid) (k₀ k i j : ℕ) (p : k ≡ k₀) (q : i ≡ k₀ % g.nx) (r : j ≡ k₀ / g.nx) where
  pub around_is : (l l₁ l₂ l₃ l₄ : List ℕ) → l₁ ≡ cond (ltb 0 i) ((k - 1) ∷ l) l → l₂ ≡ cond (ltb 0 j) ((k - g.nx) ∷ l₁) l₁
      → l₃ ≡ cond (ltb (i + 1) g.nx) ((k + 1 - 0) ∷ l₂) l₂ → l₄ ≡ cond (ltb (j + 1) g.ny) ((k + g.nx - 0) ∷ l₃) l₃ → l₄ ≡ around_of g k₀ l
  unfolding around_of
  around_is l l₁ l₂ l₃ l₄ a b c d =
      let y : k₀ + 1 - 0 ≡ k₀ + 1 = omega arith in
      let z : k₀ + g.nx - 0 ≡ k₀ + g.nx = omega arith in
      rw (d, c, b, a, p, q, r, y, z) refl

-- ---- the cells beside one, and what they leave of the stack

push-each : (P : ℕ → Type 0) (t : Bool) (k : ℕ) (l : List ℕ) → (t ≡ true → P k) → Each P l → Each P (cond t (k ∷ l) l)
unfolding Each
push-each P t k l h g = by_test (Each P) t (k ∷ l) l (λ e. (h e, g)) (λ e. g)

push-few : (t : Bool) (k : ℕ) (l : List ℕ) (n : ℕ) → length l ≤ n → length (cond t (k ∷ l) l) ≤ n + 1
push-few t k l n h = by_test (λ (m : List ℕ). length m ≤ n + 1) t (k ∷ l) l (λ e. omega arith) (λ e. omega arith)

around_few : (g : Grid) (k : ℕ) (l : List ℕ) → length (around_of g k l) ≤ length l + 1 + 1 + 1 + 1
unfolding around_of
around_few g k l =
    push-few (ltb (k / g.nx + 1) g.ny) (k + g.nx) _ (length l + 1 + 1 + 1)
    (push-few (ltb (k % g.nx + 1) g.nx) (k + 1) _ (length l + 1 + 1)
    (push-few (ltb 0 (k / g.nx)) (k - g.nx) _ (length l + 1)
    (push-few (ltb 0 (k % g.nx)) (k - 1) l (length l) (omega arith))))

abbrev Cells : ℕ → List ℕ → Type 0
Cells n l = Each (λ (k : ℕ). k < n) l

around_each : (g : Grid) → Sides g → (k : ℕ) (l : List ℕ) → k < g.ny * g.nx → Cells (g.ny * g.nx) l → Cells (g.ny * g.nx) (around_of g k l)
unfolding around_of
around_each g S k l h c =
    let P : ℕ → Type 0 = λ i. i < g.ny * g.nx in
    push-each P (ltb (k / g.nx + 1) g.ny) (k + g.nx) _ (λ e. up-below g S k h (ltb-true _ _ e))
    (push-each P (ltb (k % g.nx + 1) g.nx) (k + 1) _ (λ e. right-below g S k h (ltb-true _ _ e))
    (push-each P (ltb 0 (k / g.nx)) (k - g.nx) _ (λ e. omega arith)
    (push-each P (ltb 0 (k % g.nx)) (k - 1) l (λ e. omega arith) c)))

-- ---- turn i of a flood over n cells

-- what is on the stack are cells, and four for each cell that is not given up, those on the stack, and the turns so far are not too many
record Sound (n i : ℕ) (s : Flood) : Type 0 where
  each : Cells n s.stack
  long : length s.gone ≡ n
  few : 4 * (n - ones s.gone) + length s.stack + i ≤ 4 * n + 1

module _ (g : Grid) (S : Sides g) (map reach : List ℕ) where
  abbrev size : ℕ
  size = g.ny * g.nx

  visit_sound : (i k : ℕ) (rest gone : List ℕ) → Sound size i (fl (k ∷ rest) gone) → Sound size (i + 1) (visit_of g map reach k rest gone)
  unfolding visit_of Each open_at
  visit_sound i k rest gone h =
      by_test (Sound size (i + 1)) (open_at map reach gone k) _ _
      (λ t. let o = (both (eqb (get_or reach k 0) 1) _ (both (eqb (get_or map k 0) 1) _ t).1).1 in
      let m = ones-mark gone k (let l = h.long in let b = h.each.0 in omega arith) (not-true _ o) in
      let l : length (set gone k 1) ≡ size = length-set gone k 1 ∙ h.long in
      let u = ones_le (set gone k 1) in
      let f = around_few g k rest in
      record { each = around_each g S k rest h.each.0 h.each.1; long = l; few = let w = h.few in omega arith })
      (λ t. record { each = h.each.1; long = h.long; few = let w = h.few in omega arith })

  abbrev SoundRun : ℕ → Run Flood (List ℕ) → Type 0
  SoundRun i (on s) = Sound size i s
  SoundRun i (out v) = Unit

  pop_sound : (i : ℕ) (stack gone : List ℕ) → Sound size i (fl stack gone) → SoundRun (i + 1) (pop_of g map reach stack gone)
  unfolding pop_of
  pop_sound i [] gone h = tt
  pop_sound i (k ∷ rest) gone h = visit_sound i k rest gone h

  step_sound : (i : ℕ) (r : Run Flood (List ℕ)) → SoundRun i r → SoundRun (i + 1) (turn (flood_step g map reach) i r)
  unfolding turn flood_step
  step_sound i (on s) h = pop_sound i s.stack s.gone h
  step_sound i (out v) h = tt

  module _ (k : ℕ) (gone : List ℕ) (K : k < size) (L : length gone ≡ size) where
    start_sound : Sound size 0 (fl (k ∷ []) gone)
    unfolding Each
    start_sound = record { each = (K, tt); long = L; few = let o = ones_le gone in omega arith }

    turns_sound : (i : ℕ) → SoundRun i (loop (turn (flood_step g map reach)) 0 i (on (fl (k ∷ []) gone)))
    turns_sound i =
        loop_both (turn (flood_step g map reach)) (λ (t : ℕ) (u : ℕ). u) (λ (t : ℕ) (r : Run Flood (List ℕ)) (u : ℕ). SoundRun t r) 0 i (omega arith)
        (λ t r u a e h. step_sound t r h) (on (fl (k ∷ []) gone)) 0 start_sound

    left_out : (r : Run Flood (List ℕ)) → SoundRun (flood_turns g) r → r ≡ out (flooded r)
    unfolding flooded
    left_out (on s) h = absurd (let w = h.few in let z : ⊥ = omega arith in z)
    left_out (out v) h = refl

    -- the flood is left before its turns are used up
    pub flood_ends : loop (turn (flood_step g map reach)) 0 (flood_turns g) (on (fl (k ∷ []) gone)) ≡ out (flood_of g map reach k gone)
    unfolding flood_of
    flood_ends = left_out _ (turns_sound (flood_turns g))

-- ---- for the proofs of the functions

-- a cell is popped
module _ (g : Grid) (b s : List ℕ) (len : ℕ) (h : 8 * (g.ny * g.nx) ≤ length b) (k : ℕ) (K : k < g.ny * g.nx) (P : k ≡ get_or s len 0) (free : Bool)
    (O : free ≡ open_at (map_in (g.ny * g.nx) b) (reach_in (g.ny * g.nx) b) (abandoned_in (g.ny * g.nx) b) k) where
  abbrev cells : ℕ
  cells = g.ny * g.nx

  abbrev visited : Flood
  visited = visit_of g (map_in cells b) (reach_in cells b) (get_or s len 0) (stack_of len s) (abandoned_in cells b)

  abbrev Gone : List ℕ → Type 0
  Gone b' = Only (3 * cells) (3 * cells + cells) b b'

  visited_by : (t : Bool) → free ≡ t → visited ≡ cond t (fl (around_of g k (stack_of len s)) (set (abandoned_in cells b) k 1)) (fl (stack_of len s) (abandoned_in cells b))
  unfolding visit_of
  visited_by t e =
      ap (λ (i : ℕ). visit_of g (map_in cells b) (reach_in cells b) i (stack_of len s) (abandoned_in cells b)) (sym P)
      ∙ ap (λ (x : Bool). cond x (fl (around_of g k (stack_of len s)) (set (abandoned_in cells b) k 1)) (fl (stack_of len s) (abandoned_in cells b))) (sym O ∙ e)

  pub visit_open : free ≡ true → (at : ℕ) → at ≡ 3 * cells + k → (i : ℕ) → k ≡ i → (l : List ℕ) → l ≡ around_of g i (stack_of len s) → (fl l (abandoned_in cells (set b at 1)) ≡ visited) × Gone (set b at 1)
  visit_open t at e i c l q = (
    ap (λ (x : List ℕ). fl x (abandoned_in cells (set b at 1))) (q ∙ ap (λ (x : ℕ). around_of g x (stack_of len s)) (sym c))
        ∙ ap (λ (i : ℕ). fl (around_of g k (stack_of len s)) (abandoned_in cells (set b i 1))) e
        ∙ ap (fl (around_of g k (stack_of len s))) (set-within b 1 (3 * cells) (3 * cells + cells) k (omega arith))
        ∙ sym (visited_by true t),
    subst (λ (i : ℕ). Gone (set b i 1)) (sym e) (set-only (3 * cells) (3 * cells + cells) k b 1 (record { start = omega arith; end = omega arith }) (omega arith)),
  )

  pub visit_shut : free ≡ false → (fl (stack_of len s) (abandoned_in cells b) ≡ visited) × Gone b
  visit_shut t = (sym (visited_by false t), only_same (3 * cells) (3 * cells + cells) b (record { start = omega arith; end = omega arith }))

-- ---- the loop

-- after t turns from cell k on, the bytes b₀ have become b, and `len` cells stand in the stack's slice s
pub record Flooding (g : Grid) (b₀ : List ℕ) (k : ℕ) (b s : List ℕ) (len t : ℕ) : Type 0 where
  pub going : Going (turn (flood_step g (map_in (g.ny * g.nx) b₀) (reach_in (g.ny * g.nx) b₀))) 0 (flood_turns g) (on (fl (k ∷ []) (abandoned_in (g.ny * g.nx) b₀)))
      (on (fl (stack_of len s) (abandoned_in (g.ny * g.nx) b))) t
  pub only : Only (3 * (g.ny * g.nx)) (3 * (g.ny * g.nx) + g.ny * g.nx) b₀ b

module _ (g : Grid) (S : Sides g) (b₀ : List ℕ) (h : 8 * (g.ny * g.nx) ≤ length b₀) (k : ℕ) (K : k < g.ny * g.nx) where
  abbrev total : ℕ
  total = g.ny * g.nx

  fits : Fits (3 * total) (3 * total + total) b₀
  fits = record { start = omega arith; end = omega arith }

  pub flooding_none : (s : List ℕ) → get_or s 0 0 ≡ k → Flooding g b₀ k b₀ s 1 0
  unfolding stack_of
  flooding_none s e = record {
    going = subst (λ (x : ℕ). Going (turn (flood_step g (map_in total b₀) (reach_in total b₀))) 0 (flood_turns g) (on (fl (k ∷ []) (abandoned_in total b₀))) (on (fl (x ∷ []) (abandoned_in total b₀))) 0)
        (sym e) (going_none _ 0 (flood_turns g) _);
    only = only_same _ _ b₀ fits;
  }

  module _ (b s : List ℕ) (len t : ℕ) (F : Flooding g b₀ k b s len t) where
    flooding_sound : Sound total t (fl (stack_of len s) (abandoned_in total b))
    flooding_sound = subst (SoundRun g S (map_in total b₀) (reach_in total b₀) t) (sym F.going.is) (turns_sound g S (map_in total b₀) (reach_in total b₀) k (abandoned_in total b₀) K (run_long 3 total b₀ (omega arith)) t)

    -- there is room for the four cells beside the one on top
    pub flooding_asks : 0 < len → 9 * total ≤ length s → (len - 1 + 4 ≤ length s) × (get_or s (len - 1) 0 < total)
    unfolding Each
    flooding_asks l r = (
      let f = flooding_sound.few in let e = stack-long len s in omega arith,
      (subst (Cells total) (stack_pop len s l) flooding_sound.each).0,
    )

    same_map : map_in total b ≡ map_in total b₀
    same_map = only-before _ _ b₀ fits b F.only _ _ (omega arith) (omega arith)

    same-reach : reach_in total b ≡ reach_in total b₀
    same-reach = only-before _ _ b₀ fits b F.only _ _ (omega arith) (omega arith)

    next : 0 < len → flood_step g (map_in total b₀) (reach_in total b₀) t (fl (stack_of len s) (abandoned_in total b))
        ≡ on (visit_of g (map_in total b) (reach_in total b) (get_or s (len - 1) 0) (stack_of (len - 1) s) (abandoned_in total b))
    unfolding flood_step pop_of
    next l =
        ap (λ (x : List ℕ). pop_of g (map_in total b₀) (reach_in total b₀) x (abandoned_in total b)) (stack_pop len s l)
        ∙ ap (λ (x : List ℕ). on (visit_of g x (reach_in total b₀) (get_or s (len - 1) 0) (stack_of (len - 1) s) (abandoned_in total b))) (sym same_map)
        ∙ ap (λ (x : List ℕ). on (visit_of g (map_in total b) x (get_or s (len - 1) 0) (stack_of (len - 1) s) (abandoned_in total b))) (sym same-reach)

    pub flooding_more : t < flood_turns g → 0 < len → (b' s' : List ℕ) (r : ℕ)
        → fl (stack_of r s') (abandoned_in total b') ≡ visit_of g (map_in total b) (reach_in total b) (get_or s (len - 1) 0) (stack_of (len - 1) s) (abandoned_in total b)
        → Only (3 * total) (3 * total + total) b b' → Flooding g b₀ k b' s' r (t + 1)
    flooding_more l z b' s' r e o = record {
      going = going_on _ 0 (flood_turns g) _ _ _ t F.going l (ap on e ∙ sym (next z));
      only = only_more _ _ b₀ fits b F.only b' o;
    }

    result : (gone : List ℕ) → abandoned_in total b ≡ gone → b ≡ abandoned_put total gone b₀
    result gone e = F.only.rest ∙ ap (λ (x : List ℕ). put (3 * total) (3 * total + total) x b₀) e

    pub flooding_out : t < flood_turns g → len ≡ 0 → b ≡ abandoned_put total (flood_of g (map_in total b₀) (reach_in total b₀) k (abandoned_in total b₀)) b₀
    unfolding flood_of flooded flood_step pop_of stack_of
    flooding_out l z = result _ (sym (ap flooded (going_out _ 0 (flood_turns g) _ _ t (abandoned_in total b) F.going l (ap (λ (i : ℕ). pop_of g (map_in total b₀) (reach_in total b₀) (stack_of i s) (abandoned_in total b)) z))))

    pub flooding_end : flood_turns g ≤ t → b ≡ abandoned_put total (flood_of g (map_in total b₀) (reach_in total b₀) k (abandoned_in total b₀)) b₀
    unfolding flood_of flooded
    flooding_end l = result _ (ap flooded (going_end _ 0 (flood_turns g) _ _ t F.going l))

    pub flooding_long : length b ≡ length b₀
    flooding_long = F.only.long

-- the cell c is put on the empty stack
pub first_cell : (s : List ℕ) (v c : ℕ) → 0 < length s → v ≡ c → get_or (set s 0 v) 0 0 ≡ c
first_cell s v c l e = get_or-set_same s 0 v 0 l ∙ e

pub some-room : (g : Grid) → Sides g → (s : List ℕ) → 9 * (g.ny * g.nx) ≤ length s → 0 < length s
some-room g S s h = let r = row_below 0 g.ny g.nx (g.ny * g.nx) S.high (omega arith) in omega (arith, S.wide)

-- ---- lengths

abbrev GoneLong : ℕ → Run Flood (List ℕ) → Type 0
GoneLong n (on s) = length s.gone ≡ n
GoneLong n (out gone) = length gone ≡ n

module _ (g : Grid) (map reach : List ℕ) (n : ℕ) where
  pop_long : (stack gone : List ℕ) → length gone ≡ n → GoneLong n (pop_of g map reach stack gone)
  unfolding pop_of visit_of
  pop_long [] gone h = h
  pop_long (k ∷ rest) gone h =
      by_test (λ (s : Flood). length s.gone ≡ n) (open_at map reach gone k) (fl (around_of g k rest) (set gone k 1)) (fl rest gone) (λ t. length-set gone k 1 ∙ h) (λ t. h)

  step-long : (i : ℕ) (r : Run Flood (List ℕ)) → GoneLong n r → GoneLong n (turn (flood_step g map reach) i r)
  unfolding turn flood_step
  step-long i (on s) h = pop_long s.stack s.gone h
  step-long i (out gone) h = h

  flooded-long : (r : Run Flood (List ℕ)) → GoneLong n r → length (flooded r) ≡ n
  unfolding flooded
  flooded-long (on s) h = h
  flooded-long (out gone) h = h

  pub flood_long : (k : ℕ) (gone : List ℕ) → length gone ≡ n → length (flood_of g map reach k gone) ≡ n
  unfolding flood_of
  flood_long k gone h = flooded-long _ (loop_keeps (turn (flood_step g map reach)) 0 (GoneLong n) (flood_turns g) (λ i r a b l. step-long i r l) (on (fl (k ∷ []) gone)) h)
