-- What the proofs of loops and regions cite. Assumes nothing.
use mathlib.Core.Path.{◌≡◌, sym, ap, ◌∙◌, subst}
use mathlib.Core.Bool.{Bool, true, false, not}
use mathlib.Core.List.{List}
use Prim.Native.Nat.{ℕ, ◌+◌, ◌-◌, ◌*◌, ◌≤◌, ◌<◌}
use native.Mathlib.Omega.{arith}
use lib.ListN.{length, get_or, take, drop, length-take, length-drop}
use Rattle.std.proofs.lemmas.List.{get_or-take}
use Rattle.std.proofs.lemmas.Grind.{get_or_after_one}
use lib.Ieee.{Float}
use borrow.Author.Tests.{ne_eqb}
use Rattle.loops.specs.Loop.{loop}
use Rattle.loops.proofs.LoopLaws.{loop-none, loop_more, loop_keeps, loop_split}
use Rattle.geom.specs.Region.{vertex_of, before, point_in_loop, size_of, start_of, Held, inside_loop, in_island, contains_of, loop_bounds, bounds_of}
use Rattle.geom.specs.declared.vec2.Vec2.{Vec2}
use Rattle.geom.specs.declared.region.Corners.{Corners}
use Rattle.geom.specs.declared.region.Region.{Region}

pub none_inside : (vs : List Float) (at n : ℕ) (p : Vec2) → n ≡ 0 → false ≡ point_in_loop vs at n p
unfolding point_in_loop
none_inside vs at n p e = rw e (loop-none _ 0 false)

module _ (vs : List Float) (at n : ℕ) where
  pub before-first : (n ≡ 0 → ⊥) → vertex_of vs (at + n - 1) ≡ vertex_of vs (at + before n 0)
  before-first h = ap (vertex_of vs) (let e : at + n - 1 ≡ at + (n - 1) = omega arith in e)

  pub before-next : (i : ℕ) → vertex_of vs (at + i) ≡ vertex_of vs (at + before n (i + 1))
  before-next i = rw (ne_eqb (i + 1) 0 (λ e. omega arith)) (ap (λ (k : ℕ). vertex_of vs (at + k)) (let e : i ≡ i + 1 - 1 = omega arith in e))

-- ---- where the loops of a region start

abbrev pub region : ℕ → ℕ → ℕ → Region
region at first loops = record { at = at; first = first; loops = loops }

module _ (lens : List ℕ) (g : Region) where
  pub start_first : g.at ≡ start_of lens g 0
  unfolding start_of
  start_first = loop-none (λ k s. s + size_of lens g k) 0 g.at

  pub size_first : get_or lens g.first 0 ≡ size_of lens g 0
  size_first = ap (λ (k : ℕ). get_or lens k 0) (let e : g.first ≡ g.first + 0 = omega arith in e)

  pub start-next : (l : ℕ) → start_of lens g l + size_of lens g l ≡ start_of lens g (l + 1)
  unfolding start_of
  start-next l = loop_more (λ k s. s + size_of lens g k) 0 l g.at (omega arith)

  start_le : (l k : ℕ) → l ≤ k → start_of lens g l ≤ start_of lens g k
  unfolding start_of
  start_le l k h =
      let f : ℕ → ℕ → ℕ = λ k s. s + size_of lens g k in
      let b = loop f 0 l g.at in
      subst (λ (n : ℕ). b ≤ n) (sym (loop_split f 0 l k g.at (omega arith) h)) (loop_keeps f l (λ (n : ℕ). b ≤ n) k (λ i s a c p. omega arith) b (omega arith))

  -- loop l ends before the region does
  pub loop-within : (l : ℕ) → l < g.loops → start_of lens g l + size_of lens g l ≤ start_of lens g g.loops
  loop-within l k = omega (arith, start-next l, start_le (l + 1) g.loops (omega arith))

  -- the vertices of loop l are lent
  pub loop-held : (vs : List Float) → Held vs lens g → (l : ℕ) → l < g.loops → 2 * (start_of lens g l + size_of lens g l) ≤ length vs
  loop-held vs h l k = omega (arith, loop-within l k, h.vertices)

  -- the same of the first loop, whose size is n
  pub first-held : (vs : List Float) → Held vs lens g → (n : ℕ) → n ≡ get_or lens g.first 0 → 2 * (g.at + n) ≤ length vs
  first-held vs h n e = omega (arith, start_first, size_first, loop-held vs h 0 h.some)

  -- the second starts where the first ends
  pub start_second : (n : ℕ) → n ≡ get_or lens g.first 0 → g.at + n ≡ start_of lens g 1
  start_second n e = omega (arith, start_first, size_first, start-next 0)

-- loop l, by where it starts and its size
pub inside_is : (vs : List Float) (lens : List ℕ) (g : Region) (p : Vec2) (l at n : ℕ) (r : Bool) → at ≡ start_of lens g l → n ≡ size_of lens g l → r ≡ point_in_loop vs at n p → r ≡ inside_loop vs lens g p l
unfolding inside_loop
inside_is vs lens g p l at n r a b e = e ∙ rw (a, b)

pub inside-first : (vs : List Float) (lens : List ℕ) (g : Region) (p : Vec2) (n : ℕ) (r : Bool) → n ≡ get_or lens g.first 0 → r ≡ point_in_loop vs g.at n p → r ≡ inside_loop vs lens g p 0
inside-first vs lens g p n r a e = inside_is vs lens g p 0 g.at n r (start_first lens g) (a ∙ size_first lens g) e

module _ (vs : List Float) (lens : List ℕ) (g : Region) (p : Vec2) (o : Bool) (O : o ≡ inside_loop vs lens g p 0) where
  pub contains_in : o ≡ true → (i : Bool) → i ≡ in_island vs lens g p → not i ≡ contains_of vs lens g p
  unfolding contains_of
  contains_in e i h = rw (← O, e, h)

  pub contains_out : o ≡ false → false ≡ contains_of vs lens g p
  unfolding contains_of
  contains_out e = rw (← O, e)

pub bounds-is : (vs : List Float) (lens : List ℕ) (g : Region) (n : ℕ) (r : Corners) → n ≡ get_or lens g.first 0 → r ≡ loop_bounds vs g.at n → r ≡ bounds_of vs lens g
unfolding bounds_of
bounds-is vs lens g n r a e = e ∙ ap (λ (k : ℕ). loop_bounds vs k n) (start_first lens g) ∙ ap (loop_bounds vs (start_of lens g 0)) (a ∙ size_first lens g)

-- ---- the loop whose length stands at k in the lengths of a region's loops

module _ (lens sizes : List ℕ) (g : Region) (count : length sizes ≡ g.loops) (each : (l : ℕ) → l < g.loops → get_or sizes l 0 ≡ size_of lens g l) (k : ℕ) (K : k < length sizes) where
  pub turn-loop : k < g.loops
  turn-loop = omega (arith, count)

  pub turn_size : get_or sizes k 0 ≡ size_of lens g k
  turn_size = each k turn-loop

  pub turn-held : (vs : List Float) → Held vs lens g → (at : ℕ) → at ≡ start_of lens g k → 2 * (at + get_or sizes k 0) ≤ length vs
  turn-held vs h at e = omega (arith, loop-held lens g vs h k turn-loop, turn_size)

  pub turn_next : (at : ℕ) → at ≡ start_of lens g k → at + get_or sizes k 0 ≡ start_of lens g (k + 1)
  turn_next at e = omega (arith, start-next lens g k, turn_size)

-- the loops behind the first one
module _ (sizes : List ℕ) (k : ℕ) where
  abbrev islands : List ℕ
  islands = take (length sizes - 1) (drop 1 sizes)

  pub island-in : k < length islands → k + 1 < length sizes
  island-in h = omega (arith, length-take (length sizes - 1) (drop 1 sizes), length-drop 1 sizes)

  pub island_is : k < length islands → get_or islands k 0 ≡ get_or sizes (k + 1) 0
  island_is h =
      get_or-take (length sizes - 1) (drop 1 sizes) k 0 (let z : k < length sizes - 1 = omega (arith, island-in h) in z)
      ∙ get_or_after_one sizes k 0
      ∙ ap (λ (n : ℕ). get_or sizes n 0) (let z : 1 + k ≡ k + 1 = omega arith in z)
