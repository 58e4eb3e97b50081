-- What the proofs of `worth` cite, and document 01's two examples. Assumes nothing.
use mathlib.Core.Path.{◌≡◌, refl, sym, ap, ◌∙◌}
use mathlib.Core.Bool.{true, false, not}
use mathlib.Core.List.{List, [], ◌∷◌, ◌++◌, map}
use Prim.Native.Nat.{ℕ, zero, suc, ◌+◌, ◌-◌, ◌≤◌, ◌<◌, max}
use native.Mathlib.Omega.{arith}
use lib.ListN.{length, get_or, length-append, get_or-append}
use lib.Seq.{get_or_at}
use lib.Dec.{ltb, leb}
use lib.Ieee.{Float, binary64, of_bits, to_unsigned, add, mul, div}
use borrow.Author.Tests.{ltb-true, ltb-false, lt-ltb, le-ltb, le-leb, lt-leb, not-true}
use Rattle.loops.proofs.EachLaws.{map_more}
use Rattle.loops.specs.Loop.{loop}
use Rattle.loops.proofs.Cases.{by_cases, neither}
use Rattle.numbers.specs.Small.{f1, c05}
use Rattle.geom.specs.Vec.{f0, distance_of}
use Rattle.geom.specs.declared.vec2.Vec2.{Vec2}
use Rattle.events.specs.Chunk.{Point}
use Rattle.events.specs.Read.{spot_at, point_at, points_from}
use Rattle.passes.specs.Simulate.{nowhere}
use Rattle.passes.specs.Guide.{add_leg, path_length}
use Rattle.passes.specs.Worth.{wanted_of, spots_from, worth_of}

module _ (ts : List Float) (first : ℕ) where
  pub spots-length : (n : ℕ) → length (spots_from ts first n) ≡ n
  unfolding spots_from
  spots-length zero = refl
  spots-length (suc n) = omega (arith, length-append (spots_from ts first n) (spot_at ts (first + n) ∷ []), spots-length n)

  pub spots_get : (n k : ℕ) → k < n → get_or (spots_from ts first n) k nowhere ≡ spot_at ts (first + k)
  unfolding spots_from
  spots_get zero k h = absurd (let z : ⊥ = omega arith in z)
  spots_get (suc n) k h =
      by_cases (ltb k n)
      (λ b. let l = ltb-true k n b in
      get_or-append (spots_from ts first n) (spot_at ts (first + n) ∷ []) nowhere k (omega (arith, spots-length n)) ∙ spots_get n k l)
      (λ b. let l = ltb-false k n b in
      let e : n ≡ k = omega arith in
      get_or_at (spots_from ts first n) (spot_at ts (first + n)) [] nowhere k (spots-length n ∙ e) ∙ ap (λ (i : ℕ). spot_at ts (first + i)) e)

  -- the places of the points that the triples are
  pub spots_are : (n : ℕ) → spots_from ts first n ≡ map (λ (p : Point). p.at) (points_from ts first n)
  unfolding spots_from
  spots_are zero = refl
  spots_are (suc n) = ap (λ (l : List Vec2). l ++ (spot_at ts (first + n) ∷ [])) (spots_are n) ∙ sym (map_more (λ (p : Point). p.at) (points_from ts first n) (point_at ts (first + n)))

  module _ (n : ℕ) where
    pub spots_leg : (k : ℕ) (t : Float) (a b : Vec2) (d : Float) → 1 ≤ k → k < n → a ≡ spot_at ts (first + k - 1) → b ≡ spot_at ts (first + k) → d ≡ distance_of a b → add binary64 t d ≡ add_leg (spots_from ts first n) k t
    unfolding add_leg
    spots_leg k t a b d l h A B D =
        let p : a ≡ get_or (spots_from ts first n) (k - 1) nowhere =
        A ∙ ap (spot_at ts) (let z : first + k - 1 ≡ first + (k - 1) = omega arith in z) ∙ sym (spots_get n (k - 1) (omega arith)) in
        let q : b ≡ get_or (spots_from ts first n) k nowhere = B ∙ sym (spots_get n k h) in
        rw (← p, ← q, ← D)

    pub spots-total : (t : Float) → t ≡ loop (add_leg (spots_from ts first n)) 1 n f0 → t ≡ path_length (spots_from ts first n)
    unfolding path_length
    spots-total t e = rw (spots-length n) e

-- ---- worth

pub wanted-is : (long cell : Float) (m : ℕ) → m ≡ to_unsigned 64 (div binary64 (mul binary64 c05 long) cell) → (n : ℕ) → n ≡ max m 4 → n ≡ wanted_of long cell
unfolding wanted_of
wanted-is long cell m M n N = rw (← M) N

pub four_least : (m : ℕ) → m < 4 → 4 ≡ max m 4
four_least m h = omega arith

pub four_over : (m : ℕ) → 4 ≤ m → m ≡ max m 4
four_over m h = omega arith

module _ (cell : Float) (ts : List Float) (first n removed : ℕ) (long : Float) (L : long ≡ path_length (spots_from ts first n)) (least : ℕ) (W : least ≡ wanted_of long cell) where
  pub worth-few : removed < least → false ≡ worth_of cell (spots_from ts first n) removed
  unfolding worth_of
  worth-few h = rw (← L, ← W, lt-ltb removed least h)

  pub worth_by : least ≤ removed → leb 2 n ≡ worth_of cell (spots_from ts first n) removed
  unfolding worth_of
  worth_by h = rw (← L, ← W, le-ltb removed least h, spots-length ts first n) (two n)
    where
      two : (k : ℕ) → leb 2 k ≡ not (ltb k 2)
      two k =
          by_cases (ltb k 2)
          (λ b. let l = ltb-true k 2 b in rw (b, lt-leb 2 k l))
          (λ b. let l = ltb-false k 2 b in rw (b, le-leb 2 k l))

-- a pass that is worth it has two points at least
pub worth-points : (cell : Float) (ts : List Float) (first n removed : ℕ) → worth_of cell (spots_from ts first n) removed ≡ true → 2 ≤ n
unfolding worth_of
worth-points cell ts first n removed e =
    let d = neither (ltb removed (wanted_of (path_length (spots_from ts first n)) cell)) (ltb (length (spots_from ts first n)) 2) (not-true _ e) in
    omega (arith, spots-length ts first n, ltb-false (length (spots_from ts first n)) 2 d.1)

-- ---- document 01: with cell 1, length 100 wants 5 and length 60 wants 4

pub hundred_wants : wanted_of (of_bits binary64 0x4059_0000_0000_0000) f1 ≡ 5
unfolding wanted_of of_bits mul div to_unsigned
hundred_wants = refl

pub sixty_wants : wanted_of (of_bits binary64 0x404e_0000_0000_0000) f1 ≡ 4
unfolding wanted_of of_bits mul div to_unsigned
sixty_wants = refl
