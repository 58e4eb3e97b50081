-- The distance map: what no no says, and its squares and roots. Assumes nothing.
use mathlib.Core.Path.{◌≡◌, refl, sym, ap, ◌∙◌}
use mathlib.Core.Bool.{Bool, ◌&&◌}
use mathlib.Core.List.{List, [], ◌∷◌, ◌++◌}
use Prim.Native.Nat.{ℕ, ◌+◌, ◌*◌, ◌≤◌, ◌<◌, zero, suc}
use native.Mathlib.Omega.{arith}
use lib.ListN.{length, drop}
use lib.Dec.{eqb, leb}
use lib.Ieee.{Float}
use borrow.Author.Tests.{leb-true, eqb-false}
use Rattle.loops.proofs.Cases.{by_cases, both}
use Rattle.distance.specs.Least.{MapSides}
use Rattle.distance.specs.Nearest.{listed, transform_of}
use Rattle.distance.specs.Rooted.{rooted_of, distances_of, distance_transform}
use Rattle.distance.proofs.NearestLaws.{transform_at}
use Rattle.std.specs.Prelude.{Result, Ok, Err}
use Rattle.pocket.specs.declared.refusals.Refusal.{Refusal}
use Rattle.pocket.specs.declared.refusals.Refusal.TheVariants.{OutOfRange, NoRegion, NoRaster, TooShort}
use Rattle.pocket.specs.Ranges.{sides_fit}
use Rattle.pocket.specs.Refusals.{Asked, number_of, ask, far_asked}
use Rattle.pocket.specs.Leaves.{unless, OnFar, on_far, distance_map_of}
use Rattle.std.specs.Prelude.{OnOk}
use Rattle.pocket.specs.Answers.{done_by, numbered, of_done}
use Rattle.pocket.proofs.AskedLaws.{ask-none, sides-few, map-sides}

pub record FarRoom (nx ny marks squares distances : ℕ) : Type 0 where
  pub sides : MapSides nx ny
  pub few : ny * nx ≤ 1048576
  pub marked : ny * nx ≤ marks
  pub squared : ny * nx + 3 * nx ≤ squares
  pub rooted : ny * nx ≤ distances

pub far-room : (nx ny marks squares distances : ℕ) → far_asked nx ny marks squares distances ≡ Ok tt → FarRoom nx ny marks squares distances
unfolding far_asked
far-room nx ny marks squares distances e =
    let n : ℕ = ny * nx in
    let outer : Bool = leb n marks && (leb (n + 3 * nx) squares && leb n distances) in
    let a = ask-none NoRaster (sides_fit nx ny) (ask TooShort outer (Ok tt)) e in
    let b = both (leb n marks) (leb (n + 3 * nx) squares && leb n distances) (ask-none TooShort outer (Ok tt) a.1).0 in
    let d = both (leb (n + 3 * nx) squares) (leb n distances) b.1 in
    record {
      sides = map-sides nx ny a.0;
      few = sides-few nx ny a.0;
      marked = leb-true n marks b.0;
      squared = leb-true (n + 3 * nx) squares d.0;
      rooted = leb-true n distances d.1;
    }

listed_same : {A : Type 0} (f g : ℕ → A) (n : ℕ) → ((k : ℕ) → k < n → f k ≡ g k) → listed n f ≡ listed n g
unfolding listed
listed_same f g zero h = refl
listed_same f g (suc n) h = λ t. listed_same f g n (λ k b. h k (omega arith)) t ++ (h n (omega arith) t ∷ [])

-- the roots of the squares that `transform` leaves are the Rust's distances
pub distances_are : (mark : ℕ) (m : List ℕ) (nx ny : ℕ) (q : List ℕ) (d : List Float) → distances_of (ny * nx) (transform_of mark m nx ny q) d ≡ distance_transform mark m nx ny ++ drop (ny * nx) d
unfolding distances_of distance_transform
distances_are mark m nx ny q d = ap (λ (l : List Float). l ++ drop (ny * nx) d) (listed_same _ _ (ny * nx) (λ k b. ap rooted_of (transform_at mark m nx ny q k b)))

pub far-done : (mark : ℕ) (m : List ℕ) (nx ny : ℕ) (q q' : List ℕ) (d d' : List Float) → q' ≡ transform_of mark m nx ny q → d' ≡ distances_of (ny * nx) q' d
    → on_far {A = Asked} (Ok tt) q' d' ≡ on_far {A = Asked} (Ok tt) (transform_of mark m nx ny q) (distance_transform mark m nx ny ++ drop (ny * nx) d)
far-done mark m nx ny q q' d d' e h =
    ap (λ (l : List Float). on_far {A = Asked} (Ok tt) q' l) (h ∙ ap (λ (w : List ℕ). distances_of (ny * nx) w d) e ∙ distances_are mark m nx ny q d)
    ∙ ap (λ (w : List ℕ). on_far {A = Asked} (Ok tt) w (distance_transform mark m nx ny ++ drop (ny * nx) d)) e

-- only what was finished is told as 0
number-told : (why : Refusal) → number_of why ≡ 0 → ⊥
number-told OutOfRange e = let z : ⊥ = omega arith in z
number-told NoRegion e = let z : ⊥ = omega arith in z
number-told NoRaster e = let z : ⊥ = omega arith in z
number-told TooShort e = let z : ⊥ = omega arith in z

pub far_finished : (a : Result Unit Refusal) (P : Type 0) (x : ℕ) → OnOk a P → x ≡ of_done a → x ≡ 0 → P
unfolding done_by numbered
far_finished (Ok u) P x h told z = h
far_finished (Err why) P x h told z = absurd (number-told why (sym told ∙ z))
