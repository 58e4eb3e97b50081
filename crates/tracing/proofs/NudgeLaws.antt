-- A point looked for round another, and points pulled in one after another. Assumes nothing.
use mathlib.Core.Path.{◌≡◌, refl, sym, ap, ◌∙◌}
use mathlib.Core.Bool.{Bool, true, false}
use mathlib.Core.List.{List, [], ◌∷◌, ◌++◌, map, map-append}
use Prim.Native.Nat.{ℕ, zero, suc, ◌+◌, ◌*◌, ◌≤◌, ◌<◌}
use native.Mathlib.Omega.{arith}
use lib.ListN.{length}
use lib.Dec.{eqb}
use lib.Ieee.{Float}
use borrow.Author.Tests.{eqb-true, eqb-false}
use Rattle.loops.specs.Loop.{on, turn}
use Rattle.loops.proofs.Cases.{by_cases}
use Rattle.loops.proofs.LoopLaws.{Going, going_on, going_out, going_end, loop_both}
use Rattle.geom.specs.Points.{points, put_point}
use Rattle.geom.specs.Region.{vertex_of}
use Rattle.geom.specs.declared.vec2.Vec2.{Vec2}
use Rattle.geom.proofs.PointLaws.{put-length, put-here, put_there}
use Rattle.pieces.specs.Piece.{Piece, row_at, piece_of, pieces_at, end_of}
use Rattle.tracing.specs.Ring.{around_of, looked_end, placed_by, placed_end, look_at, look_round, look_farther, nudge_inside, nudged_piece, nudge_put, nudge_all}
use Rattle.std.specs.Prelude.{Option, Some, None}

-- ---- one point

module _ (allowed : Vec2 → Bool) (cell : Float) (q : Vec2) where
  module _ (r k : ℕ) (g : Going (turn (look_at allowed cell q r)) 0 16 (on None) (on None) k) (p : Vec2) (a : Bool) (P : p ≡ around_of cell q r k) (A : a ≡ allowed p) where
    tested : allowed (around_of cell q r k) ≡ a
    tested = ap allowed (sym P) ∙ sym A

    pub looked-at : k < 16 → a ≡ true → Some p ≡ look_round allowed cell q r
    unfolding look_round looked_end look_at
    looked-at h e = ap (λ (x : Vec2). Some x) P ∙ sym (ap looked_end (going_out (look_at allowed cell q r) 0 16 (on None) None k (Some (around_of cell q r k)) g h (rw (tested ∙ e))))

    pub looked-on : k < 16 → a ≡ false → Going (turn (look_at allowed cell q r)) 0 16 (on None) (on None) (k + 1)
    unfolding look_at
    looked-on h e = going_on (look_at allowed cell q r) 0 16 (on None) None None k g h (rw (tested ∙ e))

  pub looked-none : (r k : ℕ) → Going (turn (look_at allowed cell q r)) 0 16 (on None) (on None) k → 16 ≤ k → None ≡ look_round allowed cell q r
  unfolding look_round looked_end
  looked-none r k g h = ap looked_end (going_end (turn (look_at allowed cell q r)) 0 16 (on None) (on None) k g h)

  abbrev Farther : ℕ → Type 0
  Farther r = Going (turn (look_farther allowed cell q)) 1 9 (on q) (on q) r

  pub nudge_none : (a : Bool) → a ≡ allowed q → a ≡ true → q ≡ nudge_inside allowed cell q
  unfolding nudge_inside
  nudge_none a A e = rw (sym A ∙ e)

  module _ (a : Bool) (A : a ≡ allowed q) (e : a ≡ false) (r : ℕ) (g : Farther r) where
    pub nudge_to : r < 9 → (n : Option Vec2) (p : Vec2) → n ≡ look_round allowed cell q r → n ≡ Some p → p ≡ nudge_inside allowed cell q
    unfolding nudge_inside placed_end look_farther placed_by
    nudge_to h n p N t =
        rw (sym A ∙ e) (sym (ap placed_end (going_out (look_farther allowed cell q) 1 9 (on q) q r p g h (ap (placed_by q) (sym N ∙ t)))))

    pub nudge_end : 9 ≤ r → q ≡ nudge_inside allowed cell q
    unfolding nudge_inside placed_end
    nudge_end h = rw (sym A ∙ e) (ap placed_end (going_end (turn (look_farther allowed cell q)) 1 9 (on q) (on q) r g h))

  pub nudge_on : (r : ℕ) → Farther r → r < 9 → (n : Option Vec2) → n ≡ look_round allowed cell q r → n ≡ None → Farther (r + 1)
  unfolding look_farther placed_by
  nudge_on r g h n N t = going_on (look_farther allowed cell q) 1 9 (on q) q q r g h (sym (ap (placed_by q) (sym N ∙ t)))

-- ---- all points

-- the first k points are pulled in, the others as they were
record Pulled (f : Vec2 → Vec2) (k : ℕ) (pts pts' : List Float) : Type 0 where
  done : (j : ℕ) → j < k → vertex_of pts' j ≡ f (vertex_of pts j)
  rest : (j : ℕ) → k ≤ j → vertex_of pts' j ≡ vertex_of pts j
  long : length pts' ≡ length pts

pulled : (f : Vec2 → Vec2) (m : ℕ) (pts : List Float) → 2 * m ≤ length pts → Pulled f m pts (nudge_all f m pts)
unfolding nudge_all nudge_put
pulled f m pts l =
    loop_both (nudge_put f) (nudge_put f) (λ k s u. Pulled f k pts s) 0 m (omega arith)
    (λ k s u a b q. let p = f (vertex_of s k) in record {
      done = λ j h. by_cases (eqb j k)
          (λ e. let z = eqb-true j k e in
          ap (vertex_of (put_point k p s)) z ∙ put-here k p s (omega (arith, q.long)) ∙ ap f (q.rest k (omega arith)) ∙ ap (λ (i : ℕ). f (vertex_of pts i)) (sym z))
          (λ e. let d = eqb-false j k e in put_there k p s j d ∙ q.done j (omega arith));
      rest = λ j h. put_there k p s j (λ e. omega arith) ∙ q.rest j (omega arith);
      long = put-length k p s ∙ q.long;
    })
    pts pts (record { done = λ j h. absurd (let z : ⊥ = omega arith in z); rest = λ j h. refl; long = refl })

points_pulled : (f : Vec2 → Vec2) (m a n : ℕ) (pts pts' : List Float) → Pulled f m pts pts' → a + n ≤ m → points a n pts' ≡ map f (points a n pts)
unfolding points
points_pulled f m a zero pts pts' h l = refl
points_pulled f m a (suc n) pts pts' h l =
    ap (λ (q : List Vec2). q ++ (vertex_of pts' (a + n) ∷ [])) (points_pulled f m a n pts pts' h (omega arith))
    ∙ ap (λ (v : Vec2). map f (points a n pts) ++ (v ∷ [])) (h.done (a + n) (omega arith))
    ∙ sym (map-append f (points a n pts) (vertex_of pts (a + n) ∷ []))

-- the pieces whose points are among the first m
pub pieces_pulled : (f : Vec2 → Vec2) (m c : ℕ) (rows : List ℕ) (pts : List Float) → 2 * m ≤ length pts → ((k : ℕ) → k < c → end_of (row_at rows k) ≤ m)
    → pieces_at c rows (nudge_all f m pts) ≡ map (nudged_piece f) (pieces_at c rows pts)
unfolding pieces_at piece_of
pieces_pulled f m zero rows pts l h = refl
pieces_pulled f m (suc c) rows pts l h =
    let r = row_at rows c in
    ap (λ (q : List Piece). q ++ (piece_of r (nudge_all f m pts) ∷ [])) (pieces_pulled f m c rows pts l (λ k b. h k (omega arith)))
    ∙ ap (λ (q : List Vec2). map (nudged_piece f) (pieces_at c rows pts) ++ ((let p : Piece = record { points = q; closed = r.closed } in p) ∷ []))
    (points_pulled f m r.first r.points pts (nudge_all f m pts) (pulled f m pts l) (h c (omega arith)))
    ∙ sym (map-append (nudged_piece f) (pieces_at c rows pts) (piece_of r pts ∷ []))

pub all-long : (f : Vec2 → Vec2) (m : ℕ) (pts : List Float) → 2 * m ≤ length pts → length (nudge_all f m pts) ≡ length pts
all-long f m pts l = (pulled f m pts l).long
