-- Every segment of `march` joins edges between cells of the grid. Assumes nothing.
use Rattle.std.proofs.Common.{◌≡◌, ℕ, ◌+◌, ◌-◌, ◌*◌, ◌<◌, Bool, true, false, cond, ◌||◌, eqb, List, [], sym, subst, add-mul, arith}
use lib.Ieee.{Float}
use Rattle.loops.proofs.EachLaws.{each_more}
use Rattle.loops.specs.Each.{Each}
use Rattle.loops.proofs.LoopLaws.{loop_keeps}
use Rattle.raster.specs.Grid.{Sides, numbered}
use Rattle.raster.specs.declared.grid.Grid.{Grid}
use Rattle.contours.specs.Edge.{Between, crossing_at}
use Rattle.contours.specs.Square.{InGrid, Joins, square_at, has_nan, code_of, edges_of, segment, cut_of, saddle_of, joined_of, corners_of, turned_of, directed_of}
use Rattle.contours.specs.March.{pushed, pushed_two, march_code, march_square, march_row, march}
use Rattle.contours.specs.declared.edge.EdgeNo.{EdgeNo}
use Rattle.contours.specs.declared.square.Square.{Square}
use Rattle.contours.specs.declared.square.Edges.{Edges}
use Rattle.contours.specs.declared.square.Segment.{Segment}
use Rattle.contours.specs.declared.square.Saddle.{Saddle}
use Rattle.contours.proofs.EdgeLaws.{across_between, upward_between, edge-below}
use Rattle.contours.proofs.SquareLaws.{last-below}

-- ---- the edges that are joined

-- whichever way a test goes
either_one : {A : Type 0} (P : A → Type 0) (b : Bool) {x y : A} → P x → P y → P (cond b x y)
either_one P true p q = p
either_one P false p q = q

-- all four edges lie between cells of the grid
record Framed (g : Grid) (e : Edges) : Type 0 where
  bottom : Between g e.bottom
  right : Between g e.right
  top : Between g e.top
  left : Between g e.left

framed : (g : Grid) (i j : ℕ) → InGrid g i j → Framed g (edges_of g i j)
unfolding edges_of numbered
framed g i j h =
    let l = last-below g i j h in
    record {
      bottom = across_between g (numbered g i j) (omega (arith, h.column));
      right = upward_between g (numbered g (i + 1) j) (omega arith);
      top = across_between g (numbered g i (j + 1)) (omega (arith, add-mul j 1 g.nx));
      left = upward_between g (numbered g i j) (omega arith);
    }

module _ (g : Grid) (e : Edges) (r : Framed g e) where
  joins : {a b : EdgeNo} → Between g a → Between g b → Joins g (segment a b)
  joins p q = record { from = p; to = q }

  cut_framed : (code : ℕ) → Joins g (cut_of e code)
  unfolding cut_of
  cut_framed code =
      either_one (Joins g) (eqb code 1) (joins r.bottom r.left)
      (either_one (Joins g) (eqb code 2) (joins r.right r.bottom)
      (either_one (Joins g) (eqb code 3) (joins r.right r.left)
      (either_one (Joins g) (eqb code 4) (joins r.top r.right)
      (either_one (Joins g) (eqb code 6) (joins r.top r.bottom)
      (either_one (Joins g) (eqb code 7) (joins r.top r.left)
      (either_one (Joins g) (eqb code 8) (joins r.left r.top)
      (either_one (Joins g) (eqb code 9) (joins r.bottom r.top)
      (either_one (Joins g) (eqb code 11) (joins r.right r.top)
      (either_one (Joins g) (eqb code 12) (joins r.left r.right)
      (either_one (Joins g) (eqb code 13) (joins r.bottom r.right)
      (joins r.left r.bottom)))))))))))

  abbrev JoinsTwo : Saddle → Type 0
  JoinsTwo s = Joins g s.first × Joins g s.second

  saddle_framed : (code : ℕ) (t : Bool) → Joins g (saddle_of e code t).first × Joins g (saddle_of e code t).second
  unfolding saddle_of
  saddle_framed code t =
      either_one JoinsTwo (eqb code 5)
      (either_one JoinsTwo t
      (joins r.bottom r.left, joins r.top r.right)
      (joins r.bottom r.right, joins r.top r.left))
      (either_one JoinsTwo t
      (joins r.right r.bottom, joins r.left r.top)
      (joins r.right r.top, joins r.left r.bottom))

pub cut_joins : (g : Grid) (i j : ℕ) (e : Edges) (code : ℕ) (s : Segment) → InGrid g i j → e ≡ edges_of g i j → s ≡ cut_of e code → Joins g s
cut_joins g i j e code s h E S = subst (Joins g) (sym S) (cut_framed g e (subst (Framed g) (sym E) (framed g i j h)) code)

pub saddle_joins : (g : Grid) (i j : ℕ) (e : Edges) (code : ℕ) (t : Bool) (s : Saddle) → InGrid g i j → e ≡ edges_of g i j → s ≡ saddle_of e code t → Joins g s.first × Joins g s.second
saddle_joins g i j e code t s h E S =
    subst (λ (z : Saddle). Joins g z.first × Joins g z.second) (sym S) (saddle_framed g e (subst (Framed g) (sym E) (framed g i j h)) code t)

module _ (g : Grid) (f : List Float) (level : Float) where
  directed_joins : (q : Square) (s : Segment) → Joins g s → Joins g (directed_of g f level q s)
  unfolding directed_of
  directed_joins q s h = either_one (Joins g) (turned_of (corners_of g q) level (crossing_at g f level s.from) (crossing_at g f level s.to)) (record { from = h.to; to = h.from }) h

  pushed_joins : (q : Square) (s : Segment) (l : List Segment) → Joins g s → Each (Joins g) l → Each (Joins g) (pushed g f level q s l)
  unfolding pushed
  pushed_joins q s l h e = each_more (Joins g) l (directed_of g f level q s) e (directed_joins q s h)

  code_joins : (q : Square) (code : ℕ) (l : List Segment) → InGrid g q.i q.j → Each (Joins g) l → Each (Joins g) (march_code g f level q code l)
  unfolding march_code pushed_two
  code_joins q code l h e =
      let r = framed g q.i q.j h in
      let s = saddle_framed g (edges_of g q.i q.j) r code (joined_of q level) in
      either_one (Each (Joins g)) (eqb code 0 || eqb code 15) e
      (either_one (Each (Joins g)) (eqb code 5 || eqb code 10)
      (pushed_joins q _ _ s.1 (pushed_joins q _ l s.0 e))
      (pushed_joins q _ l (cut_framed g (edges_of g q.i q.j) r code) e))

  pub square_joins : (i j : ℕ) (l : List Segment) → InGrid g i j → Each (Joins g) l → Each (Joins g) (march_square g f level i j l)
  unfolding march_square square_at
  square_joins i j l h e = either_one (Each (Joins g)) (has_nan (square_at g f i j)) e (code_joins (square_at g f i j) (code_of (square_at g f i j) level) l h e)

  pub row_joins : (j : ℕ) (l : List Segment) → j + 1 < g.ny → Each (Joins g) l → Each (Joins g) (march_row g f level j l)
  unfolding march_row
  row_joins j l h e =
      loop_keeps (λ i. march_square g f level i j) 0 (Each (Joins g)) (g.nx - 1) (λ i s a b d. square_joins i j s (record { column = omega arith; row = h }) d) l e

  -- every segment joins two edges between cells of the grid
  pub march_joins : Each (Joins g) (march g f level)
  unfolding march Each
  march_joins = loop_keeps (march_row g f level) 0 (Each (Joins g)) (g.ny - 1) (λ j s a b d. row_joins j s (omega arith) d) [] tt

pub joins_below : (g : Grid) (s : Segment) → Sides g → Joins g s → (s.from.0 < 2 * (g.ny * g.nx)) × (s.to.0 < 2 * (g.ny * g.nx))
joins_below g s h j = (edge-below g s.from h j.from, edge-below g s.to h j.to)
