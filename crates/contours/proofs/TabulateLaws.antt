-- The words step by step: the segments in front, the next edges cleared, the tables filled. Assumes nothing.
use Rattle.std.proofs.Common.{◌≡◌, ℕ, ◌-◌, ◌*◌, List, length, replicate, sym, refl, ap, ◌∙◌, subst, arith}
use lib.ListN.{length-replicate}
use lib.Ieee.{Float}
use borrow.Rule.Slice.PartMut.{put_mid}
use Rattle.loops.proofs.EachLaws.{each_all}
use Rattle.loops.specs.Each.{Each, over}
use Rattle.loops.specs.Regions.{Fits, within, put}
use Rattle.loops.proofs.RegionLaws.{region-long, put_is, put_back, put-before, put-length}
use Rattle.raster.specs.Grid.{Over}
use Rattle.raster.specs.declared.grid.Grid.{Grid}
use Rattle.contours.specs.Square.{Joins}
use Rattle.contours.specs.March.{segments_of, march, Gathered}
use Rattle.contours.specs.Chain.{tables, inserted, tables_of}
use Rattle.contours.specs.Edge.{nothing}
use Rattle.contours.specs.Traced.{segments_at, Below, Listed, Inserted, Sized, Tabled}
use Rattle.contours.specs.Places.{next_at, rows_at, words_end, segments_in, next_in}
use Rattle.contours.specs.declared.square.Segment.{Segment}
use Rattle.contours.proofs.JoinLaws.{march_joins, joins_below}

-- w is what is lent, r the part that `march` filled; then the next edges and the marks are cleared
module _ (g : Grid) (f : List Float) (level : Float) (n m : ℕ) (w marks r : List ℕ) (h : Over g (length f)) (z : Sized g n w marks) (t : Gathered (march g f level) (2 * (g.ny * g.nx)) (within 0 (next_at n) w) m r) where
  abbrev marched : List ℕ
  marched = put 0 (next_at n) r w

  front_fits : Fits 0 (next_at n) w
  front_fits = let l = z.words_long in record { start = omega arith; end = omega arith }

  front_long : length r ≡ next_at n - 0
  unfolding within
  front_long = t.long ∙ region-long 0 (next_at n) w front_fits

  marched_long : length marched ≡ words_end n
  marched_long = put-length 0 (next_at n) w r front_fits front_long ∙ z.words_long

  next_fits : Fits (next_at n) (rows_at n) marched
  next_fits = let l = marched_long in record { start = omega arith; end = omega arith }

  pub next_size : length (within (next_at n) (rows_at n) marched) ≡ 2 * n
  unfolding within
  next_size = region-long (next_at n) (rows_at n) marched next_fits ∙ (let y : rows_at n - next_at n ≡ 2 * n = omega arith in y)

  abbrev unset : List ℕ
  unset = replicate (length (within (next_at n) (rows_at n) marched)) nothing

  unset_long : length unset ≡ rows_at n - next_at n
  unset_long = omega (arith, next_size, length-replicate (length (within (next_at n) (rows_at n) marched)) nothing)

  abbrev cleared : List ℕ
  cleared = put (next_at n) (rows_at n) unset marched

  cleared-long : length cleared ≡ words_end n
  cleared-long = put-length (next_at n) (rows_at n) marched unset next_fits unset_long ∙ marched_long

  front-is : segments_in n cleared ≡ r
  front-is = put-before (next_at n) (rows_at n) marched unset next_fits unset_long 0 (next_at n) (omega arith) (omega arith) ∙ put_back 0 (next_at n) w r front_fits front_long

  segments_are : segments_at n m cleared ≡ march g f level
  segments_are = ap (segments_of m) front-is ∙ t.is

  next-is : next_in n cleared ≡ replicate (2 * n) nothing
  next-is = put_back (next_at n) (rows_at n) marched unset next_fits unset_long ∙ ap (λ (k : ℕ). replicate k nothing) next_size

  abbrev unmarked : List ℕ
  unmarked = replicate (length marks) 0

  below-is : (s : Segment) → Joins g s → Below (2 * n) s
  below-is s j = let b = joins_below g s h.sides j in let c = z.cells in record { from = omega (arith, b.0); to = omega (arith, b.1) }

  listed-cleared : Listed n m cleared unmarked
  listed-cleared =
      let c = z.cells in
      record {
        cells = omega (arith, h.sides.cells);
        words_long = cleared-long;
        marks-long = length-replicate (length marks) 0 ∙ z.marks-long;
        few = omega (arith, t.few);
        below = subst (Each (Below (2 * n))) (sym segments_are) (each_all (Joins g) (Below (2 * n)) below-is (march g f level) (march_joins g f level));
      }

  tabled_cleared : (words' marks' : List ℕ) → Inserted n m cleared unmarked words' marks' → Tabled g n (march g f level) m words' marks'
  unfolding tables_of
  tabled_cleared words' marks' j =
      let c = z.cells in
      record {
        is = ap (segments_of m) j.kept ∙ segments_are;
        table = j.is
            ∙ ap (λ (l : List Segment). over inserted l (tables (next_in n cleared) unmarked)) segments_are
            ∙ ap (λ (l : List ℕ). over inserted (march g f level) (tables l unmarked)) next-is
            ∙ ap (λ (k : ℕ). over inserted (march g f level) (tables (replicate (2 * n) nothing) (replicate k 0))) z.marks-long;
        few = omega (arith, t.few);
        sized = record {
          cells = c;
          words_long = j.words_long ∙ cleared-long;
          marks-long = j.marks-long ∙ length-replicate (length marks) 0 ∙ z.marks-long;
        };
      }

  -- the words as each call left them
  module _ (w₁ u w₂ marks₁ : List ℕ) (a : w₁ ≡ put_mid 0 (next_at n - 0) w r) (b : u ≡ replicate (length (within (next_at n) (rows_at n) w₁)) nothing) (d : w₂ ≡ put_mid (next_at n) (rows_at n - next_at n) w₁ u) (e : marks₁ ≡ unmarked) where
    marched_is : w₁ ≡ marched
    marched_is = a ∙ put_is 0 (next_at n) w front_fits r r refl

    cleared-is : w₂ ≡ cleared
    cleared-is =
        d
        ∙ put_is (next_at n) (rows_at n) w₁ (subst (Fits (next_at n) (rows_at n)) (sym marched_is) next_fits) u (replicate (length (within (next_at n) (rows_at n) w₁)) nothing) b
        ∙ ap (λ (l : List ℕ). put (next_at n) (rows_at n) (replicate (length (within (next_at n) (rows_at n) l)) nothing) l) marched_is

    listed : Listed n m w₂ marks₁
    listed = rw (cleared-is, e) listed-cleared

    tabled : (words' marks' : List ℕ) → Inserted n m w₂ marks₁ words' marks' → Tabled g n (march g f level) m words' marks'
    tabled words' marks' j = tabled_cleared words' marks' (subst (λ (l : List ℕ). Inserted n m l unmarked words' marks') cleared-is (subst (λ (l : List ℕ). Inserted n m w₂ l words' marks') e j))

-- the same with the places as they were worked out
module _ (g : Grid) (f : List Float) (level : Float) (n m : ℕ) (w marks r : List ℕ) (h : Over g (length f)) (z : Sized g n w marks) (x y : ℕ) (X : x ≡ next_at n) (Y : y ≡ rows_at n)
    (t : Gathered (march g f level) (2 * (g.ny * g.nx)) (within 0 x w) m r) (w₁ u w₂ marks₁ : List ℕ)
    (a : w₁ ≡ put_mid 0 (x - 0) w r) (b : u ≡ replicate (length (within x y w₁)) nothing) (d : w₂ ≡ put_mid x (y - x) w₁ u) (e : marks₁ ≡ replicate (length marks) 0) where
  abbrev filled : Gathered (march g f level) (2 * (g.ny * g.nx)) (within 0 (next_at n) w) m r
  filled = subst (λ (k : ℕ). Gathered (march g f level) (2 * (g.ny * g.nx)) (within 0 k w) m r) X t

  in_front : w₁ ≡ put_mid 0 (next_at n - 0) w r
  in_front = a ∙ ap (λ (k : ℕ). put_mid 0 (k - 0) w r) X

  cleared-next : u ≡ replicate (length (within (next_at n) (rows_at n) w₁)) nothing
  cleared-next = b ∙ ap (λ (k : ℕ). replicate (length (within k y w₁)) nothing) X ∙ ap (λ (k : ℕ). replicate (length (within (next_at n) k w₁)) nothing) Y

  put_next : w₂ ≡ put_mid (next_at n) (rows_at n - next_at n) w₁ u
  put_next = d ∙ ap (λ (k : ℕ). put_mid k (y - k) w₁ u) X ∙ ap (λ (k : ℕ). put_mid (next_at n) (k - next_at n) w₁ u) Y

  -- what `insert_all` asks
  pub listed_at : Listed n m w₂ marks₁
  listed_at = listed g f level n m w marks r h z filled w₁ u w₂ marks₁ in_front cleared-next put_next e

  -- and what is left then
  pub tabled_at : (words' marks' : List ℕ) → Inserted n m w₂ marks₁ words' marks' → Tabled g n (march g f level) m words' marks'
  tabled_at = tabled g f level n m w marks r h z filled w₁ u w₂ marks₁ in_front cleared-next put_next e
