-- Wall distances, where the tool may go and what it reaches, from what the steps left in the workspace. Assumes nothing.
use mathlib.Core.Path.{◌≡◌, refl, sym, ap, ◌∙◌, subst}
use mathlib.Core.Bool.{Bool, true, false, not, ◌&&◌}
use mathlib.Core.List.{List}
use Prim.Native.Nat.{ℕ, ◌+◌, ◌-◌, ◌*◌, ◌/◌, ◌%◌, ◌≤◌, ◌<◌}
use native.Mathlib.Omega.{arith}
use lib.ListN.{length, get_or, take, drop, get_or-eq_default}
use lib.Dec.{eqb, ltb}
use lib.Ieee.{Float, nan, binary64, add, sub, mul, lt, le}
use borrow.Rule.Slice.PartMut.{put_mid}
use borrow.Author.Tests.{eq-eqb, ne_eqb, ltb-true, ltb-false}
use Rattle.numbers.specs.Small.{half}
use Rattle.loops.specs.Loop.{loop}
use Rattle.loops.specs.Regions.{within}
use Rattle.loops.specs.Frame.{Only}
use Rattle.loops.proofs.Cases.{by_cases}
use Rattle.loops.proofs.RegionLaws.{region-long}
use Rattle.loops.proofs.FrameLaws.{back_there}
use Rattle.geom.specs.Region.{contains_of}
use Rattle.geom.specs.Segment.{any_within}
use Rattle.geom.specs.declared.vec2.Vec2.{Vec2}
use Rattle.distance.specs.Least.{at, MapSides}
use Rattle.distance.specs.Nearest.{nearest, listed, transform_of}
use Rattle.distance.specs.Rooted.{rooted_of, distance_transform}
use Rattle.std.specs.Prelude.{Some}
use Rattle.distance.specs.Limits.{scaled_of, passes_of}
use Rattle.distance.specs.declared.limits.Threshold.{Threshold}
use Rattle.distance.proofs.NearestLaws.{listed-long, listed_at, room, transform_at}
use Rattle.raster.specs.Grid.{Sides, center_of}
use Rattle.raster.specs.declared.grid.Grid.{Grid}
use Rattle.setup.specs.Layout.{run, put_run}
use Rattle.setup.specs.Place.{cells_of}
use Rattle.setup.specs.declared.Setup.{Setup}
use Rattle.setup.proofs.LayoutLaws.{run-put, run_other}
use Rattle.setup.proofs.PartLaws.{part_is, put-run-long}
use Rattle.start.specs.Start.{wall_at, walls_of, flag, clear_at, may_at, allowed_of, reach_at, reach_of}
use Rattle.start.specs.Steps.{length_at, may_byte, near_byte, near_at, Reached}
use Rattle.start.specs.Blocks.{middle}
use Rattle.pieces.proofs.PartLaws.{within_get}
use Rattle.start.proofs.WriteLaws.{write_from, run_written, read-run, listed_same}
use Rattle.start.proofs.StockLaws.{Bits}

-- ---- lengths

pub walls-long : (g : Grid) (inside : List ℕ) → length (walls_of g inside) ≡ g.ny * g.nx
unfolding walls_of
walls-long g inside = listed-long (wall_at g inside) nan (g.ny * g.nx)

pub allowed-long : (s : Setup) (vs : List Float) (lens inside : List ℕ) (wall : List Float) → length (allowed_of s vs lens inside wall) ≡ cells_of s
unfolding allowed_of
allowed-long s vs lens inside wall = listed-long (λ k. flag (may_at s vs lens inside wall k)) 0 (cells_of s)

pub reach-long : (s : Setup) (start allowed : List ℕ) → length (reach_of s start allowed) ≡ cells_of s
unfolding reach_of
reach-long s start allowed = listed-long (λ k. flag (reach_at s start allowed k)) 0 (cells_of s)

-- ---- what the transform asks for

pub map-sides : (g : Grid) → Sides g → MapSides g.nx g.ny
map-sides g h = record { column = h.wide; wide = h.columns; row = h.high; high = h.rows }

pub squares-room : (g : Grid) → Sides g → (u : List ℕ) → 32 * (g.ny * g.nx) + 8192 ≤ length u → g.ny * g.nx + 3 * g.nx ≤ length u
squares-room g h u l = room g.nx g.ny (length u) (map-sides g h) (omega arith)

-- ---- the distances that squares stand for

-- a square of those that a transform left
square-is : (mark : ℕ) (m : List ℕ) (nx ny : ℕ) (u u' : List ℕ) → u' ≡ transform_of mark m nx ny u → (k : ℕ) → k < ny * nx → rooted_of (get_or u' k 0) ≡ get_or (distance_transform mark m nx ny) k nan
unfolding distance_transform
square-is mark m nx ny u u' U k h =
    ap (λ (l : List ℕ). rooted_of (get_or l k 0)) U
    ∙ ap rooted_of (transform_at mark m nx ny u k h)
    ∙ sym (listed_at (λ k. rooted_of (nearest mark m nx (at (k % nx) (k / nx)) ny)) nan (ny * nx) k h)

-- the first places
front_at : {A : Type 0} (n : ℕ) (w : List A) (k : ℕ) (d : A) → k < n → get_or (take (n - 0) (drop 0 w)) k d ≡ get_or w k d
unfolding within
front_at n w k d h = within_get d 0 n w k (omega arith) ∙ ap (λ (z : ℕ). get_or w z d) (let z : 0 + k ≡ k = omega arith in z)

module _ (g : Grid) (b u u' : List ℕ) (w t : List Float) (n a : ℕ) (N : n ≡ g.ny * g.nx) (K : a ≡ 5 * n) (h : g.ny * g.nx ≤ length w)
    (U : u' ≡ transform_of 0 (take (a + n - a) (drop a b)) g.nx g.ny u)
    (T : t ≡ listed (length (take (n - 0) (drop 0 w))) (length_at g.cell (take (n - 0) (drop 0 u')))) where
  inside_is : take (a + n - a) (drop a b) ≡ run 5 (g.ny * g.nx) b
  inside_is = part_is 5 n a (a + n) b K refl ∙ ap (λ (z : ℕ). run 5 z b) N

  part_size : length (take (n - 0) (drop 0 w)) ≡ n
  part_size = region-long 0 n w (record { start = omega arith; end = omega arith }) ∙ (let z : n - 0 ≡ n = omega arith in z)

  wall-same : (k : ℕ) → k < g.ny * g.nx → length_at g.cell (take (n - 0) (drop 0 u')) k ≡ wall_at g (run 5 (g.ny * g.nx) b) k
  wall-same k l =
      ap (λ (z : ℕ). mul binary64 (rooted_of z) g.cell) (front_at n u' k 0 (omega arith))
      ∙ ap (λ (z : Float). mul binary64 z g.cell) (square-is 0 _ g.nx g.ny u u' U k l)
      ∙ ap (λ (m : List ℕ). wall_at g m k) inside_is

  pub walls_are : within 0 (g.ny * g.nx) (put_mid 0 (n - 0) w t) ≡ walls_of g (run 5 (g.ny * g.nx) b)
  unfolding walls_of
  walls_are =
      let f = length_at g.cell (take (n - 0) (drop 0 u')) in
      let long : length t ≡ length (take (n - 0) (drop 0 w)) = ap length T ∙ listed-long f nan (length (take (n - 0) (drop 0 w))) in
      ap (λ (z : ℕ). within 0 z (put_mid 0 (n - 0) w t)) (sym N)
      ∙ back_there 0 n w (record { start = omega arith; end = omega arith }) t long
      ∙ T
      ∙ ap (λ (z : ℕ). listed z f) (part_size ∙ N)
      ∙ listed_same f (wall_at g (run 5 (g.ny * g.nx) b)) (g.ny * g.nx) wall-same

-- ---- where the tool may go

pub center_is : (g : Grid) (q : Vec2) (i j k : ℕ) → q ≡ center_of g i j → i ≡ k % g.nx → j ≡ k / g.nx → q ≡ center_of g (k % g.nx) (k / g.nx)
center_is g q i j k E I J = E ∙ ap (λ (z : ℕ). center_of g z j) I ∙ ap (center_of g (k % g.nx)) J

with_true : (a b : Bool) → b ≡ true → a ≡ a && b
with_true true b e = sym e
with_true false b e = refl

-- of a centre in the region
module _ (s : Setup) (vs : List Float) (lens : List ℕ) (k : ℕ) (I : contains_of vs lens s.region (middle s k) ≡ true) where
  pub clear_apart : any_within vs lens s.region (middle s k) s.keep.r ≡ false → true ≡ clear_at s vs lens k
  unfolding clear_at
  clear_apart e = rw e (sym I)

  pub clear_asked : (q : Vec2) → q ≡ middle s k → (t : Bool) → t ≡ any_within vs lens s.region q s.keep.r → not t ≡ clear_at s vs lens k
  unfolding clear_at
  clear_asked q Q t T = ap not (T ∙ ap (λ (z : Vec2). any_within vs lens s.region z s.keep.r) Q) ∙ with_true _ _ I

module _ (s : Setup) (vs : List Float) (lens : List ℕ) (k inside : ℕ) (wall : Float) where
  pub may_out : (inside ≡ 1 → ⊥) → 0 ≡ may_byte s vs lens k inside wall
  unfolding may_byte
  may_out d = rw (ne_eqb inside 1 d)

  pub may_wall : inside ≡ 1 → lt (add binary64 wall s.grid.cell) s.keep.r ≡ true → 0 ≡ may_byte s vs lens k inside wall
  unfolding may_byte
  may_wall d e = rw (eq-eqb inside 1 d, e)

  pub may_clear : inside ≡ 1 → lt (add binary64 wall s.grid.cell) s.keep.r ≡ false → (c : Bool) → c ≡ clear_at s vs lens k → flag c ≡ may_byte s vs lens k inside wall
  unfolding may_byte
  may_clear d e c C = rw (eq-eqb inside 1 d, e, C)

abbrev pub may_with : Setup → List Float → List ℕ → ℕ → List ℕ → List Float → ℕ → ℕ
may_with s vs lens n b w k = flag (may_at s vs lens (run 5 n b) (within 0 n w) k)

pub may_is : (s : Setup) (vs : List Float) (lens : List ℕ) (n : ℕ) (b : List ℕ) (w : List Float) (k c i : ℕ) (v : ℕ) → k < n → c ≡ k → i ≡ get_or (run 5 n b) k 0
    → v ≡ may_byte s vs lens c i (get_or w k nan) → v ≡ may_with s vs lens n b w k
unfolding may_byte may_at
may_is s vs lens n b w k c i v l C I E =
    E
    ∙ ap (λ (z : ℕ). may_byte s vs lens z i (get_or w k nan)) C
    ∙ ap (λ (z : ℕ). may_byte s vs lens k z (get_or w k nan)) I
    ∙ ap (may_byte s vs lens k (get_or (run 5 n b) k 0)) (ap (λ (z : ℕ). get_or w z nan) (let z : k ≡ 0 + k = omega arith in z) ∙ sym (within_get nan 0 n w k (omega arith)))

pub allowed-is : (s : Setup) (vs : List Float) (lens b b' : List ℕ) (w : List Float) (n a : ℕ) → n ≡ cells_of s → a ≡ 1 * n → 8 * cells_of s ≤ length b
    → b' ≡ loop (write_from a (may_with s vs lens n b w)) 0 n b → b' ≡ put_run 1 (cells_of s) (allowed_of s vs lens (run 5 (cells_of s) b) (within 0 (cells_of s) w)) b
unfolding allowed_of
allowed-is s vs lens b b' w n a N K h e =
    run_written n 1 a K b (omega arith) 0 (may_with s vs lens n b w) b' e ∙ ap (λ (z : ℕ). put_run 1 z (listed z (may_with s vs lens z b w)) b) N

-- ---- what it reaches

module _ (t : Threshold) (start square : ℕ) where
  pub near_none : (start ≡ 1 → ⊥) → 0 ≡ near_byte t start square
  unfolding near_byte
  near_none d = rw (ne_eqb start 1 d)

  pub near-is : start ≡ 1 → (r : Bool) → r ≡ passes_of t square → flag r ≡ near_byte t start square
  unfolding near_byte
  near-is d r R = rw (eq-eqb start 1 d, R)

-- a turn of its loop
pub near-turn : (t : Threshold) (n a : ℕ) (squares b b' : List ℕ) → 8 * n ≤ length b → a ≡ 2 * n → Only a (a + n) b b' → (k v : ℕ) → k < n
    → v ≡ near_byte t (get_or b' k 0) (get_or squares k 0) → v ≡ near_at t (run 0 n b) squares k
near-turn t n a squares b b' h K o k v l E =
    E
    ∙ ap (λ (z : ℕ). near_byte t z (get_or squares k 0))
    (ap (λ (z : ℕ). get_or b' z 0) (let z : k ≡ 0 + k = omega arith in z) ∙ read-run n 2 a K b (omega arith) b' o 0 0 (λ z. omega arith) (omega arith) k 0 l)

abbrev pub threshold : Setup → Threshold
threshold s = record { scale = Some s.grid.cell; strict = false; x = sub binary64 s.r (mul binary64 half s.grid.cell) }

module _ (s : Setup) (b u u' : List ℕ) (n a : ℕ) (N : n ≡ cells_of s) (K : a ≡ 1 * n) (U : u' ≡ transform_of 1 (take (a + n - a) (drop a b)) s.grid.nx s.grid.ny u) where
  may_go : take (a + n - a) (drop a b) ≡ run 1 (cells_of s) b
  may_go = part_is 1 n a (a + n) b K refl ∙ ap (λ (z : ℕ). run 1 z b) N

  near_same : (k : ℕ) → k < cells_of s → near_at (threshold s) (run 0 (cells_of s) b) u' k ≡ flag (reach_at s (run 0 (cells_of s) b) (run 1 (cells_of s) b) k)
  unfolding near_byte passes_of scaled_of reach_at
  near_same k l =
      ap (λ (z : Float). flag (eqb (get_or (run 0 (cells_of s) b) k 0) 1 && le (mul binary64 z s.grid.cell) (threshold s).x)) (square-is 1 _ s.grid.nx s.grid.ny u u' U k l)
      ∙ ap (λ (m : List ℕ). flag (reach_at s (run 0 (cells_of s) b) m k)) may_go

  pub reach-is : (b' : List ℕ) → b' ≡ put_run 2 n (listed n (near_at (threshold s) (run 0 n b) u')) b → b' ≡ put_run 2 (cells_of s) (reach_of s (run 0 (cells_of s) b) (run 1 (cells_of s) b)) b
  unfolding reach_of
  reach-is b' e =
      e
      ∙ ap (λ (z : ℕ). put_run 2 z (listed z (near_at (threshold s) (run 0 z b) u')) b) N
      ∙ ap (λ (l : List ℕ). put_run 2 (cells_of s) l b)
      (listed_same (near_at (threshold s) (run 0 (cells_of s) b) u') (λ k. flag (reach_at s (run 0 (cells_of s) b) (run 1 (cells_of s) b) k)) (cells_of s) near_same)

-- ---- the three together

module _ (s : Setup) (vs : List Float) (lens b b₁ b₂ : List ℕ) (w : List Float) (h : 8 * cells_of s ≤ length b) where
  abbrev size : ℕ
  size = cells_of s

  abbrev walls : List Float
  walls = walls_of s.grid (run 5 size b)

  abbrev may : List ℕ
  may = allowed_of s vs lens (run 5 size b) walls

  abbrev near : List ℕ
  near = reach_of s (run 0 size b) may

  pub reached_is : within 0 size w ≡ walls → b₁ ≡ put_run 1 size (allowed_of s vs lens (run 5 size b) (within 0 size w)) b → b₂ ≡ put_run 2 size (reach_of s (run 0 size b₁) (run 1 size b₁)) b₁
      → Reached s vs lens b b₂ w
  reached_is W B₁ B₂ =
      let m : length may ≡ size = allowed-long s vs lens (run 5 size b) walls in
      let e : b₁ ≡ put_run 1 size may b = B₁ ∙ ap (λ (l : List Float). put_run 1 size (allowed_of s vs lens (run 5 size b) l) b) W in
      let long : length b₁ ≡ length b = ap length e ∙ put-run-long 1 size b may (omega arith) m in
      let o : (k : ℕ) → (k ≡ 1 → ⊥) → run k size b₁ ≡ run k size b = λ k d. ap (run k size) e ∙ run_other size b may m 1 k (omega arith) d in
      let t : run 1 size b₁ ≡ may = ap (run 1 size) e ∙ run-put size b may m 1 (omega arith) in
      let f : b₂ ≡ put_run 2 size near b₁ =
      B₂
      ∙ ap (λ (l : List ℕ). put_run 2 size (reach_of s l (run 1 size b₁)) b₁) (o 0 (λ z. omega arith))
      ∙ ap (λ (l : List ℕ). put_run 2 size (reach_of s (run 0 size b) l) b₁) t in
      let q : length near ≡ size = reach-long s (run 0 size b) may in
      let p : (k : ℕ) → (k ≡ 2 → ⊥) → run k size b₂ ≡ run k size b₁ = λ k d. ap (run k size) f ∙ run_other size b₁ near q 2 k (omega arith) d in
      record {
        wall = W;
        allowed = p 1 (λ z. omega arith) ∙ t;
        reach = ap (run 2 size) f ∙ run-put size b₁ near q 2 (omega arith);
        map = p 0 (λ z. omega arith) ∙ o 0 (λ z. omega arith);
        abandoned = p 3 (λ z. omega arith) ∙ o 3 (λ z. omega arith);
        dirty = p 4 (λ z. omega arith) ∙ o 4 (λ z. omega arith);
      }

-- ---- bytes are 0 or 1

flag-bit : (b : Bool) → flag b ≤ 1
flag-bit true = omega arith
flag-bit false = omega arith

listed_bits : (n : ℕ) (f : ℕ → Bool) → Bits (listed n (λ k. flag (f k)))
listed_bits n f k =
    let g : ℕ → ℕ = λ i. flag (f i) in
    by_cases (ltb k n)
    (λ e. subst (λ (x : ℕ). x ≤ 1) (sym (listed_at g 0 n k (ltb-true k n e))) (flag-bit (f k)))
    (λ e. subst (λ (x : ℕ). x ≤ 1) (sym (get_or-eq_default (listed n g) 0 (omega (arith, listed-long g 0 n, ltb-false k n e)))) (omega arith))

pub allowed_bits : (s : Setup) (vs : List Float) (lens inside : List ℕ) (wall : List Float) → Bits (allowed_of s vs lens inside wall)
unfolding allowed_of
allowed_bits s vs lens inside wall = listed_bits (cells_of s) (may_at s vs lens inside wall)

pub reach_bits : (s : Setup) (start allowed : List ℕ) → Bits (reach_of s start allowed)
unfolding reach_of
reach_bits s start allowed = listed_bits (cells_of s) (reach_at s start allowed)
