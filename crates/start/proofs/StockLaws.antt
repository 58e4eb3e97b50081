-- The starting stock, from what its steps left in the workspace. Assumes nothing.
use mathlib.Core.Path.{◌≡◌, refl, sym, ap, ◌∙◌}
use mathlib.Core.Bool.{Bool, true, false, cond}
use mathlib.Core.List.{List}
use Prim.Native.Nat.{ℕ, zero, suc, ◌+◌, ◌*◌, ◌≤◌, ◌<◌}
use native.Mathlib.Omega.{arith}
use lib.ListN.{length, get_or, set, replicate, length-replicate}
use lib.Seq.{get_or-set_other, set-get_or}
use lib.Dec.{eqb}
use lib.Ieee.{Float}
use borrow.Author.Tests.{eq-eqb, ne_eqb}
use Rattle.loops.specs.Loop.{loop}
use Rattle.loops.specs.Frame.{Only}
use Rattle.loops.proofs.Cases.{by_cases, by_test}
use Rattle.loops.proofs.LoopLaws.{loop_keeps, loop_both}
use Rattle.loops.proofs.SetLaws.{set_either}
use Rattle.geom.specs.declared.region.Region.{Region}
use Rattle.distance.specs.Nearest.{listed}
use Rattle.distance.proofs.NearestLaws.{listed-long}
use Rattle.filling.specs.Fill.{fill_region}
use Rattle.raster.specs.Stock.{keep_cell, intersection}
use Rattle.raster.specs.declared.grid.Grid.{Grid}
use Rattle.filling.proofs.FillLaws.{fill_long, fill_keeps}
use Rattle.field.proofs.RoundLaws.{write_at, written_all}
use Rattle.setup.specs.Layout.{run, put_run}
use Rattle.setup.proofs.LayoutLaws.{run-put, run_other}
use Rattle.setup.proofs.PartLaws.{put-run-long}
use Rattle.entry.specs.Regions.{pocket_of}
use Rattle.start.specs.Start.{inside_of, add_region, add_regions, stock_of}
use Rattle.start.specs.Steps.{stock_byte, stock_at, Filled, Stocked}
use Rattle.start.proofs.WriteLaws.{write_from, read-run, listed_self, zeros, same-run}

-- ---- lengths

pub inside-long : (g : Grid) (vs : List Float) (lens : List ℕ) (region : Region) → length (inside_of g vs lens region) ≡ g.ny * g.nx
unfolding inside_of
inside-long g vs lens region = fill_long g vs lens region (replicate (g.ny * g.nx) 0) ∙ length-replicate (g.ny * g.nx) 0

pub adding_long : (g : Grid) (vs : List Float) (lens regions : List ℕ) (a e : ℕ) (m : List ℕ) → length (loop (add_region g vs lens regions) a e m) ≡ length m
unfolding add_region
adding_long g vs lens regions a e m = loop_keeps (add_region g vs lens regions) a (λ (l : List ℕ). length l ≡ length m) e (λ i l b c h. fill_long g vs lens _ l ∙ h) m refl

pub added_long : (g : Grid) (vs : List Float) (lens regions m : List ℕ) → length (add_regions g vs lens regions m) ≡ length m
unfolding add_regions
added_long g vs lens regions m = adding_long g vs lens regions 1 (length regions) m

-- ---- an intersection, cell by cell

abbrev both : List ℕ → List ℕ → ℕ → ℕ
both m o k = cond (eqb (get_or o k 0) 1) (get_or m k 0) 0

record Same (m : List ℕ) (i : ℕ) (s u : List ℕ) : Type 0 where
  is : s ≡ u
  rest : (j : ℕ) → i ≤ j → get_or s j 0 ≡ get_or m j 0

same_more : (m o : List ℕ) (i : ℕ) (s u : List ℕ) → Same m i s u → Same m (i + 1) (keep_cell o i s) (write_at 0 (both m o) i u)
unfolding keep_cell
same_more m o i s u w = by_cases (eqb (get_or o i 0) 1)
    (λ e. rw e (record {
      is = sym (set-get_or s i 0) ∙ ap (set s i) (w.rest i (omega arith)) ∙ ap (λ (l : List ℕ). set l i (get_or m i 0)) w.is;
      rest = λ j b. w.rest j (omega arith);
    }))
    (λ e. rw e (record {
      is = ap (λ (l : List ℕ). set l i 0) w.is;
      rest = λ j b. get_or-set_other s i j 0 0 (λ z. omega arith) ∙ w.rest j (omega arith);
    }))

pub intersection-is : (m o : List ℕ) → intersection m o ≡ listed (length m) (both m o)
unfolding intersection
intersection-is m o =
    (loop_both (keep_cell o) (write_at 0 (both m o)) (Same m) 0 (length m) (omega arith) (λ i s u a b w. same_more m o i s u w) m m (record { is = refl; rest = λ j b. refl })).is
    ∙ written_all 0 (both m o) m

-- ---- the stock map

pub byte_whole : (w : Bool) (i s : ℕ) → w ≡ true → i ≡ stock_byte w i s
unfolding stock_byte
byte_whole w i s e = rw e refl

pub byte_stock : (w : Bool) (i s : ℕ) → w ≡ false → s ≡ 1 → i ≡ stock_byte w i s
unfolding stock_byte
byte_stock w i s e d = rw (e, eq-eqb s 1 d) refl

pub byte_none : (w : Bool) (i s : ℕ) → w ≡ false → (s ≡ 1 → ⊥) → 0 ≡ stock_byte w i s
unfolding stock_byte
byte_none w i s e d = rw (e, ne_eqb s 1 d) refl

-- a turn of its loop
pub map-turn : (whole : Bool) (n i a : ℕ) (b b' : List ℕ) → 8 * n ≤ length b → i ≡ 5 * n → a ≡ 3 * n → Only 0 (0 + n) b b' → (k v : ℕ) → k < n
    → v ≡ stock_byte whole (get_or b' (i + k) 0) (get_or b' (a + k) 0) → set b' k v ≡ write_from 0 (stock_at whole (run 5 n b) (run 3 n b)) k b'
map-turn whole n i a b b' h I K o k v l E =
    let zero : 0 ≡ 0 * n = omega arith in
    let fit : 0 * n + n ≤ length b = omega arith in
    let e : v ≡ stock_at whole (run 5 n b) (run 3 n b) k =
    E
    ∙ ap (λ (z : ℕ). stock_byte whole z (get_or b' (a + k) 0)) (read-run n 0 0 zero b fit b' o 5 i (λ z. omega arith) I k 0 l)
    ∙ ap (stock_byte whole (get_or (run 5 n b) k 0)) (read-run n 0 0 zero b fit b' o 3 a (λ z. omega arith) K k 0 l) in
    ap (set b' k) e ∙ ap (λ (z : ℕ). set b' z (stock_at whole (run 5 n b) (run 3 n b) k)) (let z : k ≡ 0 + k = omega arith in z)

module _ (g : Grid) (vs : List Float) (lens regions : List ℕ) where
  abbrev size : ℕ
  size = g.ny * g.nx

  abbrev empty : List ℕ
  empty = zeros size

  abbrev filled_stock : Bool → List ℕ
  filled_stock whole = cond whole empty (add_regions g vs lens regions empty)

  pub stock-is : (whole : Bool) → listed size (stock_at whole (inside_of g vs lens (pocket_of lens regions)) (filled_stock whole)) ≡ stock_of whole g vs lens regions
  unfolding stock_of stock_byte
  stock-is true = listed_self 0 (inside_of g vs lens (pocket_of lens regions)) size (inside-long g vs lens (pocket_of lens regions))
  stock-is false =
      let i = inside_of g vs lens (pocket_of lens regions) in
      let s = add_regions g vs lens regions empty in
      ap (λ (k : ℕ). listed k (both i s)) (sym (inside-long g vs lens (pocket_of lens regions))) ∙ sym (intersection-is i s)

  pub stock-long : (whole : Bool) → length (stock_of whole g vs lens regions) ≡ size
  stock-long whole = ap length (sym (stock-is whole)) ∙ listed-long (stock_at whole (inside_of g vs lens (pocket_of lens regions)) (filled_stock whole)) 0 size

  -- ---- from the steps

  module _ (b : List ℕ) (h : 8 * size ≤ length b) (b₁ b₂ : List ℕ) (pocket : Region) (P : pocket ≡ pocket_of lens regions) (B₁ : b₁ ≡ replicate (length b) 0)
      (B₂ : b₂ ≡ put_run 5 size (fill_region g vs lens pocket (run 5 size b₁)) b₁) where
    long₁ : length b₁ ≡ length b
    long₁ = ap length B₁ ∙ length-replicate (length b) 0

    zero₁ : (k : ℕ) → k * size + size ≤ length b → run k size b₁ ≡ empty
    zero₁ k l = ap (run k size) B₁ ∙ same-run 0 k size (length b) l

    put₂ : b₂ ≡ put_run 5 size (inside_of g vs lens (pocket_of lens regions)) b₁
    unfolding inside_of
    put₂ =
        B₂
        ∙ ap (λ (l : List ℕ). put_run 5 size (fill_region g vs lens pocket l) b₁) (zero₁ 5 (omega arith))
        ∙ ap (λ (r : Region). put_run 5 size (fill_region g vs lens r empty) b₁) P

    pub long₂ : length b₂ ≡ length b
    long₂ = ap length put₂ ∙ put-run-long 5 size b₁ (inside_of g vs lens (pocket_of lens regions)) (omega (arith, long₁)) (inside-long g vs lens (pocket_of lens regions)) ∙ long₁

    there₂ : run 5 size b₂ ≡ inside_of g vs lens (pocket_of lens regions)
    there₂ = ap (run 5 size) put₂ ∙ run-put size b₁ (inside_of g vs lens (pocket_of lens regions)) (inside-long g vs lens (pocket_of lens regions)) 5 (omega (arith, long₁))

    zero₂ : (k : ℕ) → k < 5 → k * size + size ≤ length b → run k size b₂ ≡ empty
    zero₂ k d l =
        ap (run k size) put₂
        ∙ run_other size b₁ (inside_of g vs lens (pocket_of lens regions)) (inside-long g vs lens (pocket_of lens regions)) 5 k (omega (arith, long₁)) (λ e. omega arith)
        ∙ zero₁ k l

    pub filled-whole : (whole : Bool) → whole ≡ true → Filled g whole vs lens regions b₂
    filled-whole whole e = rw e (record { inside = there₂; stock = zero₂ 3 (omega arith) (omega arith); dirty = zero₂ 4 (omega arith) (omega arith) })

    module _ (b₃ : List ℕ) (B₃ : b₃ ≡ put_run 3 size (add_regions g vs lens regions (run 3 size b₂)) b₂) where
      abbrev added : List ℕ
      added = add_regions g vs lens regions empty

      added_size : length added ≡ size
      added_size = added_long g vs lens regions empty ∙ length-replicate size 0

      put₃ : b₃ ≡ put_run 3 size added b₂
      put₃ = B₃ ∙ ap (λ (l : List ℕ). put_run 3 size (add_regions g vs lens regions l) b₂) (zero₂ 3 (omega arith) (omega arith))

      other₃ : (k : ℕ) → (k ≡ 3 → ⊥) → run k size b₃ ≡ run k size b₂
      other₃ k d = ap (run k size) put₃ ∙ run_other size b₂ added added_size 3 k (omega (arith, long₂)) d

      pub filled_list : (whole : Bool) → whole ≡ false → Filled g whole vs lens regions b₃
      filled_list whole e = rw e (record {
        inside = other₃ 5 (λ z. omega arith) ∙ there₂;
        stock = ap (run 3 size) put₃ ∙ run-put size b₂ added added_size 3 (omega (arith, long₂));
        dirty = other₃ 4 (λ z. omega arith) ∙ zero₂ 4 (omega arith) (omega arith);
      })

  module _ (whole : Bool) (n : ℕ) (N : n ≡ size) (b b₁ b₂ : List ℕ) (h : 8 * size ≤ length b) (F : Filled g whole vs lens regions b)
      (B₁ : b₁ ≡ put_run 0 n (listed n (stock_at whole (run 5 n b) (run 3 n b))) b) (B₂ : b₂ ≡ put_run 3 n (zeros n) b₁) where
    put-zeros : b₂ ≡ put_run 3 size empty b₁
    put-zeros = B₂ ∙ ap (λ (z : ℕ). put_run 3 z (zeros z) b₁) N

    map_is : b₁ ≡ put_run 0 size (stock_of whole g vs lens regions) b
    map_is =
        B₁
        ∙ ap (λ (z : ℕ). put_run 0 z (listed z (stock_at whole (run 5 z b) (run 3 z b))) b) N
        ∙ ap (λ (l : List ℕ). put_run 0 size (listed size (stock_at whole l (run 3 size b))) b) F.inside
        ∙ ap (λ (l : List ℕ). put_run 0 size (listed size (stock_at whole (inside_of g vs lens (pocket_of lens regions)) l)) b) F.stock
        ∙ ap (λ (l : List ℕ). put_run 0 size l b) (stock-is whole)

    longer : length b₁ ≡ length b
    longer = ap length map_is ∙ put-run-long 0 size b (stock_of whole g vs lens regions) (omega arith) (stock-long whole)

    other : (k : ℕ) → (k ≡ 3 → ⊥) → run k size b₂ ≡ run k size b₁
    other k d = ap (run k size) put-zeros ∙ run_other size b₁ empty (length-replicate size 0) 3 k (omega (arith, longer)) d

    other₁ : (k : ℕ) → (k ≡ 0 → ⊥) → run k size b₁ ≡ run k size b
    other₁ k d = ap (run k size) map_is ∙ run_other size b (stock_of whole g vs lens regions) (stock-long whole) 0 k (omega arith) d

    pub stocked_is : Stocked g whole vs lens regions b₂
    stocked_is = record {
      map = other 0 (λ z. omega arith) ∙ ap (run 0 size) map_is ∙ run-put size b (stock_of whole g vs lens regions) (stock-long whole) 0 (omega arith);
      inside = other 5 (λ z. omega arith) ∙ other₁ 5 (λ z. omega arith) ∙ F.inside;
      abandoned = ap (run 3 size) put-zeros ∙ run-put size b₁ empty (length-replicate size 0) 3 (omega (arith, longer));
      dirty = other 4 (λ z. omega arith) ∙ other₁ 4 (λ z. omega arith) ∙ F.dirty;
    }

-- ---- bytes are 0 or 1

abbrev pub Bits : List ℕ → Type 0
Bits m = (k : ℕ) → get_or m k 0 ≤ 1

set_bits : (v : ℕ) → v ≤ 1 → (i : ℕ) (m : List ℕ) → Bits m → Bits (set m i v)
set_bits v b i m h k = set_either (λ (x : ℕ). x ≤ 1) m i k v 0 b (h k)

pub fill_bits : (g : Grid) (vs : List Float) (lens : List ℕ) (region : Region) (m : List ℕ) → Bits m → Bits (fill_region g vs lens region m)
fill_bits g vs lens region m h = fill_keeps g vs lens region Bits (λ k l q. set_bits 1 (omega arith) k l q) m h

zero_bits : (n : ℕ) → Bits (zeros n)
zero_bits zero k = omega arith
zero_bits (suc n) zero = omega arith
zero_bits (suc n) (suc k) = zero_bits n k

keep_bits : (o : List ℕ) (i : ℕ) (m : List ℕ) → Bits m → Bits (keep_cell o i m)
unfolding keep_cell
keep_bits o i m h = by_test Bits (eqb (get_or o i 0) 1) m (set m i 0) (λ t. h) (λ t. set_bits 0 (omega arith) i m h)

pub inside_bits : (g : Grid) (vs : List Float) (lens : List ℕ) (region : Region) → Bits (inside_of g vs lens region)
unfolding inside_of
inside_bits g vs lens region = fill_bits g vs lens region (zeros (g.ny * g.nx)) (zero_bits (g.ny * g.nx))

pub stock_bits : (whole : Bool) (g : Grid) (vs : List Float) (lens regions : List ℕ) → Bits (stock_of whole g vs lens regions)
unfolding stock_of intersection
stock_bits true g vs lens regions = inside_bits g vs lens (pocket_of lens regions)
stock_bits false g vs lens regions =
    let o = add_regions g vs lens regions (zeros (g.ny * g.nx)) in
    let i = inside_of g vs lens (pocket_of lens regions) in
    loop_keeps (keep_cell o) 0 Bits (length i) (λ k m a b h. keep_bits o k m h) i (inside_bits g vs lens (pocket_of lens regions))
