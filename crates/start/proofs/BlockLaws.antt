-- Centres rise along a row, so that a box from the first centre of a block to the last holds those between. Assumes nothing.
use mathlib.Core.Path.{◌≡◌, refl, sym, ap, ◌∙◌, subst}
use mathlib.Core.Bool.{Bool, true, false, cond}
use mathlib.Core.List.{List}
use Prim.Native.Nat.{ℕ, zero, suc, ◌+◌, ◌-◌, ◌*◌, ◌/◌, ◌%◌, ◌≤◌, ◌<◌}
use native.Mathlib.Nat.{div-add-mod', mod-lt, div-lt_iff_lt-mul, mul-add-div_right, mul-add-mod_self_right, div-eq_of_lt, mod-eq_of_lt}
use native.Mathlib.Omega.{arith}
use lib.ListN.{length, get_or, replicate, length-replicate, get_or-replicate}
use lib.Dec.{T}
use lib.Ieee.{Float, nan, inf, fin, binary64, of_bits, add, mul, le, is_nan}
use Rattle.loops.proofs.Cases.{by_cases, never}
use Rattle.floats.proofs.OrderLaws.{le_not_lt, le_numbers, lt_to_le}
use Rattle.floats.proofs.SignLaws.{zero_under}
use Rattle.floats.proofs.SwapLaws.{add_swap}
use Rattle.floats.proofs.AddMono.{add_mono, add_mono_right}
use Rattle.floats.proofs.MulMono.{mul_mono}
use Rattle.floats.proofs.NumberLaws.{nonzero, scale_number}
use Rattle.floats.proofs.IndexLaws.{whole_mono}
use Rattle.numbers.specs.Order.{is_finite}
use Rattle.numbers.specs.Cast.{float}
use Rattle.numbers.specs.Small.{half}
use Rattle.geom.specs.Vec.{sum}
use Rattle.geom.specs.Region.{corners, contains_of}
use Rattle.geom.specs.Segment.{any_within}
use Rattle.geom.specs.Apart.{Holds, Apart}
use Rattle.geom.specs.declared.vec2.Vec2.{Vec2}
use Rattle.raster.specs.Grid.{Sides, Over, center_of}
use Rattle.filling.proofs.FilledLaws.{filled_at}
use Rattle.setup.specs.Layout.{run}
use Rattle.setup.specs.Place.{cells_of}
use Rattle.setup.specs.declared.Setup.{Setup}
use Rattle.spans.proofs.MonoLaws.{Size, finite_of, add_some}
use Rattle.start.specs.Start.{inside_of}
use Rattle.start.specs.Steps.{inside_in}
use Rattle.start.specs.Blocks.{Plain, middle, Told, Known}
use Rattle.start.specs.declared.blocks.Block.{Block}

-- ---- along one axis

half_finite : is_finite half ≡ true
unfolding is_finite of_bits
half_finite = refl

size_nonzero : (c : Float) → Size c → T (nonzero c)
unfolding is_finite of_bits
size_nonzero nan s = never s.finite
size_nonzero (inf t) s = never s.finite
size_nonzero (fin t zero e) s = never (sym (le_not_lt (fin t zero e) _ (zero_under t e _ tt)) ∙ s.positive)
size_nonzero (fin t (suc n) e) s = tt

module _ (o cell : Float) (O : is_finite o ≡ true) (S : Size cell) where
  abbrev steps : ℕ → Float
  steps i = add binary64 (float i) half

  abbrev place : ℕ → Float
  place i = add binary64 o (mul binary64 (steps i) cell)

  steps-number : (i : ℕ) → is_nan (steps i) ≡ false
  steps-number i = ap is_nan (add_swap binary64 (float i) half) ∙ add_some half (float i) half_finite (le_numbers (float i) (float i) (whole_mono binary64 i i (omega arith))).0

  product_number : (i : ℕ) → is_nan (mul binary64 (steps i) cell) ≡ false
  product_number i = scale_number binary64 (steps i) cell (steps-number i) (finite_of cell S.finite) (size_nonzero cell S)

  place-number : (i : ℕ) → is_nan (place i) ≡ false
  place-number i = add_some o (mul binary64 (steps i) cell) O (product_number i)

  place_mono : (i k : ℕ) → i ≤ k → le (place i) (place k) ≡ true
  unfolding of_bits
  place_mono i k h =
      add_mono_right binary64 o (mul binary64 (steps i) cell) (mul binary64 (steps k) cell)
      (mul_mono binary64 (steps i) (steps k) cell (lt_to_le _ cell S.positive) (add_mono binary64 (float i) (float k) half (whole_mono binary64 i k h) (steps-number i) (steps-number k)) (product_number i) (product_number k))
      (place-number i) (place-number k)

-- ---- along a row

module _ (s : Setup) (P : Plain s) where
  size : Size s.grid.cell
  size = record { finite = P.cell_finite; positive = P.positive }

  centre-held : (j a i e : ℕ) → a ≤ i → i ≤ e → Holds (corners (center_of s.grid a j) (center_of s.grid e j)) (center_of s.grid i j)
  unfolding center_of sum
  centre-held j a i e h k =
      let x = place_mono s.grid.origin.x s.grid.cell P.x_finite size in
      let y = place_mono s.grid.origin.y s.grid.cell P.y_finite size j j (omega arith) in
      record { left = x a i h; right = x i e k; below = y; above = y }

  module _ (S : Sides s.grid) (k m i : ℕ) (R : k % s.grid.nx + m < s.grid.nx) (l : k ≤ i) (h : i ≤ k + m) where
    abbrev nx : ℕ
    nx = s.grid.nx

    abbrev column : ℕ
    column = k % nx + (i - k)

    inside : column < nx
    inside = omega arith

    same : k / nx * nx + column ≡ i
    same = omega (arith, div-add-mod' k nx)

    row_same : i / nx ≡ k / nx
    row_same =
        ap (λ (z : ℕ). z / nx) (sym same) ∙ mul-add-div_right S.wide (k / nx) column
        ∙ (let q : column / nx ≡ 0 = div-eq_of_lt inside in omega arith)

    column-same : i % nx ≡ column
    column-same = ap (λ (z : ℕ). z % nx) (sym same) ∙ mul-add-mod_self_right (k / nx) nx column ∙ mod-eq_of_lt inside

    middle-is : center_of s.grid column (k / nx) ≡ middle s i
    middle-is = rw (row_same, column-same)

  pub told_is : Sides s.grid → (vs : List Float) (lens : List ℕ) (k i j m u : ℕ) (lo hi : Vec2) (t : Bool) → i ≡ k % s.grid.nx → j ≡ k / s.grid.nx → i + m < s.grid.nx
      → lo ≡ center_of s.grid i j → hi ≡ center_of s.grid (i + m) j → u ≡ k → (t ≡ true → Apart (corners lo hi) (λ p. any_within vs lens s.region p s.keep.r))
      → Told s vs lens k (record { upto = u + m + 1; apart = t })
  told_is S vs lens k i j m u lo hi t I J M L H U A = record {
    none = λ e z l h.
        let r : k % s.grid.nx + m < s.grid.nx = omega arith in
        let n : z ≤ k + m = omega arith in
        let q = center_of s.grid (k % s.grid.nx + (z - k)) (k / s.grid.nx) in
        let held : Holds (corners lo hi) q = rw (L, H, I, J) (centre-held (k / s.grid.nx) (k % s.grid.nx) (k % s.grid.nx + (z - k)) (k % s.grid.nx + m) (omega arith) (omega arith)) in
        subst (λ (p : Vec2). any_within vs lens s.region p s.keep.r ≡ false) (middle-is S k m z r l n) ((A e).none q held);
  }

-- the cells after the first one
pub told-next : (s : Setup) (vs : List Float) (lens : List ℕ) (k : ℕ) (b : Block) → Told s vs lens k b → Told s vs lens (k + 1) b
told-next s vs lens k b T = record { none = λ e i l h. T.none e i (omega arith) h }

-- ---- a cell of a block

module _ (s : Setup) (vs : List Float) (lens : List ℕ) (S : Sides s.grid) (b : List ℕ) (I : inside_in (cells_of s) b ≡ inside_of s.grid vs lens s.region) where
  abbrev zeros : List ℕ
  zeros = replicate (cells_of s) 0

  over : Over s.grid (length zeros)
  over = record { sides = S; long = omega (arith, length-replicate {A = ℕ} (cells_of s) 0) }

  -- a byte that is filled says that the centre is in the region
  filled : (k : ℕ) → k < cells_of s → get_or (inside_in (cells_of s) b) k 0 ≡ 1 → contains_of vs lens s.region (middle s k) ≡ true
  unfolding inside_of
  filled k h e =
      let nx = s.grid.nx in
      let same : k / nx * nx + k % nx ≡ k = div-add-mod' k nx in
      let at = filled_at s.grid vs lens s.region zeros over (k % nx) (k / nx) (mod-lt k S.wide) ((div-lt_iff_lt-mul S.wide).1 h) in
      let none : get_or zeros (k / nx * nx + k % nx) 0 ≡ 0 = get_or-replicate (cells_of s) (k / nx * nx + k % nx) 0 0 (omega arith) in
      let byte : get_or (inside_in (cells_of s) b) k 0 ≡ cond (contains_of vs lens s.region (middle s k)) 1 0 =
      ap (λ (l : List ℕ). get_or l k 0) I ∙ ap (λ (z : ℕ). get_or (inside_of s.grid vs lens s.region) z 0) (sym same) ∙ at ∙ ap (cond (contains_of vs lens s.region (middle s k)) 1) none in
      by_cases (contains_of vs lens s.region (middle s k)) (λ t. t) (λ t. absurd (let z : ◌≡◌ {A = ℕ} 0 1 = sym (rw t at byte) ∙ e in let y : ⊥ = omega arith in y))

  pub known_is : (n k c byte : ℕ) → n ≡ cells_of s → k < n → c ≡ k → byte ≡ get_or (run 5 n b) k 0 → (t : Block) → Told s vs lens c t → (t.apart ≡ true → c < t.upto) → Known s vs lens c byte t.apart
  known_is n k c byte N h C B t T U = record {
    inside = λ e. subst (λ (z : ℕ). contains_of vs lens s.region (middle s z) ≡ true) (sym C) (filled k (omega arith) (ap (λ (z : ℕ). get_or (run 5 z b) k 0) (sym N) ∙ sym B ∙ e));
    none = λ e. T.none e c (omega arith) (U e);
  }
