-- The tests by squares decide what the definition compares; a cell of the field is worked out as it says. Assumes nothing.
use Rattle.std.specs.Prelude.{Option, None, Some, IfSome}
use mathlib.Core.Path.{◌≡◌, refl, sym, ap, ◌∙◌, subst}
use mathlib.Core.Bool.{Bool, true, false}
use mathlib.Core.List.{List}
use Prim.Native.Nat.{ℕ, ◌+◌, ◌-◌, ◌≤◌, ◌<◌}
use native.Mathlib.Omega.{arith}
use lib.ListN.{get_or, set}
use lib.Dec.{eqb}
use lib.Ieee.{Float, binary64, add, mul, div, lt}
use Rattle.loops.specs.Cells.{number}
use Rattle.numbers.specs.Narrow.{narrow_of}
use Rattle.numbers.specs.Small.{f2}
use Rattle.distance.specs.Limits.{scaled_of, passes_of}
use Rattle.distance.specs.Rooted.{rooted_of}
use Rattle.std.specs.Prelude.{Some, None}
use Rattle.distance.specs.declared.limits.Limit.{Limit}
use Rattle.distance.specs.declared.limits.Threshold.{Threshold}
use Rattle.raster.specs.Contact.{samples_of, hits_of, angle_of}
use Rattle.raster.specs.Grid.{center_of}
use Rattle.raster.specs.declared.contact.Contact.{Contact}
use Rattle.numbers.specs.Circle.{tau}
use Rattle.rims.specs.Sums.{HitsAlong}
use Rattle.setup.specs.Place.{contact_at}
use Rattle.setup.specs.declared.Setup.{Setup}
use Rattle.field.specs.Field.{f3h, s0, high_of, low_of, reach_of, value, value_of, value_at, wanted_at, sensed, put_value, field_cell}
use Rattle.field.specs.Gauge.{bound, Gauged, KnownAt}
use Rattle.field.specs.declared.gauge.Gauge.{Gauge}
use Rattle.field.specs.declared.gauge.Value.{Value}

-- ---- what a round fixes

pub gauged : (s : Setup) (far deep near : Limit) (low full : Float) → far.threshold ≡ bound (Some s.grid.cell) false (add binary64 s.r (mul binary64 f3h s.grid.cell))
    → low ≡ low_of s → deep.threshold ≡ bound (Some s.grid.cell) true low
    → near.threshold ≡ bound None false (div binary64 (add binary64 s.r (mul binary64 f2 s.grid.cell)) s.grid.cell)
    → full ≡ narrow_of tau → Gauged s far deep near full
unfolding high_of reach_of
gauged s far deep near low full F L D N U = record {
  far = F;
  deep = D ∙ ap (bound (Some s.grid.cell) true) L;
  near = N;
  full = U;
}

-- the hits that are told are those of as many samples as are taken
pub known-hits : (s : Setup) (map : List ℕ) (i j : ℕ) (k : Option ℕ) (n h : ℕ) → n ≡ samples_of s.samples → k ≡ Some h → KnownAt s map i j k → h ≡ hits_of s.grid map (center_of s.grid i j) s.r n
known-hits s map i j k n h e t K = subst (λ (o : Option ℕ). IfSome o (λ (x : ℕ). x ≡ hits_of s.grid map (center_of s.grid i j) s.r (samples_of s.samples))) t K.hits ∙ ap (hits_of s.grid map (center_of s.grid i j) s.r) (sym e)

-- those that are counted along a row are told of each of its cells
pub known-along : (s : Setup) (map : List ℕ) (from j : ℕ) (v : List ℕ) (told : Bool) → (told ≡ true → HitsAlong s.grid map s.r (samples_of s.samples) from j v)
    → (i : ℕ) (k : Option ℕ) → from ≤ i → IfSome k (λ h. (told ≡ true) × (i - from < 32) × (h ≡ get_or v (i - from) 0)) → KnownAt s map i j k
known-along s map from j v told H i None l K = record { hits = tt }
known-along s map from j v told H i (Some h) l e = record {
  hits =
      e.2 ∙ (H e.0).at (i - from) e.1 ∙ ap (λ (q : ℕ). hits_of s.grid map (center_of s.grid q j) s.r (samples_of s.samples)) (let z : from + (i - from) ≡ i = omega arith in z);
}

-- ---- a cell that is wanted

module _ (g : Gauge) (allowed near : List ℕ) (k : ℕ) where
  pub wanted_not : eqb (get_or allowed k 0) 1 ≡ false → false ≡ wanted_at g.setup g.all allowed near k
  unfolding wanted_at
  wanted_not e = rw e refl

  module _ (e : eqb (get_or allowed k 0) 1 ≡ true) where
    pub wanted-all : g.all ≡ true → true ≡ wanted_at g.setup g.all allowed near k
    unfolding wanted_at
    wanted-all a = rw (e, a) refl

    pub wanted-near : g.all ≡ false → (b : Bool) → b ≡ passes_of g.near.threshold (get_or near k 0) → b ≡ wanted_at g.setup g.all allowed near k
    unfolding wanted_at passes_of scaled_of
    wanted-near a b B = rw (e, a) (B ∙ ap (λ (q : Threshold). passes_of q (get_or near k 0)) g.gauged.near)

-- ---- its value

module _ (g : Gauge) (map stock : List ℕ) (i j : ℕ) (b : Bool) (B : b ≡ lt g.far.threshold.x (scaled_of g.far.threshold.scale (get_or stock (number g.setup.grid.nx i j) 0))) where
  is-far : b ≡ lt (high_of g.setup) (mul binary64 (rooted_of (get_or stock (number g.setup.grid.nx i j) 0)) g.setup.grid.cell)
  unfolding scaled_of
  is-far = B ∙ ap (λ (q : Threshold). lt q.x (scaled_of q.scale (get_or stock (number g.setup.grid.nx i j) 0))) g.gauged.far

  pub value-far : b ≡ true → value s0 false ≡ value_at g.setup map stock i j
  unfolding value_at value_of
  value-far e = rw (← is-far, e) refl

  module _ (e : b ≡ false) (c : Bool) (C : c ≡ passes_of g.deep.threshold (get_or stock (number g.setup.grid.nx i j) 0)) where
    is-deep : c ≡ lt (mul binary64 (rooted_of (get_or stock (number g.setup.grid.nx i j) 0)) g.setup.grid.cell) (low_of g.setup)
    unfolding passes_of scaled_of
    is-deep = C ∙ ap (λ (q : Threshold). passes_of q (get_or stock (number g.setup.grid.nx i j) 0)) g.gauged.deep

    pub value-deep : c ≡ true → value g.full false ≡ value_at g.setup map stock i j
    unfolding value_at value_of
    value-deep d = rw (← is-far, e, ← is-deep, d, g.gauged.full) refl

    pub value-sampled : c ≡ false → (t : Contact) (a v : Float) → t ≡ contact_at g.setup map (center_of g.setup.grid i j) g.setup.r → a ≡ angle_of t → v ≡ narrow_of a → value v true ≡ value_at g.setup map stock i j
    unfolding value_at value_of
    value-sampled d t a v T A E = rw (← is-far, e, ← is-deep, d, ← T, ← A, ← E) refl

-- ---- the cell

module _ (s : Setup) (all : Bool) (map allowed stock near : List ℕ) (j i n : ℕ) (f : List Float) (w : Bool) (W : w ≡ wanted_at s all allowed near (number s.grid.nx i j)) where
  pub cell-left : w ≡ false → sensed f n ≡ field_cell s all map allowed stock near j i (sensed f n)
  unfolding field_cell
  cell-left e = rw (← W, e) refl

  module _ (e : w ≡ true) (v : Value) (E : v ≡ value_at s map stock i j) where
    pub cell-sampled : v.sampled ≡ true → sensed (set f (number s.grid.nx i j) v.v) (n + 1) ≡ field_cell s all map allowed stock near j i (sensed f n)
    unfolding field_cell put_value
    cell-sampled d = rw (← W, e, ← E, d) refl

    pub cell-told : v.sampled ≡ false → sensed (set f (number s.grid.nx i j) v.v) n ≡ field_cell s all map allowed stock near j i (sensed f n)
    unfolding field_cell put_value
    cell-told d = rw (← W, e, ← E, d) refl
