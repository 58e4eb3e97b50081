-- The first no of document 01's questions, and what it says where there is none: numbers, sides, a map. Assumes nothing.
use mathlib.Core.Path.{◌≡◌, refl, ap, ◌∙◌, subst}
use mathlib.Core.Bool.{Bool, true, false, ◌&&◌}
use mathlib.Core.List.{List}
use Prim.Native.Nat.{ℕ, ◌-◌, ◌*◌, ◌≤◌, ◌<◌}
use native.Mathlib.Omega.{arith}
use lib.ListN.{take, drop}
use lib.Dec.{leb}
use borrow.Author.Tests.{leb-true, le-leb, lt-leb}
use Rattle.loops.proofs.Cases.{both}
use Rattle.distance.specs.Least.{MapSides}
use Rattle.geom.specs.declared.vec2.Vec2.{Vec2}
use Rattle.raster.specs.Grid.{Sides, Over}
use Rattle.raster.specs.Contact.{samples_of}
use Rattle.raster.specs.declared.grid.Grid.{Grid}
use Rattle.raster.proofs.GridLaws.{few-cells}
use Rattle.std.specs.Prelude.{Result, Ok, Err}
use Rattle.pocket.specs.declared.refusals.Refusal.{Refusal}
use Rattle.pocket.specs.declared.refusals.Refusal.TheVariants.{OutOfRange, NoRegion, NoRaster, TooShort}
use Rattle.pocket.specs.Ranges.{point_fit, grid_fit, sides_fit}
use Rattle.pocket.specs.Refusals.{Asked, ask, size_asked, map_asked, cell_asked}

pub both_are : {a a' b b' : Bool} → a ≡ a' → b ≡ b' → a && b ≡ a' && b'
both_are p q = λ t. p t && q t

-- a refusal is no answer
abbrev IsErr : Asked → Type 0
IsErr (Ok u) = ⊥
IsErr (Err why) = Unit

pub not-ok : (why : Refusal) → ◌≡◌ {A = Asked} (Err why) (Ok tt) → ⊥
not-ok why e = subst IsErr e tt

-- no no: the first question is answered yes, and the rest has none
pub ask-none : (why : Refusal) (b : Bool) (rest : Asked) → ask why b rest ≡ Ok tt → (b ≡ true) × (rest ≡ Ok tt)
ask-none why true rest e = (refl, e)
ask-none why false rest e = absurd (not-ok why e)

-- ---- sides

abbrev side : ℕ → Bool
side n = leb 1 n && leb n 4096

side_is : (n : ℕ) → side n ≡ true → (0 < n) × (n ≤ 4096)
side_is n h = let w = both (leb 1 n) (leb n 4096) h in (omega (arith, leb-true 1 n w.0), leb-true n 4096 w.1)

pub sides_product : (nx ny : ℕ) → side nx ≡ true → side ny ≡ true → ny * nx ≤ 16777216
sides_product nx ny a b = few-cells ny nx (side_is ny b).1 (side_is nx a).1

module _ (nx ny : ℕ) (h : sides_fit nx ny ≡ true) where
  parts : (side nx ≡ true) × (side ny && leb (ny * nx) 1048576 ≡ true)
  unfolding sides_fit
  parts = both (side nx) (side ny && leb (ny * nx) 1048576) h

  pub sides-few : ny * nx ≤ 1048576
  sides-few = leb-true (ny * nx) 1048576 (both (side ny) (leb (ny * nx) 1048576) parts.1).1

  pub map-sides : MapSides nx ny
  map-sides =
      let x = side_is nx parts.0 in
      let y = side_is ny (both (side ny) (leb (ny * nx) 1048576) parts.1).0 in
      record { column = x.0; wide = x.1; row = y.0; high = y.1 }

pub sides_are : (g : Grid) → sides_fit g.nx g.ny ≡ true → Sides g
sides_are g h =
    let s = map-sides g.nx g.ny h in
    record { wide = s.column; high = s.row; columns = s.wide; rows = s.high; cells = sides-few g.nx g.ny h }

-- a grid that has no no
pub cell-none : (g : Grid) (p : Vec2) → cell_asked g p ≡ Ok tt → Sides g
unfolding cell_asked
cell-none g p e =
    let a = ask-none OutOfRange (grid_fit g && point_fit p) (ask NoRaster (sides_fit g.nx g.ny) (Ok tt)) e in
    sides_are g (ask-none NoRaster (sides_fit g.nx g.ny) (Ok tt) a.1).0

-- ---- a map

module _ (nx ny long : ℕ) where
  pub size_odd : sides_fit nx ny ≡ false → Err NoRaster ≡ size_asked nx ny long
  unfolding size_asked
  size_odd h = rw h

  pub size_short : sides_fit nx ny ≡ true → long < ny * nx → Err TooShort ≡ size_asked nx ny long
  unfolding size_asked
  size_short h l = rw (h, lt-leb (ny * nx) long l)

  pub size_fits : sides_fit nx ny ≡ true → ny * nx ≤ long → Ok tt ≡ size_asked nx ny long
  unfolding size_asked
  size_fits h l = rw (h, le-leb (ny * nx) long l)

  pub size_none : size_asked nx ny long ≡ Ok tt → (sides_fit nx ny ≡ true) × (ny * nx ≤ long)
  unfolding size_asked
  size_none e =
      let s = ask-none NoRaster (sides_fit nx ny) (ask TooShort (leb (ny * nx) long) (Ok tt)) e in
      (s.0, leb-true (ny * nx) long (ask-none TooShort (leb (ny * nx) long) (Ok tt) s.1).0)

  pub map_odd : (b : Bool) → b ≡ false → Err OutOfRange ≡ map_asked b nx ny long
  unfolding map_asked
  map_odd b h = rw h

  pub map-rest : (b : Bool) → b ≡ true → (n : Asked) → n ≡ size_asked nx ny long → n ≡ map_asked b nx ny long
  unfolding map_asked
  map-rest b h n e = rw h e

  pub map-none : (b : Bool) → map_asked b nx ny long ≡ Ok tt → (b ≡ true) × (size_asked nx ny long ≡ Ok tt)
  unfolding map_asked
  map-none b e = ask-none OutOfRange b (size_asked nx ny long) e

-- 12 is asked of what the tests come to
pub map_by_lem : (b b' : Bool) (nx ny long : ℕ) (n : Asked) → b ≡ b' → n ≡ map_asked b nx ny long → n ≡ map_asked b' nx ny long
map_by_lem b b' nx ny long n e h = h ∙ ap (λ (q : Bool). map_asked q nx ny long) e

pub size_over : (g : Grid) (long : ℕ) → size_asked g.nx g.ny long ≡ Ok tt → Over g long
size_over g long e = let s = size_none g.nx g.ny long e in record { sides = sides_are g s.0; long = s.1 }

pub map-over : (b : Bool) (g : Grid) (long : ℕ) → map_asked b g.nx g.ny long ≡ Ok tt → Over g long
map-over b g long e = size_over g long (map-none g.nx g.ny long b e).1

-- a part from the start on, as the code lends it
pub front : (n : ℕ) (m : List ℕ) → take (n - 0) (drop 0 m) ≡ take n m
front n m = ap (λ (k : ℕ). take k m) (let z : n - 0 ≡ n = omega arith in z)

-- ---- contact

pub samples-few : (a b : Bool) (n k : ℕ) → a && (b && leb n 4096) ≡ true → k ≡ samples_of n → 2 * k ≤ 8192
unfolding samples_of
samples-few a b n k h e = omega (arith, leb-true n 4096 (both b (leb n 4096) (both a (b && leb n 4096) h).1).1)
