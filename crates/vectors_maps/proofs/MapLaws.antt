-- The made map, cell by cell, the grid over it, and the room of what is worked out of it. Assumes nothing.
use Rattle.std.proofs.Common.{◌≡◌, ℕ, ◌*◌, ◌%◌, ◌<◌, ◌≤◌, Bool, false, cond, ◌||◌, eqb, ltb, List, length, set, sym, refl, ap, ◌∙◌, subst, mul-le-mul_right, arith, length-set, le-ltb, lt-ltb}
use borrow.Author.Tests.{eqb-false}
use Rattle.loops.specs.Loop.{loop}
use Rattle.loops.proofs.Cases.{neither}
use Rattle.loops.proofs.LoopLaws.{loop_keeps}
use Rattle.distance.specs.Least.{MapSides}
use Rattle.raster.specs.Grid.{Over}
use Rattle.raster.specs.Contact.{samples_of}
use Rattle.raster.specs.declared.grid.Grid.{Grid}
use Rattle.prints.specs.Print.{mixed}
use Rattle.vectors_maps.specs.Maps.{Small, Made, making, make_cell, made_of, grid_of}

pub make_long : (seed share e : ℕ) (m : List ℕ) → length (loop (make_cell share) 0 e (making seed m)).cells ≡ length m
make_long seed share e m = loop_keeps (make_cell share) 0 (λ (s : Made). length s.cells ≡ length m) e (λ i s b c h. length-set s.cells i _ ∙ h) (making seed m) refl

pub made_long : (seed share n : ℕ) (m : List ℕ) → length (made_of seed share n m) ≡ length m
unfolding made_of
made_long seed share n m = make_long seed share n m

cell-is : (share k x x' b : ℕ) (m m' : List ℕ) → x' ≡ mixed x 0 → m' ≡ set m k b → b ≡ cond (ltb (x' % 256) share) 1 0 → making x' m' ≡ make_cell share k (making x m)
cell-is share k x x' b m m' e d t =
    (λ i. making x' (d i)) ∙ (λ i. making x' (set m k (t i))) ∙ (λ i. making (e i) (set m k (cond (ltb (e i % 256) share) 1 0)))

pub made_stock : (share k x x' : ℕ) (m m' : List ℕ) → x' ≡ mixed x 0 → m' ≡ set m k 1 → x' % 256 < share → making x' m' ≡ make_cell share k (making x m)
made_stock share k x x' m m' e d h = cell-is share k x x' 1 m m' e d (ap (λ (t : Bool). cond t 1 0) (sym (lt-ltb (x' % 256) share h)))

pub made_clear : (share k x x' : ℕ) (m m' : List ℕ) → x' ≡ mixed x 0 → m' ≡ set m k 0 → share ≤ x' % 256 → making x' m' ≡ make_cell share k (making x m)
made_clear share k x x' m m' e d h = cell-is share k x x' 0 m m' e d (ap (λ (t : Bool). cond t 1 0) (sym (le-ltb (x' % 256) share h)))

pub small-sides : (nx ny : ℕ) → eqb nx 0 || eqb ny 0 ≡ false → nx ≤ 32 → ny ≤ 32 → Small nx ny
small-sides nx ny e h k =
    let n = neither (eqb nx 0) (eqb ny 0) e in
    let a = eqb-false nx 0 n.0 in
    let b = eqb-false ny 0 n.1 in
    record { wide = omega (arith, a); columns = h; high = omega (arith, b); rows = k }

pub few : (nx ny : ℕ) → Small nx ny → ny * nx ≤ 1024
few nx ny h = omega (arith, mul-le-mul_right nx h.rows, h.columns)

pub made_full : (x y n k : ℕ) (m z : List ℕ) → m ≡ made_of x y n z → length z ≡ k → length m ≡ k
made_full x y n k m z e h = ap length e ∙ made_long x y n z ∙ h

over-small : (s : List ℕ) (nx ny n : ℕ) → Small nx ny → n ≡ 1024 → Over (grid_of s nx ny) n
unfolding grid_of
over-small s nx ny n h e = record {
  sides = record {
    wide = h.wide;
    high = h.high;
    columns = omega (arith, h.columns);
    rows = omega (arith, h.rows);
    cells = omega (arith, few nx ny h);
  };
  long = omega (arith, few nx ny h);
}

-- the grid of a line, over the map that it makes
pub over_made : (s m z : List ℕ) (g : Grid) (x y n nx ny : ℕ) → Small nx ny → g ≡ grid_of s nx ny → m ≡ made_of x y n z → length z ≡ 1024 → Over g (length m)
over_made s m z g x y n nx ny h eg em ez = subst (λ (q : Grid). Over q (length m)) (sym eg) (over-small s nx ny (length m) h (made_full x y n 1024 m z em ez))

pub sides-small : (nx ny : ℕ) → Small nx ny → MapSides nx ny
sides-small nx ny h = record { column = h.wide; wide = omega (arith, h.columns); row = h.high; high = omega (arith, h.rows) }

-- the table of a line's samples
pub rim-room : (n k : ℕ) → n ≡ samples_of k → k ≤ 64 → 2 * n ≤ 128
unfolding samples_of
rim-room n k e h = omega arith
