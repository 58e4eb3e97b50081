-- A crescent's questions, and the crescent on the first cells of the map. Assumes nothing.
use mathlib.Core.Path.{◌≡◌, refl, sym, ap, ◌∙◌, subst}
use mathlib.Core.Bool.{Bool, true, false, ◌&&◌}
use mathlib.Core.List.{List, ◌++◌}
use Prim.Native.Nat.{ℕ, ◌+◌, ◌-◌, ◌*◌, ◌≤◌, ◌<◌}
use native.Mathlib.Omega.{arith}
use lib.ListN.{length, take, drop, length-take}
use lib.Dec.{leb}
use lib.Ieee.{Float}
use borrow.Author.Tests.{leb-true, leb-false, le-leb, lt-leb}
use borrow.Rule.Slice.PartMut.{post_of, Post-is}
use Rattle.loops.specs.Cells.{ones}
use Rattle.loops.proofs.CellLaws.{ones_le}
use Rattle.loops.proofs.Cases.{by_cases, both}
use Rattle.geom.specs.declared.vec2.Vec2.{Vec2}
use Rattle.raster.specs.Grid.{Sides, Over}
use Rattle.raster.specs.Log.{Stock, st, Ready, clear_after}
use Rattle.raster.specs.declared.grid.Grid.{Grid}
use Rattle.std.specs.Prelude.{Result, Ok, Err}
use Rattle.pocket.specs.declared.refusals.Refusal.{Refusal}
use Rattle.pocket.specs.declared.refusals.Refusal.TheVariants.{OutOfRange, NoRegion, NoRaster, TooShort}
use Rattle.pocket.specs.Ranges.{point_fit, grid_fit, disk_fit, sides_fit}
use Rattle.pocket.specs.Refusals.{Asked, ask, size_asked, map_asked, room_fit, crescent_asked}
use Rattle.pocket.specs.Leaves.{on_log, clear_crescent_of}
use Rattle.pocket.proofs.AskedLaws.{not-ok, ask-none, sides_are, front}
use Rattle.pocket.proofs.LeafLaws.{is-answered}

and-false : (a : Bool) → false ≡ a && false
and-false true = refl
and-false false = refl

same_leb : (k u l : ℕ) → u ≤ l → leb k (l - u) ≡ leb (u + k) l
same_leb k u l h =
    by_cases (leb k (l - u))
    (λ t. t ∙ sym (le-leb (u + k) l (omega (arith, leb-true k (l - u) t))))
    (λ t. t ∙ sym (lt-leb (u + k) l (omega (arith, leb-false k (l - u) t))))

module _ (n : ℕ) (m : List ℕ) (long used : ℕ) where
  pub room-none : long < used → false ≡ room_fit n m long used
  unfolding room_fit
  room-none h = rw (lt-leb (used + ones (take n m)) long (omega arith)) (and-false (leb n long))

  pub room-all : used ≤ long → n ≤ long - used → true ≡ room_fit n m long used
  unfolding room_fit
  room-all h k =
      let o = ones_le (take n m) in
      let t : length (take n m) ≤ n = simp length-take (omega arith) in
      rw (le-leb n long (omega arith), le-leb (used + ones (take n m)) long (omega arith))

  pub room-some : used ≤ long → (k : ℕ) → k ≡ ones (take (n - 0) (drop 0 m)) → leb n long && leb k (long - used) ≡ room_fit n m long used
  unfolding room_fit
  room-some h k e = ap (λ (b : Bool). leb n long && b) (same_leb k used long h ∙ ap (λ (z : ℕ). leb (used + z) long) (e ∙ ap ones (front n m)))

-- the map's questions first; where they have no no, the room
first_of : (b s l q : Bool) (why : Refusal) → Err why ≡ ask OutOfRange b (ask NoRaster s (ask TooShort l (Ok tt))) → Err why ≡ ask OutOfRange b (ask NoRaster s (ask TooShort (l && q) (Ok tt)))
first_of true true true q why e = absurd (not-ok why e)
first_of true true false q why e = e
first_of true false l q why e = e
first_of false s l q why e = e

rest_of : (b s l q : Bool) → ask OutOfRange b (ask NoRaster s (ask TooShort l (Ok tt))) ≡ Ok tt → ask TooShort q (Ok tt) ≡ ask OutOfRange b (ask NoRaster s (ask TooShort (l && q) (Ok tt)))
rest_of true true true q e = refl
rest_of true true false q e = absurd (not-ok TooShort e)
rest_of true false l q e = absurd (not-ok NoRaster e)
rest_of false s l q e = absurd (not-ok OutOfRange e)

abbrev cells : Grid → ℕ
cells g = g.ny * g.nx

module _ (g : Grid) (prev c : Vec2) (r : Float) (m : List ℕ) (long used : ℕ) where
  abbrev fit : Bool
  fit = grid_fit g && (point_fit prev && disk_fit c r)

  pub crescent-first : (why : Refusal) → Err why ≡ map_asked fit g.nx g.ny (length m) → Err why ≡ crescent_asked g prev c r m long used
  unfolding crescent_asked map_asked size_asked
  crescent-first why e = first_of fit (sides_fit g.nx g.ny) (leb (cells g) (length m)) (room_fit (cells g) m long used) why e

  crescent-rest : map_asked fit g.nx g.ny (length m) ≡ Ok tt → ask TooShort (room_fit (cells g) m long used) (Ok tt) ≡ crescent_asked g prev c r m long used
  unfolding crescent_asked map_asked size_asked
  crescent-rest e = rest_of fit (sides_fit g.nx g.ny) (leb (cells g) (length m)) (room_fit (cells g) m long used) e

  pub crescent-full : map_asked fit g.nx g.ny (length m) ≡ Ok tt → room_fit (cells g) m long used ≡ false → Err TooShort ≡ crescent_asked g prev c r m long used
  crescent-full e h = sym (ap (λ (q : Bool). ask TooShort q (Ok tt)) h) ∙ crescent-rest e

  pub crescent-fits : map_asked fit g.nx g.ny (length m) ≡ Ok tt → room_fit (cells g) m long used ≡ true → Ok tt ≡ crescent_asked g prev c r m long used
  crescent-fits e h = sym (ap (λ (q : Bool). ask TooShort q (Ok tt)) h) ∙ crescent-rest e

  module _ (e : crescent_asked g prev c r m long used ≡ Ok tt) where
    abbrev lent : Bool
    lent = leb (cells g) (length m) && room_fit (cells g) m long used

    questions : (sides_fit g.nx g.ny ≡ true) × (lent ≡ true)
    unfolding crescent_asked
    questions =
        let a = ask-none OutOfRange fit (ask NoRaster (sides_fit g.nx g.ny) (ask TooShort lent (Ok tt))) e in
        let b = ask-none NoRaster (sides_fit g.nx g.ny) (ask TooShort lent (Ok tt)) a.1 in
        (b.0, (ask-none TooShort lent (Ok tt) b.1).0)

    pub crescent-sides : Sides g
    crescent-sides = sides_are g questions.0

    pub crescent-long : (cells g) ≤ length m
    crescent-long = leb-true (cells g) (length m) (both (leb (cells g) (length m)) (room_fit (cells g) m long used) questions.1).0

    pub crescent-room : used + ones (take (cells g) m) ≤ long
    unfolding room_fit
    crescent-room =
        let q = (both (leb (cells g) (length m)) (room_fit (cells g) m long used) questions.1).1 in
        leb-true (used + ones (take (cells g) m)) long (both (leb (cells g) long) (leb (used + ones (take (cells g) m)) long) q).1

-- ---- the crescent, on the first (cells g) of the map

module _ (g : Grid) (prev c : Vec2) (r : Float) (m l : List ℕ) (used : ℕ) where
  abbrev part : List ℕ
  part = take ((cells g) - 0) (drop 0 m)

  pub crescent-ready : crescent_asked g prev c r m (length l) used ≡ Ok tt → Over g (length part) × Ready (st part l used)
  crescent-ready e =
      let sides = crescent-sides g prev c r m (length l) used e in
      let few = sides.cells in
      let long = crescent-long g prev c r m (length l) used e in
      let whole : length (take (cells g) m) ≡ (cells g) = simp length-take (omega arith) in
      subst (λ (w : List ℕ). Over g (length w) × Ready (st w l used)) (sym (front (cells g) m))
      (record { sides = sides; long = omega (arith, whole) }, record { room = crescent-room g prev c r m (length l) used e; small = omega (arith, whole) })

  pub crescent-done : (n : Asked) → n ≡ crescent_asked g prev c r m (length l) used → n ≡ Ok tt → (k : ℕ) (m' l' : List ℕ) → st m' l' k ≡ clear_after g prev c r (st part l used)
      → on_log (Ok k) (m' ++ post_of 0 ((cells g) - 0) m) l' ≡ clear_crescent_of g prev c r used m l
  unfolding clear_crescent_of
  crescent-done n e h k m' l' E =
      is-answered (λ z. on_log (Err z) m l) n _ e h _ _
      (ap (λ (w : List ℕ). on_log (Ok k) (m' ++ w) l') (Post-is 0 (cells g) m (omega arith))
      ∙ ap (λ (t : Stock). on_log (Ok t.count) (t.cells ++ drop (cells g) m) t.log) (E ∙ ap (λ (w : List ℕ). clear_after g prev c r (st w l used)) (front (cells g) m)))
