-- A line that agrees has the answer of the definitions. Assumes nothing.
use Rattle.std.proofs.Common.{◌≡◌, ℕ, ◌+◌, ◌-◌, ◌*◌, ◌≤◌, true, ◌&&◌, eqb, List, [], ◌∷◌, length, get_or, set, replicate, sym, refl, ap, ◌∙◌, subst, arith, length-set, eqb-true}
use lib.Ieee.{Float, binary64, to_bits}
use Rattle.loops.specs.Loop.{loop, turns}
use Rattle.loops.specs.Cells.{ones}
use Rattle.loops.proofs.Cases.{both}
use Rattle.loops.proofs.LoopLaws.{loop_keeps}
use Rattle.distance.specs.Nearest.{transform_of}
use Rattle.geom.specs.Vec.{f0}
use Rattle.geom.specs.Region.{start_of, Held}
use Rattle.geom.specs.declared.vec2.Vec2.{Vec2}
use Rattle.raster.specs.Log.{Stock, st, Ready, Logged, clear_after, undone, passes}
use Rattle.raster.specs.Contact.{rim_contact, angle_of}
use Rattle.filling.specs.Fill.{fill_region}
use Rattle.raster.specs.declared.contact.Contact as counted
use Rattle.raster.specs.declared.grid.Grid.{Grid}
use Rattle.raster.proofs.RunLaws.{logged-run}
use Rattle.vectors_maps.specs.Print.{roots_of}
use Rattle.prints.specs.Print.{print_of}
use Rattle.vectors_maps.specs.Maps.{float_at, point_at, grid_of}
use Rattle.vectors_maps.specs.Answers.{map_of, told, cut_of, Crescent, vertices_of, lens_of, three_loops, filled_of, Fill, Contact, Squares}
use Rattle.vectors_maps.specs.declared.crescent.Removed.{Removed}

-- two numbers that are compared
same-two : (a b x y : ℕ) → eqb a x && eqb b y ≡ true → (x ≡ a) × (y ≡ b)
same-two a b x y h =
    let t = both (eqb a x) (eqb b y) h in
    (sym (eqb-true a x t.0), sym (eqb-true b y t.1))

-- ---- the distance map

pub squares_agree : (s m w : List ℕ) (nx ny h k : ℕ) → m ≡ map_of s nx ny → w ≡ transform_of 1 m nx ny (replicate 1120 0)
    → h ≡ print_of w (ny * nx) → k ≡ roots_of w (ny * nx) → eqb h (get_or s 5 0) && eqb k (get_or s 6 0) ≡ true → Squares s nx ny
squares_agree s m w nx ny h k em ew eh ek t =
    let is = ew ∙ ap (λ (l : List ℕ). transform_of 1 l nx ny (replicate 1120 0)) em in
    let two = same-two h k (get_or s 5 0) (get_or s 6 0) t in
    record {
      squares = two.0 ∙ eh ∙ ap (λ (l : List ℕ). print_of l (ny * nx)) is;
      roots = two.1 ∙ ek ∙ ap (λ (l : List ℕ). roots_of l (ny * nx)) is;
    }

-- ---- contact

pub contact_agrees : (s m : List ℕ) (nx ny b : ℕ) (g : Grid) (p : Vec2) (r a : Float) (c : counted.Contact) → m ≡ map_of s nx ny → g ≡ grid_of s nx ny → p ≡ point_at s 8
    → r ≡ float_at s 10 → c ≡ rim_contact g m p r (get_or s 11 0) → a ≡ angle_of c → b ≡ to_bits binary64 a → eqb b (get_or s 12 0) ≡ true → Contact s nx ny
contact_agrees s m nx ny b g p r a c em eg ep er ec ea eb t =
    record { angle = sym (eqb-true b (get_or s 12 0) t) ∙ eb ∙ ap (to_bits binary64) (ea ∙ ap angle_of (ec ∙ (λ i. rim_contact (eg i) (em i) (ep i) (er i) (get_or s 11 0)))) }

-- ---- a crescent

pub cut-logged : (g : Grid) (from to : Vec2) (r : Float) (m l m' l' : List ℕ) (n : ℕ) → Ready (st m l 0) → st m' l' n ≡ clear_after g from to r (st m l 0)
    → Logged l' n (length m')
unfolding passes
cut-logged g from to r m l m' l' n h e =
    subst (λ (s : Stock). Logged s.log s.count (length s.cells)) (sym e) (logged-run m l h g (record { from = from; to = to; radius = r } ∷ []))

removed : ℕ → ℕ → ℕ → ℕ → Removed
removed n a b d = record { count = n; log = a; after = b; undone = d }

pub cut-is : (g : Grid) (n : ℕ) (from to : Vec2) (r : Float) (m l m' l' m'' : List ℕ) (k a b d : ℕ) → st m' l' k ≡ clear_after g from to r (st m l 0)
    → a ≡ print_of l' k → b ≡ print_of m' n → m'' ≡ undone l' 0 k m' → d ≡ print_of m'' n
    → record { count = k; log = a; after = b; undone = d } ≡ cut_of g n from to r m l
unfolding cut_of removed
cut-is g n from to r m l m' l' m'' k a b d e ea eb em ed =
    let ed' : d ≡ print_of (undone l' 0 k m') n = ed ∙ ap (λ (w : List ℕ). print_of w n) em in
    (λ i. removed k (ea i) (eb i) (ed' i)) ∙ ap (told n) e

pub crescent_agrees : (s m : List ℕ) (nx ny : ℕ) (g : Grid) (from to : Vec2) (r : Float) (d : Removed) → m ≡ map_of s nx ny → g ≡ grid_of s nx ny
    → from ≡ point_at s 8 → to ≡ point_at s 10 → r ≡ float_at s 12 → d ≡ cut_of g (ny * nx) from to r m (replicate 1024 0)
    → ((eqb d.count (get_or s 13 0) && eqb d.log (get_or s 14 0)) && eqb d.after (get_or s 15 0)) && eqb d.undone (get_or s 16 0) ≡ true → Crescent s nx ny
unfolding removed
crescent_agrees s m nx ny g from to r d em eg ef et er ed h =
    let t = both ((eqb d.count (get_or s 13 0) && eqb d.log (get_or s 14 0)) && eqb d.after (get_or s 15 0)) (eqb d.undone (get_or s 16 0)) h in
    let u = both (eqb d.count (get_or s 13 0) && eqb d.log (get_or s 14 0)) (eqb d.after (get_or s 15 0)) t.0 in
    let a = same-two d.count d.log (get_or s 13 0) (get_or s 14 0) u.0 in
    let after = sym (eqb-true d.after (get_or s 15 0) u.1) in
    let undone = sym (eqb-true d.undone (get_or s 16 0) t.1) in
    record {
      is = (λ i. removed (a.0 i) (a.1 i) (after i) (undone i)) ∙ ed ∙ (λ i. cut_of (eg i) (ny * nx) (ef i) (et i) (er i) (em i) (replicate 1024 0));
    }

-- ---- a region filled in

pub vertices-long : (s : List ℕ) (e : ℕ) (vs : List Float) → length (loop (λ k w. set w k (float_at s (k + 11))) 0 e vs) ≡ length vs
vertices-long s e vs = loop_keeps (λ k w. set w k (float_at s (k + 11))) 0 (λ (w : List Float). length w ≡ length vs) e (λ i w b c h. length-set w i (float_at s (i + 11)) ∙ h) vs refl

vertices_in : (a b c : ℕ) → start_of (a ∷ b ∷ c ∷ []) three_loops 3 ≡ a + b + c
unfolding start_of loop turns
vertices_in a b c = omega arith

pub held_three : (a b c : ℕ) (s : List ℕ) (vs z : List Float) → a + b + c ≤ 24 → vs ≡ vertices_of s z → length z ≡ 48 → Held vs (a ∷ b ∷ c ∷ []) three_loops
unfolding vertices_of
held_three a b c s vs z h e l =
    let n = ap length e ∙ vertices-long s 48 z ∙ l in
    record { some = omega arith; sizes = omega arith; vertices = omega (arith, vertices_in a b c, n) }

pub filled_is : (g : Grid) (vs : List Float) (v lens m m' : List ℕ) (z : List Float) → vs ≡ vertices_of v z → m' ≡ fill_region g vs lens three_loops m
    → m' ≡ fill_region g (vertices_of v z) lens three_loops m
filled_is g vs v lens m m' z e d = d ∙ ap (λ (w : List Float). fill_region g w lens three_loops m) e

pub fill_agrees : (s m m' : List ℕ) (last nx ny a b c n h : ℕ) (g : Grid) → m ≡ map_of s nx ny → g ≡ grid_of s nx ny → a ≡ get_or s 8 0
    → b ≡ get_or s 9 0 → c ≡ get_or s 10 0 → m' ≡ fill_region g (vertices_of s (replicate 48 f0)) (a ∷ b ∷ c ∷ []) three_loops m
    → n ≡ ones m' → h ≡ print_of m' (ny * nx) → eqb n (get_or s (last - 1) 0) && eqb h (get_or s last 0) ≡ true → Fill s last nx ny
unfolding filled_of
fill_agrees s m m' last nx ny a b c n h g em eg ea eb ec e en eh t =
    let el : a ∷ b ∷ c ∷ [] ≡ lens_of s = λ i. ea i ∷ eb i ∷ ec i ∷ [] in
    let is : m' ≡ filled_of s nx ny = e ∙ (λ i. fill_region (eg i) (vertices_of s (replicate 48 f0)) (el i) three_loops (em i)) in
    let two = same-two n h (get_or s (last - 1) 0) (get_or s last 0) t in
    record { stock = two.0 ∙ en ∙ ap ones is; print = two.1 ∙ eh ∙ ap (λ (w : List ℕ). print_of w (ny * nx)) is }
