-- What a way is: each of its points is in straight view of the one before, the first of `a`, and the last is b. It has no more points than the raster has cells.
-- Its definition takes the job, the map and the ends, and nothing else. Assumes nothing.
use Rattle.std.specs.Prelude.{None, Option, Some}
use mathlib.Core.Path.{◌≡◌, refl, sym, ap, ◌∙◌, subst}
use mathlib.Core.Bool.{Bool, true, ◌||◌}
use mathlib.Core.List.{List, [], ◌∷◌, ◌++◌}
use Prim.Native.Nat.{ℕ, zero, suc, ◌+◌, ◌-◌, ◌*◌, ◌≤◌, ◌<◌}
use native.Mathlib.Omega.{arith}
use native.Mathlib.Nat.{mul-pos}
use lib.Dec.{eqb, ltb}
use lib.ListN.{length, get_or, length-append}
use lib.Ieee.{Float}
use borrow.Author.Tests.{ltb-true, ltb-false}
use Rattle.loops.proofs.Cases.{by_test}
use Rattle.geom.specs.Points.{points}
use Rattle.geom.specs.declared.vec2.Vec2.{Vec2}
use Rattle.geom.proofs.PointLaws.{points-length}
use Rattle.distance.specs.Nearest.{squares_of}
use Rattle.raster.specs.Grid.{Sides, cell_of}
use Rattle.raster.specs.declared.grid.Grid.{Grid}
use Rattle.raster.proofs.GridLaws.{on-grid-at}
use Rattle.setup.specs.declared.Setup.{Setup}
use Rattle.links.specs.declared.lattice.Lattice.{Lattice}
use Rattle.std.specs.Prelude.{Option, Some, None}
use Rattle.links.specs.Lattice.{lattice_of, nodes, centre_of, Laid}
use Rattle.links.specs.Search.{no_node, seek_of}
use Rattle.links.specs.Straight.{link_clear}
use Rattle.links.specs.Node.{node_no}
use Rattle.links.specs.Path.{back_of, nodes_of, farthest_of, Way, lost, way, Chained, onward, shorten_from, point_in, shorten_of, path_in}
use Rattle.links.specs.Link.{route, Linked, linked, around_of, between_of, link_path, linked_in}
use Rattle.links.proofs.LatticeLaws.{laid, nodes-few, nodes_pos}
use Rattle.links.proofs.LinkLaws.{lattice_grid}
use Rattle.links.proofs.ShortenLaws.{far_in}

-- a way's points from a to b, at most n of them; of no way nothing is said
abbrev pub IsWay : (Vec2 → Vec2 → Bool) → Vec2 → Vec2 → ℕ → Way → Type 0
IsWay clear a b n lost = Unit {0}
IsWay clear a b n (way ps) = Chained clear a ps b × (length ps ≤ n)

-- ---- shortening

-- one point more
chained_more : (clear : Vec2 → Vec2 → Bool) (a b q : Vec2) (ps : List Vec2) → Chained clear a ps b → clear b q ≡ true → Chained clear a (ps ++ (q ∷ [])) q
chained_more clear a b q [] e h = (ap (λ (x : Vec2). clear x q) e ∙ h, refl)
chained_more clear a b q (p ∷ ps) e h = (e.0, chained_more clear p b q ps e.1 h)

module _ (clear : Vec2 → Vec2 → Bool) (from to : Vec2) (pt : ℕ → Vec2) (end : ℕ) (last : (k : ℕ) → k + 1 ≡ end → pt k ≡ to) where
  -- every state that n more turns may start from leads to a way
  abbrev Leads : ℕ → Type 0
  Leads n = (here : Vec2) (first : ℕ) (path : List Vec2) → Chained clear from path here → length path ≤ first → first ≤ end → (end ≤ first → here ≡ to) → IsWay clear from to end (shorten_from clear pt end n here first path)

  -- on from a point in view
  lead_on : (n : ℕ) → Leads n → (here : Vec2) (first : ℕ) (path : List Vec2) → Chained clear from path here → length path ≤ first → first < end → (r : Option ℕ) → farthest_of clear pt here first (end - first) ≡ r
      → IsWay clear from to end (onward r (λ (k : ℕ). shorten_from clear pt end n (pt k) (k + 1) (path ++ (pt k ∷ []))))
  unfolding onward
  lead_on n L here first path c l h None d = tt
  lead_on n L here first path c l h (Some k) d =
      let i = far_in clear pt here first (end - first) k d in
      let p = i.0 in
      let q = i.1.0 in
      L (pt k) (k + 1) (path ++ (pt k ∷ [])) (chained_more clear from here (pt k) path c i.1.1) (omega (arith, length-append path (pt k ∷ []))) (omega arith) (λ z. last k (omega arith))

  short-way : (n : ℕ) → Leads n
  unfolding shorten_from
  short-way zero here first path c l f e = tt
  short-way (suc n) here first path c l f e =
      by_test (IsWay clear from to end) (ltb first end) _ (way path)
      (λ t. lead_on n (short-way n) here first path c l (ltb-true first end t) (farthest_of clear pt here first (end - first)) refl)
      (λ t. (subst (Chained clear from path) (e (ltb-false first end t)) c, omega arith))

-- a list of points that ends at `to`
record Ends (to : Vec2) (ps : List Vec2) : Type 0 where
  some : 0 < length ps
  last : (k : ℕ) (d : Vec2) → k + 1 ≡ length ps → get_or ps k d ≡ to

shorten_way : (clear : Vec2 → Vec2 → Bool) (from to : Vec2) (ps : List Vec2) → Ends to ps → IsWay clear from to (length ps) (shorten_of clear ps from)
unfolding shorten_of
shorten_way clear from to ps E =
    short-way clear from to (point_in ps from) (length ps) (λ k e. E.last k from e) (length ps + 1) from 0 [] refl (omega arith) (omega arith) (λ z. absurd (let y : ⊥ = omega (arith, E.some) in y))

-- ---- the path back

ends_one : (to : Vec2) → Ends to (to ∷ [])
ends_one to = record { some = omega arith; last = λ k d e. ap (λ (j : ℕ). get_or (to ∷ []) j d) (let z : k ≡ 0 = omega arith in z) }

ends_more : (to p : Vec2) (ps : List Vec2) → Ends to ps → Ends to (p ∷ ps)
ends_more to p ps E = record { some = omega arith; last = go }
  where
    go : (k : ℕ) (d : Vec2) → k + 1 ≡ length (p ∷ ps) → get_or (p ∷ ps) k d ≡ to
    go zero d e = absurd (let z : ⊥ = omega (arith, E.some) in z)
    go (suc k) d e = E.last k d (omega arith)

module _ (l : Lattice) (before : List ℕ) (to : Vec2) where
  back_ends : (n v : ℕ) (ps : List Vec2) → Ends to ps → Ends to (back_of l before n v ps)
  unfolding back_of
  back_ends zero v ps E = E
  back_ends (suc n) v ps E =
      by_test (Ends to) (eqb v no_node || eqb v l.start.0) ps _ (λ _. E) (λ _. back_ends n (get_or before v 0) (centre_of l (node_no v) ∷ ps) (ends_more to (centre_of l (node_no v)) ps E))

  back-few : (n v : ℕ) (ps : List Vec2) → length (back_of l before n v ps) ≤ n + length ps
  unfolding back_of
  back-few zero v ps = omega arith
  back-few (suc n) v ps =
      by_test (λ (r : List Vec2). length r ≤ suc n + length ps) (eqb v no_node || eqb v l.start.0) ps _ (λ _. omega arith)
      (λ _. let z = back-few n (get_or before v 0) (centre_of l (node_no v) ∷ ps) in omega (arith, z))

  nodes-end : Ends to (nodes_of l before to)
  unfolding nodes_of
  nodes-end = back_ends (nodes l - 1) (get_or before l.goal.0 0) (to ∷ []) (ends_one to)

  pub nodes-count : Laid l → length (nodes_of l before to) ≤ nodes l
  unfolding nodes_of
  nodes-count L = let z = back-few (nodes l - 1) (get_or before l.goal.0 0) (to ∷ []) in omega (arith, z, nodes_pos l L)

-- ---- the link

is-way_more : (clear : Vec2 → Vec2 → Bool) (a b : Vec2) (n k : ℕ) (p : Way) → n ≤ k → IsWay clear a b n p → IsWay clear a b k p
is-way_more clear a b n k lost h i = tt
is-way_more clear a b n k (way ps) h i = (i.0, omega (arith, i.1))

module _ (s : Setup) (S : Sides s.grid) (wall vs : List Float) (lens m allowed : List ℕ) (a b : Vec2) where
  abbrev clear : Vec2 → Vec2 → Bool
  clear = link_clear s wall vs lens m

  abbrev n : ℕ
  n = s.grid.ny * s.grid.nx

  around_way : (l : Lattice) → Laid l → l.grid ≡ s.grid → IsWay clear a b n (around_of s wall vs lens m allowed a b l).path
  unfolding around_of
  around_way l L G =
      let o = seek_of l allowed (squares_of 1 m l.grid.nx l.grid.ny) in
      by_test (IsWay clear a b n) o.sought.found (shorten_of clear (nodes_of l o.before b) a) lost
      (λ _. is-way_more clear a b (length (nodes_of l o.before b)) n (shorten_of clear (nodes_of l o.before b) a) (omega (arith, nodes-count l o.before b L, nodes-few l L, ap (λ (g : Grid). g.ny * g.nx) G))
      (shorten_way clear a b (nodes_of l o.before b) (nodes-end l o.before b)))
      (λ _. tt)

  between-way : (x z : Option (ℕ × ℕ)) → x ≡ cell_of s.grid a → z ≡ cell_of s.grid b → IsWay clear a b n (between_of s wall vs lens m allowed a b x z).path
  unfolding between_of
  between-way None z X Z = tt
  between-way (Some (i, j)) None X Z = tt
  between-way (Some (i, j)) (Some (p, q)) X Z =
      let c = on-grid-at s.grid a (Some (i, j)) i j X refl in
      let d = on-grid-at s.grid b (Some (p, q)) p q Z refl in
      around_way (lattice_of s i j p q) (laid s i j p q S c.0 c.1 d.0 d.1) (lattice_grid s i j p q (lattice_of s i j p q) refl)

  link-is-way : IsWay clear a b n (link_path s wall vs lens m allowed a b).path
  unfolding link_path
  link-is-way =
      by_test (λ (r : Linked). IsWay clear a b n r.path) (clear a b) (linked (way (b ∷ [])) 0) _
      (λ e. ((e, refl), cells_pos))
      (λ _. between-way (cell_of s.grid a) (cell_of s.grid b) refl refl)
    where
      cells_pos : 1 ≤ s.grid.ny * s.grid.nx
      cells_pos = mul-pos S.high S.wide

  -- each point of a way is in straight view of the one before, the first of a, and the last is b
  pub link-chained : (ps : List Vec2) → (link_path s wall vs lens m allowed a b).path ≡ way ps → Chained clear a ps b
  link-chained ps e = (subst (IsWay clear a b n) e link-is-way).0

  pub link-few : (ps : List Vec2) → (link_path s wall vs lens m allowed a b).path ≡ way ps → length ps ≤ n
  link-few ps e = (subst (IsWay clear a b n) e link-is-way).1

  -- what `link_path` answers: so many points, in the path's part
  module _ (k work : ℕ) (w : List Float) (R : linked_in s (route (Some k) work) w ≡ link_path s wall vs lens m allowed a b) where
    pub route_way : (link_path s wall vs lens m allowed a b).path ≡ way (points 0 k (path_in s w))
    route_way = sym (ap (λ (l : Linked). l.path) R)

    pub route_chained : Chained clear a (points 0 k (path_in s w)) b
    route_chained = link-chained _ route_way

    pub route_few : k ≤ n
    route_few = omega (arith, points-length 0 k (path_in s w), link-few _ route_way)

-- a feed that is clear is the way, and costs no search
pub link_straight_way : (s : Setup) (wall vs : List Float) (lens m allowed : List ℕ) (a b : Vec2) → link_clear s wall vs lens m a b ≡ true → link_path s wall vs lens m allowed a b ≡ linked (way (b ∷ [])) 0
unfolding link_path
link_straight_way s wall vs lens m allowed a b e = rw e
