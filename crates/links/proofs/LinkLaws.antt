-- The whole link: each part of the workspace is lent and comes back, and what they hold makes the way. Assumes nothing.
use Rattle.std.specs.Prelude.{None, Option, Some}
use mathlib.Core.Path.{◌≡◌, refl, sym, ap, ◌∙◌, subst}
use mathlib.Core.Bool.{Bool, true, false, cond}
use mathlib.Core.List.{List, [], ◌∷◌}
use Prim.Native.Nat.{ℕ, ◌+◌, ◌-◌, ◌*◌, ◌≤◌, ◌<◌}
use native.Mathlib.Omega.{arith}
use native.Mathlib.Nat.{mul-pos}
use lib.Dec.{eqb, ltb}
use lib.ListN.{length, get_or, take, drop}
use lib.Seq.{take-take, get_or-take}
use lib.Ieee.{Float, nan}
use borrow.Rule.Slice.PartMut.{put_mid}
use Rattle.loops.specs.Regions.{Fits, within}
use Rattle.loops.specs.Loop.{loop, Run, on, out, turn}
use Rattle.loops.proofs.Cases.{by_test}
use Rattle.loops.proofs.LoopLaws.{loop_keeps}
use Rattle.loops.proofs.RegionLaws.{region-long}
use Rattle.loops.specs.Frame.{Only}
use Rattle.loops.proofs.FrameLaws.{back_there, back-only, only_same, only_more, only-before, only-after, only_wider}
use Rattle.geom.specs.Points.{put_point, points}
use Rattle.geom.specs.declared.vec2.Vec2.{Vec2}
use Rattle.distance.specs.Nearest.{squares_of}
use Rattle.distance.specs.Rooted.{rooted_of, distance_transform}
use Rattle.distance.proofs.NearestLaws.{listed_at}
use Rattle.raster.specs.Grid.{Over, cell_of}
use Rattle.raster.specs.declared.grid.Grid.{Grid}
use Rattle.rims.specs.Tiles.{Tiled}
use Rattle.setup.specs.Place.{Walls}
use Rattle.setup.specs.Tables.{Tables}
use Rattle.setup.specs.declared.Setup.{Setup}
use Rattle.links.specs.declared.heap.Entry.{Entry}
use Rattle.links.specs.declared.lattice.Lattice.{Lattice}
use Rattle.links.specs.declared.search.Sought.{Sought}
use Rattle.std.specs.Prelude.{Option, Some, None}
use Rattle.links.specs.Lattice.{lattice_of, nodes, cell_of_node, Laid, Telling}
use Rattle.links.specs.Search.{Search, Outcome, seek_next, seek_step, ended, started, seek_of, cells, squares_in, Befores, outcome_in}
use Rattle.links.specs.Straight.{link_clear}
use Rattle.links.specs.Path.{Way, lost, way, nodes_of, shorten_of, wall_in, path_in, clear_in, Fitted, short_in}
use Rattle.links.specs.Link.{route, Linked, linked, around_of, between_of, link_path, linked_in, before_in}
use Rattle.links.proofs.LatticeLaws.{nodes-few, nodes-most, cell_below}
use Rattle.links.proofs.SeekLaws.{sound_seek, seek_same}
use Rattle.links.proofs.LayLaws.{points-front}
use Rattle.links.proofs.ShortenLaws.{part_at, fitted_only, path-long}

-- ---- what tells the nodes, then the search

module _ (l : Lattice) (L : Laid l) (m : List ℕ) (u : List ℕ) (A : 15 * cells l ≤ length u) (k : ℕ) (K₁ : k ≡ cells l) (b : ℕ) (B : b ≡ 5 * k) where
  part : Fits 0 b u
  part = record { start = omega arith; end = omega arith }

  pub tell_room : 5 * cells l ≤ length (take (b - 0) (drop 0 u))
  tell_room = omega (arith, region-long 0 b u part)

  module _ (t : List ℕ) (T : Telling l (squares_of 1 m l.grid.nx l.grid.ny) t) (K : length t ≡ length (take (b - 0) (drop 0 u))) where
    abbrev u₁ : List ℕ
    u₁ = put_mid 0 (b - 0) u t

    first : Only 0 (15 * cells l) u u₁
    first = only_wider 0 b u u₁ part (back-only 0 b u part t K) 0 (15 * cells l) (omega arith) (omega arith) A

    pub told-long : 15 * cells l ≤ length u₁
    told-long = omega (arith, first.long)

    words-told : squares_in l u₁ ≡ take (cells l) t
    unfolding within
    words-told =
        ap (λ (k : ℕ). take k u₁) (let z : cells l - 0 ≡ cells l = omega arith in z)
        ∙ sym (take-take (cells l) (b - 0) u₁ (omega arith))
        ∙ ap (take (cells l)) (back_there 0 b u part t K)

    telling : Telling l (squares_of 1 m l.grid.nx l.grid.ny) (squares_in l u₁)
    telling =
        subst (Telling l (squares_of 1 m l.grid.nx l.grid.ny)) (sym words-told)
        (record { node = λ v h. rw (get_or-take (cells l) t (cell_of_node l v).0 0 (cell_below l L v h)) (T.node v h) })

    pub search_is : (allowed : List ℕ) (o : Sought) (u₂ : List ℕ) (y z : ℕ) → outcome_in l o u₂ ≡ seek_of l allowed (squares_in l u₁) → Only (5 * cells l) (15 * cells l) u₁ u₂ → y ≡ z
        → (outcome_in l o u₂ ≡ seek_of l allowed (squares_of 1 m l.grid.nx l.grid.ny)) × (Only 0 (15 * cells l) u u₂ × (y ≡ z))
    search_is allowed o u₂ y z X Y Z =
        let h : Fits (5 * cells l) (15 * cells l) u₁ = record { start = omega arith; end = told-long } in
        let all : Only 0 (15 * cells l) u₁ u₂ = only_wider (5 * cells l) (15 * cells l) u₁ u₂ h Y 0 (15 * cells l) (omega arith) (omega arith) told-long in
        (X ∙ seek_same l allowed _ _ telling, (only_more 0 (15 * cells l) u (record { start = omega arith; end = A }) u₁ first u₂ all, Z))

-- a node's distance by its square is that of the Rust's `distance_transform`
pub square_distance : (m : List ℕ) (nx ny k : ℕ) → k < ny * nx → rooted_of (get_or (squares_of 1 m nx ny) k 0) ≡ get_or (distance_transform 1 m nx ny) k nan
unfolding squares_of distance_transform
square_distance m nx ny k h = ap rooted_of (listed_at _ 0 (ny * nx) k h) ∙ sym (listed_at _ nan (ny * nx) k h)

-- ---- the path back, then its shortening

module _ (s : Setup) (vs : List Float) (lens m : List ℕ) (w : List Float) (F : Fitted s vs lens m w) (l : Lattice) (L : Laid l) (G : l.grid ≡ s.grid) (u : List ℕ) (A : 15 * cells l ≤ length u) where
  abbrev size : ℕ
  size = s.grid.ny * s.grid.nx

  pub same-cells : cells l ≡ size
  same-cells = ap (λ (g : Grid). g.ny * g.nx) G

  pub nodes_in : nodes l ≤ size
  nodes_in = omega (arith, nodes-few l L, same-cells)

  -- where the nodes before and the path begin
  module _ (n : ℕ) (N : n ≡ nodes l) (k₁ : ℕ) (K₁ : k₁ ≡ cells l) (b : ℕ) (B : b ≡ 5 * k₁) (k₂ : ℕ) (K₂ : k₂ ≡ size) (a : ℕ) (P : a ≡ 20 * k₂) where
    abbrev e : ℕ
    e = a + 3 * k₂

    path : Fits a e w
    path = record { start = omega arith; end = omega (arith, F.long) }

    -- the nodes before, as they are lent
    pub before_part : take (b + n - b) (drop b u) ≡ before_in l u
    unfolding within
    before_part =
        let f = nodes-few l L in
        ap (λ (k : ℕ). take (k + n - k) (drop k u)) (let z : b ≡ 5 * cells l = omega arith in z)
        ∙ ap (λ (k : ℕ). take k (drop (5 * cells l) u)) (let z : 5 * cells l + n - 5 * cells l ≡ nodes l = omega arith in z)
        ∙ sym (take-take (nodes l) (15 * cells l - 5 * cells l) (drop (5 * cells l) u) (let z : nodes l ≤ 15 * cells l - 5 * cells l = omega arith in z))

    before-long : length (take (b + n - b) (drop b u)) ≡ nodes l
    before-long =
        let z = region-long b (b + n) u (record { start = omega arith; end = omega (arith, nodes-few l L) }) in omega (arith, z)

    pub lay_asks : Befores (nodes l) (before_in l u)
        → Laid l × ((length (take (b + n - b) (drop b u)) ≡ nodes l) × (Befores (nodes l) (take (b + n - b) (drop b u)) × (2 * nodes l ≤ length (take (e - a) (drop a w)))))
    lay_asks B = (L, (before-long, (subst (Befores (nodes l)) (sym before_part) B, omega (arith, region-long a e w path, nodes_in))))

    -- the path's part comes back as r, its points from k on
    module _ (r : List Float) (k : ℕ) (low : k < nodes l) (R : length r ≡ length (take (e - a) (drop a w))) where
      abbrev w₁ : List Float
      w₁ = put_mid a (e - a) w r

      laid-only : Only (20 * size) (23 * size) w w₁
      laid-only = only_wider a e w w₁ path (back-only a e w path r R) (20 * size) (23 * size) (omega arith) (omega arith) (omega (arith, F.long))

      whole : Fits (20 * size) (23 * size) w
      whole = record { start = omega arith; end = omega (arith, F.long) }

      pub shorten_asks : (t : List ℕ) → Tiled s.grid m t → Fitted s vs lens m w₁ × (Tiled s.grid m t × ((k ≤ n) × (2 * n ≤ 3 * size)))
      shorten_asks t T = (fitted_only s vs lens m w F w₁ laid-only, (T, (omega arith, omega (arith, nodes_in))))

      pub trace_is : (to from : Vec2) → points k (nodes l - k) r ≡ nodes_of l (take (b + n - b) (drop b u)) to → (q : Option ℕ) (w₂ : List Float)
          → short_in s q w₂ ≡ shorten_of (clear_in s vs lens m w₁) (points k (n - k) (path_in s w₁)) from → Only (20 * size) (23 * size) w₁ w₂
          → (short_in s q w₂ ≡ shorten_of (clear_in s vs lens m w) (nodes_of l (before_in l u) to) from) × Only (20 * size) (23 * size) w w₂
      unfolding within
      trace_is to from S q w₂ X Y = (
        X ∙ ap (λ (wall : List Float). shorten_of (link_clear s wall vs lens m) (points k (n - k) (path_in s w₁)) from) (only-before (20 * size) (23 * size) w whole w₁ laid-only 0 size (omega arith) (omega arith))
            ∙ ap (λ (ps : List Vec2). shorten_of (clear_in s vs lens m w) ps from)
            (ap (λ (c : ℕ). points k (c - k) (path_in s w₁)) N ∙ ap (points k (nodes l - k)) (there tt) ∙ S ∙ ap (λ (b : List ℕ). nodes_of l b to) before_part),
        only_more (20 * size) (23 * size) w whole w₁ laid-only w₂ Y,
      )
        where
          there : Unit {0} → path_in s w₁ ≡ r
          there _ = sym (part_at a e (20 * size) (23 * size) w₁ (omega arith) (omega arith)) ∙ back_there a e w path r R

-- ---- what a change between the wall distances and the rim leaves of both

module _ (s : Setup) (vs : List Float) (lens m : List ℕ) (w : List Float) (F : Fitted s vs lens m w) (a e : ℕ) (lo : s.grid.ny * s.grid.nx ≤ a) (mid : a ≤ e) (hi : e ≤ 24 * (s.grid.ny * s.grid.nx))
    (w₁ : List Float) (O : Only a e w w₁) where
  between : Fits a e w
  between = record { start = mid; end = omega (arith, F.long) }

  pub wall-kept : wall_in s w₁ ≡ wall_in s w
  wall-kept = only-before a e w between w₁ O 0 (s.grid.ny * s.grid.nx) (omega arith) lo

  pub fitted_kept : Fitted s vs lens m w₁
  fitted_kept = record {
    walls = subst (λ (q : List Float). Walls s q vs lens) (sym wall-kept) F.walls;
    over = F.over;
    tables = subst (Tables s) (sym (only-after a e w between w₁ O (24 * (s.grid.ny * s.grid.nx)) (24 * (s.grid.ny * s.grid.nx) + (8 * (s.grid.ny * s.grid.nx) + 8192)) hi)) F.tables;
    long = omega (arith, F.long, O.long);
  }

-- ---- the search's work

module _ (l : Lattice) (allowed squares : List ℕ) where
  Few : Run Search Outcome → Type 0
  Few (on s) = Unit {0}
  Few (out o) = o.sought.expanded ≤ nodes l + 1

  few-next : (i : ℕ) (s : Search) (q : List Entry) → i ≤ nodes l → Few (seek_next l allowed squares i s q)
  unfolding seek_next Few
  few-next i s [] h = omega arith
  few-next i s (e ∷ r) h = by_test Few (eqb e.node.0 l.goal.0) _ _ (λ _. omega arith) (λ _. by_test Few (ltb (nodes l) (i + 1)) _ _ (λ _. omega arith) (λ _. tt))

  few-turn : (i : ℕ) (r : Run Search Outcome) → i < nodes l + 1 → Few r → Few (turn (seek_step l allowed squares) i r)
  unfolding turn seek_step Few
  few-turn i (on s) h f = few-next i s s.queue (omega arith)
  few-turn i (out o) h f = f

  pub seek_few : (seek_of l allowed squares).sought.expanded ≤ nodes l + 1
  unfolding seek_of ended Few
  seek_few = go (loop (turn (seek_step l allowed squares)) 0 (nodes l + 1) (on (started l))) (loop_keeps (turn (seek_step l allowed squares)) 0 Few (nodes l + 1) (λ i r a b f. few-turn i r b f) (on (started l)) tt)
    where
      go : (r : Run Search Outcome) → Few r → (ended r).sought.expanded ≤ nodes l + 1
      go (on s) f = omega arith
      go (out o) f = f

-- ---- over the lattice

module _ (s : Setup) (vs : List Float) (lens m allowed : List ℕ) (w : List Float) (F : Fitted s vs lens m w) (l : Lattice) (L : Laid l) (G : l.grid ≡ s.grid)
    (H : Over s.grid (length allowed)) (u : List ℕ) (A : 15 * (s.grid.ny * s.grid.nx) ≤ length u)
    (k₀ : ℕ) (K₀ : k₀ ≡ s.grid.ny * s.grid.nx) (a : ℕ) (C : a ≡ 10 * k₀) (e : ℕ) (P : e ≡ 20 * k₀) where
  abbrev n : ℕ
  n = s.grid.ny * s.grid.nx

  same : cells l ≡ n
  same = ap (λ (g : Grid). g.ny * g.nx) G

  lent : Fits a e w
  lent = record { start = omega arith; end = omega (arith, F.long) }

  pub around_asks : Laid l × (Over l.grid (length m) × (Over l.grid (length allowed) × ((15 * cells l ≤ length u) × (10 * cells l ≤ length (take (e - a) (drop a w))))))
  around_asks =
      (L, (subst (λ (g : Grid). Over g (length m)) (sym G) F.over, (subst (λ (g : Grid). Over g (length allowed)) (sym G) H, (omega (arith, same), omega (arith, same, region-long a e w lent)))))

  -- the search's answer, and what it leaves
  module _ (o : Sought) (u₁ : List ℕ) (c' : List Float) (X : outcome_in l o u₁ ≡ seek_of l allowed (squares_of 1 m l.grid.nx l.grid.ny))
      (Y : Only 0 (15 * cells l) u u₁) (Z : length c' ≡ length (take (e - a) (drop a w))) where
    abbrev wₛ : List Float
    wₛ = put_mid a (e - a) w c'

    costs_only : Only a e w wₛ
    costs_only = back-only a e w lent c' Z

    wide : Only (10 * n) (23 * n) w wₛ
    wide = only_wider a e w wₛ lent costs_only (10 * n) (23 * n) (omega arith) (omega arith) (omega (arith, F.long))

    words-only : Only 0 (15 * n) u u₁
    words-only = subst (λ (k : ℕ). Only 0 (15 * k) u u₁) same Y

    pub work-few : o.expanded ≤ 1048577
    work-few = omega (arith, ap (λ (q : Outcome). q.sought.expanded) X, seek_few l allowed (squares_of 1 m l.grid.nx l.grid.ny), nodes-most l L)

    pub trace_asks : (t : List ℕ) → Tiled s.grid m t → Fitted s vs lens m wₛ × (Tiled s.grid m t × (Laid l × ((l.grid ≡ s.grid) × ((15 * cells l ≤ length u₁) × Befores (nodes l) (before_in l u₁)))))
    trace_asks t T =
        (fitted_kept s vs lens m w F a e (omega arith) (omega arith) (omega arith) wₛ costs_only, (T, (L, (G, (omega (arith, same, Y.long), subst (Befores (nodes l)) (ap (λ (q : Outcome). q.before) (sym X)) (sound_seek l L allowed (squares_of 1 m l.grid.nx l.grid.ny)))))))

    module _ (from to : Vec2) where
      by : linked (cond o.found (shorten_of (link_clear s (wall_in s w) vs lens m) (nodes_of l (before_in l u₁) to) from) lost) (o.expanded * 8)
          ≡ around_of s (wall_in s w) vs lens m allowed from to l
      unfolding around_of
      by = ap (λ (q : Outcome). linked (cond q.sought.found (shorten_of (link_clear s (wall_in s w) vs lens m) (nodes_of l q.before to) from) lost) (q.sought.expanded * 8)) X

      pub around_not : o.found ≡ false
          → (linked_in s (route None (o.expanded * 8)) wₛ ≡ around_of s (wall_in s w) vs lens m allowed from to l) × (Only 0 (15 * n) u u₁ × Only (10 * n) (23 * n) w wₛ)
      around_not d = (sym (ap (λ (t : Bool). linked (cond t (shorten_of (link_clear s (wall_in s w) vs lens m) (nodes_of l (before_in l u₁) to) from) lost) (o.expanded * 8)) d) ∙ by, (words-only, wide))

      module _ (d : o.found ≡ true) (k : Option ℕ) (w₂ : List Float) (K : short_in s k w₂ ≡ shorten_of (clear_in s vs lens m wₛ) (nodes_of l (before_in l u₁) to) from) (O : Only (20 * n) (23 * n) wₛ w₂) where
        found : linked (short_in s k w₂) (o.expanded * 8) ≡ around_of s (wall_in s w) vs lens m allowed from to l
        found =
            ap (λ (p : Way). linked p (o.expanded * 8)) (K ∙ ap (λ (wall : List Float). shorten_of (link_clear s wall vs lens m) (nodes_of l (before_in l u₁) to) from) (wall-kept s vs lens m w F a e (omega arith) (omega arith) (omega arith) wₛ costs_only))
            ∙ sym (ap (λ (t : Bool). linked (cond t (shorten_of (link_clear s (wall_in s w) vs lens m) (nodes_of l (before_in l u₁) to) from) lost) (o.expanded * 8)) d)
            ∙ by

        rest : Only (10 * n) (23 * n) w w₂
        rest =
            let f : Fits (20 * n) (23 * n) wₛ = record { start = omega arith; end = omega (arith, F.long, wide.long) } in
            only_more (10 * n) (23 * n) w (record { start = omega arith; end = omega (arith, F.long) }) wₛ wide w₂ (only_wider (20 * n) (23 * n) wₛ w₂ f O (10 * n) (23 * n) (omega arith) (omega arith) (omega (arith, F.long, wide.long)))

        pub around_traced : (linked_in s (route k (o.expanded * 8)) w₂ ≡ around_of s (wall_in s w) vs lens m allowed from to l) × (Only 0 (15 * n) u u₁ × Only (10 * n) (23 * n) w w₂)
        around_traced = (found, (words-only, rest))

-- ---- the link

one-point : (p : Vec2) (w : List Float) → 1 < length w → points 0 1 (put_point 0 p w) ≡ p ∷ []
unfolding points
one-point p w h = points-front 0 0 p w h

module _ (s : Setup) (vs : List Float) (lens m allowed : List ℕ) (w : List Float) (F : Fitted s vs lens m w) (u : List ℕ) (A : 15 * (s.grid.ny * s.grid.nx) ≤ length u) (from to : Vec2) where
  abbrev cells_of : ℕ
  cells_of = s.grid.ny * s.grid.nx

  none_u : Only 0 (15 * cells_of) u u
  none_u = only_same 0 (15 * cells_of) u (record { start = omega arith; end = A })

  none_w : Only (10 * cells_of) (23 * cells_of) w w
  none_w = only_same (10 * cells_of) (23 * cells_of) w (record { start = omega arith; end = omega (arith, F.long) })

  pub some-cell : 0 < cells_of
  some-cell = mul-pos F.over.sides.high F.over.sides.wide

  module _ (t : Bool) (T : t ≡ clear_in s vs lens m w from to) where
    pub link_straight : t ≡ true → (w' : List Float) → path_in s w' ≡ put_point 0 to (path_in s w) → Only (20 * cells_of) (23 * cells_of) w w'
        → (linked_in s (route (Some 1) 0) w' ≡ link_path s (wall_in s w) vs lens m allowed from to) × (Only 0 (15 * cells_of) u u × Only (10 * cells_of) (23 * cells_of) w w')
    unfolding link_path
    link_straight e w' P O =
        let f : Fits (20 * cells_of) (23 * cells_of) w = record { start = omega arith; end = omega (arith, F.long) } in
        let p : points 0 1 (path_in s w') ≡ to ∷ [] = ap (points 0 1) P ∙ one-point to (path_in s w) (omega (arith, path-long s w (omega (arith, F.long)), some-cell)) in (
          rw (← T, e) (ap (λ (q : List Vec2). linked (way q) 0) p),
          (none_u, only_wider (20 * cells_of) (23 * cells_of) w w' f O (10 * cells_of) (23 * cells_of) (omega arith) (omega arith) (omega (arith, F.long))),
        )

    module _ (e : t ≡ false) where
      by_cells : (x z : Option (ℕ × ℕ)) → x ≡ cell_of s.grid from → z ≡ cell_of s.grid to → between_of s (wall_in s w) vs lens m allowed from to x z ≡ link_path s (wall_in s w) vs lens m allowed from to
      unfolding link_path
      by_cells x z X Z = rw (← T, e) (rw (X, Z))

      pub link-no-from : (x : Option (ℕ × ℕ)) → x ≡ cell_of s.grid from → x ≡ None
          → (linked_in s (route None 0) w ≡ link_path s (wall_in s w) vs lens m allowed from to) × (Only 0 (15 * cells_of) u u × Only (10 * cells_of) (23 * cells_of) w w)
      unfolding between_of
      link-no-from x X d =
          (sym (ap (λ (y : Option (ℕ × ℕ)). between_of s (wall_in s w) vs lens m allowed from to y (cell_of s.grid to)) d) ∙ by_cells x (cell_of s.grid to) X refl, (none_u, none_w))

      module _ (x : Option (ℕ × ℕ)) (X : x ≡ cell_of s.grid from) (i j : ℕ) (I : x ≡ Some (i, j)) (z : Option (ℕ × ℕ)) (Z : z ≡ cell_of s.grid to) where
        pub link-no-to : z ≡ None
            → (linked_in s (route None 0) w ≡ link_path s (wall_in s w) vs lens m allowed from to) × (Only 0 (15 * cells_of) u u × Only (10 * cells_of) (23 * cells_of) w w)
        unfolding between_of
        link-no-to d = (
          sym (ap (λ (y : Option (ℕ × ℕ)). between_of s (wall_in s w) vs lens m allowed from to y z) I ∙ ap (between_of s (wall_in s w) vs lens m allowed from to (Some (i, j))) d) ∙ by_cells x z X Z,
          (none_u, none_w),
        )

        pub link_around : (p q : ℕ) → z ≡ Some (p, q) → (l : Lattice) → l ≡ lattice_of s i j p q → (r : Linked) → r ≡ around_of s (wall_in s w) vs lens m allowed from to l
            → r ≡ link_path s (wall_in s w) vs lens m allowed from to
        unfolding between_of
        link_around p q d l D r R =
            R ∙ ap (around_of s (wall_in s w) vs lens m allowed from to) D
            ∙ sym (ap (λ (y : Option (ℕ × ℕ)). between_of s (wall_in s w) vs lens m allowed from to y z) I ∙ ap (between_of s (wall_in s w) vs lens m allowed from to (Some (i, j))) d) ∙ by_cells x z X Z

-- the lattice of two cells of the raster
pub lattice_grid : (s : Setup) (i j p q : ℕ) (l : Lattice) → l ≡ lattice_of s i j p q → l.grid ≡ s.grid
unfolding lattice_of
lattice_grid s i j p q l e = ap (λ (x : Lattice). x.grid) e
