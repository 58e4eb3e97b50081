-- What the proof of `go_and_keep` cites, over plain values. Assumes nothing.
use Rattle.passes.specs.Start.{Place}
use mathlib.Core.Path.{◌≡◌, refl, sym, ap, ◌∙◌, subst}
use mathlib.Core.List.{List}
use Prim.Native.Nat.{ℕ, ◌+◌, ◌-◌, ◌*◌, ◌≤◌}
use native.Mathlib.Omega.{arith}
use native.Mathlib.Nat.{mul-pos}
use lib.ListN.{length, take, drop}
use lib.Ieee.{Float}
use Rattle.loops.specs.Regions.{within}
use Rattle.loops.proofs.Cases.{by_test}
use Rattle.loops.proofs.RegionLaws.{region-long}
use Rattle.loops.specs.Frame.{Only}
use Rattle.loops.proofs.FrameLaws.{only-after}
use Rattle.geom.specs.declared.vec2.Vec2.{Vec2}
use Rattle.geom.proofs.PointLaws.{points-length}
use Rattle.raster.specs.Grid.{Over, Sides}
use Rattle.raster.specs.Log.{Logged}
use Rattle.setup.specs.Layout.{run, allowed_from, log_from, path_from}
use Rattle.setup.specs.declared.Setup.{Setup}
use Rattle.setup.proofs.PartLaws.{part_is, part_long}
use Rattle.links.specs.Path.{way_at, Way, lost, way, wall_in, path_in, Fitted}
use Rattle.links.specs.Link.{Linked, link_path, linked_in, way_by}
use Rattle.links.specs.declared.link.Route.{Route}
use Rattle.std.specs.Prelude.{Option, Some, None}
use Rattle.links.proofs.WayLaws.{link-few}
use Rattle.events.specs.Read.{spot_at}
use Rattle.cutting.specs.Way.{moves_at, route_of, moves_of}
use Rattle.cutting.specs.Piece.{spending, Left, lf, kept_of, went_of, Lends, Listed}
use Rattle.cutting.specs.declared.piece.State.{State}
use Rattle.std.specs.Prelude.{Result}
use Rattle.cutting.specs.declared.listing.Full.{Full}
use Rattle.cutting.specs.declared.piece.Cut.{Cut}

-- a way has at most n points
abbrev Few : ℕ → Way → Type 0
Few n lost = Unit {0}
Few n (way ps) = length ps ≤ n

-- it has a link to each of them, or a plunge
moves_few : (n : ℕ) (route : Route) (path : List Float) → 1 ≤ n → Few n (way_by route path) → moves_of route ≤ n
unfolding moves_of
moves_few n route path o h = go route.points h
  where
    go : (r : Option ℕ) → Few n (way_at r path) → moves_at r ≤ n
    go (Some k) f = omega (arith, points-length 0 k path, f)
    go None f = o

module _ (s : Setup) (S : Sides s.grid) (wall vs : List Float) (lens m allowed : List ℕ) (to : Vec2) where
  abbrev cells : ℕ
  cells = s.grid.ny * s.grid.nx

  link_counts : (a : Vec2) (p : Way) → (link_path s wall vs lens m allowed a to).path ≡ p → Few cells p
  link_counts a lost e = tt
  link_counts a (way ps) e = link-few s S wall vs lens m allowed a to ps e

  route_counts : (pos : Place) → Few cells (route_of s wall vs lens m allowed pos to).path
  unfolding route_of
  route_counts None = tt
  route_counts (Some a) = by_test (λ (r : Linked). Few cells r.path) s.keep_down _ _ (λ b. link_counts a _ refl) (λ b. tt)

module _ (s : Setup) (vs : List Float) (lens b u : List ℕ) (w : List Float) (F : Fitted s vs lens (run 0 (s.grid.ny * s.grid.nx) b) w) (D : Lends (s.grid.ny * s.grid.nx) b u)
    (from : ℕ) (A : from ≡ allowed_from (s.grid.ny * s.grid.nx)) where
  abbrev size : ℕ
  size = s.grid.ny * s.grid.nx

  -- the map and the allowed cells, as they are lent
  abbrev map_part : List ℕ
  map_part = take (size - 0) (drop 0 b)

  abbrev allowed_part : List ℕ
  allowed_part = take (from + size - from) (drop from b)

  map_is : map_part ≡ run 0 size b
  map_is = part_is 0 size 0 size b (omega arith) (omega arith)

  allowed-is : allowed_part ≡ run 1 size b
  allowed-is = part_is 1 size from (from + size) b A refl

  pub way_asks : Fitted s vs lens map_part w × (Over s.grid (length allowed_part) × (15 * size ≤ length u))
  way_asks = (
    subst (λ (m : List ℕ). Fitted s vs lens m w) (sym map_is) F,
    (record { sides = F.over.sides; long = omega (arith, part_long 1 size from (from + size) b A refl (omega (arith, D.bytes))) }, omega (arith, D.words)),
  )

  -- the way r to the pass's first point, laid in w', the state t' that its work leaves, and where log and path begin
  module _ (t : State) (o : List Float) (to : Vec2) (T : to ≡ spot_at o t.triples) (r : Route) (u' : List ℕ) (w' : List Float)
      (R : linked_in s r w' ≡ route_of s (wall_in s w) vs lens map_part allowed_part t.pos to) (U : Only 0 (15 * size) u u')
      (W : Only (10 * size) (23 * size) w w') (work : ℕ) (N : work ≡ r.work) (t' : State) (E : t' ≡ spending work t)
      (log path : ℕ) (G : log ≡ log_from size) (P : path ≡ path_from size) where
    abbrev log_part : List ℕ
    log_part = take (log + size - log) (drop log u')

    abbrev path_part : List Float
    path_part = take (path + 3 * size - path) (drop path w')

    log-same : run 24 size u' ≡ run 24 size u
    log-same = only-after 0 (15 * size) u (record { start = omega arith; end = omega (arith, D.words) }) u' U (24 * size) (24 * size + size) (omega arith)

    log_is : log_part ≡ run 24 size u
    log_is = part_is 24 size log (log + size) u' G refl ∙ log-same

    path-is : path_part ≡ path_in s w'
    unfolding within
    path-is =
        let e : path + 3 * size ≡ 23 * size = omega arith in
        ap (λ (z : ℕ). take (z - path) (drop path w')) e ∙ ap (λ (z : ℕ). take (23 * size - z) (drop z w')) P

    path-long : length path_part ≡ 3 * size
    path-long = region-long path (path + 3 * size) w' (record { start = omega arith; end = omega (arith, F.long, W.long) }) ∙ (let z : path + 3 * size - path ≡ 3 * size = omega arith in z)

    some-cell : 1 ≤ size
    some-cell = mul-pos F.over.sides.high F.over.sides.wide

    way-few : moves_of r ≤ size
    way-few = moves_few size r (path_in s w') some-cell (subst (Few size) (sym (ap (λ (l : Linked). l.path) R)) (route_counts s F.over.sides (wall_in s w) vs lens map_part allowed_part to t.pos))

    pub keep_asks : (rows : List ℕ) (removed n : ℕ) → Logged (run 24 size u) removed size → Listed rows o t n → 1 ≤ n
        → Sides s.grid × ((8 * size ≤ length b) × (Logged log_part removed size × ((2 * moves_of r ≤ length path_part) × (Listed rows o t' n × (1 ≤ n)))))
    keep_asks rows removed n L K h = (
      F.over.sides,
      (
        D.bytes,
        (
          subst (λ (x : List ℕ). Logged x removed size) (sym log_is) L,
          (
            omega (arith, path-long, way-few),
            (subst (λ (x : State). Listed rows o x n) (sym E) (record { countable = K.countable; fit_rows = K.fit_rows; fit_triples = K.fit_triples }), h),
          ),
        ),
      ),
    )

    abbrev route : Linked
    route = route_of s (wall_in s w) vs lens (run 0 size b) (run 1 size b) t.pos (spot_at o t.triples)

    route_is : linked_in s r w' ≡ route
    route_is =
        R ∙ ap (λ (m : List ℕ). route_of s (wall_in s w) vs lens m allowed_part t.pos to) map_is
        ∙ ap (λ (a : List ℕ). route_of s (wall_in s w) vs lens (run 0 size b) a t.pos to) allowed-is
        ∙ ap (route_of s (wall_in s w) vs lens (run 0 size b) (run 1 size b) t.pos) T

    way-found : way_by r path_part ≡ route.path
    way-found = ap (way_by r) path-is ∙ ap (λ (l : Linked). l.path) route_is

    spent : t' ≡ spending route.work t
    spent = E ∙ ap (λ (k : ℕ). spending k t) N ∙ ap (λ (l : Linked). spending l.work t) route_is

    module _ (rows : List ℕ) (removed n : ℕ) where
      abbrev keeps : Way → State → List ℕ → Left
      keeps p x l = (kept_of s p removed n x (run 0 size b) (run 4 size b) l rows o).left

      pub went-is : (b' rows' : List ℕ) (o' : List Float) (a : Result Cut Full)
          → lf (run 0 size b') (run 4 size b') log_part rows' o' a ≡ keeps (way_by r path_part) t' log_part
          → lf (run 0 size b') (run 4 size b') (run 24 size u') rows' o' a ≡ (went_of s (wall_in s w) vs lens (run 1 size b) t removed n (run 0 size b) (run 4 size b) (run 24 size u) rows o).left
      unfolding went_of
      went-is b' rows' o' a K =
          ap (λ (x : List ℕ). lf (run 0 size b') (run 4 size b') x rows' o' a) (log-same ∙ sym log_is)
          ∙ K ∙ ap (λ (p : Way). keeps p t' log_part) way-found ∙ ap (λ (x : State). keeps route.path x log_part) spent
          ∙ ap (keeps route.path (spending route.work t)) log_is
