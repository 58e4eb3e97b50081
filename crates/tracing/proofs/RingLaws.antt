-- The ring that is traced, from what its steps left in the workspace. Assumes nothing.
use mathlib.Core.Path.{◌≡◌, refl, sym, ap, ◌∙◌, subst}
use mathlib.Core.List.{List, map}
use Prim.Native.Nat.{ℕ, ◌+◌, ◌-◌, ◌*◌, ◌≤◌, ◌<◌}
use native.Mathlib.Omega.{arith}
use lib.ListN.{length, take, drop}
use lib.Ieee.{Float, nan}
use borrow.Rule.Slice.PartMut.{put_mid}
use Rattle.loops.specs.Loop.{loop}
use Rattle.loops.specs.Regions.{Fits, within}
use Rattle.loops.specs.Frame.{Only}
use Rattle.loops.proofs.LoopLaws.{loop-none, loop_more}
use Rattle.loops.proofs.RegionLaws.{region-long}
use Rattle.loops.proofs.FrameLaws.{back_there, back-only, only_same, only_more, only-before}
use Rattle.distance.specs.Nearest.{listed}
use Rattle.distance.proofs.NearestLaws.{listed-long}
use Rattle.geom.specs.Points.{put_point}
use Rattle.geom.specs.Region.{vertex_of}
use Rattle.geom.specs.declared.vec2.Vec2.{Vec2}
use Rattle.geom.proofs.PointLaws.{put-length}
use Rattle.setup.specs.Layout.{run, put_run, allowed_in, traced_from, guide_from}
use Rattle.setup.specs.Place.{cells_of, Walls}
use Rattle.setup.specs.declared.Setup.{Setup}
use Rattle.setup.proofs.LayoutLaws.{run-put, run_other}
use Rattle.setup.proofs.PartLaws.{part_is, part_long, back_is, put-run-long}
use Rattle.field.specs.Field.{ring_at}
use Rattle.links.specs.Path.{wall_in}
use Rattle.pieces.specs.Piece.{pieces_at}
use Rattle.contours.specs.Curve.{contours_of}
use Rattle.workspace.specs.Standing.{Standing}
use Rattle.workspace.specs.Lies.{rows_in, traced_in, pieces_in}
use Rattle.workspace.proofs.StandingLaws.{walls_of_lem, wall-kept, standing-kept, standing-walls}
use Rattle.tracing.specs.Curves.{Room, Laying, Beside}
use Rattle.tracing.specs.Ring.{nudged_by, nudged_piece, nudge_put, nudge_all, ring_of, s05, TracedRing}
use Rattle.tracing.proofs.NudgeLaws.{pieces_pulled}
use Rattle.tracing.proofs.RoundLaws.{beside_run, beside_log, beside_walls}

-- ---- the ring's region

pub ring_laid : (n a r : ℕ) (b : List ℕ) (f x : List Float) → 8 * n ≤ length b → 2 * n ≤ length f → a ≡ 1 * n → r ≡ 1 * n
    → x ≡ listed (length (take (r + n - r) (drop r f))) (ring_at (take (a + n - a) (drop a b))) → put_mid r (r + n - r) f x ≡ put_run 1 n (listed n (ring_at (allowed_in n b))) f
ring_laid n a r b f x B F A R X =
    back_is 1 n r (r + n) f x R refl (omega arith)
    ∙ ap (λ (q : List Float). put_run 1 n q f)
    (X ∙ ap (λ (k : ℕ). listed k (ring_at (take (a + n - a) (drop a b)))) (part_long 1 n r (r + n) f R refl (omega arith)) ∙ ap (λ (q : List ℕ). listed n (ring_at q)) (part_is 1 n a (a + n) b A refl))

-- ---- the whole

module _ (s : Setup) (vs : List Float) (lens b u : List ℕ) (f w : List Float) (h : Standing s vs lens b u w) (F : 2 * cells_of s ≤ length f) where
  abbrev ring : List Float
  ring = listed (cells_of s) (ring_at (allowed_in (cells_of s) b))

  pub ring_room : Room (cells_of s) b u w
  ring_room = record { bytes = h.bytes; words = h.words; doubles = h.doubles }

  ring_long : length ring ≡ cells_of s
  ring_long = listed-long (ring_at (allowed_in (cells_of s) b)) nan (cells_of s)

  module _ (n : ℕ) (N : n ≡ cells_of s) (f₁ : List Float) (E : f₁ ≡ put_run 1 n (listed n (ring_at (allowed_in n b))) f) where
    laid-is : f₁ ≡ put_run 1 (cells_of s) ring f
    laid-is = E ∙ ap (λ (k : ℕ). put_run 1 k (listed k (ring_at (allowed_in k b))) f) N

    pub laid-long : length f₁ ≡ length f
    laid-long = ap length laid-is ∙ put-run-long 1 (cells_of s) f ring (omega arith) ring_long

    -- the part that is lent holds the ring
    pub ring_part_lem : (r : ℕ) → r ≡ 1 * n → take (r + n - r) (drop r f₁) ≡ ring
    ring_part_lem r R =
        part_is 1 n r (r + n) f₁ R refl ∙ ap (λ (k : ℕ). run 1 k f₁) N ∙ ap (run 1 (cells_of s)) laid-is ∙ run-put (cells_of s) f ring ring_long 1 (omega arith)

    module _ (c m : ℕ) (b₁ u₁ : List ℕ) (w₁ : List Float) (r : ℕ) (R : r ≡ 1 * n) (L : Laying (cells_of s) (contours_of s.grid (take (r + n - r) (drop r f₁)) s05) c m u₁ w₁) (B : Beside (cells_of s) b u w b₁ u₁ w₁) where
      -- what pulling the points in asks for
      pub nudge_asks : Walls s (wall_in s w₁) vs lens × ((32 * cells_of s ≤ length w₁) × (m ≤ 2 * cells_of s))
      nudge_asks =
          let k = walls_of_lem s vs lens b u w h (1 * cells_of s) (5 * cells_of s) w₁ (omega arith) (omega arith) (omega arith) B.doubles in
          (standing-walls s vs lens b u w₁ (standing-kept s vs lens b u w h w₁ k b u refl refl), (omega (arith, h.doubles, B.doubles.long), L.few))

      module _ (w₂ : List Float) (T : traced_in (cells_of s) w₂ ≡ nudge_all (nudged_by s (wall_in s w₁) vs lens) m (traced_in (cells_of s) w₁)) (O : Only (traced_from (cells_of s)) (guide_from (cells_of s)) w₁ w₂) where
        beside_all : Beside (cells_of s) b u w b₁ u₁ w₂
        beside_all = record { bytes = B.bytes; words = B.words; doubles = only_more (1 * cells_of s) (5 * cells_of s) w (record { start = omega arith; end = omega (arith, h.doubles) }) w₁ B.doubles w₂ O }

        wall-same : wall_in s w₁ ≡ wall_in s w
        wall-same = wall-kept s vs lens b u w h w₁ (walls_of_lem s vs lens b u w h (1 * cells_of s) (5 * cells_of s) w₁ (omega arith) (omega arith) (omega arith) B.doubles)

        traced_long : length (traced_in (cells_of s) w₁) ≡ 4 * cells_of s
        unfolding within
        traced_long =
            region-long (1 * cells_of s) (5 * cells_of s) w₁ (record { start = omega arith; end = omega (arith, h.doubles, B.doubles.long) }) ∙ (let z : 5 * cells_of s - 1 * cells_of s ≡ 4 * cells_of s = omega arith in z)

        pieces : pieces_in (cells_of s) c u₁ w₂ ≡ ring_of s (wall_in s w) vs lens (allowed_in (cells_of s) b)
        unfolding ring_of
        pieces =
            let by : Vec2 → Vec2 = nudged_by s (wall_in s w₁) vs lens in
            ap (pieces_at c (rows_in (cells_of s) u₁)) T
            ∙ pieces_pulled by m c (rows_in (cells_of s) u₁) (traced_in (cells_of s) w₁) (omega (arith, traced_long, L.few)) L.within
            ∙ ap (map (nudged_piece by)) (L.lies.is ∙ ap (λ (q : List Float). contours_of s.grid q s05) (ring_part_lem r R))
            ∙ ap (λ (q : List Float). map (nudged_piece (nudged_by s q vs lens)) (contours_of s.grid ring s05)) wall-same

        pub ring_traced : TracedRing s vs lens b u f w c b₁ u₁ f₁ w₂
        ring_traced =
            let same : (j : ℕ) → j < 6 → run j (cells_of s) b₁ ≡ run j (cells_of s) b = beside_run (cells_of s) b u w ring_room b₁ u₁ w₂ beside_all in
            record {
              lies = record { lying = L.lies.lying; is = pieces };
              field = ap (run 0 (cells_of s)) laid-is ∙ run_other (cells_of s) f ring ring_long 1 0 (omega arith) (λ e. omega arith);
              map = same 0 (omega arith);
              dirty = same 4 (omega arith);
              abandoned = same 3 (omega arith);
              cells = record { long = B.bytes.long; allowed = same 1 (omega arith); reach = same 2 (omega arith) };
              log = beside_log (cells_of s) b u w ring_room b₁ u₁ w₂ beside_all;
              words_long = B.words.long;
              singles-long = laid-long;
              walls = beside_walls (cells_of s) b u w ring_room b₁ u₁ w₂ beside_all;
            }

-- ---- points pulled in, in the workspace

-- the first k points are pulled in
pub record Nudging (s : Setup) (vs : List Float) (lens : List ℕ) (w : List Float) (k : ℕ) (w' : List Float) : Type 0 where
  pub is : traced_in (cells_of s) w' ≡ loop (nudge_put (nudged_by s (wall_in s w) vs lens)) 0 k (traced_in (cells_of s) w)
  pub only : Only (traced_from (cells_of s)) (guide_from (cells_of s)) w w'

module _ (s : Setup) (vs : List Float) (lens : List ℕ) (w : List Float) (W : 32 * cells_of s ≤ length w) where
  abbrev by : Vec2 → Vec2
  by = nudged_by s (wall_in s w) vs lens

  module _ (n tr gd k : ℕ) (N : n ≡ cells_of s) (D : tr ≡ 1 * n) (E : gd ≡ 5 * n) (q p : Vec2) (r : List Float) (Q : q ≡ vertex_of (take (gd - tr) (drop tr w)) k)
      (P : p ≡ nudged_by s (take (n - 0) (drop 0 w)) vs lens q) (R : r ≡ put_point k p (take (gd - tr) (drop tr w))) where
    fits : Fits tr gd w
    fits = record { start = omega arith; end = omega arith }

    part : take (gd - tr) (drop tr w) ≡ traced_in (cells_of s) w
    unfolding within
    part = ap (λ (i : ℕ). take (gd - i) (drop i w)) (let z : tr ≡ 1 * cells_of s = omega arith in z) ∙ ap (λ (i : ℕ). take (i - 1 * cells_of s) (drop (1 * cells_of s) w)) (let z : gd ≡ 5 * cells_of s = omega arith in z)

    long : length r ≡ length (take (gd - tr) (drop tr w))
    long = ap length R ∙ put-length k p (take (gd - tr) (drop tr w))

    place : p ≡ by (vertex_of (traced_in (cells_of s) w) k)
    unfolding within
    place = P ∙ ap (λ (i : ℕ). nudged_by s (take (i - 0) (drop 0 w)) vs lens q) N ∙ ap by (Q ∙ ap (λ (l : List Float). vertex_of l k) part)

    pub nudged_there : traced_in (cells_of s) (put_mid tr (gd - tr) w r) ≡ nudge_put by k (traced_in (cells_of s) w)
    unfolding nudge_put
    nudged_there =
        let w' = put_mid tr (gd - tr) w r in
        ap (λ (i : ℕ). within i (5 * cells_of s) w') (let z : 1 * cells_of s ≡ tr = omega arith in z) ∙ ap (λ (i : ℕ). within tr i w') (let z : 5 * cells_of s ≡ gd = omega arith in z)
        ∙ back_there tr gd w fits r long
        ∙ R ∙ ap (put_point k p) part ∙ ap (λ (x : Vec2). put_point k x (traced_in (cells_of s) w)) place

    pub nudged_only : Only (traced_from (cells_of s)) (guide_from (cells_of s)) w (put_mid tr (gd - tr) w r)
    nudged_only =
        subst (λ (i : ℕ). Only (1 * i) (5 * i) w (put_mid tr (gd - tr) w r)) N
        (subst (λ (i : ℕ). Only (1 * n) i w (put_mid tr (gd - tr) w r)) E (subst (λ (i : ℕ). Only i gd w (put_mid tr (gd - tr) w r)) D (back-only tr gd w fits r long)))

  -- ---- the loop over them

  traced_fits : Fits (1 * cells_of s) (5 * cells_of s) w
  traced_fits = record { start = omega arith; end = omega arith }

  pub nudging_none : Nudging s vs lens w 0 w
  nudging_none = record { is = loop-none (nudge_put by) 0 (traced_in (cells_of s) w); only = only_same (1 * cells_of s) (5 * cells_of s) w traced_fits }

  module _ (k : ℕ) (w' : List Float) (h : Nudging s vs lens w k w') where
    wall_now : wall_in s w' ≡ wall_in s w
    wall_now = only-before (1 * cells_of s) (5 * cells_of s) w traced_fits w' h.only 0 (cells_of s) (omega arith) (omega arith)

    -- what the next point asks for
    pub nudging_asks : Walls s (wall_in s w) vs lens → Walls s (wall_in s w') vs lens × (32 * cells_of s ≤ length w')
    nudging_asks a = (subst (λ (x : List Float). Walls s x vs lens) (sym wall_now) a, omega (arith, h.only.long))

    pub nudging_more : (w'' : List Float) → traced_in (cells_of s) w'' ≡ nudge_put (nudged_by s (wall_in s w') vs lens) k (traced_in (cells_of s) w')
        → Only (traced_from (cells_of s)) (guide_from (cells_of s)) w' w'' → Nudging s vs lens w (k + 1) w''
    nudging_more w'' e o = record {
      is =
          e ∙ ap (λ (x : List Float). nudge_put (nudged_by s x vs lens) k (traced_in (cells_of s) w')) wall_now ∙ ap (nudge_put by k) h.is
          ∙ loop_more (nudge_put by) 0 k (traced_in (cells_of s) w) (omega arith);
      only = only_more (1 * cells_of s) (5 * cells_of s) w traced_fits w' h.only w'' o;
    }

    pub nudging_end : (m : ℕ) → k ≡ m → (traced_in (cells_of s) w' ≡ nudge_all by m (traced_in (cells_of s) w)) × Only (traced_from (cells_of s)) (guide_from (cells_of s)) w w'
    unfolding nudge_all
    nudging_end m e = (h.is ∙ ap (λ (i : ℕ). loop (nudge_put by) 0 i (traced_in (cells_of s) w)) e, h.only)
