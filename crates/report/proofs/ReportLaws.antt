-- The report from what its steps answered. Assumes nothing.
use mathlib.Core.Path.{◌≡◌, refl, ap, ◌∙◌}
use mathlib.Core.List.{List}
use Prim.Native.Nat.{ℕ, ◌+◌, ◌-◌, ◌*◌}
use native.Mathlib.Omega.{arith}
use lib.ListN.{take, drop}
use lib.Ieee.{Float, binary64, sub, mul, div, lt, to_unsigned}
use Rattle.loops.specs.Cells.{ones}
use Rattle.numbers.specs.Cast.{float}
use Rattle.numbers.specs.Order.{max_of}
use Rattle.numbers.specs.Whole.{ceil_of}
use Rattle.numbers.specs.Circle.{degrees_of}
use Rattle.numbers.specs.Small.{f1, c05, nano}
use Rattle.geom.specs.Vec.{f0}
use Rattle.setup.specs.Layout.{run}
use Rattle.setup.proofs.PartLaws.{part_is}
use Rattle.cutting.specs.declared.piece.State.{State}
use Rattle.report.specs.Kinds.{kinds_of}
use Rattle.report.specs.Report.{layers_of, remaining_of, area_of, report_of}
use Rattle.report.specs.declared.kinds.Kinds.{Kinds}
use Rattle.report.specs.declared.standing.Left.{Left}
use Rattle.report.specs.declared.report.Finish.{Finish}

pub layers_is : (top bottom step up m : Float) (n : ℕ) → up ≡ ceil_of (sub binary64 (div binary64 (sub binary64 top bottom) step) nano) → m ≡ max_of up f1 → n ≡ to_unsigned 64 m → n ≡ layers_of top bottom step
unfolding layers_of
layers_is top bottom step up m n U M N = N ∙ ap (to_unsigned 64) (M ∙ ap (λ (x : Float). max_of x f1) U)

module _ (cell : Float) (f : Finish) (t : State) (b rows : List ℕ) (triples : List Float) (n size a : ℕ) (N : n ≡ size) (K : a ≡ 2 * n) where
  abbrev map : List ℕ
  map = run 0 size b

  abbrev reach : List ℕ
  reach = run 2 size b

  map_is : take (n - 0) (drop 0 b) ≡ map
  map_is = part_is 0 n 0 n b (omega arith) (omega arith) ∙ ap (λ (z : ℕ). run 0 z b) N

  reach-is : take (a + n - a) (drop a b) ≡ reach
  reach-is = part_is 2 n a (a + n) b K refl ∙ ap (λ (z : ℕ). run 2 z b) N

  module _ (left : Left) (L : left ≡ remaining_of (take (n - 0) (drop 0 b)) (take (a + n - a) (drop a b))) (standing : ℕ) (S : standing ≡ ones (take (n - 0) (drop 0 b)))
      (count : Kinds) (C : count ≡ kinds_of rows triples t.rows) (x y z degrees removed floor : Float) (X : x ≡ float f.starting) (Y : y ≡ float left.reach) (Z : z ≡ float left.unreach)
      (layers : ℕ) (LAYERS : layers ≡ layers_of f.top f.bottom f.step_down) (D : degrees ≡ degrees_of t.planned_max)
      (R : removed ≡ max_of (sub binary64 (sub binary64 (mul binary64 x (mul binary64 cell cell)) (mul binary64 y (mul binary64 cell cell))) (mul binary64 z (mul binary64 cell cell))) f0)
      (F : floor ≡ max_of (mul binary64 x (mul binary64 cell cell)) nano) where
    left_is : left ≡ remaining_of map reach
    left_is = L ∙ ap (λ (l : List ℕ). remaining_of l (take (a + n - a) (drop a b))) map_is ∙ ap (remaining_of map) reach-is

    initial_is : mul binary64 x (mul binary64 cell cell) ≡ area_of cell f.starting
    initial_is = ap (λ (q : Float). mul binary64 q (mul binary64 cell cell)) X

    near-is : mul binary64 y (mul binary64 cell cell) ≡ area_of cell (remaining_of map reach).reach
    near-is = ap (λ (q : Float). mul binary64 q (mul binary64 cell cell)) (Y ∙ ap (λ (l : Left). float l.reach) left_is)

    far-is : mul binary64 z (mul binary64 cell cell) ≡ area_of cell (remaining_of map reach).unreach
    far-is = ap (λ (q : Float). mul binary64 q (mul binary64 cell cell)) (Z ∙ ap (λ (l : Left). float l.unreach) left_is)

    removed-is : removed ≡ max_of (sub binary64 (sub binary64 (area_of cell f.starting) (area_of cell (remaining_of map reach).reach)) (area_of cell (remaining_of map reach).unreach)) f0
    removed-is =
        R
        ∙ ap (λ (q : Float). max_of (sub binary64 (sub binary64 q (mul binary64 y (mul binary64 cell cell))) (mul binary64 z (mul binary64 cell cell))) f0) initial_is
        ∙ ap (λ (q : Float). max_of (sub binary64 (sub binary64 (area_of cell f.starting) q) (mul binary64 z (mul binary64 cell cell))) f0) near-is
        ∙ ap (λ (q : Float). max_of (sub binary64 (sub binary64 (area_of cell f.starting) (area_of cell (remaining_of map reach).reach)) q) f0) far-is

    pub report_is : record {
      layers = layers;
      passes = count.passes;
      helix_entries = count.helices;
      retracts = count.plunges;
      links = count.links;
      planned_max_engagement_deg = degrees;
      removed_area = removed;
      remaining_reachable_area = mul binary64 y (mul binary64 cell cell);
      unreachable_area = mul binary64 z (mul binary64 cell cell);
      starting_cells = f.starting;
      standing_cells = standing;
      helix_given_up = f.given_up;
      spent_budget = f.spent;
      left_reachable = lt (mul binary64 c05 floor) (mul binary64 y (mul binary64 cell cell));
    } ≡ report_of cell f t map reach rows triples
    unfolding report_of
    report_is = λ i. record {
      layers = LAYERS i;
      passes = (C i).passes;
      helix_entries = (C i).helices;
      retracts = (C i).plunges;
      links = (C i).links;
      planned_max_engagement_deg = D i;
      removed_area = removed-is i;
      remaining_reachable_area = near-is i;
      unreachable_area = far-is i;
      starting_cells = f.starting;
      standing_cells = (S ∙ ap ones map_is) i;
      helix_given_up = f.given_up;
      spent_budget = f.spent;
      left_reachable = lt (mul binary64 c05 ((F ∙ ap (λ (q : Float). max_of q nano) initial_is) i)) (near-is i);
    }
