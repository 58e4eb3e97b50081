-- A way's parts are read back, and what `link_path` requires holds of a Setup made of its numbers. Assumes nothing.
use mathlib.Core.Path.{◌≡◌, sym, ap, ◌∙◌, subst}
use mathlib.Core.Bool.{true, false}
use mathlib.Core.List.{List, [], ◌∷◌}
use Prim.Native.Nat.{ℕ, ◌*◌, ◌≤◌}
use native.Mathlib.Omega.{arith}
use lib.ListN.{length, set}
use lib.Ieee.{Float}
use Rattle.geom.specs.declared.vec2.Vec2.{Vec2}
use Rattle.geom.specs.declared.region.Region.{Region}
use Rattle.raster.specs.declared.grid.Grid.{Grid}
use Rattle.setup.specs.declared.Setup.{Setup}
use Rattle.links.specs.Path.{wall_in, Fitted}
use Rattle.links.specs.Link.{link_path, linked_in}
use Rattle.links.specs.declared.link.Route.{Route}
use Rattle.std.specs.Prelude.{Option, Some, None}
use Rattle.abi.specs.Setup.{placed, plain}
use Rattle.abi.specs.Links.{route_in, PathBy}

pub put_along : (out : List ℕ) (n : ℕ) (r : Route) → 2 ≤ length out → r.points ≡ Some n → route_in true (set (set out 1 r.work) 0 n) ≡ r
put_along [] n r h e = absurd (let z : ⊥ = omega arith in z)
put_along (x ∷ []) n r h e = absurd (let z : ⊥ = omega arith in z)
put_along (x ∷ y ∷ out) n r h e = ap (λ (p : Option ℕ). record { points = p; work = r.work }) (sym e)

pub put-lost : (out : List ℕ) (r : Route) → 2 ≤ length out → r.points ≡ None → route_in false (set out 1 r.work) ≡ r
put-lost [] r h e = absurd (let z : ⊥ = omega arith in z)
put-lost (x ∷ []) r h e = absurd (let z : ⊥ = omega arith in z)
put-lost (x ∷ y ∷ out) r h e = ap (λ (p : Option ℕ). record { points = p; work = r.work }) (sym e)

module _ (s : Setup) (g : Grid) (region : Region) (r keep : Float) (samples : ℕ) (e : s ≡ placed g region r s.keep samples) (b : s.keep.r ≡ keep) where
  pub fitted_of : (vs : List Float) (lens m : List ℕ) (w : List Float) → Fitted (plain g region r keep samples) vs lens m w → Fitted s vs lens m w
  fitted_of vs lens m w f = subst (λ (z : Setup). Fitted z vs lens m w) (sym e) record {
    walls = record { over = f.walls.over; held = f.walls.held };
    over = f.over;
    tables = f.tables;
    long = f.long;
  }

  pub cells_of : (k : ℕ) → 15 * (g.ny * g.nx) ≤ k → 15 * (s.grid.ny * s.grid.nx) ≤ k
  cells_of k h = subst (λ (z : Setup). 15 * (z.grid.ny * z.grid.nx) ≤ k) (sym e) h

  pub path_by : (vs : List Float) (lens m allowed : List ℕ) (w : List Float) (a d : Vec2) (p : Route) (w' : List Float) (q : Route) → q ≡ p
      → linked_in s p w' ≡ link_path s (wall_in s w) vs lens m allowed a d → PathBy g region r keep samples vs lens m allowed w a d q w'
  path_by vs lens m allowed w a d p w' q R h = record {
    bound = s.keep;
    bounds = b;
    is = ap (λ (x : Route). linked_in (placed g region r s.keep samples) x w') R ∙ subst (λ (z : Setup). linked_in z p w' ≡ link_path z (wall_in z w) vs lens m allowed a d) e h;
  }
