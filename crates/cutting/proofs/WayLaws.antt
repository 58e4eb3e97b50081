-- What the proof of `way_to` cites, over plain values. Assumes nothing.
use Rattle.passes.specs.Start.{Place}
use mathlib.Core.Path.{◌≡◌, sym, ap, ◌∙◌}
use mathlib.Core.Bool.{Bool, true, false, cond}
use mathlib.Core.List.{List}
use Prim.Native.Nat.{ℕ, ◌*◌, ◌≤◌}
use native.Mathlib.Omega.{arith}
use lib.ListN.{length}
use lib.Ieee.{Float}
use Rattle.loops.specs.Frame.{Only}
use Rattle.loops.proofs.FrameLaws.{only_same}
use Rattle.geom.specs.declared.vec2.Vec2.{Vec2}
use Rattle.setup.specs.declared.Setup.{Setup}
use Rattle.links.specs.Path.{lost, wall_in, Fitted}
use Rattle.links.specs.Link.{route as routed, Linked, linked, link_path, linked_in}
use Rattle.std.specs.Prelude.{None, Some}
use Rattle.cutting.specs.Way.{route_of}

module _ (s : Setup) (vs : List Float) (lens m allowed : List ℕ) (w : List Float) (to : Vec2) where
  abbrev route : Place → Linked
  route pos = route_of s (wall_in s w) vs lens m allowed pos to

  pub route_nowhere : (pos : Place) → pos ≡ None → linked_in s (routed None 0) w ≡ route pos
  unfolding route_of
  route_nowhere pos e = sym (ap route e)

  pub route_up : (pos : Place) (p : Vec2) → pos ≡ Some p → s.keep_down ≡ false → linked_in s (routed None 0) w ≡ route pos
  unfolding route_of
  route_up pos p e d = sym (ap route e ∙ ap (λ (b : Bool). cond b (link_path s (wall_in s w) vs lens m allowed p to) (linked lost 0)) d)

  pub route_down : (pos : Place) (p : Vec2) → pos ≡ Some p → s.keep_down ≡ true → (l : Linked) → l ≡ link_path s (wall_in s w) vs lens m allowed p to → l ≡ route pos
  unfolding route_of
  route_down pos p e d l q = q ∙ sym (ap route e ∙ ap (λ (b : Bool). cond b (link_path s (wall_in s w) vs lens m allowed p to) (linked lost 0)) d)

  -- where no way is looked for nothing is written
  module _ (F : Fitted s vs lens m w) (u : List ℕ) (h : 15 * (s.grid.ny * s.grid.nx) ≤ length u) where
    pub still : Only 0 (15 * (s.grid.ny * s.grid.nx)) u u × Only (10 * (s.grid.ny * s.grid.nx)) (23 * (s.grid.ny * s.grid.nx)) w w
    still = (only_same _ _ u (record { start = omega arith; end = h }), only_same _ _ w (record { start = omega arith; end = omega (arith, F.long) }))
