-- Where a search finds a shift, the tool may be, and the angle is that of the contact there and at most the guard. Assumes nothing.
use mathlib.Core.Path.{◌≡◌, refl, subst}
use mathlib.Core.Bool.{Bool, true}
use mathlib.Core.List.{List}
use Prim.Native.Nat.{ℕ}
use lib.Ieee.{Float, binary64, add, sub, lt, le}
use Rattle.loops.specs.Loop.{Run, on, out, turn}
use Rattle.loops.proofs.Cases.{by_cases, by_test}
use Rattle.loops.proofs.LoopLaws.{loop_keeps}
use Rattle.floats.proofs.OrderLaws.{le_le}
use Rattle.numbers.specs.Order.{max_of}
use Rattle.numbers.specs.Small.{tiny}
use Rattle.geom.specs.Vec.{f0}
use Rattle.geom.specs.declared.vec2.Vec2.{Vec2}
use Rattle.raster.specs.Contact.{angle_of}
use Rattle.raster.specs.declared.contact.Contact.{Contact}
use Rattle.setup.specs.Place.{contact_at}
use Rattle.setup.specs.declared.Setup.{Setup}
use Rattle.std.specs.Prelude.{Option, Some, None}
use Rattle.passes.specs.declared.shifts.Shift.{Shift}
use Rattle.passes.specs.declared.shifts.Search.{Search}
use Rattle.passes.specs.Shifts.{sr, shifted, moved_of, Seek, sk, grown, sought, judged, try_of, ease_of, look, outward, or_outward, search_of}
use Rattle.passes.proofs.ShiftLaws.{probe_yes, probe_no}

module _ (s : Setup) (allowed : Vec2 → Bool) (m : List ℕ) where
  abbrev pub Served : Option Shift → Type 0
  Served None = Unit
  Served (Some f) = (allowed f.at ≡ true) × (f.angle ≡ angle_of (contact_at s m f.at s.r_guard)) × (le f.angle s.guard ≡ true)

  try_served : (g left : Vec2) (sh limit : Float) (work : ℕ) → ((e : Float) → le e limit ≡ true → le e s.guard ≡ true) → Served (try_of s allowed m g left sh limit work).found
  unfolding try_of judged
  try_served g left sh limit work h =
      let q : Vec2 = moved_of g left sh in
      let c : Contact = contact_at s m q s.r_guard in
      let e : Float = angle_of c in
      by_cases (allowed q)
      (λ a. subst (λ (p : Option Contact). Served (judged s allowed m q sh limit work p).found) (probe_yes s allowed m q (allowed q) refl a c refl)
      (by_test Served (le e limit) (Some (shifted q e sh)) None (λ t. (a, refl, h e t)) (λ t. tt)))
      (λ a. subst (λ (p : Option Contact). Served (judged s allowed m q sh limit work p).found) (probe_no s allowed m q (allowed q) refl a) tt)

  -- the loop goes on, or it is left with such a shift
  abbrev Sought : Run Seek Search → Type 0
  Sought (on k) = Unit
  Sought (out r) = Served r.found

  grown_served : (step sh : Float) (f : Option Shift) (w : ℕ) → Served f → Sought (grown step sh f w)
  unfolding grown
  grown_served step sh None w h = tt
  grown_served step sh (Some f) w h = h

  look_served : (g left : Vec2) (step most : Float) (i : ℕ) (r : Run Seek Search) → Sought r → Sought (turn (look s allowed m g left step most) i r)
  unfolding turn look
  look_served g left step most i (out r) h = h
  look_served g left step most i (on k) h =
      by_test Sought (le k.sh (add binary64 most tiny)) _ _
      (λ t. grown_served step k.sh _ _ (try_served g left k.sh s.guard k.work (λ e d. d)))
      (λ t. tt)

  sought_served : (r : Run Seek Search) → Sought r → Served (sought r).found
  unfolding sought
  sought_served (on k) h = tt
  sought_served (out r) h = h

  outward_served : (g left : Vec2) (step most shift : Float) (work : ℕ) → Served (outward s allowed m g left step most shift work).found
  unfolding outward
  outward_served g left step most shift work =
      sought_served _ (loop_keeps (turn (look s allowed m g left step most)) 0 Sought 8193 (λ i r b c h. look_served g left step most i r h) (on (sk shift work)) tt)

  or_served : (g left : Vec2) (step most shift : Float) (f : Option Shift) (w : ℕ) → Served f → Served (or_outward s allowed m g left step most shift f w).found
  unfolding or_outward
  or_served g left step most shift None w h = outward_served g left step most shift w
  or_served g left step most shift (Some f) w h = h

  -- at or below the target is at or below the guard
  pub search_served : le s.target s.guard ≡ true → (g left : Vec2) (step most shift : Float) (work : ℕ) → Served (search_of s allowed m g left step most shift work).found
  unfolding search_of ease_of
  search_served b g left step most shift work =
      or_served g left step most shift _ _
      (by_test (λ (r : Search). Served r.found) (lt f0 shift) (try_of s allowed m g left (max_of (sub binary64 shift step) f0) s.target work) (sr None work)
      (λ t. try_served g left _ s.target work (λ e d. le_le e s.target s.guard d b))
      (λ t. tt))
