-- Each way through the search for a shift, over plain values: callees' results are variables, what they ensure are hypotheses. Assumes nothing.
use mathlib.Core.Path.{◌≡◌, refl, sym, ap}
use mathlib.Core.Bool.{Bool, true, false, not}
use mathlib.Core.List.{List}
use Prim.Native.Nat.{ℕ}
use lib.Ieee.{Float, binary64, add, sub, mul, lt, le}
use Rattle.loops.specs.Loop.{loop, on, out, turn}
use Rattle.numbers.specs.Order.{max_of}
use Rattle.numbers.specs.Small.{f4, tiny}
use Rattle.geom.specs.Vec.{f0, sum, scaled}
use Rattle.geom.specs.declared.vec2.Vec2.{Vec2}
use Rattle.raster.specs.Contact.{angle_of}
use Rattle.raster.specs.declared.contact.Contact.{Contact}
use Rattle.setup.specs.Place.{contact_at, bite_of}
use Rattle.setup.specs.declared.Setup.{Setup}
use Rattle.std.specs.Prelude.{Option, Some, None}
use Rattle.passes.specs.declared.shifts.Shift.{Shift}
use Rattle.passes.specs.declared.shifts.Search.{Search}
use Rattle.passes.specs.Shifts.{max_shift, sr, shifted, sat_add, moved_of, sk, grown, sought, probe_of, judged, try_of, ease_of, look, outward, or_outward, search_of}

pub max_is : (s : Setup) (b : Float) → b ≡ bite_of s → add binary64 b (mul binary64 f4 s.grid.cell) ≡ max_shift s
unfolding max_shift
max_is s b B = rw (← B)

pub moved-is : (g left : Vec2) (sh : Float) (u q : Vec2) → u ≡ scaled left sh → q ≡ sum g u → q ≡ moved_of g left sh
unfolding moved_of
moved-is g left sh u q U Q = rw (← U) Q

not-true : (b : Bool) → not b ≡ true → b ≡ false
not-true true h = sym h
not-true false h = refl

not-false : (b : Bool) → not b ≡ false → b ≡ true
not-false true h = refl
not-false false h = sym h

module _ (s : Setup) (allowed : Vec2 → Bool) (m : List ℕ) where
  -- ---- one probe

  module _ (q : Vec2) (a : Bool) (A : a ≡ allowed q) where
    pub probe_yes : a ≡ true → (c : Contact) → c ≡ contact_at s m q s.r_guard → Some c ≡ probe_of s allowed m q
    unfolding probe_of
    probe_yes t c C = rw (← A, t, ← C)

    pub probe_no : a ≡ false → None ≡ probe_of s allowed m q
    unfolding probe_of
    probe_no t = rw (← A, t)

  module _ (g left : Vec2) (sh limit : Float) (work : ℕ) (q : Vec2) (p : Option Contact) (Q : q ≡ moved_of g left sh) (P : p ≡ probe_of s allowed m q) where
    pub try_barred : p ≡ None → sr None work ≡ try_of s allowed m g left sh limit work
    unfolding try_of judged
    try_barred h = rw (← Q, ← P, h)

    module _ (t : Contact) (e : Float) (w : ℕ) (h : p ≡ Some t) (W : w ≡ sat_add work s.samples) (E : e ≡ angle_of t) where
      pub try_taken : le e limit ≡ true → sr (Some (shifted q e sh)) w ≡ try_of s allowed m g left sh limit work
      unfolding try_of judged
      try_taken c = rw (← Q, ← P, h, ← E, c, ← W)

      pub try_left : le e limit ≡ false → sr None w ≡ try_of s allowed m g left sh limit work
      unfolding try_of judged
      try_left c = rw (← Q, ← P, h, ← E, c, ← W)

  -- ---- the search

  module _ (g left : Vec2) (step shift : Float) (work : ℕ) where
    pub ease_none : lt f0 shift ≡ false → sr None work ≡ ease_of s allowed m g left step shift work
    unfolding ease_of
    ease_none c = rw c

    pub ease_some : lt f0 shift ≡ true → (sh : Float) (r : Search) → sh ≡ max_of (sub binary64 shift step) f0
        → r ≡ try_of s allowed m g left sh s.target work → r ≡ ease_of s allowed m g left step shift work
    unfolding ease_of
    ease_some c sh r a b = rw (c, ← a) b

    module _ (most : Float) (r : Search) (R : r ≡ ease_of s allowed m g left step shift work) where
      pub search_eased : (f : Shift) → r.found ≡ Some f → r ≡ search_of s allowed m g left step most shift work
      unfolding search_of or_outward
      search_eased f h = rw (← R, h)

      pub search_outward : r.found ≡ None → (u : Search) → u ≡ outward s allowed m g left step most shift r.work → u ≡ search_of s allowed m g left step most shift work
      unfolding search_of or_outward
      search_outward h u k = rw (← R, h) k

  module _ (g left : Vec2) (step most : Float) where
    module _ (i : ℕ) (sh : Float) (w : ℕ) where
      pub look-far : not (le sh (add binary64 most tiny)) ≡ true → look s allowed m g left step most i (sk sh w) ≡ out (sr None w)
      unfolding look
      look-far c = rw (not-true (le sh (add binary64 most tiny)) c)

      module _ (c : not (le sh (add binary64 most tiny)) ≡ false) (r : Search) (R : r ≡ try_of s allowed m g left sh s.guard w) where
        pub look-found : (f : Shift) → r.found ≡ Some f → look s allowed m g left step most i (sk sh w) ≡ out r
        unfolding look grown
        look-found f h = rw (not-false (le sh (add binary64 most tiny)) c, ← R, h)

        pub look-on : r.found ≡ None → on (sk (add binary64 sh step) r.work) ≡ look s allowed m g left step most i (sk sh w)
        unfolding look grown
        look-on h = rw (not-false (le sh (add binary64 most tiny)) c, ← R, h)

    module _ (shift : Float) (work : ℕ) where
      pub outward-out : (r : Search) → loop (turn (look s allowed m g left step most)) 0 8193 (on (sk shift work)) ≡ out r → r ≡ outward s allowed m g left step most shift work
      unfolding outward sought
      outward-out r e = ap sought (sym e)

      pub outward-on : (sh : Float) (w : ℕ) → on (sk sh w) ≡ loop (turn (look s allowed m g left step most)) 0 8193 (on (sk shift work)) → sr None w ≡ outward s allowed m g left step most shift work
      unfolding outward sought
      outward-on sh w e = ap sought e
