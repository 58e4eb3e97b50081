-- The search for a shift in `simulate` of adaptive.rs, operation by operation. `allowed` is whether the tool's centre may be at a place. Definitions only.
use Rattle.std.specs.Prelude.{ℕ, ◌+◌, min, Bool, cond, List, Float, Option, Some, None}
use Rattle.std.specs.Float.{binary64}
use Rattle.std.specs.Float.Ieee.{add, sub, mul, lt, le}
use Rattle.loops.specs.Loop.{loop, Run, on, out, turn}
use Rattle.numbers.specs.Order.{max_of}
use Rattle.numbers.specs.Small.{f4, tiny}
use Rattle.geom.specs.Vec.{f0, sum, scaled}
use Rattle.geom.specs.declared.vec2.Vec2.{Vec2}
use Rattle.raster.specs.Contact.{angle_of}
use Rattle.setup.specs.Place.{contact_at, bite_of}
use Rattle.setup.specs.declared.Setup.{Setup}
use Rattle.raster.specs.declared.contact.Contact.{Contact}
use Rattle.passes.specs.declared.shifts.Shift.{Shift}
use Rattle.passes.specs.declared.shifts.Search.{Search}

-- .. + 4.0 * cell
unfoldable pub max_shift : Setup → Float
max_shift s = add binary64 (bite_of s) (mul binary64 f4 s.grid.cell)

abbrev pub sr : Option Shift → ℕ → Search
sr f w = record { found = f; work = w }

abbrev pub shifted : Vec2 → Float → Float → Shift
shifted q e x = record { at = q; angle = e; shift = x }

-- a u64 that stays at its end
unfoldable pub sat_add : ℕ → ℕ → ℕ
sat_add a b = min (a + b) 18446744073709551615

-- g + left * sh
unfoldable pub moved_of : Vec2 → Vec2 → Float → Vec2
moved_of g left sh = sum g (scaled left sh)

-- the shift that is tried next, and the work so far
pub record Seek : Type 0 where
  pub sh : Float
  pub work : ℕ

abbrev pub sk : Float → ℕ → Seek
sk sh w = record { sh = sh; work = w }

-- what a try found ends the search; else the shift grows
unfoldable pub grown : Float → Float → Option Shift → ℕ → Run Seek Search
grown step sh None w = on (sk (add binary64 sh step) w)
grown step sh (Some f) w = out (sr (Some f) w)

unfoldable pub sought : Run Seek Search → Search
sought (on k) = sr None k.work
sought (out r) = r

module _ (s : Setup) (allowed : Vec2 → Bool) (m : List ℕ) where
  -- ---- one probe

  unfoldable pub probe_of : Vec2 → Option Contact
  probe_of q = cond (allowed q) (Some (contact_at s m q s.r_guard)) None

  -- a contact that was counted is work, whether its angle serves or not
  unfoldable pub judged : Vec2 → Float → Float → ℕ → Option Contact → Search
  judged q sh limit work None = sr None work
  judged q sh limit work (Some t) = sr (cond (le (angle_of t) limit) (Some (shifted q (angle_of t) sh)) None) (sat_add work s.samples)

  unfoldable pub try_of : Vec2 → Vec2 → Float → Float → ℕ → Search
  try_of g left sh limit work = judged (moved_of g left sh) sh limit work (probe_of (moved_of g left sh))

  -- back towards the guide, (shift - step).max(0.0), at or below the target
  unfoldable pub ease_of : Vec2 → Vec2 → Float → Float → ℕ → Search
  ease_of g left step shift work = cond (lt f0 shift) (try_of g left (max_of (sub binary64 shift step) f0) s.target work) (sr None work)

  -- ---- else outward, at or below the guard

  unfoldable pub look : Vec2 → Vec2 → Float → Float → ℕ → Seek → Run Seek Search
  look g left step most i k =
      let r = try_of g left k.sh s.guard k.work in
      cond (le k.sh (add binary64 most tiny)) (grown step k.sh r.found r.work) (out (sr None k.work))

  -- the shift grows at most 8,192 times: 8,193 tries
  unfoldable pub outward : Vec2 → Vec2 → Float → Float → Float → ℕ → Search
  outward g left step most shift work = sought (loop (turn (look g left step most)) 0 8193 (on (sk shift work)))

  unfoldable pub or_outward : Vec2 → Vec2 → Float → Float → Float → Option Shift → ℕ → Search
  or_outward g left step most shift None w = outward g left step most shift w
  or_outward g left step most shift (Some f) w = sr (Some f) w

  unfoldable pub search_of : Vec2 → Vec2 → Float → Float → Float → ℕ → Search
  search_of g left step most shift work =
      let r = ease_of g left step shift work in
      or_outward g left step most shift r.found r.work
