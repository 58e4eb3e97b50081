-- What a yes to a question says of the parameters and of what is lent. Assumes nothing.
use mathlib.Core.Path.{◌≡◌, refl}
use mathlib.Core.Bool.{Bool, true, ◌&&◌}
use Prim.Native.Nat.{◌+◌, ◌*◌}
use lib.Dec.{leb}
use Rattle.std.specs.Prelude.{Option, None, Some, unwrap_or, MatchOption, IsTrue}
use lib.Ieee.{Float, binary64, sub, div, lt, le}
use borrow.Author.Tests.{leb-true}
use Rattle.loops.proofs.Cases.{both}
use Rattle.numbers.specs.Order.{is_finite}
use Rattle.numbers.specs.Small.{f1, f180, f1000, c01}
use Rattle.raster.specs.declared.grid.Grid.{Grid}
use Rattle.setup.specs.Layout.{Lent}
use Rattle.entry.specs.Questions.{f100, f10000, absent_or, given_or, at_most1000, above_zero, cell_of, engagement_fit, helix_fit, ranges_fit, lent_fit}
use Rattle.entry.specs.declared.params.AdaptiveParams.{AdaptiveParams}
use Rattle.entry.specs.declared.judge.Lengths.{Lengths}

-- what stands, else a default
pub given-is : (d : Float) (s : Option Float) → unwrap_or s d ≡ given_or d s
unfolding given_or
given-is d None = refl
given-is d (Some x) = refl

-- what stands passes, where anything does
pub test-by : (test : Float → Bool) (P : Float → Type 0) (s : Option Float) (b : Bool) → MatchOption s (IsTrue b) P → ((x : Float) → P x → b ≡ test x) → b ≡ absent_or test s
unfolding absent_or
test-by test P None b h k = h
test-by test P (Some x) b h k = k x h

pub engagement_is : (p : AdaptiveParams) → engagement_fit p ≡ true → (le f1 p.max_engagement_deg ≡ true) × (lt p.max_engagement_deg f180 ≡ true)
unfolding engagement_fit
engagement_is p h =
    let e = p.max_engagement_deg in
    both (le f1 e) (lt e f180) (both (is_finite e) (le f1 e && lt e f180) h).1

pub helix-is : (p : AdaptiveParams) → helix_fit p ≡ true → absent_or above_zero p.helix_radius ≡ true
unfolding helix_fit
helix-is p h = h

module _ (p : AdaptiveParams) (h : ranges_fit p ≡ true) where
  abbrev deep : Bool
  deep = le (div binary64 (sub binary64 p.top p.bottom) p.step_down) f10000

  abbrev rest : Bool
  rest = le p.stock_to_leave f100 && (absent_or at_most1000 p.helix_radius && deep)

  abbrev across : Bool
  across = le c01 p.tool_diameter && le p.tool_diameter f100

  ranges : (across ≡ true) × (le (div binary64 p.tool_diameter f1000) (cell_of p) && rest ≡ true)
  unfolding ranges_fit
  ranges = both across (le (div binary64 p.tool_diameter f1000) (cell_of p) && rest) h

  pub diameter_is : (le c01 p.tool_diameter ≡ true) × (le p.tool_diameter f100 ≡ true)
  diameter_is = both (le c01 p.tool_diameter) (le p.tool_diameter f100) ranges.0

  pub coarse-is : le (div binary64 p.tool_diameter f1000) (cell_of p) ≡ true
  coarse-is = (both (le (div binary64 p.tool_diameter f1000) (cell_of p)) rest ranges.1).0

  pub short-is : absent_or at_most1000 p.helix_radius ≡ true
  short-is =
      let r = (both (le (div binary64 p.tool_diameter f1000) (cell_of p)) rest ranges.1).1 in
      (both (absent_or at_most1000 p.helix_radius) deep (both (le p.stock_to_leave f100) (absent_or at_most1000 p.helix_radius && deep) r).1).0

pub lent_is : (g : Grid) (l : Lengths) → lent_fit g l ≡ true → Lent (g.ny * g.nx) l.bytes l.words l.singles l.doubles
unfolding lent_fit
lent_is g l h =
    let n = g.ny * g.nx in
    let a = both (leb (8 * n) l.bytes && leb (32 * n + 8192) l.words) (leb (2 * n) l.singles && leb (32 * n + 8192) l.doubles) h in
    let b = both (leb (8 * n) l.bytes) (leb (32 * n + 8192) l.words) a.0 in
    let c = both (leb (2 * n) l.singles) (leb (32 * n + 8192) l.doubles) a.1 in
    record {
      bytes = leb-true (8 * n) l.bytes b.0;
      words = leb-true (32 * n + 8192) l.words b.1;
      singles = leb-true (2 * n) l.singles c.0;
      doubles = leb-true (32 * n + 8192) l.doubles c.1;
    }
