-- A log that a crescent is written to keeps its used part, and what it held beyond the new count. Assumes nothing.
use mathlib.Core.Path.{◌≡◌, refl, sym, ◌∙◌, subst}
use mathlib.Core.List.{List, ◌++◌}
use Prim.Native.Nat.{ℕ, ◌*◌, ◌≤◌, ◌<◌}
use native.Mathlib.Omega.{arith}
use lib.ListN.{length, take, drop, get_or}
use lib.Seq.{get_or-set_other}
use lib.Dec.{eqb}
use lib.Ieee.{Float}
use Rattle.loops.proofs.Cases.{by_cases}
use Rattle.geom.specs.declared.vec2.Vec2.{Vec2}
use Rattle.raster.specs.Log.{Stock, st, taken, clear_after}
use Rattle.raster.specs.declared.grid.Grid.{Grid}
use Rattle.raster.proofs.LogLaws.{cell_cases, keep-after}
use Rattle.std.specs.Prelude.{Result, Ok, Err}
use Rattle.pocket.specs.declared.refusals.Refusal.{Refusal}
use Rattle.pocket.specs.declared.refusals.Refusal.TheVariants.{OutOfRange, NoRegion, NoRaster, TooShort}
use Rattle.pocket.specs.Refusals.{Asked, crescent_asked}
use Rattle.pocket.specs.Leaves.{unless, OnLog, on_log, clear_crescent_of}

-- a log l with `used` entries becomes l' with n
pub record LogKept (used : ℕ) (l : List ℕ) (n : ℕ) (l' : List ℕ) : Type 0 where
  pub more : used ≤ n
  pub before : (k : ℕ) → k < used → get_or l' k 0 ≡ get_or l k 0
  pub beyond : (k : ℕ) → n ≤ k → get_or l' k 0 ≡ get_or l k 0

abbrev Keeps : Stock → Stock → Type 0
Keeps s t = LogKept s.count s.log t.count t.log

keeps_taken : (s : Stock) (k : ℕ) (t : Stock) → Keeps s t → Keeps s (taken k t)
keeps_taken s k t h = record {
  more = let m = h.more in omega arith;
  before = λ i b. let m = h.more in get_or-set_other t.log t.count i k 0 (λ e. let z : ⊥ = omega arith in z) ∙ h.before i b;
  beyond = λ i b. get_or-set_other t.log t.count i k 0 (λ e. let z : ⊥ = omega arith in z) ∙ h.beyond i (omega arith);
}

pub after_keeps : (g : Grid) (prev c : Vec2) (r : Float) (s : Stock) → Keeps s (clear_after g prev c r s)
after_keeps g prev c r s =
    keep-after (Keeps s) (λ k t h. cell_cases (Keeps s) k t (λ e. keeps_taken s k t h) h) g prev c r s
    (record { more = omega arith; before = λ k b. refl; beyond = λ k b. refl })

-- where the leaf's answer is a count, it is that of the log that was written
module _ (k n : ℕ) (m m' l l' : List ℕ) where
  abbrev told : Asked → OnLog (Result ℕ Refusal)
  told why = unless why (λ z. on_log (Err z) m l) (on_log (Ok k) m' l')

  counted : (why : Asked) → (told why).answer ≡ Ok n → (k ≡ n) × ((told why).log ≡ l')
  counted (Ok u) e = (cc, refl)
  counted (Err z) e = absurd (cc)

pub crescent-log : (g : Grid) (prev c : Vec2) (r : Float) (used : ℕ) (m l : List ℕ) (n : ℕ) → (clear_crescent_of g prev c r used m l).answer ≡ Ok n → LogKept used l n (clear_crescent_of g prev c r used m l).log
unfolding clear_crescent_of
crescent-log g prev c r used m l n e =
    let s : Stock = clear_after g prev c r (st (take (g.ny * g.nx) m) l used) in
    let w = counted s.count n m (s.cells ++ drop (g.ny * g.nx) m) l s.log (crescent_asked g prev c r m (length l) used) e in
    subst (λ (x : List ℕ). LogKept used l n x) (sym w.1)
    (subst (λ (k : ℕ). LogKept used l k s.log) w.0 (after_keeps g prev c r (st (take (g.ny * g.nx) m) l used)))
