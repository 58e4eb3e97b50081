-- A log to be read: its questions. Assumes nothing.
use mathlib.Core.Path.{◌≡◌}
use mathlib.Core.Bool.{true, false, not, ◌&&◌}
use mathlib.Core.List.{List}
use Prim.Native.Nat.{ℕ, ◌*◌, ◌≤◌, ◌<◌}
use native.Mathlib.Omega.{arith}
use lib.ListN.{length, get_or}
use lib.Dec.{leb}
use borrow.Author.Tests.{leb-true, leb-false, le-leb, lt-leb, not-true}
use Rattle.loops.specs.Loop.{any}
use Rattle.loops.proofs.Cases.{both}
use Rattle.loops.proofs.LoopLaws.{any-each}
use Rattle.raster.specs.Log.{Logged}
use Rattle.std.specs.Prelude.{Result, Ok, Err}
use Rattle.pocket.specs.declared.refusals.Refusal.{Refusal}
use Rattle.pocket.specs.declared.refusals.Refusal.TheVariants.{OutOfRange, NoRegion, NoRaster, TooShort}
use Rattle.pocket.specs.Ranges.{sides_fit}
use Rattle.pocket.specs.Refusals.{Asked, ask, size_asked, past, log_fit, log_asked}
use Rattle.pocket.proofs.AskedLaws.{ask-none}

module _ (log : List ℕ) (used n : ℕ) where
  pub log-short : length log < used → false ≡ log_fit log used n
  unfolding log_fit
  log-short h = rw (lt-leb used (length log) h)

  pub log-past : used ≤ length log → true ≡ any (past log n) 0 used → false ≡ log_fit log used n
  unfolding log_fit
  log-past h e = rw (le-leb used (length log) h, ← e)

  pub log-within : used ≤ length log → false ≡ any (past log n) 0 used → true ≡ log_fit log used n
  unfolding log_fit
  log-within h e = rw (le-leb used (length log) h, ← e)

module _ (nx ny long : ℕ) (log : List ℕ) (used : ℕ) where
  pub log_odd : sides_fit nx ny ≡ false → Err NoRaster ≡ log_asked nx ny long log used
  unfolding log_asked
  log_odd h = rw h

  pub log_not : sides_fit nx ny ≡ true → log_fit log used (ny * nx) ≡ false → Err NoRaster ≡ log_asked nx ny long log used
  unfolding log_asked
  log_not h e = rw (h, e)

  pub log-rest : sides_fit nx ny ≡ true → log_fit log used (ny * nx) ≡ true → (k : Asked) → k ≡ size_asked nx ny long → k ≡ log_asked nx ny long log used
  unfolding log_asked size_asked
  log-rest h e k i = rw (h, e) (rw h at i)

  pub logged-is : log_asked nx ny long log used ≡ Ok tt → Logged log used long
  unfolding log_asked log_fit
  logged-is e =
      let a = ask-none NoRaster (sides_fit nx ny && log_fit log used (ny * nx)) (ask TooShort (leb (ny * nx) long) (Ok tt)) e in
      let fits = leb-true (ny * nx) long (ask-none TooShort (leb (ny * nx) long) (Ok tt) a.1).0 in
      let f = both (leb used (length log)) (not (any (past log (ny * nx)) 0 used)) (both (sides_fit nx ny) (log_fit log used (ny * nx)) a.0).1 in
      record {
        within = leb-true used (length log) f.0;
        cell = λ i b. omega (arith, leb-false (ny * nx) (get_or log i 0) (any-each (past log (ny * nx)) 0 used (not-true (any (past log (ny * nx)) 0 used) f.1) i (omega arith) b));
      }
