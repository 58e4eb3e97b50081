-- What the proofs of `settle` and of its callers cite: the stock map and the dirty cells among the bytes. Assumes nothing.
use mathlib.Core.Path.{◌≡◌, refl, sym, ap, ◌∙◌, subst}
use mathlib.Core.List.{List}
use Prim.Native.Nat.{ℕ, ◌+◌, ◌-◌, ◌*◌, ◌≤◌}
use native.Mathlib.Omega.{arith}
use lib.ListN.{length, take, drop}
use borrow.Rule.Slice.PartMut.{put_mid}
use Rattle.raster.specs.Log.{Logged, undone, redone}
use Rattle.raster.proofs.LogLaws.{undone-long, redone-long}
use Rattle.setup.specs.Layout.{run, put_run}
use Rattle.setup.proofs.LayoutLaws.{run-put, run_other}
use Rattle.setup.proofs.PartLaws.{part_is, part_long, run_long, back_is, put-run-long, run-same}
use Rattle.cutting.specs.Piece.{Settled}

module _ (n : ℕ) (b : List ℕ) (h : 8 * n ≤ length b) (log : List ℕ) (removed : ℕ) where
  abbrev cleared : List ℕ
  cleared = redone log 0 removed (run 0 n b)

  abbrev dirtied : List ℕ
  dirtied = undone log 0 removed (run 4 n b)

  abbrev pub settled : List ℕ
  settled = put_run 4 n dirtied (put_run 0 n cleared b)

  cleared-long : length cleared ≡ n
  unfolding redone
  cleared-long = redone-long log 0 removed (run 0 n b) ∙ run_long 0 n b (omega arith)

  dirtied_long : length dirtied ≡ n
  unfolding undone
  dirtied_long = undone-long log 0 removed (run 4 n b) ∙ run_long 4 n b (omega arith)

  first-long : length (put_run 0 n cleared b) ≡ length b
  first-long = put-run-long 0 n b cleared (omega arith) cleared-long

  settled-long : length settled ≡ length b
  settled-long = put-run-long 4 n (put_run 0 n cleared b) dirtied (omega (arith, first-long)) dirtied_long ∙ first-long

  pub settled-map : run 0 n settled ≡ cleared
  settled-map = run_other n (put_run 0 n cleared b) dirtied dirtied_long 4 0 (omega (arith, first-long)) (λ z. omega arith) ∙ run-put n b cleared cleared-long 0 (omega arith)

  pub settled-dirty : run 4 n settled ≡ dirtied
  settled-dirty = run-put n (put_run 0 n cleared b) dirtied dirtied_long 4 (omega (arith, first-long))

  pub settled_only : Settled n b settled
  settled_only = record {
    long = settled-long;
    rest = sym (ap (λ (x : List ℕ). put_run 4 n x (put_run 0 n (run 0 n settled) b)) settled-dirty ∙ ap (λ (x : List ℕ). put_run 4 n dirtied (put_run 0 n x b)) settled-map);
  }

  -- ---- for the proof of `settle`

  module _ (L : Logged log removed n) where
    pub first-logged : Logged log removed (length (take (n - 0) (drop 0 b)))
    first-logged = subst (Logged log removed) (sym (part_long 0 n 0 n b (omega arith) (omega arith) (omega arith))) L

    module _ (r : List ℕ) (R : r ≡ redone log 0 removed (take (n - 0) (drop 0 b))) where
      first-is : put_mid 0 (n - 0) b r ≡ put_run 0 n cleared b
      first-is =
          back_is 0 n 0 n b r (omega arith) (omega arith) (omega arith)
          ∙ ap (λ (x : List ℕ). put_run 0 n x b) (R ∙ ap (redone log 0 removed) (part_is 0 n 0 n b (omega arith) (omega arith)))

      middle-long : length (put_mid 0 (n - 0) b r) ≡ length b
      middle-long = ap length first-is ∙ first-long

      module _ (d : ℕ) (D : d ≡ 4 * n) where
        pub second_logged : Logged log removed (length (take (d + n - d) (drop d (put_mid 0 (n - 0) b r))))
        second_logged = subst (Logged log removed) (sym (part_long 4 n d (d + n) (put_mid 0 (n - 0) b r) D (omega arith) (omega (arith, middle-long)))) L

        part_same : take (d + n - d) (drop d (put_mid 0 (n - 0) b r)) ≡ run 4 n b
        part_same =
            part_is 4 n d (d + n) (put_mid 0 (n - 0) b r) D (omega arith)
            ∙ ap (run 4 n) first-is ∙ run_other n b cleared cleared-long 0 4 (omega arith) (λ z. omega arith)

        pub settle_is : (q : List ℕ) → q ≡ undone log 0 removed (take (d + n - d) (drop d (put_mid 0 (n - 0) b r))) → put_mid d (d + n - d) (put_mid 0 (n - 0) b r) q ≡ settled
        settle_is q Q =
            back_is 4 n d (d + n) (put_mid 0 (n - 0) b r) q D (omega arith) (omega (arith, middle-long))
            ∙ ap (λ (x : List ℕ). put_run 4 n x (put_mid 0 (n - 0) b r)) (Q ∙ ap (undone log 0 removed) part_same)
            ∙ ap (put_run 4 n dirtied) first-is

-- nothing written
pub settled_not : (n : ℕ) (b : List ℕ) → 8 * n ≤ length b → Settled n b b
settled_not n b h = record { long = refl; rest = sym (ap (put_run 4 n (run 4 n b)) (run-same 0 n b (omega arith)) ∙ run-same 4 n b (omega arith)) }
