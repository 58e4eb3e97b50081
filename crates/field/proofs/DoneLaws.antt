-- The field of a round, from what its steps left in the workspace. Assumes nothing.
use mathlib.Core.Path.{◌≡◌, refl, sym, ap, ◌∙◌, subst}
use mathlib.Core.Bool.{Bool, true, false, cond}
use mathlib.Core.List.{List}
use Prim.Native.Nat.{ℕ, ◌+◌, ◌-◌, ◌*◌, ◌≤◌, ◌<◌}
use native.Mathlib.Omega.{arith}
use lib.ListN.{length, take, drop, replicate, length-replicate}
use lib.Ieee.{Float, nan}
use borrow.Rule.Slice.PartMut.{put_mid}
use Rattle.loops.specs.Regions.{within}
use Rattle.loops.proofs.RegionLaws.{put_again}
use Rattle.distance.specs.Nearest.{squares_of}
use Rattle.setup.specs.Layout.{run, put_run}
use Rattle.setup.specs.Place.{cells_of}
use Rattle.setup.specs.Tables.{Tables}
use Rattle.setup.specs.declared.Setup.{Setup}
use Rattle.setup.proofs.LayoutLaws.{run-put, run_other}
use Rattle.setup.proofs.PartLaws.{part_is, part_long, run_long, back_is, put-run-long}
use Rattle.dilation.specs.declared.window.Window.{Window}
use Rattle.field.specs.Bands.{WantedIn, window_rows}
use Rattle.field.specs.Field.{Sensed, sensed, field_of}
use Rattle.field.specs.Gauge.{Sensing}
use Rattle.field.specs.Round.{Ready, rows_in, Rowed, round_of, Done}
use Rattle.field.specs.Squares.{Measured}
use Rattle.field.specs.declared.gauge.Gauge.{Gauge}
use Rattle.field.proofs.SweepLaws.{window_sweep}

-- ---- the rows, over parts

-- the part of n places from a on
abbrev piece : {A : Type 0} → ℕ → ℕ → List A → List A
piece a n w = take (a + n - a) (drop a w)

abbrev front : {A : Type 0} → ℕ → List A → List A
front n w = take (n - 0) (drop 0 w)

module _ (s : Setup) (b u : List ℕ) (w f : List Float) (h : Ready s b u w f) (n a d r : ℕ) (N : n ≡ cells_of s) (A : a ≡ 1 * n) (D : d ≡ 1 * n) (R : r ≡ 24 * n) where
  all-lent : (8 * n ≤ length b) × (32 * n + 8192 ≤ length u) × (2 * n ≤ length f) × (32 * n + 8192 ≤ length w)
  all-lent = let l = h.lent in (omega (arith, l.bytes), omega (arith, l.words), omega (arith, l.singles), omega (arith, l.doubles))

  rim-is : take (r + (8 * n + 8192) - r) (drop r w) ≡ within (24 * cells_of s) (24 * cells_of s + (8 * cells_of s + 8192)) w
  unfolding within
  rim-is =
      ap (λ (z : ℕ). take (z + (8 * n + 8192) - z) (drop z w)) (R ∙ ap (λ (z : ℕ). 24 * z) N)
      ∙ ap (λ (z : ℕ). take (24 * cells_of s + (8 * z + 8192) - 24 * cells_of s) (drop (24 * cells_of s) w)) N

  pub sensing_in : Sensing s (front n b) (piece a n b) (front n u) (piece d n u) (take (r + (8 * n + 8192) - r) (drop r w)) (length (front n f))
  sensing_in =
      let l = all-lent in
      record {
        over = record { sides = h.sides; long = omega (arith, part_long 0 n 0 n b (omega arith) (omega arith) (omega arith)) };
        allowed-long = omega (arith, part_long 1 n a (a + n) b A refl (omega arith));
        stock-long = omega (arith, part_long 0 n 0 n u (omega arith) (omega arith) (omega arith));
        near-long = omega (arith, part_long 1 n d (d + n) u D refl (omega arith));
        field-long = omega (arith, part_long 0 n 0 n f (omega arith) (omega arith) (omega arith));
        tables = subst (Tables s) (sym rim-is) h.tables;
      }

  pub rowed_is : (all : Bool) (x : Window) (t : List Float) (m : ℕ) → sensed t m ≡ window_rows s all (front n b) (piece a n b) (front n u) (piece d n u) x (sensed (front n f) 0)
      → Rowed s all x b u f m (put_mid 0 (n - 0) f t)
  unfolding rows_in
  rowed_is all x t m E =
      let l = all-lent in
      let e : sensed t m ≡ rows_in s all x b u f =
      E
      ∙ ap (λ (q : List ℕ). window_rows s all q (piece a n b) (front n u) (piece d n u) x (sensed (front n f) 0)) (part_is 0 n 0 n b (omega arith) (omega arith))
      ∙ ap (λ (q : List ℕ). window_rows s all (run 0 n b) q (front n u) (piece d n u) x (sensed (front n f) 0)) (part_is 1 n a (a + n) b A refl)
      ∙ ap (λ (q : List ℕ). window_rows s all (run 0 n b) (run 1 n b) q (piece d n u) x (sensed (front n f) 0)) (part_is 0 n 0 n u (omega arith) (omega arith))
      ∙ ap (λ (q : List ℕ). window_rows s all (run 0 n b) (run 1 n b) (run 0 n u) q x (sensed (front n f) 0)) (part_is 1 n d (d + n) u D refl)
      ∙ ap (λ (q : List Float). window_rows s all (run 0 n b) (run 1 n b) (run 0 n u) (run 1 n u) x (sensed q 0)) (part_is 0 n 0 n f (omega arith) (omega arith))
      ∙ ap (λ (k : ℕ). window_rows s all (run 0 k b) (run 1 k b) (run 0 k u) (run 1 k u) x (sensed (run 0 k f) 0)) N in
      record {
        sampled = ap (λ (q : Sensed). q.sampled) e;
        singles =
            back_is 0 n 0 n f t (omega arith) (omega arith) (omega arith)
            ∙ ap (λ (q : Sensed). put_run 0 n q.field f) e
            ∙ ap (λ (k : ℕ). put_run 0 k (rows_in s all x b u f).field f) N;
      }

-- ---- what the rows start from

module _ (n : ℕ) (f f' : List Float) (l : 2 * n ≤ length f) where
  abbrev Begun : Bool → Type 0
  Begun all = f' ≡ cond all (put_run 0 n (replicate n nan) f) f

  begun-long : (all : Bool) → Begun all → length f' ≡ length f
  begun-long true B = ap length B ∙ put-run-long 0 n f (replicate n nan) (omega arith) (length-replicate n nan)
  begun-long false B = ap length B

  begun-run : (all : Bool) → Begun all → run 0 n f' ≡ cond all (replicate (length (run 0 n f)) nan) (run 0 n f)
  begun-run true B =
      ap (run 0 n) B ∙ run-put n f (replicate n nan) (length-replicate n nan) 0 (omega arith) ∙ ap (λ (k : ℕ). replicate k nan) (sym (run_long 0 n f (omega arith)))
  begun-run false B = ap (run 0 n) B

  begun-over : (all : Bool) (x : List Float) → Begun all → put_run 0 n x f' ≡ put_run 0 n x f
  begun-over true x B =
      ap (put_run 0 n x) B
      ∙ put_again (0 * n) (0 * n + n) f x (replicate n nan) (record { start = omega arith; end = omega arith }) (length-replicate n nan ∙ (let z : n ≡ 0 * n + n - 0 * n = omega arith in z))
  begun-over false x B = ap (put_run 0 n x) B

-- ---- the round

module _ (s : Setup) (all : Bool) (b u : List ℕ) (w f : List Float) (h : Ready s b u w f) (x : Window) (W : WantedIn s all (run 4 (cells_of s) b) x) (u' : List ℕ) (M : Measured s all x b u u')
    (f' : List Float) (F : f' ≡ cond all (put_run 0 (cells_of s) (replicate (cells_of s) nan) f) f) (b' : List ℕ) (C : b' ≡ put_run 4 (cells_of s) (replicate (cells_of s) 0) b) where
  -- what the rows ask for
  ready_then : Ready s b' u' w f'
  ready_then =
      let l = h.lent in
      let y : length b' ≡ length b = ap length C ∙ put-run-long 4 (cells_of s) b (replicate (cells_of s) 0) (omega (arith, l.bytes)) (length-replicate (cells_of s) 0) in
      let z = begun-long (cells_of s) f f' l.singles all F in
      record {
        sides = h.sides;
        lent = record { bytes = omega (arith, l.bytes); words = omega (arith, l.words, M.words.long); singles = omega (arith, l.singles); doubles = l.doubles };
        tables = h.tables;
      }

  other : (j : ℕ) → j < 4 → run j (cells_of s) b' ≡ run j (cells_of s) b
  other j d = ap (run j (cells_of s)) C ∙ run_other (cells_of s) b (replicate (cells_of s) 0) (length-replicate (cells_of s) 0) 4 j (omega (arith, h.lent.bytes)) (λ e. omega arith)

  same_rows : rows_in s all x b' u' f' ≡ round_of s all b f
  unfolding rows_in round_of field_of
  same_rows =
      let n = cells_of s in
      let nx = s.grid.nx in
      let ny = s.grid.ny in
      ap (λ (m : List ℕ). window_rows s all m (run 1 n b') (run 0 n u') (run 1 n u') x (sensed (run 0 n f') 0)) (other 0 (omega arith))
      ∙ ap (λ (m : List ℕ). window_rows s all (run 0 n b) m (run 0 n u') (run 1 n u') x (sensed (run 0 n f') 0)) (other 1 (omega arith))
      ∙ ap (λ (m : List Float). window_rows s all (run 0 n b) (run 1 n b) (run 0 n u') (run 1 n u') x (sensed m 0)) (begun-run n f f' h.lent.singles all F)
      ∙ window_sweep s all (run 0 n b) (run 1 n b) (run 0 n u') (run 1 n u') (squares_of 1 (run 0 n b) nx ny) (squares_of 1 (run 4 n b) nx ny) x _ M.value M.wanted (W.outside (run 1 n b))

  done-is : (r : ℕ) (f'' : List Float) → Rowed s all x b' u' f' r f'' → Done s all b u f r b' u' f''
  done-is r f'' R =
      let e = same_rows in
      record {
        sampled = R.sampled ∙ ap (λ (q : Sensed). q.sampled) e;
        singles = R.singles ∙ ap (λ (q : Sensed). put_run 0 (cells_of s) q.field f') e ∙ begun-over (cells_of s) f f' h.lent.singles all (round_of s all b f).field F;
        bytes = C;
        words = M.words;
      }

-- the same, of what the round fixed
module _ (g : Gauge) (s : Setup) (all : Bool) (S : g.setup ≡ s) (A : g.all ≡ all) (b u : List ℕ) (w f : List Float) (h : Ready s b u w f) where
  by_gauge : (P : Setup → Bool → Type 0) → P g.setup g.all → P s all
  by_gauge P p = subst (λ (q : Bool). P s q) A (subst (λ (q : Setup). P q g.all) S p)

  pub gauge_ready : Ready g.setup b u w f
  gauge_ready = subst (λ (q : Setup). Ready q b u w f) (sym S) h

  module _ (x : Window) (W : WantedIn g.setup g.all (run 4 (cells_of g.setup) b) x) (u' : List ℕ) (M : Measured g.setup g.all x b u u')
      (f' : List Float) (F : f' ≡ cond all (put_run 0 (cells_of s) (replicate (cells_of s) nan) f) f) (b' : List ℕ) (C : b' ≡ put_run 4 (cells_of s) (replicate (cells_of s) 0) b) where
    wanted_now : WantedIn s all (run 4 (cells_of s) b) x
    wanted_now = by_gauge (λ q a. WantedIn q a (run 4 (cells_of q) b) x) W

    measured_now : Measured s all x b u u'
    measured_now = by_gauge (λ q a. Measured q a x b u u') M

    pub rows-ask : Ready g.setup b' u' w f'
    rows-ask = subst (λ (q : Setup). Ready q b' u' w f') (sym S) (ready_then s all b u w f h x wanted_now u' measured_now f' F b' C)

    pub done_by : (r : ℕ) (f'' : List Float) → Rowed g.setup g.all x b' u' f' r f'' → Done s all b u f r b' u' f''
    done_by r f'' R = done-is s all b u w f h x wanted_now u' measured_now f' F b' C r f'' (by_gauge (λ q a. Rowed q a x b' u' f' r f'') R)
