-- A round that is traced, from what its steps left in the workspace. Assumes nothing.
use mathlib.Core.Path.{◌≡◌, refl, sym, ap, ◌∙◌, subst}
use mathlib.Core.Bool.{Bool}
use mathlib.Core.List.{List, map}
use Prim.Native.Nat.{ℕ, ◌+◌, ◌-◌, ◌*◌, ◌≤◌, ◌<◌, max}
use native.Mathlib.Omega.{arith}
use native.Mathlib.Nat.{mul-le-mul_right}
use lib.ListN.{length, take, drop, replicate, length-replicate}
use lib.Ieee.{Float}
use Rattle.loops.specs.Regions.{Fits}
use Rattle.loops.specs.Frame.{Only}
use Rattle.loops.proofs.LoopLaws.{loop-end}
use Rattle.loops.proofs.FrameLaws.{only_more, only-before, only-after, only_wider}
use Rattle.raster.specs.Contact.{samples_of}
use Rattle.raster.specs.Grid.{Sides}
use Rattle.setup.specs.Layout.{most, run, log_in, field_put, rows_from, log_from, traced_from, guide_from}
use Rattle.setup.specs.Place.{cells_of}
use Rattle.setup.specs.declared.Setup.{Setup}
use Rattle.setup.proofs.LayoutLaws.{run-put, run_other}
use Rattle.setup.proofs.PartLaws.{part_is, run_long, put-run-long}
use Rattle.field.specs.Field.{Sensed, field_row, field_rows, field_of}
use Rattle.field.specs.Round.{Ready, Done, round_of}
use Rattle.field.proofs.FieldLaws.{Swept, rows_run, field-length}
use Rattle.pieces.specs.Piece.{Piece, Laid}
use Rattle.contours.specs.Curve.{contours_of}
use Rattle.smoothing.specs.Smooth.{smoothed}
use Rattle.workspace.specs.Standing.{WallsKept}
use Rattle.workspace.specs.Lies.{rows_in, traced_in, pieces_in, Lying, Lies}
use Rattle.tracing.specs.Curves.{Room, Laying, Beside}
use Rattle.tracing.specs.Round.{sensed_of, sensed_in, level_of, curves_of, work_of, TracedRound}
use Rattle.tracing.specs.declared.round.Traced.{Traced}

-- ---- the field

module _ (s : Setup) (all : Bool) (b u : List ℕ) (w f : List Float) (h : Ready s b u w f) where
  -- the round's field is the one that is sensed
  round-sensed : round_of s all b f ≡ sensed_in s all b f
  unfolding round_of sensed_of
  round-sensed = refl

  field-long : length (sensed_in s all b f).field ≡ cells_of s
  unfolding sensed_of
  field-long = field-length s all _ _ _ _ (run 0 (cells_of s) f) ∙ run_long 0 (cells_of s) f (omega (arith, h.lent.singles))

  -- no more cells are sampled than there are
  swept_few : (m allowed stock near : List ℕ) (t : Sensed) → t.sampled ≡ 0 → (field_rows s all m allowed stock near t).sampled ≤ cells_of s
  unfolding field_rows
  swept_few m allowed stock near t z =
      let k = max 1 (s.grid.ny - 1) in
      let e = loop-end (field_row s all m allowed stock near) 1 k (s.grid.ny - 1) t (omega arith) (omega arith) (omega arith) in
      let q = subst (Swept (length t.field) (k * s.grid.nx)) e (rows_run s all m allowed stock near (length t.field) 1 k t h.sides.wide (omega arith) (record { long = refl; few = omega arith })) in
      omega (arith, q.few, mul-le-mul_right s.grid.nx (let y : k ≤ s.grid.ny = omega (arith, h.sides.high) in y))

  sampled-few : (sensed_in s all b f).sampled ≤ cells_of s
  unfolding sensed_of field_of
  sampled-few = swept_few _ _ _ _ _ refl

  samples-few : s.samples ≤ 2048
  unfolding samples_of
  samples-few = omega (arith, h.tables.rims.entered.few)

  -- the work fits a machine word
  pub work-fits : (r : ℕ) → r ≡ (round_of s all b f).sampled → r * s.samples ≤ 2147483648
  work-fits r e =
      let few : r ≤ 1048576 = omega (arith, e, ap (λ (q : Sensed). q.sampled) round-sensed, sampled-few, h.sides.cells) in
      omega (arith, mul-le-mul_right s.samples few, samples-few)

-- ---- its curves

module _ (s : Setup) (b u : List ℕ) (w : List Float) (S : Sides s.grid) (R : Room (cells_of s) b u w) (l : List Piece) (m pts : ℕ) (b₁ u₁ : List ℕ) (w₁ : List Float)
    (L : Laying (cells_of s) l m pts u₁ w₁) (B : Beside (cells_of s) b u w b₁ u₁ w₁) (n : ℕ) (N : n ≡ cells_of s) where
  -- what smoothing asks for
  pub smooth_asks : (n ≤ most) × ((32 * n + 8192 ≤ length u₁) × ((32 * n + 8192 ≤ length w₁) × (Lying n m u₁ × Laid m (rows_in n u₁) (traced_in n w₁))))
  smooth_asks = (
    omega (arith, S.cells),
    (
      omega (arith, R.words, B.words.long),
      (
        omega (arith, R.doubles, B.doubles.long),
        (subst (λ (k : ℕ). Lying k m u₁) (sym N) L.lies.lying, subst (λ (k : ℕ). Laid m (rows_in k u₁) (traced_in k w₁)) (sym N) L.laid),
      ),
    ),
  )

  module _ (cell : Float) (u₂ : List ℕ) (w₂ : List Float) (U : Only (rows_from n) (log_from n) u₁ u₂) (W : Only (traced_from n) (guide_from n) w₁ w₂) where
    words_fit : Fits (15 * cells_of s) (24 * cells_of s) u
    words_fit = record { start = omega arith; end = omega (arith, R.words) }

    doubles_fit : Fits (1 * cells_of s) (5 * cells_of s) w
    doubles_fit = record { start = omega arith; end = omega (arith, R.doubles) }

    pub curves_beside : Beside (cells_of s) b u w b₁ u₂ w₂
    curves_beside = record {
      bytes = B.bytes;
      words =
          only_more (15 * cells_of s) (24 * cells_of s) u words_fit u₁ B.words u₂
          (only_wider (21 * n) (24 * n) u₁ u₂ (record { start = omega arith; end = omega (arith, R.words, B.words.long) }) U (15 * cells_of s) (24 * cells_of s) (omega arith) (omega arith) (omega (arith, R.words, B.words.long)));
      doubles =
          only_more (1 * cells_of s) (5 * cells_of s) w doubles_fit w₁ B.doubles w₂ (subst (λ (k : ℕ). Only (1 * k) (5 * k) w₁ w₂) N W);
    }

    pub curves_lie : Lies n (map (smoothed cell) (pieces_in n m u₁ w₁)) m u₂ w₂ → Lies (cells_of s) (map (smoothed cell) l) m u₂ w₂
    curves_lie h =
        let x = subst (λ (k : ℕ). Lies k (map (smoothed cell) (pieces_in k m u₁ w₁)) m u₂ w₂) N h in
        record { lying = x.lying; is = x.is ∙ ap (map (smoothed cell)) L.lies.is }

-- the field's part and the level, by their names
pub curves_are : (s : Setup) (f : List Float) (n : ℕ) (level cell : Float) → n ≡ cells_of s → level ≡ level_of s → cell ≡ s.grid.cell
    → map (smoothed cell) (contours_of s.grid (take (n - 0) (drop 0 f)) level) ≡ curves_of s (run 0 (cells_of s) f)
unfolding curves_of
curves_are s f n level cell N L C =
    ap (λ (c : Float). map (smoothed c) (contours_of s.grid (take (n - 0) (drop 0 f)) level)) C
    ∙ ap (λ (q : List Float). map (smoothed s.grid.cell) (contours_of s.grid q level)) (part_is 0 n 0 n f (omega arith) (omega arith) ∙ ap (λ (k : ℕ). run 0 k f) N)
    ∙ ap (λ (q : Float). map (smoothed s.grid.cell) (contours_of s.grid (run 0 (cells_of s) f) q)) L

-- ---- what a step that traces leaves of the bytes, the u32 and the f64

module _ (n : ℕ) (b u : List ℕ) (w : List Float) (R : Room n b u w) (b' u' : List ℕ) (w' : List Float) (B : Beside n b u w b' u' w') where
  pub beside_run : (j : ℕ) → j < 6 → run j n b' ≡ run j n b
  beside_run j l =
      only-before (6 * n) (8 * n) b (record { start = omega arith; end = R.bytes }) b' B.bytes (j * n) (j * n + n) (omega arith)
      (omega (arith, mul-le-mul_right n (let z : j ≤ 5 = omega arith in z)))

  pub beside_log : log_in n u' ≡ log_in n u
  beside_log = only-after (15 * n) (24 * n) u (record { start = omega arith; end = omega (arith, R.words) }) u' B.words (24 * n) (24 * n + n) (omega arith)

  pub beside_walls : WallsKept n w w'
  beside_walls = only_wider (1 * n) (5 * n) w w' (record { start = omega arith; end = omega (arith, R.doubles) }) B.doubles (1 * n) (24 * n) (omega arith) (omega arith) (omega (arith, R.doubles))

-- ---- the round

module _ (s : Setup) (all : Bool) (b u : List ℕ) (f w : List Float) (h : Ready s b u w f) (r : ℕ) (b₁ u₁ : List ℕ) (f₁ : List Float) (D : Done s all b u f r b₁ u₁ f₁) where
  singles : f₁ ≡ field_put (cells_of s) (sensed_in s all b f).field f
  singles = D.singles ∙ ap (λ (q : Sensed). field_put (cells_of s) q.field f) (round-sensed s all b u w f h)

  -- the squares lie before the log
  log-kept : log_in (cells_of s) u₁ ≡ log_in (cells_of s) u
  log-kept = only-after (0 * cells_of s) (5 * cells_of s) u (record { start = omega arith; end = omega (arith, h.lent.words) }) u₁ D.words (24 * cells_of s) (24 * cells_of s + cells_of s) (omega arith)

  zeroed : length {A = ℕ} (replicate (cells_of s) 0) ≡ cells_of s
  zeroed = length-replicate (cells_of s) 0

  fits-dirty : 4 * cells_of s + cells_of s ≤ length b
  fits-dirty = omega (arith, h.lent.bytes)

  bytes-long : length b₁ ≡ length b
  bytes-long = ap length D.bytes ∙ put-run-long 4 (cells_of s) b (replicate (cells_of s) 0) fits-dirty zeroed

  -- what the curves' step asks for
  pub round_room : Room (cells_of s) b₁ u₁ w
  round_room = record { bytes = omega (arith, h.lent.bytes, bytes-long); words = omega (arith, h.lent.words, D.words.long); doubles = h.lent.doubles }

  other : (j : ℕ) → (j ≡ 4 → ⊥) → run j (cells_of s) b₁ ≡ run j (cells_of s) b
  other j d = ap (run j (cells_of s)) D.bytes ∙ run_other (cells_of s) b (replicate (cells_of s) 0) zeroed 4 j fits-dirty d

  field_now_lem : run 0 (cells_of s) f₁ ≡ (sensed_in s all b f).field
  field_now_lem = ap (run 0 (cells_of s)) singles ∙ run-put (cells_of s) f (sensed_in s all b f).field (field-long s all b u w f h) 0 (omega (arith, h.lent.singles))

  field_size : length f₁ ≡ length f
  field_size = ap length singles ∙ put-run-long 0 (cells_of s) f (sensed_in s all b f).field (omega (arith, h.lent.singles)) (field-long s all b u w f h)

  pub round_traced : (m : ℕ) (b₂ u₂ : List ℕ) (w₂ : List Float) → Lies (cells_of s) (curves_of s (run 0 (cells_of s) f₁)) m u₂ w₂ → Beside (cells_of s) b₁ u₁ w b₂ u₂ w₂
      → (t : Traced) → t.pieces ≡ m → t.work ≡ r * s.samples → TracedRound s all b u f w t b₂ u₂ f₁ w₂
  unfolding work_of
  round_traced m b₂ u₂ w₂ L B t P W =
      let R = round_room in
      let n = cells_of s in
      let same : (j : ℕ) → j < 4 → run j n b₂ ≡ run j n b = λ j l. beside_run n b₁ u₁ w R b₂ u₂ w₂ B j (omega arith) ∙ other j (λ e. omega arith) in
      record {
        lies = subst (λ (k : ℕ). Lies n (curves_of s (sensed_in s all b f).field) k u₂ w₂) (sym P) (subst (λ (q : List Float). Lies n (curves_of s q) m u₂ w₂) field_now_lem L);
        work = W ∙ ap (λ (k : ℕ). k * s.samples) (D.sampled ∙ ap (λ (q : Sensed). q.sampled) (round-sensed s all b u w f h));
        field = field_now_lem;
        map = same 0 (omega arith);
        dirty = beside_run n b₁ u₁ w R b₂ u₂ w₂ B 4 (omega arith) ∙ ap (run 4 n) D.bytes ∙ run-put n b (replicate n 0) zeroed 4 fits-dirty;
        abandoned = same 3 (omega arith);
        cells = record { long = B.bytes.long ∙ bytes-long; allowed = same 1 (omega arith); reach = same 2 (omega arith) };
        log =
            beside_log n b₁ u₁ w R b₂ u₂ w₂ B ∙ log-kept;
        words_long = B.words.long ∙ D.words.long;
        singles-long = field_size;
        walls = beside_walls n b₁ u₁ w R b₂ u₂ w₂ B;
      }
