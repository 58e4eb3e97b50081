-- What a line does, and that it leaves the bench fit for the next. Assumes nothing.
use mathlib.Core.Path.{◌≡◌, refl, sym, ap, ◌∙◌, subst}
use mathlib.Core.Bool.{Bool, cond}
use mathlib.Core.List.{List, [], ◌∷◌, ◌++◌, append-nil}
use Prim.Native.Nat.{ℕ, zero, suc, ◌+◌, ◌-◌, ◌*◌, ◌≤◌, ◌<◌}
use native.Mathlib.Omega.{arith}
use Rattle.std.specs.Prelude.{Option, Some, None, IfSome}
use Rattle.std.specs.Option.{option_map_or}
use native.Mathlib.Nat.{mul-le-mul_right}
use lib.ListN.{length, length-set, take, drop, replicate, length-append, length-drop, length-replicate, drop_of_length-le}
use lib.Seq.{length-take-le, take_at}
use borrow.Rule.Slice.PartMut.{put_mid, Post-is, mid_len}
use Rattle.std.proofs.lemmas.List.{set-append_right}
use lib.Dec.{ltb}
use lib.Ieee.{Float}
use borrow.Author.Tests.{lt-ltb, le-ltb}
use Rattle.loops.specs.Loop.{loop, turns}
use Rattle.loops.specs.Cells.{ones}
use Rattle.loops.proofs.LoopLaws.{loop_keeps, loop_split}
use Rattle.loops.proofs.FillLaws.{filled_more, filled-end}
use Rattle.geom.specs.declared.vec2.Vec2.{Vec2}
use Rattle.raster.specs.Grid.{Over}
use Rattle.raster.specs.Log.{st, Ready, Logged, undone, passes}
use Rattle.raster.proofs.LogLaws.{undone-long}
use Rattle.raster.proofs.RunLaws.{ready_for, kept-passes, logged-run}
use Rattle.bench_lines.specs.Line.{Few, Sound}
use Rattle.bench_lines.specs.Obey.{Out, out, Lent, Fit, bench, no_map, done, grid_for, fill_cell, filled, mapped, cut, restored, refused, obeyed}
use Rattle.bench_lines.specs.declared.line.Line.{Line}
use Rattle.bench_lines.specs.declared.line.Line.TheVariants.{Map, Pass, Undo}
use Rattle.bench_lines.specs.declared.obey.Bench.{Bench}
use Rattle.bench_lines.specs.declared.line.Sides.{Sides}
use Rattle.bench_lines.specs.declared.obey.Answer.TheVariants.{Restored}

-- ---- the grid

pub few : (s : Sides) → Few s → s.ny * s.nx ≤ 4096
few s h = omega (arith, mul-le-mul_right s.nx h.rows.most, h.columns.most)

pub ready_lent : (m l : List ℕ) → Lent m l → Ready (st m l 0)
ready_lent m l g = ready_for m l g.room g.small

pub over_lent : (s : Sides) (m l : List ℕ) → Few s → Lent m l → Over (grid_for s) (length m)
over_lent s m l h g = record {
  sides = record {
    wide = h.columns.some;
    high = h.rows.some;
    columns = omega (arith, h.columns.most);
    rows = omega (arith, h.rows.most);
    cells = omega (arith, few s h);
  };
  long = omega (arith, few s h, g.long);
}

-- of a bench that has a map
pub over_fit : (b : Bench) (s : Sides) (m l : List ℕ) → Fit b m l → b.sides ≡ Some s → Over (grid_for s) (length m)
over_fit b s m l f e = over_lent s m l (subst (λ (o : Option Sides). IfSome o Few) e f.sides) f.lent

-- before the first line
pub fit_start : (m l : List ℕ) → length m ≡ 4096 → length l ≡ 4096 → Fit no_map m l
fit_start m l h k = record {
  sides = tt;
  lent = record { long = omega arith; room = omega arith; small = omega arith };
  logged = tt;
}

-- ---- a map

pub fill_in : (n k : ℕ) (m : List ℕ) → k < n → lib.ListN.set m k 1 ≡ fill_cell n k m
fill_in n k m h = ap (λ (t : Bool). lib.ListN.set m k (cond t 1 0)) (sym (lt-ltb k n h))

pub fill_out : (n k : ℕ) (m : List ℕ) → n ≤ k → lib.ListN.set m k 0 ≡ fill_cell n k m
fill_out n k m h = ap (λ (t : Bool). lib.ListN.set m k (cond t 1 0)) (sym (le-ltb k n h))

pub fill_long : (n e : ℕ) (m : List ℕ) → length (loop (fill_cell n) 0 e m) ≡ length m
fill_long n e m = loop_keeps (fill_cell n) 0 (λ (r : List ℕ). length r ≡ length m) e (λ i r b c h. length-set r i (cond (ltb i n) 1 0) ∙ h) m refl

pub filled-long : (n : ℕ) (m : List ℕ) → length (filled n m) ≡ length m
unfolding filled
filled-long n m = fill_long n (length m) m

-- the cells up to n, one by one
stock_turns : (n : ℕ) (m : List ℕ) (k : ℕ) → k ≤ n → k ≤ length m → turns (fill_cell n) 0 k m ≡ replicate k 1 ++ drop k m
unfolding turns
stock_turns n m zero h b = refl
stock_turns n m (suc k) h b =
    ap (λ (i : ℕ). fill_cell n i (turns (fill_cell n) 0 k m)) (let e : 0 + k ≡ k = omega arith in e)
    ∙ ap (fill_cell n k) (stock_turns n m k (omega arith) (omega arith))
    ∙ sym (fill_in n k _ (omega arith))
    ∙ filled_more 1 m k (omega arith)
    ∙ ap (λ (i : ℕ). replicate i 1 ++ drop i m) (let e : k + 1 ≡ suc k = omega arith in e)

-- and those behind
bare_turns : (n : ℕ) (f d : List ℕ) → length f ≡ n → (k : ℕ) → k ≤ length d → turns (fill_cell n) n k (f ++ d) ≡ f ++ (replicate k 0 ++ drop k d)
unfolding turns
bare_turns n f d e zero b = refl
bare_turns n f d e (suc k) b =
    ap (fill_cell n (n + k)) (bare_turns n f d e k (omega arith))
    ∙ sym (fill_out n (n + k) _ (omega arith))
    ∙ set-append_right f (replicate k 0 ++ drop k d) n (n + k) 0 e (omega arith)
    ∙ ap (λ (i : ℕ). f ++ lib.ListN.set (replicate k 0 ++ drop k d) i 0) (let z : n + k - n ≡ k = omega arith in z)
    ∙ ap (λ (l : List ℕ). f ++ l) (filled_more 0 d k (omega arith))
    ∙ ap (λ (i : ℕ). f ++ (replicate i 0 ++ drop i d)) (let z : k + 1 ≡ suc k = omega arith in z)

filled-is : (n : ℕ) (m : List ℕ) → n ≤ length m → filled n m ≡ replicate n 1 ++ replicate (length m - n) 0
unfolding filled loop
filled-is n m h =
    loop_split (fill_cell n) 0 n (length m) m (omega arith) h
    ∙ ap (λ (k : ℕ). turns (fill_cell n) n (length m - n) (turns (fill_cell n) 0 k m)) (let e : n - 0 ≡ n = omega arith in e)
    ∙ ap (turns (fill_cell n) n (length m - n)) (stock_turns n m n (omega arith) h)
    ∙ bare_turns n (replicate n 1) (drop n m) (length-replicate n 1) (length m - n) (omega (arith, length-drop n m))
    ∙ ap (λ (l : List ℕ). replicate n 1 ++ l) (filled-end 0 (drop n m) (length m - n) (sym (length-drop n m)))
    ∙ ap (λ (k : ℕ). replicate n 1 ++ replicate k 0) (length-drop n m)

-- the first n cells were filled, t, and then those behind, r
pub both_filled : (n : ℕ) (m t r : List ℕ) → n ≤ length m → t ≡ replicate (length (take n m)) 1
    → r ≡ replicate (length (take (length (t ++ drop n m) - n) (drop n (t ++ drop n m)))) 0
    → put_mid n (length (t ++ drop n m) - n) (t ++ drop n m) r ≡ filled n m
both_filled n m t r h T R =
    ap (λ (q : List ℕ). take n l ++ (r ++ q)) (Post-is n (length l) l low ∙ drop_of_length-le l (let z : length l ≤ length l = omega arith in z))
    ∙ ap (λ (q : List ℕ). take n l ++ q) (append-nil r ∙ R ∙ ap (λ (k : ℕ). replicate k 0) (mid_len n (length l) l (omega arith) ∙ (let z : length l - n ≡ length m - n = omega (arith, long) in z)))
    ∙ ap (λ (q : List ℕ). q ++ replicate (length m - n) 0) (take_at t (drop n m) n count ∙ T ∙ ap (λ (k : ℕ). replicate k 1) (length-take-le n m h))
    ∙ sym (filled-is n m h)
  where
    l : List ℕ
    l = t ++ drop n m

    count : length t ≡ n
    count = ap length T ∙ length-replicate (length (take n m)) 1 ∙ length-take-le n m h

    long : length l ≡ length m
    long = omega (arith, length-append t (drop n m), length-drop n m, count, h)

    low : n ≤ length l
    low = omega (arith, long, h)

-- ---- an undo

pub undo_is : (b : Bench) (n : ℕ) (m l m' : List ℕ) (s : ℕ) → m' ≡ undone l 0 n m → s ≡ ones m'
    → out (done (bench b.sides None) (Some (Restored s))) m' l ≡ restored b n m l
unfolding restored
undo_is b n m l m' s e h =
    ap (λ (k : ℕ). out (done (bench b.sides None) (Some (Restored k))) m' l) h
    ∙ ap (λ (t : List ℕ). out (done (bench b.sides None) (Some (Restored (ones t)))) t l) e

-- ---- what holds between lines, each line keeps

pub FitOut : Out → Type 0
FitOut o = Fit o.done.bench o.cells o.log

fit_map : (s : Sides) (m l : List ℕ) → Few s → Lent m l → FitOut (mapped s m l)
unfolding mapped FitOut
fit_map s m l h f = record {
  sides = h;
  lent = record {
    long = omega (arith, filled-long (s.ny * s.nx) m, f.long);
    room = omega (arith, filled-long (s.ny * s.nx) m, f.room);
    small = omega (arith, filled-long (s.ny * s.nx) m, f.small);
  };
  logged = tt;
}

fit_pass : (s : Sides) (from to : Vec2) (r : Float) (m l : List ℕ) → Few s → Lent m l → FitOut (cut s from to r m l)
unfolding cut FitOut passes
fit_pass s from to r m l h f =
    let g = grid_for s in
    let kept = kept-passes (st m l 0) (ready_lent m l f) g (record { from = from; to = to; radius = r } ∷ []) in
    record {
      sides = h;
      lent = record {
        long = omega (arith, kept.cells-long, f.long);
        room = omega (arith, kept.cells-long, kept.log-long, f.room);
        small = omega (arith, kept.cells-long, f.small);
      };
      logged = logged-run m l (ready_lent m l f) g (record { from = from; to = to; radius = r } ∷ []);
    }

fit_undo : (b : Bench) (n : ℕ) (m l : List ℕ) → Fit b m l → FitOut (restored b n m l)
unfolding restored FitOut undone
fit_undo b n m l f =
    let e = undone-long l 0 n m in
    record {
      sides = f.sides;
      lent = record {
        long = omega (arith, e, f.lent.long);
        room = omega (arith, e, f.lent.room);
        small = omega (arith, e, f.lent.small);
      };
      logged = tt;
    }

fit_refused : (b : Bench) (m l : List ℕ) → Fit b m l → FitOut (out (refused b) m l)
unfolding FitOut
fit_refused b m l f = f

-- what holds of both, holds of an answer by what there may be
fit_if : {T : Type 0} (P : T → Type 0) (f : T → Out) (o : Option T) (d : Out) → ((x : T) → P x → FitOut (f x)) → IfSome o P → FitOut d → FitOut (option_map_or f o d)
fit_if P f (Some x) d h p q = h x p
fit_if P f None d h p q = q

pub fit_obeyed : (b : Bench) (line : Option Line) (m l : List ℕ) → Fit b m l → IfSome line Sound → FitOut (obeyed b line m l)
unfolding obeyed
fit_obeyed b (Some (Map s)) m l f h = fit_map s m l h f.lent
fit_obeyed b (Some (Pass x y z w r)) m l f h = fit_if Few _ b.sides _ (λ s k. fit_pass s _ _ _ m l k f.lent) f.sides (fit_refused b m l f)
fit_obeyed b (Some Undo) m l f h = fit_if (λ (n : ℕ). Logged l n (length m)) _ b.pass _ (λ n k. fit_undo b n m l f) f.logged (fit_refused b m l f)
fit_obeyed b None m l f h = fit_refused b m l f

pub fit_next : (b : Bench) (line : Option Line) (m l : List ℕ) (o : Out) → Fit b m l → IfSome line Sound → o ≡ obeyed b line m l → Fit o.done.bench o.cells o.log
unfolding FitOut
fit_next b line m l o f h e = subst FitOut (sym e) (fit_obeyed b line m l f h)
