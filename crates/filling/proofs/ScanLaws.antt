-- The columns of a loop, pair of crossings by pair. Assumes nothing.
use Rattle.std.specs.Prelude.{Option, None, Some, IfSome}
use mathlib.Core.Path.{◌≡◌, sym, ap, ◌∙◌}
use mathlib.Core.Bool.{Bool, true, false, ◌||◌}
use mathlib.Core.List.{List}
use Prim.Native.Nat.{ℕ, ◌≤◌, ◌<◌}
use native.Mathlib.Omega.{arith}
use lib.ListN.{length, get_or}
use lib.Dec.{eqb, ltb}
use lib.Ieee.{Float, nan}
use borrow.Author.Tests.{ltb-false}
use Rattle.loops.specs.Loop.{loop}
use Rattle.loops.proofs.Cases.{neither}
use Rattle.loops.proofs.LoopLaws.{loop_split}
use Rattle.geom.specs.Vec.{v2}
use Rattle.geom.specs.Region.{edge_at, point_in_loop}
use Rattle.filling.specs.declared.crossings.Pair.{Pair}
use Rattle.filling.specs.Columns.{left_from, crosses, NextCrossing, in_run, turned_if, Paired, Shows, nowhere, Runs, Turned, Blank, in_loop}
use Rattle.filling.proofs.ColumnLaws.{run_none, turned-no}
use Rattle.filling.proofs.CrossingLaws.{idle-edges}

left-high : (n : ℕ) (next : Option ℕ) → IfSome next (λ (i : ℕ). i < n) → left_from n next ≤ n
left-high n None h = omega arith
left-high n (Some i) h = omega arith

module _ (xs vs : List Float) (at n : ℕ) (y : Float) where
  -- the answer of column c after the edges before i
  abbrev pub edges_to : ℕ → ℕ → Bool
  edges_to c i = loop (edge_at vs at n (v2 (get_or xs c nan) y)) 0 i false

  -- the bytes, turned round from a on below b, tell the answers so far; edge i crosses the row, if there is one; without `many` no byte is 1
  pub record Scanned (a b : ℕ) (many : Bool) (row : List ℕ) (i : ℕ) : Type 0 where
    pub run : a ≤ b
    pub most : b ≤ length xs
    pub high : i ≤ n
    pub long : length xs ≤ length row
    pub cross : i < n → crosses vs at n y i ≡ true
    pub is : (c : ℕ) → c < length xs → turned_if (in_run a b c) (eqb (get_or row c 0) 1) ≡ edges_to c i
    pub none : many ≡ false → Shows (length xs) nowhere row

  pub scan_none : (row : List ℕ) (e : ℕ) → Blank (length xs) row → NextCrossing vs at n y 0 e → Scanned 0 0 false row e
  scan_none row e w h = record {
    run = omega arith;
    most = omega arith;
    high = h.high;
    long = w.long;
    cross = h.cross;
    is = λ c k. rw (run_none 0 c) (w.shows.at c k ∙ sym (idle-edges vs at n y (get_or xs c nan) 0 e h.idle false));
    none = λ m. w.shows;
  }

  module _ (a b : ℕ) (many : Bool) (row : List ℕ) (i : ℕ) (s : Scanned a b many row i) (row' : List ℕ) (t : Turned a b row row') where
    -- the bytes alone tell them then
    told : (c : ℕ) → c < length xs → eqb (get_or row' c 0) 1 ≡ edges_to c i
    told c k = t.at c (omega (arith, s.long)) ∙ s.is c k

    pub scan_more : (p : Pair) → Paired xs vs at n y i p → Scanned p.a p.b (many || ltb a b) row' (left_from n p.next)
    scan_more p q = record {
      run = q.run;
      most = q.most;
      high = left-high n p.next q.next-on;
      long = omega (arith, s.long, t.long);
      cross = q.cross;
      is = λ c k.
          ap (turned_if (in_run p.a p.b c)) (told c k) ∙ sym (q.is c (edges_to c i) k)
          ∙ sym (loop_split (edge_at vs at n (v2 (get_or xs c nan) y)) 0 i (left_from n p.next) false (omega arith) (omega (arith, q.on)));
      none = λ m.
          let z = neither many (ltb a b) m in
          let e : a ≡ b = omega (arith, s.run, ltb-false a b z.1) in
          record { at = λ c k. t.at c (omega (arith, s.long)) ∙ rw (← e, run_none a c) ((s.none z.0).at c k) };
    }

    pub scan_many : n ≤ i → Shows (length xs) (in_loop xs vs at n y) row'
    unfolding point_in_loop
    scan_many h = record { at = λ c k. told c k ∙ ap (edges_to c) (let z : i ≡ n = omega (arith, s.high) in z) }

  pub scan_run : (a b : ℕ) (many : Bool) (row : List ℕ) (i : ℕ) → Scanned a b many row i → n ≤ i → many ≡ false → Runs (length xs) (in_loop xs vs at n y) a b × Shows (length xs) nowhere row
  unfolding point_in_loop
  scan_run a b many row i s h m = (
    record {
      run = s.run;
      most = s.most;
      at = λ c k.
          ap (edges_to c) (let z : n ≡ i = omega (arith, s.high) in z) ∙ sym (s.is c k)
          ∙ ap (turned_if (in_run a b c)) ((s.none m).at c k) ∙ turned-no (in_run a b c);
    },
    s.none m,
  )
