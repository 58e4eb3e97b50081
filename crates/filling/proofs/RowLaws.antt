-- The columns of a row covered, and set. Assumes nothing.
use mathlib.Core.Path.{◌≡◌, refl, sym, ap, ◌∙◌, subst}
use mathlib.Core.Bool.{Bool, true≢false, true, false, not, cond, ◌&&◌, ◌||◌, beq, and-true, or_comm}
use mathlib.Core.List.{List}
use Prim.Native.Nat.{ℕ, zero, suc, ◌+◌, ◌-◌, ◌*◌, ◌≤◌, ◌<◌}
use native.Mathlib.Omega.{arith}
use lib.ListN.{length, get_or, set, replicate, length-set, length-replicate, get_or-replicate}
use lib.Seq.{get_or-set_same, get_or-set_other}
use lib.Dec.{eqb, ltb}
use lib.Ieee.{Float, nan}
use borrow.Author.Tests.{ltb-false, eqb-true, eqb-false}
use Rattle.loops.specs.Loop.{turns, loop, or_at, any}
use Rattle.loops.proofs.Cases.{by_cases, neither}
use Rattle.loops.proofs.LoopLaws.{loop-none, loop_more, loop_keeps, loop_split, loop_both}
use Rattle.geom.specs.Vec.{v2, sum}
use Rattle.geom.specs.Region.{inside_loop, in_island, contains_of}
use Rattle.geom.specs.declared.vec2.Vec2.{Vec2}
use Rattle.geom.specs.declared.region.Region.{Region}
use Rattle.geom.proofs.RegionLaws.{inside-first}
use Rattle.raster.specs.Grid.{center_of}
use Rattle.raster.specs.Disk.{row_y}
use Rattle.raster.specs.declared.grid.Grid.{Grid}
use Rattle.filling.specs.Fill.{fill_cell, fill_row}
use Rattle.filling.specs.declared.columns.Columns.{Columns}
use Rattle.filling.specs.declared.columns.Columns.TheVariants.{Run, Many}
use Rattle.filling.specs.Columns.{column_x, Centred, in_run, Shows, nowhere, Runs, Has, InRow, in_loop, on_island, Nowhere, Joined, Islands, Blank, paint_at, free_at, shown_at, set_where, Covered, Put}
use Rattle.filling.proofs.ColumnLaws.{run-yes, run-before, run-after, run_none, run-next}

-- ---- bytes painted

module _ (v a : ℕ) (l : List ℕ) where
  painting_long : (n : ℕ) → length (turns (paint_at 0 v) a n l) ≡ length l
  unfolding turns
  painting_long zero = refl
  painting_long (suc n) = length-set (turns (paint_at 0 v) a n l) (0 + (a + n)) v ∙ painting_long n

  painting_at : (n i : ℕ) → i < length l → get_or (turns (paint_at 0 v) a n l) i 0 ≡ cond (in_run a (a + n) i) v (get_or l i 0)
  unfolding turns
  painting_at zero i h = let e : in_run a (a + 0) i ≡ false = ap (λ (k : ℕ). in_run a k i) (let z : a + 0 ≡ a = omega arith in z) ∙ run_none a i in rw e
  painting_at (suc n) i h =
      let t = turns (paint_at 0 v) a n l in
      let e : in_run a (a + suc n) i ≡ in_run a (a + n + 1) i = ap (λ (k : ℕ). in_run a k i) (let z : a + suc n ≡ a + n + 1 = omega arith in z) in
      ap (λ (k : ℕ). get_or (set t k v) i 0) (let z : 0 + (a + n) ≡ a + n = omega arith in z)
      ∙ by_cases (eqb i (a + n))
      (λ d. let z = eqb-true i (a + n) d in rw (e, z, run-yes a (a + n + 1) (a + n) (omega arith) (omega arith)) (get_or-set_same t (a + n) v 0 (omega (arith, painting_long n))))
      (λ d. get_or-set_other t (a + n) i v 0 (eqb-false i (a + n) d) ∙ painting_at n i h ∙ ap (λ (r : Bool). cond r v (get_or l i 0)) (sym (e ∙ run-next a (a + n) i (eqb-false i (a + n) d))))

  pub painted_at : (b i : ℕ) → a ≤ b → i < length l → get_or (loop (paint_at 0 v) a b l) i 0 ≡ cond (in_run a b i) v (get_or l i 0)
  unfolding loop
  painted_at b i g h = painting_at (b - a) i h ∙ ap (λ (k : ℕ). cond (in_run a k i) v (get_or l i 0)) (let z : a + (b - a) ≡ b = omega arith in z)

-- no byte is 1 once all are painted 0
pub blank-after : (n : ℕ) (l : List ℕ) → n ≤ length l → Shows n nowhere (loop (paint_at 0 0) 0 n l)
blank-after n l h = record { at = λ i g. rw (painted_at 0 0 l n i (omega arith) (omega arith), run-yes 0 n i (omega arith) g) }

-- ---- a loop's columns covered

run_or : (r : Bool) (x : ℕ) → eqb (cond r 1 x) 1 ≡ (r || eqb x 1)
run_or true x = refl
run_or false x = refl

beq_true : (b : Bool) → beq b true ≡ b
beq_true true = refl
beq_true false = refl

beq_false : (b : Bool) → beq b false ≡ not b
beq_false true = refl
beq_false false = refl

-- by the case that the code is in
module _ (n : ℕ) (f : ℕ → Bool) (c : Columns) (row : List ℕ) where
  pub run-told : (a b : ℕ) → c ≡ Run a b → Has n f c row → Runs n f a b × Shows n nowhere row
  run-told a b e h = subst (λ (k : Columns). Has n f k row) e h

  pub many_told : c ≡ Many → Has n f c row → Shows n f row
  many_told e h = subst (λ (k : Columns). Has n f k row) e h

module _ (n : ℕ) (f : ℕ → Bool) (row m : List ℕ) where
  pub join_run : (a b : ℕ) → Runs n f a b → Shows n nowhere row → n ≤ length m → (m' : List ℕ) → m' ≡ loop (paint_at 0 1) a b m → Joined n f (ltb a b) row m m'
  join_run a b r s h m' e = record {
    row = s;
    cover = λ i g. rw (e, painted_at 1 a m b i r.run (omega arith), r.at i g) (run_or (in_run a b i) (get_or m i 0));
    none = λ t. record { at = λ i g. r.at i g ∙ ap (λ (k : ℕ). in_run a k i) (let z : b ≡ a = omega (arith, r.run, ltb-false a b t) in z) ∙ run_none a i };
  }

  pub join_many : (row' m' : List ℕ) → Shows n f row → Covered n true row m row' m' → Joined n f true row' m m'
  join_many row' m' s w = record {
    row = w.row;
    cover = λ i g. w.cover i g ∙ ap (λ (t : Bool). t || eqb (get_or m i 0) 1) (beq_true (eqb (get_or row i 0) 1) ∙ s.at i g);
    none = λ t. absurd (true≢false t);
  }

-- ---- the islands' columns covered

-- whether f holds of column c and one of the loops before loop l
abbrev pub any_to : (ℕ → ℕ → Bool) → ℕ → ℕ → Bool
any_to f l c = any (f c) 1 l

module _ (n : ℕ) (f : ℕ → ℕ → Bool) where
  pub islands_none : (row cover : List ℕ) → Blank n row → Blank n cover → Islands n (any_to f 1) false row cover
  unfolding any
  islands_none row cover a b = record {
    row = a.shows;
    cover = record { at = λ i g. b.shows.at i g ∙ loop-none (or_at (f i)) 1 false };
    none = λ t. record { at = λ i g. sym (loop-none (or_at (f i)) 1 false) };
  }

  pub islands_more : (l : ℕ) (h : ℕ → Bool) (some more : Bool) (row cover row' cover' : List ℕ) → 1 ≤ l → ((i : ℕ) → h i ≡ f i l) → Islands n (any_to f l) some row cover
      → Joined n h more row' cover cover' → Islands n (any_to f (l + 1)) (some || more) row' cover'
  unfolding any
  islands_more l h some more row cover row' cover' k e w j = record {
    row = j.row;
    cover = record {
      at = λ i g. j.cover i g ∙ or_comm (h i) (eqb (get_or cover i 0) 1) ∙ (λ t. w.cover.at i g t || e i t) ∙ loop_more (or_at (f i)) 1 l false k;
    };
    none = λ t.
        let z = neither some more t in
        record { at = λ i g. sym (loop_more (or_at (f i)) 1 l false k) ∙ ap (or_at (f i) l) ((w.none z.0).at i g) ∙ sym (e i) ∙ (j.none z.1).at i g };
  }

-- ---- the columns set

-- turns that do something in a run alone
pub narrowed : {S : Type 0} (f h : ℕ → S → S) (a b n : ℕ) → a ≤ b → b ≤ n → ((i : ℕ) (s : S) → i < n → f i s ≡ cond (in_run a b i) (h i s) s) → (s : S) → loop h a b s ≡ loop f 0 n s
narrowed f h a b n p q e s =
    let first : loop f 0 a s ≡ s = loop_keeps f 0 (λ t. t ≡ s) a (λ i t u v w. e i t (omega arith) ∙ rw (run-before a b i v) w) s refl in
    let mid : loop h a b s ≡ loop f a b s =
    loop_both h f (λ i t u. t ≡ u) a b p (λ i t u v w z. ap (h i) z ∙ sym (e i u (omega arith) ∙ rw (run-yes a b i v w))) s s refl in
    let last : loop f b n (loop f a b s) ≡ loop f a b s = loop_keeps f b (λ t. t ≡ loop f a b s) n (λ i t u v w. e i t v ∙ rw (run-after a b i u) w) (loop f a b s) refl in
    mid ∙ sym last ∙ sym (ap (λ t. loop f b n (loop f a b t)) first)
    ∙ sym (ap (loop f b n) (loop_split f 0 a b s (omega arith) p)) ∙ sym (loop_split f 0 b n s (omega arith) q)

cond_less : {A : Type 0} (r h : Bool) (x y : A) → cond (r && not h) x y ≡ cond r (cond h y x) y
cond_less true true x y = refl
cond_less true false x y = refl
cond_less false h x y = refl

cond_not : {A : Type 0} (f h : Bool) (x y : A) → cond (f && not h) x y ≡ cond (not f || h) y x
cond_not true true x y = refl
cond_not true false x y = refl
cond_not false h x y = refl

module _ (n base : ℕ) (f h : ℕ → Bool) (cover m : List ℕ) where
  -- no column is covered
  pub set_all : (a b : ℕ) → Runs n f a b → Nowhere n h → loop (paint_at base 1) a b m ≡ loop (set_where base f h) 0 n m
  set_all a b r w = narrowed (set_where base f h) (paint_at base 1) a b n r.run r.most (λ i s g. rw (w.at i g, r.at i g, and-true (in_run a b i))) m

  -- the same by bytes
  pub set-bytes : (row : List ℕ) → Shows n f row → Nowhere n h → loop (shown_at base row) 0 n m ≡ loop (set_where base f h) 0 n m
  set-bytes row s w =
      narrowed (set_where base f h) (shown_at base row) 0 n n (omega arith) (omega arith) (λ i t g. rw (w.at i g, s.at i g, and-true (f i), run-yes 0 n i (omega arith) g)) m

  -- those that are covered are left out
  pub set-run : (a b : ℕ) → Runs n f a b → Shows n h cover → loop (free_at base cover) a b m ≡ loop (set_where base f h) 0 n m
  set-run a b r w =
      narrowed (set_where base f h) (free_at base cover) a b n r.run r.most
      (λ i s g. rw (w.at i g, r.at i g) (cond_less (in_run a b i) (h i) (set s (base + i) 1) s)) m

  -- all are covered but those to be set
  pub set_rest : (cover' : List ℕ) → ((i : ℕ) → i < n → eqb (get_or cover' i 0) 1 ≡ (not (f i) || h i)) → loop (free_at base cover') 0 n m ≡ loop (set_where base f h) 0 n m
  set_rest cover' w =
      narrowed (set_where base f h) (free_at base cover') 0 n n (omega arith) (omega arith)
      (λ i s g. rw (w i g, run-yes 0 n i (omega arith) g) (cond_not (f i) (h i) (set s (base + i) 1) s)) m

-- ---- by the code's ways to set a row's columns

module _ (n base : ℕ) (c : Columns) (some : Bool) (row cover m : List ℕ) where
  module _ (a b : ℕ) (E : c ≡ Run a b) where
    pub put_covered : (cover' m' : List ℕ) → m' ≡ loop (free_at base cover) a b m → Shows n nowhere cover' → Put n base c some row cover m row cover' m'
    put_covered cover' m' e s = record {
      is = λ f h H w o. e ∙ set-run n base f h cover m a b (run-told n f c row a b E H).0 w;
      row = λ f H. (run-told n f c row a b E H).1;
      cover = λ h w o. s;
    }

    pub put-plain : some ≡ false → (m' : List ℕ) → m' ≡ loop (paint_at base 1) a b m → Put n base c some row cover m row cover m'
    put-plain t m' e = record {
      is = λ f h H w o. e ∙ set_all n base f h cover m a b (run-told n f c row a b E H).0 (o t);
      row = λ f H. (run-told n f c row a b E H).1;
      cover = λ h w o. record { at = λ i g. w.at i g ∙ (o t).at i g };
    }

  pub put_shown : c ≡ Many → some ≡ false → (row' m' : List ℕ) → m' ≡ loop (shown_at base row) 0 n m → Shows n nowhere row' → Put n base c some row cover m row' cover m'
  put_shown E t row' m' e s = record {
    is = λ f h H w o. e ∙ set-bytes n base f h cover m row (many_told n f c row E H) (o t);
    row = λ f H. s;
    cover = λ h w o. record { at = λ i g. w.at i g ∙ (o t).at i g };
  }

  pub put_many : c ≡ Many → (row' cover' cover'' m' : List ℕ) → Covered n false row cover row' cover' → m' ≡ loop (free_at base cover') 0 n m → Shows n nowhere cover''
      → Put n base c some row cover m row' cover'' m'
  put_many E row' cover' cover'' m' w e s = record {
    is = λ f h H v o.
        let r = many_told n f c row E H in
        e
        ∙ set_rest n base f h cover m cover'
        (λ i g. w.cover i g ∙ ap (λ (t : Bool). t || eqb (get_or cover i 0) 1) (beq_false (eqb (get_or row i 0) 1) ∙ ap not (r.at i g)) ∙ ap (λ (t : Bool). not (f i) || t) (v.at i g));
    row = λ f H. w.row;
    cover = λ h v o. s;
  }

-- ---- a row of a region

pub blank-same : (m n : ℕ) (l : List ℕ) → m ≡ n → Blank m l → Blank n l
blank-same m n l e b = subst (λ (k : ℕ). Blank k l) e b

pub blank-zeros : (n k : ℕ) → n ≤ k → Blank n (replicate k 0)
blank-zeros n k h = record {
  long = omega (arith, length-replicate {A = ℕ} k 0);
  shows = record { at = λ i g. ap (λ (x : ℕ). eqb x 1) (get_or-replicate k i 0 0 (omega arith)) };
}

pub has_in_row : (n : ℕ) (f : ℕ → Bool) (c : Columns) (row : List ℕ) → Has n f c row → InRow n c
has_in_row n f (Run a b) row h = (h.0.run, h.0.most)
has_in_row n f Many row h = tt

module _ (g : Grid) (xs vs : List Float) (lens : List ℕ) (region : Region) (j n : ℕ) (y : Float) (C : Centred g xs) (Y : y ≡ row_y g j) (N : n ≡ get_or lens region.first 0) where
  abbrev outer : ℕ → Bool
  outer = in_loop xs vs region.at n y

  abbrev islands : ℕ → Bool
  islands = on_island xs vs lens region y

  centre : (i : ℕ) → i < g.nx → v2 (get_or xs i nan) y ≡ center_of g i j
  unfolding center_of sum column_x row_y
  centre i k = λ t. v2 (C.at i k t) (Y t)

  contained : (i : ℕ) → i < g.nx → outer i && not (islands i) ≡ contains_of vs lens region (center_of g i j)
  unfolding contains_of
  contained i k =
      let p = v2 (get_or xs i nan) y in
      ap (λ (b : Bool). b && not (islands i)) (inside-first vs lens region p n (outer i) N refl) ∙ ap (λ (q : Vec2). inside_loop vs lens region q 0 && not (in_island vs lens region q)) (centre i k)

  row_is : (m : List ℕ) → loop (set_where (j * g.nx) outer islands) 0 g.nx m ≡ fill_row g vs lens region j m
  unfolding fill_row fill_cell
  row_is m =
      loop_both (set_where (j * g.nx) outer islands) (fill_cell g vs lens region j) (λ i t u. t ≡ u) 0 g.nx (omega arith)
      (λ i t u a b e. ap (set_where (j * g.nx) outer islands i) e ∙ ap (λ (r : Bool). cond r (set u (j * g.nx + i) 1) u) (contained i b)) m m refl

  module _ (c : Columns) (some : Bool) (row cover : List ℕ) (H : Has (length xs) outer c row) (w : Shows (length xs) islands cover) (o : some ≡ false → Nowhere (length xs) islands) where
    has : Has g.nx outer c row
    has = subst (λ (k : ℕ). Has k outer c row) C.long H

    shows : Shows g.nx islands cover
    shows = subst (λ (k : ℕ). Shows k islands cover) C.long w

    none : some ≡ false → Nowhere g.nx islands
    none t = subst (λ (k : ℕ). Nowhere k islands) C.long (o t)

    pub row-filled : (m row' cover' m' : List ℕ) → Put g.nx (j * g.nx) c some row cover m row' cover' m' → g.nx ≤ length row' → g.nx ≤ length cover'
        → (m' ≡ fill_row g vs lens region j m) × (Blank g.nx row' × Blank g.nx cover')
    row-filled m row' cover' m' p a b = (
      p.is outer islands has shows none ∙ row_is m,
      (record { long = a; shows = p.row outer has }, record { long = b; shows = p.cover islands shows none }),
    )
