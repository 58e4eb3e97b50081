-- The tables by edge number hold the map and the two sets, and the pieces that they give are the definition's. Assumes nothing.
use Rattle.std.proofs.Common.{◌≡◌, ℕ, ◌*◌, ◌<◌, ◌≤◌, Bool, true, false, cond, not, eqb, List, [], ◌∷◌, ◌++◌, map, get_or, set, sym, refl, ap, ◌∙◌, subst, arith, length-set, get_or-set_other, get_or-set_same, eq-eqb, ne_eqb, eqb-true}
use mathlib.Core.Option.{Option, none, some}
use lib.ListN.{length-replicate, get_or-replicate}
use lib.Ieee.{Float}
use borrow.Author.Tests.{eqb-false}
use Rattle.loops.specs.Each.{over, Each}
use Rattle.loops.specs.Loop.{loop, Run, on, out, turn}
use Rattle.loops.proofs.LoopLaws.{loop_both}
use Rattle.loops.proofs.EachLaws.{each_all, map_more}
use Rattle.loops.proofs.Cases.{by_cases, by_test}
use Rattle.geom.specs.declared.vec2.Vec2.{Vec2}
use Rattle.raster.specs.Grid.{Sides}
use Rattle.raster.specs.declared.grid.Grid.{Grid}
use Rattle.contours.specs.Edge.{edge, crossing_at, nothing}
use Rattle.contours.specs.Square.{Joins}
use Rattle.contours.specs.March.{march}
use Rattle.contours.specs.Curve.{EdgeSet, EdgeMap, with, keyed, is_some, Joints, jointed, unjointed, joints_of, Strand, Curve, curve, gone_to, go_to, go_on, strand_from, curve_of, curve_from, Curves, curves, open_starts, firsts, curved, start_from, pieces_of, contours_of}
use Rattle.contours.specs.Chain.{Tables, inserted, blank, tables_of, Walk, Chain, ended, step_to, follow, chain_of, walk_from, chain_from, edge_point, Chains, chains, starts_at, chained, start_at, chain_all, chained_pieces}
use Rattle.contours.specs.Held.{mark_of, HoldsMarks, or_nothing, LeadsTo, HoldsNext, HoldsTables}
use Rattle.contours.specs.Traced.{Below}
use Rattle.contours.specs.declared.edge.EdgeNo.{EdgeNo}
use Rattle.contours.specs.declared.square.Segment.{Segment}
use Rattle.contours.proofs.JoinLaws.{march_joins, joins_below}
use Rattle.contours.proofs.ChainLaws.{chain_ends}

-- ---- marks

-- a byte tells whether its edge is used
pub mark-used : (u p : Bool) → eqb (mark_of u p) 1 ≡ u
mark-used true p = refl
mark-used false true = refl
mark-used false false = refl

-- and, of an edge that is not, whether a segment leads into it
pub mark_led : (p : Bool) → eqb (mark_of false p) 2 ≡ p
mark_led true = refl
mark_led false = refl

-- a curve starts at an edge that is not used; at first only such edges are asked that nothing leads into
mark_starts : (first u p : Bool) → (first ≡ true → p ≡ false) → starts_at first (mark_of u p) ≡ not u
mark_starts true true p h = refl
mark_starts true false p h = rw (h refl) refl
mark_starts false true p h = refl
mark_starts false false true h = refl
mark_starts false false false h = refl

module _ (e : ℕ) where
  -- used.insert(n)
  pub marks-used : (used has_prev : EdgeSet) (marks : List ℕ) (n : EdgeNo) → n.0 < e → HoldsMarks e used has_prev marks → HoldsMarks e (with n used) has_prev (set marks n.0 1)
  unfolding with
  marks-used used has_prev marks n b h = record {
    long = length-set marks n.0 1 ∙ h.long;
    mark = λ i d. by_cases (eqb i n.0)
        (λ t. rw t (ap (λ (k : ℕ). get_or (set marks n.0 1) k 0) (eqb-true i n.0 t) ∙ get_or-set_same marks n.0 1 0 (omega (arith, h.long))))
        (λ t. rw t (get_or-set_other marks n.0 i 1 0 (eqb-false i n.0 t) ∙ h.mark i d));
  }

  -- has_prev.insert(n), while no edge is used
  pub marks_led : (has_prev : EdgeSet) (marks : List ℕ) (n : EdgeNo) → n.0 < e → HoldsMarks e (λ k. false) has_prev marks → HoldsMarks e (λ k. false) (with n has_prev) (set marks n.0 2)
  unfolding with
  marks_led has_prev marks n b h = record {
    long = length-set marks n.0 2 ∙ h.long;
    mark = λ i d. by_cases (eqb i n.0)
        (λ t. rw t (ap (λ (k : ℕ). get_or (set marks n.0 2) k 0) (eqb-true i n.0 t) ∙ get_or-set_same marks n.0 2 0 (omega (arith, h.long))))
        (λ t. rw t (get_or-set_other marks n.0 i 2 0 (eqb-false i n.0 t) ∙ h.mark i d));
  }

  -- next.insert(a, b)
  pub next-keyed : (next : EdgeMap) (table : List ℕ) (a b : EdgeNo) → a.0 < e → b.0 < e → HoldsNext e next table → HoldsNext e (keyed a b next) (set table a.0 b.0)
  unfolding keyed
  next-keyed next table a b p q h = record {
    long = length-set table a.0 b.0 ∙ h.long;
    entry = λ i d. by_cases (eqb i a.0)
        (λ t. rw t (ap (λ (k : ℕ). get_or (set table a.0 b.0) k 0) (eqb-true i a.0 t) ∙ get_or-set_same table a.0 b.0 0 (omega (arith, h.long))))
        (λ t. rw t (get_or-set_other table a.0 i b.0 0 (eqb-false i a.0 t) ∙ h.entry i d));
    leads = λ i d. by_test (LeadsTo e) (eqb i a.0) _ _ (λ t. q) (λ t. h.leads i d);
  }

  held-blank : HoldsTables e unjointed (blank e)
  held-blank = record {
    next = record {
      long = length-replicate e nothing;
      entry = λ i d. get_or-replicate e i nothing 0 d;
      leads = λ i d. tt;
    };
    marks = record {
      long = length-replicate e 0;
      mark = λ i d. get_or-replicate e i 0 0 d;
    };
  }

  held-over : (segs : List Segment) → Each (Below e) segs → (j : Joints) (t : Tables) → HoldsTables e j t → HoldsTables e (over jointed segs j) (over inserted segs t)
  unfolding over Each jointed inserted
  held-over [] b j t h = h
  held-over (s ∷ segs) b j t h = held-over segs b.1 (jointed s j) (inserted s t) (record {
    next = next-keyed j.next t.next s.from s.to b.0.from b.0.to h.next;
    marks = marks_led j.has_prev t.marks s.to b.0.to h.marks;
  })

  -- the tables of segments hold their map and their set
  pub tables-held : (segs : List Segment) → Each (Below e) segs → HoldsTables e (joints_of segs) (tables_of e segs)
  unfolding joints_of tables_of
  tables-held segs b = held-over segs b unjointed (blank e) held-blank

-- ---- each edge that a segment leaves has a next one

some-stays : (k : EdgeNo) (segs : List Segment) → (j : Joints) → is_some (j.next k) ≡ true → is_some ((over jointed segs j).next k) ≡ true
unfolding over jointed keyed
some-stays k [] j h = h
some-stays k (s ∷ segs) j h = some-stays k segs (jointed s j) (by_test (λ (o : Option EdgeNo). is_some o ≡ true) (eqb k.0 s.from.0) _ _ (λ t. refl) (λ t. h))

pub starts_known : (segs : List Segment) (j : Joints) → Each (λ (s : Segment). is_some ((over jointed segs j).next s.from) ≡ true) segs
unfolding over Each jointed keyed
starts_known [] j = tt
starts_known (s ∷ segs) j = (some-stays s.from segs (jointed s j) (rw (eq-eqb s.from.0 s.from.0 refl) refl), starts_known segs (jointed s j))

-- ---- a curve, turn by turn

map_both : (at : EdgeNo → Vec2) (l : List ℕ) → map at (map edge l) ≡ map (λ n. at (edge n)) l
map_both at [] = refl
map_both at (n ∷ l) = ap (λ (r : List Vec2). at (edge n) ∷ r) (map_both at l)

-- a loop that was left
abbrev pub IsOut : {S A : Type 0} → Run S A → Type 0
IsOut (on s) = ⊥
IsOut (out v) = Unit {0}

lead_of_lem : (e : ℕ) (o : Option EdgeNo) → LeadsTo e o → (n : ℕ) → n ≡ or_nothing o → eqb n nothing ≡ false → n < e
lead_of_lem e none l n d z = absurd (mathlib.Core.Bool.true≢false (sym (ap (λ (m : ℕ). eqb m nothing) d) ∙ z))
lead_of_lem e (some m) l n d z = subst (λ (k : ℕ). k < e) (sym d) l

module _ (e : ℕ) (few : e ≤ nothing) (next : EdgeMap) (table : List ℕ) (H : HoldsNext e next table) (has_prev : EdgeSet) where
  record SameWalk (v : Strand) (w : Walk) : Type 0 where
    marks : HoldsMarks e v.used has_prev w.marks
    ids : v.ids ≡ map edge w.ids
    cur : v.cur ≡ edge w.cur
    here : w.cur < e

  record SameChain (k : Curve) (c : Chain) : Type 0 where
    marks : HoldsMarks e k.used has_prev c.marks
    ids : k.ids ≡ map edge c.ids
    closed : k.closed ≡ c.closed

  abbrev Same : Run Strand Curve → Run Walk Chain → Type 0
  Same (on v) (on w) = SameWalk v w
  Same (on v) (out c) = ⊥
  Same (out k) (on w) = ⊥
  Same (out k) (out c) = SameChain k c

  same_end : (v : Strand) (w : Walk) (b : Bool) → SameWalk v w → SameChain (curve v b) (ended w b)
  same_end v w b h = record { marks = h.marks; ids = h.ids; closed = refl }

  same_step : (v : Strand) (w : Walk) (n : EdgeNo) → SameWalk v w → n.0 < e → SameWalk (gone_to n v) (step_to n.0 w)
  same_step v w n h l = record {
    marks = marks-used e v.used has_prev w.marks n l h.marks;
    ids = ap (λ (r : List EdgeNo). r ++ (n ∷ [])) h.ids ∙ sym (map_more edge w.ids n.0);
    cur = refl;
    here = l;
  }

  module _ (s : EdgeNo) where
    -- a turn of the table's, where the next number is n
    abbrev follow_to : ℕ → Walk → Run Walk Chain
    follow_to n w = cond (eqb n nothing) (out (ended w false)) (cond (eqb n s.0) (out (ended w true)) (cond (eqb (get_or w.marks n 0) 1) (out (ended w false)) (on (step_to n w))))

    same-to : (v : Strand) (w : Walk) (o : Option EdgeNo) → SameWalk v w → LeadsTo e o → Same (go_to s v o) (follow_to (or_nothing o) w)
    unfolding go_to
    same-to v w none h l = same_end v w false h
    same-to v w (some m) h l =
        let u : eqb (get_or w.marks m.0 0) 1 ≡ v.used m = ap (λ (x : ℕ). eqb x 1) (h.marks.mark m.0 l) ∙ mark-used (v.used m) (has_prev m) in
        rw (ne_eqb m.0 nothing (λ z. omega arith), u)
        (by_cases (eqb m.0 s.0)
        (λ a. rw a (same_end v w true h))
        (λ a. rw a (by_cases (v.used m) (λ b. rw b (same_end v w false h)) (λ b. rw b (same_step v w m h l)))))

    same_turn : (i : ℕ) (r : Run Strand Curve) (q : Run Walk Chain) → Same r q → Same (turn (go_on next s) i r) (turn (follow table s.0) i q)
    unfolding turn go_on follow
    same_turn i (on v) (on w) h =
        subst (λ (n : ℕ). Same (go_to s v (next v.cur)) (follow_to n w)) (ap (λ (c : EdgeNo). or_nothing (next c)) h.cur ∙ sym (H.entry w.cur h.here))
        (same-to v w (next v.cur) h (subst (λ (c : EdgeNo). LeadsTo e (next c)) (sym h.cur) (H.leads w.cur h.here)))
    same_turn i (on v) (out c) h = absurd h
    same_turn i (out k) (on w) h = absurd h
    same_turn i (out k) (out c) h = h

    same-run : (used : EdgeSet) (marks : List ℕ) → s.0 < e → HoldsMarks e used has_prev marks
        → Same (loop (turn (go_on next s)) 0 e (on (strand_from used s))) (loop (turn (follow table s.0)) 0 e (on (walk_from marks s.0)))
    same-run used marks b h =
        loop_both (turn (go_on next s)) (turn (follow table s.0)) (λ i r q. Same r q) 0 e (omega arith) (λ i r q a c d. same_turn i r q d) (on (strand_from used s)) (on (walk_from marks s.0))
        (record { marks = marks-used e used has_prev marks s b h; ids = refl; cur = refl; here = b })

    same_out : (r : Run Strand Curve) (q : Run Walk Chain) → Same r q → IsOut q → IsOut r
    same_out (on v) (on w) h o = o
    same_out (on v) (out c) h o = absurd h
    same_out (out k) q h o = tt

    same_result : (r : Run Strand Curve) (q : Run Walk Chain) → Same r q → SameChain (curve_of r) (chain_of q)
    unfolding curve_of chain_of
    same_result (on v) (on w) h = same_end v w false h
    same_result (on v) (out c) h = absurd h
    same_result (out k) (on w) h = absurd h
    same_result (out k) (out c) h = h

    same_from : (used : EdgeSet) (marks : List ℕ) → s.0 < e → HoldsMarks e used has_prev marks → SameChain (curve_from next e used s) (chain_from table e marks s.0)
    unfolding curve_from chain_from
    same_from used marks b h = same_result _ _ (same-run used marks b h)

    -- a curve ends before its turns do
    pub curve_ends : (used : EdgeSet) (marks : List ℕ) → s.0 < e → HoldsMarks e used has_prev marks → used s ≡ false → IsOut (loop (turn (go_on next s)) 0 e (on (strand_from used s)))
    curve_ends used marks b h n =
        let c = chain_ends table e marks s.0 H.long (record { to = λ i d z. lead_of_lem e (next (edge i)) (H.leads i (omega (arith, H.long))) (get_or table i 0) (H.entry i (omega (arith, H.long))) z }) h.long b
        (ap (λ (m : ℕ). eqb m 1) (h.mark s.0 b) ∙ mark-used (used s) (has_prev s) ∙ n) in
        same_out (loop (turn (go_on next s)) 0 e (on (strand_from used s))) (loop (turn (follow table s.0)) 0 e (on (walk_from marks s.0))) (same-run used marks b h) (subst IsOut (sym c.is) tt)

  -- ---- all curves

  record SameChains (c : Curves) (d : Chains) : Type 0 where
    marks : HoldsMarks e c.used has_prev d.marks
    pieces : c.pieces ≡ d.pieces

  module _ (at : EdgeNo → Vec2) where
    abbrev at' : ℕ → Vec2
    at' n = at (edge n)

    same-chained : (s : EdgeNo) (c : Curves) (d : Chains) → s.0 < e → SameChains c d → SameChains (curved at next e s c) (chained at' table e s.0 d)
    unfolding curved chained
    same-chained s c d b h =
        let k = same_from s c.used d.marks b h.marks in
        record {
          marks = k.marks;
          pieces = rw (k.ids, map_both at (chain_from table e d.marks s.0).ids, k.closed, h.pieces) refl;
        }

    same_start : (first : Bool) (s : EdgeNo) (c : Curves) (d : Chains) → s.0 < e → is_some (next s) ≡ true → (first ≡ true → has_prev s ≡ false) → SameChains c d
        → SameChains (start_from at next e s c) (start_at at' table e first s.0 d)
    unfolding start_from start_at
    same_start first s c d b k p h =
        let m : starts_at first (get_or d.marks s.0 0) ≡ not (c.used s) = ap (starts_at first) (h.marks.mark s.0 b) ∙ mark_starts first (c.used s) (has_prev s) p in
        rw (m, k) (by_cases (c.used s) (λ t. rw t h) (λ t. rw t (same-chained s c d b h)))

    -- an edge that a segment leads into is passed over at first
    passed_led : (s : EdgeNo) (used : EdgeSet) (d : Chains) → s.0 < e → has_prev s ≡ true → HoldsMarks e used has_prev d.marks → d ≡ start_at at' table e true s.0 d
    unfolding start_at
    passed_led s used d b p h = rw (h.mark s.0 b, p) (by_cases (used s) (λ t. rw t refl) (λ t. rw t refl))

    abbrev Known : Segment → Type 0
    Known s = is_some (next s.from) ≡ true

    same_open : (segs : List Segment) → Each (Below e) segs → Each Known segs → (c : Curves) (d : Chains) → SameChains c d
        → SameChains (over (start_from at next e) (open_starts has_prev segs) c) (chain_all at' table e true segs d)
    unfolding over Each open_starts chain_all
    same_open [] b k c d h = h
    same_open (s ∷ segs) b k c d h = by_cases (has_prev s.from)
        (λ t. rw t (same_open segs b.1 k.1 c _ (subst (SameChains c) (passed_led s.from c.used d b.0.from t h.marks) h)))
        (λ t. rw t (same_open segs b.1 k.1 _ _ (same_start true s.from c d b.0.from k.0 (λ z. t) h)))

    same_rest : (segs : List Segment) → Each (Below e) segs → Each Known segs → (c : Curves) (d : Chains) → SameChains c d
        → SameChains (over (start_from at next e) (firsts segs) c) (chain_all at' table e false segs d)
    unfolding over Each chain_all
    same_rest [] b k c d h = h
    same_rest (s ∷ segs) b k c d h = same_rest segs b.1 k.1 _ _ (same_start false s.from c d b.0.from k.0 (λ z. absurd (mathlib.Core.Bool.true≢false (sym z))) h)

over-append : {A S : Type 0} (f : A → S → S) (l m : List A) (s : S) → over f (l ++ m) s ≡ over f m (over f l s)
unfolding over
over-append f [] m s = refl
over-append f (x ∷ l) m s = over-append f l m (f x s)

-- the pieces by tables are the pieces by a map and two sets
pub pieces-held : (at : EdgeNo → Vec2) (e : ℕ) (segs : List Segment) → e ≤ nothing → Each (Below e) segs → pieces_of at e segs ≡ chained_pieces (λ n. at (edge n)) e segs
unfolding pieces_of chained_pieces joints_of
pieces-held at e segs few b =
    let t = joints_of segs in
    let h = tables-held e segs b in
    let known = starts_known segs unjointed in
    let opened = same_open e few t.next (tables_of e segs).next h.next t.has_prev at segs b known (curves (λ k. false) []) (chains (tables_of e segs).marks []) (record { marks = h.marks; pieces = refl }) in
    let all = same_rest e few t.next (tables_of e segs).next h.next t.has_prev at segs b known _ _ opened in
    ap (λ (c : Curves). c.pieces) (over-append (start_from at t.next e) (open_starts t.has_prev segs) (firsts segs) (curves (λ k. false) [])) ∙ all.pieces

-- ---- a contour

pub march-below : (g : Grid) (f : List Float) (level : Float) → Sides g → Each (Below (2 * (g.ny * g.nx))) (march g f level)
march-below g f level h = each_all (Joins g) _ (λ s j. let b = joins_below g s h j in record { from = b.0; to = b.1 }) (march g f level) (march_joins g f level)

pub contours_held : (g : Grid) (f : List Float) (level : Float) → Sides g → contours_of g f level ≡ chained_pieces (edge_point g f level) (2 * (g.ny * g.nx)) (march g f level)
unfolding contours_of
contours_held g f level h = pieces-held (crossing_at g f level) (2 * (g.ny * g.nx)) (march g f level) (omega (arith, h.cells)) (march-below g f level h)
