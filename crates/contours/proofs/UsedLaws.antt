-- Each used edge belongs to one chain, and a chain's edges follow one another. Assumes nothing.
use Rattle.std.proofs.Common.{◌≡◌, ℕ, ◌<◌, Bool, true, false, ◌||◌, eqb, List, [], ◌∷◌, ◌++◌, length, get_or, set, sym, refl, ap, ◌∙◌, arith, length-set, get_or-set_other, get_or-set_same, eq-eqb, eqb-true}
use borrow.Author.Tests.{eqb-false}
use Rattle.loops.specs.Loop.{Run, on, out, turn}
use Rattle.loops.proofs.LoopLaws.{loop_keeps}
use Rattle.loops.proofs.Cases.{by_cases, by_test, never, neither, or_false}
use Rattle.contours.specs.Chain.{Leads, Walk, Chain, step_to, follow, chain_of, walk_from, chain_from}
use Rattle.contours.specs.Edge.{nothing}
use Rattle.contours.specs.Used.{used, has, Once, Follows, Owns}

-- ---- lists of numbers

or_assoc : (a b c : Bool) → (a || b) || c ≡ a || (b || c)
or_assoc true b c = refl
or_assoc false b c = refl

pub has-append : (x : ℕ) (l m : List ℕ) → has x (l ++ m) ≡ has x l || has x m
unfolding has
has-append x [] m = refl
has-append x (y ∷ l) m = ap (λ (b : Bool). eqb x y || b) (has-append x l m) ∙ sym (or_assoc (eqb x y) (has x l) (has x m))

-- lists that share nothing
pub once-append : (l m : List ℕ) → Once l → Once m → ((x : ℕ) → has x m ≡ true → has x l ≡ false) → Once (l ++ m)
unfolding Once has
once-append [] m a b d = b
once-append (x ∷ l) m a b d = (
  has-append x l m ∙ by_cases (has x m) (λ t. never (sym (d x t) ∙ ap (λ (c : Bool). c || has x l) (eq-eqb x x refl))) (λ t. ap (λ (c : Bool). c || has x m) a.0 ∙ t),
  once-append l m a.1 b (λ y t. (neither (eqb y x) (has y l) (d y t)).1),
)

follows_more : (next : List ℕ) (s : ℕ) (l : List ℕ) (cur n : ℕ) → Follows next s l cur → get_or next cur 0 ≡ n → Follows next s (l ++ (n ∷ [])) n
unfolding Follows
follows_more next s [] cur n h e = (ap (λ (i : ℕ). get_or next i 0) h ∙ e, refl)
follows_more next s (x ∷ l) cur n h e = (h.0, follows_more next x l cur n h.1 e)

-- ---- marks

-- edge n is used too
used-set : (marks : List ℕ) (n i : ℕ) → n < length marks → used (set marks n 1) i ≡ used marks i || eqb i n
used-set marks n i b = by_cases (eqb i n)
    (λ t. let e = eqb-true i n t in
    ap (λ (k : ℕ). used (set marks n 1) k) e ∙ ap (λ (v : ℕ). eqb v 1) (get_or-set_same marks n 1 0 b) ∙ sym (ap (λ (c : Bool). used marks i || c) t ∙ or_true (used marks i)))
    (λ t. ap (λ (v : ℕ). eqb v 1) (get_or-set_other marks n i 1 0 (eqb-false i n t)) ∙ sym (ap (λ (c : Bool). used marks i || c) t ∙ or_false (used marks i)))
  where
    or_true : (a : Bool) → a || true ≡ true
    or_true true = refl
    or_true false = refl

-- ---- one chain

module _ (next : List ℕ) (s : ℕ) (marks₀ : List ℕ) (z : length next ≡ length marks₀) (leads : Leads (λ (n : ℕ). n < length marks₀) next) where
  -- what a walk owns so far
  record Walking (w : Walk) : Type 0 where
    pub long : length w.marks ≡ length marks₀
    pub here : w.cur < length marks₀
    pub owns : Owns next s marks₀ w.marks w.ids
    pub last : owns.last ≡ w.cur

  abbrev Owned : Run Walk Chain → Type 0
  Owned (on w) = Walking w
  Owned (out c) = Owns next s marks₀ c.marks c.ids × (length c.marks ≡ length marks₀)

  walking_none : s < length marks₀ → used marks₀ s ≡ false → Walking (walk_from marks₀ s)
  unfolding Follows Once has
  walking_none b d = record {
    long = length-set marks₀ s 1;
    here = b;
    owns = record {
      later = [];
      last = s;
      edges = refl;
      path = refl;
      once = (refl, tt);
      fresh = λ i t. ap (used marks₀) (eqb-true i s (sym (or_false (eqb i s)) ∙ t)) ∙ d;
      taken = λ i. used-set marks₀ s i b ∙ ap (λ (c : Bool). used marks₀ i || c) (sym (or_false (eqb i s)));
    };
    last = refl;
  }

  walking_more : (w : Walk) (n : ℕ) → Walking w → get_or next w.cur 0 ≡ n → n < length marks₀ → used w.marks n ≡ false → Walking (step_to n w)
  unfolding Once has
  walking_more w n h e b d =
      let o = h.owns in
      let new : used marks₀ n || has n w.ids ≡ false = sym (o.taken n) ∙ d in
      record {
        long = length-set w.marks n 1 ∙ h.long;
        here = b;
        owns = record {
          later = o.later ++ (n ∷ []);
          last = n;
          edges = ap (λ (l : List ℕ). l ++ (n ∷ [])) o.edges;
          path = follows_more next s o.later o.last n o.path (ap (λ (i : ℕ). get_or next i 0) h.last ∙ e);
          once = once-append w.ids (n ∷ []) o.once (refl, tt) (λ x t. ap (λ (i : ℕ). has i w.ids) (eqb-true x n (sym (or_false (eqb x n)) ∙ t)) ∙ (neither (used marks₀ n) (has n w.ids) new).1);
          fresh = λ i t. by_cases (has i w.ids) (o.fresh i)
              (λ f. ap (used marks₀) (eqb-true i n (sym (or_false (eqb i n)) ∙ sym (ap (λ (c : Bool). c || (eqb i n || false)) f) ∙ sym (has-append i w.ids (n ∷ [])) ∙ t)) ∙ (neither (used marks₀ n) (has n w.ids) new).0);
          taken = λ i. used-set w.marks n i (omega (arith, h.long))
              ∙ ap (λ (c : Bool). c || eqb i n) (o.taken i)
              ∙ or_assoc (used marks₀ i) (has i w.ids) (eqb i n)
              ∙ ap (λ (c : Bool). used marks₀ i || c) (ap (λ (c : Bool). has i w.ids || c) (sym (or_false (eqb i n))) ∙ sym (has-append i w.ids (n ∷ [])));
        };
        last = refl;
      }

  owned_follow : (i : ℕ) (w : Walk) → Walking w → Owned (follow next s i w)
  unfolding follow
  owned_follow i w h =
      let n = get_or next w.cur 0 in
      by_test Owned (eqb n nothing) _ _ (λ a. (h.owns, h.long))
      (λ a. by_test Owned (eqb n s) _ _ (λ b. (h.owns, h.long))
      (λ b. by_test Owned (used w.marks n) _ _ (λ d. (h.owns, h.long)) (λ d. walking_more w n h refl (leads.to w.cur (omega (arith, h.here)) a) d)))

  owned_turn : (i : ℕ) (r : Run Walk Chain) → Owned r → Owned (turn (follow next s) i r)
  unfolding turn
  owned_turn i (on w) h = owned_follow i w h
  owned_turn i (out c) h = h

  owned_chain : (r : Run Walk Chain) → Owned r → Owns next s marks₀ (chain_of r).marks (chain_of r).ids × (length (chain_of r).marks ≡ length marks₀)
  unfolding chain_of
  owned_chain (on w) h = (h.owns, h.long)
  owned_chain (out c) h = h

  -- the chain from s
  pub chain_owns : s < length marks₀ → used marks₀ s ≡ false → let c = chain_from next (length marks₀) marks₀ s in Owns next s marks₀ c.marks c.ids × (length c.marks ≡ length marks₀)
  unfolding chain_from
  chain_owns b d = owned_chain _ (loop_keeps (turn (follow next s)) 0 Owned (length marks₀) (λ i r a f h. owned_turn i r h) (on (walk_from marks₀ s)) (walking_none b d))
