-- What smoothing keeps: a short piece, the number of points or fewer, and the ends of an open piece. Assumes nothing.
use mathlib.Core.Path.{◌≡◌, refl, sym, ap, ◌∙◌, subst}
use mathlib.Core.Bool.{Bool, true, false}
use mathlib.Core.List.{List, [], ◌∷◌, ◌++◌, map}
use mathlib.Core.Logic.{◌⊎◌, inl, inr}
use Prim.Native.Nat.{ℕ, ◌+◌, ◌-◌, ◌*◌, ◌%◌, ◌≤◌, ◌<◌}
use native.Mathlib.Omega.{arith}
use native.Mathlib.Nat.{mul-add-mod_self_right, mod-eq_of_lt}
use lib.ListN.{length, length-set, get_or-append}
use lib.Seq.{get_or-set_other}
use lib.Dec.{eqb, ltb}
use lib.Ieee.{Float, nan}
use borrow.Author.Tests.{ltb-true, ltb-false, eq-eqb, lt-ltb, eqb-true, eqb-false}
use Rattle.loops.specs.Each.{Each}
use Rattle.loops.specs.Loop.{loop}
use Rattle.loops.proofs.Cases.{by_cases, never, or_right}
use Rattle.loops.proofs.LoopLaws.{loop_keeps}
use Rattle.geom.specs.Region.{before, after}
use Rattle.geom.specs.Vec.{v2, distance_of}
use Rattle.geom.specs.declared.vec2.Vec2.{Vec2}
use Rattle.pieces.specs.Piece.{Piece}
use Rattle.smoothing.specs.Smooth.{nth, last_point, held_at, average_at, averaged, keep_at, spaced, same_point, ended_at, resampled, smooth_of, smoothed, HasPoints}
use Rattle.smoothing.proofs.StepLaws.{last-push, length_push}
use Rattle.smoothing.proofs.SmoothLaws.{kept-all}

-- a short piece is unchanged
pub short-same : (closed : Bool) (cell : Float) (ps : List Vec2) → length ps < 3 → smooth_of closed cell ps ≡ ps
unfolding smooth_of
short-same closed cell ps h = rw (lt-ltb (length ps) 3 h) refl

-- ---- the neighbours, as the Rust numbers them

pub before_mod : (n k : ℕ) → k < n → before n k ≡ (k + n - 1) % n
before_mod n k h = by_cases (eqb k 0)
    (λ e. let z = eqb-true k 0 e in
    let d : k + n - 1 ≡ n - 1 = omega arith in
    rw e (sym (ap (λ (i : ℕ). i % n) d ∙ mod-eq_of_lt (let l : n - 1 < n = omega arith in l))))
    (λ e. let z = eqb-false k 0 e in
    let p : 0 < k = by_cases (ltb 0 k) (ltb-true 0 k) (λ t. absurd (z (let q : k ≡ 0 = omega (arith, ltb-false 0 k t) in q))) in
    let d : k + n - 1 ≡ 1 * n + (k - 1) = omega arith in
    rw e (sym (ap (λ (i : ℕ). i % n) d ∙ mul-add-mod_self_right 1 n (k - 1) ∙ mod-eq_of_lt (let l : k - 1 < n = omega arith in l))))

pub after_mod : (n k : ℕ) → k < n → after n k ≡ (k + 1) % n
after_mod n k h = by_cases (eqb (k + 1) n)
    (λ e. let z = eqb-true (k + 1) n e in
    let d : k + 1 ≡ 1 * n + 0 = omega arith in
    rw e (sym (ap (λ (i : ℕ). i % n) d ∙ mul-add-mod_self_right 1 n 0 ∙ mod-eq_of_lt (let l : 0 < n = omega arith in l))))
    (λ e. let z = eqb-false (k + 1) n e in
    let l : k + 1 < n = by_cases (ltb (k + 1) n) (ltb-true (k + 1) n) (λ t. absurd (z (let q : k + 1 ≡ n = omega (arith, ltb-false (k + 1) n t) in q))) in
    rw e (sym (mod-eq_of_lt l)))

-- ---- averaging keeps the number of points, and the ends of an open piece

pub averaged-length : (closed : Bool) (ps : List Vec2) → length (averaged closed ps) ≡ length ps
unfolding averaged average_at
averaged-length closed ps =
    loop_keeps (average_at closed (length ps) ps) 0 (λ (q : List Vec2). length q ≡ length ps) (length ps)
    (λ i q a b e. by_cases (held_at closed (length ps) i) (λ t. rw t e) (λ t. rw t (length-set q i _ ∙ e))) ps refl

-- a point that is held is kept
held_kept : (closed : Bool) (ps : List Vec2) (k : ℕ) → held_at closed (length ps) k ≡ true → nth (averaged closed ps) k ≡ nth ps k
unfolding averaged average_at
held_kept closed ps k h =
    loop_keeps (average_at closed (length ps) ps) 0 (λ (q : List Vec2). nth q k ≡ nth ps k) (length ps)
    (λ i q a b e. by_cases (held_at closed (length ps) i) (λ t. rw t e)
    (λ t. rw t (get_or-set_other q i k _ (v2 nan nan) (λ z. mathlib.Core.Bool.true≢false (sym h ∙ ap (held_at closed (length ps)) z ∙ t)) ∙ e))) ps refl

-- ps and qs have the same number of points and the same ends
pub record SameEnds (qs ps : List Vec2) : Type 0 where
  pub count : length qs ≡ length ps
  pub first : nth qs 0 ≡ nth ps 0
  pub last : last_point qs ≡ last_point ps

averaged_ends : (ps : List Vec2) → SameEnds (averaged false ps) ps
unfolding held_at
averaged_ends ps =
    let n = averaged-length false ps in
    record {
      count = n;
      first = held_kept false ps 0 refl;
      last = ap (λ (m : ℕ). nth (averaged false ps) (m - 1)) n ∙ held_kept false ps (length ps - 1) (or_right (eqb (length ps - 1) 0) (eqb (length ps - 1) (length ps - 1)) (eq-eqb (length ps - 1) (length ps - 1) refl));
    }

three_ends : (ps : List Vec2) → SameEnds (loop (λ t q. averaged false q) 0 3 ps) ps
three_ends ps =
    loop_keeps (λ t q. averaged false q) 0 (λ (q : List Vec2). SameEnds q ps) 3
    (λ i q a b e. let s = averaged_ends q in record { count = s.count ∙ e.count; first = s.first ∙ e.first; last = s.last ∙ e.last }) ps
    (record { count = refl; first = refl; last = refl })

three_count : (closed : Bool) (ps : List Vec2) → length (loop (λ t q. averaged closed q) 0 3 ps) ≡ length ps
three_count closed ps =
    loop_keeps (λ t q. averaged closed q) 0 (λ (q : List Vec2). length q ≡ length ps) 3 (λ i q a b e. averaged-length closed q ∙ e) ps refl

-- ---- resampling

record Starts (p : Vec2) (out : List Vec2) : Type 0 where
  some : 0 < length out
  first : nth out 0 ≡ p

push_starts : (p q : Vec2) (out : List Vec2) → Starts p out → Starts p (out ++ (q ∷ []))
push_starts p q out s = record { some = omega (arith, length_push out q); first = get_or-append out (q ∷ []) (v2 nan nan) 0 s.some ∙ s.first }

kept_starts : (cell : Float) (ps : List Vec2) → Starts (nth ps 0) (spaced cell ps)
unfolding spaced keep_at
kept_starts cell ps =
    loop_keeps (keep_at cell ps) 1 (Starts (nth ps 0)) (length ps)
    (λ i out a b s. by_cases (lib.Ieee.le cell (distance_of (last_point out) (nth ps i))) (λ t. rw t (push_starts (nth ps 0) (nth ps i) out s)) (λ t. rw t s))
    (nth ps 0 ∷ []) (record { some = omega arith; first = refl })

resampled-first : (closed : Bool) (cell : Float) (ps : List Vec2) → nth (resampled closed cell ps) 0 ≡ nth ps 0
unfolding resampled ended_at
resampled-first true cell ps = (kept_starts cell ps).first
resampled-first false cell ps =
    by_cases (same_point (last_point (spaced cell ps)) (last_point ps)) (λ t. rw t (kept_starts cell ps).first) (λ t. rw t (push_starts (nth ps 0) (last_point ps) (spaced cell ps) (kept_starts cell ps)).first)

resampled-some : (closed : Bool) (cell : Float) (ps : List Vec2) → 0 < length (resampled closed cell ps)
unfolding resampled ended_at
resampled-some true cell ps = (kept_starts cell ps).some
resampled-some false cell ps =
    by_cases (same_point (last_point (spaced cell ps)) (last_point ps)) (λ t. rw t (kept_starts cell ps).some) (λ t. rw t (push_starts (nth ps 0) (last_point ps) (spaced cell ps) (kept_starts cell ps)).some)

-- it ends at the last point, or at one that equals it as floats do
abbrev pub EndsAt : Vec2 → List Vec2 → Type 0
EndsAt p out = (last_point out ≡ p) ⊎ (same_point (last_point out) p ≡ true)

resampled-last : (cell : Float) (ps : List Vec2) → EndsAt (last_point ps) (resampled false cell ps)
unfolding resampled ended_at
resampled-last cell ps =
    by_cases (same_point (last_point (spaced cell ps)) (last_point ps)) (λ t. rw t (inr t)) (λ t. rw t (inl (last-push (spaced cell ps) (last_point ps))))

resampled-few : (closed : Bool) (cell : Float) (ps : List Vec2) → 1 < length ps → length (resampled closed cell ps) ≤ length ps
unfolding resampled ended_at
resampled-few true cell ps h = (kept-all cell ps h).few
resampled-few false cell ps h =
    let k = kept-all cell ps h in
    by_cases (same_point (last_point (spaced cell ps)) (last_point ps)) (λ t. rw t k.few)
    (λ t. rw t (by_cases (ltb (length (spaced cell ps)) (length ps)) (λ u. omega (arith, length_push (spaced cell ps) (last_point ps), ltb-true (length (spaced cell ps)) (length ps) u))
    (λ u. never (sym t ∙ k.full (let z : length (spaced cell ps) ≡ length ps = omega (arith, ltb-false (length (spaced cell ps)) (length ps) u, k.few) in z) h))))

-- ---- a piece

module _ (cell : Float) (ps : List Vec2) where
  pub smooth_most : (closed : Bool) → length (smooth_of closed cell ps) ≤ length ps
  unfolding smooth_of
  smooth_most closed = by_cases (ltb (length ps) 3) (λ t. rw t (omega arith))
      (λ t. rw t (omega (arith, three_count closed ps, ltb-false (length ps) 3 t, resampled-few closed cell (loop (λ i q. averaged closed q) 0 3 ps) (omega (arith, three_count closed ps, ltb-false (length ps) 3 t)))))

  -- a piece with points keeps one at least
  pub smooth_some : (closed : Bool) → 0 < length ps → 0 < length (smooth_of closed cell ps)
  unfolding smooth_of
  smooth_some closed h = by_cases (ltb (length ps) 3) (λ t. rw t h) (λ t. rw t (resampled-some closed cell (loop (λ i q. averaged closed q) 0 3 ps)))

  pub open_first : nth (smooth_of false cell ps) 0 ≡ nth ps 0
  unfolding smooth_of
  open_first = by_cases (ltb (length ps) 3) (λ t. rw t refl) (λ t. rw t (resampled-first false cell (loop (λ i q. averaged false q) 0 3 ps) ∙ (three_ends ps).first))

  pub open_last : EndsAt (last_point ps) (smooth_of false cell ps)
  unfolding smooth_of
  open_last = by_cases (ltb (length ps) 3) (λ t. rw t (inl refl))
      (λ t. rw t (subst (λ (p : Vec2). EndsAt p (resampled false cell (loop (λ i q. averaged false q) 0 3 ps))) (three_ends ps).last (resampled-last cell (loop (λ i q. averaged false q) 0 3 ps))))

-- no piece that has points loses all of them
pub pieces-some : (cell : Float) (l : List Piece) → Each HasPoints l → Each HasPoints (map (smoothed cell) l)
unfolding Each smoothed
pieces-some cell [] h = tt
pieces-some cell (p ∷ l) h = (smooth_some cell p.points p.closed h.0, pieces-some cell l h.1)
