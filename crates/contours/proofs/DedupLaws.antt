-- A point more at the end is kept or left out by the last one that is kept. Assumes nothing.
use Rattle.std.proofs.Common.{◌≡◌, ℕ, suc, ◌+◌, ◌*◌, ◌<◌, ◌≤◌, Bool, true, false, cond, List, [], ◌∷◌, ◌++◌, length, sym, refl, ap, ◌∙◌, arith}
use lib.Ieee.{Float}
use Rattle.loops.proofs.Cases.{by_cases}
use Rattle.geom.specs.Points.{points, put_point}
use Rattle.geom.specs.declared.vec2.Vec2.{Vec2}
use Rattle.geom.proofs.PointLaws.{points_more}
use Rattle.contours.specs.Chain.{last_from, last_kept, Trailing, extended, put_kept}
use Rattle.contours.specs.Curve.{near, thinned, deduped}
use Rattle.contours.specs.declared.chain.Trail.{Trail}

last_more : (q p : Vec2) (ps : List Vec2) → last_from q (ps ++ (p ∷ [])) ≡ p
unfolding last_from
last_more q p [] = refl
last_more q p (r ∷ ps) = last_more r p ps

cond_out : (b : Bool) (r : Vec2) (x y : List Vec2) → r ∷ cond b x y ≡ cond b (r ∷ x) (r ∷ y)
cond_out true r x y = refl
cond_out false r x y = refl

thinned_more : (q p : Vec2) (ps : List Vec2) → thinned q (ps ++ (p ∷ [])) ≡ cond (near p (last_kept q ps)) (thinned q ps) (thinned q ps ++ (p ∷ []))
unfolding thinned last_from
thinned_more q p [] = refl
thinned_more q p (r ∷ ps) = by_cases (near r q)
    (λ a. rw a (thinned_more q p ps))
    (λ a. rw a (ap (λ (l : List Vec2). r ∷ l) (thinned_more r p ps) ∙ cond_out (near p (last_kept r ps)) r (thinned r ps) (thinned r ps ++ (p ∷ []))))

thinned-few : (q : Vec2) (ps : List Vec2) → length (thinned q ps) ≤ length ps
unfolding thinned
thinned-few q [] = omega arith
thinned-few q (p ∷ ps) = by_cases (near p q) (λ a. rw a (omega (arith, thinned-few q ps))) (λ a. rw a (omega (arith, thinned-few p ps)))

-- no point is added
pub deduped-few : (ps : List Vec2) → length (deduped ps) ≤ length ps
unfolding deduped
deduped-few [] = omega arith
deduped-few (p ∷ ps) = omega (arith, thinned-few p ps)

-- the points of the slice are those kept of one more
pub trailing_more : (first : ℕ) (q p : Vec2) (ps : List Vec2) (t : Trail) (w : List Float) → Trailing first q ps t w → 2 * (first + t.kept) + 1 < length w
    → Trailing first q (ps ++ (p ∷ [])) (extended p t) (put_kept first p t w)
unfolding extended put_kept deduped
trailing_more first q p ps t w h b = by_cases (near p t.last)
    (λ a. rw a (let n : near p (last_kept q ps) ≡ true = ap (near p) (sym h.last) ∙ a in record {
      is = h.is ∙ sym (ap (λ (l : List Vec2). q ∷ l) (thinned_more q p ps ∙ ap (λ (c : Bool). cond c (thinned q ps) (thinned q ps ++ (p ∷ []))) n));
      last = h.last ∙ sym (ap (last_from q) (thinned_more q p ps ∙ ap (λ (c : Bool). cond c (thinned q ps) (thinned q ps ++ (p ∷ []))) n));
    }))
    (λ a. rw a (let n : near p (last_kept q ps) ≡ false = ap (near p) (sym h.last) ∙ a in
    let m : thinned q (ps ++ (p ∷ [])) ≡ thinned q ps ++ (p ∷ []) = thinned_more q p ps ∙ ap (λ (c : Bool). cond c (thinned q ps) (thinned q ps ++ (p ∷ []))) n in record {
      is = ap (λ (k : ℕ). points first k (put_point (first + t.kept) p w)) (let z : t.kept + 1 ≡ suc t.kept = omega arith in z)
          ∙ points_more first t.kept p w b ∙ ap (λ (l : List Vec2). l ++ (p ∷ [])) h.is ∙ sym (ap (λ (l : List Vec2). q ∷ l) m);
      last = sym (ap (last_from q) m ∙ last_more q p (thinned q ps));
    }))
