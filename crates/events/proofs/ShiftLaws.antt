-- Numbers of a slice moved up in place, the last one first, and triples put in the room so made. Assumes nothing.
use mathlib.Core.Path.{◌≡◌, refl, sym, ap, ◌∙◌, subst}
use mathlib.Core.List.{List, [], ◌∷◌, ◌++◌, append_assoc}
use Prim.Native.Nat.{ℕ, zero, suc, ◌+◌, ◌-◌, ◌*◌, ◌≤◌, ◌<◌}
use native.Mathlib.Omega.{arith}
use lib.ListN.{length, take, drop, get_or, set, length-set, length-take, take-append-drop, drop_of_length-le}
use lib.Seq.{drop-cons, take-set-le, drop-set-lt, take-take, get_or-take, get_or-set_same, drop-drop, take-append-le, drop_at}
use lib.Ieee.{Float, nan}
use Rattle.loops.specs.Loop.{turns, loop}
use Rattle.events.specs.Lent.{Triple, flat_triples, set3, set_triple, gap_triples, shift_up, put_from, put_all}
use Rattle.events.proofs.LentLaws.{take-set3, take-drop}

-- turn i moves the number at low + n - 1 - i
abbrev pub shift_one : ℕ → ℕ → ℕ → ℕ → List Float → List Float
shift_one low n d i w = set w (low + n - 1 - i + d) (get_or w (low + n - 1 - i) nan)

-- q numbers from the front are still to move
record Moved (end d q : ℕ) (l w : List Float) : Type 0 where
  pub long : length w ≡ length l
  pub front : take (q + d) w ≡ take (q + d) l
  pub back : drop (q + d) w ≡ drop q (take end l) ++ drop (end + d) l

module _ (end d : ℕ) (l : List Float) (fits : end + d ≤ length l) where
  moved-one : (p : ℕ) (w : List Float) → p < end → Moved end d (p + 1) l w → Moved end d p l (set w (p + d) (get_or w p nan))
  moved-one p w h m = record {
    long = length-set w (p + d) (get_or w p nan) ∙ m.long;
    front = take-set-le (p + d) w (p + d) (get_or w p nan) (omega arith)
        ∙ sym (take-take (p + d) (p + 1 + d) w (omega arith)) ∙ ap (take (p + d)) m.front ∙ take-take (p + d) (p + 1 + d) l (omega arith);
    back = drop-cons (set w (p + d) (get_or w p nan)) (p + d) nan (omega (arith, length-set w (p + d) (get_or w p nan), m.long))
        ∙ ap (λ (x : Float). x ∷ drop (suc (p + d)) (set w (p + d) (get_or w p nan))) (get_or-set_same w (p + d) (get_or w p nan) nan (omega (arith, m.long)) ∙ value)
        ∙ ap (λ (r : List Float). get_or (take end l) p nan ∷ r) (drop-set-lt (suc (p + d)) w (p + d) (get_or w p nan) (omega arith)
        ∙ ap (λ (k : ℕ). drop k w) (let z : suc (p + d) ≡ p + 1 + d = omega arith in z) ∙ m.back)
        ∙ ap (λ (k : ℕ). get_or (take end l) p nan ∷ (drop k (take end l) ++ drop (end + d) l)) (let z : p + 1 ≡ suc p = omega arith in z)
        ∙ ap (λ (r : List Float). r ++ drop (end + d) l) (sym (drop-cons (take end l) p nan (omega (arith, length-take end l))));
  }
    where
      value : get_or w p nan ≡ get_or (take end l) p nan
      value = sym (get_or-take (p + 1 + d) w p nan (omega arith)) ∙ ap (λ (r : List Float). get_or r p nan) m.front
          ∙ get_or-take (p + 1 + d) l p nan (omega arith) ∙ sym (get_or-take end l p nan h)

  moved_none : Moved end d end l l
  moved_none = record {
    long = refl;
    front = refl;
    back = ap (λ (r : List Float). r ++ drop (end + d) l) (sym (drop_of_length-le (take end l) {i = end} (omega (arith, length-take end l))));
  }

module _ (low n d : ℕ) (l : List Float) (fits : low + n + d ≤ length l) where
  moved-turns : (i : ℕ) → i ≤ n → Moved (low + n) d (low + n - i) l (turns (shift_one low n d) 0 i l)
  unfolding turns
  moved-turns zero h = subst (λ (q : ℕ). Moved (low + n) d q l l) (let z : low + n ≡ low + n - 0 = omega arith in z) (moved_none (low + n) d l fits)
  moved-turns (suc i) h =
      subst (λ (q : ℕ). Moved (low + n) d q l (shift_one low n d (0 + i) (turns (shift_one low n d) 0 i l))) (let z : low + n - 1 - (0 + i) ≡ low + n - suc i = omega arith in z)
      (moved-one (low + n) d l fits (low + n - 1 - (0 + i)) (turns (shift_one low n d) 0 i l) (omega arith)
      (subst (λ (q : ℕ). Moved (low + n) d q l (turns (shift_one low n d) 0 i l)) (let z : low + n - i ≡ low + n - 1 - (0 + i) + 1 = omega arith in z) (moved-turns i (omega arith))))

  -- for the proof of the loop
  pub shift_long : (i : ℕ) → i ≤ n → length (loop (shift_one low n d) 0 i l) ≡ length l
  unfolding loop
  shift_long i h = (moved-turns (i - 0) (omega arith)).long

  pub shift_is : loop (shift_one low n d) 0 n l ≡ shift_up low n d l
  unfolding loop shift_up
  shift_is =
      let m = moved-turns (n - 0) (omega arith) in
      sym (take-append-drop (low + n - (n - 0) + d) (turns (shift_one low n d) 0 (n - 0) l))
      ∙ ap (λ (r : List Float). r ++ drop (low + n - (n - 0) + d) (turns (shift_one low n d) 0 (n - 0) l)) m.front
      ∙ ap (λ (r : List Float). take (low + n - (n - 0) + d) l ++ r) m.back
      ∙ ap (λ (q : ℕ). take (q + d) l ++ (drop q (take (low + n) l) ++ drop (low + n + d) l)) (let z : low + n - (n - 0) ≡ low = omega arith in z)

-- ---- room made, and triples put there

drop-set3 : (l : List Float) (i : ℕ) (a b c : Float) → drop (i + 3) (set3 i a b c l) ≡ drop (i + 3) l
drop-set3 l i a b c =
    drop-set-lt (i + 3) (set (set l i a) (i + 1) b) (i + 2) c (omega arith)
    ∙ drop-set-lt (i + 3) (set l i a) (i + 1) b (omega arith)
    ∙ drop-set-lt (i + 3) l i a (omega arith)

pub set3-long : {A : Type 0} (l : List A) (i : ℕ) (a b c : A) → length (set3 i a b c l) ≡ length l
set3-long l i a b c = length-set (set (set l i a) (i + 1) b) (i + 2) c ∙ length-set (set l i a) (i + 1) b ∙ length-set l i a

put-all : (ts : List Triple) (k : ℕ) (l : List Float) → (k + length ts) * 3 ≤ length l → put_all k ts l ≡ take (k * 3) l ++ (flat_triples ts ++ drop ((k + length ts) * 3) l)
unfolding put_from flat_triples
put-all [] k l h = sym (ap (λ (n : ℕ). take (k * 3) l ++ drop n l) (let z : (k + 0) * 3 ≡ k * 3 = omega arith in z) ∙ take-append-drop (k * 3) l)
put-all (t ∷ ts) k l h =
    put-all ts (k + 1) (set_triple k t l) (omega (arith, set3-long l (k * 3) t.x t.y t.value))
    ∙ ap (λ (r : List Float). r ++ (flat_triples ts ++ drop ((k + 1 + length ts) * 3) (set_triple k t l)))
    (ap (λ (n : ℕ). take n (set_triple k t l)) (let z : (k + 1) * 3 ≡ k * 3 + 3 = omega arith in z) ∙ take-set3 l (k * 3) t.x t.y t.value (omega arith))
    ∙ append_assoc (take (k * 3) l) (t.x ∷ t.y ∷ t.value ∷ []) _
    ∙ ap (λ (r : List Float). take (k * 3) l ++ (t.x ∷ t.y ∷ t.value ∷ (flat_triples ts ++ r))) rest
  where
    rest : drop ((k + 1 + length ts) * 3) (set_triple k t l) ≡ drop ((k + suc (length ts)) * 3) l
    rest = ap (λ (n : ℕ). drop n (set_triple k t l)) (let z : (k + 1 + length ts) * 3 ≡ k * 3 + 3 + length ts * 3 = omega arith in z)
        ∙ sym (drop-drop (length ts * 3) (k * 3 + 3) (set_triple k t l))
        ∙ ap (drop (length ts * 3)) (drop-set3 l (k * 3) t.x t.y t.value)
        ∙ drop-drop (length ts * 3) (k * 3 + 3) l
        ∙ ap (λ (n : ℕ). drop n l) (let z : k * 3 + 3 + length ts * 3 ≡ (k + suc (length ts)) * 3 = omega arith in z)

-- moving the n triples of the pass on trial up and putting the new ones before them is the gap that `trial_moves` of `LentLaws` asks for
module _ (k n : ℕ) (new : List Triple) (l : List Float) (fits : k * 3 + n * 3 + length new * 3 ≤ length l) where
  -- the slice with room made
  abbrev pub big : List Float
  big = shift_up (k * 3) (n * 3) (length new * 3) l

  pub big_long : length big ≡ length l
  big_long = sym (ap length (shift_is (k * 3) (n * 3) (length new * 3) l fits)) ∙ shift_long (k * 3) (n * 3) (length new * 3) l fits (n * 3) (omega arith)

  front_long : length (take (k * 3 + length new * 3) l) ≡ k * 3 + length new * 3
  front_long = omega (arith, length-take (k * 3 + length new * 3) l)

  big_front : take (k * 3) big ≡ take (k * 3) l
  unfolding shift_up
  big_front = take-append-le (k * 3) (take (k * 3 + length new * 3) l) _ (omega (arith, front_long)) ∙ take-take (k * 3) (k * 3 + length new * 3) l (omega arith)

  big_back : drop ((k + length new) * 3) big ≡ take (n * 3) (drop (k * 3) l) ++ drop ((k + n + length new) * 3) l
  unfolding shift_up
  big_back =
      drop_at (take (k * 3 + length new * 3) l) _ _ (front_long ∙ (let z : k * 3 + length new * 3 ≡ (k + length new) * 3 = omega arith in z))
      ∙ ap (λ (i : ℕ). drop (k * 3) (take i l) ++ drop (k * 3 + n * 3 + length new * 3) l) (let z : k * 3 + n * 3 ≡ n * 3 + k * 3 = omega arith in z)
      ∙ ap (λ (r : List Float). r ++ drop (k * 3 + n * 3 + length new * 3) l) (sym (take-drop l (k * 3) (n * 3)))
      ∙ ap (λ (i : ℕ). take (n * 3) (drop (k * 3) l) ++ drop i l) (let z : k * 3 + n * 3 + length new * 3 ≡ (k + n + length new) * 3 = omega arith in z)

  pub gap_is : put_all k new big ≡ gap_triples k n new l
  unfolding gap_triples
  gap_is =
      put-all new k big (omega (arith, big_long))
      ∙ ap (λ (r : List Float). r ++ (flat_triples new ++ drop ((k + length new) * 3) big)) big_front
      ∙ ap (λ (r : List Float). take (k * 3) l ++ (flat_triples new ++ r)) big_back
