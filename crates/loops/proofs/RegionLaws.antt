-- What comes back of a part that was lent, `put_mid a (e - a) w r`, is `put a e r w`; its length is as it was. More laws of it are in `borrow.Rule.Slice.PartMut`. Assumes nothing.
use mathlib.Core.Path.{◌≡◌, sym, ap, ◌∙◌}
use mathlib.Core.List.{List, ◌++◌}
use Prim.Native.Nat.{ℕ, ◌+◌, ◌-◌, ◌≤◌}
use native.Mathlib.Omega.{arith}
use lib.ListN.{length, take, drop, take-append-drop, length-append, length-take, length-drop}
use lib.Seq.{take_at, drop_at, take-append-le, drop-append-le, drop-append-add}
use borrow.Rule.Slice.PartMut.{put_mid, Post-is, mid_len, same_len_mid}
use Rattle.loops.specs.Regions.{Fits, within, put}

module _ {A : Type 0} (a e : ℕ) (w : List A) (h : Fits a e w) where
  pub region-long : length (take (e - a) (drop a w)) ≡ e - a
  region-long = mid_len a e w h.end

  pub put_is : (r s : List A) → r ≡ s → put_mid a (e - a) w r ≡ put a e s w
  unfolding put
  put_is r s d = ap (λ (l : List A). take a w ++ (r ++ l)) (Post-is a e w h.start) ∙ ap (λ (l : List A). take a w ++ (l ++ drop e w)) d

  pub put-long : (r : List A) → length r ≡ length (take (e - a) (drop a w)) → length (put_mid a (e - a) w r) ≡ length w
  put-long r d = same_len_mid a (e - a) w r d

-- ---- a region is read back after it was put, and any other is as it was

module _ {A : Type 0} (a e : ℕ) (w r : List A) (h : Fits a e w) (l : length r ≡ e - a) where
  front : length (take a w) ≡ a
  front = let k = h.start in let m = h.end in simp length-take (omega arith)

  pub put_back : within a e (put a e r w) ≡ r
  unfolding within put
  put_back =
      ap (take (e - a)) (drop_at (take a w) (r ++ drop e w) a front) ∙ take_at r (drop e w) (e - a) l

  pub put-length : length (put a e r w) ≡ length w
  unfolding put
  put-length = let k = h.start in let m = h.end in let f = front in simp (length-append, length-drop) (omega arith)

  -- a region before it
  pub put-before : (b f : ℕ) → b ≤ f → f ≤ a → within b f (put a e r w) ≡ within b f w
  unfolding within put
  put-before b f p q =
      same (r ++ drop e w) ∙ sym (same (drop a w)) ∙ ap (λ (z : List A). take (f - b) (drop b z)) (take-append-drop a w)
    where
      same : (x : List A) → take (f - b) (drop b (take a w ++ x)) ≡ take (f - b) (drop b (take a w))
      same x =
          let m : b ≤ length (take a w) = omega (arith, front) in
          let n : f - b ≤ length (drop b (take a w)) = simp length-drop (omega (arith, front)) in
          ap (take (f - b)) (drop-append-le b (take a w) x m) ∙ take-append-le (f - b) (drop b (take a w)) x n

  -- a region after it
  pub put-after : (b f : ℕ) → e ≤ b → within b f (put a e r w) ≡ within b f w
  unfolding within put
  put-after b f p = ap (take (f - b)) (past ∙ sym rest)
    where
      past : drop b (take a w ++ (r ++ drop e w)) ≡ drop (b - e) (drop e w)
      past =
          let s = h.start in
          ap (λ (k : ℕ). drop k (take a w ++ (r ++ drop e w))) (let z : b ≡ length (take a w) + (length r + (b - e)) = omega (arith, front) in z)
          ∙ drop-append-add (take a w) (r ++ drop e w) (length r + (b - e))
          ∙ drop-append-add r (drop e w) (b - e)

      rest : drop b w ≡ drop (b - e) (drop e w)
      rest =
          let m = h.end in
          let f : length (take e w) ≡ e = simp length-take (omega arith) in
          ap (drop b) (sym (take-append-drop e w))
          ∙ ap (λ (k : ℕ). drop k (take e w ++ drop e w)) (let z : b ≡ length (take e w) + (b - e) = omega (arith, f) in z)
          ∙ drop-append-add (take e w) (drop e w) (b - e)

-- what is put where something was put stands in its place
pub put_again : {A : Type 0} (a e : ℕ) (w x y : List A) → Fits a e w → length y ≡ e - a → put a e x (put a e y w) ≡ put a e x w
unfolding put
put_again {A} a e w x y h l =
    let s = h.start in
    let m = h.end in
    let front : length (take a w) ≡ a = simp length-take (omega arith) in
    ap (λ (t : List A). t ++ (x ++ drop e (take a w ++ (y ++ drop e w)))) (take_at (take a w) (y ++ drop e w) a front)
    ∙ ap (λ (t : List A). take a w ++ (x ++ t))
    (ap (λ (k : ℕ). drop k (take a w ++ (y ++ drop e w))) (let z : e ≡ length (take a w) + (e - a) = omega arith in z)
    ∙ drop-append-add (take a w) (y ++ drop e w) (e - a) ∙ drop_at y (drop e w) (e - a) l)
