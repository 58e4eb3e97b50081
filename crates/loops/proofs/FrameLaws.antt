-- A slice of which a region was lent and came back: what stands there, and that nothing else changed. Assumes nothing.
use mathlib.Core.Path.{◌≡◌, refl, sym, ap, ◌∙◌}
use mathlib.Core.List.{List, ◌++◌}
use Prim.Native.Nat.{ℕ, ◌+◌, ◌-◌, ◌≤◌}
use native.Mathlib.Omega.{arith}
use lib.ListN.{length, take, drop}
use lib.Seq.{take_at, take-take, drop-drop, length-take-le}
use borrow.Rule.Slice.PartMut.{put_mid, take_put, drop_put, put_same}
use Rattle.loops.specs.Regions.{Fits, within, put}
use Rattle.loops.specs.Frame.{Only}
use Rattle.loops.proofs.RegionLaws.{region-long, put_is, put-long, put_back, put-length, put-before, put-after, put_again}

module _ {A : Type 0} (a e : ℕ) (w : List A) (h : Fits a e w) where
  module _ (r : List A) (l : length r ≡ length (take (e - a) (drop a w))) where
    pub back_there : within a e (put_mid a (e - a) w r) ≡ r
    back_there = ap (within a e) (put_is a e w h r r refl) ∙ put_back a e w r h (l ∙ region-long a e w h)

    pub back-first : take a (put_mid a (e - a) w r) ≡ take a w
    back-first = take_put a (e - a) w r (omega (arith, h.start, h.end))

    pub back-only : Only a e w (put_mid a (e - a) w r)
    back-only = record { long = put-long a e w h r l; rest = put_is a e w h r r refl ∙ ap (λ (x : List A). put a e x w) (sym back_there) }

  pub put_only : (r : List A) → length r ≡ e - a → Only a e w (put a e r w)
  put_only r l = record { long = put-length a e w r h l; rest = ap (λ (x : List A). put a e x w) (sym (put_back a e w r h l)) }

  pub only_same : Only a e w w
  unfolding within
  only_same = record { long = refl; rest = sym (put_same a (e - a) w) ∙ put_is a e w h _ _ refl }

  module _ (u : List A) (o : Only a e w u) where
    pub only-fits : Fits a e u
    only-fits = record { start = h.start; end = omega (arith, h.end, o.long) }

    region : length (within a e u) ≡ e - a
    unfolding within
    region = region-long a e u only-fits

    pub only_more : (v : List A) → Only a e u v → Only a e w v
    only_more v p = record {
      long = p.long ∙ o.long;
      rest = p.rest ∙ ap (put a e (within a e v)) o.rest ∙ put_again a e w (within a e v) (within a e u) h region;
    }

    pub only-before : (b f : ℕ) → b ≤ f → f ≤ a → within b f u ≡ within b f w
    only-before b f p q = ap (within b f) o.rest ∙ put-before a e w (within a e u) h region b f p q

    pub only-after : (b f : ℕ) → e ≤ b → within b f u ≡ within b f w
    only-after b f p = ap (within b f) o.rest ∙ put-after a e w (within a e u) h region b f p

-- ---- a region within a larger one

module _ {A : Type 0} (a e : ℕ) (w u : List A) (h : Fits a e w) (o : Only a e w u) where
  only-first : take a u ≡ take a w
  unfolding put
  only-first = ap (take a) o.rest ∙ take_at (take a w) (within a e u ++ drop e w) a (length-take-le a w (omega (arith, h.start, h.end)))

  only-last : drop e u ≡ drop e w
  unfolding within
  only-last =
      ap (drop e) (o.rest ∙ sym (put_is a e w h (within a e u) (within a e u) refl))
      ∙ drop_put a e w (within a e u) h.start h.end (region-long a e u (only-fits a e w h u o))

  pub only-rest : (f : ℕ) → e ≤ f → drop f u ≡ drop f w
  only-rest f q =
      let n : e + (f - e) ≡ f = omega arith in
      ap (λ (i : ℕ). drop i u) (sym n) ∙ sym (drop-drop (f - e) e u) ∙ ap (drop (f - e)) only-last ∙ drop-drop (f - e) e w ∙ ap (λ (i : ℕ). drop i w) n

  pub only_wider : (b f : ℕ) → b ≤ a → e ≤ f → f ≤ length w → Only b f w u
  unfolding put
  only_wider b f p q r =
      let k : Fits b f u = record { start = omega (arith, h.start); end = omega (arith, o.long) } in
      let t : take b u ≡ take b w = sym (take-take b a u p) ∙ ap (take b) only-first ∙ take-take b a w p in
      let d : drop f u ≡ drop f w = only-rest f q in
      record {
        long = o.long;
        rest = (only_same b f u k).rest ∙ ap (λ (x : List A). x ++ (within b f u ++ drop f u)) t ∙ ap (λ (x : List A). take b w ++ (within b f u ++ x)) d;
      }
