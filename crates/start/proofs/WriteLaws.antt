-- Loops that write a region of a slice place by place, and read other regions of it. Assumes nothing.
use mathlib.Core.Path.{◌≡◌, refl, sym, ap, ◌∙◌, subst}
use mathlib.Core.List.{List, [], ◌∷◌, ◌++◌}
use Prim.Native.Nat.{ℕ, zero, suc, ◌+◌, ◌-◌, ◌*◌, ◌≤◌, ◌<◌}
use native.Mathlib.Omega.{arith}
use lib.ListN.{length, get_or, set, take, drop, replicate, length-set, length-replicate, get_or-replicate}
use lib.Seq.{ext_get_or}
use borrow.Rule.Slice.PartMut.{put_mid, set_mid_at}
use Rattle.loops.specs.Loop.{loop}
use Rattle.loops.specs.Regions.{Fits, within, put}
use Rattle.loops.specs.Frame.{Only}
use Rattle.loops.proofs.LoopLaws.{Going, loop_both}
use Rattle.loops.proofs.RegionLaws.{region-long}
use Rattle.loops.proofs.SetLaws.{set-within}
use Rattle.loops.proofs.FrameLaws.{back-only, only_same, only_more}
use Rattle.distance.specs.Nearest.{listed}
use Rattle.distance.proofs.NearestLaws.{listed-long, listed_at}
use Rattle.field.proofs.RoundLaws.{write_at, written_all}
use Rattle.setup.specs.Layout.{run, put_run}
use Rattle.setup.proofs.PartLaws.{part_is, part_long, run_long, back_is}
use Rattle.pieces.proofs.PartLaws.{within_get}
use Rattle.setup.proofs.LayoutLaws.{run_other}

-- ---- fits loops: a region written place by place

-- place a + k is given the value g k
abbrev pub write_from : {A : Type 0} → ℕ → (ℕ → A) → ℕ → List A → List A
write_from a g k l = set l (a + k) (g k)

module _ {A : Type 0} (d : A) (a n : ℕ) (g : ℕ → A) (b : List A) (h : a + n ≤ length b) where
  record Wrote (s u : List A) : Type 0 where
    there : within a (a + n) s ≡ u
    only : Only a (a + n) b s

  fits : Fits a (a + n) b
  fits = record { start = omega arith; end = h }

  set-only : (s : List A) (i : ℕ) (v : A) → Only a (a + n) b s → i < n → Only a (a + n) b (set s (a + i) v)
  set-only s i v o l =
      let f : Fits a (a + n) s = record { start = omega arith; end = omega (arith, o.long) } in
      let part = take (a + n - a) (drop a s) in
      let r : length part ≡ a + n - a = region-long a (a + n) s f in
      let m : a + n - a ≡ n = omega arith in
      only_more a (a + n) b fits s o (set s (a + i) v)
      (subst (Only a (a + n) s) (set_mid_at a (a + n - a) i s v (omega arith)) (back-only a (a + n) s f (set part i v) (length-set part i v)))

  wrote : (k : ℕ) → k ≤ n → Wrote (loop (write_from a g) 0 k b) (loop (write_at d g) 0 k (within a (a + n) b))
  wrote k l =
      loop_both (write_from a g) (write_at d g) (λ i s u. Wrote s u) 0 k (omega arith)
      (λ i s u x y w. record { there = set-within s (g i) a (a + n) i (omega arith) ∙ ap (λ (q : List A). set q i (g i)) w.there; only = set-only s i (g i) w.only (omega arith) })
      b (within a (a + n) b) (record { there = refl; only = only_same a (a + n) b fits })

  -- in the loop, nothing else has changed
  pub going_only : (t : List A) (k : ℕ) → Going (write_from a g) 0 n b t k → Only a (a + n) b t
  going_only t k i = subst (Only a (a + n) b) (sym i.is) (wrote k (omega (arith, i.high))).only

  -- the region as a whole
  pub wrote-all : loop (write_from a g) 0 n b ≡ put a (a + n) (listed n g) b
  unfolding within
  wrote-all =
      let w = wrote n (omega arith) in
      let m : a + n - a ≡ n = omega arith in
      let r : length (within a (a + n) b) ≡ n = region-long a (a + n) b fits ∙ m in
      w.only.rest
      ∙ ap (λ (q : List A). put a (a + n) q b)
      (w.there
      ∙ ap (λ (k : ℕ). loop (write_at d g) 0 k (within a (a + n) b)) (sym r)
      ∙ written_all d g (within a (a + n) b)
      ∙ ap (λ (k : ℕ). listed k g) r)

-- ---- fits setup: the same of a run of n places

module _ {A : Type 0} (n k a : ℕ) (K : a ≡ k * n) (b : List A) (h : k * n + n ≤ length b) where
  pub put-run-is : (r : List A) → put a (a + n) r b ≡ put_run k n r b
  put-run-is r = ap (λ (z : ℕ). put z (z + n) r b) K

  pub run_written : (d : A) (g : ℕ → A) (b' : List A) → b' ≡ loop (write_from a g) 0 n b → b' ≡ put_run k n (listed n g) b
  run_written d g b' e = e ∙ wrote-all d a n g b (omega arith) ∙ put-run-is (listed n g)

  -- a place of another run, while this one is written
  pub read-run : (b' : List A) → Only a (a + n) b b' → (j c : ℕ) → (j ≡ k → ⊥) → c ≡ j * n → (i : ℕ) (d : A) → i < n → get_or b' (c + i) d ≡ get_or (run j n b) i d
  read-run b' o j c x J i d l =
      let o' : Only (k * n) (k * n + n) b b' = subst (λ (z : ℕ). Only z (z + n) b b') K o in
      let long = o'.long in
      let same : run j n b' ≡ run j n b = ap (run j n) o'.rest ∙ run_other n b (run k n b') (run_long k n b' (omega arith)) k j h x in
      ap (λ (z : ℕ). get_or b' (z + i) d) J ∙ sym (within_get d (j * n) (j * n + n) b' i (omega arith)) ∙ ap (λ (q : List A). get_or q i d) same

-- ---- fits distance: lists by their numbers

pub listed_same : {A : Type 0} (f g : ℕ → A) (n : ℕ) → ((k : ℕ) → k < n → f k ≡ g k) → listed n f ≡ listed n g
unfolding listed
listed_same f g zero h = refl
listed_same {A} f g (suc n) h =
    ap (λ (l : List A). l ++ (f n ∷ [])) (listed_same f g n (λ k l. h k (omega arith)))
    ∙ ap (λ (x : A). listed n g ++ (x ∷ [])) (h n (omega arith))

pub listed_self : {A : Type 0} (d : A) (l : List A) (n : ℕ) → length l ≡ n → listed n (λ k. get_or l k d) ≡ l
listed_self d l n e =
    ext_get_or d (listed n (λ k. get_or l k d)) l (listed-long (λ k. get_or l k d) d n ∙ sym e)
    (λ i b. listed_at (λ k. get_or l k d) d n i (omega (arith, listed-long (λ k. get_or l k d) d n)))

-- ---- a run of places that all hold one value

abbrev pub zeros : ℕ → List ℕ
zeros n = replicate n 0

pub same-run : {A : Type 0} (v : A) (k n m : ℕ) → k * n + n ≤ m → run k n (replicate m v) ≡ replicate n v
same-run {A} v k n m h =
    let all : List A = replicate m v in
    let l : length all ≡ m = length-replicate m v in
    let r : length (run k n all) ≡ n = run_long k n all (omega arith) in
    ext_get_or v (run k n all) (replicate n v) (r ∙ sym (length-replicate n v))
    (λ i b. within_get v (k * n) (k * n + n) all i (omega arith) ∙ get_or-replicate m (k * n + i) v v (omega arith) ∙ sym (get_or-replicate n i v v (omega arith)))

-- ---- a run filled with zeros

module _ (k n a : ℕ) (b t : List ℕ) (K : a ≡ k * n) (h : k * n + n ≤ length b) (T : t ≡ replicate (length (take (a + n - a) (drop a b))) 0) where
  zeroed_part : t ≡ zeros n
  zeroed_part = T ∙ ap zeros (part_long k n a (a + n) b K refl h)

  pub zeroed_is : put_mid a (a + n - a) b t ≡ put_run k n (zeros n) b
  zeroed_is = back_is k n a (a + n) b t K refl h ∙ ap (λ (l : List ℕ). put_run k n l b) zeroed_part

-- ---- fits setup: a run that is lent and comes back as f of what it was

pub lent-put : {A : Type 0} (f : List A → List A) (k n m a : ℕ) (b t : List A) → n ≡ m → a ≡ k * n → k * m + m ≤ length b → t ≡ f (take (a + n - a) (drop a b)) → put_mid a (a + n - a) b t ≡ put_run k m (f (run k m b)) b
lent-put {A} f k n m a b t N K h T =
    let l : k * n + n ≤ length b = subst (λ (z : ℕ). k * z + z ≤ length b) (sym N) h in
    back_is k n a (a + n) b t K refl l
    ∙ ap (λ (q : List A). put_run k n q b) (T ∙ ap f (part_is k n a (a + n) b K refl))
    ∙ ap (λ (z : ℕ). put_run k z (f (run k z b)) b) N
