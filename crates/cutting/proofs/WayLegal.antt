-- The way to a pass on trial is legal events, and so is the pass kept where the way ends. Assumes nothing.
use Rattle.passes.specs.Start.{Place}
use Rattle.std.specs.Prelude.{Some, None}
use mathlib.Core.Path.{◌≡◌, refl, sym, ap, ◌∙◌, subst}
use mathlib.Core.Bool.{Bool, true, false}
use mathlib.Core.List.{List, [], ◌∷◌, ◌++◌, map}
use mathlib.Core.Option.{Option, none, some}
use Prim.Native.Nat.{ℕ, suc, ◌+◌}
use native.Mathlib.Omega.{arith}
use lib.Ieee.{Float}
use Rattle.loops.proofs.Cases.{by_cases, by_test, never}
use Rattle.loops.proofs.EachLaws.{map_more}
use Rattle.geom.specs.declared.vec2.Vec2.{Vec2}
use Rattle.raster.specs.Grid.{Sides}
use Rattle.raster.specs.Log.{Stock, st, redone}
use Rattle.raster.proofs.LogLaws.{Kept as Cleared, st_eq}
use Rattle.setup.specs.declared.Setup.{Setup}
use Rattle.links.specs.Straight.{link_clear}
use Rattle.links.specs.Path.{Way, lost, way, Chained}
use Rattle.links.specs.Link.{Linked, link_path}
use Rattle.links.proofs.WayLaws.{link-chained, link_straight_way}
use Rattle.events.specs.Chunk.{Point, Chunk, plunge, link, cut, Entry, Job}
use Rattle.events.specs.Replay.{spots, gone_to, BeginsGood}
use Rattle.events.specs.Events.{linked, kept, State, state, put_back_all, take_again, step, steps, NoWayChecked, Unlinked, nowhere, lifted, denied, PlungeChecked, KeepChecked, LegalFrom}
use Rattle.events.specs.Told.{how_many, events_of}
use Rattle.events.specs.Read.{spot_at, point_at, points_from}
use Rattle.events.proofs.WayLaws.{way-is, no-way-is, WayChecked, way_legal}
use Rattle.events.proofs.PassLaws.{last_more, first-point}
use Rattle.passes.specs.Tried.{job_at}
use Rattle.cutting.specs.Way.{route_of, way_chunks}
use Rattle.cutting.specs.Piece.{way_events}

-- where the tool is, as the events have it
abbrev pub position_of : Place → Option Vec2
position_of None = none
position_of (Some p) = some p

-- ---- no place of a helix is given up on the way

links-places : (ws : List Vec2) → events_of 5 (map linked ws) ≡ 0
unfolding how_many
links-places [] = refl
links-places (w ∷ ws) = omega (arith, links-places ws)

pub way-places : (down : Bool) (pos : Place) (w : Way) (q : Vec2) → events_of 5 (way_events down pos w q) ≡ 0
unfolding way_events how_many
way-places down None w q = refl
way-places true (Some a) lost q = refl
way-places false (Some a) lost q = refl
way-places down (Some a) (way ws) q = links-places ws

-- ---- the way to the pass on trial

module _ (s : Setup) (wall vs : List Float) (lens m : List ℕ) where
  -- a way from a place to q; from nowhere there is none, and where one is asked for and lost the straight feed is not clear
  abbrev pub Leads : Place → Way → Vec2 → Type 0
  Leads None lost q = Unit {0}
  Leads None (way ps) q = ⊥
  Leads (Some a) lost q = s.keep_down ≡ true → link_clear s wall vs lens m a q ≡ false
  Leads (Some a) (way ps) q = Chained (link_clear s wall vs lens m) a ps q

  module _ (S : Sides s.grid) (allowed : List ℕ) (q : Vec2) where
    -- the straight feed is tried first
    lost-blocked : (a : Vec2) → (link_path s wall vs lens m allowed a q).path ≡ lost → link_clear s wall vs lens m a q ≡ false
    lost-blocked a e =
        by_cases (link_clear s wall vs lens m a q)
        (λ c. let x = ap (λ (l : Linked). l.path) (link_straight_way s wall vs lens m allowed a q c) in absurd (let z : ◌≡◌ {A = ℕ} 0 1 = cc in omega arith))
        (λ c. c)

    link-leads : (a : Vec2) (p : Way) → (link_path s wall vs lens m allowed a q).path ≡ p → Leads (Some a) p q
    link-leads a lost e = λ d. lost-blocked a e
    link-leads a (way ps) e = link-chained s S wall vs lens m allowed a q ps e

    pub route_leads : (pos : Place) → Leads pos (route_of s wall vs lens m allowed pos q).path q
    unfolding route_of
    route_leads None = tt
    route_leads (Some a) = by_test (λ (r : Linked). Leads (Some a) r.path q) s.keep_down _ _ (λ b. link-leads a _ refl) (λ b d. never (sym b ∙ d))

module _ (s : Setup) (wall vs : List Float) (lens start : List ℕ) (limit : Float) (entry : Entry) (m : List ℕ) where
  abbrev j : Job
  j = job_at s wall vs lens start limit entry

  chained_checked : (a : Vec2) (ps : List Vec2) (b : Vec2) → Chained (link_clear s wall vs lens m) a ps b → WayChecked j m a ps
  chained_checked a [] b h = tt
  chained_checked a (p ∷ ps) b h = (h.0, chained_checked p ps b h.1)

  chained-last : (a : Vec2) (ps : List Vec2) (b : Vec2) → Chained (link_clear s wall vs lens m) a ps b → gone_to (some a) ps ≡ some b
  chained-last a [] b h = ap some h
  chained-last a (p ∷ ps) b h = chained-last p ps b h.1

  -- k is the stock with the pass on trial
  module _ (k : Stock) (l : List ℕ) (K : Cleared (st m l 0) k) (cs : List Chunk) (ps : List Point) (p : Point) (B : BeginsGood j m p) (gone : List ℕ) where
    abbrev q : Vec2
    q = p.at

    abbrev trial_at : Place → State
    trial_at pos = state k cs (position_of pos) (some ps) none gone

    abbrev arrived : Way → State
    arrived w = state k (cs ++ way_chunks w q) (some q) (some ps) none gone

    same : take_again (put_back_all k) ≡ k
    same = st_eq (ap (redone k.log 0 k.count) K.back ∙ K.again) refl refl

    down_checked : (f : State) → f.stock ≡ k → Unlinked j f q → PlungeChecked j f q
    down_checked f e u = record {
      allowed = B.allowed;
      free = ap (λ (x : Stock). j.free (put_back_all x).cells q) e ∙ ap (λ (x : List ℕ). j.free x q) K.back ∙ B.free;
      unlinked = u;
    }

    refused_checked : (a : Vec2) → s.keep_down ≡ true → link_clear s wall vs lens m a q ≡ false → NoWayChecked j (trial_at (Some a)) q
    refused_checked a d h = record { from = a; here = refl; down = d; blocked = ap (λ (x : List ℕ). link_clear s wall vs lens x a q) K.back ∙ h }

    pub way_goes : (down : Bool) → s.keep_down ≡ down → (pos : Place) (w : Way) → Leads s wall vs lens m pos w q → LegalFrom j (trial_at pos) (way_events down pos w q)
    unfolding way_events step
    way_goes down d None lost h = (down_checked (trial_at None) refl (nowhere refl), tt)
    way_goes down d None (way ws) h = absurd h
    way_goes true d (Some a) lost h = (refused_checked a d (h d), (down_checked _ same (denied refl), tt))
    way_goes false d (Some a) lost h = (down_checked (trial_at (Some a)) refl (lifted d), tt)
    way_goes down d (Some a) (way ws) h =
        way_legal j ws (trial_at (Some a)) same a refl (subst (λ (x : List ℕ). WayChecked j x a ws) (sym K.back) (chained_checked a ws q h))

    -- listed between one undoing and one clearing again
    pub way_leaves : (down : Bool) (pos : Place) (w : Way) → Leads s wall vs lens m pos w q → steps j (trial_at pos) (way_events down pos w q) ≡ arrived w
    unfolding way_events way_chunks steps step
    way_leaves down None lost h = ap (λ (x : Stock). state x (cs ++ (plunge q ∷ [])) (some q) (some ps) none gone) same
    way_leaves down None (way ws) h = absurd h
    way_leaves true (Some a) lost h = no-way-is j q (trial_at (Some a)) same ∙ ap (λ (x : Stock). state x (cs ++ (plunge q ∷ [])) (some q) (some ps) none gone) same
    way_leaves false (Some a) lost h = ap (λ (x : Stock). state x (cs ++ (plunge q ∷ [])) (some q) (some ps) none gone) same
    way_leaves down (Some a) (way ws) h =
        way-is j ws (trial_at (Some a)) same refl
        ∙ (λ i. state (same i) (cs ++ map link ws) (chained-last a ws q h i) (some ps) none gone)

-- ---- the pass kept

gone-last : (h : Option Vec2) (ps : List Point) (q : Point) → gone_to h (spots (ps ++ (q ∷ []))) ≡ some q.at
gone-last h ps q = ap (gone_to h) (map_more (λ (p : Point). p.at) ps q) ∙ last_more some h (spots ps) q.at

module _ (j : Job) (m : List ℕ) (k : Stock) (l : List ℕ) (K : Cleared (st m l 0) k) (o : List Float) (at n : ℕ) (gone : List ℕ) where
  abbrev pts : List Point
  pts = points_from o at (suc n)

  pub keep_checked : (rows : List Chunk) → KeepChecked (state k rows (some (spot_at o at)) (some pts) none gone)
  keep_checked rows = record { first = point_at o at; rest = points_from o (at + 1) n; on = ap some (first-point o at n); arrived = refl }

  pub keep_leaves : (rows : List Chunk)
      → step j (state k rows (some (spot_at o at)) (some pts) none gone) kept ≡ state (st (redone k.log 0 k.count m) k.log 0) (rows ++ (cut pts ∷ [])) (some (spot_at o (at + n))) none none gone
  unfolding step
  keep_leaves rows = λ i. state (st (sym K.again i) k.log 0) (rows ++ (cut pts ∷ [])) (gone-last (some (spot_at o at)) (points_from o at n) (point_at o (at + n)) i) none none gone
