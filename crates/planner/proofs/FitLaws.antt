-- A job that is fit, made ready and planned: what stands in the lent slices is what the job's definition starts from. Assumes nothing.
use mathlib.Core.Path.{◌≡◌, refl, sym, ap, ◌∙◌, subst}
use mathlib.Core.Bool.{Bool}
use mathlib.Core.List.{List, ◌∷◌}
use Prim.Native.Nat.{ℕ, zero, suc, ◌*◌, ◌≤◌}
use native.Mathlib.Omega.{arith}
use lib.ListN.{length, take, replicate, length-replicate}
use lib.Ieee.{Float}
use Rattle.geom.specs.Vec.{f0}
use Rattle.raster.specs.Grid.{Sides}
use Rattle.raster.specs.declared.grid.Grid.{Grid}
use Rattle.setup.specs.Layout.{run}
use Rattle.setup.specs.Made.{setup_of}
use Rattle.setup.specs.Place.{cells_of}
use Rattle.setup.specs.declared.Setup.{Setup}
use Rattle.field.specs.Field.{s0}
use Rattle.workspace.specs.Standing.{Standing}
use Rattle.entry.specs.Regions.{pocket_of, AllHeld}
use Rattle.entry.specs.Admitted.{Admitted}
use Rattle.entry.specs.Questions.{helix_of, judged_of}
use Rattle.entry.specs.declared.params.AdaptiveParams.{AdaptiveParams}
use Rattle.std.specs.Prelude.{Result, Ok, Err}
use Rattle.entry.specs.declared.questions.Question.{Question}
use Rattle.start.specs.Start.{stock_of, may_in, reach_of, Started}
use Rattle.start.specs.Steps.{Room}
use Rattle.start.proofs.StartLaws.{room_of}
use Rattle.start.proofs.WriteLaws.{same-run}
use Rattle.report.specs.Zero.{Lent, lent}
use Rattle.plan.specs.Parts.{Ground, Slices, slices, slices_in, ground_in}
use Rattle.planner.specs.Planner.{Job, Answer, job, setup_for, start_of, ground_of, slices_of, threes, outcome, Outcome, lengths_of, planned_by, planned_of, outcome_by, outcome_of}
use Rattle.planner.specs.Answered.{AnswerTold}
use Rattle.planner.specs.declared.outcome.Refusal.TheVariants.{No}
use Rattle.planner.proofs.ReadyLaws.{threes_fit, cleared-same}
use Rattle.planner.proofs.AnsweredLaws.{answer-told}
use Rattle.planner.proofs.JobLaws.{job-grid, job-region, job-samples, admitted_setup, admitted_sides, admitted_lent}

-- ---- zeros

take_same : {A : Type 0} (v : A) (k n : ℕ) → k ≤ n → take k (replicate n v) ≡ replicate k v
take_same v zero n h = refl
take_same v (suc k) zero h = absurd (let z : ⊥ = omega arith in z)
take_same v (suc k) (suc n) h = ap (λ (l : List _). v ∷ l) (take_same v k n (omega arith))

-- ---- of what is lent only the lengths count

module _ (l k : Lent) (B : length l.bytes ≡ length k.bytes) (U : length l.words ≡ length k.words) (F : length l.singles ≡ length k.singles)
    (W : length l.doubles ≡ length k.doubles) (R : length l.rows ≡ length k.rows) (T : length l.triples ≡ length k.triples) where
  pub planned_long : (p : AdaptiveParams) (g : Ground) (h : Slices) → planned_by p g h l ≡ planned_by p g h k
  unfolding planned_by
  planned_long p g h = ap (λ (x : Lent). outcome x (planned_by p g h l).answer) (cleared-same _ _ _ _ _ _ _ l k refl refl refl B U F W R T)

-- ---- a job that is fit

module _ (p : AdaptiveParams) (whole : Bool) (vs : List Float) (lens regions : List ℕ) where
  abbrev the_job : Job
  the_job = job p whole vs lens regions

  module _ (b u : List ℕ) (f w : List Float) (rows : List ℕ) (triples : List Float) where
    abbrev given : Lent
    given = lent b u f w rows triples

    module _ (g : Grid) (A : Admitted p whole vs lens regions (lengths_of given) g) where
      abbrev Asks : Setup → Type 0
      Asks s = Sides s.grid × (AllHeld vs lens regions × ((s.region ≡ pocket_of lens regions) × ((s.samples ≤ 2048) × Room (cells_of s) (length b) (length u) (length w))))

      -- what making it ready asks for
      pub ready_asks : (s : Setup) → s ≡ setup_of g (pocket_of lens regions) p.tool_diameter p.stock_to_leave p.max_engagement_deg p.keep_tool_down → Asks s
      ready_asks s S =
          subst Asks (sym (S ∙ admitted_setup p whole vs lens regions (lengths_of given) g A)) (
            admitted_sides p whole vs lens regions (lengths_of given) g A,
            (
              A.held,
              (
                job-region p whole vs lens regions,
                (
                  (job-samples p whole vs lens regions).1,
                  room_of _ _ _ _ _ (admitted_lent p whole vs lens regions (lengths_of given) g A),
                ),
              ),
            ),
          )

      module _ (s : Setup) (S : s ≡ setup_of g (pocket_of lens regions) p.tool_diameter p.stock_to_leave p.max_engagement_deg p.keep_tool_down)
          (b₁ u₁ : List ℕ) (f₁ w₁ : List Float) (rows₁ : List ℕ) (triples₁ : List Float) (F : f₁ ≡ replicate (length f) s0) where
        made : s ≡ setup_for the_job
        made = S ∙ admitted_setup p whole vs lens regions (lengths_of given) g A

        singles-room : 2 * cells_of s ≤ length f
        singles-room = subst (λ (x : Setup). 2 * cells_of x ≤ length f) (sym made) (admitted_lent p whole vs lens regions (lengths_of given) g A).singles

        -- what planning over it asks for
        pub planning_asks : Started s whole vs lens regions b₁ u₁ w₁ → Standing s vs lens b₁ u₁ w₁ × (2 * cells_of s ≤ length f₁)
        planning_asks X = (X.standing, omega (arith, singles-room, ap length F, length-replicate (length f) s0))

        module _ (R : rows₁ ≡ replicate (length rows) 0) (T : triples₁ ≡ replicate (length triples) f0) (B' : length b₁ ≡ length b) (U' : length u₁ ≡ length u) (W' : length w₁ ≡ length w) where
          abbrev lent₁ : Lent
          lent₁ = lent b₁ u₁ f₁ w₁ rows₁ triples₁

          abbrev here_of : Setup → Slices
          here_of x = slices_in (cells_of x) b₁ u₁ f₁ (take (3 * threes (length rows₁)) rows₁) (take (3 * threes (length triples₁)) triples₁)

          rows_long : length rows₁ ≡ length rows
          rows_long = ap length R ∙ length-replicate (length rows) 0

          triples-long : length triples₁ ≡ length triples
          triples-long = ap length T ∙ length-replicate (length triples) f0

          rows_are : take (3 * threes (length rows₁)) rows₁ ≡ replicate (3 * threes (length rows)) 0
          rows_are =
              ap (λ (k : ℕ). take (3 * threes k) rows₁) rows_long ∙ ap (take (3 * threes (length rows))) R ∙ take_same 0 (3 * threes (length rows)) (length rows) (threes_fit (length rows) (threes (length rows)) refl)

          triples_are : take (3 * threes (length triples₁)) triples₁ ≡ replicate (3 * threes (length triples)) f0
          triples_are =
              ap (λ (k : ℕ). take (3 * threes k) triples₁) triples-long ∙ ap (take (3 * threes (length triples))) T
              ∙ take_same f0 (3 * threes (length triples)) (length triples) (threes_fit (length triples) (threes (length triples)) refl)

          module _ (X : Started (setup_for the_job) whole vs lens regions b₁ u₁ w₁) where
            abbrev s₀ : Setup
            s₀ = setup_for the_job

            stock-is : stock_of whole s₀.grid vs lens regions ≡ start_of the_job
            stock-is = ap (λ (x : Grid). stock_of whole x vs lens regions) (job-grid p whole vs lens regions)

            ground_is : ground_in s₀ vs lens (helix_of p) b₁ w₁ ≡ ground_of the_job
            unfolding ground_of
            ground_is =
                let r = X.reach ∙ ap (λ (m : List ℕ). reach_of s₀ m (may_in s₀ vs lens regions)) stock-is in
                let wall = X.wall in
                let allowed = X.allowed in
                λ t. record { setup = s₀; wall = wall t; vs = vs; lens = lens; allowed = allowed t; reach = r t; pref = helix_of p }

            field_is : run 0 (cells_of s₀) f₁ ≡ replicate (cells_of s₀) s0
            field_is =
                ap (run 0 (cells_of s₀)) F ∙ same-run s0 0 (cells_of s₀) (length f) (omega (arith, (admitted_lent p whole vs lens regions (lengths_of given) g A).singles))

            slices_are : here_of s₀ ≡ slices_of the_job (threes (length rows)) (threes (length triples))
            unfolding slices_of
            slices_are =
                let m = X.map ∙ stock-is in
                let d = X.dirty in
                let gone = X.abandoned in
                let log = X.log in
                let x = field_is in
                let r = rows_are in
                let o = triples_are in
                λ t. slices (m t) (d t) (gone t) (log t) (x t) (r t) (o t)

            made_outcome : (q : Outcome) → q ≡ planned_by p (ground_in s₀ vs lens (helix_of p) b₁ w₁) (here_of s₀) lent₁ → q ≡ planned_of the_job given
            unfolding planned_of
            made_outcome q e =
                e
                ∙ ap (λ (x : Ground). planned_by p x (here_of s₀) lent₁) ground_is
                ∙ ap (λ (x : Slices). planned_by p (ground_of the_job) x lent₁) slices_are
                ∙ planned_long lent₁ given B' U' (ap length F ∙ length-replicate (length f) s0) W' rows_long triples-long p (ground_of the_job) (slices_of the_job (threes (length rows)) (threes (length triples)))

          pub fit_outcome : Started s whole vs lens regions b₁ u₁ w₁ → (q : Outcome) → q ≡ planned_by p (ground_in s vs lens (helix_of p) b₁ w₁) (here_of s) lent₁ → q ≡ planned_of the_job given
          fit_outcome =
              subst (λ (x : Setup). Started x whole vs lens regions b₁ u₁ w₁ → (q : Outcome) → q ≡ planned_by p (ground_in x vs lens (helix_of p) b₁ w₁) (here_of x) lent₁ → q ≡ planned_of the_job given)
              (sym made) made_outcome

  -- ---- any job

  module _ (l : Lent) (r : Result Grid Question) (J : r ≡ judged_of p whole vs lens regions (lengths_of l)) where
    pub outcome-refused : (q : Question) → r ≡ Err q → outcome l (Err (No q)) ≡ outcome_of the_job l
    unfolding outcome_of outcome_by
    outcome-refused q e = ap (outcome_by the_job l) (sym e ∙ J)

    pub outcome_planned : (g : Grid) → r ≡ Ok g → planned_of the_job l ≡ outcome_of the_job l
    unfolding outcome_of outcome_by
    outcome_planned g e = ap (outcome_by the_job l) (sym e ∙ J)

-- the equation, and term 3 with it
pub outcome-told : (j : Job) (l o : Lent) (a : Answer) → outcome o a ≡ outcome_of j l → (outcome o a ≡ outcome_of j l) × AnswerTold j l o a
outcome-told j l o a e = (e, subst (λ (x : Outcome). AnswerTold j l x.lent x.answer) (sym e) (answer-told j l))
