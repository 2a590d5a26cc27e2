-- A search that takes a silent turn alone where there is one comes to the end of each history.
use Rattle.swift_reordering.proofs.Prelude.{◌≡◌, ◌≢◌, ◌⊎◌, ℕ, zero, suc, ◌≤◌, List, [], ◌∷◌, ◌++◌, length, refl, sym, ◌∙◌, ap, subst, subst₂, true, false, inl, inr, append_assoc, append-nil, arith, Contains, Some, AllByRecursion, cases_Bool, cases_eq, false≢true, Env, ScriptView, executor_invariants, ExitView, all_hold, RecordView, CheckpointView, Life, Given, is_begun, is_under_way, Block, added, begun, ran, folded, Standing, at_first, after_blocks, checkpoint_at, Stands, AllStand, AllAllowed, IsOrderly, ActorsHaveExecutors, LeadAlike, IsNotFolded, lead_on, same_life, all_push, turn_looks_away, stage_at, RunsNext, BeginLate, IsFusedStep, MayStep, HasExit, IsOfOther, IsSilentTurn, OwnNext}
use Rattle.swift_reordering.proofs.Flags.{flag_stays, turn_stays}
use Rattle.swift_reordering.proofs.Walks.{IsCourse}
use Rattle.swift_reordering.proofs.Others.{KeepsJob}
use Rattle.swift_reordering.proofs.Keeping.{block_keeps_job}
use Rattle.swift_reordering.proofs.Priorities.{cons_cases, cons_here, cons_more, none_there}
use Rattle.swift_reordering.proofs.Closed.{exit_too}
use Rattle.swift_reordering.proofs.Carrying.{carry, plain_like, late_rest}
use Rattle.swift_reordering.proofs.Bringing.{bring, like_many}

module _ (script : ScriptView) (cps : List CheckpointView) where
  abbrev at : List Block → Standing
  at bs = after_blocks script (at_first script) bs

  -- no turn is under way any more
  abbrev pub IsFinished : List Block → Type 0
  IsFinished bs = (t : ℕ) → is_under_way (stage_at (at bs).log t) ≡ false

  -- blocks that go on in order to the end, where turns that look away begin late
  pub record GoesToEnd (h rest : List Block) : Type 0 where
    pub stand : AllStand script cps h rest
    pub may : AllAllowed (IsOrderly script) h rest
    pub late : BeginLate script h rest
    pub plain : AllByRecursion IsNotFolded rest
    pub finished : IsFinished (h ++ rest)

  front : (h : List Block) (b : Block) (bs : List Block) → GoesToEnd h (b ∷ bs) → GoesToEnd (h ++ b ∷ []) bs
  front h b bs g = record {
    stand = g.stand.1;
    may = g.may.1;
    late = late_rest script cps b bs h g.late;
    plain = g.plain.1;
    finished = subst IsFinished (sym (append_assoc h (b ∷ []) bs)) g.finished;
  }

  -- past a block of another task, a task has the same job
  same_job : (b : Block) (bs h : List Block) (t : ℕ) → AllStand script cps [] h → GoesToEnd h (b ∷ bs) → stage_at (at h).log t ≡ Some Given → IsOfOther t b → KeepsJob (at h) (at (h ++ b ∷ [])) t
  same_job b bs h t all g given other = block_keeps_job script cps h b t all g.stand.0 other (ap is_under_way given)

  -- and goes on looking away
  still_away : (h : List Block) (b : Block) (t : ℕ) → AllStand script cps [] h → Stands script cps h b → KeepsJob (at h) (at (h ++ b ∷ [])) t → turn_looks_away script (at h) t ≡ true → turn_looks_away script (at (h ++ b ∷ [])) t ≡ true
  still_away h b t all stands keep away = turn_stays script (at h) (at (h ++ b ∷ [])) t (flag_stays script cps h b t all stands) keep.job away

  -- where a task has a job, its turn that looks away is still to come
  own_next : (rest h : List Block) (t : ℕ) → AllStand script cps [] h → GoesToEnd h rest → stage_at (at h).log t ≡ Some Given → turn_looks_away script (at h) t ≡ true → OwnNext t rest
  own_next [] h t all g given away = absurd (false≢true (sym (subst IsFinished (append-nil h) g.finished t) ∙ ap is_under_way given))
  own_next (added r ∷ bs) h t all g given away =
      let keep = same_job (added r) bs h t all g given tt in
      (tt, own_next bs (h ++ added r ∷ []) t (all_push script cps h [] (added r) all g.stand.0) (front h (added r) bs g) (keep.same.stage ∙ given) (still_away h (added r) t all g.stand.0 keep away))
  own_next (folded e f ∷ bs) h t all g given away = absurd g.plain.0
  own_next (ran e r ∷ bs) h t all g given away =
      let ne : r.task ≢ t = λ same.
      (let was : is_begun (stage_at (at h).log t) ≡ true = ap (λ (u : ℕ). is_begun (stage_at (at h).log u)) (sym same) ∙ ap is_begun g.stand.0.stands.has_begun in
      false≢true (sym (ap is_begun given) ∙ was)) in
      let keep = same_job (ran e r) bs h t all g given ne in
      (ne, own_next bs (h ++ ran e r ∷ []) t (all_push script cps h [] (ran e r) all g.stand.0) (front h (ran e r) bs g) (keep.same.stage ∙ given) (still_away h (ran e r) t all g.stand.0 keep away))
  own_next (begun u m x ∷ bs) h t all g given away = elim (cases_eq u t) [
    | inl same ↦ inl (same, subst (λ (v : ℕ). RunsNext v bs) same (g.late.0 (ap (turn_looks_away script (at h)) same ∙ away)))
    | inr ne ↦
        let keep = same_job (begun u m x) bs h t all g given ne in
        inr (ne, own_next bs (h ++ begun u m x ∷ []) t (all_push script cps h [] (begun u m x) all g.stand.0) (front h (begun u m x) bs g) (keep.same.stage ∙ given) (still_away h (begun u m x) t all g.stand.0 keep away))
  ]

  -- what goes to the end after one history goes to the end after another that it leads alike
  pub record Other (h k rest : List Block) : Type 0 where
    pub others : List Block
    pub goes : GoesToEnd k others
    pub many : length others ≡ length rest
    pub lead : LeadAlike script cps (h ++ rest) (k ++ others)
    pub exits : (e : ℕ) (r : RecordView) → Contains rest (ran e r) → HasExit others e r.exit

  pub other_end : (h k rest : List Block) → AllStand script cps [] h → AllStand script cps [] k → LeadAlike script cps h k → GoesToEnd h rest → Other h k rest
  other_end h k rest all also lead g =
      let o = carry script cps rest h k all also lead g.stand g.may g.late in
      let same = o.lead.standing.digest in
      record {
        others = o.rest;
        goes = record {
          stand = o.stand;
          may = o.orderly;
          late = o.late;
          plain = plain_like script cps rest o.rest o.like g.plain;
          finished = λ t. ap (λ (l : Life). is_under_way l.stage) (sym (same_life (at (h ++ rest)).log (at (k ++ o.rest)).log same t)) ∙ g.finished t;
        };
        many = like_many script rest o.rest o.like;
        lead = o.lead;
        exits = λ e r has. exit_too script rest o.rest e r o.like has;
      }

  -- a silent turn that may go on alone, and leads alike to a history that is kept
  pub record StepsSilently (Kept : List Block → Type 0) (Tried : ℕ → ExitView → Type 0) (h : List Block) : Type 0 where
    pub t : ℕ
    pub n : ℕ
    pub env : Env
    pub e : ℕ
    pub r : RecordView
    pub silent : IsSilentTurn script cps h t n env e r
    pub may : IsOrderly script h (begun t n env)
    pub away : turn_looks_away script (at h) t ≡ true
    pub kept : List Block
    pub is_kept : Kept kept
    pub lead : LeadAlike script cps ((h ++ begun t n env ∷ []) ++ ran e r ∷ []) kept
    pub tried : Tried e r.exit

  -- each turn of some blocks ends as one that was tried
  abbrev pub AllTried : (ℕ → ExitView → Type 0) → List Block → Type 0
  AllTried Tried bs = (e : ℕ) (r : RecordView) → Contains bs (ran e r) → Tried e r.exit

  -- a step was tried, and leads alike to a history that is kept
  pub record StepKept (Kept : List Block → Type 0) (Tried : ℕ → ExitView → Type 0) (h step : List Block) : Type 0 where
    pub kept : List Block
    pub is_kept : Kept kept
    pub lead : LeadAlike script cps (h ++ step) kept
    pub tried : AllTried Tried step

  tried_append : (Tried : ℕ → ExitView → Type 0) (xs ys : List Block) → AllTried Tried xs → AllTried Tried ys → AllTried Tried (xs ++ ys)
  tried_append Tried [] ys one two e r has = two e r has
  tried_append Tried (x ∷ xs) ys one two e r has = elim (cons_cases x (xs ++ ys) (ran e r) has) [
    | inl here ↦ one e r (cons_here x xs (ran e r) here)
    | inr more ↦ tried_append Tried xs ys (λ k q there. one k q (cons_more x xs (ran k q) there)) two e r more
  ]

  tried_by : (Tried : ℕ → ExitView → Type 0) (bs : List Block) (e : ℕ) (exit : ExitView) → AllTried Tried bs → HasExit bs e exit → Tried e exit
  tried_by Tried bs e exit all has = subst (Tried e) has.exit_is (all e has.turn has.there)

  module _ (on : ActorsHaveExecutors script) (hold : (e : ℕ) → all_hold (executor_invariants script e) (checkpoint_at cps e).fields ≡ true) (Kept : List Block → Type 0) (Tried : ℕ → ExitView → Type 0)
      (course : (h : List Block) → Kept h → IsCourse script cps h)
      (next : (h : List Block) → Kept h → ((step : List Block) → MayStep script cps h step → StepKept Kept Tried h step) ⊎ StepsSilently Kept Tried h) where
    abbrev Steps : List Block → Type 0
    Steps h = (step : List Block) → MayStep script cps h step → StepKept Kept Tried h step

    -- a history and blocks after it lead alike to a history that is kept, and each turn of these blocks ends as one that was tried
    pub record Ends (h rest : List Block) : Type 0 where
      pub kept : List Block
      pub is_kept : Kept kept
      pub lead : LeadAlike script cps (h ++ rest) kept
      pub tried : AllTried Tried rest

    abbrev Walk : ℕ → Type 0
    Walk fuel = (bs k : List Block) → length bs ≤ fuel → Kept k → GoesToEnd k bs → Ends k bs

    -- one step, and then the rest
    go_step : (fuel : ℕ) (h step rest : List Block) → Kept h → MayStep script cps h step → AllStand script cps [] (h ++ step) → GoesToEnd (h ++ step) rest → length rest ≤ fuel → Steps h → Walk fuel → Ends h (step ++ rest)
    go_step fuel h step rest kept may all g few steps walk =
        let k = steps step may in
        let o = other_end (h ++ step) k.kept rest all (course k.kept k.is_kept).stand k.lead g in
        let many = o.many in
        let end = walk o.others k.kept (omega (arith, many, few)) k.is_kept o.goes in
        record {
          kept = end.kept;
          is_kept = end.is_kept;
          lead = subst (λ (xs : List Block). LeadAlike script cps xs end.kept) (append_assoc h step rest) (lead_on script cps ((h ++ step) ++ rest) (k.kept ++ o.others) end.kept o.lead end.lead);
          tried = tried_append Tried step rest k.tried (λ e r has. tried_by Tried o.others e r.exit end.tried (o.exits e r has));
        }

    -- a silent turn, and then the rest
    go_silent : (fuel : ℕ) (h rest : List Block) → Kept h → GoesToEnd h rest → length rest ≤ suc fuel → StepsSilently Kept Tried h → Walk fuel → Ends h rest
    go_silent fuel h rest kept g few x walk =
        let c = course h kept in
        let f = bring script cps on x.t x.n x.e (hold x.e) rest h x.env x.r c g.stand g.may g.late x.silent (own_next rest h x.t c.stand g x.silent.given x.away) in
        let mid : List Block = (h ++ begun x.t x.n x.env ∷ []) ++ ran x.e x.r ∷ [] in
        let far : mid ++ f.others ≡ h ++ begun x.t x.n x.env ∷ ran x.e x.r ∷ f.others = append_assoc (h ++ begun x.t x.n x.env ∷ []) (ran x.e x.r ∷ []) f.others ∙ append_assoc h (begun x.t x.n x.env ∷ []) (ran x.e x.r ∷ f.others) in
        let lead : LeadAlike script cps (h ++ rest) (mid ++ f.others) = subst (LeadAlike script cps (h ++ rest)) (sym far) f.lead in
        let same = lead.standing.digest in
        let mid_stand : AllStand script cps [] mid = all_push script cps (h ++ begun x.t x.n x.env ∷ []) [] (ran x.e x.r) (all_push script cps h [] (begun x.t x.n x.env) c.stand x.silent.begins) x.silent.runs in
        let goes : GoesToEnd mid f.others = record {
          stand = f.stand.1.1;
          may = f.orderly;
          late = f.late;
          plain = f.plain g.plain;
          finished = λ t. ap (λ (l : Life). is_under_way l.stage) (sym (same_life (at (h ++ rest)).log (at (mid ++ f.others)).log same t)) ∙ g.finished t;
        } in
        let o = other_end mid x.kept f.others mid_stand (course x.kept x.is_kept).stand x.lead goes in
        let many = o.many in
        let less = f.many in
        let end = walk o.others x.kept (omega (arith, many, less, few)) x.is_kept o.goes in
        let others : AllTried Tried f.others = λ e r has. tried_by Tried o.others e r.exit end.tried (o.exits e r has) in
        let both : AllTried Tried (ran x.e x.r ∷ f.others) = λ e r has. elim (cons_cases (ran x.e x.r) f.others (ran e r) has) [
          | inl here ↦ (let seat : x.e ≡ e = cc here in let turn : x.r ≡ r = cc here in subst₂ (λ (k : ℕ) (q : RecordView). Tried k q.exit) seat turn x.tried)
          | inr more ↦ others e r more
        ] in
        record {
          kept = end.kept;
          is_kept = end.is_kept;
          lead = lead_on script cps (h ++ rest) (mid ++ f.others) end.kept lead (lead_on script cps (mid ++ f.others) (x.kept ++ o.others) end.kept o.lead end.lead);
          tried = λ e r has. tried_by Tried (ran x.e x.r ∷ f.others) e r.exit both (f.exits e r has);
        }

    -- a step of one block
    go_one : (fuel : ℕ) (h : List Block) (b : Block) (bs : List Block) → Kept h → GoesToEnd h (b ∷ bs) → IsFusedStep script h (b ∷ []) → length bs ≤ fuel → Steps h → Walk fuel → Ends h (b ∷ bs)
    go_one fuel h b bs kept g is few steps walk =
        go_step fuel h (b ∷ []) bs kept (record { fused = is; stands = (g.stand.0, tt); orderly = (g.may.0, tt) }) (all_push script cps h [] b (course h kept).stand g.stand.0) (front h b bs g) few steps walk

    -- a turn that looks away begins and runs
    go_two : (fuel : ℕ) (h : List Block) (t n : ℕ) (env : Env) (bs : List Block) → Kept h → GoesToEnd h (begun t n env ∷ bs) → turn_looks_away script (at h) t ≡ true → RunsNext t bs → length bs ≤ fuel → Steps h → Walk fuel
        → Ends h (begun t n env ∷ bs)
    go_two fuel h t n env (ran e r ∷ bs) kept g away runs few steps walk =
        let c : Block = begun t n env in
        let d : Block = ran e r in
        let may : MayStep script cps h (c ∷ d ∷ []) = record { fused = (away, runs); stands = (g.stand.0, (g.stand.1.0, tt)); orderly = (g.may.0, (g.may.1.0, tt)) } in
        let one = front h c (d ∷ bs) g in
        let both = front (h ++ c ∷ []) d bs one in
        let is : (h ++ c ∷ []) ++ d ∷ [] ≡ h ++ c ∷ d ∷ [] = append_assoc h (c ∷ []) (d ∷ []) in
        let stand = all_push script cps (h ++ c ∷ []) [] d (all_push script cps h [] c (course h kept).stand g.stand.0) g.stand.1.0 in
        go_step fuel h (c ∷ d ∷ []) bs kept may (subst (AllStand script cps []) is stand) (subst (λ (xs : List Block). GoesToEnd xs bs) is both) (omega (arith, few)) steps walk
    go_two fuel h t n env [] kept g away runs few steps walk = absurd runs
    go_two fuel h t n env (added x ∷ bs) kept g away runs few steps walk = absurd runs
    go_two fuel h t n env (begun x y z ∷ bs) kept g away runs few steps walk = absurd runs
    go_two fuel h t n env (folded x y ∷ bs) kept g away runs few steps walk = absurd runs

    go_any : (fuel : ℕ) (h : List Block) (b : Block) (bs : List Block) → Kept h → GoesToEnd h (b ∷ bs) → length bs ≤ fuel → Steps h → Walk fuel → Ends h (b ∷ bs)
    go_any fuel h (added r) bs kept g few steps walk = go_one fuel h (added r) bs kept g tt few steps walk
    go_any fuel h (ran e r) bs kept g few steps walk = go_one fuel h (ran e r) bs kept g tt few steps walk
    go_any fuel h (folded e f) bs kept g few steps walk = absurd g.plain.0
    go_any fuel h (begun t n env) bs kept g few steps walk = elim (cases_Bool (turn_looks_away script (at h) t)) [
      | inl away ↦ go_two fuel h t n env bs kept g away (g.late.0 away) few steps walk
      | inr looks ↦ go_one fuel h (begun t n env) bs kept g looks few steps walk
    ]

    -- to the end
    pub walk : (fuel : ℕ) (rest h : List Block) → length rest ≤ fuel → Kept h → GoesToEnd h rest → Ends h rest
    walk fuel [] h few kept g = record {
      kept = h;
      is_kept = kept;
      lead = subst (λ (xs : List Block). LeadAlike script cps xs h) (sym (append-nil h)) (record { standing = record { digest = refl; held = refl; jobs = λ u. refl }; fields = λ e. refl; unused = λ e none. none });
      tried = λ e r has. absurd (none_there (ran e r) has);
    }
    walk zero (b ∷ rest) h few kept g = absurd (omega (arith, few))
    walk (suc fuel) (b ∷ rest) h few kept g = elim (next h kept) [
      | inl steps ↦ go_any fuel h b rest kept g (omega (arith, few)) steps (λ bs k less has goes. walk fuel bs k less has goes)
      | inr x ↦ go_silent fuel h (b ∷ rest) kept g few x (λ bs k less has goes. walk fuel bs k less has goes)
    ]
