-- Silent turns run ahead of a history: each step that may follow the history may follow after them, or is one of them.
use Rattle.swift_reordering.proofs.Prelude.{◌≡◌, ◌≢◌, ◌⊎◌, ℕ, List, [], ◌∷◌, ◌++◌, map, refl, sym, ◌∙◌, ap, ap₂, subst, subst₂, Bool, true, inl, inr, append_assoc, append-nil, Option, Some, is_some, ◌||◌, option_map, cases_eq, Env, ScriptView, root_count, executor_invariants, FrameView, ExitView, all_hold, calling, waiting, asking_next, closing, yielding, returning, failing, RecordView, CheckpointView, Life, Given, life_of, is_under_way, JobFacts, task, Block, added, begun, ran, folded, Standing, at_first, after_blocks, checkpoint_at, Stands, AllStand, AllAllowed, IsOrderly, current_is, FramePlan, JobPlan, plan_of, caller_plan, frame_plans, job_plan, LeadAlike, IsLike, AreLike, determined, determined_exit, one_env, lead_on, orderly_too, same_life, bare, all_push, block_stands, lead_push, turn_looks_away, stage_at, OneTurn, after_turn, after_turns, RunsSilently, AllRunSilently, LeadAsOne, goes_on_alone, code_is_silent, frame_is_silent, Commutes, IsApart, ends_task, IsOfOther}
use Rattle.swift_reordering.proofs.Bringing.{number_one}
use Rattle.swift_reordering.proofs.Closed.{same_away}
use Rattle.swift_reordering.proofs.Beside.{other_life}
use Rattle.swift_reordering.proofs.Diamonds.{silent_commutes}
use Rattle.swift_reordering.proofs.Flags.{flag_stays, turn_stays}
use Rattle.swift_reordering.proofs.Holding.{hold_always}
use Rattle.swift_reordering.proofs.Keeping.{block_keeps_job}
use Rattle.swift_reordering.proofs.Sights.{waited}
use Rattle.swift_reordering.proofs.SilentSteps.{silent_after, over_apart, alone_seen, silent_looks}

-- frames of one plan are silent, and go on alone or end their task, both or neither

plan_silent : (script : ScriptView) (p q : FrameView) → plan_of script p ≡ plan_of script q → frame_is_silent script p ≡ frame_is_silent script q
plan_silent script p q same = ap (λ (h : FramePlan). is_some h.pending || code_is_silent h.todo true) same

abbrev LeaveAlike : List FrameView → List FrameView → ExitView → Type 0
LeaveAlike ps qs exit = (goes_on_alone ps exit ≡ goes_on_alone qs exit) × (ends_task ps exit ≡ ends_task qs exit)

alone_rest : (script : ScriptView) (ps qs : List FrameView) (exit : ExitView) → map (caller_plan script) ps ≡ map (caller_plan script) qs → LeaveAlike ps qs exit
alone_rest script [] [] exit same = (refl, refl)
alone_rest script (p ∷ ps) (q ∷ qs) exit same = by_exit exit where
  by_exit : (x : ExitView) → LeaveAlike (p ∷ ps) (q ∷ qs) x
  by_exit (calling c) = (refl, refl)
  by_exit (waiting t) = (refl, refl)
  by_exit (asking_next n) = (refl, refl)
  by_exit (closing n f) = (refl, refl)
  by_exit yielding = (refl, refl)
  by_exit (returning v) = (refl, refl)
  by_exit (failing f) = (refl, refl)
alone_rest script [] (q ∷ qs) exit same = absurd (cc same)
alone_rest script (p ∷ ps) [] exit same = absurd (cc same)

alone_frames : (script : ScriptView) (fs gs ps qs : List FrameView) (p q : FrameView) (exit : ExitView) → fs ≡ p ∷ ps → gs ≡ q ∷ qs → frame_plans script fs ≡ frame_plans script gs → LeaveAlike ps qs exit
alone_frames script fs gs ps qs p q exit one two same =
    let both : plan_of script p ∷ map (caller_plan script) ps ≡ plan_of script q ∷ map (caller_plan script) qs = ap (frame_plans script) (sym one) ∙ same ∙ ap (frame_plans script) two in
    alone_rest script ps qs exit (cc both)

one_job : (o : Option JobFacts) (j : JobFacts) (script : ScriptView) (k : JobFacts) → o ≡ Some k → option_map (job_plan script) (Some j) ≡ option_map (job_plan script) o → frame_plans script j.frames.frames ≡ frame_plans script k.frames.frames
one_job o j script k is same =
    let plan : ◌≡◌ {A = Option JobPlan} (Some (job_plan script j)) (Some (job_plan script k)) = same ∙ ap (option_map (job_plan script)) is in
    let both : job_plan script j ≡ job_plan script k = cc plan in
    ap (λ (h : JobPlan). h.plan.frames) both

module _ (script : ScriptView) (cps : List CheckpointView) where
  abbrev at : List Block → Standing
  at bs = after_blocks script (at_first script) bs

  -- histories that lead as one

  abbrev Same : List Block → List Block → Type 0
  Same h k = LeadAsOne script cps h k

  itself : (h : List Block) → LeadAlike script cps h h
  itself h = record { standing = record { digest = refl; held = refl; jobs = λ u. refl }; fields = λ e. refl; unused = λ e none. none }

  pub same_itself : (h : List Block) → Same h h
  same_itself h = (itself h, itself h)

  pub same_back : (h k : List Block) → Same h k → Same k h
  same_back h k same = (same.1, same.0)

  pub same_on : (h k l : List Block) → Same h k → Same k l → Same h l
  same_on h k l one two = (lead_on script cps h k l one.0 two.0, lead_on script cps l k h two.1 one.1)

  like_back : (b c : Block) → IsLike script b c → IsLike script c b
  like_back (ran e r) c like = subst (λ (x : Block). IsLike script x (ran e r)) (sym like.2) (r.frame, sym like.1, refl)
  like_back (added r) c like = subst (λ (x : Block). IsLike script x (added r)) like refl
  like_back (begun t n env) c like = subst (λ (x : Block). IsLike script x (begun t n env)) like refl
  like_back (folded e f) c like = subst (λ (x : Block). IsLike script x (folded e f)) like refl

  pub same_push : (h k : List Block) (b c : Block) → Same h k → IsLike script b c → AllStand script cps [] (h ++ b ∷ []) → AllStand script cps [] (k ++ c ∷ []) → Same (h ++ b ∷ []) (k ++ c ∷ [])
  same_push h k b c same like all also = (lead_push script cps h k same.0 b c like all also, lead_push script cps k h same.1 c b (like_back b c like) also all)

  pub like_itself : (c : Block) → IsLike script c c
  like_itself (ran e r) = (r.frame, refl, refl)
  like_itself _ = refl

  one_on : (c d x : Block) → IsLike script c d → IsLike script d x → IsLike script c x
  one_on (ran e r) d x one two =
      let next : IsLike script (ran e (record r { frame = one.0 })) x = subst (λ (y : Block). IsLike script y x) one.2 two in
      (next.0, one.1 ∙ next.1, next.2)
  one_on (added r) d x one two = subst (λ (y : Block). IsLike script y x) (sym one) two
  one_on (begun t n env) d x one two = subst (λ (y : Block). IsLike script y x) (sym one) two
  one_on (folded e f) d x one two = subst (λ (y : Block). IsLike script y x) (sym one) two

  pub like_on : (bs cs ds : List Block) → AreLike script bs cs → AreLike script cs ds → AreLike script bs ds
  like_on [] [] [] one two = tt
  like_on (b ∷ bs) (c ∷ cs) (d ∷ ds) one two = (one_on b c d one.0 two.0, like_on bs cs ds one.1 two.1)
  like_on [] (c ∷ cs) ds one two = absurd one
  like_on (b ∷ bs) [] ds one two = absurd one
  like_on _ _ _ one two = absurd two

  -- what goes on after the one goes on after the other
  pub record Carried (h k more : List Block) : Type 0 where
    pub rest : List Block
    pub like : AreLike script more rest
    pub stand : AllStand script cps k rest
    pub orderly : AllAllowed (IsOrderly script) k rest
    pub same : Same (h ++ more) (k ++ rest)

  pub carry_same : (more h k : List Block) → AllStand script cps [] h → AllStand script cps [] k → Same h k → AllStand script cps h more → AllAllowed (IsOrderly script) h more → Carried h k more
  carry_same [] h k all also same stand may = record { rest = []; like = tt; stand = tt; orderly = tt; same = subst₂ Same (sym (append-nil h)) (sym (append-nil k)) same }
  carry_same (b ∷ bs) h k all also same stand may =
      let o = block_stands script cps h k same.0 all also b stand.0 in
      let c : Block = o.other in
      let all_b : AllStand script cps [] (h ++ b ∷ []) = all_push script cps h [] b all stand.0 in
      let also_c : AllStand script cps [] (k ++ c ∷ []) = all_push script cps k [] c also o.stands in
      let next = carry_same bs (h ++ b ∷ []) (k ++ c ∷ []) all_b also_c (same_push h k b c same o.like all_b also_c) stand.1 may.1 in
      record {
        rest = c ∷ next.rest;
        like = (o.like, next.like);
        stand = (o.stands, next.stand);
        orderly = (orderly_too script cps h k same.0 b c o.like may.0, next.orderly);
        same = subst₂ Same (append_assoc h (b ∷ []) bs) (append_assoc k (c ∷ []) next.rest) next.same;
      }

  -- a silent turn after one history is one after another that leads as one with it

  pub turn_stand : (h : List Block) (x : OneTurn) → AllStand script cps [] h → RunsSilently script cps h x → AllStand script cps [] (after_turn h x)
  turn_stand h x all runs =
      all_push script cps (h ++ begun x.task x.number x.env ∷ []) [] (ran x.executor x.turn) (all_push script cps h [] (begun x.task x.number x.env) all runs.silent.begins) runs.silent.runs

  -- it is of the same task, and ends so
  pub record EndsAs (x y : OneTurn) : Type 0 where
    pub task_is : y.task ≡ x.task
    pub executor_is : y.executor ≡ x.executor
    pub exit_is : y.turn.exit ≡ x.turn.exit

  abbrev pub AllEndAs : List OneTurn → List OneTurn → Type 0
  AllEndAs [] [] = Unit {0}
  AllEndAs (x ∷ xs) (y ∷ ys) = EndsAs x y × AllEndAs xs ys
  AllEndAs _ _ = ⊥

  record TurnToo (h k : List Block) (x : OneTurn) : Type 0 where
    other : OneTurn
    runs : RunsSilently script cps k other
    ends : EndsAs x other
    same : Same (after_turn h x) (after_turn k other)

  turn_too : (h k : List Block) (x : OneTurn) → AllStand script cps [] h → AllStand script cps [] k → Same h k → RunsSilently script cps h x → TurnToo h k x
  turn_too h k x all also same runs =
      let b : Block = begun x.task x.number x.env in
      let silent = runs.silent in
      let o = block_stands script cps h k same.0 all also b silent.begins in
      let begins : Stands script cps k b = subst (Stands script cps k) (sym o.like) o.stands in
      let all_b = all_push script cps h [] b all silent.begins in
      let also_b = all_push script cps k [] b also begins in
      let mid : Same (h ++ b ∷ []) (k ++ b ∷ []) = same_push h k b b same refl all_b also_b in
      let p = block_stands script cps (h ++ b ∷ []) (k ++ b ∷ []) mid.0 all_b also_b (ran x.executor x.turn) silent.runs in
      let frame : FrameView = p.like.0 in
      let q : RecordView = record x.turn { frame = frame } in
      let ran_k : Stands script cps (k ++ b ∷ []) (ran x.executor q) = subst (Stands script cps (k ++ b ∷ [])) p.like.2 p.stands in
      let plans = one_job ((at (k ++ b ∷ [])).jobs x.turn.task) silent.runs.job script ran_k.job ran_k.stands.given (ap (option_map (job_plan script)) (sym silent.runs.stands.given) ∙ mid.0.standing.jobs x.turn.task) in
      let alone = alone_frames script ran_k.job.frames.frames silent.runs.job.frames.frames ran_k.stands.runs.0 silent.runs.stands.runs.0 frame x.turn.frame x.turn.exit ran_k.stands.runs.1 silent.runs.stands.runs.1 (sym plans) in
      record {
        other = record { task = x.task; number = x.number; env = x.env; executor = x.executor; turn = q };
        runs = record {
          silent = record {
            begins = begins;
            runs = ran_k;
            given = ap (λ (l : Life). l.stage) (sym (same_life (at h).log (at k).log same.0.standing.digest x.task)) ∙ silent.given;
            own = silent.own;
            number = silent.number;
            quiet = plan_silent script frame x.turn.frame (sym p.like.1) ∙ silent.quiet;
            alone = ap₂ (λ (x y : Bool). x || y) alone.0 alone.1 ∙ silent.alone;
            unnamed = λ is. silent.unnamed (sym alone.1 ∙ is);
            apart = λ is. subst (IsApart x.task) same.0.standing.digest (silent.apart (sym alone.1 ∙ is));
          };
          away = sym (same_away script cps h k same.0 x.task) ∙ runs.away;
        };
        ends = record { task_is = refl; executor_is = refl; exit_is = refl };
        same = same_push (h ++ b ∷ []) (k ++ b ∷ []) (ran x.executor x.turn) (ran x.executor q) mid (frame, p.like.1, refl) (all_push script cps (h ++ b ∷ []) [] (ran x.executor x.turn) all_b silent.runs) (all_push script cps (k ++ b ∷ []) [] (ran x.executor q) also_b ran_k);
      }

  pub record TurnsToo (h k : List Block) (xs : List OneTurn) : Type 0 where
    pub others : List OneTurn
    pub run : AllRunSilently script cps k others
    pub ends : AllEndAs xs others
    pub same : Same (after_turns h xs) (after_turns k others)

  pub turns_too : (xs : List OneTurn) (h k : List Block) → AllStand script cps [] h → AllStand script cps [] k → Same h k → AllRunSilently script cps h xs → TurnsToo h k xs
  turns_too [] h k all also same run = record { others = []; run = tt; ends = tt; same = same }
  turns_too (x ∷ xs) h k all also same run =
      let o = turn_too h k x all also same run.0 in
      let rest = turns_too xs (after_turn h x) (after_turn k o.other) (turn_stand h x all run.0) (turn_stand k o.other also o.runs) o.same run.1 in
      record { others = o.other ∷ rest.others; run = (o.runs, rest.run); ends = (o.ends, rest.ends); same = rest.same }

  pub turns_stand : (xs : List OneTurn) (h : List Block) → AllStand script cps [] h → AllRunSilently script cps h xs → AllStand script cps [] (after_turns h xs)
  turns_stand [] h all run = all
  turns_stand (x ∷ xs) h all run = turns_stand xs (after_turn h x) (turn_stand h x all run.0) run.1

  pub ends_same : (xs : List OneTurn) → AllEndAs xs xs
  ends_same [] = tt
  ends_same (x ∷ xs) = (record { task_is = refl; executor_is = refl; exit_is = refl }, ends_same xs)

  pub ends_on : (xs ys zs : List OneTurn) → AllEndAs xs ys → AllEndAs ys zs → AllEndAs xs zs
  ends_on [] [] [] one two = tt
  ends_on (x ∷ xs) (y ∷ ys) (z ∷ zs) one two = (record { task_is = two.0.task_is ∙ one.0.task_is; executor_is = two.0.executor_is ∙ one.0.executor_is; exit_is = two.0.exit_is ∙ one.0.exit_is }, ends_on xs ys zs one.1 two.1)
  ends_on [] (y ∷ ys) zs one two = absurd one
  ends_on (x ∷ xs) [] zs one two = absurd one
  ends_on _ _ _ one two = absurd two

  -- a block of another task than these turns

  abbrev pub AllOther : List OneTurn → Block → Type 0
  AllOther [] b = Unit {0}
  AllOther (x ∷ xs) b = IsOfOther x.task b × AllOther xs b

  other_ends : (xs ys : List OneTurn) (b : Block) → AllEndAs xs ys → AllOther xs b → AllOther ys b
  other_ends [] [] b ends other = tt
  other_ends (x ∷ xs) (y ∷ ys) b ends other = (subst (λ (t : ℕ). IsOfOther t b) (sym ends.0.task_is) other.0, other_ends xs ys b ends.1 other.1)
  other_ends _ _ b ends other = absurd ends

  module _ (hold : (e : ℕ) → all_hold (executor_invariants script e) (checkpoint_at cps e).fields ≡ true) where
    -- It stands after them too, in order; and they run after it.
    pub record Passed (h : List Block) (b : Block) (xs : List OneTurn) : Type 0 where
      pub others : List OneTurn
      pub run : AllRunSilently script cps (h ++ b ∷ []) others
      pub ends : AllEndAs xs others
      pub stands : Stands script cps (after_turns h xs) b
      pub orderly : IsOrderly script (after_turns h xs) b
      pub same : Same (after_turns (h ++ b ∷ []) others) (after_turns h xs ++ b ∷ [])

    pub pass : (xs : List OneTurn) (h : List Block) (b : Block) → AllStand script cps [] h → Stands script cps h b → IsOrderly script h b → AllRunSilently script cps h xs → AllOther xs b → Passed h b xs
    pass [] h b all stands may run other = record { others = []; run = tt; ends = tt; stands = stands; orderly = may; same = same_itself (h ++ b ∷ []) }
    pass (x ∷ xs) h b all stands may run other =
        let silent = run.0.silent in
        let c : Commutes script cps h x.task x.number x.env x.executor x.turn b = silent_commutes script cps h x.task x.number x.env x.executor x.turn b all silent (hold x.executor) stands other.0 in
        let later : OneTurn = record { task = x.task; number = x.number; env = c.other; executor = x.executor; turn = record x.turn { env = c.other } } in
        let all_b = all_push script cps h [] b all stands in
        let job = (block_keeps_job script cps h b x.task all stands other.0 (ap is_under_way silent.given)).job in
        let runs : RunsSilently script cps (h ++ b ∷ []) later = record { silent = c.later; away = turn_stays script (after_blocks script (at_first script) h) (after_blocks script (at_first script) (h ++ b ∷ [])) x.task (flag_stays script cps h b x.task all stands) job run.0.away } in
        let rest = pass xs (after_turn h x) b (turn_stand h x all run.0) c.first (c.orderly may) run.1 other.1 in
        let past = turns_too rest.others (after_turn h x ++ b ∷ []) (after_turn (h ++ b ∷ []) later) (all_push script cps (after_turn h x) [] b (turn_stand h x all run.0) c.first) (turn_stand (h ++ b ∷ []) later all_b runs) (c.back, c.lead) rest.run in
        record {
          others = later ∷ past.others;
          run = (runs, past.run);
          ends = (record { task_is = refl; executor_is = refl; exit_is = refl }, ends_on xs rest.others past.others rest.ends past.ends);
          stands = rest.stands;
          orderly = rest.orderly;
          same = same_on (after_turns (after_turn (h ++ b ∷ []) later) past.others) (after_turns (after_turn h x ++ b ∷ []) rest.others) (after_turns (after_turn h x) xs ++ b ∷ [])
              (same_back (after_turns (after_turn h x ++ b ∷ []) rest.others) (after_turns (after_turn (h ++ b ∷ []) later) past.others) past.same) rest.same;
        }

    -- the same of blocks
    pub record AllPassed (h step : List Block) (xs : List OneTurn) : Type 0 where
      pub others : List OneTurn
      pub run : AllRunSilently script cps (h ++ step) others
      pub ends : AllEndAs xs others
      pub rest : List Block
      pub like : AreLike script step rest
      pub stand : AllStand script cps (after_turns h xs) rest
      pub orderly : AllAllowed (IsOrderly script) (after_turns h xs) rest
      pub same : Same (after_turns (h ++ step) others) (after_turns h xs ++ rest)

    abbrev pub EachOther : List OneTurn → List Block → Type 0
    EachOther xs [] = Unit {0}
    EachOther xs (b ∷ bs) = AllOther xs b × EachOther xs bs

    each_ends : (bs : List Block) (xs ys : List OneTurn) → AllEndAs xs ys → EachOther xs bs → EachOther ys bs
    each_ends [] xs ys ends other = tt
    each_ends (b ∷ bs) xs ys ends other = (other_ends xs ys b ends other.0, each_ends bs xs ys ends other.1)

    pub pass_all : (step h : List Block) (xs : List OneTurn) → AllStand script cps [] h → AllStand script cps h step → AllAllowed (IsOrderly script) h step → AllRunSilently script cps h xs → EachOther xs step → AllPassed h step xs
    pass_all [] h xs all stand may run other = record {
      others = xs;
      run = subst (λ (bs : List Block). AllRunSilently script cps bs xs) (sym (append-nil h)) run;
      ends = ends_same xs;
      rest = [];
      like = tt;
      stand = tt;
      orderly = tt;
      same = subst₂ Same (ap (λ (bs : List Block). after_turns bs xs) (sym (append-nil h))) (sym (append-nil (after_turns h xs))) (same_itself (after_turns h xs));
    }
    pass_all (b ∷ bs) h xs all stand may run other =
        let one = pass xs h b all stand.0 may.0 run other.0 in
        let all_b = all_push script cps h [] b all stand.0 in
        let next = pass_all bs (h ++ b ∷ []) one.others all_b stand.1 may.1 one.run (each_ends bs xs one.others one.ends other.1) in
        let far = turns_stand xs h all run in
        let o = carry_same next.rest (after_turns (h ++ b ∷ []) one.others) (after_turns h xs ++ b ∷ []) (turns_stand one.others (h ++ b ∷ []) all_b one.run) (all_push script cps (after_turns h xs) [] b far one.stands) one.same next.stand next.orderly in
        let is : (h ++ b ∷ []) ++ bs ≡ h ++ b ∷ bs = append_assoc h (b ∷ []) bs in
        record {
          others = next.others;
          run = subst (λ (ys : List Block). AllRunSilently script cps ys next.others) is next.run;
          ends = ends_on xs one.others next.others one.ends next.ends;
          rest = b ∷ o.rest;
          like = (like_itself b, like_on bs next.rest o.rest next.like o.like);
          stand = (one.stands, o.stand);
          orderly = (one.orderly, o.orderly);
          same = subst₂ Same (ap (λ (ys : List Block). after_turns ys next.others) is) (append_assoc (after_turns h xs) (b ∷ []) o.rest)
              (same_on (after_turns ((h ++ b ∷ []) ++ bs) next.others) (after_turns (h ++ b ∷ []) one.others ++ next.rest) ((after_turns h xs ++ b ∷ []) ++ o.rest) next.same o.same);
        }

-- more turns ahead

pub turns_more : (xs ys : List OneTurn) (h : List Block) → after_turns h (xs ++ ys) ≡ after_turns (after_turns h xs) ys
turns_more [] ys h = refl
turns_more (x ∷ xs) ys h = turns_more xs ys (after_turn h x)

pub run_more : (script : ScriptView) (cps : List CheckpointView) (xs ys : List OneTurn) (h : List Block) → AllRunSilently script cps h xs → AllRunSilently script cps (after_turns h xs) ys → AllRunSilently script cps h (xs ++ ys)
run_more script cps [] ys h run more = more
run_more script cps (x ∷ xs) ys h run more = (run.0, run_more script cps xs ys (after_turn h x) run.1 more)

-- one of these turns is of this task, and none before it is

abbrev pub HasTask : ℕ → List OneTurn → Type 0
HasTask t [] = ⊥
HasTask t (x ∷ xs) = (x.task ≡ t) ⊎ ((t ≢ x.task) × HasTask t xs)

abbrev pub NoTask : ℕ → List OneTurn → Type 0
NoTask t [] = Unit {0}
NoTask t (x ∷ xs) = (t ≢ x.task) × NoTask t xs

pub find : (t : ℕ) (xs : List OneTurn) → HasTask t xs ⊎ NoTask t xs
find t [] = inr tt
find t (x ∷ xs) = elim (cases_eq t x.task) [
  | inl same ↦ inl (inl (sym same))
  | inr ne ↦ elim (find t xs) [ inl has ↦ inl (inr (ne, has)) | inr none ↦ inr (ne, none) ]
]

pub other_begin : (t n : ℕ) (env : Env) (xs : List OneTurn) → NoTask t xs → (script : ScriptView) (cps : List CheckpointView) → AllOther script cps xs (begun t n env)
other_begin t n env [] none script cps = tt
other_begin t n env (x ∷ xs) none script cps = (none.0, other_begin t n env xs none.1 script cps)

pub other_run : (e : ℕ) (r : RecordView) (xs : List OneTurn) → NoTask r.task xs → (script : ScriptView) (cps : List CheckpointView) → AllOther script cps xs (ran e r)
other_run e r [] none script cps = tt
other_run e r (x ∷ xs) none script cps = (none.0, other_run e r xs none.1 script cps)

pub other_add : (u : ℕ) (xs : List OneTurn) (script : ScriptView) (cps : List CheckpointView) → AllOther script cps xs (added u)
other_add u [] script cps = tt
other_add u (x ∷ xs) script cps = (tt, other_add u xs script cps)

module _ (script : ScriptView) (cps : List CheckpointView) (hold : (e : ℕ) → all_hold (executor_invariants script e) (checkpoint_at cps e).fields ≡ true) where
  -- a silent turn leaves how another task looks away, and its life
  past_turn : (h : List Block) (x : OneTurn) (u : ℕ) → AllStand script cps [] h → RunsSilently script cps h x → u ≢ x.task
      → (turn_looks_away script (at script cps (after_turn h x)) u ≡ turn_looks_away script (at script cps h) u) × (bare (life_of u (at script cps (after_turn h x)).log) ≡ bare (life_of u (at script cps h).log))
  past_turn h x u all runs ne =
      let silent = runs.silent in
      let one = silent_after script cps h x.task x.number x.env x.executor x.turn silent (hold_always script cps x.executor (hold x.executor) h all) in
      let s = at script cps h in
      let z = at script cps (after_turn h x) in (
        silent_looks script cps h x.task x.number x.env x.executor x.turn silent (hold_always script cps x.executor (hold x.executor) h all) u ne,
        other_life _ x.task z.log s.log (alone_seen s z x.task x.number x.env _ one (ap waited silent.given) (over_apart script cps h x.task x.number x.env x.executor x.turn silent (hold_always script cps x.executor (hold x.executor) h all))) u ne,
      )

  -- a task of such a turn has a job that looks away, and its turn has not begun
  pub first_job : (t : ℕ) (xs : List OneTurn) (h : List Block) → AllStand script cps [] h → AllRunSilently script cps h xs → HasTask t xs
      → (turn_looks_away script (at script cps h) t ≡ true) × (stage_at (at script cps h).log t ≡ Some Given)
  first_job t [] h all run has = absurd has
  first_job t (x ∷ xs) h all run (inl same) = (
    ap (turn_looks_away script (at script cps h)) (sym same) ∙ run.0.away,
    ap (stage_at (at script cps h).log) (sym same) ∙ run.0.silent.given,
  )
  first_job t (x ∷ xs) h all run (inr more) =
      let past = past_turn h x t all run.0 more.0 in
      let rest = first_job t xs (after_turn h x) (turn_stand script cps h x all run.0) run.1 more.1 in
      (sym past.0 ∙ rest.0, ap (λ (l : Life). l.stage) (sym past.1) ∙ rest.1)

  -- other tasks look away as before after these turns
  pub past_turns : (t : ℕ) (xs : List OneTurn) (h : List Block) → AllStand script cps [] h → AllRunSilently script cps h xs → NoTask t xs → turn_looks_away script (at script cps (after_turns h xs)) t ≡ turn_looks_away script (at script cps h) t
  past_turns t [] h all run none = refl
  past_turns t (x ∷ xs) h all run none = past_turns t xs (after_turn h x) (turn_stand script cps h x all run.0) run.1 none.1 ∙ (past_turn h x t all run.0 none.0).0

  module _ (Tried : ℕ → ExitView → Type 0) where
    abbrev pub AllTried : List OneTurn → Type 0
    AllTried [] = Unit {0}
    AllTried (x ∷ xs) = Tried x.executor x.turn.exit × AllTried xs

    pub tried_ends : (xs ys : List OneTurn) → AllEndAs script cps xs ys → AllTried xs → AllTried ys
    tried_ends [] [] ends all = tt
    tried_ends (x ∷ xs) (y ∷ ys) ends all = (subst₂ Tried (sym ends.0.executor_is) (sym ends.0.exit_is) all.0, tried_ends xs ys ends.1 all.1)
    tried_ends _ _ ends all = absurd ends

    pub tried_more : (xs ys : List OneTurn) → AllTried xs → AllTried ys → AllTried (xs ++ ys)
    tried_more [] ys all more = more
    tried_more (x ∷ xs) ys all more = (all.0, tried_more xs ys all.1 more)

    -- A step is one of these turns: the others run after it, and lead as all of them do.
    pub record Owned (h step : List Block) (xs : List OneTurn) (e : ℕ) (exit : ExitView) : Type 0 where
      pub others : List OneTurn
      pub run : AllRunSilently script cps (h ++ step) others
      pub tried : AllTried others
      pub own : Tried e exit
      pub same : LeadAsOne script cps (after_turns (h ++ step) others) (after_turns h xs)

    own_head : (h : List Block) (x : OneTurn) (xs : List OneTurn) (n : ℕ) (env : Env) (e : ℕ) (r : RecordView) → AllStand script cps [] h → AllRunSilently script cps h (x ∷ xs) → AllTried (x ∷ xs)
        → Stands script cps h (begun x.task n env) → Stands script cps (h ++ begun x.task n env ∷ []) (ran e r) → r.task ≡ x.task → Owned h (begun x.task n env ∷ ran e r ∷ []) (x ∷ xs) e r.exit
    own_head h x xs n env e r all run tried begins runs own =
        let silent = run.0.silent in
        let t : ℕ = x.task in
        let log = (at script cps h).log in
        let same_number : n ≡ x.number = number_one (life_of t log).given n x.number (current_is (life_of t log) n begins.0.resume begins.2).0 (current_is (life_of t log) x.number silent.begins.0.resume silent.begins.2).0 in
        let same_env : env ≡ x.env = one_env (root_count script) (task t) log env x.env begins.3 silent.begins.3 in
        let same : begun t n env ≡ begun t x.number x.env = ap₂ (λ (i : ℕ) (y : Env). begun t i y) same_number same_env in
        let front : List Block = h ++ begun t x.number x.env ∷ [] in
        let mid : AllStand script cps [] front = all_push script cps h [] (begun t x.number x.env) all silent.begins in
        let ran_there : Stands script cps front (ran e r) = subst (λ (b : Block). Stands script cps (h ++ b ∷ []) (ran e r)) same runs in
        let one = determined script cps front e x.executor r x.turn mid ran_there silent.runs (own ∙ sym silent.own) in
        let two = determined script cps front x.executor e x.turn r mid silent.runs ran_there (silent.own ∙ sym own) in
        let exit : r.exit ≡ x.turn.exit = determined_exit script cps front e x.executor r x.turn ran_there silent.runs (own ∙ sym silent.own) in
        let here : List Block = front ++ ran e r ∷ [] in
        let rest = turns_too script cps xs (after_turn h x) here (turn_stand script cps h x all run.0) (all_push script cps front [] (ran e r) mid ran_there) (two.1, one.1) run.1 in
        let is : here ≡ h ++ begun t n env ∷ ran e r ∷ [] = append_assoc h (begun t x.number x.env ∷ []) (ran e r ∷ []) ∙ ap (λ (b : Block). h ++ b ∷ ran e r ∷ []) (sym same) in
        record {
          others = rest.others;
          run = subst (λ (bs : List Block). AllRunSilently script cps bs rest.others) is rest.run;
          tried = tried_ends xs rest.others rest.ends tried.1;
          own = subst₂ Tried (sym one.0) (sym exit) tried.0;
          same = subst (λ (bs : List Block). LeadAsOne script cps (after_turns bs rest.others) (after_turns (after_turn h x) xs)) is (same_back script cps (after_turns (after_turn h x) xs) (after_turns here rest.others) rest.same);
        }

    pub own_turn : (xs : List OneTurn) (h : List Block) (t n : ℕ) (env : Env) (e : ℕ) (r : RecordView) → AllStand script cps [] h → AllRunSilently script cps h xs → AllTried xs → Stands script cps h (begun t n env)
        → Stands script cps (h ++ begun t n env ∷ []) (ran e r) → IsOrderly script h (begun t n env) → r.task ≡ t → HasTask t xs → Owned h (begun t n env ∷ ran e r ∷ []) xs e r.exit
    own_turn [] h t n env e r all run tried begins runs may own has = absurd has
    own_turn (x ∷ xs) h t n env e r all run tried begins runs may own (inl same) =
        subst (λ (u : ℕ). Stands script cps h (begun u n env) → Stands script cps (h ++ begun u n env ∷ []) (ran e r) → r.task ≡ u → Owned h (begun u n env ∷ ran e r ∷ []) (x ∷ xs) e r.exit) same
        (own_head h x xs n env e r all run tried) begins runs own
    own_turn (x ∷ xs) h t n env e r all run tried begins runs may own (inr more) =
        let b : Block = begun t n env in
        let step : List Block = b ∷ ran e r ∷ [] in
        let p = pass_all script cps hold step h (x ∷ []) all (begins, (runs, tt)) (may, (tt, tt)) (run.0, tt) ((more.0, tt), ((λ is. more.0 (sym own ∙ is), tt), tt)) in
        by_rest (λ q begin_far run_far may_far own_far. own_turn xs (after_turn h x) t n env e q (turn_stand script cps h x all run.0) run.1 tried.1 begin_far run_far may_far own_far more.1) p p.rest p.like p.stand p.orderly p.same
      where
        by_rest : ((q : RecordView) → Stands script cps (after_turn h x) (begun t n env) → Stands script cps (after_turn h x ++ begun t n env ∷ []) (ran e q) → IsOrderly script (after_turn h x) (begun t n env) → q.task ≡ t
            → Owned (after_turn h x) (begun t n env ∷ ran e q ∷ []) xs e q.exit)
            → (p : AllPassed script cps hold h (begun t n env ∷ ran e r ∷ []) (x ∷ [])) (rest : List Block) → AreLike script (begun t n env ∷ ran e r ∷ []) rest → AllStand script cps (after_turn h x) rest
            → AllAllowed (IsOrderly script) (after_turn h x) rest → LeadAsOne script cps (after_turns (h ++ begun t n env ∷ ran e r ∷ []) p.others) (after_turn h x ++ rest) → Owned h (begun t n env ∷ ran e r ∷ []) (x ∷ xs) e r.exit
        by_rest again p [] like stand orderly same = absurd like
        by_rest again p (c ∷ []) like stand orderly same = absurd like.1
        by_rest again p (c ∷ d ∷ f ∷ rest) like stand orderly same = absurd like.1.1
        by_rest again p (c ∷ d ∷ []) like stand orderly same =
            let step : List Block = begun t n env ∷ ran e r ∷ [] in
            let q : RecordView = record r { frame = like.1.0.0 } in
            let far : List Block = begun t n env ∷ ran e q ∷ [] in
            let is : c ∷ d ∷ [] ≡ far = ap₂ (λ (y z : Block). y ∷ z ∷ []) (sym like.0) like.1.0.2 in
            let stand_far = subst (AllStand script cps (after_turn h x)) is stand in
            let may_far = subst (AllAllowed (IsOrderly script) (after_turn h x)) is orderly in
            let same_far = subst (λ (bs : List Block). LeadAsOne script cps (after_turns (h ++ step) p.others) (after_turn h x ++ bs)) is same in
            let there = turn_stand script cps h x all run.0 in
            let o = again q stand_far.0 stand_far.1.0 may_far.0 own in
            let far_stand : AllStand script cps [] (after_turn h x ++ far) = subst (AllStand script cps []) (append_assoc (after_turn h x) (begun t n env ∷ []) (ran e q ∷ []))
            (all_push script cps (after_turn h x ++ begun t n env ∷ []) [] (ran e q) (all_push script cps (after_turn h x) [] (begun t n env) there stand_far.0) stand_far.1.0) in
            let step_stand : AllStand script cps [] (h ++ step) = subst (AllStand script cps []) (append_assoc h (begun t n env ∷ []) (ran e r ∷ [])) (all_push script cps (h ++ begun t n env ∷ []) [] (ran e r) (all_push script cps h [] (begun t n env) all begins) runs) in
            let mine = turns_too script cps o.others (after_turn h x ++ far) (after_turns (h ++ step) p.others) far_stand (turns_stand script cps p.others (h ++ step) step_stand p.run) (same_back script cps (after_turns (h ++ step) p.others) (after_turn h x ++ far) same_far) o.run in
            record {
              others = p.others ++ mine.others;
              run = run_more script cps p.others mine.others (h ++ step) p.run mine.run;
              tried = tried_more p.others mine.others (tried_ends (x ∷ []) p.others p.ends (tried.0, tt)) (tried_ends o.others mine.others mine.ends o.tried);
              own = o.own;
              same = subst (λ (bs : List Block). LeadAsOne script cps bs (after_turns (after_turn h x) xs)) (sym (turns_more p.others mine.others (h ++ step)))
                  (same_on script cps (after_turns (after_turns (h ++ step) p.others) mine.others) (after_turns (after_turn h x ++ far) o.others) (after_turns (after_turn h x) xs)
                  (same_back script cps (after_turns (after_turn h x ++ far) o.others) (after_turns (after_turns (h ++ step) p.others) mine.others) mine.same) o.same);
            }
