-- A root that no line names: no task has to do with it but itself, whichever blocks of others follow.
use Rattle.swift_reordering.proofs.Prelude.{◌≡◌, ◌≢◌, ℕ, zero, suc, ◌+◌, ◌<◌, List, [], ◌∷◌, ◌++◌, length, refl, sym, ◌∙◌, ap, ap₂, subst, Bool, true, false, append_assoc, append-nil, arith, Option, Some, None, ◌==◌, ◌&&◌, nat_lt, is_some, not, if◌then◌else◌, unwrap_or, slice_get, AllByRecursion, cons_option, eq-eqb, eqb-true, false≢true, ltb-true, ne_eqb, TaskId, Env, Ending, Fault, Priority, Background, next_of, ScriptView, root_count, root_priority, FrameView, TaskName, Own, EffectView, spawning, detaching, opening, adding, cancelling_task, cancelling_group, ExitView, waiting, asking_next, closing, Step, Ended, Advanced, advanced, RecordView, turn_of, CheckpointView, FoldedView, Event, Root, Begin, Apply, Free, Open, Child, Skip, CancelTask, CancelGroup, Wait, Next, Close, End, Give, Life, task_of, tasks_of, life_of, lived, own_tasks, own_in, waiter_in, child_in, opened_by, parent_by, group_of, own_tasks-push_none, own_tasks-push_same, Counters, can_name, counters, counted, fits_effect, fits_exit, fits_turn, JobFacts, TurnEnd, task, gives, named_task, is_left_out, effect_events, log_after, wait_events, next_events, close_events, end_events, exit_events, turn_end, root_job, Block, added, begun, ran, folded, Standing, at_first, after_block, after_blocks, begun_priority, folded_in, folded_of, left_as, turn_applied, fields_of, TurnStands, Stands, AllStand, after_push, all_append, applied_is, both, Digest, noted, said, IsNotFolded, own_tasks_is, tasks_of_is, digest_of-push, bare_remembered, remembered, stage_at, name_spares, EffectSpares, exit_spares, IsApart, IsOther, IsUnnamed, PlaySpares}
use Rattle.std.proofs.lemmas.List.{length-append}
use Rattle.swift_groups.specs.declared.answer.NextResult.{NextResult as Answer}
use Rattle.swift_groups.specs.declared.answer.NextResult.TheVariants as answer
use Rattle.swift_interpreter.specs.declared.effect.TaskName.TheVariants.{Root as RootName}
use Rattle.swift_digest.specs.Digests.{digest_of}
use Rattle.swift_reordering.proofs.Naming.{turns_spare}
use Rattle.swift_reordering.proofs.Sights.{ChildrenShown, IsShown}
use Rattle.swift_reordering.proofs.SeenEnds.{EffectShown, EffectsShown, ExitShown, TurnShown}

module _ (t : ℕ) where
  -- an event that neither makes task `t` nor says that a task waits for it
  abbrev pub LeavesApart : Event → Type 0
  LeavesApart (Free v by p detached) = v.0 ≢ t
  LeavesApart (Child v o g p) = v.0 ≢ t
  LeavesApart (Wait v awaited) = awaited.0 ≢ t
  LeavesApart _ = Unit {0}

  no_waiter : (e : Event) → LeavesApart e → waiter_in t e ≡ None
  no_waiter (Wait v awaited) ne = ap (λ (b : Bool). if b then Some v else None) (ne_eqb awaited.0 t ne)
  no_waiter _ ne = refl

  other_if : (b : Bool) (v : TaskId) → v.0 ≢ t → AllByRecursion (IsOther t) (cons_option (if b then Some v else None) [])
  other_if true v ne = (ne, tt)
  other_if false v ne = tt

  child_other : (o g : ℕ) (e : Event) → LeavesApart e → AllByRecursion (IsOther t) (said (child_in o g) e)
  child_other o g (Child v owner group p) ne = other_if ((owner.0 == o) && (group == g)) v ne
  child_other o g e ne = tt

  own_other : (u : ℕ) (e : Event) → LeavesApart e → AllByRecursion (IsOther t) (said (own_in u) e)
  own_other u (Free v by p detached) ne = other_if (by.0 == u) v ne
  own_other u e ne = tt

  parent_lived : (l : Life) (e : Event) → task_of e ≡ t → LeavesApart e → parent_by l.origin ≡ None → parent_by (lived l e).origin ≡ None
  parent_lived l (Free v by p detached) of ne none = absurd (ne of)
  parent_lived l (Child v o g p) of ne none = absurd (ne of)
  parent_lived l (Root v p) of ne none = refl
  parent_lived l e of ne none = none

  parent_if : (b : Bool) (l : Life) (e : Event) → (b ≡ true → task_of e ≡ t) → LeavesApart e → parent_by l.origin ≡ None → parent_by (if b then remembered (lived l e) else l).origin ≡ None
  parent_if true l e of ne none = ap (λ (x : Life). parent_by x.origin) (bare_remembered (lived l e)) ∙ parent_lived l e (of refl) ne none
  parent_if false l e of ne none = none

  noted_apart : (d : Digest) (e : Event) → LeavesApart e → IsApart t d → IsApart t (noted d e)
  noted_apart d e leaves apart = record {
    waiters = ap₂ (λ (xs : List TaskId) (o : Option TaskId). xs ++ cons_option o []) apart.waiters (no_waiter e leaves);
    parent = parent_if (task_of e == t) (d.cards t).life e (λ is. eqb-true (task_of e) t is) leaves apart.parent;
    children = λ o g. all_append (IsOther t) (d.groups o g).children (said (child_in o g) e) (apart.children o g) (child_other o g e leaves);
    own = λ u. all_append (IsOther t) (d.cards u).own (said (own_in u) e) (apart.own u) (own_other u e leaves);
  }

  abbrev pub Apart : List Event → Type 0
  Apart log = IsApart t (digest_of log)

  pub apart_push : (log : List Event) (e : Event) → LeavesApart e → Apart log → Apart (log ++ e ∷ [])
  apart_push log e leaves apart = subst (IsApart t) (sym (digest_of-push log e)) (noted_apart (digest_of log) e leaves apart)

  pub apart_first : Apart []
  unfolding digest_of
  apart_first = record { waiters = refl; parent = refl; children = λ o g. tt; own = λ u. tt }

  apart_nil : (log : List Event) → Apart log → Apart (log ++ [])
  apart_nil log apart = subst Apart (sym (append-nil log)) apart

  pub apart_gives : (js : List JobFacts) (log : List Event) → Apart log → Apart (log ++ gives js)
  apart_gives [] log apart = apart_nil log apart
  apart_gives (j ∷ js) log apart =
      let e : Event = Give (task j.task) j.number j.resume in
      subst Apart (append_assoc log (e ∷ []) (gives js)) (apart_gives js (log ++ e ∷ []) (apart_push log e tt apart))

  -- what a turn names is another task

  abbrev is_it : ℕ → Bool
  is_it u = u == t

  in_list : (xs : List TaskId) (k : ℕ) → k < length xs → AllByRecursion (IsOther t) xs → (unwrap_or (slice_get xs k) (task 0)).0 ≢ t
  in_list [] k low all = absurd (omega (arith, low))
  in_list (x ∷ xs) zero low all = all.0
  in_list (x ∷ xs) (suc k) low all = in_list xs k (omega (arith, low)) all.1

  module _ (script : ScriptView) (u : ℕ) (first : List Event) where
    name_shown : (log : List Event) (c : Counters) (name : TaskName) → name_spares t name ≡ true → can_name script first c name ≡ true → length (own_tasks u log) ≡ c.own → Apart log → is_it (named_task u name log).0 ≡ false
    name_shown log c (RootName r) spares can many apart = not_true (r.0 == t) spares where
      not_true : (b : Bool) → not b ≡ true → b ≡ false
      not_true true is = absurd (false≢true is)
      not_true false is = refl
    name_shown log c (Own k) spares can many apart =
        ne_eqb (named_task u (Own k) log).0 t
        (in_list (own_tasks u log) k (ltb-true k (length (own_tasks u log)) (ap (nat_lt k) many ∙ can)) (subst (AllByRecursion (IsOther t)) (sym (own_tasks_is u log)) (apart.own u)))

    abbrev roots : ℕ
    roots = root_count script

    -- a task that is made is none of the roots
    made_other : (log : List Event) → t < roots → tasks_of roots log ≢ t
    made_other log low is = (let many = tasks_of_is roots log in omega (arith, low, is, many))

    -- an effect
    record AfterEffect (log : List Event) (own : Priority) (c : Counters) (e : EffectView) : Type 0 where
      apart : Apart (log ++ effect_events roots u own log e)
      many : length (own_tasks u (log ++ effect_events roots u own log e)) ≡ (counted c e).own
      shown : EffectShown is_it u log e

    made_own : (log : List Event) (own : Priority) (c : Counters) (p : Priority) (detached : Bool) → t < roots → length (own_tasks u log) ≡ c.own → Apart log
        → Apart (log ++ Free (task (tasks_of roots log)) (task u) p detached ∷ []) × (length (own_tasks u (log ++ Free (task (tasks_of roots log)) (task u) p detached ∷ [])) ≡ c.own + 1)
    made_own log own c p detached low many apart = (
      apart_push log (Free (task (tasks_of roots log)) (task u) p detached) (made_other log low) apart,
      ap length (own_tasks-push_same (task (tasks_of roots log)) (task u) p detached log) ∙ length-append (own_tasks u log) (task (tasks_of roots log) ∷ []) ∙ ap (λ (n : ℕ). n + 1) many,
    )

    quiet : (log : List Event) (e : Event) (n : ℕ) → own_in u e ≡ None → LeavesApart e → length (own_tasks u log) ≡ n → Apart log → Apart (log ++ e ∷ []) × (length (own_tasks u (log ++ e ∷ [])) ≡ n)
    quiet log e n none leaves many apart = (apart_push log e leaves apart, ap length (own_tasks-push_none u log e none) ∙ many)

    abbrev Same : List Event → ℕ → Type 0
    Same log n = Apart log × (length (own_tasks u log) ≡ n)

    nothing : (log : List Event) (n : ℕ) → length (own_tasks u log) ≡ n → Apart log → Same (log ++ []) n
    nothing log n many apart = subst (λ (l : List Event). Same l n) (sym (append-nil log)) (apart, many)

    either : (b : Bool) (log es fs : List Event) (n : ℕ) → Same (log ++ es) n → Same (log ++ fs) n → Same (log ++ (if b then es else fs)) n
    either true log es fs n one two = one
    either false log es fs n one two = two

    after_effect : (log : List Event) (own : Priority) (c : Counters) (e : EffectView) → t < roots → EffectSpares t e → fits_effect script u first c e ≡ true → length (own_tasks u log) ≡ c.own → Apart log → AfterEffect log own c e
    after_effect log own c (spawning i p bindings) low spares fits many apart =
        (let a = made_own log own c (unwrap_or p own) false low many apart in record { apart = a.0; many = a.1; shown = tt })
    after_effect log own c (detaching i p) low spares fits many apart =
        (let a = made_own log own c p true low many apart in record { apart = a.0; many = a.1; shown = tt })
    after_effect log own c opening low spares fits many apart =
        (let a = quiet log (Open (task u) (opened_by u log)) c.own refl tt many apart in record { apart = a.0; many = a.1; shown = tt })
    after_effect log own c (adding g unless i p bindings) low spares fits many apart =
        let a = either (is_left_out u g unless log) log (Skip (task u) g ∷ []) (Child (task (tasks_of roots log)) (task u) g (unwrap_or p Background) ∷ []) c.own
        (quiet log (Skip (task u) g) c.own refl tt many apart)
        (quiet log (Child (task (tasks_of roots log)) (task u) g (unwrap_or p Background)) c.own refl (made_other log low) many apart) in
        record { apart = a.0; many = a.1; shown = tt }
    after_effect log own c (cancelling_task name) low spares fits many apart =
        let v : TaskId = named_task u name log in
        let a = either (is_some (life_of v.0 log).ending) log [] (CancelTask v ∷ []) c.own (nothing log c.own many apart) (quiet log (CancelTask v) c.own refl tt many apart) in
        record { apart = a.0; many = a.1; shown = name_shown log c name spares fits many apart }
    after_effect log own c (cancelling_group g) low spares fits many apart =
        (let a = quiet log (CancelGroup (task u) g) c.own refl tt many apart in record { apart = a.0; many = a.1; shown = tt })

    -- all effects, and the exit
    record AfterEffects (log : List Event) (own : Priority) (es : List EffectView) (exit : ExitView) : Type 0 where
      apart : Apart (log_after roots u own log es)
      effects : EffectsShown is_it roots u own es log
      exit_is : ExitShown is_it u (log_after roots u own log es) exit

    exit_shown : (log : List Event) (c : Counters) (exit : ExitView) → exit_spares t exit ≡ true → fits_exit script u first c exit ≡ true → length (own_tasks u log) ≡ c.own → Apart log → ExitShown is_it u log exit
    exit_shown log c (waiting name) spares fits many apart = name_shown log c name spares fits many apart
    exit_shown log c _ spares fits many apart = tt

    after_effects : (es : List EffectView) (log : List Event) (own : Priority) (c : Counters) (exit : ExitView) → t < roots → AllByRecursion (EffectSpares t) es → exit_spares t exit ≡ true → fits_turn script u first c es exit ≡ true
        → length (own_tasks u log) ≡ c.own → Apart log → AfterEffects log own es exit
    after_effects [] log own c exit low spares leaves fits many apart = record { apart = apart; effects = tt; exit_is = exit_shown log c exit leaves fits many apart }
    after_effects (e ∷ es) log own c exit low spares leaves fits many apart =
        let parts = both (fits_effect script u first c e) (fits_turn script u first (counted c e) es exit) fits in
        let one = after_effect log own c e low spares.0 parts.0 many apart in
        let rest = after_effects es (log ++ effect_events roots u own log e) own (counted c e) exit low spares.1 leaves parts.1 one.many one.apart in
        record { apart = rest.apart; effects = (one.shown, rest.effects); exit_is = rest.exit_is }

  -- what an exit writes

  other_than : (v : TaskId) → is_it v.0 ≡ false → v.0 ≢ t
  other_than v shown is = false≢true (sym shown ∙ eq-eqb v.0 t is)

  wait_apart : (u : ℕ) (log : List Event) (awaited : TaskId) (o : Option Ending) → awaited.0 ≢ t → Apart log → Apart (log ++ wait_events u awaited o)
  wait_apart u log awaited (Some e) ne apart = apart_nil log apart
  wait_apart u log awaited None ne apart = apart_push log (Wait (task u) awaited) ne apart

  next_apart : (u : ℕ) (log : List Event) (g : ℕ) (a : Answer) → Apart log → Apart (log ++ next_events u g a)
  next_apart u log g answer.Empty apart = apart_nil log apart
  next_apart u log g _ apart = apart_push log (Next (task u) g) tt apart

  close_apart : (u : ℕ) (log : List Event) (g : ℕ) (f : Option Fault) → Apart log → Apart (log ++ close_events u g f)
  close_apart u log g None apart = apart_push log (Close (task u) g) tt apart
  close_apart u log g (Some f) apart =
      subst Apart (append_assoc log (CancelGroup (task u) g ∷ []) (Close (task u) g ∷ []))
      (apart_push (log ++ CancelGroup (task u) g ∷ []) (Close (task u) g) tt (apart_push log (CancelGroup (task u) g) tt apart))

  end_apart : (u : ℕ) (log : List Event) (step : Step) → Apart log → Apart (log ++ end_events u step)
  end_apart u log (Ended e) apart = apart_push log (End (task u) e) tt apart
  end_apart u log _ apart = apart_nil log apart

  exit_apart : (u : ℕ) (log : List Event) (exit : ExitView) (step : Step) → ExitShown is_it u log exit → Apart log → Apart (log ++ exit_events u log exit step)
  exit_apart u log (waiting name) step shown apart = wait_apart u log (named_task u name log) (life_of (named_task u name log).0 log).ending (other_than (named_task u name log) shown) apart
  exit_apart u log (asking_next g) step shown apart = next_apart u log g (next_of (group_of u g log)) apart
  exit_apart u log (closing g f) step shown apart = close_apart u log g f apart
  exit_apart u log _ step shown apart = end_apart u log step apart

  -- it is no child of a group

  others_shown : (us : List TaskId) → AllByRecursion (IsOther t) us → AllByRecursion (IsShown is_it) us
  others_shown [] all = tt
  others_shown (u ∷ us) all = (ne_eqb u.0 t all.0, others_shown us all.1)

  children_shown : (log : List Event) → Apart log → ChildrenShown is_it log
  children_shown log apart o g = others_shown ((digest_of log).groups o g).children (apart.children o g)

  -- a turn

  module _ (script : ScriptView) (s : Standing) (executor u n : ℕ) (effects : List EffectView) (exit : ExitView) (job : JobFacts) (env : Env) (frame : FrameView) (stands : TurnStands script s executor u n effects exit job env frame)
      (low : t < root_count script) (spares : AllByRecursion (EffectSpares t) effects) (leaves : exit_spares t exit ≡ true) (apart : Apart s.log) where
    abbrev own_priority : Priority
    own_priority = begun_priority (stage_at s.log u)

    abbrev at_start : List Event
    at_start = s.log ++ Apply (task u) n ∷ []

    walked : AfterEffects script u s.log at_start own_priority effects exit
    walked = after_effects script u s.log effects at_start own_priority (counters u s.log env.room) exit low spares leaves stands.fits (ap length (own_tasks-push_none u s.log (Apply (task u) n) refl)) (apart_push s.log (Apply (task u) n) tt apart)

    pub turn_shown : TurnShown is_it (root_count script) u n own_priority s.log effects exit
    turn_shown = record {
      effects_are = walked.effects;
      exit_is = walked.exit_is;
      children = children_shown _ walked.apart;
      after_exit = λ step. children_shown _ (exit_apart u _ exit step walked.exit_is walked.apart);
    }

    pub turn_apart : (after : Option FrameView) → Apart (turn_applied script s u n effects exit after).log
    turn_apart after =
        let adv : Advanced = advanced script (left_as frame effects after) stands.runs.0 job.frames.outer exit in
        let done : List Event = log_after (root_count script) u own_priority at_start effects in
        let written : List Event = done ++ exit_events u done exit adv.step in
        let x : TurnEnd = turn_end script s.log s.held u n own_priority effects exit adv in
        subst (λ (z : Standing). Apart z.log) (sym (applied_is script s u n job frame stands.runs.0 effects exit after stands.given stands.runs.1))
        (apart_gives x.jobs written (exit_apart u done exit adv.step walked.exit_is walked.apart))

-- what a recorded turn does spares a root that no line names
pub record_spares : (script : ScriptView) (cps : List CheckpointView) (before : List Block) (e : ℕ) (r : RecordView) (t : ℕ) → IsUnnamed script t → Stands script cps before (ran e r) → AllByRecursion (EffectSpares t) r.effects × (exit_spares t r.exit ≡ true)
record_spares script cps before e r t unnamed stands =
    let p : PlaySpares t (turn_of script (fields_of script cps e before) r) = turns_spare t script r.frame r.outer (fields_of script cps e before) r.resume r.env (unnamed.spared r.frame.method) in
    (subst (AllByRecursion (EffectSpares t)) (sym stands.lawful.effects) p.effects, ap (exit_spares t) stands.lawful.exit ∙ p.exit)

-- a block leaves it apart
pub block_apart : (script : ScriptView) (cps : List CheckpointView) (before : List Block) (b : Block) (t : ℕ) → IsUnnamed script t → Stands script cps before b → IsNotFolded b → IsApart t (digest_of (after_blocks script (at_first script) before).log)
    → IsApart t (digest_of (after_blocks script (at_first script) (before ++ b ∷ [])).log)
block_apart script cps before b t unnamed stands plain apart = subst (λ (z : Standing). IsApart t (digest_of z.log)) (sym (after_push script (at_first script) before b)) (by_kind b stands plain) where
  s : Standing
  s = after_blocks script (at_first script) before

  by_kind : (c : Block) → Stands script cps before c → IsNotFolded c → IsApart t (digest_of (after_block script s c).log)
  by_kind (added r) stands plain =
      subst (Apart t) (append_assoc s.log (Root (task r) (root_priority script r) ∷ []) (gives (root_job script r ∷ [])))
      (apart_gives t (root_job script r ∷ []) (s.log ++ Root (task r) (root_priority script r) ∷ []) (apart_push t s.log (Root (task r) (root_priority script r)) tt apart))
  by_kind (begun u n env) stands plain = apart_push t s.log (Begin (task u) n env) tt apart
  by_kind (ran e r) stands plain =
      let spares = record_spares script cps before e r t unnamed stands in
      turn_apart t script s e r.task r.number r.effects r.exit stands.job r.env r.frame stands.stands unnamed.root spares.0 spares.1 apart r.after
  by_kind (folded e f) stands plain = absurd plain

-- so it is apart in each history without folded turns
pub always_apart : (script : ScriptView) (cps : List CheckpointView) (t : ℕ) → IsUnnamed script t → (bs before : List Block) → AllStand script cps before bs → AllByRecursion IsNotFolded bs
    → IsApart t (digest_of (after_blocks script (at_first script) before).log) → IsApart t (digest_of (after_blocks script (at_first script) (before ++ bs)).log)
always_apart script cps t unnamed [] before all plain apart = subst (λ (xs : List Block). IsApart t (digest_of (after_blocks script (at_first script) xs).log)) (sym (append-nil before)) apart
always_apart script cps t unnamed (b ∷ bs) before all plain apart =
    subst (λ (xs : List Block). IsApart t (digest_of (after_blocks script (at_first script) xs).log)) (append_assoc before (b ∷ []) bs)
    (always_apart script cps t unnamed bs (before ++ b ∷ []) all.1 plain.1 (block_apart script cps before b t unnamed all.0 plain.0 apart))

-- a history without folded turns

none_in : (o : Option FoldedView) (fs : List FoldedView) → cons_option o fs ≡ [] → (o ≡ None) × (fs ≡ [])
none_in None fs is = (refl, is)
none_in (Some f) fs is = absurd (cc is)

plain_one : (b : Block) → ((e : ℕ) → folded_in e b ≡ None) → IsNotFolded b
plain_one (folded e f) none =
    let some : folded_in e (folded e f) ≡ Some f = ap (λ (b : Bool). if b then Some f else None) (eq-eqb e e refl) in
    absurd (cc (sym (none e) ∙ some))
plain_one _ none = tt

pub all_plain : (bs : List Block) → ((e : ℕ) → folded_of e bs ≡ []) → AllByRecursion IsNotFolded bs
all_plain [] none = tt
all_plain (b ∷ bs) none = (plain_one b (λ e. (none_in (folded_in e b) (folded_of e bs) (none e)).0), all_plain bs (λ e. (none_in (folded_in e b) (folded_of e bs) (none e)).1))
