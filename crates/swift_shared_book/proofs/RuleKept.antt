-- The rule of a shared book, at each call.
use mathlib.Core.Option.{some, some-injective, some-ne-none}
use lib.ListN.{get_elem?}
use Rattle.swift_shared_book.proofs.Prelude.{◌≡◌, ℕ, zero, suc, ◌+◌, ◌≤◌, List, [], ◌∷◌, ◌++◌, length, drop, map, refl, sym, ap, ◌∙◌, subst, arith, Option, Some, None, IfSome, IsSomeAnd, MatchResult, OnOk, IfErr, Result, Ok, Err, drop-map, length-append, length-map, map-append, Env, ScriptView, root_count, BodyView, JobView, IsEnv, RecordView, has_last_root, job_executor, JobFacts, root_events, root_job, MayUnlock, BookView, IsEndOf, empty_book, end_of_turn, job_facts, BookFault, refusal_of_apply, refusal_of_begin, refusal_of_root, Account, BookFacts, Maker, BookKnown, Ticket, fresh, BookImage, Known, first_view, gathered, some_parted, MayGive, end_of, knowing_begin, knowing_turn, with_record, book_stays, run_begins, learns, facts_of, BeginsTicket, HasPlayed, HasTicket, IsInRun, RunsAtSeat, facts_in, tickets_view, KnowsRoot, MayGiveBack, knowing_record}
use Rattle.std.proofs.lemmas.List.Sorted.{IsPermutation-to_front}
use Rattle.std.proofs.Math.Seq.{drop-append_seam}
use Rattle.swift_interpreter.specs.Turn.{EffectView, ExitView}
use Rattle.swift_events.specs.declared.event.Event.TheVariants.{Begin}
use Rattle.swift_course.specs.Course.{IsCourse}
use Rattle.swift_course.specs.Rule.{HoldsOf, views_of}
use Rattle.swift_course.proofs.Ordered.{known_ordered, tickets_ordered}
use Rattle.swift_course.proofs.Rule.{gives}
use Rattle.swift_course.specs.Reports.{Knows}
use Rattle.swift_shared_book.proofs.CallsKeep.{apply_keeps, begin_keeps, root_keeps}

-- a lock is made
pub starts : (b : BookView) → b ≡ empty_book b.script → IsCourse (facts_of b) (first_view b.script ∷ [])
starts b is = subst (λ (x : BookView). IsCourse (facts_of x) (first_view b.script ∷ [])) (sym is) (run_begins b.script)

-- what may be given back in the run may be given back to the lock
pub unlocks : (held : Option BookImage) (known : Known) (given : BookImage) (asked : BookFacts → BookKnown → Type 0) → MayGiveBack known.view (facts_in held) given.facts asked
    → IfSome held (λ taken. MayUnlock HoldsOf known taken given (λ known'. asked taken.facts known'.view))
unlocks None known given asked may = tt
unlocks (Some taken) known given asked may = λ all seat holds at. (let g = gives known taken given may.0 may.2 all seat holds at in (g.0, g.1, subst (asked taken.facts) (sym g.2) may.1))

-- what is told of what a lock's seat took is told of the book
pub told : (held : Option BookImage) (w : BookKnown) (asked : BookFacts → BookKnown → Type 0) → IfSome held (λ taken. asked taken.facts w) → IfSome (facts_in held) (λ taken. asked taken w)
told None w asked is = tt
told (Some taken) w asked is = is

-- the book is as it was
pub stays : (held : Option BookFacts) (v : BookKnown) (facts : BookFacts) → held ≡ Some facts → MayGiveBack v held facts (λ _ w. w ≡ v)
stays held v facts is = subst (λ (h : Option BookFacts). MayGiveBack v h facts (λ _ w. w ≡ v)) (sym is) (v, refl, book_stays v facts)

-- the turn of a job has begun
pub begins : (held : Option BookFacts) (v : BookKnown) (script : ScriptView) (b b' : BookView) (j : JobView BodyView) (env : Env) → held ≡ Some (facts_of b) → b.script ≡ script → HasTicket (job_facts j) v.tickets → RunsAtSeat script v (job_facts j)
    → refusal_of_begin b.script b.log j ≡ None → IsEnv (root_count b.script) j.task b.log env → b' ≡ record b { log = b.log ++ Begin j.task j.number env ∷ [] }
    → MayGiveBack v held (facts_of b') (λ taken. BeginsTicket taken.log (has_last_root taken.script taken.log) (job_facts j) env v)
begins held v script b b' j env is of_script has at may env_is ends =
    let k = has.0 in
    let rest = has.1 in
    let w = knowing_begin b.log (has_last_root b.script b.log) k rest env v in
    let on : job_executor b.script (Some (job_facts j)) ≡ Some at.0.executor = subst (λ (s : ScriptView). job_executor s (Some (job_facts j)) ≡ Some at.0.executor) (sym of_script) at.2 in
    let give : MayGive v (facts_of b) (facts_of b') w =
    tickets_ordered v (k ∷ rest) (facts_of b) (facts_of b') w has.2 (begin_keeps (record v { tickets = k ∷ rest }) at.0 k rest env b b' j at.1 refl has.3 on may env_is ends)
    in
    subst (λ (h : Option BookFacts). MayGiveBack v h (facts_of b') (λ taken. BeginsTicket taken.log (has_last_root taken.script taken.log) (job_facts j) env v)) (sym is) (w, (k, rest, has.2, has.3, refl), give)

pub names_begun : (job : Option JobFacts) (env : Option Env) (held : Option BookFacts) (v : BookKnown) (given : BookFacts) (j : JobFacts) (e : Env) → job ≡ Some j → env ≡ Some e → MayGiveBack v held given (λ taken. BeginsTicket taken.log (has_last_root taken.script taken.log) j e v)
    → MayGiveBack v held given (λ taken w. IfSome job (λ x. IfSome env (λ y. BeginsTicket taken.log (has_last_root taken.script taken.log) x y v w)))
names_begun job env held v given j e is_job is_env may =
    subst (λ (o : Option JobFacts). MayGiveBack v held given (λ taken w. IfSome o (λ x. IfSome env (λ y. BeginsTicket taken.log (has_last_root taken.script taken.log) x y v w)))) (sym is_job)
    (subst (λ (o : Option Env). MayGiveBack v held given (λ taken w. IfSome o (λ y. BeginsTicket taken.log (has_last_root taken.script taken.log) j y v w))) (sym is_env) may)

-- a root was added
abbrev knowing_next : JobFacts → Maker → BookKnown → BookKnown
knowing_next j m v = record v { tickets = fresh j ∷ v.tickets; maker = Some (record m { roots = m.roots + 1 }) }

pub roots : (held : Option BookFacts) (v : BookKnown) (m : Maker) (b b' : BookView) (j : JobView BodyView) → held ≡ Some (facts_of b) → v.maker ≡ Some m
    → refusal_of_root b.script b.log m.roots ≡ None → b' ≡ record b { log = b.log ++ root_events b.script m.roots } → job_facts j ≡ root_job b.script m.roots → MayGiveBack v held (facts_of b') (KnowsRoot v)
roots held v m b b' j is makes may ends job =
    let w = knowing_next (root_job b.script m.roots) m v in
    let last : BookKnown = record v { tickets = v.tickets ++ fresh (job_facts j) ∷ []; maker = Some (record m { roots = m.roots + 1 }) } in
    let first : MayGive v (facts_of b) (facts_of b') (knowing_next (job_facts j) m v) =
    known_ordered v (facts_of b) (facts_of b') last (fresh (job_facts j) ∷ v.tickets) (IsPermutation-to_front v.tickets (fresh (job_facts j))) (root_keeps v m b b' j makes may ends job)
    in
    let give : MayGive v (facts_of b) (facts_of b') w = subst (λ (x : JobFacts). MayGive v (facts_of b) (facts_of b') (knowing_next x m v)) job first in
    let known : KnowsRoot v (facts_of b) w = subst (λ (o : Option Maker). IfSome o (λ n. w ≡ knowing_next (root_job b.script n.roots) n v)) (sym makes) refl in
    subst (λ (h : Option BookFacts). MayGiveBack v h (facts_of b') (KnowsRoot v)) (sym is) (w, known, give)

pub roots_at : (held : Option BookFacts) (v : BookKnown) (m : Maker) (n : ℕ) (b b' : BookView) (j : JobView BodyView) → held ≡ Some (facts_of b) → v.maker ≡ Some m → m.roots ≡ n
    → refusal_of_root b.script b.log n ≡ None → b' ≡ record b { log = b.log ++ root_events b.script n } → job_facts j ≡ root_job b.script n → MayGiveBack v held (facts_of b') (KnowsRoot v)
roots_at held v m n b b' j is makes same may ends job =
    let back = sym same in
    roots held v m b b' j is makes (subst (λ (x : ℕ). refusal_of_root b.script b.log x ≡ None) back may) (subst (λ (x : ℕ). b' ≡ record b { log = b.log ++ root_events b.script x }) back ends)
    (subst (λ (x : ℕ). job_facts j ≡ root_job b.script x) back job)

-- its ticket, parted from the others
pub root_parted : (v w : BookKnown) (m : Maker) (n : ℕ) (taken : BookFacts) (j : JobView BodyView) → v.maker ≡ Some m → m.roots ≡ n → KnowsRoot v taken w → job_facts j ≡ root_job taken.script n → some_parted 1 w ≡ tickets_view v.script (j ∷ [])
root_parted v w m n taken j makes same known job =
    let is : w ≡ knowing_next (root_job taken.script m.roots) m v = subst (λ (o : Option Maker). IfSome o (λ x. w ≡ knowing_next (root_job taken.script x.roots) x v)) makes known in
    ap (some_parted 1) is ∙ ap (λ (x : JobFacts). record { script = v.script; accounts = []; tickets = fresh x ∷ []; maker = None }) (ap (root_job taken.script) same ∙ sym job)

-- a turn was applied

pub made_are : (before after : List (JobView BodyView)) (made : List JobFacts) → map job_facts after ≡ map job_facts before ++ made → map job_facts (drop (length before) after) ≡ made
made_are before after made is =
    sym (drop-map job_facts (length before) after) ∙ ap (drop (length before)) is ∙ ap (λ n. drop n (map job_facts before ++ made)) (sym (length-map before job_facts)) ∙ drop-append_seam (map job_facts before) made

known_is : (v : BookKnown) (taken : BookFacts) (a : Account) (k : Ticket) (rest : List Ticket) (r : RecordView) (made : List JobFacts) → v.accounts ≡ a ∷ [] → v.tickets ≡ k ∷ rest
    → made ≡ (end_of taken k.job r).jobs → knowing_record (Some r) made v ≡ knowing_turn taken a k rest r v
known_is v taken a k rest r made accounts tickets is =
    let there : map fresh made ++ drop 1 v.tickets ≡ map fresh (end_of taken k.job r).jobs ++ rest = ap (λ (l : List JobFacts). map fresh l ++ drop 1 v.tickets) is ∙ ap (λ (l : List Ticket). map fresh (end_of taken k.job r).jobs ++ drop 1 l) tickets in
    ap (λ (l : List Account). record v { accounts = map (with_record r) l; tickets = map fresh made ++ drop 1 v.tickets }) accounts
    ∙ ap (λ (l : List Ticket). record v { accounts = with_record r a ∷ []; tickets = l }) there

-- what is known of the job in a place, and of the record of its turn
abbrev pub IsPlayedIn : ScriptView → BookKnown → Option RecordView → List EffectView → ExitView → JobView BodyView → Type 0
IsPlayedIn script v newest effects exit j = (r : RecordView) × (newest ≡ Some r) × (r.exit ≡ exit) × (r.effects ≡ effects) × HasPlayed script v j r

pub job_applies : (held : Option BookFacts) (v : BookKnown) (b b' : BookView) (newest : Option RecordView) (effects : List EffectView) (exit : ExitView) (before after : List (JobView BodyView)) (j : JobView BodyView) → held ≡ Some (facts_of b)
    → IsPlayedIn b.script v newest effects exit j → refusal_of_apply b.script b.log j effects exit ≡ None → IsEndOf b (map job_facts before) j effects exit b'.log b'.held (map job_facts after) → b'.script ≡ b.script
    → MayGiveBack v held (facts_of b') (λ _ w. w ≡ knowing_record newest (map job_facts (drop (length before) after)) v)
job_applies held v b b' newest effects exit before after j is played may ends script =
    let r = played.0 in
    let p = played.4 in
    let made = map job_facts (drop (length before) after) in
    let may' : refusal_of_apply b.script b.log j r.effects r.exit ≡ None =
    subst (λ (es : List EffectView). refusal_of_apply b.script b.log j es r.exit ≡ None) (sym played.3) (subst (λ (x : ExitView). refusal_of_apply b.script b.log j effects x ≡ None) (sym played.2) may)
    in
    let ends' : IsEndOf b (map job_facts before) j r.effects r.exit b'.log b'.held (map job_facts after) =
    subst (λ (es : List EffectView). IsEndOf b (map job_facts before) j es r.exit b'.log b'.held (map job_facts after)) (sym played.3)
    (subst (λ (x : ExitView). IsEndOf b (map job_facts before) j effects x b'.log b'.held (map job_facts after)) (sym played.2) ends)
    in
    let g = apply_keeps v p.account p.ticket p.rest b b' j r (map job_facts before) (map job_facts after) p.accounts p.tickets p.plays may' ends' script in
    let same : knowing_record (Some r) made v ≡ knowing_turn (facts_of b) p.account p.ticket p.rest r v =
    known_is v (facts_of b) p.account p.ticket p.rest r made p.accounts p.tickets (made_are before after _ g.1)
    in
    let give : MayGive v (facts_of b) (facts_of b') (knowing_record newest made v) =
    subst (λ (o : Option RecordView). MayGive v (facts_of b) (facts_of b') (knowing_record o made v)) (sym played.1) (subst (MayGive v (facts_of b) (facts_of b')) (sym same) g.0)
    in
    subst (λ (h : Option BookFacts). MayGiveBack v h (facts_of b') (λ _ w. w ≡ knowing_record newest made v)) (sym is) (knowing_record newest made v, refl, give)

pub applies : (place : Option (JobView BodyView)) (held : Option BookFacts) (v : BookKnown) (script : ScriptView) (b b' : BookView) (newest : Option RecordView) (effects : List EffectView) (exit : ExitView) (before after : List (JobView BodyView)) → held ≡ Some (facts_of b) → b.script ≡ script
    → IsSomeAnd place (IsPlayedIn script v newest effects exit) → IsSomeAnd place (λ j. refusal_of_apply b.script b.log j effects exit ≡ None) → IsSomeAnd place (λ j. IsEndOf b (map job_facts before) j effects exit b'.log b'.held (map job_facts after)) → b'.script ≡ b.script
    → MayGiveBack v held (facts_of b') (λ _ w. w ≡ knowing_record newest (map job_facts (drop (length before) after)) v)
applies None held v script b b' newest effects exit before after is of_script played may ends same = absurd played
applies (Some j) held v script b b' newest effects exit before after is of_script played may ends same =
    job_applies held v b b' newest effects exit before after j is (subst (λ (s : ScriptView). IsPlayedIn s v newest effects exit j) (sym of_script) played) may ends same

-- the end of the turn, by the book that was taken
pub ends_taken : (place : Option (JobView BodyView)) (taken b b' : BookView) (effects : List EffectView) (exit : ExitView) (before after : List (JobView BodyView)) → taken ≡ b → b'.script ≡ b.script
    → IsSomeAnd place (λ j. IsEndOf b (map job_facts before) j effects exit b'.log b'.held (map job_facts after))
    → IsSomeAnd place (λ j. (x' : BookView) × (x'.script ≡ taken.script) × IsEndOf taken (map job_facts before) j effects exit x'.log x'.held (map job_facts after))
ends_taken None taken b b' effects exit before after is same ends = absurd ends
ends_taken (Some j) taken b b' effects exit before after is same ends =
    subst (λ (x : BookView). (x' : BookView) × (x'.script ≡ x.script) × IsEndOf x (map job_facts before) j effects exit x'.log x'.held (map job_facts after)) (sym is) (b', same, ends)

-- the end of the turn, in some book that the run has come to, by the jobs as they were and as they are
pub ends_run : (place : Option (JobView BodyView)) (script : ScriptView) (v : BookKnown) (b : BookView) (effects : List EffectView) (exit : ExitView) (before after old new : List (JobView BodyView)) → b.script ≡ script → IsInRun v (facts_of b) → before ≡ old → after ≡ new
    → IsSomeAnd place (λ j. refusal_of_apply b.script b.log j effects exit ≡ None)
    → IsSomeAnd place (λ j. (x' : BookView) × (x'.script ≡ b.script) × IsEndOf b (map job_facts before) j effects exit x'.log x'.held (map job_facts after))
    → IsSomeAnd place (λ j. (x : BookView) × (x' : BookView) × (x.script ≡ script) × (x'.script ≡ x.script) × IsInRun v (facts_of x) × (refusal_of_apply x.script x.log j effects exit ≡ None) × IsEndOf x (map job_facts old) j effects exit x'.log x'.held (map job_facts new))
ends_run None script v b effects exit before after old new of_script run was now may ends = absurd ends
ends_run (Some j) script v b effects exit before after old new of_script run was now may ends = (
  b,
  ends.0,
  of_script,
  ends.1,
  run,
  may,
  subst (λ (l : List (JobView BodyView)). IsEndOf b (map job_facts old) j effects exit ends.0.log ends.0.held (map job_facts l)) now
      (subst (λ (l : List (JobView BodyView)). IsEndOf b (map job_facts l) j effects exit ends.0.log ends.0.held (map job_facts after)) was ends.2),
)

pub ends_answered : (r : Result Unit BookFault) (X Y Z : Type 0) (Q : BookFault → Type 0) → (X → Y → Z) → MatchResult r (λ _. X) Q → OnOk r Y → OnOk r Z
ends_answered (Ok done) X Y Z Q f may ends = f may ends
ends_answered (Err fault) X Y Z Q f may ends = tt

-- why some book that the run has come to refuses
pub refused_run : (r : Result Unit BookFault) (script : ScriptView) (v : BookKnown) (b : BookView) (P : Type 0) (Q : BookView → BookFault → Type 0) → b.script ≡ script → IsInRun v (facts_of b) → MatchResult r (λ _. P) (Q b)
    → IfErr r (λ fault. (x : BookView) × (x.script ≡ script) × IsInRun v (facts_of x) × Q x fault)
refused_run (Ok done) script v b P Q of_script run is = tt
refused_run (Err fault) script v b P Q of_script run is = (b, of_script, run, is)

-- the jobs of a list, after a turn that made some more

pub jobs_made : (place : Option (JobView BodyView)) (b b' : BookView) (effects : List EffectView) (exit : ExitView) (before after : List (JobView BodyView))
    → IsSomeAnd place (λ j. IsEndOf b (map job_facts before) j effects exit b'.log b'.held (map job_facts after)) → (made : List JobFacts) × (map job_facts after ≡ map job_facts before ++ made)
jobs_made None b b' effects exit before after ends = absurd ends
jobs_made (Some j) b b' effects exit before after ends = ((end_of_turn b j effects exit).jobs, ends.jobs_are)

pub no_fewer : (before after : List (JobView BodyView)) (made : List JobFacts) → map job_facts after ≡ map job_facts before ++ made → length before ≤ length after
no_fewer before after made is =
    let n : length (map job_facts after) ≡ length (map job_facts before ++ made) = ap length is in
    omega (arith, n, length-map after job_facts, length-map before job_facts, length-append (map job_facts before) made)

two_maps : (l : List (JobView BodyView)) → map (λ j. fresh (job_facts j)) l ≡ map fresh (map job_facts l)
two_maps [] = refl
two_maps (j ∷ l) = ap (λ (ks : List Ticket). fresh (job_facts j) ∷ ks) (two_maps l)

-- their tickets
pub tickets_after : (script other : Option ScriptView) (before after : List (JobView BodyView)) (made : List JobFacts) → map job_facts after ≡ map job_facts before ++ made
    → gathered (tickets_view script (drop (length before) after)) (tickets_view other before) ≡ tickets_view script after
tickets_after script other before after made is =
    let ticket : JobView BodyView → Ticket = λ j. fresh (job_facts j) in
    let more = drop (length before) after in
    let same : map ticket before ++ map ticket more ≡ map ticket after =
    ap (λ (l : List Ticket). l ++ map ticket more) (two_maps before)
    ∙ ap (λ (l : List Ticket). map fresh (map job_facts before) ++ l) (two_maps more ∙ ap (map fresh) (made_are before after made is))
    ∙ sym (map-append fresh (map job_facts before) made)
    ∙ ap (map fresh) (sym is)
    ∙ sym (two_maps after)
    in
    ap (λ (l : List Ticket). record { script = script; accounts = []; tickets = l; maker = None }) same

-- a seat learns that what it takes is a book that the run has come to

at_view : (all : List Known) (seat : ℕ) (v : Known) → get_elem? all seat ≡ some v → get_elem? (views_of all) seat ≡ some v.view
at_view [] seat v at = absurd (some-ne-none v (sym at))
at_view (k ∷ all) zero v at = ap (λ (x : Known). some x.view) (some-injective k v at)
at_view (k ∷ all) (suc seat) v at = at_view all seat v at

pub finds : (v : Known) (image : BookImage) (all : List Known) (seat : ℕ) → HoldsOf image all → get_elem? all seat ≡ some v → Knows v.view image.facts × IsInRun v.view image.facts
finds v image all seat holds at = (learns v image all seat holds at, (views_of all, seat, holds, at_view all seat v at))
