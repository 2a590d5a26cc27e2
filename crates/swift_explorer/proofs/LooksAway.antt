-- What is read of turns that look away.
use Rattle.swift_explorer.proofs.Prelude.{◌≡◌, ◌<◌, ℕ, ◌+◌, List, [], ◌∷◌, ◌++◌, drop, length, get_or, sym, subst, ap, ap₂, ◌∙◌, Bool, true, false, inl, inr, Option, Some, Contains, ◌&&◌, option_map, arc_value, false≢true, drop_more, Contains-append_left, Contains-push, Contains-push_cases, TaskId, term_of, terms_of, Formula, ScriptView, FrameView, is_cancelled, JobFacts, Block, standing, NextTurn, given_at, given_view, frames_look_away, job_looks_away, term_looks_away, terms_look_away, turn_looks_away, Move, Step, SearchedHistory, One, Turn, Away, AwayCancelled, ArePlansOf, HasEachStep, IsChosen, IsPlanOf, LooksAway, HasEachMove, IsHistory, IsMoveOf, NextIs, frames_are}
use Rattle.swift_reordering.proofs.Flags.{job_stays}

pub away_from : (cancelled : Bool) (xs : List Formula) (i : ℕ) (x : Formula) → i < length xs → x ≡ get_or xs i x → terms_look_away cancelled (terms_of (drop i xs)) ≡ (term_looks_away cancelled (term_of x) && terms_look_away cancelled (terms_of (drop (i + 1) xs)))
away_from cancelled xs i x within is = ap (λ (ys : List Formula). terms_look_away cancelled (terms_of ys)) (drop_more xs i x within ∙ ap (λ (y : Formula). y ∷ drop (i + 1) xs) (sym is))

-- a turn of which marks say that it looks away does

next_looks : (x : SearchedHistory) (t : TaskId) (cancelled : Bool) (g : NextTurn) → given_at x.steps.tasks.items t.0 ≡ Some g → frames_look_away (arc_value x.steps.script) cancelled g.body.task.frames ≡ true
    → (cancelled ≡ true → is_cancelled t.0 x.steps.book.log ≡ true) → LooksAway x t
next_looks x t cancelled g given looks flag =
    let script = arc_value x.steps.script in
    let one : job_looks_away script cancelled (option_map (given_view t.0) (given_at x.steps.tasks.items t.0)) ≡ true = ap (λ (o : Option NextTurn). job_looks_away script cancelled (option_map (given_view t.0) o)) given ∙ looks in
    job_stays script cancelled (is_cancelled t.0 x.steps.book.log) (option_map (given_view t.0) (given_at x.steps.tasks.items t.0)) flag one

frames_away : (script : ScriptView) (ps : List FrameView) → frames_are Away script ps ≡ true → frames_look_away script false ps ≡ true
frames_away script [] is = is
frames_away script (p ∷ callers) is = is

frames_away_cancelled : (script : ScriptView) (ps : List FrameView) → frames_are AwayCancelled script ps ≡ true → frames_look_away script true ps ≡ true
frames_away_cancelled script [] is = is
frames_away_cancelled script (p ∷ callers) is = is

pub away_always : (x : SearchedHistory) (t : TaskId) → NextIs Away x t → LooksAway x t
away_always x t next = next_looks x t false next.0 next.1 (frames_away (arc_value x.steps.script) next.0.body.task.frames next.2) (λ is. absurd (false≢true is))

pub away_cancelled : (x : SearchedHistory) (t : TaskId) → NextIs AwayCancelled x t → is_cancelled t.0 x.steps.book.log ≡ true → LooksAway x t
away_cancelled x t next flag = next_looks x t true next.0 next.1 (frames_away_cancelled (arc_value x.steps.script) next.0.body.task.frames next.2) (λ is. flag)

-- one more step is planned
pub plans_push : (x : SearchedHistory) (moves more : List Move) (steps steps' : List Step) (m : Move) (s : Step) → more ≡ moves ++ m ∷ [] → steps' ≡ steps ++ s ∷ [] → ArePlansOf x moves steps → IsPlanOf x m s → ArePlansOf x more steps'
plans_push x moves more steps steps' m s one two are is k has = elim (Contains-push_cases moves m k (subst (λ (l : List Move). Contains l k) one has)) [
  | inl old ↦ (let p = are k old in (p.0, subst (λ (l : List Step). Contains l p.0) (sym two) (Contains-append_left steps (s ∷ []) p.0 p.1), p.2))
  | inr new ↦ (s, subst (λ (l : List Step). Contains l s) (sym two) (Contains-push steps s), subst (λ (n : Move). IsPlanOf x n s) new is)
]

-- each block is what a planned step does

-- a turn looks away there where it does by what was followed
pub looks_there : (x : SearchedHistory) (blocks : List Block) (t : TaskId) → IsHistory (arc_value x.steps.script) blocks x → LooksAway x t → turn_looks_away (arc_value x.steps.script) (standing (arc_value x.steps.script) blocks) t.0 ≡ true
looks_there x blocks t h looks =
    let script = arc_value x.steps.script in
    ap₂ (λ (b : Bool) (o : Option JobFacts). job_looks_away script b o) (ap (is_cancelled t.0) (sym h.followed.led.log_is)) (h.followed.led.given t.0) ∙ looks

planned : (x : SearchedHistory) (steps : List Step) (blocks : List Block) (b : Block) (m : Move) (s : Step) → IsHistory (arc_value x.steps.script) blocks x → Contains steps s → IsPlanOf x m s → IsMoveOf m b → IsChosen (arc_value x.steps.script) steps blocks b
planned x steps blocks b m (One k) h has plan does = inl (k, has, subst (λ (n : Move). IsMoveOf n b) (sym plan) does)
planned x steps blocks b m (Turn t) h has plan does = inr (t, has, subst (λ (n : Move). IsMoveOf n b) plan.0 does, looks_there x blocks t h plan.1)

pub each_step : (x : SearchedHistory) (moves : List Move) (steps : List Step) → HasEachMove x moves → ArePlansOf x moves steps → HasEachStep x steps
each_step x moves steps each plans blocks b h unfolded stands orderly =
    let one = each blocks b h unfolded stands orderly in
    let p = plans one.0 one.1 in
    planned x steps blocks b one.0 p.0 h p.1 p.2 one.2
