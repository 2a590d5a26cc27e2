-- A turn is tried, and its task has what it had before.
use Rattle.swift_explorer.proofs.Prelude.{◌≡◌, ℕ, ℤ, List, [], ◌∷◌, ◌++◌, Vec, append-nil, refl, sym, subst, ap, ap₂, ◌∙◌, inl, inr, ◌⊎◌, Option, Some, None, if◌then◌else◌, option_map, Global, cases_eq, false≢true, Env, Fault, Resume, ScriptView, FrameView, EffectView, ExitView, Played, failing, returning, Advanced, AdvancesTo, HasFrames, IfRunning, Polls, TaskView, callers_of, entered, left, JobFacts, IsUnnamed, NextTurn, SearchedHistory, arc_value, Move, Followed, GoesOnAtOnce, IsAsBefore, TurnGoesOn, any_env, AreGiven, IsReadyOf, given_at, given_view, with_given, GoesOn, IsHistory, IsRead, IsSomeHistory, LogDigest, BreaksInvariant, equal, of_put, of_taken, unequal}
use Rattle.swift_turn.specs.declared.step.Step.{Step}

given_near : (seen : ℕ → Option JobFacts) (tasks between tasks' : List (Option NextTurn)) (t : ℕ) (g k : NextTurn) → given_at tasks t ≡ Some g → ((u : ℕ) → given_at between u ≡ with_given t None (given_at tasks) u)
    → ((u : ℕ) → given_at tasks' u ≡ with_given t (Some k) (given_at between) u) → given_view t g ≡ given_view t k → AreGiven seen tasks → AreGiven seen tasks'
given_near seen tasks between tasks' t g k was took put same given u = elim (cases_eq u t) [
  | inl e ↦
      let here : given_at tasks' u ≡ Some k = put u ∙ ap (λ b. if b then Some k else given_at between u) (equal u t e) in
      let before : given_at tasks u ≡ Some g = ap (given_at tasks) e ∙ was in
      given u ∙ ap (option_map (given_view u)) before ∙ ap Some (subst (λ (v : ℕ). given_view v g ≡ given_view v k) (sym e) same) ∙ sym (ap (option_map (given_view u)) here)
  | inr ne ↦
      let here : given_at tasks' u ≡ given_at tasks u =
      put u ∙ ap (λ b. if b then Some k else given_at between u) (unequal u t ne) ∙ took u ∙ ap (λ b. if b then None else given_at tasks u) (unequal u t ne) in
      given u ∙ ap (option_map (given_view u)) (sym here)
]

pub as_before : (x : SearchedHistory) (between : List (Option NextTurn)) (tasks : Vec (Option NextTurn) Global) (t : ℕ) (g k : NextTurn) → given_at x.steps.tasks.items t ≡ Some g → ((u : ℕ) → given_at between u ≡ with_given t None (given_at x.steps.tasks.items) u)
    → ((u : ℕ) → given_at tasks.items u ≡ with_given t (Some k) (given_at between) u) → given_view t g ≡ given_view t k → ((script : ScriptView) → IsReadyOf script g → IsReadyOf script k) → IsAsBefore x (record x { steps = record x.steps { tasks = tasks } })
as_before x between tasks t g k was took put same ready = record {
  script_is = refl;
  roots = refl;
  is = λ blocks h. record {
    orderly = h.orderly;
    none_folded = h.none_folded;
    many = h.many;
    used = h.used;
    short = h.short;
    read = h.read;
    followed = record {
      script_is = h.followed.script_is;
      book_is = h.followed.book_is;
      none = h.followed.none;
      scripts = of_put _ between tasks.items t k (of_taken _ x.steps.tasks.items between t h.followed.scripts took) put (ready _ (h.followed.scripts t g was));
      led = record {
        stand = h.followed.led.stand;
        log_is = h.followed.led.log_is;
        held_is = h.followed.led.held_is;
        given = given_near _ x.steps.tasks.items between tasks.items t g k was took put same h.followed.led.given;
        fields_are = h.followed.led.fields_are;
        roots_are = h.followed.led.roots_are;
      };
    };
  };
}

-- what was read for the key is more
pub as_read : (x : SearchedHistory) (r : LogDigest) → IsRead r x.steps.book.log → IsAsBefore x (record x { digest = r })
as_read x r read = record {
  script_is = refl;
  roots = refl;
  is = λ blocks h. record {
    orderly = h.orderly;
    none_folded = h.none_folded;
    many = h.many;
    used = h.used;
    short = h.short;
    followed = h.followed;
    read = (x.steps.book.log, [], sym (append-nil x.steps.book.log), read);
  };
}

pub unchanged : (x : SearchedHistory) → IsAsBefore x x
unchanged x = record { script_is = refl; roots = refl; is = λ blocks h. h }

-- of a turn that was played

pub frames_back : (script : ScriptView) (outer : List (ℕ × ℤ)) (fs gs : List FrameView) (rows rows' : List (List ℤ)) (resume : Resume) (env : Env) (effects : List EffectView) (exit : ExitView) (p : FrameView)
    → HasFrames fs → IfRunning fs (λ q. q ≡ p) → Polls script outer fs (entered rows resume env) gs (left rows' effects exit) → fs ≡ p ∷ callers_of gs
frames_back script outer [] gs rows rows' resume env effects exit p has is polls = absurd has
frames_back script outer (q ∷ callers) [] rows rows' resume env effects exit p has is polls = absurd polls
frames_back script outer (q ∷ callers) (k ∷ others) rows rows' resume env effects exit p has is polls = ap₂ (λ (x : FrameView) (xs : List FrameView). x ∷ xs) is (sym polls.0)

pub turn_goes_on : (whole : ScriptView) (t : ℕ) (script : ScriptView) (outer : List (ℕ × ℤ)) (fs gs : List FrameView) (rows rows' : List (List ℤ)) (resume : Resume) (effects : List EffectView) (exit : ExitView)
    → Polls script outer fs (entered rows resume any_env) gs (left rows' effects exit) → GoesOnAtOnce whole t (callers_of gs) exit → TurnGoesOn whole t script fs outer rows resume
turn_goes_on whole t script outer [] gs rows rows' resume effects exit polls goes = tt
turn_goes_on whole t script outer (p ∷ callers) [] rows rows' resume effects exit polls goes = absurd polls
turn_goes_on whole t script outer (p ∷ callers) (q ∷ others) rows rows' resume effects exit polls goes =
    subst (GoesOnAtOnce whole t callers) (ap (λ (k : Played). k.exit) polls.1.1) (subst (λ (cs : List FrameView). GoesOnAtOnce whole t cs exit) polls.0 goes)

-- of the frame that runs

-- or it has ended, and is a root that no line names
pub returns_on : (script : ScriptView) (t : ℕ) (callers : List FrameView) (v : ℤ) → HasFrames callers ⊎ IsUnnamed script t → GoesOnAtOnce script t callers (returning v)
returns_on script t [] v (inl has) = absurd has
returns_on script t [] v (inr unnamed) = (refl, λ is. unnamed, λ breaks. breaks)
returns_on script t (q ∷ callers) v has = (refl, λ is. absurd (false≢true is), λ breaks. breaks)

pub fails_on : (script : ScriptView) (t : ℕ) (callers : List FrameView) (f : Fault) → HasFrames callers ⊎ IsUnnamed script t → (BreaksInvariant (failing f) → ⊥) → GoesOnAtOnce script t callers (failing f)
fails_on script t [] f (inl has) whole = absurd has
fails_on script t [] f (inr unnamed) whole = (refl, λ is. unnamed, whole)
fails_on script t (q ∷ callers) f has whole = (refl, λ is. absurd (false≢true is), whole)

pub before_some : (x y : SearchedHistory) → IsAsBefore x y → IsSomeHistory x → IsSomeHistory y
before_some x y before some = (some.0, subst (λ (s : ScriptView). IsHistory s some.0 y) (sym (ap arc_value before.script_is)) (before.is some.0 some.1))

pub goes_some : (m : Move) (x y : SearchedHistory) (f : Followed) → y.steps.script ≡ x.steps.script → GoesOn m x y f → IsSomeHistory x → IsSomeHistory y
goes_some m x y f same goes some = (let one = goes some.0 some.1 in (some.0 ++ one.0 ∷ [], subst (λ (s : ScriptView). IsHistory s (some.0 ++ one.0 ∷ []) y) (sym (ap arc_value same)) one.2))
