-- What the next turn of each task begins with, when a job comes or goes.
use Rattle.swift_steps.proofs.Prelude.{◌≡◌, ◌≢◌, ◌<◌, ℕ, zero, suc, List, length, set, get_or-set_same, get_or-set_other, [], ◌∷◌, ◌++◌, map, reverse, refl, sym, subst, ap, ◌∙◌, true, false, arith, inl, inr, Option, Some, None, if◌then◌else◌, ◌==◌, unwrap_or, cases_eq, none-some, reverse-append, TaskId, JobView, BodyView, AllByRecursion, ScriptView, IsJobOf, job_facts, taken, with_jobs, JobFacts, NextTurn, option_map, AreGiven, AreOf, IsReadyOf, given_at, given_view, with_given}
use Rattle.std.proofs.lemmas.Bool.Decides.{nat_tests}

pub same_one : {A : Type 0} (x y : A) → Some x ≡ Some y → x ≡ y
same_one x y is = ap (λ o. unwrap_or o x) is

pub equal : (a b : ℕ) → a ≡ b → (a == b) ≡ true
equal a b is = grind (arith, nat_tests)

pub unequal : (a b : ℕ) → a ≢ b → (a == b) ≡ false
unequal a b ne = grind (arith, nat_tests)

-- a place more, where nothing is
pub given_none : (tasks : List (Option NextTurn)) (u : ℕ) → given_at (tasks ++ None ∷ []) u ≡ given_at tasks u
given_none [] zero = refl
given_none [] (suc u) = refl
given_none (x ∷ tasks) zero = refl
given_none (x ∷ tasks) (suc u) = given_none tasks u

-- what is there when one place is set
pub given_set : (tasks : List (Option NextTurn)) (t : ℕ) (g : Option NextTurn) (u : ℕ) → t < length tasks → given_at (set tasks t g) u ≡ with_given t g (given_at tasks) u
given_set tasks t g u lt = elim (cases_eq u t) [
  | inl e ↦ ap (given_at (set tasks t g)) e ∙ get_or-set_same tasks t g None lt ∙ sym (ap (λ b. if b then g else given_at tasks u) (equal u t e))
  | inr ne ↦ get_or-set_other tasks t u g None ne ∙ sym (ap (λ b. if b then g else given_at tasks u) (unequal u t ne))
]

-- a job is put to the others
pub given_put : (seen : ℕ → Option JobFacts) (tasks tasks' : List (Option NextTurn)) (t : ℕ) (g : NextTurn)
    → AreGiven seen tasks → ((u : ℕ) → given_at tasks' u ≡ with_given t (Some g) (given_at tasks) u)
    → AreGiven (λ u. if u == t then Some (given_view t g) else seen u) tasks'
given_put seen tasks tasks' t g given put u = elim (cases_eq u t) [
  | inl e ↦
      let here : given_at tasks' u ≡ Some g = put u ∙ ap (λ b. if b then Some g else given_at tasks u) (equal u t e) in
      ap (λ b. if b then Some (given_view t g) else seen u) (equal u t e) ∙ ap (λ v. Some (given_view v g)) (sym e) ∙ ap (option_map (given_view u)) (sym here)
  | inr ne ↦
      let there : given_at tasks' u ≡ given_at tasks u = put u ∙ ap (λ b. if b then Some g else given_at tasks u) (unequal u t ne) in
      ap (λ b. if b then Some (given_view t g) else seen u) (unequal u t ne) ∙ given u ∙ ap (option_map (given_view u)) (sym there)
]

-- a job is taken
pub given_taken : (seen : ℕ → Option JobFacts) (tasks tasks' : List (Option NextTurn)) (t : ℕ)
    → AreGiven seen tasks → ((u : ℕ) → given_at tasks' u ≡ with_given t None (given_at tasks) u)
    → AreGiven (taken t seen) tasks'
given_taken seen tasks tasks' t given took u = elim (cases_eq u t) [
  | inl e ↦
      let here : given_at tasks' u ≡ None = took u ∙ ap (λ b. if b then None else given_at tasks u) (equal u t e) in
      ap (λ b. if b then None else seen u) (equal u t e) ∙ ap (option_map (given_view u)) (sym here)
  | inr ne ↦
      let there : given_at tasks' u ≡ given_at tasks u = took u ∙ ap (λ b. if b then None else given_at tasks u) (unequal u t ne) in
      ap (λ b. if b then None else seen u) (unequal u t ne) ∙ given u ∙ ap (option_map (given_view u)) (sym there)
]

-- a job that is taken and put back is there
pub given_back : (seen : ℕ → Option JobFacts) (tasks between tasks' : List (Option NextTurn)) (t : ℕ) (g : NextTurn)
    → AreGiven seen tasks → given_at tasks t ≡ Some g → ((u : ℕ) → given_at between u ≡ with_given t None (given_at tasks) u) → ((u : ℕ) → given_at tasks' u ≡ with_given t (Some g) (given_at between) u)
    → AreGiven seen tasks'
given_back seen tasks between tasks' t g given was took put u = elim (cases_eq u t) [
  | inl e ↦
      let here : given_at tasks' u ≡ Some g = put u ∙ ap (λ b. if b then Some g else given_at between u) (equal u t e) in
      given u ∙ ap (option_map (given_view u)) (ap (given_at tasks) e ∙ was ∙ sym here)
  | inr ne ↦
      let there : given_at tasks' u ≡ given_at between u = put u ∙ ap (λ b. if b then Some g else given_at between u) (unequal u t ne) in
      let before : given_at between u ≡ given_at tasks u = took u ∙ ap (λ b. if b then None else given_at tasks u) (unequal u t ne) in
      given u ∙ ap (option_map (given_view u)) (sym (there ∙ before))
]

-- the last of a list comes first of the list turned round
pub last_first : {A : Type 0} (xs : List A) (x : A) → reverse (xs ++ x ∷ []) ≡ x ∷ reverse xs
last_first xs x = reverse-append xs (x ∷ [])

pub twice : {A : Type 0} (xs : List A) → reverse (reverse xs) ≡ xs
twice [] = refl
twice (x ∷ xs) = ap reverse (reverse-append (x ∷ []) xs) ∙ last_first (reverse xs) x ∙ ap (λ ys. x ∷ ys) (twice xs)

-- the next of some jobs is put to the others
pub given_step : (now : ℕ → Option JobFacts) (tasks tasks' : List (Option NextTurn)) (js : List (JobView BodyView)) (j : JobView BodyView) (t : TaskId) (g : NextTurn)
    → t ≡ j.task → g ≡ record { number = j.number; resume = j.resume; body = j.body }
    → AreGiven now tasks → ((u : ℕ) → given_at tasks' u ≡ with_given t.0 (Some g) (given_at tasks) u)
    → (now' : ℕ → Option JobFacts) × AreGiven now' tasks' × (with_jobs (map job_facts (reverse js)) now' ≡ with_jobs (map job_facts (reverse (js ++ j ∷ []))) now)
given_step now tasks tasks' js j t g at is given put = (
  (λ u. if u == t.0 then Some (given_view t.0 g) else now u),
  given_put now tasks tasks' t.0 g given put,
  (ap (λ (x : TaskId). with_jobs (map job_facts (reverse js)) (λ u. if u == x.0 then Some (given_view x.0 g) else now u)) at
      ∙ ap (λ (h : NextTurn). with_jobs (map job_facts (reverse js)) (λ u. if u == j.task.0 then Some (given_view j.task.0 h) else now u)) is
      ∙ sym (ap (λ (xs : List (JobView BodyView)). with_jobs (map job_facts xs) now) (last_first js j))),
)

-- the bodies of jobs

pub of_put : (script : ScriptView) (tasks tasks' : List (Option NextTurn)) (t : ℕ) (g : NextTurn)
    → AreOf script tasks → ((u : ℕ) → given_at tasks' u ≡ with_given t (Some g) (given_at tasks) u) → IsReadyOf script g → AreOf script tasks'
of_put script tasks tasks' t g all put own u h is = elim (cases_eq u t) [
  | inl e ↦
      let here : with_given t (Some g) (given_at tasks) u ≡ Some g = ap (λ b. if b then Some g else given_at tasks u) (equal u t e) in
      let same : g ≡ h = same_one g h (sym here ∙ sym (put u) ∙ is) in
      subst (IsReadyOf script) same own
  | inr ne ↦
      let here = ap (λ b. if b then Some g else given_at tasks u) (unequal u t ne) in
      all u h (sym here ∙ sym (put u) ∙ is)
]

pub of_taken : (script : ScriptView) (tasks tasks' : List (Option NextTurn)) (t : ℕ) → AreOf script tasks → ((u : ℕ) → given_at tasks' u ≡ with_given t None (given_at tasks) u) → AreOf script tasks'
of_taken script tasks tasks' t all took u h is = elim (cases_eq u t) [
  | inl e ↦
      let here = ap (λ b. if b then None else given_at tasks u) (equal u t e) in
      absurd (none-some h (sym here ∙ sym (took u) ∙ is))
  | inr ne ↦
      let here = ap (λ b. if b then None else given_at tasks u) (unequal u t ne) in
      all u h (sym here ∙ sym (took u) ∙ is)
]

all_push : (script : ScriptView) (js : List (JobView BodyView)) (j : JobView BodyView) → AllByRecursion (IsJobOf script) js → IsJobOf script j → AllByRecursion (IsJobOf script) (js ++ j ∷ [])
all_push script [] j all is = (is, tt)
all_push script (k ∷ js) j all is = (all.0, all_push script js j all.1 is)

pub all_turned : (script : ScriptView) (js : List (JobView BodyView)) → AllByRecursion (IsJobOf script) js → AllByRecursion (IsJobOf script) (reverse js)
all_turned script [] all = tt
all_turned script (j ∷ js) all = subst (AllByRecursion (IsJobOf script)) (sym (reverse-append (j ∷ []) js)) (all_push script (reverse js) j (all_turned script js all.1) all.0)

-- the last of such jobs is put to the others
pub of_step : (script : ScriptView) (tasks tasks' : List (Option NextTurn)) (js : List (JobView BodyView)) (j : JobView BodyView) (t : TaskId) (g : NextTurn)
    → g ≡ record { number = j.number; resume = j.resume; body = j.body } → ((u : ℕ) → given_at tasks' u ≡ with_given t.0 (Some g) (given_at tasks) u)
    → AllByRecursion (IsJobOf script) (js ++ j ∷ []) × AreOf script tasks → AllByRecursion (IsJobOf script) js × AreOf script tasks'
of_step script tasks tasks' [] j t g is put (all, of) = (tt, of_put script tasks tasks' t.0 g of put (subst (IsReadyOf script) (sym is) (record { script_is = all.0.script_is; runs = all.0.runs })))
of_step script tasks tasks' (k ∷ js) j t g is put (all, of) = (let rest = of_step script tasks tasks' js j t g is put (all.1, of) in ((all.0, rest.0), rest.1))
