-- How the turns of executors have begun, after each step.
use Rattle.swift_course.proofs.Prelude.{◌≡◌, ◌≢◌, ◌⊎◌, ℕ, zero, suc, ◌+◌, ◌<◌, ◌==◌, Bool, true, false, List, [], ◌∷◌, ◌++◌, set, if◌then◌else◌, refl, sym, ap, ◌∙◌, subst, append_assoc, arith, inl, inr, All, Some, None, is_some, nat_lt, cases_eq, false≢true, nat_tests, All-cons, All-nil, some, get_elem?, Env, Start, ScriptView, root_count, root_priority, Event, Begin, Give, Root, Life, life_of, lived, life_of-push_other, life_of-push_same, unborn_without, is_begun, Block, added, begun, Standing, after_block, taken, with_jobs, IsOrderly, has_last_of, job_executor, TurnEnd, gives, root_events, root_job, task, HasUnderWay, IsFront, IsOrdered, IsOwned, IsUnderWay, SaysOrder, standing, order_applied, order_begun, Account, BookKnown, TurnOrder, at_rest, under_way, unordered}
use Rattle.swift_course.proofs.Begun.{TurnKeeps}
use Rattle.swift_course.proofs.Lists.{all_both, all_each, at_set, equal, same_one, unequal}
use Rattle.swift_course.proofs.Waking.{jobs_stay}

-- the order of one executor changes
abbrev pub changed_at : ℕ → (TurnOrder → TurnOrder) → (ℕ → TurnOrder) → ℕ → TurnOrder
changed_at x f order e = if e == x then f (order e) else order e

pub changed_there : (x : ℕ) (f : TurnOrder → TurnOrder) (order : ℕ → TurnOrder) (e : ℕ) → e ≡ x → changed_at x f order e ≡ f (order e)
changed_there x f order e same = ap (λ b. if b then f (order e) else order e) (equal e x same)

pub changed_else : (x : ℕ) (f : TurnOrder → TurnOrder) (order : ℕ → TurnOrder) (e : ℕ) → e ≢ x → changed_at x f order e ≡ order e
changed_else x f order e apart = ap (λ b. if b then f (order e) else order e) (unequal e x apart)

-- what accounts say, after a step of a seat

pub orders_kept : (log : List Event) (order : ℕ → TurnOrder) (views : List BookKnown) (seat : ℕ) (w : BookKnown) → ((j : ℕ) (u : BookKnown) → get_elem? views j ≡ some u → All (SaysOrder log order) u.accounts) → All (SaysOrder log order) w.accounts
    → (j : ℕ) (u : BookKnown) → get_elem? (set views seat w) j ≡ some u → All (SaysOrder log order) u.accounts
orders_kept log order views seat w says own j u there = elim (at_set views seat j w u there) [
  | inl y ↦ subst (λ (x : BookKnown). All (SaysOrder log order) x.accounts) y.1 own
  | inr y ↦ says j u y.1
]

-- a log that goes on still begins as it did
pub front_goes_on : (front log log' : List Event) → IsFront front log → IsFront log log' → IsFront front log'
front_goes_on front log log' is on = (is.0 ++ on.0, on.1 ∙ ap (λ (es : List Event). es ++ on.0) is.1 ∙ append_assoc front is.0 on.0)

pub orders_go_on : (log log' : List Event) (order : ℕ → TurnOrder) (accounts : List Account) → IsFront log log' → All (SaysOrder log order) accounts → All (SaysOrder log' order) accounts
orders_go_on log log' order accounts on says = all_each (SaysOrder log order) (SaysOrder log' order) accounts (λ a is. (is.0, front_goes_on a.seen log log' is.1 on)) says

pub orders_changed : (log log' : List Event) (x : ℕ) (f : TurnOrder → TurnOrder) (order : ℕ → TurnOrder) (owner : ℕ → ℕ) (n : ℕ) (views : List BookKnown) (seat : ℕ) (w : BookKnown)
    → ((j : ℕ) (u : BookKnown) → get_elem? views j ≡ some u → All (SaysOrder log order) u.accounts) → ((j : ℕ) (u : BookKnown) → get_elem? views j ≡ some u → All (IsOwned owner n j) u.accounts)
    → owner x ≡ seat → IsFront log log' → All (SaysOrder log' (changed_at x f order)) w.accounts
    → (j : ℕ) (u : BookKnown) → get_elem? (set views seat w) j ≡ some u → All (SaysOrder log' (changed_at x f order)) u.accounts
orders_changed log log' x f order owner n views seat w says owns mine on own j u there = elim (at_set views seat j w u there) [
  | inl y ↦ subst (λ (k : BookKnown). All (SaysOrder log' (changed_at x f order)) k.accounts) y.1 own
  | inr y ↦ all_both (SaysOrder log order) (IsOwned owner n j) (SaysOrder log' (changed_at x f order)) u.accounts
      (λ a is owned. (is.0 ∙ sym (changed_else x f order a.executor (λ same. y.0 (sym owned.0 ∙ ap owner same ∙ mine))), front_goes_on a.seen log log' is.1 on)) (says j u y.1) (owns j u y.1)
]

-- the one account of a seat whose executor's order changes
pub own_changed : (log log' : List Event) (f : TurnOrder → TurnOrder) (order : ℕ → TurnOrder) (a a' : Account) → SaysOrder log order a → a'.executor ≡ a.executor → a'.order ≡ f a.order → IsFront a'.seen log' → All (SaysOrder log' (changed_at a.executor f order)) (a' ∷ [])
own_changed log log' f order a a' says same is front =
    All-cons (SaysOrder log' (changed_at a.executor f order)) a' []
    (is ∙ ap f says.0 ∙ ap (λ e. f (order e)) (sym same) ∙ sym (changed_there a.executor f order a'.executor same), front) (All-nil (SaysOrder log' (changed_at a.executor f order)))

-- what is under way on an executor stays so, where nothing else gets so

pub has_stays : (script : ScriptView) (s s' : Standing) (e : ℕ) (o : TurnOrder) → ((t : ℕ) → IsUnderWay script s' e t → IsUnderWay script s e t) → HasUnderWay script s e o → HasUnderWay script s' e o
has_stays script s s' e at_rest was has = λ t is. has t (was t is)
has_stays script s s' e under_way was has = λ t u is and. has t u (was t is) (was u and)
has_stays script s s' e unordered was has = tt

-- where the one that was under way is so no more, none is
has_applied : (script : ScriptView) (s s' : Standing) (e t : ℕ) (o : TurnOrder) → ((u : ℕ) → IsUnderWay script s' e u → IsUnderWay script s e u) → ((u : ℕ) → IsUnderWay script s' e u → u ≢ t)
    → IsUnderWay script s e t → HasUnderWay script s e o → HasUnderWay script s' e (order_applied o)
has_applied script s s' e t at_rest was other own has = λ u is. has u (was u is)
has_applied script s s' e t under_way was other own has = λ u is. other u is (has u t (was u is) own)
has_applied script s s' e t unordered was other own has = tt

-- where one begins that was not under way, at most that one is
has_begun : (script : ScriptView) (s s' : Standing) (e t : ℕ) (there : Bool) (o : TurnOrder) → ((u : ℕ) → IsUnderWay script s' e u → (u ≡ t) ⊎ IsUnderWay script s e u) → HasUnderWay script s e o
    → HasUnderWay script s' e (order_begun there o)
has_begun script s s' e t true at_rest was has = λ u w is and. only u is ∙ sym (only w and)
  where
    only : (u : ℕ) → IsUnderWay script s' e u → u ≡ t
    only u is = elim (was u is) [
      | inl same ↦ same
      | inr before ↦ absurd (has u before)
    ]
has_begun script s s' e t _ _ was has = tt

-- after an order has changed
has_changed : (script : ScriptView) (s : Standing) (x : ℕ) (f : TurnOrder → TurnOrder) (order : ℕ → TurnOrder) → HasUnderWay script s x (f (order x)) → ((e : ℕ) → e ≢ x → HasUnderWay script s e (order e))
    → (e : ℕ) → HasUnderWay script s e (changed_at x f order e)
has_changed script s x f order own else_where e = elim (cases_eq e x) [
  | inl same ↦ subst (λ (k : ℕ). HasUnderWay script s k (changed_at x f order k)) (sym same) (subst (HasUnderWay script s x) (sym (changed_there x f order x refl)) own)
  | inr apart ↦ subst (HasUnderWay script s e) (sym (changed_else x f order e apart)) (else_where e apart)
]

-- a turn begins

begin_was : (script : ScriptView) (s : Standing) (t n e : ℕ) (env : Env) (u : ℕ) → IsUnderWay script (after_block script s (begun t n env)) e u → (u ≡ t) ⊎ IsUnderWay script s e u
begin_was script s t n e env u is = elim (cases_eq u t) [
  | inl same ↦ inl same
  | inr apart ↦ inr (is.0, sym (ap (λ (l : Life). is_begun l.stage) (life_of-push_other u s.log (Begin (task t) n env) (λ same. apart (sym same)))) ∙ is.1)
]

pub begin_has : (script : ScriptView) (s : Standing) (t n x : ℕ) (env : Env) (there : Bool) (order : ℕ → TurnOrder) → job_executor script (s.jobs t) ≡ Some x → ((e : ℕ) → HasUnderWay script s e (order e))
    → (e : ℕ) → HasUnderWay script (after_block script s (begun t n env)) e (changed_at x (order_begun there) order e)
begin_has script s t n x env there order on has =
    let s' = after_block script s (begun t n env) in
    has_changed script s' x (order_begun there) order (has_begun script s s' x t there (order x) (begin_was script s t n x env) (has x))
    (λ e apart. has_stays script s s' e (order e)
    (λ u is. elim (begin_was script s t n e env u is) [
      | inl same ↦ absurd (apart (same_one e x (sym is.0 ∙ ap (λ (k : ℕ). job_executor script (s.jobs k)) same ∙ on)))
      | inr before ↦ before
    ]) (has e))

pub ordered_begun : (there : Bool) (o : TurnOrder) → IsOrdered (order_begun there o) → (there ≡ true) × (o ≡ at_rest)
ordered_begun true at_rest is = (refl, refl)
ordered_begun _ _ is = absurd is

not_true : (b : Bool) → (b ≡ true → ⊥) → b ≡ false
not_true true never = absurd (never refl)
not_true false never = refl

lower : (m r u : ℕ) → nat_lt r m ≡ true → u < suc r → nat_lt u m ≡ true
lower m r u is lt = grind (arith, nat_tests)

-- where the last root is there, each is
all_there : (n m : ℕ) (log : List Event) → ((r : ℕ) → r < n → is_some (life_of r log).origin ≡ nat_lt r m) → has_last_of n log ≡ true → (u : ℕ) → u < n → is_some (life_of u log).origin ≡ true
all_there zero m log there last u lt = absurd (omega (arith, lt))
all_there (suc r) m log there last u lt = there u lt ∙ lower m r u (sym (there r (omega arith)) ∙ last) lt

-- the begin of a turn is in order
pub begin_orderly : (script : ScriptView) (blocks : List Block) (t n x m : ℕ) (env : Env) (log : List Event) → log ≡ (standing script blocks).log → ((r : ℕ) → r < root_count script → is_some (life_of r log).origin ≡ nat_lt r m)
    → has_last_of (root_count script) log ≡ true → job_executor script ((standing script blocks).jobs t) ≡ Some x → HasUnderWay script (standing script blocks) x at_rest → IsOrderly script blocks (begun t n env)
begin_orderly script blocks t n x m env log is there last on rest = (
  λ u lt. subst (λ (l : List Event). is_some (life_of u l).origin ≡ true) is (all_there (root_count script) m log there last u lt),
  λ u same. not_true _ (λ begins. rest u (same ∙ on, begins)),
)

-- a root is added

module _ (script : ScriptView) (log : List Event) (r u : ℕ) where
  abbrev first_of : List Event
  first_of = log ++ Root (task r) (root_priority script r) ∷ []

  split : log ++ root_events script r ≡ first_of ++ gives (root_job script r ∷ [])
  split = sym (append_assoc log (Root (task r) (root_priority script r) ∷ []) (gives (root_job script r ∷ [])))

  -- the root's own life, and that of another task
  root_life : u ≡ r → life_of u (log ++ root_events script r) ≡ lived (lived (life_of u log) (Root (task r) (root_priority script r))) (Give (task r) 0 Start)
  root_life same =
      ap (life_of u) split ∙ life_of-push_same u first_of (Give (task r) 0 Start) (sym same)
      ∙ ap (λ (l : Life). lived l (Give (task r) 0 Start)) (life_of-push_same u log (Root (task r) (root_priority script r)) (sym same))

  other_life : u ≢ r → life_of u (log ++ root_events script r) ≡ life_of u log
  other_life apart =
      ap (life_of u) split ∙ life_of-push_other u first_of (Give (task r) 0 Start) (λ same. apart (sym same))
      ∙ life_of-push_other u log (Root (task r) (root_priority script r)) (λ same. apart (sym same))

root_was : (script : ScriptView) (s : Standing) (r e u : ℕ) → IsUnderWay script (after_block script s (added r)) e u → IsUnderWay script s e u
root_was script s r e u is = elim (cases_eq u r) [
  | inl same ↦ absurd (false≢true (sym (ap (λ (l : Life). is_begun l.stage) (root_life script s.log r u same)) ∙ is.1))
  | inr apart ↦
      let job = ap (λ b. if b then Some (root_job script r) else s.jobs u) (unequal u r apart) in
      (sym (ap (job_executor script) job) ∙ is.0, sym (ap (λ (l : Life). is_begun l.stage) (other_life script s.log r u apart)) ∙ is.1)
]

pub root_has : (script : ScriptView) (s : Standing) (r : ℕ) (order : ℕ → TurnOrder) → ((e : ℕ) → HasUnderWay script s e (order e)) → (e : ℕ) → HasUnderWay script (after_block script s (added r)) e (order e)
root_has script s r order has e = has_stays script s (after_block script s (added r)) e (order e) (root_was script s r e) (has e)

up_to : (x r : ℕ) → x ≢ r → nat_lt x r ≡ nat_lt x (r + 1)
up_to x r apart = grind (arith, nat_tests)

own_one : (r : ℕ) → true ≡ nat_lt r (r + 1)
own_one r = grind (arith, nat_tests)

pub root_there : (script : ScriptView) (log : List Event) (r u : ℕ) → is_some (life_of u log).origin ≡ nat_lt u r → is_some (life_of u (log ++ root_events script r)).origin ≡ nat_lt u (r + 1)
root_there script log r u was = elim (cases_eq u r) [
  | inl same ↦ ap (λ (l : Life). is_some l.origin) (root_life script log r u same) ∙ own_one r ∙ ap (λ k. nat_lt k (r + 1)) (sym same)
  | inr apart ↦ ap (λ (l : Life). is_some l.origin) (other_life script log r u apart) ∙ was ∙ up_to u r apart
]

below_is : (u r : ℕ) → u < r → nat_lt u r ≡ true
below_is u r lt = grind (arith, nat_tests)

-- the next root is in order
pub root_orderly : (script : ScriptView) (blocks : List Block) (r : ℕ) (log : List Event) → log ≡ (standing script blocks).log → r < root_count script
    → ((u : ℕ) → u < root_count script → is_some (life_of u log).origin ≡ nat_lt u r) → IsOrderly script blocks (added r)
root_orderly script blocks r log is few there u lt = subst (λ (l : List Event). is_some (life_of u l).origin ≡ true) is (there u (omega (arith, few, lt)) ∙ below_is u r lt)

-- a turn is applied

pub applied_has : (script : ScriptView) (log : List Event) (s : Standing) (t x : ℕ) (e : TurnEnd) (order : ℕ → TurnOrder) → log ≡ s.log → ((u : ℕ) → TurnKeeps (root_count script) t u log e) → IsUnderWay script s x t
    → ((k : ℕ) → HasUnderWay script s k (order k))
    → (k : ℕ) → HasUnderWay script (record { log = e.log; held = e.held; jobs = with_jobs e.jobs (taken t s.jobs) }) k (changed_at x order_applied order k)
applied_has script log s t x e order is keeps own has =
    let s' : Standing = record { log = e.log; held = e.held; jobs = with_jobs e.jobs (taken t s.jobs) } in
    let was : (k u : ℕ) → IsUnderWay script s' k u → IsUnderWay script s k u =
    (λ k u now. let job : s'.jobs u ≡ s.jobs u = jobs_stay e.jobs (taken t s.jobs) u ((keeps u).none now.1) ∙ ap (λ b. if b then None else s.jobs u) (unequal u t ((keeps u).other now.1)) in
    (sym (ap (job_executor script) job) ∙ now.0, ap (λ (l : List Event). is_begun (life_of u l).stage) (sym is) ∙ (keeps u).was now.1))
    in
    has_changed script s' x order_applied order (has_applied script s s' x t (order x) (was x) (λ u now. (keeps u).other now.1) own (has x))
    (λ k apart. has_stays script s s' k (order k) (was k) (has k))

pub ordered_applied : (o : TurnOrder) → IsOrdered (order_applied o) → IsOrdered o
ordered_applied unordered is = is
ordered_applied _ is = tt

-- where all orders are in order after one has changed, they were before
pub ordered_before : (x : ℕ) (f : TurnOrder → TurnOrder) (order : ℕ → TurnOrder) → (IsOrdered (f (order x)) → IsOrdered (order x)) → ((e : ℕ) → IsOrdered (changed_at x f order e)) → (e : ℕ) → IsOrdered (order e)
ordered_before x f order own all e = elim (cases_eq e x) [
  | inl same ↦ subst (λ (k : ℕ). IsOrdered (order k)) (sym same) (own (subst IsOrdered (changed_there x f order x refl) (all x)))
  | inr apart ↦ subst IsOrdered (changed_else x f order e apart) (all e)
]

-- when a run begins, nothing is under way, and no root is there

pub first_has : (script : ScriptView) (e : ℕ) → HasUnderWay script (standing script []) e at_rest
first_has script e t is = false≢true (sym (ap (λ (l : Life). is_begun l.stage) (unborn_without t [] refl)) ∙ is.1)

pub first_there : (r : ℕ) → is_some (life_of r []).origin ≡ nat_lt r 0
first_there r = ap (λ (l : Life). is_some l.origin) (unborn_without r [] refl) ∙ below_none r
  where
    below_none : (x : ℕ) → false ≡ nat_lt x 0
    below_none x = grind (arith, nat_tests)
