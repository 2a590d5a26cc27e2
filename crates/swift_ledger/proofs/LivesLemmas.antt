-- What is kept of each task once one more event is written.
use Rattle.swift_ledger.proofs.Prelude.{◌≡◌, ℕ, ◌+◌, ◌-◌, ◌<◌, ◌≤◌, List, [], ◌∷◌, ◌++◌, length, get_or, set, refl, sym, ◌∙◌, ap, arith, cond, true, false, Bool, inl, inr, replicate, cases_lt, false≢true, get_or_past, Event, Free, Child, Life, task_of, is_made, tasks_of, life_of, lived, unborn, is_open, room_held, lives_of, open_of, reserved_of, lives_of_none, length-lives_of, get_or-lives_of, lives_of-push, lives_of-push_made, life_of-push_same, tasks_of-push_made, tasks_of-push_other, life_le_sum, open_of-push, open_of-push_made, reserved_of-push, reserved_of-push_made, CanNote, IsWellFormed}
use Rattle.swift_ledger.proofs.FormLemmas.{unmade_beyond, made_next, made_holds_none, held_within}

pub no_lives : (roots : ℕ) → replicate roots unborn ≡ lives_of (tasks_of roots []) []
no_lives roots = let same : roots ≡ tasks_of roots [] = omega arith in lives_of_none roots ∙ ap (λ n. lives_of n []) same

-- of any number, what the log says of it
pub any_life : (roots : ℕ) (log : List Event) (t : ℕ) → IsWellFormed roots log → get_or (lives_of (tasks_of roots log) log) t unborn ≡ life_of t log
any_life roots log t form = elim (cases_lt t (tasks_of roots log)) [
  | inl less ↦ get_or-lives_of (tasks_of roots log) log t unborn less
  | inr le ↦ (let past : length (lives_of (tasks_of roots log) log) ≤ t = rw (length-lives_of (tasks_of roots log) log) le in
      get_or_past (lives_of (tasks_of roots log) log) t unborn past ∙ sym (unmade_beyond roots log t form le))
]

-- a task is made

pub made_lives : (roots : ℕ) (log : List Event) (e : Event) (xs : List Life) (l : Life) → IsWellFormed roots log → CanNote roots log e → is_made e ≡ true → xs ≡ lives_of (tasks_of roots log) log → l ≡ lived unborn e → xs ++ l ∷ [] ≡ lives_of (tasks_of roots (log ++ e ∷ [])) (log ++ e ∷ [])
made_lives roots log e xs l form can made is born =
    ap (λ ys. ys ++ l ∷ []) is ∙ ap (λ (m : Life). lives_of (tasks_of roots log) log ++ m ∷ []) born
    ∙ sym (lives_of-push_made (tasks_of roots log) log e (made_next roots log e can made) (form.beyond (tasks_of roots log) (omega arith)))
    ∙ ap (λ n. lives_of n (log ++ e ∷ [])) (sym (tasks_of-push_made roots log e made))

made_is_open : (e : Event) → is_made e ≡ true → is_open (lived unborn e) ≡ true
made_is_open (Free t by p true) made = refl
made_is_open (Free t by p false) made = refl
made_is_open (Child t o g p) made = refl
made_is_open _ made = absurd (false≢true made)

abbrev pub one_if : Bool → ℕ
one_if b = cond b 1 0

pub made_open : (roots : ℕ) (log : List Event) (e : Event) (total : ℕ) → IsWellFormed roots log → CanNote roots log e → is_made e ≡ true → total ≡ open_of roots log → total + 1 ≡ open_of roots (log ++ e ∷ [])
made_open roots log e total form can made is =
    let s = open_of-push_made roots log e made (made_next roots log e can made) (form.beyond (tasks_of roots log) (omega arith)) in
    let one : one_if (is_open (lived unborn e)) ≡ 1 = rw (made_is_open e made) refl in
    omega (arith, s, one, is)

pub made_reserved : (roots : ℕ) (log : List Event) (e : Event) (total : ℕ) → IsWellFormed roots log → CanNote roots log e → is_made e ≡ true → total ≡ reserved_of roots log → total ≡ reserved_of roots (log ++ e ∷ [])
made_reserved roots log e total form can made is =
    let s = reserved_of-push_made roots log e made (made_next roots log e can made) (form.beyond (tasks_of roots log) (omega arith)) in
    let none = made_holds_none e made in
    omega (arith, s, none, is)

-- what is known of one task changes

pub read_life : (n : ℕ) (log : List Event) (e : Event) (xs : List Life) (before : Life) (place : ℕ) → xs ≡ lives_of n log → place ≡ task_of e → task_of e < n → before ≡ get_or xs place before → before ≡ life_of (task_of e) log
read_life n log e xs before place is at less read =
    read ∙ ap (λ (ys : List Life). get_or ys place before) is ∙ ap (λ (k : ℕ). get_or (lives_of n log) k before) at ∙ get_or-lives_of n log (task_of e) before less

pub changed_lives : (roots : ℕ) (log : List Event) (e : Event) (xs : List Life) (before after : Life) (place : ℕ) → task_of e < tasks_of roots log → is_made e ≡ false → xs ≡ lives_of (tasks_of roots log) log → place ≡ task_of e → before ≡ life_of (task_of e) log → after ≡ lived before e → set xs place after ≡ lives_of (tasks_of roots (log ++ e ∷ [])) (log ++ e ∷ [])
changed_lives roots log e xs before after place less known is at was lives =
    let now : after ≡ lived (life_of (task_of e) log) e = lives ∙ ap (λ (l : Life). lived l e) was in
    ap (λ (ys : List Life). set ys place after) is ∙ ap (λ (k : ℕ). set (lives_of (tasks_of roots log) log) k after) at ∙ ap (set (lives_of (tasks_of roots log) log) (task_of e)) now
    ∙ lives_of-push (tasks_of roots log) log e less ∙ ap (λ n. lives_of n (log ++ e ∷ [])) (sym (tasks_of-push_other roots log e known))

pub open_within : (roots : ℕ) (log : List Event) (e : Event) (before : Life) (total b : ℕ) → task_of e < tasks_of roots log → total ≡ open_of roots log → before ≡ life_of (task_of e) log → b ≡ one_if (is_open before) → b ≤ total
open_within roots log e before total b less is was share =
    let le = life_le_sum (λ l. cond (is_open l) 1 0) (tasks_of roots log) log (task_of e) less in
    let same = ap (λ (l : Life). one_if (is_open l)) was in
    omega (arith, le, same, share, is)

pub changed_open : (roots : ℕ) (log : List Event) (e : Event) (before after : Life) (total a b : ℕ) → task_of e < tasks_of roots log → is_made e ≡ false → total ≡ open_of roots log → before ≡ life_of (task_of e) log → after ≡ lived before e → a ≡ one_if (is_open after) → b ≡ one_if (is_open before) → total + a - b ≡ open_of roots (log ++ e ∷ [])
changed_open roots log e before after total a b less known is was lives share_after share_before =
    let s = open_of-push roots log e known less in
    let old = ap (λ (l : Life). one_if (is_open l)) was in
    let new = ap (λ (l : Life). one_if (is_open l)) (lives ∙ ap (λ (l : Life). lived l e) was ∙ sym (life_of-push_same (task_of e) log e refl)) in
    omega (arith, s, old, new, is, share_after, share_before)

pub room_within : (roots : ℕ) (log : List Event) (e : Event) (before : Life) (total b : ℕ) → task_of e < tasks_of roots log → total ≡ reserved_of roots log → before ≡ life_of (task_of e) log → b ≡ room_held before → b ≤ total
room_within roots log e before total b less is was held =
    let le = held_within roots log (task_of e) less in
    let same = ap room_held was in
    omega (arith, le, same, held, is)

pub changed_reserved : (roots : ℕ) (log : List Event) (e : Event) (before after : Life) (total a b : ℕ) → task_of e < tasks_of roots log → is_made e ≡ false → total ≡ reserved_of roots log → before ≡ life_of (task_of e) log → after ≡ lived before e → a ≡ room_held after → b ≡ room_held before → (total - b) + a ≡ reserved_of roots (log ++ e ∷ [])
changed_reserved roots log e before after total a b less known is was lives held_after held_before =
    let s = reserved_of-push roots log e known less in
    let le = held_within roots log (task_of e) less in
    let old = ap room_held was in
    let new = ap room_held (lives ∙ ap (λ (l : Life). lived l e) was ∙ sym (life_of-push_same (task_of e) log e refl)) in
    omega (arith, s, le, old, new, is, held_after, held_before)
