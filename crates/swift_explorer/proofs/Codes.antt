-- Values that were written as numbers can be read again.
use Rattle.swift_explorer.proofs.Prelude.{◌≡◌, ℕ, zero, suc, ◌+◌, ◌<◌, ◌*◌, ℤ, List, [], ◌∷◌, ◌++◌, Bool, true, false, refl, sym, ◌∙◌, ap, ap₂, arith, append_assoc, subst, inl, inr, cases_eq, pos, Option, Some, None, ◌/◌, ◌%◌, ◌^◌, TaskId, Fault, Ending, Resume, Env, Origin, LastJob, JobStage, Life, pair_numbers, option_numbers, some_numbers, list_numbers, each_numbers, value_numbers, number_numbers, wide_numbers, flag_numbers, task_numbers, priority_numbers, fault_numbers, ending_numbers, resume_numbers, origin_numbers, given_numbers, env_numbers, stage_numbers, life_numbers, link_numbers}
use Rattle.swift_types.specs.declared.outcome.Fault.TheVariants as fault
use Rattle.swift_types.specs.declared.outcome.Ending.TheVariants as ending
use Rattle.swift_types.specs.declared.outcome.Resume.TheVariants as resume
use Rattle.swift_types.specs.declared.priority.Priority.{Priority}
use Rattle.swift_types.specs.declared.priority.Priority.TheVariants.{Background, Low, Medium, High}
use Rattle.swift_types.specs.Priority.{rank}
use Rattle.swift_events.specs.declared.life.Origin.TheVariants as origin
use Rattle.swift_events.specs.declared.life.JobStage.TheVariants as stage
use Rattle.swift_escalation.specs.declared.waits.PriorityEvent.{PriorityEvent as Link}
use Rattle.swift_escalation.specs.declared.waits.PriorityEvent.TheVariants as link

abbrev task : ℕ → TaskId
task n = record { 0 = n }

-- What begins with the numbers of a value says of which, up to R, and what follows.
pub record IsCodeTo {A : Type 0} (R : A → A → Type 0) (f : A → List ℤ) : Type 0 where
  pub read : (a b : A) (r s : List ℤ) → f a ++ r ≡ f b ++ s → R a b × (r ≡ s)

abbrev pub IsCode : {A : Type 0} → (A → List ℤ) → Type 0
IsCode {A} f = IsCodeTo (λ (a b : A). a ≡ b) f

-- one value and more after it
pub peel : {A : Type 0} (f : A → List ℤ) → IsCode f → (a b : A) (u v r s : List ℤ) → (f a ++ u) ++ r ≡ (f b ++ v) ++ s → (a ≡ b) × (u ++ r ≡ v ++ s)
peel f c a b u v r s e = c.read a b (u ++ r) (v ++ s) (sym (append_assoc (f a) u r) ∙ e ∙ append_assoc (f b) v s)

same_pair : {A B : Type 0} (x y : A × B) → x.0 ≡ y.0 → x.1 ≡ y.1 → x ≡ y
same_pair {A} {B} x y p q = let both : A → B → A × B = λ a b. (a, b) in ap₂ both p q

pub pair_code : {A B : Type 0} (f : A → List ℤ) (g : B → List ℤ) → IsCode f → IsCode g → IsCode (pair_numbers f g)
pair_code f g c d = record {
  read = λ a b r s e.
      let one = peel f c a.0 b.0 (g a.1) (g b.1) r s e in
      let two = d.read a.1 b.1 r s one.1 in
      (same_pair a b one.0 two.0, two.1);
}

option_read : {A : Type 0} (f : A → List ℤ) → IsCode f → (a b : Option A) (r s : List ℤ) → option_numbers f a ++ r ≡ option_numbers f b ++ s → (a ≡ b) × (r ≡ s)
option_read f c None None r s e = (refl, cc)
option_read f c None (Some y) r s e = absurd (cc)
option_read f c (Some x) None r s e = absurd (cc)
option_read f c (Some x) (Some y) r s e =
    let rest : f x ++ r ≡ f y ++ s = cc in
    let one = c.read x y r s rest in
    (ap (λ z. Some z) one.0, one.1)

pub option_code : {A : Type 0} (f : A → List ℤ) → IsCode f → IsCode (option_numbers f)
option_code f c = record { read = option_read f c }

list_read : {A : Type 0} (f : A → List ℤ) → IsCode f → (xs ys : List A) (r s : List ℤ) → list_numbers f xs ++ r ≡ list_numbers f ys ++ s → (xs ≡ ys) × (r ≡ s)
list_read f c [] [] r s e = (refl, cc)
list_read f c [] (y ∷ ys) r s e = absurd (cc)
list_read f c (x ∷ xs) [] r s e = absurd (cc)
list_read f c (x ∷ xs) (y ∷ ys) r s e =
    let rest : ((f x ++ some_numbers f xs) ++ pos 0 ∷ []) ++ r ≡ ((f y ++ some_numbers f ys) ++ pos 0 ∷ []) ++ s = cc in
    let left : ((f x ++ some_numbers f xs) ++ pos 0 ∷ []) ++ r ≡ f x ++ (list_numbers f xs ++ r) = simp append_assoc in
    let right : ((f y ++ some_numbers f ys) ++ pos 0 ∷ []) ++ s ≡ f y ++ (list_numbers f ys ++ s) = simp append_assoc in
    let one = c.read x y (list_numbers f xs ++ r) (list_numbers f ys ++ s) (sym left ∙ rest ∙ right) in
    let more = list_read f c xs ys r s one.1 in
    (ap₂ (λ z zs. z ∷ zs) one.0 more.0, more.1)

pub list_code : {A : Type 0} (f : A → List ℤ) → IsCode f → IsCode (list_numbers f)
list_code f c = record { read = list_read f c }

-- tables that agree at each of the first places
abbrev pub AgreeBelow : {A : Type 0} → (A → A → Type 0) → ℕ → (ℕ → A) → (ℕ → A) → Type 0
AgreeBelow R n x y = (i : ℕ) → i < n → R (x i) (y i)

below_suc : (n : ℕ) (P : ℕ → Type 0) → ((i : ℕ) → i < n → P i) → P n → (i : ℕ) → i < suc n → P i
below_suc n P below here i low = elim (cases_eq i n) [ inl same ↦ subst P (sym same) here | inr other ↦ below i (omega arith) ]

each_read : {A : Type 0} (R : A → A → Type 0) (f : A → List ℤ) → IsCodeTo R f → (n : ℕ) (x y : ℕ → A) (r s : List ℤ) → each_numbers f x n ++ r ≡ each_numbers f y n ++ s → AgreeBelow R n x y × (r ≡ s)
each_read R f c zero x y r s e = (λ i low. absurd (omega arith), e)
each_read R f c (suc n) x y r s e =
    let more = each_read R f c n x y (f (x n) ++ r) (f (y n) ++ s) (sym (append_assoc (each_numbers f x n) (f (x n)) r) ∙ e ∙ append_assoc (each_numbers f y n) (f (y n)) s) in
    let one = c.read (x n) (y n) r s more.1 in
    (below_suc n (λ i. R (x i) (y i)) more.0 one.0, one.1)

pub each_code : {A : Type 0} (R : A → A → Type 0) (f : A → List ℤ) → IsCodeTo R f → (n : ℕ) → IsCodeTo (AgreeBelow R n) (λ (x : ℕ → A). each_numbers f x n)
each_code R f c n = record { read = each_read R f c n }

-- values of each type

pub value_code : IsCode value_numbers
value_code = record { read = λ a b r s e. (cc, cc) }

pub number_code : IsCode number_numbers
number_code = record { read = λ a b r s e. (cc, cc) }

-- a number by its parts
pub halves : (k a b : ℕ) → 0 < k → a / k ≡ b / k → a % k ≡ b % k → a ≡ b
halves k a b some high low =
    let x : k * (a / k) + a % k ≡ a = omega arith in
    let y : k * (b / k) + b % k ≡ b = omega arith in
    sym x ∙ ap (λ q. k * q + a % k) high ∙ ap (λ q. k * (b / k) + q) low ∙ y

pub wide_code : IsCode wide_numbers
wide_code = record {
  read = λ a b r s e.
      let high : a / 2 ^ 32 ≡ b / 2 ^ 32 = cc in
      let low : a % 2 ^ 32 ≡ b % 2 ^ 32 = cc in
      (halves (2 ^ 32) a b (omega arith) high low, cc);
}

flag_read : (a b : Bool) (r s : List ℤ) → flag_numbers a ++ r ≡ flag_numbers b ++ s → (a ≡ b) × (r ≡ s)
flag_read true true r s e = (refl, cc)
flag_read false false r s e = (refl, cc)
flag_read true false r s e = absurd (cc)
flag_read false true r s e = absurd (cc)

pub flag_code : IsCode flag_numbers
flag_code = record { read = flag_read }

-- tasks with equal numbers
pub same_task : (a b : TaskId) → a.0 ≡ b.0 → a ≡ b
same_task a b n = ap task n

pub task_code : IsCode task_numbers
task_code = record { read = λ a b r s e. let n : a.0 ≡ b.0 = cc in (same_task a b n, cc) }

pub same_rank : (p q : Priority) → rank p ≡ rank q → p ≡ q
same_rank Background Background e = refl
same_rank Low Low e = refl
same_rank Medium Medium e = refl
same_rank High High e = refl
same_rank _ _ e = absurd (cc)

pub priority_code : IsCode priority_numbers
priority_code = record { read = λ a b r s e. let n : rank a ≡ rank b = cc in (same_rank a b n, cc) }

fault_read : (a b : Fault) (r s : List ℤ) → fault_numbers a ++ r ≡ fault_numbers b ++ s → (a ≡ b) × (r ≡ s)
fault_read (fault.Thrown v) (fault.Thrown w) r s e = (cc, cc)
fault_read fault.Cancelled fault.Cancelled r s e = (refl, cc)
fault_read fault.Invariant fault.Invariant r s e = (refl, cc)
fault_read fault.Overflow fault.Overflow r s e = (refl, cc)
fault_read fault.Steps fault.Steps r s e = (refl, cc)
fault_read fault.Turns fault.Turns r s e = (refl, cc)
fault_read fault.Depth fault.Depth r s e = (refl, cc)
fault_read fault.Tasks fault.Tasks r s e = (refl, cc)
fault_read fault.Empty fault.Empty r s e = (refl, cc)
fault_read fault.Isolation fault.Isolation r s e = (refl, cc)
fault_read _ _ r s e = absurd (cc)

pub fault_code : IsCode fault_numbers
fault_code = record { read = fault_read }

ending_read : (a b : Ending) (r s : List ℤ) → ending_numbers a ++ r ≡ ending_numbers b ++ s → (a ≡ b) × (r ≡ s)
ending_read (ending.Value v) (ending.Value w) r s e = (cc, cc)
ending_read (ending.Fault f) (ending.Fault g) r s e =
    let rest : fault_numbers f ++ r ≡ fault_numbers g ++ s = cc in
    let one = fault_read f g r s rest in
    (ap (λ h. ending.Fault h) one.0, one.1)
ending_read _ _ r s e = absurd (cc)

pub ending_code : IsCode ending_numbers
ending_code = record { read = ending_read }

resume_read : (a b : Resume) (r s : List ℤ) → resume_numbers a ++ r ≡ resume_numbers b ++ s → (a ≡ b) × (r ≡ s)
resume_read resume.Start resume.Start r s e = (refl, cc)
resume_read resume.Go resume.Go r s e = (refl, cc)
resume_read (resume.Value v) (resume.Value w) r s e = (cc, cc)
resume_read (resume.Fault f) (resume.Fault g) r s e =
    let rest : fault_numbers f ++ r ≡ fault_numbers g ++ s = cc in
    let one = fault_read f g r s rest in
    (ap (λ h. resume.Fault h) one.0, one.1)
resume_read _ _ r s e = absurd (cc)

pub resume_code : IsCode resume_numbers
resume_code = record { read = resume_read }

origin_read : (a b : Origin) (r s : List ℤ) → origin_numbers a ++ r ≡ origin_numbers b ++ s → (a ≡ b) × (r ≡ s)
origin_read origin.Root origin.Root r s e = (refl, cc)
origin_read (origin.Child o g) (origin.Child p h) r s e =
    let t : o.0 ≡ p.0 = cc in
    let n : g ≡ h = cc in
    (ap₂ (λ x y. origin.Child x y) (same_task o p t) n, cc)
origin_read (origin.Spawned o) (origin.Spawned p) r s e = let t : o.0 ≡ p.0 = cc in (ap (λ x. origin.Spawned x) (same_task o p t), cc)
origin_read (origin.Detached o) (origin.Detached p) r s e = let t : o.0 ≡ p.0 = cc in (ap (λ x. origin.Detached x) (same_task o p t), cc)
origin_read _ _ r s e = absurd (cc)

pub origin_code : IsCode origin_numbers
origin_code = record { read = origin_read }

abbrev given_by : ℕ → Resume → LastJob
given_by n r = record { number = n; resume = r }

pub given_code : IsCode given_numbers
given_code = record {
  read = λ a b r s e.
      let one = peel number_numbers number_code a.number b.number (resume_numbers a.resume) (resume_numbers b.resume) r s e in
      let two = resume_code.read a.resume b.resume r s one.1 in
      (ap₂ given_by one.0 two.0, two.1);
}

abbrev env_by : Priority → Bool → ℕ → Env
env_by p c n = record { priority = p; cancelled = c; room = n }

pub env_code : IsCode env_numbers
env_code = record {
  read = λ a b r s e.
      let one = peel priority_numbers priority_code a.priority b.priority (flag_numbers a.cancelled ++ number_numbers a.room) (flag_numbers b.cancelled ++ number_numbers b.room) r s e in
      let two = peel flag_numbers flag_code a.cancelled b.cancelled (number_numbers a.room) (number_numbers b.room) r s one.1 in
      let three = number_code.read a.room b.room r s two.1 in
      let all : env_by a.priority a.cancelled a.room ≡ env_by b.priority b.cancelled b.room =
      ap (λ (x : Priority). env_by x a.cancelled a.room) one.0 ∙ ap (λ (x : Bool). env_by b.priority x a.room) two.0 ∙ ap (λ (x : ℕ). env_by b.priority b.cancelled x) three.0 in
      (all, three.1);
}

stage_read : (a b : JobStage) (r s : List ℤ) → stage_numbers a ++ r ≡ stage_numbers b ++ s → (a ≡ b) × (r ≡ s)
stage_read stage.Given stage.Given r s e = (refl, cc)
stage_read (stage.Begun x) (stage.Begun y) r s e =
    let rest : env_numbers x ++ r ≡ env_numbers y ++ s = cc in
    let one = env_code.read x y r s rest in
    (ap (λ h. stage.Begun h) one.0, one.1)
stage_read stage.Applied stage.Applied r s e = (refl, cc)
stage_read (stage.Waits t) (stage.Waits u) r s e = let n : t.0 ≡ u.0 = cc in (ap (λ x. stage.Waits x) (same_task t u n), cc)
stage_read (stage.Asks g) (stage.Asks h) r s e = (cc, cc)
stage_read (stage.Closes g) (stage.Closes h) r s e = (cc, cc)
stage_read _ _ r s e = absurd (cc)

pub stage_code : IsCode stage_numbers
stage_code = record { read = stage_read }

abbrev life_by : Option Origin → Option LastJob → Option JobStage → Option Ending → Life
life_by o g t n = record { origin = o; given = g; stage = t; ending = n }

pub life_code : IsCode life_numbers
life_code = record {
  read = λ a b r s e.
      let o : Option Origin → List ℤ = option_numbers origin_numbers in
      let g : Option LastJob → List ℤ = option_numbers given_numbers in
      let t : Option JobStage → List ℤ = option_numbers stage_numbers in
      let n : Option Ending → List ℤ = option_numbers ending_numbers in
      let one = peel o (option_code origin_numbers origin_code) a.origin b.origin (g a.given ++ (t a.stage ++ n a.ending)) (g b.given ++ (t b.stage ++ n b.ending)) r s e in
      let two = peel g (option_code given_numbers given_code) a.given b.given (t a.stage ++ n a.ending) (t b.stage ++ n b.ending) r s one.1 in
      let three = peel t (option_code stage_numbers stage_code) a.stage b.stage (n a.ending) (n b.ending) r s two.1 in
      let four = option_read ending_numbers ending_code a.ending b.ending r s three.1 in
      let all : life_by a.origin a.given a.stage a.ending ≡ life_by b.origin b.given b.stage b.ending =
      ap (λ (x : Option Origin). life_by x a.given a.stage a.ending) one.0
      ∙ ap (λ (x : Option LastJob). life_by b.origin x a.stage a.ending) two.0
      ∙ ap (λ (x : Option JobStage). life_by b.origin b.given x a.ending) three.0
      ∙ ap (λ (x : Option Ending). life_by b.origin b.given b.stage x) four.0 in
      (all, four.1);
}

link_read : (a b : Link) (r s : List ℤ) → link_numbers a ++ r ≡ link_numbers b ++ s → (a ≡ b) × (r ≡ s)
link_read (link.Root t p) (link.Root u q) r s e =
    let x : t.0 ≡ u.0 = cc in
    let y : rank p ≡ rank q = cc in
    (ap₂ (λ m n. link.Root m n) (same_task t u x) (same_rank p q y), cc)
link_read (link.Child t o p) (link.Child u w q) r s e =
    let x : t.0 ≡ u.0 = cc in
    let z : o.0 ≡ w.0 = cc in
    let y : rank p ≡ rank q = cc in
    (ap (λ m. link.Child m o p) (same_task t u x) ∙ ap₂ (λ m n. link.Child u m n) (same_task o w z) (same_rank p q y), cc)
link_read (link.Free t p) (link.Free u q) r s e =
    let x : t.0 ≡ u.0 = cc in
    let y : rank p ≡ rank q = cc in
    (ap₂ (λ m n. link.Free m n) (same_task t u x) (same_rank p q y), cc)
link_read (link.Wait t a) (link.Wait u b) r s e =
    let x : t.0 ≡ u.0 = cc in
    let z : a.0 ≡ b.0 = cc in
    (ap₂ (λ m n. link.Wait m n) (same_task t u x) (same_task a b z), cc)
link_read _ _ r s e = absurd (cc)

pub link_code : IsCode link_numbers
link_code = record { read = link_read }
