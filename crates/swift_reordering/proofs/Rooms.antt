-- Room never binds while there are few tasks: the executors' turns have reserved 16 tasks each at most.
use Rattle.swift_reordering.proofs.Prelude.{◌≡◌, ◌≢◌, ◌⊎◌, ℕ, zero, suc, ◌+◌, ◌*◌, ◌<◌, ◌≤◌, List, [], ◌∷◌, refl, sym, ◌∙◌, ap, subst, Bool, inl, inr, arith, Option, Some, ◌==◌, if◌then◌else◌, sum_by, unwrap_or, map, range_with_len, cases_eq, eq-eqb, ne_eqb, false≢true, sum_by-map-range_with_len_more, Env, TASKS, MADE, ScriptView, root_count, executor_count, actor_executor, method_actor, CheckpointView, Event, Life, JobStage, Begun, tasks_of, life_of, room_held, room_in, reserved_of, room_of, is_begun, JobFacts, Block, added, begun, ran, folded, Standing, at_first, after_block, after_blocks, Stands, job_executor, ActorsHaveExecutors, all_begun, after_push, stage_at, unborn_without}
use Rattle.std.proofs.Math.Nat.{min-eq_left, min-le_left}
use Rattle.swift_events.specs.Room.{lives_of}
use Rattle.swift_reordering.proofs.Walks.{IsCourse, along, course_none}
use Rattle.swift_reordering.proofs.Seats.{HasBegun, OnlyStay, turn_stays, root_stays, begin_other, all_apart}
use Rattle.swift_reordering.proofs.Framed.{all_framed, has_root, seat_of}

-- what the first n of some numbers make in all
abbrev pub total : (ℕ → ℕ) → ℕ → ℕ
total w zero = 0
total w (suc n) = total w n + w n

one_more : (n : ℕ) → suc n ≡ n + 1
one_more n = omega arith

pub sum_total : (log : List Event) (n : ℕ) → sum_by room_held (map (λ t. life_of t log) (range_with_len 0 n)) ≡ total (λ t. room_held (life_of t log)) n
sum_total log zero = refl
sum_total log (suc n) =
    let more = sum_by-map-range_with_len_more room_held (λ t. life_of t log) 0 n n (omega arith) in
    let was = sum_total log n in
    let same : sum_by room_held (map (λ t. life_of t log) (range_with_len 0 (suc n))) ≡ sum_by room_held (map (λ t. life_of t log) (range_with_len 0 (n + 1))) = ap (λ k. sum_by room_held (map (λ t. life_of t log) (range_with_len 0 k))) (one_more n) in
    omega (arith, more, was, same)

-- of numbers that are 16 at most, and 0 but for one at each of some seats

abbrev Small : (ℕ → ℕ) → Type 0
Small w = (t : ℕ) → w t ≤ 16

abbrev OneEach : (ℕ → ℕ) → (ℕ → ℕ) → Type 0
OneEach w seat = (t u : ℕ) → 0 < w t → 0 < w u → seat t ≡ seat u → t ≡ u

-- without those at one seat
abbrev without : (ℕ → ℕ) → (ℕ → ℕ) → ℕ → ℕ → ℕ
without w seat e t = if seat t == e then 0 else w t

zero_or : (n : ℕ) → (n ≡ 0) ⊎ (0 < n)
zero_or n = grind arith

without_other : (w seat : ℕ → ℕ) (e t : ℕ) → seat t ≢ e → without w seat e t ≡ w t
without_other w seat e t ne = ap (λ (b : Bool). if b then 0 else w t) (ne_eqb (seat t) e ne)

without_less : (w seat : ℕ → ℕ) (e t : ℕ) → without w seat e t ≤ w t
without_less w seat e t = elim (cases_eq (seat t) e) [
  | inl same ↦ (let is : without w seat e t ≡ 0 = ap (λ (b : Bool). if b then 0 else w t) (eq-eqb (seat t) e same) in omega (arith, is))
  | inr other ↦ (let is = without_other w seat e t other in omega (arith, is))
]

none_left : (w seat : ℕ → ℕ) (e n : ℕ) → ((t : ℕ) → t < n → seat t ≡ e → w t ≡ 0) → total w n ≤ total (without w seat e) n
none_left w seat e zero none = omega arith
none_left w seat e (suc n) none =
    let rest = none_left w seat e n (λ t lt at. none t (omega (arith, lt)) at) in
    elim (cases_eq (seat n) e) [
      | inl same ↦ (let is = none n (omega arith) same in omega (arith, is, rest))
      | inr other ↦ (let is = without_other w seat e n other in omega (arith, is, rest))
    ]

one_left : (w seat : ℕ → ℕ) (e : ℕ) → Small w → OneEach w seat → (n : ℕ) → total w n ≤ total (without w seat e) n + 16
one_left w seat e small one zero = omega arith
one_left w seat e small one (suc n) =
    let rest = one_left w seat e small one n in
    elim (cases_eq (seat n) e) [
      | inl same ↦ elim (zero_or (w n)) [
        | inl nothing ↦ omega (arith, nothing, rest)
        | inr some ↦
            let others = none_left w seat e n (λ t lt at. elim (zero_or (w t)) [
              | inl is ↦ is
              | inr more ↦ (let one_of = one t n more some (at ∙ sym same) in absurd (omega (arith, one_of, lt)))
            ]) in
            let few = small n in
            omega (arith, few, others)
      ]
      | inr other ↦ (let is = without_other w seat e n other in omega (arith, is, rest))
    ]

total_none : (w : ℕ → ℕ) (n : ℕ) → ((t : ℕ) → w t ≡ 0) → total w n ≡ 0
total_none w zero none = refl
total_none w (suc n) none = let a = total_none w n none in let b = none n in omega (arith, a, b)

few_in_all : (seats : ℕ) (w seat : ℕ → ℕ) → Small w → OneEach w seat → ((t : ℕ) → 0 < w t → seat t < seats) → (n : ℕ) → total w n ≤ 16 * seats
few_in_all zero w seat small one low n =
    let none = total_none w n (λ t. elim (zero_or (w t)) [ inl is ↦ is | inr some ↦ (let lt = low t some in absurd (omega (arith, lt))) ]) in
    omega (arith, none)
few_in_all (suc seats) w seat small one low n =
    let less = without_less w seat seats in
    let first = one_left w seat seats small one n in
    let rest = few_in_all seats (without w seat seats) seat
    (λ t. (let a = less t in let b = small t in omega (arith, a, b)))
    (λ t u some also at. (let a = less t in let b = less u in one t u (omega (arith, a, some)) (omega (arith, b, also)) at))
    (λ t some. elim (cases_eq (seat t) seats) [
      | inl same ↦ (let is : without w seat seats t ≡ 0 = ap (λ (b : Bool). if b then 0 else w t) (eq-eqb (seat t) seats same) in absurd (omega (arith, is, some)))
      | inr other ↦ (let a = less t in let lt = low t (omega (arith, a, some)) in omega (arith, lt, other))
    ])
    n in
    omega (arith, first, rest)

-- in a history

begun_if : (s : Option JobStage) → 0 < room_in s → (env : Env) × (s ≡ Some (Begun env))
begun_if (Some (Begun env)) some = (env, refl)
begun_if _ some = absurd (omega (arith, some))

-- each task whose turn has begun has a job
abbrev HaveJobs : Standing → Type 0
HaveJobs s = (u : ℕ) → HasBegun s.log u → (j : JobFacts) × (s.jobs u ≡ Some j)

have_still : (s z : Standing) → HaveJobs s → ((u : ℕ) → HasBegun z.log u → OnlyStay s z u) → HaveJobs z
have_still s z have stays u has =
    let one = stays u has in
    let was = have u (ap is_begun (sym one.stage) ∙ has) in
    (was.0, one.job ∙ was.1)

module _ (script : ScriptView) (cps : List CheckpointView) where
  have_next : (before : List Block) (b : Block) → Stands script cps before b → HaveJobs (after_blocks script (at_first script) before) → HaveJobs (after_block script (after_blocks script (at_first script) before) b)
  have_next before (added r) stands have = have_still (after_blocks script (at_first script) before) _ have (root_stays script (after_blocks script (at_first script) before) r)
  have_next before (ran e r) stands have =
      let s = after_blocks script (at_first script) before in
      have_still s _ have (λ u has. (turn_stays script s e r.task r.number r.effects r.exit r.after stands.job r.env r.frame stands.stands u has).1)
  have_next before (folded e f) stands have =
      let s = after_blocks script (at_first script) before in
      have_still s _ have (λ u has. (turn_stays script s e f.task f.number f.effects f.exit f.after stands.0.job stands.0.env stands.0.frame stands.0.stands u has).1)
  have_next before (begun t n env) stands have = λ u has.
      (let s = after_blocks script (at_first script) before in
      elim (cases_eq t u) [
        | inl same ↦ (stands.0, ap s.jobs (sym same) ∙ stands.1)
        | inr other ↦ have u (ap is_begun (sym (begin_other t n env s.log u other)) ∙ has)
      ])

  pub all_have : (bs : List Block) → IsCourse script cps bs → HaveJobs (after_blocks script (at_first script) bs)
  all_have bs course =
      along script cps (λ (xs : List Block). HaveJobs (after_blocks script (at_first script) xs))
      (λ before b course stands orderly have. subst HaveJobs (sym (after_push script (at_first script) before b)) (have_next before b stands have))
      (λ u has. absurd (false≢true (sym (ap (λ (l : Life). is_begun l.stage) (unborn_without u [] refl)) ∙ has)))
      bs course

  module _ (bs : List Block) (course : IsCourse script cps bs) (on : ActorsHaveExecutors script) where
    abbrev at : Standing
    at = after_blocks script (at_first script) bs

    abbrev held_of : ℕ → ℕ
    held_of u = room_held (life_of u at.log)

    abbrev seat : ℕ → ℕ
    seat u = unwrap_or (job_executor script (at.jobs u)) 0

    -- such a task is at an executor of the script
    seated : (u : ℕ) → 0 < held_of u → (e : ℕ) × (job_executor script (at.jobs u) ≡ Some e) × (0 < root_count script → e < executor_count script)
    seated u some =
        let begun_in = begun_if (stage_at at.log u) some in
        let j = all_have bs course u (ap is_begun begun_in.1) in
        let p = seat_of script j.0 ((all_framed script cps bs course).jobs u j.0 j.1) in
        (actor_executor script (method_actor script p.0.method), ap (job_executor script) j.1 ∙ p.1, λ root. on root (method_actor script p.0.method))

    some_block : (xs : List Block) → IsCourse script cps xs → (u : ℕ) → HasBegun (after_blocks script (at_first script) xs).log u → 0 < root_count script
    some_block [] c u has = absurd (false≢true (sym (ap (λ (l : Life). is_begun l.stage) (unborn_without u [] refl)) ∙ has))
    some_block (b ∷ xs) c u has = has_root script cps [] b (course_none script cps) c.stand.0

    held_few : Small held_of
    held_few u = elim (zero_or (held_of u)) [
      | inl none ↦ omega (arith, none)
      | inr some ↦
          let begun_in = begun_if (stage_at at.log u) some in
          let is = (all_begun script cps bs course.stand u begun_in.0 begun_in.1).is_env.room in
          let le : begun_in.0.room ≤ MADE = subst (λ (n : ℕ). n ≤ MADE) (sym is) (min-le_left MADE _) in
          let held : held_of u ≡ begun_in.0.room = ap room_in begun_in.1 in
          omega (arith, le, held)
    ]

    held_one : OneEach held_of seat
    held_one t u some also same =
        let a = seated t some in
        let b = seated u also in
        let one : a.0 ≡ b.0 = ap (λ (o : Option ℕ). unwrap_or o 0) (sym a.1) ∙ same ∙ ap (λ (o : Option ℕ). unwrap_or o 0) b.1 in
        all_apart script cps bs course t u (ap is_begun (begun_if (stage_at at.log t) some).1) (ap is_begun (begun_if (stage_at at.log u) also).1) (a.1 ∙ ap (λ (e : ℕ). Some e) one ∙ sym b.1)

    held_low : (t : ℕ) → 0 < held_of t → seat t < executor_count script
    held_low t some =
        let a = seated t some in
        subst (λ (e : ℕ). e < executor_count script) (ap (λ (o : Option ℕ). unwrap_or o 0) (sym a.1)) (a.2 (some_block bs course t (ap is_begun (begun_if (stage_at at.log t) some).1)))

    pub reserved_few : reserved_of (root_count script) at.log ≤ 16 * executor_count script
    unfolding lives_of
    reserved_few =
        let sum = sum_total at.log (tasks_of (root_count script) at.log) in
        let few = few_in_all (executor_count script) held_of seat held_few held_one held_low (tasks_of (root_count script) at.log) in
        omega (arith, sum, few)

    -- so where there are few tasks, each turn may make 16
    pub room_free : tasks_of (root_count script) at.log + MADE * (executor_count script + 1) ≤ TASKS → (t : ℕ) → room_of (root_count script) t at.log ≡ MADE
    room_free few t =
        let reserved = reserved_few in
        min-eq_left (omega (arith, reserved, few))
