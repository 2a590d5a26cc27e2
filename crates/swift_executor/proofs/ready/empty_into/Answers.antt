use Rattle.swift_executor.proofs.Prelude.{◌≡◌, ◌<◌, true, false, true≢false, List, [], ◌∷◌, ◌++◌, append-nil, length, map, refl, sym, subst, arith, IsPermutation-map, IsPermutation-pop_more, IsPermutation-refl, IsPermutation, JobView, waiting, Waiting}
use Rattle.swift_executor.proofs.ready.empty_into.Goals as goal

-- a list of which there is no more than nothing
none_waits : {X : Type 0} (xs : List X) → (0 < length xs → false ≡ true) → xs ≡ []
none_waits [] never = refl
none_waits (x ∷ xs) never = absurd (true≢false (sym (never (omega arith))))

pub empty-preserved : goal.empty-preserved
empty-preserved g c =
    let f : Waiting g.row.B.Denot → JobView g.row.B.Denot = λ w. w.job in
    let all = c.args.jobs.items ++ map f c.args.queue.jobs in
    let takes = c.in-Some.ensures.first in
    let w = waiting c.in-Some.job takes.priority c.in-Some.field-0-1 in
    let rest = map f c.take.new.self.jobs in
    let moved : IsPermutation (map f c.empty.queue.jobs) (c.in-Some.job ∷ rest) = IsPermutation-map f c.empty.queue.jobs (w ∷ c.take.new.self.jobs) takes.rest in
    let more = c.in-Some.ensures.len in
    let len = c.push_reserved.ensures.len in
    let cap = c.push_reserved.ensures.capacity in
    let few = c.empty.invariant.1 in (
      subst (λ (js : List (JobView g.row.B.Denot)). IsPermutation all (js ++ rest)) (sym c.push_reserved.ensures.items)
          (IsPermutation-pop_more all c.empty.jobs.items (map f c.empty.queue.jobs) rest c.in-Some.job c.empty.invariant.0 moved),
      omega (arith, more, len, cap, few),
    )

pub empty-init : goal.empty-init
empty-init g c = (IsPermutation-refl _, c.requires)

pub returns : goal.returns
returns g c =
    let f : Waiting g.row.B.Denot → JobView g.row.B.Denot = λ w. w.job in
    let all = c.args.jobs.items ++ map f c.args.queue.jobs in
    let none : c.empty.queue.jobs ≡ [] = none_waits c.empty.queue.jobs c.in_default.ensures.some.1 in
    let kept : IsPermutation all (c.empty.jobs.items ++ []) =
    subst (λ (js : List (Waiting g.row.B.Denot)). IsPermutation all (c.empty.jobs.items ++ map f js)) none c.empty.invariant.0 in
    subst (IsPermutation all) (append-nil c.empty.jobs.items) kept
