use Rattle.swift_executor.proofs.Prelude.{◌≡◌, ℕ, Bool, List, [], ◌∷◌, Contains, None, Option, refl, ap, sym, subst, ◌∙◌, arith, ltb-true, ltb-false, IsPermutation-trans, All, IsPermutation, TaskId, BodyView, ScriptView, executor_kind, AreHigher, ComesFirst, ReadyJobsView, level_at, ready_job, Chooses, ChosenView, ExecStateView, HasNone, ExecInvariant, LacksTask, leaders, takes_by_arrival, chosen_of, Chosen}
use Rattle.swift_executor.proofs.Picked.{all_of, none_behind, none_left, two_steps, was_inside}
use Rattle.swift_executor.proofs.StateKept.{choose_keeps, reorder_keeps}
use Rattle.swift_executor.proofs.state.ExecState.choose.Goals as goal

pub invariant_of-self : goal.invariant_of-self
invariant_of-self c =
    let x = c.self.inside in
    let s : ExecStateView = record { script = x.home.script; executor = x.home.executor; ready = x.ready; chosen = chosen_of x.played x.chosen; journal = x.journal; checkpoint = x.checkpoint.view; fields = x.played.fields.before } in
    let free : s.chosen ≡ None = ap (λ (v : ExecStateView). v.chosen) c.self.view_is ∙ c.requires.free in
    let same = c.in_default.ensures.none.1 in
    let perm = subst (λ (r : ReadyJobsView BodyView). IsPermutation s.ready.front r.front) (sym same) c.count_since.ensures.front in
    reorder_keeps s c.take.new.self c.self.invariant free perm (ap (λ (r : ReadyJobsView BodyView). r.behind) (same ∙ c.count_since.ensures.rest)) (ap (λ (r : ReadyJobsView BodyView). r.arrived) (same ∙ c.count_since.ensures.rest))

pub returns-in_default-clause-none : goal.returns-in_default-clause-none
returns-in_default-clause-none c = λ log are.
    let x = c.self.inside in
    let s : ExecStateView = record { script = x.home.script; executor = x.home.executor; ready = x.ready; chosen = chosen_of x.played x.chosen; journal = x.journal; checkpoint = x.checkpoint.view; fields = x.played.fields.before } in
    let free : s.chosen ≡ None = ap (λ (v : ExecStateView). v.chosen) c.self.view_is ∙ c.requires.free in
    let one = c.count_since.new.self in
    let two = c.take.new.self in
    let same : two ≡ one = c.in_default.ensures.none.1 in
    let empty : s.ready.front ≡ [] = none_left s.ready.front one.front c.count_since.ensures.front c.in_default.ensures.none.0 in
    let new : ExecStateView = record s { ready = two } in
    let ready : two ≡ record s.ready { levels = two.levels } =
    same ∙ c.count_since.ensures.rest
    ∙ ap (λ (xs : List _). record s.ready { front = xs; levels = one.levels }) (c.in_default.ensures.none.0 ∙ sym empty)
    ∙ ap (λ (ls : List ℕ). record s.ready { levels = ls }) (sym (ap (λ (r : ReadyJobsView BodyView). r.levels) same)) in
    subst (λ (v : ExecStateView). HasNone log v new) c.self.view_is (record {
      given = c.args.given.now;
      levels = are;
      higher = subst (λ (r : ReadyJobsView BodyView). AreHigher s.ready.levels c.args.given.now r.levels) (sym same) c.count_since.ensures.levels;
      empty = (empty, none_behind s.ready.front s.ready.behind empty (subst (λ (o : Option ChosenView). All (λ j. Contains (leaders s.ready.front o) j.task) s.ready.behind) free c.self.invariant.led));
      same = ap (λ (r : ReadyJobsView BodyView). record s { ready = r }) ready;
    })

pub invariant_of-self-then-not-is_known : goal.invariant_of-self-then-not-is_known
invariant_of-self-then-not-is_known c =
    let x = c.self.inside in
    let s : ExecStateView = record { script = x.home.script; executor = x.home.executor; ready = x.ready; chosen = chosen_of x.played x.chosen; journal = x.journal; checkpoint = x.checkpoint.view; fields = x.played.fields.before } in
    let free : s.chosen ≡ None = ap (λ (v : ExecStateView). v.chosen) c.self.view_is ∙ c.requires.free in
    let one = c.count_since.new.self in
    let two = c.take.new.self in
    let three = c.restore.new.self in
    let x0 = ready_job c.in-Some.job c.in-Some.arrival in
    let perm = IsPermutation-trans s.ready.front one.front three.front c.count_since.ensures.front (IsPermutation-trans one.front (x0 ∷ two.front) three.front c.in-Some.ensures.rest c.restore.ensures.front) in
    let same = c.restore.ensures.rest ∙ ap (λ (r : ReadyJobsView BodyView). record r { front = three.front }) (c.in-Some.ensures.same ∙ ap (λ (r : ReadyJobsView BodyView). record r { front = two.front }) c.count_since.ensures.rest) in
    reorder_keeps s three c.self.invariant free perm (ap (λ (r : ReadyJobsView BodyView). r.behind) same) (ap (λ (r : ReadyJobsView BodyView). r.arrived) same)

pub returns-then-not-is_known-clause-err : goal.returns-then-not-is_known-clause-err
returns-then-not-is_known-clause-err c = (
  refl,
  λ log are.
      let x = c.self.inside in
      let s : ExecStateView = record { script = x.home.script; executor = x.home.executor; ready = x.ready; chosen = chosen_of x.played x.chosen; journal = x.journal; checkpoint = x.checkpoint.view; fields = x.played.fields.before } in
      let one = c.count_since.new.self in
      let two = c.take.new.self in
      let three = c.restore.new.self in
      let x0 = ready_job c.in-Some.job c.in-Some.arrival in
      let new : ExecStateView = record s { ready = three } in
      let levels : three.levels ≡ one.levels = ap (λ (r : ReadyJobsView BodyView). r.levels) (c.restore.ensures.rest ∙ ap (λ (r : ReadyJobsView BodyView). record r { front = three.front }) c.in-Some.ensures.same) in
      let ready = two_steps s.ready one three c.count_since.ensures.rest (c.restore.ensures.rest ∙ ap (λ (r : ReadyJobsView BodyView). record r { front = three.front }) c.in-Some.ensures.same) in
      subst (λ (v : ExecStateView). LacksTask log v new) c.self.view_is (record {
        job = c.in-Some.job;
        arrival = c.in-Some.arrival;
        picks = record {
          given = c.args.given.now;
          levels = are;
          higher = subst (λ (ls : List ℕ). AreHigher s.ready.levels c.args.given.now ls) (sym levels) c.count_since.ensures.levels;
          first = subst (λ (ls : List ℕ). All (ComesFirst (takes_by_arrival (executor_kind s.script s.executor)) ls x0) s.ready.front) (sym levels)
              (subst (λ (b : Bool). All (ComesFirst b one.levels x0) s.ready.front) (c.takes_by_arrival-by_arrival.ensures ∙ ap takes_by_arrival (c.executor_kind.ensures ∙ ap (λ (v : ScriptView). executor_kind v c.executor.result.0) c.script.ensures ∙ ap (executor_kind x.home.script) c.executor.ensures)) (all_of c.takes_by_arrival-by_arrival.result one.levels x0 s.ready.front one.front c.count_since.ensures.front c.in-Some.ensures.first));
        };
        inside = was_inside s.ready.front one.front two.front x0 c.count_since.ensures.front c.in-Some.ensures.rest;
        unknown = subst (λ (t : TaskId). level_at c.args.given.now t ≡ 0) c.task-task.ensures (let none = ltb-false 0 (level_at c.args.given.now c.task-task.result) (sym c.if-not-is_known.ensures) in omega (arith, none));
        rest = IsPermutation-trans s.ready.front one.front three.front c.count_since.ensures.front (IsPermutation-trans one.front (x0 ∷ two.front) three.front c.in-Some.ensures.rest c.restore.ensures.front);
        same = ap (λ (r : ReadyJobsView BodyView). record s { ready = r }) ready;
      }),
)

pub invariant_of-self-2 : goal.invariant_of-self-2
invariant_of-self-2 c =
    let x = c.self.inside in
    let s : ExecStateView = record { script = x.home.script; executor = x.home.executor; ready = x.ready; chosen = chosen_of x.played x.chosen; journal = x.journal; checkpoint = x.checkpoint.view; fields = x.played.fields.before } in
    let free : s.chosen ≡ None = ap (λ (v : ExecStateView). v.chosen) c.self.view_is ∙ c.requires.free in
    let one = c.count_since.new.self in
    let two = c.take.new.self in
    let x0 = ready_job c.in-Some.job c.in-Some.arrival in
    let perm = IsPermutation-trans s.ready.front one.front (x0 ∷ two.front) c.count_since.ensures.front c.in-Some.ensures.rest in
    let same = c.in-Some.ensures.same ∙ ap (λ (r : ReadyJobsView BodyView). record r { front = two.front }) c.count_since.ensures.rest in
    subst (λ (o : Chosen). ExecInvariant (record s { ready = two; chosen = chosen_of x.played o })) (sym c.pick.ensures)
    (choose_keeps s c.in-Some.job c.in-Some.arrival two c.self.invariant free perm (ap (λ (r : ReadyJobsView BodyView). r.behind) same) (ap (λ (r : ReadyJobsView BodyView). r.arrived) same) c.in-Some.ensures.restorable)

pub returns-clause-some : goal.returns-clause-some
returns-clause-some c = λ log are.
    let x = c.self.inside in
    let s : ExecStateView = record { script = x.home.script; executor = x.home.executor; ready = x.ready; chosen = chosen_of x.played x.chosen; journal = x.journal; checkpoint = x.checkpoint.view; fields = x.played.fields.before } in
    let one = c.count_since.new.self in
    let two = c.take.new.self in
    let x0 = ready_job c.in-Some.job c.in-Some.arrival in
    let new : ExecStateView = record s { ready = two; chosen = chosen_of x.played c.pick.new.self } in
    let levels : two.levels ≡ one.levels = ap (λ (r : ReadyJobsView BodyView). r.levels) c.in-Some.ensures.same in
    let ready = two_steps s.ready one two c.count_since.ensures.rest c.in-Some.ensures.same in
    subst (λ (v : ExecStateView). Chooses log v new c.task-task.result) c.self.view_is (record {
      job = c.in-Some.job;
      arrival = c.in-Some.arrival;
      picks = record {
        given = c.args.given.now;
        levels = are;
        higher = subst (λ (ls : List ℕ). AreHigher s.ready.levels c.args.given.now ls) (sym levels) c.count_since.ensures.levels;
        first = subst (λ (ls : List ℕ). All (ComesFirst (takes_by_arrival (executor_kind s.script s.executor)) ls x0) s.ready.front) (sym levels)
            (subst (λ (b : Bool). All (ComesFirst b one.levels x0) s.ready.front) (c.takes_by_arrival-by_arrival.ensures ∙ ap takes_by_arrival (c.executor_kind.ensures ∙ ap (λ (v : ScriptView). executor_kind v c.executor.result.0) c.script.ensures ∙ ap (executor_kind x.home.script) c.executor.ensures)) (all_of c.takes_by_arrival-by_arrival.result one.levels x0 s.ready.front one.front c.count_since.ensures.front c.in-Some.ensures.first));
      };
      task_is = sym c.task-task.ensures;
      known = ltb-true 0 (level_at c.args.given.now c.task-task.result) (sym c.if-not-is_known.ensures);
      rest = IsPermutation-trans s.ready.front one.front (x0 ∷ two.front) c.count_since.ensures.front c.in-Some.ensures.rest;
      same = ap (λ (r : ReadyJobsView BodyView). record s { ready = r; chosen = new.chosen }) ready ∙ ap (λ (o : Chosen). record s { ready = record s.ready { front = two.front; levels = two.levels }; chosen = chosen_of x.played o }) c.pick.ensures;
    })
