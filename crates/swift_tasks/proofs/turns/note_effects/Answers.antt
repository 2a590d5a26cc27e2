use Rattle.swift_tasks.proofs.Prelude.{◌≡◌, ℕ, ◌+◌, ◌∙◌, refl, ap, sym, subst, suc, add-one, drop, arith, List, ◌∷◌, ◌++◌, append_assoc, reverse-reverse, Option, map, reverse, EffectView, ExitView, effect_view, effect_views, BodyView, Event, reserved_of, IsMade, JobFacts, effect_events, effect_jobs, log_after, jobs_made, CanTake, CanTakeAll, AreBodiesOf, job_facts}
use Rattle.std.proofs.Common.{append-nil}
use Rattle.swift_tasks.proofs.Grows.{effect_grows}
use Rattle.swift_tasks.proofs.EffectsTaken.{drop_at, none_left, take_first, take_rest, take_none, last_first, first_body, rest_bodies}
use Rattle.swift_tasks.proofs.turns.note_effects.Goals as goal

pub note_effect-requires-clause-take : goal.note_effect-requires-clause-take
note_effect-requires-clause-take c =
    let es = c.args.effects.now in
    let k : ℕ = c.loop-effect.effect-index in
    let roots : ℕ = c.args.ledger.now.roots in
    let log : List Event = c.loop-effect.ledger.log in
    let bodies : List (Option BodyView) = reverse c.loop-effect.bodies.items in
    let at : effect_views (drop k es) ≡ effect_view c.effect-item.result ∷ effect_views (drop (suc k) es) = ap effect_views (drop_at es k c.effect-item.result c.loop-effect-test.true c.effect-item.is) in
    let exit : ExitView = c.requires.take.0 in
    let can = subst (λ (vs : List EffectView). CanTakeAll roots c.args.task.0 log vs bodies exit) at (c.loop-effect.invariant.take exit c.requires.take.1) in
    subst (λ (r : ℕ). CanTake r c.args.task.0 log (effect_view c.effect-item.result)) (sym c.loop-effect.invariant.roots) (take_first roots c.args.task.0 log (effect_view c.effect-item.result) (effect_views (drop (suc k) es)) bodies exit can)

pub loop-effect-preserved : goal.loop-effect-preserved
loop-effect-preserved c =
    let es = c.args.effects.now in
    let k : ℕ = c.loop-effect.effect-index in
    let t : ℕ = c.args.task.0 in
    let roots : ℕ = c.args.ledger.now.roots in
    let log : List Event = c.loop-effect.ledger.log in
    let e : EffectView = effect_view c.effect-item.result in
    let next : List EffectView = effect_views (drop (suc k) es) in
    let at : effect_views (drop k es) ≡ e ∷ next = ap effect_views (drop_at es k c.effect-item.result c.loop-effect-test.true c.effect-item.is) in
    let one : effect_views (drop (k + 1) es) ≡ next = ap (λ (n : ℕ). effect_views (drop n es)) (add-one k) in
    let bs : List (Option BodyView) = reverse c.pop.new.self.items in
    let b : Option BodyView = c.in-Some.body in
    let popped : reverse c.loop-effect.bodies.items ≡ b ∷ bs = last_first c.pop.new.self.items c.loop-effect.bodies.items b c.in-Some.ensures.items in
    let same : c.loop-effect.ledger.roots ≡ roots = c.loop-effect.invariant.roots in
    let more : c.note_effect.new.ledger.log ≡ log ++ effect_events roots t c.args.own log e = c.note_effect.ensures.log ∙ ap (λ (r : ℕ). log ++ effect_events r t c.args.own log e) same in
    let room : reserved_of roots (log ++ effect_events roots t c.args.own log e) ≡ reserved_of roots log =
    sym (ap (reserved_of roots) more) ∙ ap (λ (r : ℕ). reserved_of r c.note_effect.new.ledger.log) (sym (c.note_effect.ensures.roots ∙ same)) ∙ c.note_effect.ensures.reserved ∙ ap (λ (r : ℕ). reserved_of r log) same in
    record {
      roots = c.note_effect.ensures.roots ∙ same;
      mine = subst (λ (l : List Event). IsMade l c.args.task) (sym more) ((effect_grows roots t c.args.own log e).stays.made t c.loop-effect.invariant.mine);
      take = λ exit can.
          (let was = subst (λ (vs : List EffectView). CanTakeAll roots t log vs (reverse c.loop-effect.bodies.items) exit) at (c.loop-effect.invariant.take exit can) in
          let whole = subst (λ (xs : List (Option BodyView)). CanTakeAll roots t log (e ∷ next) xs exit) popped was in
          let rest = take_rest roots t c.args.own log e next b bs exit room whole in
          subst (λ (vs : List EffectView). CanTakeAll roots t c.note_effect.new.ledger.log vs bs exit) (sym one) (subst (λ (l : List Event). CanTakeAll roots t l next bs exit) (sym more) rest));
      log = ap (λ (vs : List EffectView). log_after roots t c.args.own c.note_effect.new.ledger.log vs) one
          ∙ ap (λ (l : List Event). log_after roots t c.args.own l next) more
          ∙ sym (ap (λ (vs : List EffectView). log_after roots t c.args.own log vs) at)
          ∙ c.loop-effect.invariant.log;
      spare = (let a = c.loop-effect.invariant.spare in let d = c.note_effect.ensures.spare in omega (arith, a, d));
      started = λ script are.
          (let was = subst (λ (vs : List EffectView). AreBodiesOf script vs (reverse c.loop-effect.bodies.items)) at (c.loop-effect.invariant.started script are) in
          subst (λ (vs : List EffectView). AreBodiesOf script vs bs) (sym one) (rest_bodies script e next b bs (subst (AreBodiesOf script (e ∷ next)) popped was)));
      jobs = λ script are count.
          (let was = subst (λ (vs : List EffectView). AreBodiesOf script vs (reverse c.loop-effect.bodies.items)) at (c.loop-effect.invariant.started script are) in
          let this = first_body script e next b bs (subst (AreBodiesOf script (e ∷ next)) popped was) in
          let added = c.note_effect.ensures.jobs script this (count ∙ sym same) in
          let before : List JobFacts = map job_facts c.loop-effect.jobs.items in
          let log' : List Event = log ++ effect_events roots t c.args.own log e in
          let unrolled : jobs_made script t c.args.own log (effect_views (drop k es)) ≡ effect_jobs script t log e ++ jobs_made script t c.args.own log' next =
          ap (jobs_made script t c.args.own log) at ∙ ap (λ (r : ℕ). effect_jobs script t log e ++ jobs_made script t c.args.own (log ++ effect_events r t c.args.own log e) next) count in
          ap (λ (js : List JobFacts). js ++ jobs_made script t c.args.own c.note_effect.new.ledger.log (effect_views (drop (k + 1) es))) added
          ∙ ap (λ (vs : List EffectView). (before ++ effect_jobs script t log e) ++ jobs_made script t c.args.own c.note_effect.new.ledger.log vs) one
          ∙ ap (λ (l : List Event). (before ++ effect_jobs script t log e) ++ jobs_made script t c.args.own l next) more
          ∙ append_assoc before (effect_jobs script t log e) (jobs_made script t c.args.own log' next)
          ∙ sym (ap (λ (js : List JobFacts). before ++ js) unrolled)
          ∙ c.loop-effect.invariant.jobs script are count);
      bodies = λ script are all.
          (let was = subst (λ (vs : List EffectView). AreBodiesOf script vs (reverse c.loop-effect.bodies.items)) at (c.loop-effect.invariant.started script are) in
          c.note_effect.ensures.bodies script (first_body script e next b bs (subst (AreBodiesOf script (e ∷ next)) popped was)) (c.loop-effect.invariant.bodies script are all));
      few = (let a = c.loop-effect.invariant.few in let d = c.note_effect.ensures.few in omega (arith, a, d));
      capacity = c.note_effect.ensures.capacity ∙ c.loop-effect.invariant.capacity;
    }

pub returns-clause-leave : goal.returns-clause-leave
returns-clause-leave c = λ exit can.
    let none = none_left c.args.effects.now c.loop-effect.effect-index (omega (arith, c.loop-effect-test.false, c.loop-effect.auto.effect-index-end)) in
    take_none c.args.ledger.now.roots c.args.task.0 c.loop-effect.ledger.log (reverse c.loop-effect.bodies.items) exit (subst (λ (vs : List EffectView). CanTakeAll c.args.ledger.now.roots c.args.task.0 c.loop-effect.ledger.log vs (reverse c.loop-effect.bodies.items) exit) none (c.loop-effect.invariant.take exit can))

pub returns-clause-log : goal.returns-clause-log
returns-clause-log c =
    let none = none_left c.args.effects.now c.loop-effect.effect-index (omega (arith, c.loop-effect-test.false, c.loop-effect.auto.effect-index-end)) in
    sym (ap (λ (vs : List EffectView). log_after c.args.ledger.now.roots c.args.task.0 c.args.own c.loop-effect.ledger.log vs) none) ∙ c.loop-effect.invariant.log

pub returns-clause-jobs : goal.returns-clause-jobs
returns-clause-jobs c = λ script are count.
    let none = none_left c.args.effects.now c.loop-effect.effect-index (omega (arith, c.loop-effect-test.false, c.loop-effect.auto.effect-index-end)) in
    let js : List JobFacts = map job_facts c.loop-effect.jobs.items in
    sym (append-nil js) ∙ (sym (ap (λ (vs : List EffectView). js ++ jobs_made script c.args.task.0 c.args.own c.loop-effect.ledger.log vs) none) ∙ c.loop-effect.invariant.jobs script are count)

pub returns-clause-bodies : goal.returns-clause-bodies
returns-clause-bodies c = c.loop-effect.invariant.bodies

pub loop-effect-init : goal.loop-effect-init
loop-effect-init c =
    let bodies = c.args.bodies.items in
    let back : reverse c.reverse.new.self.items ≡ bodies = ap reverse c.reverse.ensures.items ∙ reverse-reverse bodies in
    record {
      roots = refl;
      mine = c.requires.mine;
      take = λ exit can. subst (λ (bs : List (Option BodyView)). CanTakeAll c.args.ledger.now.roots c.args.task.0 c.args.ledger.now.log (effect_views c.args.effects.now) bs exit) (sym back) can;
      log = refl;
      spare = omega arith;
      started = λ script are. subst (λ (bs : List (Option BodyView)). AreBodiesOf script (effect_views c.args.effects.now) bs) (sym back) are;
      jobs = λ script are count. refl;
      bodies = λ script are all. all;
      few = omega arith;
      capacity = refl;
    }

pub note_effect-requires-clause-body : goal.note_effect-requires-clause-body
note_effect-requires-clause-body c =
    let es = c.args.effects.now in
    let k : ℕ = c.loop-effect.effect-index in
    let roots : ℕ = c.args.ledger.now.roots in
    let log : List Event = c.loop-effect.ledger.log in
    let e : EffectView = effect_view c.effect-item.result in
    let next : List EffectView = effect_views (drop (suc k) es) in
    let at : effect_views (drop k es) ≡ e ∷ next = ap effect_views (drop_at es k c.effect-item.result c.loop-effect-test.true c.effect-item.is) in
    let exit : ExitView = c.requires.take.0 in
    let can = subst (λ (vs : List EffectView). CanTakeAll roots c.args.task.0 log vs (reverse c.loop-effect.bodies.items) exit) at (c.loop-effect.invariant.take exit c.requires.take.1) in
    let bs : List (Option BodyView) = reverse c.pop.new.self.items in
    let b : Option BodyView = c.in-Some.body in
    let popped : reverse c.loop-effect.bodies.items ≡ b ∷ bs = last_first c.pop.new.self.items c.loop-effect.bodies.items b c.in-Some.ensures.items in
    (can.script, first_body can.script e next b bs (subst (AreBodiesOf can.script (e ∷ next)) popped can.started))

pub note_effect-requires-clause-room : goal.note_effect-requires-clause-room
note_effect-requires-clause-room c = omega (arith, c.loop-effect.invariant.few, c.loop-effect.invariant.capacity, c.requires.room, c.loop-effect-test.true)

pub note_effect-requires-clause-spare : goal.note_effect-requires-clause-spare
note_effect-requires-clause-spare c = omega (arith, c.loop-effect.invariant.spare, c.requires.spare, c.loop-effect-test.true)
