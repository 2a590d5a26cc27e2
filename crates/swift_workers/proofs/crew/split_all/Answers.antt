use Rattle.swift_workers.proofs.Prelude.{◌<◌, List, [], ◌∷◌, ◌++◌, length, refl, sym, subst, take, slice_get_read, DeskView, ExecView, IsDeskOf, AreDesksOf}
use Rattle.swift_workers.proofs.Desks.{desk_at, desk_push, desk_set, take_next}
use Rattle.swift_workers.proofs.crew.split_all.Goals as goal

pub returns-in_err-push-clause-kept : goal.returns-in_err-push-clause-kept
returns-in_err-push-clause-kept c =
    let execs = c.args.execs.now in
    let desks = c.loop-place.desks.items in
    let k = c.loop-place.place in
    let e = c.index-execs-place.result in
    let d = c.index_mut.result.now in
    let old : IsDeskOf e d = desk_at execs desks k e d c.loop-place.invariant.kept c.loop-place-test.true c.index-execs-place.is c.index_mut.ensures.value in
    desk_set execs desks k e c.split.new.self c.loop-place.invariant.kept c.loop-place-test.true c.index-execs-place.is (subst (λ (x : DeskView). IsDeskOf e x) (sym c.split.ensures.kept) old)

pub loop-place-preserved : goal.loop-place-preserved
loop-place-preserved c =
    let execs = c.args.execs.now in
    let desks = c.loop-place.desks.items in
    let k = c.loop-place.place in
    let e = c.index-execs-place.result in
    let d = c.index_mut.result.now in
    let lt : k < length execs = c.loop-place-test.true in
    let old : IsDeskOf e d = desk_at execs desks k e d c.loop-place.invariant.kept lt c.index-execs-place.is c.index_mut.ensures.value in
    let other : IsDeskOf e c.split.result = subst (λ (x : DeskView). IsDeskOf e x) (sym c.split.ensures.new) old in
    let more = take_next execs k e (slice_get_read execs (length execs) k e refl lt c.index-execs-place.is) in
    record {
      kept = desk_set execs desks k e c.split.new.self c.loop-place.invariant.kept lt c.index-execs-place.is (subst (λ (x : DeskView). IsDeskOf e x) (sym c.split.ensures.kept) old);
      others = subst (λ (xs : List ExecView). AreDesksOf xs c.push.new.self.items) (sym more)
          (subst (λ (ds : List DeskView). AreDesksOf (take k execs ++ e ∷ []) ds) (sym c.in_ok-push.ensures.items) (desk_push (take k execs) c.loop-place.others.items e c.split.result c.loop-place.invariant.others other));
    }
