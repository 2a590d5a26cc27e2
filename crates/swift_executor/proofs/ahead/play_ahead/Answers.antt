use Rattle.swift_executor.proofs.Prelude.{◌≡◌, None, map, ap, sym, subst, ◌∙◌, job_facts, ExecStateView, HasChosen, PutsBack, Plays, TakenView, taken_of, IsOfBook, ChoosesAhead, RunsAhead, begun_as, StaysWhole}
use Rattle.swift_executor.proofs.PlayedAhead.{begins_as, picked_stage, picks, plays_ahead, ran_ahead, stays_ahead, unplayed}
use Rattle.swift_executor.proofs.SeatKept.{ahead_knows}
use Rattle.swift_executor.proofs.Visits.{is_played, seat_of_book}
use Rattle.swift_executor.proofs.ahead.play_ahead.Goals as goal

pub assume-requires : goal.assume-requires
assume-requires g c = picks _ c.choose_ahead.new.self c.in-Some.task c.in-Some.ensures.some

pub play-requires : goal.play-requires
play-requires g c = begins_as c.choose_ahead.new.self c.args.worker c.assume.new.self c.assume.ensures

pub commit-requires-clause-played : goal.commit-requires-clause-played
commit-requires-clause-played g c = is_played c.assume.new.self c.play.new.self c.in-Ok.ensures.ok

pub commit-requires-clause-seat : goal.commit-requires-clause-seat
commit-requires-clause-seat g c =
    let x = c.held.inside in
    let r = taken_of x.state x.taker x.seat x.is_orderly in
    let b = c.args.book.now in
    let of = subst (IsOfBook b) (sym c.held.view_is) c.requires.book in
    seat_of_book b r of c.held.invariant.is_of.2

pub commit-requires-clause-script : goal.commit-requires-clause-script
commit-requires-clause-script g c =
    let x = c.held.inside in
    let b = c.args.book.now in
    let of = subst (IsOfBook b) (sym c.held.view_is) c.requires.book in
    let s = c.choose_ahead.new.self in
    let task = c.in-Some.task in
    let ch : ChoosesAhead x.state s task = subst (λ (v : ExecStateView). ChoosesAhead v s task) c.goes_ahead.ensures c.in-Some.ensures.some in
    let u = c.assume.ensures in
    let was = picked_stage x.state s task u.0 ch u.1 in
    let pl = c.play.new.self in
    let plays : HasChosen (begun_as s u.0 c.args.worker u.2.0) (Plays (begun_as s u.0 c.args.worker u.2.0) pl) = subst (λ (v : ExecStateView). HasChosen v (Plays v pl)) u.2.1 c.in-Ok.ensures.ok in
    let a = plays_ahead c.args.worker s u.0 u.2.0 pl u.1 was plays in
    of.1 ∙ sym (ap (λ (v : ExecStateView). v.script) a.plays.same ∙ ap (λ (v : ExecStateView). v.script) ch.same)

pub commit-requires-clause-ahead : goal.commit-requires-clause-ahead
commit-requires-clause-ahead g c =
    let x = c.held.inside in
    let free : x.state.chosen ≡ None = ap (λ (v : TakenView). v.state.chosen) c.held.view_is ∙ c.requires.free in
    let s = c.choose_ahead.new.self in
    let task = c.in-Some.task in
    let ch : ChoosesAhead x.state s task = subst (λ (v : ExecStateView). ChoosesAhead v s task) c.goes_ahead.ensures c.in-Some.ensures.some in
    let u = c.assume.ensures in
    let was = picked_stage x.state s task u.0 ch u.1 in
    let pl = c.play.new.self in
    let plays : HasChosen (begun_as s u.0 c.args.worker u.2.0) (Plays (begun_as s u.0 c.args.worker u.2.0) pl) = subst (λ (v : ExecStateView). HasChosen v (Plays v pl)) u.2.1 c.in-Ok.ensures.ok in
    let a = plays_ahead c.args.worker s u.0 u.2.0 pl u.1 was plays in
    record { was = s; chosen = u.0; plays = a; known = ahead_knows task x.state s x.seat c.held.invariant.is_of.2 free ch }

pub invariant_of-held-2 : goal.invariant_of-held-2
invariant_of-held-2 g c =
    let x = c.held.inside in
    let r = taken_of x.state x.taker x.seat x.is_orderly in
    let b = c.args.book.now in
    let of = subst (IsOfBook b) (sym c.held.view_is) c.requires.book in
    let free : x.state.chosen ≡ None = ap (λ (v : TakenView). v.state.chosen) c.held.view_is ∙ c.requires.free in
    let s = c.choose_ahead.new.self in
    let task = c.in-Some.task in
    let ch : ChoosesAhead x.state s task = subst (λ (v : ExecStateView). ChoosesAhead v s task) c.goes_ahead.ensures c.in-Some.ensures.some in
    let u = c.assume.ensures in
    let was = picked_stage x.state s task u.0 ch u.1 in
    let pl = c.play.new.self in
    let plays : HasChosen (begun_as s u.0 c.args.worker u.2.0) (Plays (begun_as s u.0 c.args.worker u.2.0) pl) = subst (λ (v : ExecStateView). HasChosen v (Plays v pl)) u.2.1 c.in-Ok.ensures.ok in
    let a = plays_ahead c.args.worker s u.0 u.2.0 pl u.1 was plays in
    let d = c.commit.ensures.done in
    (ran_ahead r c.held.invariant free task s ch c.args.worker u.0 pl a b of d.0 d.1 (map job_facts c.args.jobs.now.jobs) (map job_facts c.commit.new.jobs.jobs) c.commit.new.seat c.commit.new.is_orderly c.commit.new.self c.commit.result d.2).together

pub returns-clause-done : goal.returns-clause-done
returns-clause-done g c =
    let x = c.held.inside in
    let r = taken_of x.state x.taker x.seat x.is_orderly in
    let b = c.args.book.now in
    let of = subst (IsOfBook b) (sym c.held.view_is) c.requires.book in
    let free : x.state.chosen ≡ None = ap (λ (v : TakenView). v.state.chosen) c.held.view_is ∙ c.requires.free in
    let s = c.choose_ahead.new.self in
    let task = c.in-Some.task in
    let ch : ChoosesAhead x.state s task = subst (λ (v : ExecStateView). ChoosesAhead v s task) c.goes_ahead.ensures c.in-Some.ensures.some in
    let u = c.assume.ensures in
    let was = picked_stage x.state s task u.0 ch u.1 in
    let pl = c.play.new.self in
    let plays : HasChosen (begun_as s u.0 c.args.worker u.2.0) (Plays (begun_as s u.0 c.args.worker u.2.0) pl) = subst (λ (v : ExecStateView). HasChosen v (Plays v pl)) u.2.1 c.in-Ok.ensures.ok in
    let a = plays_ahead c.args.worker s u.0 u.2.0 pl u.1 was plays in
    let d = c.commit.ensures.done in
    let all = ran_ahead r c.held.invariant free task s ch c.args.worker u.0 pl a b of d.0 d.1 (map job_facts c.args.jobs.now.jobs) (map job_facts c.commit.new.jobs.jobs) c.commit.new.seat c.commit.new.is_orderly c.commit.new.self c.commit.result d.2 in
    subst (λ (v : TakenView). RunsAhead c.args.worker (map job_facts c.args.jobs.now.jobs) (map job_facts c.commit.new.jobs.jobs) v (taken_of c.commit.new.self x.taker c.commit.new.seat c.commit.new.is_orderly) c.commit.result) c.held.view_is all.does

pub invariant_of-held-in_default-play : goal.invariant_of-held-in_default-play
invariant_of-held-in_default-play g c =
    let x = c.held.inside in
    let r = taken_of x.state x.taker x.seat x.is_orderly in
    let free : x.state.chosen ≡ None = ap (λ (v : TakenView). v.state.chosen) c.held.view_is ∙ c.requires.free in
    let s = c.choose_ahead.new.self in
    let task = c.in-Some.task in
    let ch : ChoosesAhead x.state s task = subst (λ (v : ExecStateView). ChoosesAhead v s task) c.goes_ahead.ensures c.in-Some.ensures.some in
    let u = c.assume.ensures in
    let was = picked_stage x.state s task u.0 ch u.1 in
    let back = unplayed r c.held.invariant free task s ch c.args.worker u.2.0 u.0 c.play.new.self u.1 was (subst (λ (v : ExecStateView). HasChosen v (PutsBack v c.play.new.self)) u.2.1 c.in_default-play.ensures.back) in
    (stays_ahead r c.held.invariant free task s ch c.play.new.self x.is_orderly back (λ e. e)).together

pub returns-in_default-play-clause-done : goal.returns-in_default-play-clause-done
returns-in_default-play-clause-done g c =
    let x = c.held.inside in
    let r = taken_of x.state x.taker x.seat x.is_orderly in
    let free : x.state.chosen ≡ None = ap (λ (v : TakenView). v.state.chosen) c.held.view_is ∙ c.requires.free in
    let s = c.choose_ahead.new.self in
    let task = c.in-Some.task in
    let ch : ChoosesAhead x.state s task = subst (λ (v : ExecStateView). ChoosesAhead v s task) c.goes_ahead.ensures c.in-Some.ensures.some in
    let u = c.assume.ensures in
    let was = picked_stage x.state s task u.0 ch u.1 in
    let back = unplayed r c.held.invariant free task s ch c.args.worker u.2.0 u.0 c.play.new.self u.1 was (subst (λ (v : ExecStateView). HasChosen v (PutsBack v c.play.new.self)) u.2.1 c.in_default-play.ensures.back) in
    let d = stays_ahead r c.held.invariant free task s ch c.play.new.self x.is_orderly back (λ e. e) in
    subst (λ (v : TakenView). StaysWhole v (taken_of c.play.new.self x.taker x.seat x.is_orderly)) c.held.view_is (record { stays = d.does; is_of = λ y. d.together.is_of })
