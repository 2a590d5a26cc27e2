use Rattle.swift_executor.proofs.Prelude.{◌≡◌, sym, subst, ap, ◌∙◌, ExecStateView, HasChosen, Plays, PutsBack, begun_as, ChoosesAhead, PlaysAhead}
use Rattle.swift_executor.specs.AsideInside.{IsShuffled, PlaysAside, SetsAside}
use Rattle.swift_executor.proofs.PlayedAhead.{begins_as, picks}
use Rattle.swift_executor.proofs.Shuffled.{played_ahead, played_shuffled, unplayed_shuffled}
use Rattle.swift_executor.proofs.batch.play_aside.Goals as goal

pub assume-requires : goal.assume-requires
assume-requires c = picks _ c.choose_ahead.new.self c.in-Some.task c.in-Some.ensures.some

pub play-requires : goal.play-requires
play-requires c = begins_as c.choose_ahead.new.self c.args.worker c.assume.new.self c.assume.ensures

pub returns-in_default-play-clause-none : goal.returns-in_default-play-clause-none
returns-in_default-play-clause-none c = λ e. (
    let u = c.assume.ensures in
    unplayed_shuffled c.args.state.now c.choose_ahead.new.self c.requires.free c.in-Some.task c.in-Some.ensures.some u.0 c.args.worker u.2.0 c.play.new.self u.1
    (subst (λ (v : ExecStateView). HasChosen v (PutsBack v c.play.new.self)) u.2.1 c.in_default-play.ensures.back) c.facts-in_default-play.ensures.keeps
    )

pub returns-then-set_aside-clause-plays : goal.returns-then-set_aside-clause-plays
returns-then-set_aside-clause-plays c = λ e. (
    let u = c.assume.ensures in
    let s = c.choose_ahead.new.self in
    let plays : HasChosen (begun_as s u.0 c.args.worker u.2.0) (Plays (begun_as s u.0 c.args.worker u.2.0) c.play.new.self) = subst (λ (v : ExecStateView). HasChosen v (Plays v c.play.new.self)) u.2.1 c.in-Ok.ensures.ok in
    let a = played_ahead c.args.state.now s c.in-Some.task c.in-Some.ensures.some u.0 c.args.worker u.2.0 c.play.new.self u.1 plays in
    let sets : SetsAside c.play.new.self c.set_aside.new.self c.set_aside.new.aside = c.set_aside.ensures.yes c.if-set_aside.true in
    let all : PlaysAside c.args.worker c.args.state.now c.set_aside.new.aside c.set_aside.new.self = record {
      task = c.in-Some.task;
      picked = s;
      chooses = c.in-Some.ensures.some;
      chosen = u.0;
      played = c.play.new.self;
      plays = a;
      sets = sets;
      free = c.requires.free;
      keeps = c.facts-2.ensures.keeps;
    }
    in
    all
    )

pub returns-clause-none : goal.returns-clause-none
returns-clause-none c = λ e. (
    let u = c.assume.ensures in
    let s = c.choose_ahead.new.self in
    let plays : HasChosen (begun_as s u.0 c.args.worker u.2.0) (Plays (begun_as s u.0 c.args.worker u.2.0) c.play.new.self) = subst (λ (v : ExecStateView). HasChosen v (Plays v c.play.new.self)) u.2.1 c.in-Ok.ensures.ok in
    let a : PlaysAhead s c.args.worker u.0 c.play.new.self = played_ahead c.args.state.now s c.in-Some.task c.in-Some.ensures.some u.0 c.args.worker u.2.0 c.play.new.self u.1 plays in
    let same : c.set_aside.new.self ≡ c.play.new.self = c.set_aside.ensures.no c.if-set_aside.false in
    played_shuffled c.args.state.now s c.requires.free c.in-Some.task c.in-Some.ensures.some u.0 c.args.worker c.play.new.self a c.put_back.new.self
    (subst (λ (v : ExecStateView). HasChosen v (PutsBack v c.put_back.new.self)) same c.put_back.ensures) c.facts-3.ensures.keeps
    )
