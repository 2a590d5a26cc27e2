use Rattle.swift_executor.proofs.Prelude.{◌≡◌, ◌≤◌, ◌<◌, List, length, take, refl, ap, sym, subst, ◌∙◌, arith, ExecStateView}
use Rattle.std.proofs.lemmas.List.{take-set}
use Rattle.std.specs.Prelude.{slice_set}
use Rattle.swift_executor.specs.declared.aside.Aside.{Aside}
use Rattle.swift_executor.specs.AsideInside.{PlayAside}
use Rattle.swift_executor.proofs.Batches.{PlayExactly, play_one_more, play_shuffled, same_shuffled, take_set_more}
use Rattle.swift_executor.proofs.batch.play_more.Goals as goal

pub loop-at-init : goal.loop-at-init
loop-at-init c = record { exact = refl; free = c.requires.free; kept = λ fact h. h }

pub play_aside-requires : goal.play_aside-requires
play_aside-requires c = record { free = c.loop-at.invariant.free }

pub returns-then-not-play_aside-clause-plays : goal.returns-then-not-play_aside-clause-plays
returns-then-not-play_aside-clause-plays c =
    let xs = c.loop-at.asides in
    let at = c.loop-at.at in
    subst (λ (ys : List Aside). PlayAside c.args.worker c.args.state.now ys c.play_aside.new.state) (sym (take-set xs at c.play_aside.new.aside))
    (play_shuffled c.args.worker c.args.state.now (take at xs) c.loop-at.state c.play_aside.new.state c.loop-at.invariant.exact (c.play_aside.ensures.none c.if-not-play_aside.true))

pub returns-then-not-play_aside-clause-kept : goal.returns-then-not-play_aside-clause-kept
returns-then-not-play_aside-clause-kept c = λ fact h. c.play_aside.ensures.kept fact (c.loop-at.invariant.kept fact h)

pub loop-at-preserved : goal.loop-at-preserved
loop-at-preserved c =
    let xs = c.loop-at.asides in
    let at = c.loop-at.at in
    let a = c.play_aside.new.aside in
    let plays = c.play_aside.ensures.plays c.if-not-play_aside.false in
    let test = c.loop-at-test.true in
    let most = c.requires.most in
    let len = c.loop-at.auto.asides in
    let lt : at < length xs = omega (arith, test, most, len) in
    record {
      exact = subst (λ (ys : List Aside). PlayExactly c.args.worker c.args.state.now ys c.play_aside.new.state) (sym (take_set_more xs at a lt))
          (play_one_more c.args.worker c.args.state.now (take at xs) c.loop-at.state a c.play_aside.new.state c.loop-at.invariant.exact plays);
      free = ap (λ (x : ExecStateView). x.chosen) plays.sets.new_is;
      kept = λ fact h. c.play_aside.ensures.kept fact (c.loop-at.invariant.kept fact h);
    }

pub returns-clause-plays : goal.returns-clause-plays
returns-clause-plays c =
    let xs = c.loop-at.asides in
    let at = c.loop-at.at in
    let test = c.loop-at-test.false in
    let end = c.loop-at.auto.at-end in
    let same : at ≡ c.args.most = omega (arith, test, end) in
    subst (λ n. PlayAside c.args.worker c.args.state.now (take n xs) c.loop-at.state) same
    (play_shuffled c.args.worker c.args.state.now (take at xs) c.loop-at.state c.loop-at.state c.loop-at.invariant.exact (same_shuffled c.loop-at.state c.facts.ensures.keeps))

pub returns-clause-kept : goal.returns-clause-kept
returns-clause-kept c = c.loop-at.invariant.kept
