use Rattle.swift_journal.proofs.Prelude.{◌<◌, List, ◌++◌, length, refl, sym, ap, subst, ◌∙◌, arith, append-nil, take_all, effect_views, EffectView, Effect, effects_of, skip_effects, effects_words, since, ReadsBack}
use Rattle.swift_journal.proofs.EffectsReadBack.{none_read_back, effects_written_more, effects_read_back_more}
use Rattle.swift_journal.proofs.Gained.{since_start, since_push, kept_push, kept_same}
use Rattle.swift_journal.proofs.effects.write_effects.Goals as goal

pub loop-effect-preserved : goal.loop-effect-preserved
loop-effect-preserved c =
    let es = c.args.effects.now in
    let k = c.loop-effect.effect-index in
    let e = c.effect-item.result in
    let h : k < length es = omega arith in
    let list = c.loop-effect.invariant.list in
    record {
      before = c.in_ok-stored.ensures.before ∙ c.loop-effect.invariant.before;
      list = kept_push _ _ _ _ list c.in_ok-push.ensures.items;
      words = effects_written_more es k e _ _ _ h c.effect-item.is c.loop-effect.invariant.words c.in_ok-stored.ensures.words;
      reads_back = effects_read_back_more es k e _ _ c.in_ok-stored.stored h c.effect-item.is (since_push _ _ _ _ list c.in_ok-push.ensures.items) c.loop-effect.invariant.reads_back c.in_ok-stored.ensures.reads_back;
    }

pub returns-clause-words : goal.returns-clause-words
returns-clause-words c =
    c.loop-effect.invariant.words ∙ ap (λ (es : List Effect). c.args.words.now.written ++ effects_words es) (take_all c.loop-effect.effect-index c.args.effects.now (omega (arith, c.loop-effect-test.false)))

pub returns-clause-reads_back : goal.returns-clause-reads_back
returns-clause-reads_back c =
    subst (λ (es : List Effect). ReadsBack (List EffectView) (effects_of (since c.args.list.now.items c.loop-effect.list.items)) (skip_effects (since c.args.list.now.items c.loop-effect.list.items)) (effects_words es) (effect_views es))
    (take_all c.loop-effect.effect-index c.args.effects.now (omega (arith, c.loop-effect-test.false))) c.loop-effect.invariant.reads_back

pub loop-effect-init : goal.loop-effect-init
loop-effect-init c = record {
  before = refl;
  list = since_start c.args.list.now.items;
  words = sym (append-nil c.args.words.now.written);
  reads_back = none_read_back c.args.list.now.items;
}

pub returns-in_err-stored-clause-list : goal.returns-in_err-stored-clause-list
returns-in_err-stored-clause-list c = c.loop-effect.invariant.list

pub returns-in_err-push-clause-list : goal.returns-in_err-push-clause-list
returns-in_err-push-clause-list c = kept_same _ _ _ c.in_err-push.ensures.items c.loop-effect.invariant.list

pub returns-clause-list : goal.returns-clause-list
returns-clause-list c = c.loop-effect.invariant.list
