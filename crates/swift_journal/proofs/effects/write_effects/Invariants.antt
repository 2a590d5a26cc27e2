use Rattle.swift_journal.proofs.Prelude.{◌≡◌, List, ◌++◌, take, effect_views, EffectView, effects_of, skip_effects, effects_words, since, ReadsBack}
use Rattle.swift_journal.proofs.effects.write_effects.Given as goal

abbrev pub invariant-loop-effect : goal.invariant-loop-effect
invariant-loop-effect l =
    let stored = since l.initial.list.items l.list.items in
    record {
      before : l.words.before ≡ l.initial.words.before;
      list : l.list.items ≡ l.initial.list.items ++ stored;
      words : l.words.written ≡ l.initial.words.written ++ effects_words (take l.effect-index l.effects);
      reads_back : ReadsBack (List EffectView) (effects_of stored) (skip_effects stored) (effects_words (take l.effect-index l.effects)) (effect_views (take l.effect-index l.effects));
    }
