use Rattle.std.proofs.Common.{refl, subst, below_more}
use Rattle.script_hints.specs.Mistakes.{Meets}
use Rattle.script_hints.proofs.Told.{word_is}
use Rattle.script_hints.proofs.mistake.stand.Goals as goal

pub loop-number-preserved : goal.loop-number-preserved
loop-number-preserved c = below_more _ _ c.loop-number.invariant (subst (Meets c.args.blamed c.loop-number.number) (word_is c.args.words.now c.loop-number.number _ refl) (c.meets.ensures c.if-not-meets.false))
