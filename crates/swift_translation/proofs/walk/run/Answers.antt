use Rattle.std.proofs.Common.{◌∙◌, arith, refl}
use Rattle.swift_translation.proofs.Bodies.{comes_to, goes_on, is_all, is_at_start, starts}
use Rattle.swift_translation.specs.Bodies.{starting}
use Rattle.swift_translation.specs.WritingInside.{progress_of}
use Rattle.swift_translation.proofs.walk.run.Goals as goal

pub loop-init : goal.loop-init
loop-init c = record {
  source = refl;
  text = starts c.args.out.now c.args.body.now.source (progress_of c.args.body.now) c.args.first;
  place = is_at_start c.args.out.now c.args.body.now.source (progress_of c.args.body.now) c.args.first;
}

pub loop-preserved : goal.loop-preserved
loop-preserved c =
    let start = starting (progress_of c.args.body.now) c.args.first in
    record {
      source = c.turn-next.ensures.source ∙ c.loop.invariant.source;
      text = goes_on c.args.out.now c.loop.out c.turn-next.new.out c.args.body.now.source c.loop.body.source start c.loop.counter (progress_of c.loop.body) c.in-Some.frame c.loop.next c.loop.invariant.source c.in-Some.is c.loop.invariant.text c.loop.invariant.place c.turn-next.ensures.text;
      place = comes_to c.loop.out c.turn-next.new.out c.args.body.now.source c.loop.body.source start c.loop.counter (progress_of c.loop.body) (progress_of c.turn-next.new.body) c.in-Some.frame c.loop.next c.turn-next.result c.loop.invariant.source c.in-Some.is c.loop.invariant.place (λ none. (c.turn-next.ensures.text none).0) c.turn-next.ensures.progress c.turn-next.ensures.next;
    }

pub returns-in_default : goal.returns-in_default
returns-in_default c =
    is_all c.args.out.now c.loop.out c.args.body.now.source (progress_of c.args.body.now) c.args.first c.loop.counter c.args.most (progress_of c.loop.body) c.loop.next (omega arith) c.in_default.is c.loop.invariant.text c.loop.invariant.place
