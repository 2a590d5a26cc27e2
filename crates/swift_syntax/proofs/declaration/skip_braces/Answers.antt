use Rattle.std.proofs.Common.{subst, sym}
use Rattle.swift_syntax.specs.Declarations.{SpellsBalanced}
use Rattle.swift_syntax.proofs.Grown.{extends_of, grows_on, grows_same}
use Rattle.swift_syntax.proofs.Refused.{clash}
use Rattle.swift_syntax.proofs.DeclaredRows.{balanced_at, balanced_on}
use Rattle.swift_syntax.proofs.Steps.{lexed_on}
use Rattle.swift_syntax.proofs.declaration.skip_braces.Goals as goal

pub loop-init : goal.loop-init
loop-init c = record { grows = grows_same c.args.reader.now; spelled = λ n j d. d }

pub loop-preserved : goal.loop-preserved
loop-preserved c =
    record {
      grows = grows_on c.loop.invariant.grows c.skip-depth.ensures.grows;
      spelled = λ n j d. c.loop.invariant.spelled (c.skip-depth.ensures.grows.refused n) j (balanced_on c.args.reader.now c.loop.reader c.skip-depth.new.reader c.loop.invariant.grows (c.skip-depth.ensures.taken n) c.skip-depth.ensures.depth c.if-depth-eq0.false d);
    }

pub returns-then-depth-eq0 : goal.returns-then-depth-eq0
returns-then-depth-eq0 c =
    let g = grows_on c.loop.invariant.grows c.skip-depth.ensures.grows in
    record {
      spelled = λ n.
          let last = balanced_at c.args.reader.now c.loop.reader c.skip-depth.new.reader c.loop.invariant.grows (c.skip-depth.ensures.taken n) c.skip-depth.ensures.depth c.if-depth-eq0.true in
          subst (λ l. SpellsBalanced l 0 c.args.reader.now.at c.skip-depth.new.reader.at) (sym (lexed_on _ _ (extends_of g))) (c.loop.invariant.spelled (c.skip-depth.ensures.grows.refused n) c.skip-depth.new.reader.at last);
      grows = g;
    }

pub returns : goal.returns
returns c = record { spelled = λ n. clash _ n c.unexpected.ensures.noted; grows = grows_on c.loop.invariant.grows c.unexpected.ensures.grows }
