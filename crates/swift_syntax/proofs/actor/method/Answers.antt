use Rattle.swift_syntax.proofs.Methods.{method_declares}
use Rattle.swift_syntax.proofs.actor.method.Goals as goal

pub returns : goal.returns
returns c = method_declares c.args.reader.now c.method_head-head.new.reader c.method_body-body.new.reader c.test_of-test.new.reader c.perhaps_invariant.new.reader c.put_method.new.reader c.method_head-head.ensures c.method_body-body.ensures.spelled c.method_body-body.ensures.extends c.saturating_sub-end.ensures c.test_of-test.ensures.says c.test_of-test.ensures.same c.test_of-test.ensures.grows c.perhaps_invariant.ensures c.put_method.ensures
