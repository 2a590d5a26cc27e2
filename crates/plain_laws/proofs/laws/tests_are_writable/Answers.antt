use Rattle.plain_laws.proofs.Tests.{test_writable}
use Rattle.plain_laws.proofs.laws.tests_are_writable.Goals as goal

pub returns : goal.returns
returns c = λ f e writable. test_writable f e writable
