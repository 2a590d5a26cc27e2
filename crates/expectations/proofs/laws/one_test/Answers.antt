use Rattle.expectations.proofs.OneReading.{one_test}
use Rattle.expectations.proofs.laws.one_test.Goals as goal

pub returns : goal.returns
returns c = one_test
