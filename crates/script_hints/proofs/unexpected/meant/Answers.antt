use Rattle.script_hints.proofs.Told.{hint_is}
use Rattle.script_hints.specs.Helps.{HelpsUnexpected, keyword}
use Rattle.script_hints.proofs.unexpected.meant.Goals as goal

pub returns : goal.returns
returns c = hint_is (HelpsUnexpected c.args.blamed) _ c.of.result c.keyword_text.result (keyword c.args.keyword) c.keyword_text.ensures c.of.ensures
