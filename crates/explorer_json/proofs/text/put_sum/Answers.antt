use Rattle.explorer_json.proofs.Prelude.{codes, three_joined}
use Rattle.explorer_json.proofs.text.put_sum.Goals as goal

pub returns : goal.returns
returns c =
    three_joined c.say-3.result c.args.out.now.items c.say.new.out.items c.say-2.new.out.items c.say-3.new.out.items (codes ",\n\"script\":\"") c.args.sum.now (codes "\"") c.in_ok-say.ensures c.in_ok-say-2.ensures c.say-3.ensures
