use Rattle.script_names.proofs.Prelude.{ap, sym, take, ◌∙◌, take-map, texts_of}
use Rattle.script_names.proofs.texts.Names.truncate.Goals as goal

pub returns : goal.returns
returns c = ap texts_of c.truncate.ensures.keys ∙ sym (take-map _ c.args.len c.self.inside.set.keys) ∙ ap (take c.args.len) c.self.view_is
