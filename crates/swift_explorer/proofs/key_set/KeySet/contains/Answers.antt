use Rattle.swift_explorer.proofs.Prelude.{ap, ◌∙◌, list_any, bytes_eq}
use Rattle.swift_explorer.proofs.KeySets.{any_bytes}
use Rattle.swift_explorer.proofs.key_set.KeySet.contains.Goals as goal

pub returns : goal.returns
returns c = c.contains.ensures ∙ any_bytes c.args.key.now.bytes.items c.self.inside.set.keys ∙ ap (list_any (bytes_eq c.args.key.now.bytes.items)) c.self.view_is
