use Rattle.script_names.proofs.Prelude.{ℕ, List, refl, ap, ◌∙◌, text_is, is_among}
use Rattle.script_names.proofs.Keys.{any_text}
use Rattle.script_names.proofs.texts.Names.contains.Goals as goal

pub returns-in_default : goal.returns-in_default
returns-in_default c = c.contains.ensures ∙ any_text text_is _ c.args.name.now (λ k. refl) c.self.inside.set.keys ∙ ap (λ (ns : List (List ℕ)). is_among ns c.args.name.now) c.self.view_is
