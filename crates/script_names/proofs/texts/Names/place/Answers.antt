use Rattle.script_names.proofs.Prelude.{ℕ, List, refl, ap, ◌∙◌, text_is, is_among}
use Rattle.script_names.proofs.Keys.{any_text, index_place}
use Rattle.script_names.proofs.texts.Names.place.Goals as goal

pub returns-in_default-clause-found : goal.returns-in_default-clause-found
returns-in_default-clause-found c = c.get_index_of.ensures.found ∙ any_text text_is _ c.args.name.now (λ k. refl) c.self.inside.set.keys ∙ ap (λ (ns : List (List ℕ)). is_among ns c.args.name.now) c.self.view_is

pub returns-in_default-clause-place : goal.returns-in_default-clause-place
returns-in_default-clause-place c = index_place text_is _ c.args.name.now (λ k. refl) c.self.inside.set.keys c.args.self.now c.get_index_of.result c.get_index_of.ensures.index c.self.view_is
