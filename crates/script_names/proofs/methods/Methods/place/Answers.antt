use Rattle.script_names.proofs.Prelude.{◌≡◌, ℕ, List, refl, ap, subst, ◌∙◌, IfSome, is_among, place_of, key_is}
use Rattle.script_names.proofs.Keys.{any_text, index_place}
use Rattle.script_names.proofs.methods.Methods.place.Goals as goal

pub returns-clause-found : goal.returns-clause-found
returns-clause-found c =
    let key = c.in_ok-key.key in
    c.get_index_of.ensures.found ∙ any_text key_is _ (key_is key) (λ k. refl) c.self.inside.set.keys ∙ ap (λ (ns : List (List ℕ)). is_among ns (key_is key)) c.self.view_is ∙ ap (is_among c.args.self.now) c.in_ok-key.ensures

pub returns-clause-place : goal.returns-clause-place
returns-clause-place c =
    subst (λ (w : List ℕ). IfSome c.get_index_of.result (λ n. n ≡ place_of c.args.self.now w)) c.in_ok-key.ensures
    (index_place key_is _ (key_is c.in_ok-key.key) (λ k. refl) c.self.inside.set.keys c.args.self.now c.get_index_of.result c.get_index_of.ensures.index c.self.view_is)
