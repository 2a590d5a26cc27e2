use Rattle.script_names.proofs.Prelude.{◌≡◌, ◌++◌, ◌∷◌, [], List, map, ℕ, Bool, cond, refl, ap, ◌∙◌, not, is_among, with_name, method_key, key_is}
use Rattle.script_names.proofs.Keys.{any_text, added_text}
use Rattle.script_names.proofs.methods.Methods.add.Goals as goal

pub returns-clause-new : goal.returns-clause-new
returns-clause-new c =
    let key = c.in_ok-key.key in
    c.in_ok-is_new.ensures.added ∙ ap not (any_text key_is _ (key_is key) (λ k. refl) c.self.inside.set.keys ∙ ap (λ (ns : List (List ℕ)). is_among ns (key_is key)) c.self.view_is ∙ ap (is_among c.args.self.now) c.in_ok-key.ensures)

pub returns-clause-added : goal.returns-clause-added
returns-clause-added c =
    let key = c.in_ok-key.key in
    let keys = c.self.inside.set.keys in
    let made : map key_is c.insert_full.new.self.keys ≡ with_name (map key_is keys) (key_is key) =
    ap (map key_is) c.in_ok-is_new.ensures.keys ∙ added_text key_is _ key keys ∙ ap (λ (b : Bool). cond b (map key_is keys) (map key_is keys ++ key_is key ∷ [])) (any_text key_is _ (key_is key) (λ k. refl) keys) in
    made ∙ ap (with_name (map key_is keys)) c.in_ok-key.ensures ∙ ap (λ (ns : List (List ℕ)). with_name ns (method_key c.args.actor c.args.name.now)) c.self.view_is
