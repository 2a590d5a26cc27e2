use Rattle.script_names.proofs.Prelude.{◌≡◌, ◌++◌, ◌∷◌, [], List, ℕ, Bool, cond, refl, ap, ◌∙◌, bytes_eq, list_any, text_is, texts_of, with_name}
use Rattle.script_names.proofs.Keys.{any_text, place_text, added_text}
use Rattle.script_names.proofs.texts.Names.add.Goals as goal

pub returns-clause-place : goal.returns-clause-place
returns-clause-place c =
    rw (c.in_ok-place.ensures.index, c.in_ok-from_slice.ensures.items, ← c.self.view_is) (place_text text_is _ c.args.name.now (λ k. refl) c.self.inside.set.keys)

pub returns-clause-ok : goal.returns-clause-ok
returns-clause-ok c =
    let v = c.in_ok-from_slice.field-0 in
    let keys = c.self.inside.set.keys in
    let made : texts_of c.insert_full.new.self.keys ≡ cond (list_any (bytes_eq v.items) (texts_of keys)) (texts_of keys) (texts_of keys ++ v.items ∷ []) =
    ap texts_of c.in_ok-place.ensures.keys ∙ added_text text_is (list_any (λ k. bytes_eq v.items k.items) keys) v keys ∙ ap (λ (b : Bool). cond b (texts_of keys) (texts_of keys ++ v.items ∷ [])) (any_text text_is _ v.items (λ k. refl) keys) in
    made ∙ ap (λ (w : List ℕ). with_name (texts_of keys) w) c.in_ok-from_slice.ensures.items ∙ ap (λ (ns : List (List ℕ)). with_name ns c.args.name.now) c.self.view_is
