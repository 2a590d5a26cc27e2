use Rattle.script_names.proofs.Prelude.{ℕ, List, [], Option, sym, ap, ◌∙◌, unwrap_or, share_a_name}
use Rattle.script_names.proofs.Standing.{none_shared}
use Rattle.script_names.proofs.directory.Declared.has_field_among.Goals as goal

pub returns-in-None : goal.returns-in-None
returns-in-None c = sym (none_shared c.args.names.now) ∙ ap (λ (o : Option (List (List ℕ))). share_a_name (unwrap_or o []) c.args.names.now) c.in-None.ensures
