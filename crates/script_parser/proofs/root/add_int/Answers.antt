use Rattle.script_parser.proofs.Prelude.{◌++◌, ◌∷◌, [], ℤ, ap, ◌∙◌, w64, to_z-of_z}
use Rattle.script_parser.proofs.root.add_int.Goals as goal

pub returns-clause-ok : goal.returns-clause-ok
returns-clause-ok c = c.in_ok-push.ensures.items ∙ ap (λ (z : ℤ). c.args.items.now.items ++ z ∷ []) (to_z-of_z w64 c.args.value c.ranges.value)
