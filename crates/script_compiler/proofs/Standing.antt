-- What stands at the beginning of a method.
use Rattle.script_compiler.proofs.Prelude.{◌≡◌, ℕ, List, map, ap, ◌∙◌, Name, Method, text_of, view_method, DirectoryView, ScopeView, fields_alone, with_parameters, PlanView}
use Rattle.script_compiler.specs.Methods.{method_scope}

pub method_standing : (p : PlanView) (d : DirectoryView) (k : ℕ) (m : Method) (params : List Name) (s t : ScopeView) → d ≡ p.directory → s ≡ fields_alone d k → params ≡ m.params.items
    → t ≡ with_parameters s (map text_of params) → t ≡ method_scope p k (view_method m)
method_standing p d k m params s t directory alone same after = after ∙ (λ i. with_parameters ((alone ∙ ap (λ (x : DirectoryView). fields_alone x k) directory) i) (map text_of (same i)))
