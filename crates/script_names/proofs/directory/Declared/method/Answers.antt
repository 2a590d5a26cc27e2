use Rattle.script_names.proofs.Prelude.{◌≡◌, ℕ, subst, IfOk, IfSome, place_of, method_key, DirectoryView, method_place}
use Rattle.script_names.proofs.directory.Declared.method.Goals as goal

pub returns-in-Some-clause-place : goal.returns-in-Some-clause-place
returns-in-Some-clause-place c =
    subst (λ (d : DirectoryView). IfOk c.place-in-Some.result (λ o. IfSome o (λ n. n ≡ method_place d c.args.actor.now c.args.method.now))) c.self.view_is
    (subst (λ (k : ℕ). IfOk c.place-in-Some.result (λ o. IfSome o (λ n. n ≡ place_of c.self.inside.methods (method_key k c.args.method.now)))) c.in-Some.ensures.place c.place-in-Some.ensures.place)
