use Rattle.script_compiler.proofs.Prelude.{◌≡◌, ℕ, None, Some, ◌++◌, ◌∷◌, [], Option, ap, ◌∙◌, arith, length, set, get_or_read, last_of}
use Rattle.script_compiler.proofs.Chains.{pushes}
use Rattle.script_compiler.proofs.waits.lists.MethodLists.push.Goals as goal

pub returns : goal.returns
returns c =
    let before : c.index-before.result.now ≡ last_of c.args.self.now c.args.list =
    get_or_read c.args.self.now.last.items c.args.list c.index-before.result.now c.requires.list c.index-before.ensures None in
    let place : c.len-place.result ≡ length c.args.self.now.entries.items = omega arith in
    pushes c.args.self.now _ c.args.list c.args.method c.requires.orderly c.requires.list
    (c.in_ok-push.ensures.items ∙ ap (λ (o : Option ℕ). c.args.self.now.entries.items ++ (record { method = c.args.method; before = o }) ∷ []) before)
    (ap (λ (n : ℕ). set c.args.self.now.last.items c.args.list (Some n)) place)
