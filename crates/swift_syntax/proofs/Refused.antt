-- What refusals say of readers.
use Rattle.std.proofs.Common.{◌≡◌, true, false, Option, sym, subst, ◌∙◌}
use Rattle.std.specs.Prelude.{IsNone, IsSome}
use Rattle.std.proofs.lemmas.Bool.{false≢true}
use Rattle.swift_syntax.specs.declared.reader.Reader.{Reader}
use Rattle.swift_syntax.specs.ReadersInside.{Grows, taken}
use Rattle.swift_syntax.proofs.Grown.{grows_same}

-- a refusal that is there is not missing
pub clash : {A B : Type 0} (o : Option A) → IsNone o → IsSome o → B
clash o n s = let x : false ≡ true = sym n ∙ s in absurd (false≢true x)

grows_of_taken : (r : Reader) → Grows r (taken r)
grows_of_taken r =
    let g = grows_same r in
    record { refused = g.refused; text = g.text; tokens = g.tokens; declared = g.declared; stmts = g.stmts; more = g.more; exprs = g.exprs; more_arguments = g.more_arguments; arguments = g.arguments }

pub grows_taken : {r s : Reader} → s ≡ taken r → Grows r s
grows_taken {r} e = subst (λ s. Grows r s) (sym e) (grows_of_taken r)
