-- What follows where there is a value.
use Rattle.nuchapay_runs.proofs.Prelude.{IfSome, Option, Some, None}

pub if_some : {A : Type 0} {P Q : A → Type 0} (o : Option A) → ((v : A) → P v → Q v) → IfSome o P → IfSome o Q
if_some (Some v) then given = then v given
if_some None then given = given
