-- What follows where an answer is Ok.
use Rattle.run_pictures.proofs.Prelude.{IfOk, OnOk, Result, Ok, Err}

pub on_ok : {A B P Q : Type 0} (r : Result A B) → (P → Q) → OnOk r P → OnOk r Q
on_ok (Ok v) then given = then given
on_ok (Err e) then given = given

pub if_ok : {A B : Type 0} {P Q : A → Type 0} (r : Result A B) → ((v : A) → P v → Q v) → IfOk r P → IfOk r Q
if_ok (Ok v) then given = then v given
if_ok (Err e) then given = given
