-- A method that a script lacks has no statements, and is of the first actor.
use Rattle.run_pictures.proofs.Prelude.{◌≡◌, ℕ, ◌≤◌, zero, suc, Option, List, [], ◌∷◌, length, refl, sym, ap, subst, slice_get, Code, end, ScriptView, parts_of, no_method, method_actor, method_code, method_count}
use Rattle.std.specs.Prelude.{unwrap_or}
use Rattle.std.proofs.lemmas.Option.{slice_get_past}
use Rattle.script_code.specs.Instructions.{FollowsCode, first}
use Rattle.script_code.specs.Layout.{code_at}
use Rattle.script_compiler.specs.Compiled.{MethodView}

-- an element past the last
pub past : {X : Type 0} (xs : List X) (none : X) (k : ℕ) → length xs ≤ k → unwrap_or (slice_get xs k) none ≡ none
past xs none k out = ap (λ (o : Option _). unwrap_or o none) (slice_get_past xs k out)

pub no_actor : (p : ScriptView) (m : ℕ) → method_count p ≤ m → 0 ≡ method_actor p m
no_actor p m out = sym (ap (λ (x : MethodView). x.actor) (past (parts_of p).methods no_method m out))

-- each place after a single one
one_code : (k : ℕ) → unwrap_or (slice_get (end ∷ []) k) end ≡ end
one_code zero = refl
one_code (suc k) = refl

end_code : (k : ℕ) → code_at end k ≡ end
unfolding code_at
end_code k = one_code _

empty_follows : FollowsCode [] end (code_at end)
empty_follows = record {
  start = end_code 0;
  each = λ k. ap first (end_code k);
}

pub no_instructions : (p : ScriptView) (m : ℕ) → method_count p ≤ m → FollowsCode [] (method_code p m) (code_at (method_code p m))
no_instructions p m out =
    subst (λ (c : Code). FollowsCode [] c (code_at c)) (sym (ap (λ (x : MethodView). x.code) (past (parts_of p).methods no_method m out))) empty_follows
