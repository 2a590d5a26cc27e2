-- Words with the tokens that they name, byte by byte.
use Rattle.std.proofs.Common.{◌≡◌, ℕ, ◌+◌, ◌<◌, Bool, Option, List, ◌++◌, length, get_or, drop, append_assoc, add-one, drop-cons, append-nil, ◌≤◌, sym, ◌∙◌}
use Rattle.std.proofs.lemmas.List.{drop_all}
use Rattle.script_context.specs.declared.blamed.Blamed.{Blamed}
use Rattle.script_hints.specs.Spelled.{filled, is_dollar, said}

-- one byte more
pub filled_on : (ws : List ℕ) (i : ℕ) (n m : Bool) (b : Blamed) (a : Option ℕ) (old new whole : List ℕ) → i < length ws → new ≡ old ++ said n b a (get_or ws i 0) → m ≡ is_dollar n (get_or ws i 0) → old ++ filled (drop i ws) n b a ≡ whole → new ++ filled (drop (i + 1) ws) m b a ≡ whole
filled_on ws i n m b a old new whole lt is_new is_m before = rw (is_new, is_m, append_assoc, add-one) (rw (drop-cons ws i 0) at before)

-- no byte more
pub filled_end : (ws : List ℕ) (i : ℕ) (n : Bool) (b : Blamed) (a : Option ℕ) (text whole : List ℕ) → length ws ≤ i → text ++ filled (drop i ws) n b a ≡ whole → text ≡ whole
filled_end ws i n b a text whole ge is = sym (append-nil text) ∙ (rw (drop_all i ws ge) at is)
