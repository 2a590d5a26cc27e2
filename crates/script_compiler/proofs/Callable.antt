-- A call whose names are in order is of a method that is there.
use Rattle.script_compiler.proofs.Prelude.{◌≡◌, ◌<◌, ℕ, suc, ◌+◌, Bool, true, false, cond, List, [], ◌∷◌, length, Some, None, ap, refl, sym, ◌∙◌, arith, ◌||◌, not, ◌==◌, if◌then◌else◌, slice_get, and_parts, eqb-true, Unknown, Arguments, is_among, place_of, DirectoryView, key_of, has_method, method_place, arity_of, at_name, target_error, IsDeclaredCall}
use Rattle.std.specs.Str.{bytes_eq}
use Rattle.std.proofs.lemmas.Slice.Eq.{bytes_eq-Decides}
use Rattle.script_compiler.proofs.Clear.{at_name_none}

place_first : (b : Bool) (k : ℕ) (l : ℕ) → (b ≡ false → k < l) → cond (not b) (1 + k) 0 < suc l
place_first true k l h = omega arith
place_first false k l h = omega (arith, h refl)

rest_has : (b r : Bool) → (b || r) ≡ true → b ≡ false → r ≡ true
rest_has true r e n = absurd (cc)
rest_has false r e n = e

-- the place of a name that is one of these
pub place_within : (names : List (List ℕ)) (w : List ℕ) → is_among names w ≡ true → place_of names w < length names
place_within [] w e = absurd (cc)
place_within (n ∷ names) w e = place_first (bytes_eq w n) (place_of names w) (length names) (λ no_match. place_within names w (rest_has (bytes_eq w n) (is_among names w) e no_match))

found_first : (w n : List ℕ) (names : List (List ℕ)) (b : Bool) (k : ℕ) → (b ≡ true → w ≡ n) → (b ≡ false → slice_get names k ≡ Some w) → slice_get (n ∷ names) (cond (not b) (1 + k) 0) ≡ Some w
found_first w n names true k same rest = ap Some (sym (same refl))
found_first w n names false k same rest =
    let after : 1 + k ≡ suc k = omega arith in
    ap (slice_get (n ∷ names)) after ∙ rest refl

-- the name at that place
pub found_there : (names : List (List ℕ)) (w : List ℕ) → is_among names w ≡ true → slice_get names (place_of names w) ≡ Some w
found_there [] w e = absurd (cc)
found_there (n ∷ names) w e =
    found_first w n names (bytes_eq w n) (place_of names w) (λ same. (bytes_eq-Decides w n).0 same) (λ no_match. found_there names w (rest_has (bytes_eq w n) (is_among names w) e no_match))

there : (d : DirectoryView) (actor method : List ℕ) (count at : ℕ) (b : Bool) → (if b then at_name (suc at) (if has_method d actor method then (if arity_of d actor method == count then None else Some Arguments) else Some Unknown) else at_name at (Some Unknown)) ≡ None → at_name (suc at) (if has_method d actor method then (if arity_of d actor method == count then None else Some Arguments) else Some Unknown) ≡ None
there d actor method count at true e = e
there d actor method count at false e = absurd (cc)

has_both : (b c : Bool) → (if b then (if c then None else Some Arguments) else Some Unknown) ≡ None → (b ≡ true) × (c ≡ true)
has_both true true e = (refl, refl)
has_both true false e = absurd (cc)
has_both false c e = absurd (cc)

pub has_and_fits : (d : DirectoryView) (at : ℕ) (actor method : List ℕ) (count : ℕ) → target_error d at actor method count ≡ None → (has_method d actor method ≡ true) × (arity_of d actor method ≡ count)
has_and_fits d at actor method count e =
    let both = has_both (has_method d actor method) (arity_of d actor method == count) (at_name_none (suc at) _ (there d actor method count at (is_among d.actors actor) e)) in
    (both.0, eqb-true (arity_of d actor method) count both.1)

-- the method of an actor, at its place
pub method_found : (d : DirectoryView) (actor method : List ℕ) → has_method d actor method ≡ true → slice_get d.methods (method_place d actor method) ≡ Some (key_of d actor method)
method_found d actor method e = found_there d.methods (key_of d actor method) (and_parts _ _ e).1

pub callable : (d : DirectoryView) (at : ℕ) (actor method : List ℕ) (count : ℕ) → target_error d at actor method count ≡ None → IsDeclaredCall d (place_of d.actors actor) (method_place d actor method) count
callable d at actor method count e =
    let both = has_and_fits d at actor method count e in
    let among = and_parts (is_among d.actors actor) (is_among d.methods (key_of d actor method)) both.0 in
    record {
      actor_there = place_within d.actors actor among.0;
      method_there = place_within d.methods (key_of d actor method) among.1;
      of_actor = (method, method_found d actor method both.0);
      arity = sym both.1;
    }
