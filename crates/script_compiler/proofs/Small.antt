-- Sizes, one thing after the other; and a script that is no larger than its text has few methods.
use Rattle.script_compiler.proofs.Prelude.{◌≡◌, ◌≤◌, ◌<◌, ◌+◌, ℕ, suc, List, [], ◌∷◌, length, map, drop, get_or, ap, arith, length-append, AllZip, length-map, BYTES, Method, view_method, DeclTree, Executes, Binds, Acts, Roots, method_size, methods_size, script_size, script_in, PlanView, Compiled, method_of, methods_from, compiled_by, IsCompiled}
use Rattle.script_compiler.proofs.Room.{few_in}
use Rattle.script_compiler.proofs.Steps.{front}

-- the next of some methods, and those after it
pub method_next : (ms : List Method) (i : ℕ) (m : Method) → i < length ms → m ≡ get_or ms i m
    → methods_size (map view_method (drop i ms)) ≡ method_size (view_method m) + methods_size (map view_method (drop (i + 1) ms))
method_next ms i m h is = ap (λ (xs : List Method). methods_size (map view_method xs)) (front ms i m h is)

-- two lists that agree are as long
as_long : {A B : Type 0} (R : A → B → Type 0) (xs : List A) (ys : List B) → AllZip R xs ys → length xs ≡ length ys
as_long R [] [] h = omega arith
as_long R [] (y ∷ ys) h = absurd h
as_long R (x ∷ xs) [] h = absurd h
as_long R (x ∷ xs) (y ∷ ys) h = ap suc (as_long R xs ys h.1)

few : (p : PlanView) (k : ℕ) (xs : List DeclTree) → length (methods_from p k (script_in xs).actors) ≤ script_size xs
few p k [] = omega arith
few p k (Executes x ∷ xs) = omega (arith, few p k xs)
few p k (Binds l ∷ xs) = omega (arith, few p k xs)
few p k (Acts a ∷ xs) =
    omega (arith, few p (suc k) xs, few_in a.methods, length-map a.methods (method_of p k), length-append (map (method_of p k) a.methods) (methods_from p (suc k) (script_in xs).actors))
few p k (Roots r ∷ xs) = omega (arith, few p k xs)

-- the methods of a script that is compiled
pub methods_are_few : (c : Compiled) (p : PlanView) (xs : List DeclTree) → IsCompiled c (compiled_by p (script_in xs)) → script_size xs ≤ BYTES → length c.methods.items ≤ BYTES
methods_are_few c p xs is h = omega (arith, h, few p 0 xs, as_long _ c.methods.items (methods_from p 0 (script_in xs).actors) is.methods)
