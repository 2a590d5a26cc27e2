-- Declarations by their kinds.
use Rattle.swift_script.proofs.Prelude.{◌≡◌, List, [], ◌∷◌, ◌++◌, map, refl, sym, ap, ◌∙◌, map_push, Decl, DeclTree, Executes, Binds, Acts, Roots, view_decl, ScriptView, with_decl, script_in, with_last}

last_of_none : (d : DeclTree) → with_decl d (script_in []) ≡ with_last d (script_in [])
last_of_none (Executes x) = refl
last_of_none (Binds l) = refl
last_of_none (Acts a) = refl
last_of_none (Roots r) = refl

first_and_last : (c d : DeclTree) (s : ScriptView) → with_decl c (with_last d s) ≡ with_last d (with_decl c s)
first_and_last (Executes x) (Executes y) s = refl
first_and_last (Executes x) (Binds l) s = refl
first_and_last (Executes x) (Acts a) s = refl
first_and_last (Executes x) (Roots r) s = refl
first_and_last (Binds l) (Executes y) s = refl
first_and_last (Binds l) (Binds m) s = refl
first_and_last (Binds l) (Acts a) s = refl
first_and_last (Binds l) (Roots r) s = refl
first_and_last (Acts a) (Executes y) s = refl
first_and_last (Acts a) (Binds m) s = refl
first_and_last (Acts a) (Acts b) s = refl
first_and_last (Acts a) (Roots r) s = refl
first_and_last (Roots r) (Executes y) s = refl
first_and_last (Roots r) (Binds m) s = refl
first_and_last (Roots r) (Acts b) s = refl
first_and_last (Roots r) (Roots q) s = refl

-- one more declaration at the end of the text
pub script_push : (ds : List DeclTree) (d : DeclTree) → script_in (ds ++ d ∷ []) ≡ with_last d (script_in ds)
script_push [] d = last_of_none d
script_push (c ∷ ds) d = ap (with_decl c) (script_push ds d) ∙ first_and_last c d (script_in ds)

-- one more declaration of the code, at the end of those that are seen
pub one_more : (seen : List Decl) (d : Decl) (t u : ScriptView) → t ≡ script_in (map view_decl seen) → u ≡ with_last (view_decl d) t → u ≡ script_in (map view_decl (seen ++ d ∷ []))
one_more seen d t u e pushed = pushed ∙ ap (with_last (view_decl d)) e ∙ sym (script_push (map view_decl seen) (view_decl d)) ∙ ap script_in (sym (map_push view_decl seen d))
