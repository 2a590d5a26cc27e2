-- An error of a declaration is that of the declarations from it on, and theirs is that of the script.
use Rattle.script_names.proofs.Prelude.{◌≡◌, ◌<◌, ℕ, suc, List, [], ◌∷◌, drop, map, length, get_or, sym, ap, subst, ◌∙◌, Option, drop-cons, DeclTree, view_decl, NameError, DirectoryView, directory_of, SeenView, earlier, past_decl, decl_error, seen_after, declarations_error, names_error}
use Rattle.script_grammar.specs.declared.declaration.Decl.{Decl}
use Rattle.script_names.specs.declared.error.CheckError.{CheckError}
use Rattle.script_names.specs.declared.error.CheckError.TheVariants as errors
use Rattle.script_names.specs.Finds.{IsError}

error_is_earlier : (e : CheckError) (f g : Option NameError) → IsError e f → IsError e (earlier f g)
error_is_earlier errors.Memory f g q = tt
error_is_earlier (errors.Name m) f g q = ap (λ (x : Option NameError). earlier x g) q

pub declaration_fails : (d : DirectoryView) (seen : SeenView) (at : ℕ) (decls : List Decl) (i : ℕ) (x : Decl) (e : CheckError) (whole : Option NameError) → i < length decls → x ≡ get_or decls i x → declarations_error d seen at (map view_decl (drop i decls)) ≡ whole → IsError e (decl_error d seen at (view_decl x)) → IsError e whole
declaration_fails d seen at decls i x e whole within item rest fails =
    let rest_from : drop i decls ≡ x ∷ drop (suc i) decls = drop-cons decls i x within ∙ ap (λ (y : Decl). y ∷ drop (suc i) decls) (sym item) in
    let errors_are : earlier (decl_error d seen at (view_decl x)) (declarations_error d (seen_after seen (view_decl x)) (past_decl (view_decl x) at) (map view_decl (drop (suc i) decls))) ≡ whole = sym (ap (λ (xs : List Decl). declarations_error d seen at (map view_decl xs)) rest_from) ∙ rest in
    subst (IsError e) errors_are (error_is_earlier e _ _ fails)

pub script_fails : (d : DirectoryView) (decls : List DeclTree) (e : CheckError) → d ≡ directory_of decls → IsError e (declarations_error d (record { places = []; locals = []; roots = []; executors = 0; actors = 0 }) 0 decls) → IsError e (names_error decls)
script_fails d decls e same fails = subst (λ (x : DirectoryView). IsError e (declarations_error x (record { places = []; locals = []; roots = []; executors = 0; actors = 0 }) 0 decls)) same fails
