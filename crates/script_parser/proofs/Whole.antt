-- The laws of whole scripts.
use Rattle.script_parser.proofs.Prelude.{◌≡◌, ℕ, ◌+◌, List, [], length, Ok, Err, sym, ap, subst, ◌∙◌, arith, TokenView, ReadError, DeclTree, IsScript, NESTING, Fails, items_at, decl_at, decls_end, decls_at}
use Rattle.script_parser.specs.declared.fault.ReadError.TheVariants as errors
use Rattle.script_parser.specs.Answers.{IsReadAs, SpellsNothing}
use Rattle.script_parser.proofs.Steps.{ok_is}
use Rattle.script_parser.proofs.DeclarationsSound.{decls_take}
use Rattle.script_parser.proofs.DeclarationsComplete.{decls_again}
use Rattle.script_parser.proofs.WiderLimits.{script_more}

-- what was read is the one script that is spelled
pub same_tree : (limit : ℕ) (ts : List TokenView) (tree : List DeclTree) (x : List DeclTree × List TokenView) → IsScript limit ts tree → decls_at limit ts ≡ Ok x → x.0 ≡ tree
same_tree limit ts tree x d e = ap (λ (y : List DeclTree × List TokenView). y.0) (ok_is x (tree, []) (sym e ∙ decls_again limit ts tree d))

pub is_found : (ts : List TokenView) (x : List DeclTree × List TokenView) → decls_at NESTING ts ≡ Ok x → IsScript NESTING ts x.0
is_found ts x e = decls_take NESTING (omega arith) ts x e

pub fails_for_all : (ts : List TokenView) (e : ReadError) → Fails e (decls_at NESTING ts) → SpellsNothing ts e
fails_for_all ts errors.Memory given = tt
fails_for_all ts (errors.Fault f) given = λ tree d. let read = decls_again NESTING ts tree d in absurd cc

pub one : (m n : ℕ) (ts : List TokenView) (a b : List DeclTree) → IsScript m ts a → IsScript n ts b → a ≡ b
one m n ts a b da db =
    let wide = m + n in
    same_tree wide ts b (a, []) (script_more n wide (omega arith) ts b db) (decls_again wide ts a (script_more m wide (omega arith) ts a da))

-- a script, where `n` is the number of its tokens, as the code counts them
pub found_of : (n : ℕ) (ts : List TokenView) (x : List DeclTree) (rest : List TokenView) → n ≡ length ts → items_at decls_end (decl_at NESTING) (n + 1) ts ≡ Ok (x, rest) → IsScript NESTING ts x
found_of n ts x rest is e = is_found ts (x, rest) (ap (λ (k : ℕ). items_at decls_end (decl_at NESTING) (k + 1) ts) (sym is) ∙ e)

pub tree_of : (n : ℕ) (ts : List TokenView) (x : List DeclTree) (rest : List TokenView) → n ≡ length ts → items_at decls_end (decl_at NESTING) (n + 1) ts ≡ Ok (x, rest) → (tree : List DeclTree) → IsScript NESTING ts tree → x ≡ tree
tree_of n ts x rest is e tree d = same_tree NESTING ts tree (x, rest) d (ap (λ (k : ℕ). items_at decls_end (decl_at NESTING) (k + 1) ts) (sym is) ∙ e)

pub none_of : (n : ℕ) (ts : List TokenView) (e : ReadError) → n ≡ length ts → Fails e (items_at decls_end (decl_at NESTING) (n + 1) ts) → SpellsNothing ts e
none_of n ts e is given = fails_for_all ts e (subst (λ (k : ℕ). Fails e (items_at decls_end (decl_at NESTING) (k + 1) ts)) is given)

pub not_accepted : (ts : List TokenView) (tree : List DeclTree) (e : ReadError) → SpellsNothing ts e → IsScript NESTING ts tree → IsReadAs tree (Err e)
not_accepted ts tree errors.Memory given d = tt
not_accepted ts tree (errors.Fault f) given d = given tree d
