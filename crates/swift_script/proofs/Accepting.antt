-- What is accepted is read.
use Rattle.swift_script.proofs.Prelude.{◌≡◌, ℕ, true, false, List, Result, Ok, Err, inl, inr, sym, ap, subst, refl, ◌∙◌, arith, IfOk, IfErr, TokenView, unique, DeclTree, IsScript, NESTING, NameErrorKind, names_error, ScriptView, script_in, ScriptFaultKind, SpellsDecls, Spells, IsAccepted, first_false, RootWaits, HasError, StartsFalse, HasWaitingRoot, Refuses}
use Rattle.script_parser.proofs.Whole.{one}
use Rattle.swift_script.specs.declared.fault.ScriptFault.{ScriptFault}
use Rattle.swift_script.specs.declared.fault.ScriptFaultKind.TheVariants as kind
use Rattle.swift_script.specs.Answers.{IsReadAs}

-- a text spells one list of declarations, whatever the limits
pub same_decls : (m n : ℕ) (text : List ℕ) (xs ys : List DeclTree) → SpellsDecls m text xs → SpellsDecls n text ys → xs ≡ ys
same_decls m n text xs ys d e =
    let same : d.pieces ≡ e.pieces = unique e.pieces d.lexed e.lexed in
    one m n e.pieces xs ys (subst (λ (ps : List TokenView). IsScript m ps xs) same d.spelled) e.spelled

-- and one tree
pub same_spelled : (m n : ℕ) (text : List ℕ) (s t : ScriptView) → Spells m text s → Spells n text t → s ≡ t
same_spelled m n text s t d e = d.is ∙ ap script_in (same_decls m n text d.decls e.decls d.spelled e.spelled) ∙ sym e.is

pub same_accepted : (text : List ℕ) (s t : ScriptView) → IsAccepted text s → IsAccepted text t → s ≡ t
same_accepted text s t a b = a.is ∙ ap script_in (same_decls NESTING NESTING text a.decls b.decls a.spelled b.spelled) ∙ sym b.is

-- an accepted tree is the one of what is spelled
tree_again : (text : List ℕ) (t : ScriptView) (decls : List DeclTree) → IsAccepted text t → SpellsDecls NESTING text decls → script_in decls ≡ t
tree_again text t decls a s = ap script_in (same_decls NESTING NESTING text decls a.decls s a.spelled) ∙ sym a.is

no_error : (text : List ℕ) (t : ScriptView) (k : NameErrorKind) → IsAccepted text t → HasError text k → ⊥
no_error text t k a f =
    let clash = sym f.first ∙ ap names_error (same_decls NESTING NESTING text f.decls a.decls f.spelled a.spelled) ∙ a.names in
    cc

no_false_start : (text : List ℕ) (t : ScriptView) → IsAccepted text t → StartsFalse text → ⊥
no_false_start text t a f =
    let clash = sym f.first ∙ ap first_false (tree_again text t f.decls a f.spelled) ∙ a.starts in
    cc

no_waiting_root : (text : List ℕ) (t : ScriptView) → IsAccepted text t → HasWaitingRoot text → ⊥
no_waiting_root text t a f = a.waits f.root (subst (λ (s : ScriptView). RootWaits s f.root) (tree_again text t f.decls a f.spelled) f.waits)

not_refused : (text : List ℕ) (t : ScriptView) (k : ScriptFaultKind) → IsAccepted text t → Refuses k text → k ≡ kind.Memory
not_refused text t kind.NotText a r = let clash : false ≡ true = sym r.1 ∙ a.plain.bytes in absurd cc
not_refused text t kind.Unexpected a r = absurd (r.none a.decls a.spelled)
not_refused text t kind.OutOfRange a r = absurd (r.none a.decls a.spelled)
not_refused text t kind.NameTwice a r = absurd (no_error text t _ a r)
not_refused text t kind.UnknownName a r = absurd (no_error text t _ a r)
not_refused text t kind.Arguments a r = absurd (no_error text t _ a r)
not_refused text t kind.Confused a r = absurd (no_error text t _ a r)
not_refused text t kind.InvariantFalse a r = absurd (no_false_start text t a r)
not_refused text t kind.BoundInside a r = absurd (no_error text t _ a r)
not_refused text t kind.RootWaits a r = absurd (no_waiting_root text t a r)
not_refused text t kind.LimitPassed a (inl long) = absurd (omega (arith, long, a.plain.short))
not_refused text t kind.LimitPassed a (inr (inl e)) = absurd (no_error text t _ a e)
not_refused text t kind.LimitPassed a (inr (inr e)) = absurd (no_error text t _ a e)
not_refused text t kind.EndsEarly a r = absurd (r.none a.decls a.spelled)
not_refused text t kind.TooDeep a r = absurd (r.none a.decls a.spelled)
not_refused text t kind.Memory a r = refl

pub is_accepted : (text : List ℕ) (r : Result ScriptView ScriptFault) → IfOk r (λ s. IsAccepted text s) → IfErr r (λ e. Refuses e.kind text) → (tree : ScriptView) → IsAccepted text tree → IsReadAs tree r
is_accepted text (Ok s) found refused tree a = same_accepted text s tree found a
is_accepted text (Err e) found refused tree a = not_refused text tree e.kind a refused
