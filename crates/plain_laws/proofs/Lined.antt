-- Lines of statements consist of their tokens.
use Rattle.plain_laws.proofs.Prelude.{Rest, IsName, IsWritable, expr_bytes, ExprTree, ℕ, zero, suc, ◌<◌, ◌^◌, Bool, true, false, List, [], ◌∷◌, ◌++◌, length, codes, refl, sym, subst, ◌∙◌, append_assoc, after, Token}
use Rattle.plain_parts.specs.Pages.{indent}
use Rattle.swift_syntax.specs.declared.sign.Sign.TheVariants as sign
use Rattle.swift_syntax.specs.declared.token.TokenKind.TheVariants as kind
use Rattle.swift_syntax.specs.declared.word.Word.TheVariants as word
use Rattle.plain_laws.specs.Lines.{EndsLine, IsAssignReadBack, IsLetReadBack, IsReturnReadBack, RestOn, assign_line, let_line, return_line, value_end}
use Rattle.plain_laws.proofs.Fronts.{assign_front, line_front, space_front, spelt_front}
use Rattle.plain_laws.proofs.Lexed.{expr_lexed, name_lexed, writable_plain}
use Rattle.plain_laws.proofs.Steps.{behind_line, behind_space, step}
use Rattle.plain_laws.proofs.Trees.{reads}

-- a space before a token leaves its line
on_space : {line : Bool} {text : List ℕ} {tokens : List Token} {i : ℕ} (bs : List ℕ) → RestOn line text tokens i (32 ∷ bs) → RestOn line text tokens i bs
on_space bs r = record { rest = record { line = r.rest.line; space = true; before = r.rest.before ++ (32 ∷ []); whole = r.rest.whole ∙ sym (append_assoc r.rest.before (32 ∷ []) bs); stands = behind_space (space_front bs) r.rest.stands }; is = r.is }

-- the next line begins behind its end
on_line : {text : List ℕ} {tokens : List Token} {i : ℕ} (bs : List ℕ) → Rest text tokens i (10 ∷ bs) → RestOn true text tokens i bs
on_line bs r = record { rest = record { line = true; space = true; before = r.before ++ (10 ∷ []); whole = r.whole ∙ sym (append_assoc r.before (10 ∷ []) bs); stands = behind_line (line_front bs) r.stands }; is = refl }

-- so do the spaces before a line
on_indent : {line : Bool} {text : List ℕ} {tokens : List Token} {i : ℕ} (d : ℕ) (bs : List ℕ) → RestOn line text tokens i (indent d ++ bs) → RestOn line text tokens i bs
on_indent zero bs r = r
on_indent (suc d) bs r = on_indent d bs (on_space (indent d ++ bs) (on_space (32 ∷ (indent d ++ bs)) (on_space (32 ∷ 32 ∷ (indent d ++ bs)) (on_space (32 ∷ 32 ∷ 32 ∷ (indent d ++ bs)) r))))

-- where a statement begins that stands behind an indent
begun_at : {text : List ℕ} {tokens : List Token} {i : ℕ} (d : ℕ) (w rest : List ℕ) → Rest text tokens i ((indent d ++ w) ++ rest) → Rest text tokens i (w ++ rest)
begun_at {text} {tokens} {i} d w rest r =
    let s : Rest text tokens i (indent d ++ (w ++ rest)) = subst (λ x. Rest text tokens i x) (append_assoc (indent d) w rest) r in
    (on_indent {line = s.line} d (w ++ rest) (record { rest = s; is = refl })).rest

-- an expression up to the end of its line
value_lined : {text : List ℕ} {tokens : List Token} {i : ℕ} (f : List ℕ → List ℕ) (e : ExprTree) (rest : List ℕ) → length tokens < 2 ^ 64 → IsWritable f e → RestOn false text tokens i (value_end f e ++ rest) → EndsLine text tokens f e i rest
value_lined {text} {tokens} {i} f e rest long writable here =
    let l = expr_lexed f e 5 (10 ∷ rest) long writable refl (subst (λ x. Rest text tokens i x) (append_assoc (expr_bytes f e 5) (10 ∷ []) rest) here.rest) in
    record { end = l.end; here = here; next = on_line rest l.next; read = λ to tree ends spelled. reads text tokens f e i l.end to tree (writable_plain f e writable) l.told ends spelled }

pub return_lined : {text : List ℕ} {tokens : List Token} {i : ℕ} (f : List ℕ → List ℕ) (d : ℕ) (e : ExprTree) (rest : List ℕ) → length tokens < 2 ^ 64 → IsWritable f e → Rest text tokens i (return_line f d e ++ rest) → IsReturnReadBack text tokens f e i rest
return_lined {text} {tokens} {i} f d e rest long writable r =
    let b : Rest text tokens i (codes "return " ++ (value_end f e ++ rest)) = begun_at d (codes "return " ++ value_end f e) rest r in
    let t = step 114 (codes "eturn") (32 ∷ (value_end f e ++ rest)) (kind.Key word.Return) long (spelt_front (codes "return") (32 ∷ (value_end f e ++ rest)) refl refl refl) b in
    record { begins = t.kind; value = value_lined f e rest long writable (on_space (value_end f e ++ rest) (record { rest = t.next; is = t.same_line })) }

-- a name, `=` and an expression
set_lined : {text : List ℕ} {tokens : List Token} {i : ℕ} (f : List ℕ → List ℕ) (w : List ℕ) (e : ExprTree) (rest : List ℕ) → length tokens < 2 ^ 64 → IsName (f w) → IsWritable f e → Rest text tokens i ((f w ++ (codes " = " ++ value_end f e)) ++ rest) → IsAssignReadBack text tokens f w e i rest
set_lined {text} {tokens} {i} f w e rest long named writable r =
    let n = name_lexed (f w) (codes " = " ++ (value_end f e ++ rest)) long named refl (subst (λ x. Rest text tokens i x) (append_assoc (f w) (codes " = " ++ value_end f e) rest) r) in
    let m : Rest text tokens (after i) (codes " = " ++ (value_end f e ++ rest)) = subst (λ x. Rest text tokens x (codes " = " ++ (value_end f e ++ rest))) (sym n.told.1) n.next in
    let a = on_space {line = m.line} (codes "= " ++ (value_end f e ++ rest)) (record { rest = m; is = refl }) in
    let t = step 61 [] (32 ∷ (value_end f e ++ rest)) (kind.Sign sign.Assign) long (assign_front (value_end f e ++ rest)) a.rest in
    record { name = n.told.0; sets = t.kind; value = value_lined f e rest long writable (on_space (value_end f e ++ rest) (record { rest = t.next; is = t.same_line })) }

pub assign_lined : {text : List ℕ} {tokens : List Token} {i : ℕ} (f : List ℕ → List ℕ) (d : ℕ) (w : List ℕ) (e : ExprTree) (rest : List ℕ) → length tokens < 2 ^ 64 → IsName (f w) → IsWritable f e → Rest text tokens i (assign_line f d w e ++ rest) → IsAssignReadBack text tokens f w e i rest
assign_lined f d w e rest long named writable r = set_lined f w e rest long named writable (begun_at d (f w ++ (codes " = " ++ value_end f e)) rest r)

pub let_lined : {text : List ℕ} {tokens : List Token} {i : ℕ} (f : List ℕ → List ℕ) (is_var : Bool) (d : ℕ) (w : List ℕ) (e : ExprTree) (rest : List ℕ) → length tokens < 2 ^ 64 → IsName (f w) → IsWritable f e → Rest text tokens i (let_line f is_var d w e ++ rest) → IsLetReadBack text tokens f is_var w e i rest
let_lined {text} {tokens} {i} f true d w e rest long named writable r =
    let s = (f w ++ (codes " = " ++ value_end f e)) ++ rest in
    let b : Rest text tokens i (codes "var " ++ s) = begun_at d (codes "var " ++ (f w ++ (codes " = " ++ value_end f e))) rest r in
    let t = step 118 (codes "ar") (32 ∷ s) (kind.Key word.Var) long (spelt_front (codes "var") (32 ∷ s) refl refl refl) b in
    record { begins = t.kind; sets = set_lined f w e rest long named writable (on_space {line = false} s (record { rest = t.next; is = t.same_line })).rest }
let_lined {text} {tokens} {i} f false d w e rest long named writable r =
    let s = (f w ++ (codes " = " ++ value_end f e)) ++ rest in
    let b : Rest text tokens i (codes "let " ++ s) = begun_at d (codes "let " ++ (f w ++ (codes " = " ++ value_end f e))) rest r in
    let t = step 108 (codes "et") (32 ∷ s) (kind.Key word.Let) long (spelt_front (codes "let") (32 ∷ s) refl refl refl) b in
    record { begins = t.kind; sets = set_lined f w e rest long named writable (on_space {line = false} s (record { rest = t.next; is = t.same_line })).rest }
