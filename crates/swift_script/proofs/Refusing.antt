-- What a fault of the grammar, or an error of the names, says of a text, and which bytes it blames.
use Rattle.swift_script.proofs.Prelude.{◌≡◌, ℕ, ◌-◌, ◌≤◌, Option, Some, List, length, inl, inr, refl, sym, ap, subst, ◌∙◌, arith, BYTES, Tokens, Span, TokenView, unique, DeclTree, IsScript, NESTING, decls_at, NameErrorKind, names_error, ScriptFaultKind, SpellsDecls, IsPlain, SpellsNothing, HasError, Refuses, span_at, BlamesToken, BlamesName, Blames, pieces_of, AreKept, IsSpelled, grammar_kind, read_kind, read_span, names_kind, check_kind, check_span}
use Rattle.script_parser.specs.declared.fault.Kind.{Kind}
use Rattle.script_parser.specs.declared.fault.Kind.TheVariants as grammar
use Rattle.script_parser.specs.declared.fault.ReadError.{ReadError}
use Rattle.script_parser.specs.declared.fault.ReadError.TheVariants as reading
use Rattle.script_parser.specs.Answers.{IsFirstFault, SpellsNothing as NoneSpelled}
use Rattle.script_names.specs.declared.error.CheckError.{CheckError}
use Rattle.script_names.specs.declared.error.CheckError.TheVariants as naming
use Rattle.script_names.specs.declared.error.NameErrorKind.TheVariants as names
use Rattle.script_names.specs.Finds.{IsError}

-- a text spells what its tokens spell
pub spells : (text : List ℕ) (decls : List DeclTree) (kept : Tokens) → IsSpelled text decls kept → SpellsDecls NESTING text decls
spells text decls kept s = record { pieces = pieces_of kept; lexed = s.are_kept.are.lexed; spelled = s.spelled }

-- what blames equal bytes for an equal kind
pub moved : (text : List ℕ) (k k' : ScriptFaultKind) (span span' : Option Span) → k ≡ k' → span ≡ span' → Blames k' text span' → Blames k text span
moved text k k' span span' e f s = subst (λ (q : ScriptFaultKind). Blames q text span) (sym e) (subst (Blames k' text) (sym f) s)

of_grammar : (text : List ℕ) (k : Kind) → SpellsNothing text → Refuses (grammar_kind k) text
of_grammar text grammar.Unexpected none = none
of_grammar text grammar.OutOfRange none = none
of_grammar text grammar.EndsEarly none = none
of_grammar text grammar.TooDeep none = none

-- what the tokens of a text do not spell, the text does not spell
pub read_refused : (text : List ℕ) (pieces : List TokenView) (kept : Tokens) (e : ReadError) → IsPlain text → AreKept text kept → pieces ≡ pieces_of kept → NoneSpelled pieces e → Refuses (read_kind e) text
read_refused text pieces kept reading.Memory plain k is none = tt
read_refused text pieces kept (reading.Fault f) plain k is none =
    of_grammar text f.kind (record {
      plain = plain;
      none = λ decls d. none decls (subst (λ (ps : List TokenView). IsScript NESTING ps decls) (unique (pieces_of kept) d.lexed k.are.lexed ∙ sym is) d.spelled);
    })

grammar_blames : (text : List ℕ) (span : Option Span) (k : Kind) → BlamesToken text k span → Blames (grammar_kind k) text span
grammar_blames text span grammar.Unexpected b = b
grammar_blames text span grammar.OutOfRange b = b
grammar_blames text span grammar.EndsEarly b = b
grammar_blames text span grammar.TooDeep b = b

-- the fault that is met first blames its token
pub read_blames : (text : List ℕ) (pieces : List TokenView) (kept : Tokens) (e : ReadError) → AreKept text kept → pieces ≡ pieces_of kept → IsFirstFault pieces e → Blames (read_kind e) text (read_span text kept e)
read_blames text pieces kept reading.Memory k is first = refl
read_blames text pieces kept (reading.Fault f) k is first =
    grammar_blames text _ f.kind (record {
      pieces = pieces_of kept;
      spans = kept.spans.items;
      are = k.are;
      left = f.tokens_left;
      first = ap (decls_at NESTING) (sym is) ∙ first;
      at = ap (λ (n : ℕ). Some (span_at text kept.spans.items (n - f.tokens_left))) k.as_many;
    })

of_names : (text : List ℕ) (k : NameErrorKind) → HasError text k → Refuses (names_kind k) text
of_names text names.Twice h = h
of_names text names.Unknown h = h
of_names text names.Arguments h = h
of_names text names.Confused h = h
of_names text names.BoundInside h = h
of_names text names.TooMany h = inr (inl h)
of_names text names.TooGreat h = inr (inr h)

pub check_refused : (text : List ℕ) (decls : List DeclTree) (kept : Tokens) (e : CheckError) → IsSpelled text decls kept → IsError e (names_error decls) → Refuses (check_kind e) text
check_refused text decls kept naming.Memory s e = tt
check_refused text decls kept (naming.Name m) s e =
    of_names text m.kind (record { plain = s.plain; decls = decls; spelled = spells text decls kept s; before = m.names_before; first = e })

names_blame : (text : List ℕ) (span : Option Span) (k : NameErrorKind) → length text ≤ BYTES → BlamesName text k span → Blames (names_kind k) text span
names_blame text span names.Twice short s = s
names_blame text span names.Unknown short s = s
names_blame text span names.Arguments short s = s
names_blame text span names.Confused short s = s
names_blame text span names.BoundInside short s = s
names_blame text span names.TooMany short s = (λ long. absurd (omega (arith, long, short)), λ _. inl s)
names_blame text span names.TooGreat short s = (λ long. absurd (omega (arith, long, short)), λ _. inr s)

pub check_blames : (text : List ℕ) (decls : List DeclTree) (kept : Tokens) (e : CheckError) → IsSpelled text decls kept → IsError e (names_error decls) → Blames (check_kind e) text (check_span text kept e)
check_blames text decls kept naming.Memory s e = refl
check_blames text decls kept (naming.Name m) s e =
    names_blame text _ m.kind s.plain.short (record {
      pieces = pieces_of kept;
      spans = kept.spans.items;
      are = s.are_kept.are;
      decls = decls;
      spelled = s.spelled;
      before = m.names_before;
      first = e;
      at = refl;
    })
