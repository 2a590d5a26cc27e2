-- What is printed of an accepted script spells it.
use Rattle.swift_script.proofs.Prelude.{◌≡◌, ◌≤◌, ℕ, Bool, true, None, List, length, sym, ap, subst, ◌∙◌, IsTrue, IsUtf8, bytes_eq, BYTES, names_error, NESTING, DeclTree, printed, ScriptView, declarations_of, script_in, script_again, SpellsDecls, Spells, IsAccepted, WasAccepted}
use Rattle.std.proofs.lemmas.Slice.Eq.{bytes_eq-Decides}
use Rattle.std.proofs.lemmas.Str.{IsUtf8-from_ascii}
use Rattle.script_tokens.specs.Bytes.{is_text}
use Rattle.script_printing.specs.Pieces.{pieces_of_script}
use Rattle.script_printing.proofs.Lexed.{script_lexes}
use Rattle.script_printing.proofs.Plain.{script_is_text, text_is_ascii}
use Rattle.script_printing.proofs.PrintedSpells.{readable_again}
use Rattle.script_printing.proofs.Read.{spelled_again}
use Rattle.swift_script.proofs.Accepting.{same_spelled}
use Rattle.swift_script.proofs.NamesAgain.{names_again}

-- what a text spells is printed as a text that spells the same, with the declarations in the order of their kinds
again : (text : List ℕ) (ds : List DeclTree) → SpellsDecls NESTING text ds → SpellsDecls NESTING (printed (script_in ds)) (declarations_of (script_in ds))
again text ds s = record {
  pieces = pieces_of_script (script_in ds);
  lexed = script_lexes (script_in ds) (readable_again NESTING text s.pieces ds s.lexed s.spelled);
  spelled = spelled_again NESTING s.pieces ds s.spelled;
}

pub decls_again : (text : List ℕ) (t : ScriptView) → IsAccepted text t → SpellsDecls NESTING (printed t) (declarations_of t)
decls_again text t a = subst (λ (u : ScriptView). SpellsDecls NESTING (printed u) (declarations_of u)) (sym a.is) (again text a.decls a.spelled)

pub printed_spells : (text : List ℕ) (t : ScriptView) → IsAccepted text t → Spells NESTING (printed t) t
printed_spells text t a = record { decls = declarations_of t; spelled = decls_again text t a; is = sym (script_again t) }

pub printed_plain : (text : List ℕ) (t : ScriptView) → IsAccepted text t → is_text (printed t) ≡ true
printed_plain text t a =
    ap (λ (u : ScriptView). is_text (printed u)) a.is ∙ script_is_text (script_in a.decls) (readable_again NESTING text a.spelled.pieces a.decls a.spelled.lexed a.spelled.spelled)

pub printed_utf8 : (text : List ℕ) (t : ScriptView) → IsAccepted text t → IsUtf8 (printed t)
printed_utf8 text t a = IsUtf8-from_ascii (printed t) (text_is_ascii (printed t) (printed_plain text t a))

pub printed_accepted : (text : List ℕ) (t : ScriptView) → IsAccepted text t → length (printed t) ≤ BYTES → IsAccepted (printed t) t
printed_accepted text t a short = record {
  plain = record { short = short; bytes = printed_plain text t a };
  decls = declarations_of t;
  spelled = decls_again text t a;
  is = sym (script_again t);
  names = subst (λ (u : ScriptView). names_error (declarations_of u) ≡ None) (sym a.is) (names_again a.decls a.names);
  starts = a.starts;
  waits = a.waits;
}

-- accepted scripts with one printed form are one
pub one_form : (s t : ScriptView) → WasAccepted s → WasAccepted t → printed s ≡ printed t → s ≡ t
one_form s t a b e =
    same_spelled NESTING NESTING (printed t) s t (subst (λ (text : List ℕ). Spells NESTING text s) e (printed_spells a.0 s a.1)) (printed_spells b.0 t b.1)

-- the comparison of the printed forms decides whether accepted scripts are equal
pub says : (s t : ScriptView) (a b : List ℕ) (r : Bool) → WasAccepted s → WasAccepted t → a ≡ printed s → b ≡ printed t → r ≡ bytes_eq a b → (IsTrue r → s ≡ t) × (s ≡ t → IsTrue r)
says s t a b r was_s was_t is_a is_b is =
    let decides = bytes_eq-Decides a b in
    (λ yes. one_form s t was_s was_t (sym is_a ∙ decides.0 (sym is ∙ yes) ∙ is_b), λ same. is ∙ decides.1 (is_a ∙ ap printed same ∙ sym is_b))
