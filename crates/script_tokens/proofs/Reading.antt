-- What is known of a text that is read as far as `rest`.
use Rattle.std.proofs.Common.{◌≡◌, ◌≤◌, ◌<◌, ℕ, List, [], ◌∷◌, ◌++◌, length, Option, Some, None, refl, sym, arith, append_assoc, length-append}
use Rattle.std.proofs.lemmas.List.{append-nil}
use Rattle.script_tokens.specs.declared.span.Span.{Span}
use Rattle.script_tokens.specs.Lexes.{Lexes, front_of, at_end, separated, next_is}
use Rattle.script_tokens.specs.Pieces.{TokenView}
use Rattle.script_tokens.specs.Spans.{between, StandAt, none_left, none_here, one_here}

-- what completes the rest completes the whole
pub record Reading (text rest : List ℕ) (ps : List TokenView) (ss : List Span) : Type 0 where
  pub tokens : (tail : List TokenView) → Lexes rest tail → Lexes text (ps ++ tail)
  pub spans : (tail : List Span) → StandAt text rest tail → StandAt text text (ss ++ tail)
  pub as_many : length ss ≡ length ps
  pub shorter : length rest ≤ length text

-- what stands at the front, and after it
abbrev pub Begins : Option TokenView → List ℕ → List ℕ → Type 0
Begins o rest bs = let found : Option TokenView × List ℕ = (o, rest) in found ≡ front_of bs

pub begun : (text : List ℕ) → Reading text text [] []
begun text = record { tokens = λ tail d. d; spans = λ tail d. d; as_many = refl; shorter = omega arith }

pub passed_by : {text rest after : List ℕ} {ps : List TokenView} {ss : List Span} → Reading text rest ps ss → 0 < length rest → Begins None after rest → length after < length rest → Reading text after ps ss
passed_by {rest = []} r lt e shorter = absurd (omega arith)
passed_by {text = text} {rest = b ∷ bs} {after = after} r lt e shorter = record {
  tokens = λ tail d. r.tokens tail (separated (sym e) d);
  spans = λ tail d. r.spans tail (none_here (sym e) d);
  as_many = r.as_many;
  shorter = omega (arith, r.shorter);
}

pub taken : {text rest after : List ℕ} {ps : List TokenView} {ss : List Span} (p : TokenView) (ps' : List TokenView) (s : Span) (ss' : List Span) → Reading text rest ps ss → 0 < length rest → Begins (Some p) after rest → length after < length rest → s ≡ between text rest after → ps' ≡ ps ++ p ∷ [] → ss' ≡ ss ++ s ∷ [] → Reading text after ps' ss'
taken {rest = []} p ps' s ss' r lt e shorter is pe se = absurd (omega arith)
taken {text = text} {rest = b ∷ bs} {after = after} {ps = ps} {ss = ss} p ps' s ss' r lt e shorter is pe se = record {
  tokens = λ tail d. rw pe (rw append_assoc (r.tokens (p ∷ tail) (next_is (sym e) d)));
  spans = λ tail d. rw se (rw append_assoc (rw is (r.spans (between text (b ∷ bs) after ∷ tail) (one_here (sym e) d))));
  as_many = rw pe (rw se (simp length-append (omega (arith, r.as_many))));
  shorter = omega (arith, r.shorter);
}

pub no_more : (text rest : List ℕ) (ps : List TokenView) → length rest ≡ 0 → ((tail : List TokenView) → Lexes rest tail → Lexes text (ps ++ tail)) → Lexes text ps
no_more text [] ps e f = rw append-nil at (f [] at_end)
no_more text (b ∷ bs) ps e f = absurd (omega arith)

pub no_span_more : (text rest : List ℕ) (ss : List Span) → length rest ≡ 0 → ((tail : List Span) → StandAt text rest tail → StandAt text text (ss ++ tail)) → StandAt text text ss
no_span_more text [] ss e f = rw append-nil at (f [] none_left)
no_span_more text (b ∷ bs) ss e f = absurd (omega arith)
