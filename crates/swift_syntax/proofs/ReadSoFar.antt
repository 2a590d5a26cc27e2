-- What is known of a text that is read as far as `rest`.
use Rattle.std.proofs.Common.{◌≡◌, ◌≤◌, ◌<◌, ℕ, Bool, true, false, List, [], ◌∷◌, ◌++◌, length, sym, arith, append_assoc}
use Rattle.std.proofs.lemmas.List.{append-nil}
use Rattle.swift_syntax.specs.Fronts.{front_of}
use Rattle.swift_syntax.specs.Lexes.{AreTokensOf, StandAt, none_left, space_here, line_here, one_here, token_between}
use Rattle.swift_syntax.specs.declared.front.Piece.{Piece}
use Rattle.swift_syntax.specs.declared.front.Piece.TheVariants as piece
use Rattle.swift_syntax.specs.declared.token.Token.{Token}
use Rattle.swift_syntax.specs.declared.token.TokenKind.{TokenKind}

-- what completes the rest completes the whole
pub record Reading (text rest : List ℕ) (line space : Bool) (ts : List Token) : Type 0 where
  pub tokens : (tail : List Token) → StandAt text rest line space tail → StandAt text text true true (ts ++ tail)
  pub shorter : length rest ≤ length text

-- what stands at the front, and after it
abbrev pub Begins : Piece → List ℕ → List ℕ → Type 0
Begins p rest bs = let found : Piece × List ℕ = (p, rest) in found ≡ front_of bs

pub begun : (text : List ℕ) → Reading text text true true []
begun text = record { tokens = λ tail d. d; shorter = omega arith }

pub after_space : {text rest after : List ℕ} {line space : Bool} {ts : List Token} → Reading text rest line space ts → 0 < length rest → Begins piece.Space after rest → length after < length rest → Reading text after line true ts
after_space {rest = []} r lt e shorter = absurd (omega arith)
after_space {text = text} {rest = b ∷ bs} {after = after} r lt e shorter = record {
  tokens = λ tail d. r.tokens tail (space_here (sym e) d);
  shorter = omega (arith, r.shorter);
}

pub after_line : {text rest after : List ℕ} {line space : Bool} {ts : List Token} → Reading text rest line space ts → 0 < length rest → Begins piece.Line after rest → length after < length rest → Reading text after true true ts
after_line {rest = []} r lt e shorter = absurd (omega arith)
after_line {text = text} {rest = b ∷ bs} {after = after} r lt e shorter = record {
  tokens = λ tail d. r.tokens tail (line_here (sym e) d);
  shorter = omega (arith, r.shorter);
}

pub after_token : {text rest after : List ℕ} {line space : Bool} {ts : List Token} (k : TokenKind) (t : Token) (ts' : List Token) → Reading text rest line space ts → 0 < length rest → Begins (piece.Token k) after rest → length after < length rest → t ≡ token_between text rest after k line space → ts' ≡ ts ++ t ∷ [] → Reading text after false false ts'
after_token {rest = []} k t ts' r lt e shorter is te = absurd (omega arith)
after_token {text = text} {rest = b ∷ bs} {after = after} {line = line} {space = space} {ts = ts} k t ts' r lt e shorter is te = record {
  tokens = λ tail d. rw te (rw append_assoc (rw is (r.tokens (token_between text (b ∷ bs) after k line space ∷ tail) (one_here (sym e) d))));
  shorter = omega (arith, r.shorter);
}

pub no_more : (text rest : List ℕ) (line space : Bool) (ts : List Token) → length rest ≡ 0 → Reading text rest line space ts → AreTokensOf text ts
no_more text [] line space ts e r = rw append-nil at (r.tokens [] none_left)
no_more text (b ∷ bs) line space ts e r = absurd (omega arith)
