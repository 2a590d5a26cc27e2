-- Which mistake was made (our own).
use Rattle.std.specs.Prelude.{◌<◌, ◌≡◌, ◌⊎◌, ℕ, MatchOption, List, [], Contains, codes, map, slice_get, slice_index_or}
use Rattle.script_tokens.specs.declared.mark.Mark.{Mark}
use Rattle.script_tokens.specs.declared.mark.Mark.TheVariants as mark
use Rattle.script_tokens.specs.declared.token.Token.{Token}
use Rattle.script_tokens.specs.declared.token.Token.TheVariants.{Num, Huge, Name, Key, Sign, Stray}
use Rattle.script_context.specs.Declarations.{IsActorOf, IsNamedAs}
use Rattle.script_context.specs.Words.{name_at, word, word_at}
use Rattle.script_context.specs.declared.blamed.Blamed.{Blamed}
use Rattle.script_context.specs.declared.declared.Declared.{Declared}
use Rattle.script_context.specs.declared.declared.Declared.TheVariants as declared
use Rattle.script_hints.specs.Spelled.{place_in}
use Rattle.script_hints.specs.declared.mistakes.declarations.TheConstants.{DECLARATIONS}
use Rattle.script_hints.specs.declared.mistakes.expressions.TheConstants.{EXPRESSIONS}
use Rattle.script_hints.specs.declared.mistakes.statements.TheConstants.{STATEMENTS}

-- the class of a mark, as patterns name it; most have none
abbrev pub class_of : Mark → List ℕ
class_of mark.Plus = codes "SUM"
class_of mark.Minus = codes "SUM"
class_of mark.Times = codes "SUM"
class_of mark.Equal = codes "COMPARES"
class_of mark.Unequal = codes "COMPARES"
class_of mark.Less = codes "COMPARES"
class_of mark.AtMost = codes "COMPARES"
class_of mark.Greater = codes "COMPARES"
class_of mark.AtLeast = codes "COMPARES"
class_of m = []

-- A name is declared as this somewhere in the text.
abbrev pub IsSomewhere : Blamed → List ℕ → Declared → Type 0
IsSomewhere b name d = (at : ℕ) × IsNamedAs b.tokens.now at name d

-- A name is that of the actor around the token that is blamed.
abbrev pub IsAround : Blamed → List ℕ → Type 0
IsAround b name = (at : ℕ) × IsActorOf b.tokens.now b.place at × (word_at b.tokens.now at ≡ name)

-- A token is of the class that a pattern names.
abbrev pub IsOfClass : List ℕ → Token → Type 0
IsOfClass p (Num n) = p ≡ codes "NUMBER"
IsOfClass p Huge = p ≡ codes "NUMBER"
IsOfClass p (Name w) = (p ≡ codes "NAME") ⊎ (p ≡ codes "WORD")
IsOfClass p (Key k) = (p ≡ codes "KEYWORD") ⊎ (p ≡ codes "WORD")
IsOfClass p (Sign m) = p ≡ class_of m
IsOfClass p Stray = ⊥

-- A token fits a pattern: it is of that class, or is spelled so.
abbrev pub FitsToken : List ℕ → Token → Type 0
FitsToken p t = IsOfClass p t ⊎ (p ≡ word t)

-- A name fits a pattern: it is that of an actor, of a method, or of the actor around the token that is blamed.
abbrev pub FitsName : Blamed → List ℕ → List ℕ → Type 0
FitsName b p name = ((p ≡ codes "ACTOR") × IsSomewhere b name declared.Actor) ⊎ ((p ≡ codes "METHOD") × IsSomewhere b name declared.Method) ⊎ ((p ≡ codes "THIS") × IsAround b name)

-- The token at a place fits a pattern, by itself or by its name; the one that is blamed also by its bytes in the text.
abbrev pub Fits : Blamed → List ℕ → ℕ → Type 0
Fits b p at = ((at ≡ b.place) × (p ≡ b.found.now)) ⊎ MatchOption (slice_get b.tokens.now at) ⊥ (FitsToken p) ⊎ MatchOption (name_at b.tokens.now at) ⊥ (FitsName b p)

-- A pattern is empty, or the token that it stands for, counted from two before the one that is blamed, fits it.
abbrev pub Meets : Blamed → ℕ → List ℕ → Type 0
Meets b n p = (p ≡ []) ⊎ MatchOption (place_in b n) ⊥ (Fits b p)

-- The tokens around the one that is blamed are those of a mistake: the first six of its words.
abbrev pub StandsAround : Blamed → List (List ℕ) → Type 0
StandsAround b words = (n : ℕ) → n < 6 → Meets b n (slice_index_or words n [])

-- These are the words of a mistake that is known.
abbrev pub IsKnown : List (List ℕ) → Type 0
IsKnown words = Contains (map (map (λ x. x.now)) DECLARATIONS) words ⊎ Contains (map (map (λ x. x.now)) STATEMENTS) words ⊎ Contains (map (map (λ x. x.now)) EXPRESSIONS) words
