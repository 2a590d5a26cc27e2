-- Tokens as contracts see them.
use Rattle.std.specs.Prelude.{ℕ, ℤ, List}
use Rattle.script_tokens.specs.declared.keyword.Keyword.{Keyword}
use Rattle.script_tokens.specs.declared.lexeme.Lexeme.{Lexeme}
use Rattle.script_tokens.specs.declared.lexeme.Lexeme.TheVariants as lexemes
use Rattle.script_tokens.specs.declared.mark.Mark.{Mark}
use Rattle.script_tokens.specs.declared.token.Token.{Token}
use Rattle.script_tokens.specs.declared.token.Token.TheVariants as tokens

-- a token without where its name lies in memory
pub data TokenView : Type 0 where
  Num : ℤ → TokenView
  Huge : TokenView
  Name : List ℕ → TokenView
  Key : Keyword → TokenView
  Sign : Mark → TokenView
  Stray : TokenView

-- what a token says
abbrev pub piece : Token → TokenView
piece (tokens.Num n) = Num n
piece tokens.Huge = Huge
piece (tokens.Name w) = Name w.items
piece (tokens.Key k) = Key k
piece (tokens.Sign m) = Sign m
piece tokens.Stray = Stray

-- what a token says whose name still lies in the text
abbrev pub lexeme_piece : Lexeme → TokenView
lexeme_piece (lexemes.Num n) = Num n
lexeme_piece lexemes.Huge = Huge
lexeme_piece (lexemes.Name w) = Name w.now
lexeme_piece (lexemes.Key k) = Key k
lexeme_piece (lexemes.Sign m) = Sign m
lexeme_piece lexemes.Stray = Stray
