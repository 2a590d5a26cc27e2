-- How each token is written.
use Rattle.std.specs.Prelude.{ℕ, List, []}
use Rattle.std.specs.Fmt.{signed_decimal}
use Rattle.script_tokens.specs.Spelling.{spelling, mark_spelling}
use Rattle.script_tokens.specs.Pieces.{TokenView, Num, Huge, Name, Key, Sign, Stray}

-- The bytes of a token. Numbers have no leading zeros. What is no token of a script has none.
abbrev pub text_of : TokenView → List ℕ
text_of (Num n) = signed_decimal n
text_of Huge = []
text_of (Name w) = w
text_of (Key k) = spelling k
text_of (Sign m) = mark_spelling m
text_of Stray = []
