-- Reading the parts of a rule that are one token, and lists: the parser's own way.
use Rattle.std.specs.Prelude.{ℕ, zero, suc, ◌+◌, length, Option, Some, None, List, [], ◌∷◌, Result, Ok, Err, ◌==◌, if◌then◌else◌}
use Rattle.script_parser.specs.declared.fault.Kind.TheVariants.{Unexpected, EndsEarly}
use Rattle.script_parser.specs.declared.fault.ParseFault.{ParseFault}
use Rattle.script_parser.specs.Model.Steps.{at, ◌>>=◌, Reads}
use Rattle.script_tokens.specs.declared.mark.Mark.{Mark}
use Rattle.script_tokens.specs.declared.mark.Mark.TheVariants as mark
use Rattle.script_tokens.specs.Pieces.{TokenView, Name, Sign}

-- each mark has a number of its own
abbrev pub code_of : Mark → ℕ
code_of mark.Open = 0
code_of mark.Close = 1
code_of mark.OpenBrace = 2
code_of mark.CloseBrace = 3
code_of mark.Semicolon = 4
code_of mark.Comma = 5
code_of mark.Dot = 6
code_of mark.Assign = 7
code_of mark.Bang = 8
code_of mark.Plus = 9
code_of mark.Minus = 10
code_of mark.Times = 11
code_of mark.Equal = 12
code_of mark.Unequal = 13
code_of mark.Less = 14
code_of mark.AtMost = 15
code_of mark.Greater = 16
code_of mark.AtLeast = 17
code_of mark.And = 18
code_of mark.Or = 19
code_of mark.At = 20

-- a name, and what is after it
unfoldable pub name_at : Reads (List ℕ)
name_at [] = Err (at EndsEarly [])
name_at (Name n ∷ rest) = Ok (n, rest)
name_at (found ∷ rest) = Err (at Unexpected (found ∷ rest))

-- what is after this mark
unfoldable pub sign_at : Mark → List TokenView → Result (List TokenView) ParseFault
sign_at m [] = Err (at EndsEarly [])
sign_at m (Sign found ∷ rest) = if code_of found == code_of m then Ok rest else Err (at Unexpected (Sign found ∷ rest))
sign_at m (found ∷ rest) = Err (at Unexpected (found ∷ rest))

-- what is after a closing brace
unfoldable pub brace_at : List TokenView → Option (List TokenView)
brace_at [] = None
brace_at (Sign mark.CloseBrace ∷ rest) = Some rest
brace_at (_ ∷ rest) = None

-- what to do where items end, and where they go on
abbrev pub on_stop : {A : Type 0} → Option (List TokenView) → (List TokenView → A) → A → A
on_stop None stop go = go
on_stop (Some rest) stop go = stop rest

-- items up to what stops them, of which there are fewer than n
unfoldable pub items_at : {A : Type 0} → (List TokenView → Option (List TokenView)) → Reads A → ℕ → Reads (List A)
items_at stop read zero ts = Err (at EndsEarly ts)
items_at stop read (suc n) ts = on_stop (stop ts) (λ rest. Ok ([], rest)) (read ts >>= λ x. items_at stop read n x.1 >>= λ xs. Ok (x.0 ∷ xs.0, xs.1))

-- what is read, with one more item in front
abbrev pub with_first : {A : Type 0} → A → Result (List A × List TokenView) ParseFault → Result (List A × List TokenView) ParseFault
with_first a read = read >>= λ x. Ok (a ∷ x.0, x.1)

-- what is after a closing parenthesis
unfoldable pub close_at : List TokenView → Option (List TokenView)
close_at [] = None
close_at (Sign mark.Close ∷ rest) = Some rest
close_at (_ ∷ rest) = None

-- a comma, and what is read after it
unfoldable pub comma_at : {A : Type 0} → Reads A → Reads A
comma_at read ts = sign_at mark.Comma ts >>= λ c. read c

-- values with commas between them, up to the parenthesis that closes them
unfoldable pub list_at : {A : Type 0} → Reads A → Reads (List A)
list_at read ts = on_stop (close_at ts) (λ rest. Ok ([], rest)) (read ts >>= λ x. with_first x.0 (items_at close_at (comma_at read) (length x.1 + 1) x.1))
