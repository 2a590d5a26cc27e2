-- What stands at the front of a text (our own).
use Rattle.std.specs.Prelude.{ℕ, pos, ◌+◌, ◌-◌, ◌*◌, ◌^◌, Bool, true, false, ◌&&◌, ◌==◌, nat_eq, nat_lt, if◌then◌else◌, List, [], ◌∷◌, drop, codes, Option, Some, None}
use Rattle.std.specs.List.{prefix_len, starts_with, take_while}
use Rattle.swift_syntax.specs.Bytes.{is_blank, is_digit, is_letter, is_name_byte, is_no_line_feed, is_number_byte, is_space}
use Rattle.swift_syntax.specs.Words.{word_of}
use Rattle.swift_syntax.specs.declared.front.Piece.{Piece}
use Rattle.swift_syntax.specs.declared.front.Piece.TheVariants.{Space, Line, Token}
use Rattle.swift_syntax.specs.declared.sign.Sign.{Sign}
use Rattle.swift_syntax.specs.declared.sign.Sign.TheVariants as sign
use Rattle.swift_syntax.specs.declared.token.TokenKind.{TokenKind}
use Rattle.swift_syntax.specs.declared.token.TokenKind.TheVariants as kind
use Rattle.swift_syntax.specs.declared.word.Word.{Word}

-- what stands at the front of a text: white space or a comment, an LF, or a token
abbrev pub Front : Type 0
Front = Piece

-- white space, or a comment
abbrev pub a_space : Front
a_space = Space

-- an LF
abbrev pub a_line : Front
a_line = Line

-- a token of a kind
abbrev pub a_token : TokenKind → Front
a_token k = Token k

-- the number that decimal digits spell, after the digits of a number; `_` says nothing
abbrev pub decimal_behind : ℕ → List ℕ → ℕ
decimal_behind n [] = n
decimal_behind n (d ∷ ds) = decimal_behind (if d == 95 then n else n * 10 + (d - 48)) ds

-- the number that decimal digits spell
abbrev pub decimal : List ℕ → ℕ
decimal ds = decimal_behind 0 ds

-- a number of digits, if an `Int` holds it
unfoldable pub number_of : List ℕ → TokenKind
number_of ds = if nat_lt (decimal ds) (2 ^ 63) then kind.Number (pos (decimal ds)) else kind.Huge

-- digits are no number where a letter stands right behind them
abbrev pub number_before : List ℕ → List ℕ → TokenKind
number_before ds [] = number_of ds
number_before ds (b ∷ bs) = if is_letter b then kind.Stray else number_of ds

-- a word is a keyword or a name
abbrev pub word_as : Option Word → TokenKind
word_as (Some k) = kind.Key k
word_as None = kind.Name

-- the sign of three bytes
abbrev pub triple_of : ℕ → ℕ → ℕ → Option Sign
triple_of a b c =
    if a == 46 && (b == 46 && c == 60) then Some sign.Below  -- ..<
    else if a == 46 && (b == 46 && c == 46) then Some sign.Through  -- ...
    else None

-- the sign of two bytes
abbrev pub pair_of : ℕ → ℕ → Option Sign
pair_of a b =
    if a == 61 && b == 61 then Some sign.Equal  -- ==
    else if a == 33 && b == 61 then Some sign.Unequal  -- !=
    else if a == 60 && b == 61 then Some sign.AtMost  -- <=
    else if a == 62 && b == 61 then Some sign.AtLeast  -- >=
    else if a == 38 && b == 38 then Some sign.And  -- &&
    else if a == 124 && b == 124 then Some sign.Or  -- ||
    else if a == 63 && b == 63 then Some sign.Coalesce  -- ??
    else if a == 45 && b == 62 then Some sign.Arrow  -- ->
    else if a == 43 && b == 61 then Some sign.AddAssign  -- +=
    else if a == 45 && b == 61 then Some sign.SubtractAssign  -- -=
    else if a == 42 && b == 61 then Some sign.MultiplyAssign  -- *=
    else if a == 47 && b == 61 then Some sign.Foreign  -- /=
    else if a == 37 && b == 61 then Some sign.Foreign  -- %=
    else if a == 60 && b == 60 then Some sign.Foreign  -- <<
    else if a == 62 && b == 62 then Some sign.Foreign  -- >>
    else None

-- the sign of one byte
abbrev pub single_of : ℕ → Option Sign
single_of b =
    if b == 40 then Some sign.Open  -- (
    else if b == 41 then Some sign.Close  -- )
    else if b == 123 then Some sign.OpenBrace  -- {
    else if b == 125 then Some sign.CloseBrace  -- }
    else if b == 91 then Some sign.OpenBracket  -- [
    else if b == 93 then Some sign.CloseBracket  -- ]
    else if b == 59 then Some sign.Semicolon  -- ;
    else if b == 44 then Some sign.Comma  -- ,
    else if b == 46 then Some sign.Dot  -- .
    else if b == 58 then Some sign.Colon  -- :
    else if b == 61 then Some sign.Assign  -- =
    else if b == 33 then Some sign.Bang  -- !
    else if b == 43 then Some sign.Plus  -- +
    else if b == 45 then Some sign.Minus  -- -
    else if b == 42 then Some sign.Times  -- *
    else if b == 60 then Some sign.Less  -- <
    else if b == 62 then Some sign.Greater  -- >
    else if b == 63 then Some sign.Question  -- ?
    else if b == 36 then Some sign.Dollar  -- $
    else if b == 64 then Some sign.At  -- @
    else if b == 47 then Some sign.Foreign  -- /
    else if b == 37 then Some sign.Foreign  -- %
    else if b == 38 then Some sign.Foreign  -- &
    else if b == 124 then Some sign.Foreign  -- |
    else if b == 94 then Some sign.Foreign  -- ^
    else if b == 126 then Some sign.Foreign  -- ~
    else None

-- a sign, or a byte that begins nothing
abbrev pub sign_as : Option Sign → Piece
sign_as (Some s) = Token (kind.Sign s)
sign_as None = Token kind.Stray

-- two bytes where they are a sign, and else the first one
abbrev pub paired : Option Sign → ℕ → ℕ → List ℕ → Piece × List ℕ
paired (Some s) a b bs = (Token (kind.Sign s), bs)
paired None a b bs = (sign_as (single_of a), b ∷ bs)

-- a sign of one or two bytes, the longer one where both fit, or a byte that begins nothing
abbrev pub short_at : ℕ → List ℕ → Piece × List ℕ
short_at a [] = (sign_as (single_of a), [])
short_at a (b ∷ bs) = paired (pair_of a b) a b bs

-- three bytes where they are a sign, and else fewer
abbrev pub tripled : Option Sign → ℕ → ℕ → ℕ → List ℕ → Piece × List ℕ
tripled (Some s) a b c bs = (Token (kind.Sign s), bs)
tripled None a b c bs = short_at a (b ∷ c ∷ bs)

-- the longest sign at the front, or a byte that begins nothing
unfoldable pub sign_at : ℕ → List ℕ → Piece × List ℕ
sign_at a [] = short_at a []
sign_at a (b ∷ []) = short_at a (b ∷ [])
sign_at a (b ∷ c ∷ bs) = tripled (triple_of a b c) a b c bs

-- What a comment says after its blanks: `invariant:`, `executor:` or `expect:`, after which tokens stand; any other goes up to the LF.
abbrev pub said_at : List ℕ → List ℕ → Piece × List ℕ
said_at said bs =
    if starts_with nat_eq said (codes "invariant:") then (Token kind.Invariant, drop 10 said)
    else if starts_with nat_eq said (codes "executor:") then (Token kind.Executor, drop 9 said)
    else if starts_with nat_eq said (codes "expect:") then (Token kind.Expect, drop 7 said)
    else (Space, drop (prefix_len is_no_line_feed bs) bs)

-- a comment of a line, after its two slashes
abbrev pub line_comment_at : List ℕ → Piece × List ℕ
line_comment_at bs = said_at (drop (prefix_len is_blank bs) bs) bs

-- A comment between `/*` and `*/`, after its first two bytes. One that does not end, or has a further `/*` in it, is no comment.
unfoldable pub block_comment_at : List ℕ → Piece × List ℕ
block_comment_at [] = (Token kind.Stray, [])
block_comment_at (a ∷ []) = (Token kind.Stray, [])
block_comment_at (a ∷ b ∷ bs) =
    if a == 42 && b == 47 then (Space, bs)
    else if a == 47 && b == 42 then (Token kind.Stray, bs)
    else block_comment_at (b ∷ bs)

-- A string, after its first quotation mark, up to the next one that no `\` stands before. `\(` begins an interpolation. One that does not end
-- on its line is no string.
unfoldable pub quoted_at : List ℕ → Bool → TokenKind → Piece × List ℕ
quoted_at [] escaped k = (Token kind.Stray, [])
quoted_at (a ∷ bs) true k = quoted_at bs false (if a == 40 then kind.Interpolated else k)
quoted_at (a ∷ bs) false k =
    if a == 34 then (Token k, bs)
    else if a == 10 then (Token kind.Stray, a ∷ bs)
    else quoted_at bs (a == 92) k

-- a slash and what it begins: a comment, or a sign
unfoldable pub slashed_at : ℕ → List ℕ → Piece × List ℕ
slashed_at a [] = sign_at a []
slashed_at a (b ∷ bs) =
    if a == 47 && b == 47 then line_comment_at bs
    else if a == 47 && b == 42 then block_comment_at bs
    else sign_at a (b ∷ bs)

-- a byte that is no letter or digit, and what it begins
abbrev pub other_at : ℕ → List ℕ → Piece × List ℕ
other_at a bs =
    if a == 10 then (Line, bs)
    else if is_space a then (Space, bs)
    else if a == 34 then quoted_at bs false kind.Text
    else slashed_at a bs

-- What stands at the front, a token or what separates tokens, and what is after it. The longest one is taken.
unfoldable pub front_at : ℕ → List ℕ → Piece × List ℕ
front_at b bs =
    if is_digit b then (Token (number_before (take_while is_number_byte (b ∷ bs)) (drop (prefix_len is_number_byte (b ∷ bs)) (b ∷ bs))), drop (prefix_len is_number_byte (b ∷ bs)) (b ∷ bs))
    else if is_letter b then (Token (word_as (word_of (take_while is_name_byte (b ∷ bs)))), drop (prefix_len is_name_byte (b ∷ bs)) (b ∷ bs))
    else other_at b bs

-- what stands at the front of a text, and what is after it
abbrev pub front_of : List ℕ → Piece × List ℕ
front_of [] = (Space, [])
front_of (b ∷ bs) = front_at b bs
