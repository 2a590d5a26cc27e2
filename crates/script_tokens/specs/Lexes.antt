-- What a text consists of.
use Rattle.std.specs.Prelude.{◌≡◌, ℕ, pos, ◌+◌, ◌-◌, ◌*◌, ◌^◌, ◌&&◌, ◌==◌, nat_lt, if◌then◌else◌, List, [], ◌∷◌, drop, Option, Some, None}
use Rattle.std.specs.List.{take_while, prefix_len}
use Rattle.script_tokens.specs.declared.keyword.Keyword.{Keyword}
use Rattle.script_tokens.specs.declared.mark.Mark.{Mark}
use Rattle.script_tokens.specs.declared.mark.Mark.TheVariants as mark
use Rattle.script_tokens.specs.Bytes.{is_space, is_digit, is_letter, is_name_byte, is_no_line_feed}
use Rattle.script_tokens.specs.Keywords.{keyword_of}
use Rattle.script_tokens.specs.Pieces.{TokenView, Num, Huge, Name, Key, Sign, Stray}

-- the number that decimal digits spell, after the digits of a number
abbrev pub decimal_behind : ℕ → List ℕ → ℕ
decimal_behind n [] = n
decimal_behind n (d ∷ ds) = decimal_behind (n * 10 + (d - 48)) ds

-- the number that decimal digits spell
abbrev pub decimal : List ℕ → ℕ
decimal ds = decimal_behind 0 ds

-- a number of digits, if it is below 2^63
unfoldable pub number_of : List ℕ → TokenView
number_of ds = if nat_lt (decimal ds) (2 ^ 63) then Num (pos (decimal ds)) else Huge

-- a word is a keyword or a name
abbrev pub word_as : Option Keyword → List ℕ → TokenView
word_as (Some k) w = Key k
word_as None w = Name w

-- what a word is: a keyword where it is one, and else a name
unfoldable pub word_of : List ℕ → TokenView
word_of w = word_as (keyword_of w) w

-- the mark of two bytes
abbrev pub pair_of : ℕ → ℕ → Option Mark
pair_of a b =
    if a == 61 && b == 61 then Some mark.Equal  -- ==
    else if a == 33 && b == 61 then Some mark.Unequal  -- !=
    else if a == 60 && b == 61 then Some mark.AtMost  -- <=
    else if a == 62 && b == 61 then Some mark.AtLeast  -- >=
    else if a == 38 && b == 38 then Some mark.And  -- &&
    else if a == 124 && b == 124 then Some mark.Or  -- ||
    else None

-- the mark of one byte
abbrev pub single_of : ℕ → Option Mark
single_of b =
    if b == 40 then Some mark.Open  -- (
    else if b == 41 then Some mark.Close  -- )
    else if b == 123 then Some mark.OpenBrace  -- {
    else if b == 125 then Some mark.CloseBrace  -- }
    else if b == 59 then Some mark.Semicolon  -- ;
    else if b == 44 then Some mark.Comma  -- ,
    else if b == 46 then Some mark.Dot  -- .
    else if b == 61 then Some mark.Assign  -- =
    else if b == 33 then Some mark.Bang  -- !
    else if b == 43 then Some mark.Plus  -- +
    else if b == 45 then Some mark.Minus  -- -
    else if b == 42 then Some mark.Times  -- *
    else if b == 60 then Some mark.Less  -- <
    else if b == 62 then Some mark.Greater  -- >
    else if b == 64 then Some mark.At  -- @
    else None

-- a byte that stands alone is a mark, or begins no token
abbrev pub lone : Option Mark → TokenView
lone None = Stray
lone (Some m) = Sign m

-- two bytes where they are a mark or begin a comment, which ends before the LF, and else one
abbrev pub paired : Option Mark → ℕ → ℕ → List ℕ → Option TokenView × List ℕ
paired (Some m) a b bs = (Some (Sign m), bs)
paired None a b bs = if a == 47 && b == 47 then (None, drop (prefix_len is_no_line_feed bs) bs) else (Some (lone (single_of a)), b ∷ bs)

-- a byte that is no letter, digit or space: a mark, with the next byte where both are one, or the begin of a comment; and what is after it
unfoldable pub mark_at : ℕ → List ℕ → Option TokenView × List ℕ
mark_at a [] = (Some (lone (single_of a)), [])
mark_at a (b ∷ bs) = paired (pair_of a b) a b bs

-- What stands at the front, a token or what separates tokens, and what is after it. The longest one is taken.
unfoldable pub front_at : ℕ → List ℕ → Option TokenView × List ℕ
front_at b bs =
    if is_space b then (None, bs)
    else if is_digit b then (Some (number_of (take_while is_digit (b ∷ bs))), drop (prefix_len is_digit (b ∷ bs)) (b ∷ bs))
    else if is_letter b then (Some (word_of (take_while is_name_byte (b ∷ bs))), drop (prefix_len is_name_byte (b ∷ bs)) (b ∷ bs))
    else mark_at b bs

-- what stands at the front of a text, and what is after it
abbrev pub front_of : List ℕ → Option TokenView × List ℕ
front_of [] = (None, [])
front_of (b ∷ bs) = front_at b bs

-- Which pieces a text consists of, in order: white space and comments separate them, and the longest one is taken.
pub data Lexes : List ℕ → List TokenView → Type 0 where
  at_end : Lexes [] []
  separated : {b : ℕ} {bs rest : List ℕ} {ps : List TokenView} → front_at b bs ≡ (None, rest) → Lexes rest ps → Lexes (b ∷ bs) ps
  next_is : {b : ℕ} {bs rest : List ℕ} {p : TokenView} {ps : List TokenView} → front_at b bs ≡ (Some p, rest) → Lexes rest ps → Lexes (b ∷ bs) (p ∷ ps)
