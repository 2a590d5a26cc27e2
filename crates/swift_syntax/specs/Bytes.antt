-- The kinds of bytes (our own).
use Rattle.std.specs.Prelude.{ℕ, Bool, ◌&&◌, ◌||◌, not, ◌==◌, nat_le}

-- `0` to `9`
abbrev pub is_digit : ℕ → Bool
is_digit b = nat_le 48 b && nat_le b 57

-- `A` to `Z`, `a` to `z`, or `_`
abbrev pub is_letter : ℕ → Bool
is_letter b = (nat_le 65 b && nat_le b 90) || (nat_le 97 b && nat_le b 122) || b == 95

-- a byte that may stand in a name
abbrev pub is_name_byte : ℕ → Bool
is_name_byte b = is_letter b || is_digit b

-- a byte that may stand in a number
abbrev pub is_number_byte : ℕ → Bool
is_number_byte b = is_digit b || b == 95

-- a byte other than an LF
abbrev pub is_no_line_feed : ℕ → Bool
is_no_line_feed b = not (b == 10)

-- a space or a tab
abbrev pub is_blank : ℕ → Bool
is_blank b = b == 32 || b == 9

-- a space, a tab or a CR
abbrev pub is_space : ℕ → Bool
is_space b = b == 32 || b == 9 || b == 13
