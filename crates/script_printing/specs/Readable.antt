-- Which tokens can be read from what is printed of them.
use Rattle.std.specs.Prelude.{◌≡◌, ℕ, ℤ, pos, negsuc, ◌<◌, ◌^◌, Bool, true, false, List, [], ◌∷◌, None, ⊤}
use Rattle.std.specs.List.{list_all}
use Rattle.script_tokens.specs.Bytes.{is_letter, is_name_byte}
use Rattle.script_tokens.specs.Keywords.{keyword_of}
use Rattle.script_tokens.specs.Pieces.{TokenView, Num, Huge, Name, Key, Sign, Stray}

-- a text begins with a byte that may begin a name
abbrev pub begins_with_letter : List ℕ → Bool
begins_with_letter [] = false
begins_with_letter (b ∷ bs) = is_letter b

-- a letter, then letters and digits, and no keyword
pub record IsWord (w : List ℕ) : Type 0 where
  pub begins : begins_with_letter w ≡ true
  pub bytes : list_all is_name_byte w ≡ true
  pub no_keyword : keyword_of w ≡ None

-- from 0 to the greatest `i64`
abbrev pub IsNumber : ℤ → Type 0
IsNumber (pos n) = n < 2 ^ 63
IsNumber (negsuc n) = ⊥

-- names are names, and numbers are not negative and not too large
abbrev pub IsReadable : TokenView → Type 0
IsReadable (Num n) = IsNumber n
IsReadable Huge = ⊥
IsReadable (Name w) = IsWord w
IsReadable (Key k) = ⊤
IsReadable (Sign m) = ⊤
IsReadable Stray = ⊥
