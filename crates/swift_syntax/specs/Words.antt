-- Which words are no names (our own).
use Rattle.std.specs.Prelude.{ℕ, List, Option, Some, None, bytes_eq, position, if◌then◌else◌}
use Rattle.std.specs.List.{list_any, slice_get}
use Rattle.swift_syntax.specs.declared.word.TheConstants.{FOREIGN, SPELLINGS, WORDS}
use Rattle.swift_syntax.specs.declared.word.Word.{Word}
use Rattle.swift_syntax.specs.declared.word.Word.TheVariants.{Foreign}

-- the keyword whose spelling has a place; where none has it, perhaps one that begins nothing in the subset
abbrev pub word_at : Option ℕ → List ℕ → Option Word
word_at (Some place) w = slice_get WORDS place
word_at None w = if list_any (λ s. bytes_eq s.now w) FOREIGN then Some Foreign else None

-- the keyword that these bytes spell, if they are no name
abbrev pub word_of : List ℕ → Option Word
word_of w = word_at (position (λ s. bytes_eq s.now w) SPELLINGS) w
