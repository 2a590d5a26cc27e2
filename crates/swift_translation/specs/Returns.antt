-- What of a method that is put in is done behind its `return`: nothing (our own).
use Rattle.std.specs.Prelude.{ℕ, ◌++◌, List, codes}
use Rattle.swift_translation.specs.Names.{Done, Result, spelled}

-- the statement with which a method begins that notes whether it has returned: it has not
abbrev pub done_let : ℕ → List ℕ
done_let serial = codes "let " ++ spelled (Done serial) ++ codes " = 0;"

-- the statement that says that a method has returned
abbrev pub done_set : ℕ → List ℕ
done_set serial = spelled (Done serial) ++ codes " = 1;"

-- the head of a block that is done unless the method has returned
abbrev pub done_head : ℕ → List ℕ
done_head serial = codes "if (!" ++ spelled (Done serial) ++ codes ") {"

-- the statement that ends a method which returns out of a group's block
abbrev pub result_given : ℕ → List ℕ
result_given serial = codes "return " ++ spelled (Result serial) ++ codes ";"
