use Rattle.script_code.proofs.Prelude.{◌≡◌, ◌++◌, ◌∷◌, [], ◌∙◌, List, map, ap, meaning_of, last_line, code_of, Instruction}
use Rattle.script_code.proofs.WholeMethods.{first_within, all_follow}
use Rattle.script_code.proofs.writing.instructions_of.Goals as goal

pub renumber-requires : goal.renumber-requires
renumber-requires c =
    let ended : map meaning_of c.write_test.new.instructions.items ≡ last_line ∷ [] = c.in_ok-write_test.ensures.lines ∙ ap (λ (xs : List Instruction). map meaning_of xs ++ last_line ∷ []) c.new-instructions.ensures.items in
    first_within (code_of c.args.statements.items) c.write_test.new.instructions.items c.write_statements.new.instructions.items c.in_ok-first.first ended
    (record { lines = c.in_ok-first.ensures.lines; start = c.in_ok-first.ensures.start })

pub returns : goal.returns
returns c =
    let ended : map meaning_of c.write_test.new.instructions.items ≡ last_line ∷ [] = c.in_ok-write_test.ensures.lines ∙ ap (λ (xs : List Instruction). map meaning_of xs ++ last_line ∷ []) c.new-instructions.ensures.items in
    all_follow c.written_code_implements.ensures (code_of c.args.statements.items) c.write_test.new.instructions.items c.write_statements.new.instructions.items c.renumber.new.instructions.items c.in_ok-first.first ended
    (record { lines = c.in_ok-first.ensures.lines; start = c.in_ok-first.ensures.start }) c.renumber.ensures
