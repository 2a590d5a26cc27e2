use Rattle.swift_script.proofs.Prelude.{◌≡◌, ◌≤◌, ℕ, List, length, rules, sym, subst, IsUtf8, BYTES, NESTING, printed, Spells, IsAccepted}
use Rattle.std.specs.String.{string_bytes}
use Rattle.swift_script.proofs.Printing.{printed_utf8, printed_spells, printed_accepted}
use Rattle.swift_script.proofs.printed.print_script.Goals as goal

pub unwrap-requires : goal.unwrap-requires
unwrap-requires c =
    let was = c.printed.ensures.accepted in
    let same : printed c.args.script.now ≡ c.in_ok-bytes.bytes.items = search rules in
    c.from_utf8.ensures.succeeds (subst (λ (text : List ℕ). IsUtf8 text) same (printed_utf8 was.0 c.args.script.now was.1))

pub returns-clause-spelled : goal.returns-clause-spelled
returns-clause-spelled c =
    let was = c.printed.ensures.accepted in
    let same : printed c.args.script.now ≡ string_bytes c.unwrap.result = search rules in
    subst (λ (text : List ℕ). Spells NESTING text c.args.script.now) same (printed_spells was.0 c.args.script.now was.1)

pub returns-clause-accepted : goal.returns-clause-accepted
returns-clause-accepted c = λ short.
    let was = c.printed.ensures.accepted in
    let same : printed c.args.script.now ≡ string_bytes c.unwrap.result = search rules in
    subst (λ (text : List ℕ). IsAccepted text c.args.script.now) same (printed_accepted was.0 c.args.script.now was.1 (subst (λ (text : List ℕ). length text ≤ BYTES) (sym same) short))
