use Rattle.swift_journal.proofs.Prelude.{◌≡◌, pos, ◌++◌, map, take, sym, ap, ◌∙◌, arith, take_all, numbers_of}
use Rattle.swift_journal.proofs.words.write_numbers.Goals as goal

pub returns-clause-words : goal.returns-clause-words
returns-clause-words c =
    c.loop-number.invariant.words ∙ ap (λ ns. c.args.words.now.written ++ map pos ns) (take_all c.loop-number.number-index c.args.numbers.now (omega (arith, c.loop-number-test.false)))

pub returns-clause-narrow : goal.returns-clause-narrow
returns-clause-narrow c =
    let numbers = c.args.numbers.now in
    let all : take c.loop-number.number-index numbers ≡ numbers = take_all c.loop-number.number-index numbers (omega (arith, c.loop-number-test.false)) in
    sym (ap (λ ns. numbers_of (map pos ns)) all) ∙ c.loop-number.invariant.narrow ∙ all
