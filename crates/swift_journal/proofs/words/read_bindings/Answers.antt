use Rattle.swift_journal.proofs.Prelude.{◌≡◌, ℤ, ◌∷◌, ap, ◌∙◌, rules, w64, to_z, of_z}
use Rattle.swift_journal.proofs.Pairs.{read_more, pairs_more_reversed}
use Rattle.swift_journal.proofs.words.read_bindings.Goals as goal

pub loop-preserved : goal.loop-preserved
loop-preserved c =
    let read = c.read_pair-value.result in
    let value : to_z w64 (of_z w64 read.1) ≡ read.1 = search rules in
    record {
      bindings = c.in_ok-bind.ensures.ok
          ∙ ap (λ (z : ℤ). (read.0.0, z) ∷ c.loop.bindings) value
          ∙ pairs_more_reversed _ _ c.loop.counter _ (read.0.0, read.1) c.loop.invariant.rest c.loop.invariant.bindings c.read_pair-value.ensures;
      rest = read_more _ _ _ c.loop.counter c.loop.invariant.rest c.split.ensures.back;
    }
