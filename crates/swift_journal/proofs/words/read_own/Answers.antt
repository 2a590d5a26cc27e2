use Rattle.swift_journal.proofs.Prelude.{◌≡◌, ℤ, [], ◌∷◌, ◌++◌, map, ap, ◌∙◌, rules, w64, to_z, of_z, map-append, pair_of}
use Rattle.swift_journal.proofs.Pairs.{read_more, pairs_more}
use Rattle.swift_journal.proofs.words.read_own.Goals as goal

pub loop-preserved : goal.loop-preserved
loop-preserved c =
    let read = c.read_pair-value.result in
    let value : to_z w64 (of_z w64 read.1) ≡ read.1 = search rules in
    record {
      own = ap (map pair_of) c.in_ok-push.ensures.items
          ∙ map-append pair_of c.loop.own.items _
          ∙ ap (λ (z : ℤ). map pair_of c.loop.own.items ++ (read.0.0, z) ∷ []) value
          ∙ pairs_more _ _ c.loop.counter _ (read.0.0, read.1) c.loop.invariant.rest c.loop.invariant.own c.read_pair-value.ensures;
      rest = read_more _ _ _ c.loop.counter c.loop.invariant.rest c.split.ensures.back;
    }
