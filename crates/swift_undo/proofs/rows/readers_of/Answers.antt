use Rattle.swift_undo.proofs.Prelude.{ℕ, List, get_or, refl, subst, arith, take_all, AreListed, places_of}
use Rattle.swift_undo.proofs.ReadRows.{listed_more}
use Rattle.swift_undo.proofs.rows.readers_of.Goals as goal

pub loop-place-preserved : goal.loop-place-preserved
loop-place-preserved c =
    listed_more (places_of c.loop-place.readers.items) (places_of c.add_reader.new.readers.items) c.args.rows.now c.loop-place.place (get_or c.args.rows.now c.loop-place.place 0)
    c.loop-place-test.true refl c.loop-place.invariant c.in_ok-add_reader.ensures.there c.in_ok-add_reader.ensures.kept

pub returns : goal.returns
returns c = subst (λ (rows : List ℕ). AreListed (places_of c.loop-place.readers.items) rows) (take_all c.loop-place.place c.args.rows.now (omega (arith, c.loop-place-test.false))) c.loop-place.invariant
