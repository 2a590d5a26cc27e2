use Rattle.swift_undo.proofs.Prelude.{◌≡◌, Some, length, refl, sym, ◌∙◌, slice_get, slice_get_past, slice_get_read, rows_of}
use Rattle.swift_undo.proofs.AllAreTested.{none_there, one_false, one_there}
use Rattle.swift_undo.proofs.tested.holds_there.Goals as goal

pub returns-in-Some-clause-all : goal.returns-in-Some-clause-all
returns-in-Some-clause-all c = λ is.
    let xs = c.args.invariants.now in
    let x = c.in-Some.invariant.now in
    let got : slice_get xs c.args.place ≡ Some x = slice_get_read xs (length xs) c.args.place x refl c.in-Some.ensures.lookup.3.0 c.in-Some.ensures.lookup.1 in
    one_there xs c.args.place x (rows_of c.args.fields.now) got (sym c.holds.ensures ∙ is)

pub returns-in-Some-clause-one : goal.returns-in-Some-clause-one
returns-in-Some-clause-one c = λ is.
    let xs = c.args.invariants.now in
    let x = c.in-Some.invariant.now in
    let got : slice_get xs c.args.place ≡ Some x = slice_get_read xs (length xs) c.args.place x refl c.in-Some.ensures.lookup.3.0 c.in-Some.ensures.lookup.1 in
    one_false xs c.args.place x (rows_of c.args.fields.now) got (sym c.holds.ensures ∙ is)

pub returns-in-None-clause-all : goal.returns-in-None-clause-all
returns-in-None-clause-all c = λ is. none_there c.args.invariants.now c.args.place (rows_of c.args.fields.now) (slice_get_past c.args.invariants.now c.args.place c.in-None.ensures.lookup.3)
