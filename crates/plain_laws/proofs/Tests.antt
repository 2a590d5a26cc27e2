-- Tests can be written as numbers can.
use Rattle.plain_laws.proofs.Prelude.{IsWritable, as_test, ExprTree, Number, Named, Local, OwnPriority, Negated, Inverted, Both, ◌<◌, ◌^◌, ℕ, List, arith}
use Rattle.swift_types.specs.declared.operator.Operator.TheVariants as op

zero_fits : 0 < 2 ^ 63
zero_fits = omega arith

pub test_writable : (f : List ℕ → List ℕ) (e : ExprTree) → IsWritable f e → IsWritable f (as_test e)
test_writable f (Number n) w = (w, zero_fits)
test_writable f (Named x) w = (w, zero_fits)
test_writable f (Local x) w = absurd w
test_writable f OwnPriority w = absurd w
test_writable f (Negated a) w = (w, zero_fits)
test_writable f (Inverted a) w = test_writable f a w
test_writable f (Both op.Or a b) w = (test_writable f a w.0, test_writable f b w.1)
test_writable f (Both op.And a b) w = (test_writable f a w.0, test_writable f b w.1)
test_writable f (Both op.Plus a b) w = (w, zero_fits)
test_writable f (Both op.Minus a b) w = (w, zero_fits)
test_writable f (Both op.Times a b) w = (w, zero_fits)
test_writable f _ w = w
