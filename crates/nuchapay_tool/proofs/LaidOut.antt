-- What is laid out spells the script that was read.
use Rattle.std.proofs.Common.{◌≡◌, ℕ, List, inl, inr, sym, subst, ◌∙◌}
use Rattle.script_parser.specs.declared.limits.TheConstants.{NESTING}
use Rattle.script_printing.specs.Printed.{printed}
use Rattle.swift_script.specs.Accepted.{IsAccepted, Spells}
use Rattle.swift_script.specs.Scripts.{ScriptView}
use Rattle.nuchapay_tool.specs.Prints.{IsLaidOutOf}

-- what is accepted again
pub read_again : (text said : List ℕ) (s : ScriptView) → IsAccepted text s → IsAccepted said s → IsLaidOutOf text said
read_again text said s accepted again = record { script = s; accepted = accepted; spells = record { decls = again.decls; spelled = again.spelled; is = again.is }; reads = inl again }

-- the printed form
pub printed_instead : (text said form : List ℕ) (s : ScriptView) → IsAccepted text s → said ≡ form → form ≡ printed s → Spells NESTING form s → IsLaidOutOf text said
printed_instead text said form s accepted same is spells = record { script = s; accepted = accepted; spells = subst (λ (t : List ℕ). Spells NESTING t s) (sym same) spells; reads = inr (same ∙ is) }
