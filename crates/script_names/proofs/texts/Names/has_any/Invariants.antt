use Rattle.script_names.proofs.Prelude.{◌≡◌, drop, texts_of, share_a_name}
use Rattle.script_names.proofs.texts.Names.has_any.Given as goal

abbrev pub invariant-loop-text : goal.invariant-loop-text
invariant-loop-text l = share_a_name l.self (texts_of (drop l.text-index l.texts)) ≡ share_a_name l.self (texts_of l.texts)
