-- Texts that are being written (our own).
use Rattle.std.specs.Prelude.{◌≡◌, ℕ, false, List, ◌++◌}
use Rattle.nuchapay_runs.specs.declared.text.Text.{Text}

-- A text goes on with these words, unless memory ran out.
pub record Says (old new : Text) (words : List ℕ) : Type 0 where
  pub said : new.is_cut ≡ false → (old.is_cut ≡ false) × (new.bytes.items ≡ old.bytes.items ++ words)
