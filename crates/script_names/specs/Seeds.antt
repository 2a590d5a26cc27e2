-- With what the hash of a name begins (our own).
use Rattle.std.specs.Prelude.{ℕ, List, fold}
use Rattle.std.specs.Hash as fed
use Rattle.std.specs.Hash.DefaultHasher as sip
use Rattle.std.specs.Hash.FoldHasher as folding
use Rattle.std.specs.declared.hash.FoldHasher.{FoldHasher}

-- a hasher that was given the hash of a text, which is its SipHash
abbrev pub begun_with : List ℕ → FoldHasher
begun_with text = fold folding.write folding.initial (fed.u64 (sip.finish (sip.write sip.initial text)))
