-- The counts after the last name.
use Rattle.script_compiler.proofs.Prelude.{◌≡◌, ◌≤◌, List, length, sym, ap, ◌∙◌, arith, get_or_past, take-length, NameKind, PlaceCounts, counts_of, AreCounts}

pub here_is : (ks : List NameKind) (cs : List PlaceCounts) (here : PlaceCounts) → AreCounts ks cs here → here ≡ counts_of ks
here_is ks cs here h =
    let past : length cs ≤ length ks = omega (arith, h.as_many) in
    sym (get_or_past cs (length ks) here past) ∙ h.each (length ks) ∙ ap counts_of (take-length ks)
