-- What is written of a Swift program. No public clause names it. (Own.)
use Rattle.std.specs.Prelude.{◌≡◌, ◌++◌, ℕ, List, IsFalse}
use Rattle.swift_programs.specs.declared.page.SwiftPage.{SwiftPage}

-- These bytes are put after what a page has, unless memory runs out; then the page says so from there on.
abbrev pub GoesOn : SwiftPage → SwiftPage → List ℕ → Type 0
GoesOn p q w = IsFalse q.is_cut → IsFalse p.is_cut × (q.text.items ≡ p.text.items ++ w)
