-- Operands with operators between them, from the first one on.
use Rattle.plain_laws.proofs.Prelude.{◌≡◌, ◌≢◌, ℕ, suc, List, Some, None, refl, sym, ◌∙◌, Binary, SwiftTree, Joined, SpellsAtom, SpellsPrefixed, SpellsSome, SpellsOperands, negated, inverted, unprefixed, first, next, after, kind_at, operator_in, Token}
use Rattle.swift_syntax.specs.declared.sign.Sign.TheVariants as sign
use Rattle.swift_syntax.specs.declared.token.TokenKind.TheVariants as kind

-- what is taken behind an operand: operators, each with what is right of it
pub data Goes (tokens : List Token) : ℕ → ℕ → SwiftTree → ℕ → SwiftTree → Type 0 where
  stop : {m i : ℕ} {t : SwiftTree} → Goes tokens m i t i t
  go : {m i j k : ℕ} {a b t : SwiftTree} (found : Binary) → operator_in m (kind_at tokens i) ≡ Some found → SpellsOperands tokens (suc found.level) (after i) j b → Goes tokens m j (Joined found.operator i a b) k t → Goes tokens m i a k t

goes_on : {tokens : List Token} {m i j k : ℕ} {a b t : SwiftTree} (found : Binary) → Goes tokens m i a j t → operator_in m (kind_at tokens j) ≡ Some found → SpellsOperands tokens (suc found.level) (after j) k b → Goes tokens m i a k (Joined found.operator j t b)
goes_on found stop e d = go found e d stop
goes_on found (go f e' d' g) e d = go f e' d' (goes_on found g e d)

pub record Begun (tokens : List Token) (m from to : ℕ) (tree : SwiftTree) : Type 0 where
  pub mid : ℕ
  pub left : SwiftTree
  pub prefixed : SpellsPrefixed tokens from mid left
  pub goes : Goes tokens m mid left to tree

pub begun : {tokens : List Token} {m i j : ℕ} {t : SwiftTree} → SpellsSome tokens m i j t → Begun tokens m i j t
begun {j = j} {t = t} (first p) = record { mid = j; left = t; prefixed = p; goes = stop }
begun (next found s e d) =
    let b = begun s in
    record { mid = b.mid; left = b.left; prefixed = b.prefixed; goes = goes_on found b.goes e d }

pub stops : {tokens : List Token} {m i j : ℕ} {a t : SwiftTree} → operator_in m (kind_at tokens i) ≡ None → Goes tokens m i a j t → (j ≡ i) × (t ≡ a)
stops n stop = (refl, refl)
stops n (go found e d g) = let x : None ≡ Some found = sym n ∙ e in absurd cc

pub no_prefix : {tokens : List Token} {i j : ℕ} {t : SwiftTree} → kind_at tokens i ≢ kind.Sign sign.Minus → kind_at tokens i ≢ kind.Sign sign.Bang → SpellsPrefixed tokens i j t → SpellsAtom tokens i j t
no_prefix m b (negated e d) = absurd (m e)
no_prefix m b (inverted e d) = absurd (b e)
no_prefix m b (unprefixed d) = d
