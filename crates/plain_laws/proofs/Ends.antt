-- What ends an expression.
use Rattle.plain_laws.proofs.Prelude.{EndsExpr, ends_before, ◌≡◌, ℕ, true, List, refl, false≢true, kind_at, Token, TokenKind}
use Rattle.swift_syntax.specs.declared.sign.Sign.TheVariants as sign
use Rattle.swift_syntax.specs.declared.token.TokenKind.TheVariants as kind
use Rattle.plain_laws.proofs.Trees.{ends_at}

pub ends : (tokens : List Token) (i : ℕ) (k : TokenKind) → kind_at tokens i ≡ k → ends_before k ≡ true → EndsExpr tokens i
ends tokens i kind.Name e h = ends_at e refl (λ d. absurd cc) (λ q. absurd cc) refl
ends tokens i (kind.Key w) e h = ends_at e refl (λ d. absurd cc) (λ q. absurd cc) refl
ends tokens i kind.End e h = ends_at e refl (λ d. absurd cc) (λ q. absurd cc) refl
ends tokens i (kind.Sign sign.Close) e h = ends_at e refl (λ d. absurd cc) (λ q. absurd cc) refl
ends tokens i (kind.Sign sign.OpenBrace) e h = ends_at e refl (λ d. absurd cc) (λ q. absurd cc) refl
ends tokens i (kind.Sign sign.CloseBrace) e h = ends_at e refl (λ d. absurd cc) (λ q. absurd cc) refl
ends tokens i (kind.Sign sign.Comma) e h = ends_at e refl (λ d. absurd cc) (λ q. absurd cc) refl
ends tokens i (kind.Sign sign.Semicolon) e h = ends_at e refl (λ d. absurd cc) (λ q. absurd cc) refl
ends tokens i _ e h = absurd (false≢true h)
