-- A script is no larger than the text that spells it, and has no more names.
use Rattle.swift_script.proofs.Prelude.{ℕ, ◌≤◌, List, length, arith, BYTES, few_tokens, DeclTree, script_size, names_in, IsPlain, SpellsDecls}
use Rattle.script_grammar.proofs.Short.{script_short}
use Rattle.script_names.proofs.Few.{names_few}

pub no_larger : (limit : ℕ) (text : List ℕ) (decls : List DeclTree) → SpellsDecls limit text decls → script_size decls ≤ length text
no_larger limit text decls s = omega (arith, script_short s.spelled, few_tokens s.lexed)

pub within_limit : (limit : ℕ) (text : List ℕ) (decls : List DeclTree) → IsPlain text → SpellsDecls limit text decls → script_size decls ≤ BYTES
within_limit limit text decls p s = omega (arith, no_larger limit text decls s, p.short)

pub no_more_names : (limit : ℕ) (text : List ℕ) (decls : List DeclTree) → SpellsDecls limit text decls → names_in decls ≤ length text
no_more_names limit text decls s = omega (arith, names_few s.spelled, few_tokens s.lexed)

pub names_within_limit : (limit : ℕ) (text : List ℕ) (decls : List DeclTree) → IsPlain text → SpellsDecls limit text decls → names_in decls ≤ BYTES
names_within_limit limit text decls p s = omega (arith, no_more_names limit text decls s, p.short)
