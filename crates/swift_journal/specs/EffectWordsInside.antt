-- Effects as they are stored. Only proofs use these.
use Rattle.std.specs.Prelude.{ℕ, ℤ, List, [], ◌∷◌, ◌++◌, reverse, take, drop, length}
use Rattle.std.specs.List.{flat_map}
use Rattle.swift_interpreter.specs.Turn.{InvocationView, EffectView, spawning, detaching, opening, adding, cancelling_task, cancelling_group}
use Rattle.swift_interpreter.specs.declared.effect.Invocation.{Invocation}
use Rattle.swift_interpreter.specs.declared.effect.Effect.{Effect}
use Rattle.swift_interpreter.specs.declared.effect.Effect.TheVariants as effect
use Rattle.swift_journal.specs.Words.{pair_words, bindings_of, skip_bindings}
use Rattle.swift_journal.specs.declared.stored.StoredInvocation.{StoredInvocation}
use Rattle.swift_journal.specs.declared.stored.StoredEffect.{StoredEffect}
use Rattle.swift_journal.specs.declared.stored.StoredEffect.TheVariants.{Spawn, Detach, Open, Add, CancelTask, CancelGroup}

-- what is to run, by its head and its words
abbrev pub invocation_of : StoredInvocation → List ℤ → InvocationView
invocation_of i ws = record { actor = i.actor.0; method = i.method.0; args = take i.args ws }

abbrev pub skip_args : StoredInvocation → List ℤ → List ℤ
skip_args i ws = drop i.args ws

abbrev pub stored_invocation : Invocation → StoredInvocation
stored_invocation i = record { actor = i.actor; method = i.method; args = length i.args.items }

-- what is to run, with `n` bindings
abbrev pub bound_of : StoredInvocation → ℕ → List ℤ → InvocationView × List (ℕ × ℤ)
bound_of i n ws = (invocation_of i ws, bindings_of n (skip_args i ws))

abbrev pub skip_bound : StoredInvocation → ℕ → List ℤ → List ℤ
skip_bound i n ws = skip_bindings n (skip_args i ws)

abbrev pub bound_words : Invocation → List (ℕ × ℤ) → List ℤ
bound_words i bindings = i.args.items ++ pair_words (reverse bindings)

-- an effect, by its head and its words
abbrev pub effect_of : StoredEffect → List ℤ → EffectView
effect_of (Spawn i p n) ws = spawning (invocation_of i ws) p (bindings_of n (skip_args i ws))
effect_of (Detach i p) ws = detaching (invocation_of i ws) p
effect_of Open ws = opening
effect_of (Add g unless i p n) ws = adding g unless (invocation_of i ws) p (bindings_of n (skip_args i ws))
effect_of (CancelTask t) ws = cancelling_task t
effect_of (CancelGroup g) ws = cancelling_group g

abbrev pub skip_effect : StoredEffect → List ℤ → List ℤ
skip_effect (Spawn i p n) ws = skip_bound i n ws
skip_effect (Detach i p) ws = skip_args i ws
skip_effect Open ws = ws
skip_effect (Add g unless i p n) ws = skip_bound i n ws
skip_effect (CancelTask t) ws = ws
skip_effect (CancelGroup g) ws = ws

abbrev pub effect_words : Effect → List ℤ
effect_words (effect.Spawn i p bindings) = bound_words i bindings
effect_words (effect.Detach i p) = i.args.items
effect_words effect.Open = []
effect_words (effect.Add g unless i p bindings) = bound_words i bindings
effect_words (effect.CancelTask t) = []
effect_words (effect.CancelGroup g) = []

-- effects one after another
abbrev pub effects_of : List StoredEffect → List ℤ → List EffectView
effects_of [] ws = []
effects_of (e ∷ es) ws = effect_of e ws ∷ effects_of es (skip_effect e ws)

abbrev pub skip_effects : List StoredEffect → List ℤ → List ℤ
skip_effects [] ws = ws
skip_effects (e ∷ es) ws = skip_effects es (skip_effect e ws)

abbrev pub effects_words : List Effect → List ℤ
effects_words es = flat_map effect_words es
