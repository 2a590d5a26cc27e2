-- What is written of effects reads back.
use Rattle.swift_journal.proofs.Prelude.{◌≡◌, ℕ, ℤ, ◌+◌, ◌<◌, List, [], ◌∷◌, ◌++◌, length, reverse, take, get_or, refl, sym, ap, subst, ◌∙◌, append_assoc, drop-append_seam, take-append_seam, append-nil, take_more, map_more, drop_at, length-reverse, reverse-reverse, invocation_view, effect_view, effect_views, InvocationView, EffectView, Effect, invocation_of, skip_args, stored_invocation, bound_of, skip_bound, bound_words, effect_of, skip_effect, effect_words, effects_words, effects_of, skip_effects, since, ReadsBack, AreNarrow, pair_words, bindings_of, skip_bindings, StoredEffect}
use Rattle.std.proofs.lemmas.Grind.{flat_map-append}
use Rattle.swift_interpreter.specs.declared.effect.Invocation.{Invocation}
use Rattle.swift_journal.specs.declared.stored.StoredInvocation.{StoredInvocation}
use Rattle.swift_journal.proofs.Gained.{since_same}
use Rattle.swift_journal.proofs.Pairs.{pairs_back, length-pair_words}

-- a function of what was read
pub reads_back_map : {X Y : Type 0} (f : X → Y) (reading : List ℤ → X) (skip : List ℤ → List ℤ) (words : List ℤ) (value : X)
    → ReadsBack X reading skip words value → ReadsBack Y (λ ws. f (reading ws)) skip words (f value)
reads_back_map f reading skip words value k = record { reads = λ rest. ap f (k.reads rest); leaves = k.leaves }

-- bindings, by how many they are
pub bindings_read_back : (bs : List (ℕ × ℤ)) (n : ℕ) → n ≡ length bs → AreNarrow (reverse bs) → ReadsBack (List (ℕ × ℤ)) (bindings_of n) (skip_bindings n) (pair_words (reverse bs)) bs
bindings_read_back bs n count fit =
    let size = length-reverse bs ∙ sym count in
    record {
      reads = λ rest. ap (λ (m : ℕ). bindings_of m (pair_words (reverse bs) ++ rest)) (sym size) ∙ ap reverse (pairs_back (reverse bs) rest ∙ fit) ∙ reverse-reverse bs;
      leaves = λ rest. drop_at (pair_words (reverse bs)) rest (n + n) (length-pair_words (reverse bs) ∙ ap (λ (m : ℕ). m + m) size);
    }

pub invocation_reads_back : (i : Invocation) → ReadsBack InvocationView (invocation_of (stored_invocation i)) (skip_args (stored_invocation i)) i.args.items (invocation_view i)
invocation_reads_back i = record {
  reads = λ rest. ap (λ (s : List ℤ). record (invocation_view i) { args = s }) (take-append_seam i.args.items rest);
  leaves = λ rest. drop-append_seam i.args.items rest;
}

pub invocation_reads_back_by : (i : Invocation) (s : StoredInvocation) → s ≡ stored_invocation i → ReadsBack InvocationView (invocation_of s) (skip_args s) i.args.items (invocation_view i)
invocation_reads_back_by i s e = subst (λ (x : StoredInvocation). ReadsBack InvocationView (invocation_of x) (skip_args x) i.args.items (invocation_view i)) (sym e) (invocation_reads_back i)

pub bound_reads_back : (i : Invocation) (s : StoredInvocation) (bs : List (ℕ × ℤ)) (n : ℕ) → s ≡ stored_invocation i → n ≡ length bs → AreNarrow (reverse bs)
    → ReadsBack (InvocationView × List (ℕ × ℤ)) (bound_of s n) (skip_bound s n) (bound_words i bs) (invocation_view i, bs)
bound_reads_back i s bs n e count fit =
    let ki = invocation_reads_back_by i s e in
    let kb = bindings_read_back bs n count fit in
    let cut : (rest : List ℤ) → bound_words i bs ++ rest ≡ i.args.items ++ (pair_words (reverse bs) ++ rest) = λ rest. append_assoc i.args.items (pair_words (reverse bs)) rest in
    record {
      reads = λ rest. ap (bound_of s n) (cut rest)
          ∙ ap (λ (x : InvocationView). (x, bindings_of n (skip_args s (i.args.items ++ (pair_words (reverse bs) ++ rest))))) (ki.reads (pair_words (reverse bs) ++ rest))
          ∙ ap (λ (x : List (ℕ × ℤ)). (invocation_view i, x)) (ap (bindings_of n) (ki.leaves (pair_words (reverse bs) ++ rest)) ∙ kb.reads rest);
      leaves = λ rest. ap (skip_bound s n) (cut rest) ∙ ap (skip_bindings n) (ki.leaves (pair_words (reverse bs) ++ rest)) ∙ kb.leaves rest;
    }

-- no effect
pub none_read_back : (es : List StoredEffect) → ReadsBack (List EffectView) (effects_of (since es es)) (skip_effects (since es es)) [] []
none_read_back es =
    subst (λ (s : List StoredEffect). ReadsBack (List EffectView) (effects_of s) (skip_effects s) [] []) (sym (since_same es)) (record { reads = λ rest. refl; leaves = λ rest. refl })

-- one effect more
effects_of_push : (es : List StoredEffect) (e : StoredEffect) (ws : List ℤ) → effects_of (es ++ e ∷ []) ws ≡ effects_of es ws ++ effect_of e (skip_effects es ws) ∷ []
effects_of_push [] e ws = refl
effects_of_push (x ∷ es) e ws = ap (λ s. effect_of x ws ∷ s) (effects_of_push es e (skip_effect x ws))

skip_effects_push : (es : List StoredEffect) (e : StoredEffect) (ws : List ℤ) → skip_effects (es ++ e ∷ []) ws ≡ skip_effect e (skip_effects es ws)
skip_effects_push [] e ws = refl
skip_effects_push (x ∷ es) e ws = skip_effects_push es e (skip_effect x ws)

pub effects_read_back_push : (es : List StoredEffect) (e : StoredEffect) (words w : List ℤ) (views : List EffectView) (v : EffectView)
    → ReadsBack (List EffectView) (effects_of es) (skip_effects es) words views → ReadsBack EffectView (effect_of e) (skip_effect e) w v
    → ReadsBack (List EffectView) (effects_of (es ++ e ∷ [])) (skip_effects (es ++ e ∷ [])) (words ++ w) (views ++ v ∷ [])
effects_read_back_push es e words w views v ks k = record {
  reads = λ rest. ap (effects_of (es ++ e ∷ [])) (append_assoc words w rest) ∙ effects_of_push es e (words ++ (w ++ rest))
      ∙ ap (λ s. s ++ effect_of e (skip_effects es (words ++ (w ++ rest))) ∷ []) (ks.reads (w ++ rest))
      ∙ ap (λ (x : EffectView). views ++ x ∷ []) (ap (effect_of e) (ks.leaves (w ++ rest)) ∙ k.reads rest);
  leaves = λ rest. ap (skip_effects (es ++ e ∷ [])) (append_assoc words w rest) ∙ skip_effects_push es e (words ++ (w ++ rest))
      ∙ ap (skip_effect e) (ks.leaves (w ++ rest)) ∙ k.leaves rest;
}

-- a step of a loop that writes effects
words_taken : (es : List Effect) (k : ℕ) (e : Effect) → k < length es → e ≡ get_or es k e → effects_words (take (k + 1) es) ≡ effects_words (take k es) ++ effect_words e
words_taken es k e h is =
    ap effects_words (take_more es k e h ∙ ap (λ (x : Effect). take k es ++ x ∷ []) (sym is))
    ∙ flat_map-append effect_words (take k es) (e ∷ []) ∙ ap (λ s. effects_words (take k es) ++ s) (append-nil (effect_words e))

views_taken : (es : List Effect) (k : ℕ) (e : Effect) → k < length es → e ≡ get_or es k e → effect_views (take (k + 1) es) ≡ effect_views (take k es) ++ effect_view e ∷ []
views_taken es k e h is = map_more effect_view es k e h ∙ ap (λ (x : Effect). effect_views (take k es) ++ effect_view x ∷ []) (sym is)

pub effects_written_more : (es : List Effect) (k : ℕ) (e : Effect) (w0 w w' : List ℤ) → k < length es → e ≡ get_or es k e
    → w ≡ w0 ++ effects_words (take k es) → w' ≡ w ++ effect_words e → w' ≡ w0 ++ effects_words (take (k + 1) es)
effects_written_more es k e w0 w w' h is before after =
    after ∙ ap (λ s. s ++ effect_words e) before ∙ append_assoc w0 (effects_words (take k es)) (effect_words e) ∙ ap (λ s. w0 ++ s) (sym (words_taken es k e h is))

pub effects_read_back_more : (es : List Effect) (k : ℕ) (e : Effect) (list list' : List StoredEffect) (s : StoredEffect) → k < length es → e ≡ get_or es k e → list' ≡ list ++ s ∷ []
    → ReadsBack (List EffectView) (effects_of list) (skip_effects list) (effects_words (take k es)) (effect_views (take k es))
    → ReadsBack EffectView (effect_of s) (skip_effect s) (effect_words e) (effect_view e)
    → ReadsBack (List EffectView) (effects_of list') (skip_effects list') (effects_words (take (k + 1) es)) (effect_views (take (k + 1) es))
effects_read_back_more es k e list list' s h is pushed ks kept =
    let more = effects_read_back_push list s (effects_words (take k es)) (effect_words e) (effect_views (take k es)) (effect_view e) ks kept in
    subst (λ (l : List StoredEffect). ReadsBack (List EffectView) (effects_of l) (skip_effects l) (effects_words (take (k + 1) es)) (effect_views (take (k + 1) es))) (sym pushed)
    (subst (λ (w : List ℤ). ReadsBack (List EffectView) (effects_of (list ++ s ∷ [])) (skip_effects (list ++ s ∷ [])) w (effect_views (take (k + 1) es))) (sym (words_taken es k e h is))
    (subst (λ (v : List EffectView). ReadsBack (List EffectView) (effects_of (list ++ s ∷ [])) (skip_effects (list ++ s ∷ [])) (effects_words (take k es) ++ effect_words e) v) (sym (views_taken es k e h is)) more))
