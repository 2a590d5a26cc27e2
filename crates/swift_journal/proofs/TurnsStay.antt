-- Turns that are laid one after another stay as they are when one is put after them, and when the last ones are dropped.
use Rattle.swift_journal.proofs.Prelude.{◌≡◌, ℕ, ℤ, ◌+◌, ◌-◌, ◌≤◌, ◌<◌, List, [], ◌∷◌, ◌++◌, length, map, reverse, take, drop, get_or, refl, sym, ap, subst, ◌∙◌, arith, append_assoc, length-append, map-append, reverse-append, reverse-reverse, take-take, take_at, take_all, take-append-le, take-append-drop, take-map, drop-take, drop_at, drop_more, length_push, length-take-le, length-map, TurnSpan, AreLaid, read_at, StoredEffect}
use Rattle.swift_journal.proofs.Pairs.{map_reverse}

take_less : {X : Type 0} (m n : ℕ) (xs ys : List X) → m ≤ n → take n xs ≡ take n ys → take m xs ≡ take m ys
take_less m n xs ys h e = sym (take-take m n xs h) ∙ ap (take m) e ∙ take-take m n ys h

-- a part of two lists that agree so far
part_same : {X : Type 0} (n s k : ℕ) (xs ys : List X) → s + k ≤ n → take n xs ≡ take n ys → take k (drop s xs) ≡ take k (drop s ys)
part_same n s k xs ys h e = sym (drop-take s k xs) ∙ ap (drop s) (take_less (s + k) n xs ys h e) ∙ drop-take s k ys

turns_same : {H V : Type 0} (span : H → TurnSpan) (read : H → List ℤ → List StoredEffect → V) (hs : List H) (n m : ℕ) (ws ws' : List ℤ) (es es' : List StoredEffect)
    → AreLaid span hs n m → take n ws ≡ take n ws' → take m es ≡ take m es' → map (read_at span read ws es) hs ≡ map (read_at span read ws' es') hs
turns_same span read [] n m ws ws' es es' laid w e = refl
turns_same {V = V} span read (h ∷ hs) n m ws ws' es es' laid w e =
    let s = span h in
    let fits = laid.0 in let fits' = laid.1 in
    let old = map (read_at span read ws es) hs in
    ap (λ (x : List ℤ). read h x (take s.effects (drop s.first_effect es)) ∷ old) (part_same n s.start s.size ws ws' (omega (arith, fits)) w)
    ∙ ap (λ (x : List StoredEffect). read h (take s.size (drop s.start ws')) x ∷ old) (part_same m s.first_effect s.effects es es' (omega (arith, fits')) e)
    ∙ ap (λ (x : List V). read_at span read ws' es' h ∷ x)
    (turns_same span read hs s.start s.first_effect ws ws' es es' laid.2 (take_less s.start n ws ws' (omega (arith, fits)) w) (take_less s.first_effect m es es' (omega (arith, fits')) e))

turned : {H V : Type 0} (f : H → V) (hs : List H) → map f hs ≡ reverse (map f (reverse hs))
turned f hs = ap (map f) (sym (reverse-reverse hs)) ∙ map_reverse f (reverse hs)

pub view_same : {H V : Type 0} (span : H → TurnSpan) (read : H → List ℤ → List StoredEffect → V) (hs : List H) (n m : ℕ) (ws ws' : List ℤ) (es es' : List StoredEffect)
    → AreLaid span (reverse hs) n m → take n ws ≡ take n ws' → take m es ≡ take m es' → map (read_at span read ws es) hs ≡ map (read_at span read ws' es') hs
view_same span read hs n m ws ws' es es' laid w e =
    turned (read_at span read ws es) hs ∙ ap reverse (turns_same span read (reverse hs) n m ws ws' es es' laid w e) ∙ sym (turned (read_at span read ws' es') hs)

-- the turn that was put last reads as what was written
last_reads : {H V : Type 0} (span : H → TurnSpan) (read : H → List ℤ → List StoredEffect → V) (ws dw : List ℤ) (es de : List StoredEffect) (h : H) (r : V)
    → (span h).start ≡ length ws → (span h).first_effect ≡ length es → (span h).size ≡ length dw → (span h).effects ≡ length de
    → read h dw de ≡ r → read_at span read (ws ++ dw) (es ++ de) h ≡ r
last_reads span read ws dw es de h r start first size effects says =
    let s = span h in
    let w : take s.size (drop s.start (ws ++ dw)) ≡ dw = ap (take s.size) (drop_at ws dw s.start (sym start)) ∙ take_all s.size dw (omega (arith, size)) in
    let e : take s.effects (drop s.first_effect (es ++ de)) ≡ de = ap (take s.effects) (drop_at es de s.first_effect (sym first)) ∙ take_all s.effects de (omega (arith, effects)) in
    ap (λ (x : List ℤ). read h x (take s.effects (drop s.first_effect (es ++ de)))) w ∙ ap (λ (x : List StoredEffect). read h dw x) e ∙ says

-- one more turn
pub pushed : {H V : Type 0} (span : H → TurnSpan) (read : H → List ℤ → List StoredEffect → V) (hs hs' : List H) (ws ws' dw : List ℤ) (es es' de : List StoredEffect) (h : H) (r : V)
    → hs' ≡ hs ++ h ∷ [] → ws' ≡ ws ++ dw → es' ≡ es ++ de
    → (span h).start ≡ length ws → (span h).first_effect ≡ length es → (span h).size ≡ length dw → (span h).effects ≡ length de → read h dw de ≡ r
    → AreLaid span (reverse hs) (length ws) (length es) → map (read_at span read ws' es') hs' ≡ map (read_at span read ws es) hs ++ r ∷ []
pushed {V = V} span read hs hs' ws ws' dw es es' de h r eh ew ee start first size effects says laid =
    let new = read_at span read (ws ++ dw) (es ++ de) in
    let old = view_same span read hs (length ws) (length es) ws (ws ++ dw) es (es ++ de) laid (sym (take-append-le (length ws) ws dw (omega arith))) (sym (take-append-le (length es) es de (omega arith))) in
    ap (λ (x : List ℤ). map (read_at span read x es') hs') ew ∙ ap (λ (x : List StoredEffect). map (read_at span read (ws ++ dw) x) hs') ee ∙ ap (map new) eh
    ∙ map-append new hs (h ∷ [])
    ∙ ap (λ (x : List V). x ++ new h ∷ []) (sym old)
    ∙ ap (λ (x : V). map (read_at span read ws es) hs ++ x ∷ []) (last_reads span read ws dw es de h r start first size effects says)

pub pushed_laid : {H : Type 0} (span : H → TurnSpan) (hs hs' : List H) (ws ws' dw : List ℤ) (es es' de : List StoredEffect) (h : H)
    → hs' ≡ hs ++ h ∷ [] → ws' ≡ ws ++ dw → es' ≡ es ++ de
    → (span h).start ≡ length ws → (span h).first_effect ≡ length es → (span h).size ≡ length dw → (span h).effects ≡ length de
    → AreLaid span (reverse hs) (length ws) (length es) → AreLaid span (reverse hs') (length ws') (length es')
pushed_laid {H = H} span hs hs' ws ws' dw es es' de h eh ew ee start first size effects laid =
    let w = ap length ew ∙ length-append ws dw in
    let e = ap length ee ∙ length-append es de in
    let older : AreLaid span (reverse hs) (span h).start (span h).first_effect =
    subst (λ (n : ℕ). AreLaid span (reverse hs) n (span h).first_effect) (sym start) (subst (λ (m : ℕ). AreLaid span (reverse hs) (length ws) m) (sym first) laid) in
    subst (λ (x : List H). AreLaid span x (length ws') (length es')) (sym (ap reverse eh ∙ reverse-append hs (h ∷ [])))
    (omega (arith, w, start, size), omega (arith, e, first, effects), older)

-- the older turns end where a turn begins
pub record EndBefore (H : Type 0) (span : H → TurnSpan) (older : List H) (h : H) (n m : ℕ) : Type 0 where
  pub laid : AreLaid span older (span h).start (span h).first_effect
  pub words : (span h).start ≤ n
  pub effects : (span h).first_effect ≤ m

end_before : {H : Type 0} (span : H → TurnSpan) (newer older : List H) (h : H) (n m : ℕ) → AreLaid span (newer ++ h ∷ older) n m → EndBefore H span older h n m
end_before span [] older h n m laid =
    let fits = laid.0 in let fits' = laid.1 in
    record { laid = laid.2; words = omega (arith, fits); effects = omega (arith, fits') }
end_before span (x ∷ newer) older h n m laid =
    let below = end_before span newer older h (span x).start (span x).first_effect laid.2 in
    let fits = laid.0 in let fits' = laid.1 in let w = below.words in let e = below.effects in
    record { laid = below.laid; words = omega (arith, fits, w); effects = omega (arith, fits', e) }

turned_round : {H : Type 0} (kept dropped : List H) (h : H) → reverse (kept ++ h ∷ dropped) ≡ reverse dropped ++ h ∷ reverse kept
turned_round kept dropped h =
    reverse-append kept (h ∷ dropped) ∙ ap (λ s. s ++ reverse kept) (reverse-append (h ∷ []) dropped) ∙ append_assoc (reverse dropped) (h ∷ []) (reverse kept)

pub cut_before : {H : Type 0} (span : H → TurnSpan) (hs kept dropped : List H) (h : H) (n m : ℕ) → hs ≡ kept ++ h ∷ dropped → AreLaid span (reverse hs) n m → EndBefore H span (reverse kept) h n m
cut_before {H = H} span hs kept dropped h n m eh laid =
    end_before span (reverse dropped) (reverse kept) h n m (subst (λ (x : List H). AreLaid span x n m) (ap reverse eh ∙ turned_round kept dropped h) laid)

-- the turns from one on are dropped
pub dropped_from : {H V : Type 0} (span : H → TurnSpan) (read : H → List ℤ → List StoredEffect → V) (hs kept dropped : List H) (h : H) (ws ws' : List ℤ) (es es' : List StoredEffect)
    → hs ≡ kept ++ h ∷ dropped → ws' ≡ take (span h).start ws → es' ≡ take (span h).first_effect es
    → AreLaid span (reverse hs) (length ws) (length es) → map (read_at span read ws' es') kept ≡ take (length kept) (map (read_at span read ws es) hs)
dropped_from span read hs kept dropped h ws ws' es es' eh ew ee laid =
    let cut = cut_before span hs kept dropped h (length ws) (length es) eh laid in
    let s = span h in
    view_same span read kept s.start s.first_effect ws' ws es' es cut.laid (ap (take s.start) ew ∙ take-take s.start s.start ws (omega arith)) (ap (take s.first_effect) ee ∙ take-take s.first_effect s.first_effect es (omega arith))
    ∙ ap (map (read_at span read ws es)) (sym (ap (take (length kept)) eh ∙ take_at kept (h ∷ dropped) (length kept) refl))
    ∙ sym (take-map (read_at span read ws es) (length kept) hs)

-- those that are left end where the words and the effects now end
pub laid_before : {H : Type 0} (span : H → TurnSpan) (hs kept dropped : List H) (h : H) (ws ws' : List ℤ) (es es' : List StoredEffect)
    → hs ≡ kept ++ h ∷ dropped → ws' ≡ take (span h).start ws → es' ≡ take (span h).first_effect es
    → AreLaid span (reverse hs) (length ws) (length es) → AreLaid span (reverse kept) (length ws') (length es')
laid_before span hs kept dropped h ws ws' es es' eh ew ee laid =
    let cut = cut_before span hs kept dropped h (length ws) (length es) eh laid in
    let w : length ws' ≡ (span h).start = ap length ew ∙ length-take-le (span h).start ws cut.words in
    let e : length es' ≡ (span h).first_effect = ap length ee ∙ length-take-le (span h).first_effect es cut.effects in
    subst (λ (n : ℕ). AreLaid span (reverse kept) n (length es')) (sym w) (subst (λ (m : ℕ). AreLaid span (reverse kept) (span h).start m) (sym e) cut.laid)

-- the last turn is dropped
pub retracted : {H V : Type 0} (span : H → TurnSpan) (read : H → List ℤ → List StoredEffect → V) (hs hs' : List H) (ws ws' : List ℤ) (es es' : List StoredEffect) (h : H) (v : List V)
    → hs ≡ hs' ++ h ∷ [] → ws' ≡ take (span h).start ws → es' ≡ take (span h).first_effect es
    → AreLaid span (reverse hs) (length ws) (length es) → map (read_at span read ws es) hs ≡ v → map (read_at span read ws' es') hs' ≡ take (length v - 1) v
retracted {V = V} span read hs hs' ws ws' es es' h v eh ew ee laid is =
    let f = read_at span read ws es in
    let whole : v ≡ map f hs' ++ f h ∷ [] = sym is ∙ ap (map f) eh ∙ map-append f hs' (h ∷ []) in
    let long = ap length whole in let more = length_push (map f hs') (f h) in let same = length-map hs' f in
    let size : length hs' ≡ length v - 1 = omega (arith, long, more, same) in
    dropped_from span read hs hs' [] h ws ws' es es' eh ew ee laid ∙ ap (take (length hs')) is ∙ ap (λ (n : ℕ). take n v) size

pub split_at : {X : Type 0} (xs : List X) (n : ℕ) (x : X) → n < length xs → x ≡ get_or xs n x → xs ≡ take n xs ++ x ∷ drop (n + 1) xs
split_at {X = X} xs n x lt is = sym (take-append-drop n xs) ∙ ap (λ s. take n xs ++ s) (drop_more xs n x lt ∙ ap (λ (y : X). y ∷ drop (n + 1) xs) (sym is))
