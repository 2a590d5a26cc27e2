-- What is written, token by token.
use Rattle.script_printing.proofs.Prelude.{◌≡◌, ◌++◌, ◌∷◌, [], ℕ, List, ap, sym, refl, ◌∙◌, append_assoc, ◌+◌, ◌<◌, length, map, take, drop, ◌≤◌, ℤ, arith, Result, Ok, Err, OnOk, append-nil, map-id, map_more, get_or, flat_map, TokenView, DeclTree, Executes, Binds, Acts, Roots, ScriptView, after_comma, listed, pieces_of_decl, text_of, spaced, line_of, printed}
use Rattle.std.proofs.lemmas.List.Concat.{flat_map-append}
use Rattle.script_printing.specs.Printed.{after}

pub spaced-append : (ps qs : List TokenView) → spaced (ps ++ qs) ≡ spaced ps ++ spaced qs
spaced-append [] qs = refl
spaced-append (p ∷ ps) qs = ap (λ bs. 32 ∷ (text_of p ++ bs)) (spaced-append ps qs) ∙ ap (λ bs. 32 ∷ bs) (sym (append_assoc (text_of p) (spaced ps) (spaced qs)))

-- tokens after tokens
pub after_after : (bytes : List ℕ) (ps qs : List TokenView) → after (after bytes ps) qs ≡ after bytes (ps ++ qs)
unfolding after
after_after bytes ps qs = append_assoc bytes (spaced ps) (spaced qs) ∙ ap (λ bs. bytes ++ bs) (sym (spaced-append ps qs))

-- tokens after tokens, unless memory ran out
pub then_after : {A E : Type 0} (r : Result A E) (start before now : List ℕ) (ps qs : List TokenView) → before ≡ after start ps → OnOk r (now ≡ after before qs) → OnOk r (now ≡ after start (ps ++ qs))
then_after (Ok x) start before now ps qs p q = q ∙ ap (λ bytes. after bytes qs) p ∙ after_after start ps qs
then_after (Err e) start before now ps qs p q = q

-- no tokens
pub after_none : (bytes : List ℕ) → after bytes [] ≡ bytes
unfolding after
after_none bytes = append-nil bytes

-- one more of a list
flat_map_next : {X A B : Type 0} (f : A → List B) (view : X → A) (xs : List X) (i : ℕ) (x : X) → i < length xs → x ≡ get_or xs i x → flat_map f (map view (take (i + 1) xs)) ≡ flat_map f (map view (take i xs)) ++ f (view x)
flat_map_next f view xs i x h e =
    ap (flat_map f) (map_more view xs i x h) ∙ flat_map-append f (map view (take i xs)) (view (get_or xs i x) ∷ []) ∙ ap (λ ps. flat_map f (map view (take i xs)) ++ ps) (append-nil (f (view (get_or xs i x))) ∙ ap (λ y. f (view y)) (sym e))

-- the bytes of one more of a list
pub wrote_next : {X A : Type 0} (f : A → List ℕ) (view : X → A) (xs : List X) (i : ℕ) (x : X) → i < length xs → x ≡ get_or xs i x → (start before now : List ℕ) → before ≡ start ++ flat_map f (map view (take i xs)) → now ≡ before ++ f (view x) → now ≡ start ++ flat_map f (map view (take (i + 1) xs))
wrote_next f view xs i x h e start before now p q =
    q ∙ ap (λ bytes. bytes ++ f (view x)) p ∙ append_assoc start (flat_map f (map view (take i xs))) (f (view x)) ∙ ap (λ bytes. start ++ bytes) (sym (flat_map_next f view xs i x h e))

-- the tokens of one more of a list
pub after_next : {X A : Type 0} (f : A → List TokenView) (view : X → A) (xs : List X) (i : ℕ) (x : X) → i < length xs → x ≡ get_or xs i x → (start before now : List ℕ) → before ≡ after start (flat_map f (map view (take i xs))) → now ≡ after before (f (view x)) → now ≡ after start (flat_map f (map view (take (i + 1) xs)))
after_next f view xs i x h e start before now p q =
    q ∙ ap (λ bytes. after bytes (f (view x))) p ∙ after_after start (flat_map f (map view (take i xs))) (f (view x)) ∙ ap (after start) (sym (flat_map_next f view xs i x h e))

-- an empty list
pub after_no_list : {X A : Type 0} (f : A → List TokenView) (view : X → A) (xs : List X) → length xs < 1 → (bytes : List ℕ) → bytes ≡ after bytes (listed f (map view xs))
after_no_list f view [] h bytes = sym (after_none bytes)
after_no_list f view (x ∷ xs) h bytes = absurd (omega arith)

-- the first of a list, and the others
pub after_list : {X A : Type 0} (f : A → List TokenView) (view : X → A) (xs : List X) (x : X) → 1 ≤ length xs → x ≡ get_or xs 0 x → (start before now : List ℕ) → before ≡ after start (f (view x)) → now ≡ after before (flat_map (after_comma f) (map view (drop 1 xs))) → now ≡ after start (listed f (map view xs))
after_list f view [] x h e start before now p q = absurd (omega arith)
after_list f view (y ∷ xs) x h e start before now p q =
    q ∙ ap (λ bytes. after bytes (flat_map (after_comma f) (map view xs))) (p ∙ ap (λ z. after start (f (view z))) e) ∙ after_after start (f (view y)) (flat_map (after_comma f) (map view xs))

pub same_list : (ns : List ℤ) → map (λ n. n) ns ≡ ns
same_list ns = map-id ns

-- the lines of declarations of one kind
lines_of : {A : Type 0} (decl : A → DeclTree) (xs : List A) → flat_map (λ x. line_of (pieces_of_decl (decl x))) xs ≡ flat_map (λ d. line_of (pieces_of_decl d)) (map decl xs)
lines_of decl [] = refl
lines_of decl (x ∷ xs) = ap (λ bs. line_of (pieces_of_decl (decl x)) ++ bs) (lines_of decl xs)

-- the lines of a script, kind by kind
script_lines : (s : ScriptView) → printed s ≡ flat_map (λ x. line_of (pieces_of_decl (Executes x))) s.executors ++ (flat_map (λ l. line_of (pieces_of_decl (Binds l))) s.locals ++ (flat_map (λ a. line_of (pieces_of_decl (Acts a))) s.actors ++ flat_map (λ r. line_of (pieces_of_decl (Roots r))) s.roots))
script_lines s =
    let line : DeclTree → List ℕ = λ d. line_of (pieces_of_decl d) in
    let executors = map Executes s.executors in
    let locals = map Binds s.locals in
    let actors = map Acts s.actors in
    let roots = map Roots s.roots in
    rw (lines_of Executes s.executors, lines_of Binds s.locals, lines_of Acts s.actors, lines_of Roots s.roots)
    (flat_map-append line executors (locals ++ (actors ++ roots)) ∙ ap (λ bs. flat_map line executors ++ bs) (flat_map-append line locals (actors ++ roots) ∙ ap (λ bs. flat_map line locals ++ bs) (flat_map-append line actors roots)))

-- the kinds of declarations, written one after the other
pub script_written : (s : ScriptView) (start first second third last : List ℕ) → start ≡ [] → first ≡ start ++ flat_map (λ x. line_of (pieces_of_decl (Executes x))) s.executors → second ≡ first ++ flat_map (λ l. line_of (pieces_of_decl (Binds l))) s.locals → third ≡ second ++ flat_map (λ a. line_of (pieces_of_decl (Acts a))) s.actors → last ≡ third ++ flat_map (λ r. line_of (pieces_of_decl (Roots r))) s.roots → last ≡ printed s
script_written s start first second third last e f g h k =
    let executors = flat_map (λ x. line_of (pieces_of_decl (Executes x))) s.executors in
    let locals = flat_map (λ l. line_of (pieces_of_decl (Binds l))) s.locals in
    let actors = flat_map (λ a. line_of (pieces_of_decl (Acts a))) s.actors in
    let roots = flat_map (λ r. line_of (pieces_of_decl (Roots r))) s.roots in
    k ∙ ap (λ bs. bs ++ roots) (h ∙ ap (λ bs. bs ++ actors) (g ∙ ap (λ bs. bs ++ locals) (f ∙ ap (λ bs. bs ++ executors) e)))
    ∙ append_assoc (executors ++ locals) actors roots ∙ append_assoc executors locals (actors ++ roots) ∙ sym (script_lines s)
