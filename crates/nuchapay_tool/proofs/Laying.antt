-- Steps of laying tokens out.
use Rattle.std.proofs.Common.{◌≡◌, ◌<◌, ◌≤◌, ◌+◌, ℕ, List, [], ◌∷◌, ◌++◌, length, take, get_or, sym, subst, ◌∙◌, ap, append_assoc}
use Rattle.std.proofs.lemmas.List.{take_more, take_all}
use Rattle.script_tokens.specs.declared.token.Token.{Token}
use Rattle.nuchapay_tool.specs.LayoutsInside.{HasNoFeed, LaysOut, comment_line, token_text, space, line_feed, comment, token}

-- a space more
pub lays_space : (ts : List Token) (old new : List ℕ) → new ≡ old ++ 32 ∷ [] → LaysOut ts old → LaysOut ts new
lays_space ts old new is laid = subst (λ (t : List ℕ). LaysOut ts t) (sym is) (space laid)

-- a line feed more
pub lays_feed : (ts : List Token) (old new : List ℕ) → new ≡ old ++ 10 ∷ [] → LaysOut ts old → LaysOut ts new
lays_feed ts old new is laid = subst (λ (t : List ℕ). LaysOut ts t) (sym is) (line_feed laid)

-- four spaces more
pub lays_indent : (ts : List Token) (old new : List ℕ) → new ≡ old ++ 32 ∷ 32 ∷ 32 ∷ 32 ∷ [] → LaysOut ts old → LaysOut ts new
lays_indent ts old new is laid =
    let one = old ++ 32 ∷ [] in
    let two = one ++ 32 ∷ [] in
    let three = two ++ 32 ∷ [] in
    let first : one ++ 32 ∷ 32 ∷ 32 ∷ [] ≡ old ++ 32 ∷ 32 ∷ 32 ∷ 32 ∷ [] = append_assoc old (32 ∷ []) (32 ∷ 32 ∷ 32 ∷ []) in
    let second : two ++ 32 ∷ 32 ∷ [] ≡ one ++ 32 ∷ 32 ∷ 32 ∷ [] = append_assoc one (32 ∷ []) (32 ∷ 32 ∷ []) in
    let third : three ++ 32 ∷ [] ≡ two ++ 32 ∷ 32 ∷ [] = append_assoc two (32 ∷ []) (32 ∷ []) in
    subst (λ (t : List ℕ). LaysOut ts t) (third ∙ second ∙ first ∙ sym is) (space (space (space (space laid))))

-- a token more
pub lays_token : (ts : List Token) (old new : List ℕ) (t : Token) → new ≡ old ++ token_text t → LaysOut ts old → LaysOut (ts ++ t ∷ []) new
lays_token ts old new t is laid = subst (λ (x : List ℕ). LaysOut (ts ++ t ∷ []) x) (sym is) (token t laid)

-- the next of all tokens
pub lays_next : (all : List Token) (place : ℕ) (t : Token) (text : List ℕ) → place < length all → t ≡ get_or all place t → LaysOut (take place all ++ t ∷ []) text → LaysOut (take (place + 1) all) text
lays_next all place t text lt is laid =
    let whole : take (place + 1) all ≡ take place all ++ t ∷ [] = take_more all place t lt ∙ ap (λ (x : Token). take place all ++ x ∷ []) (sym is) in
    subst (λ (ts : List Token). LaysOut ts text) (sym whole) laid

-- all tokens
pub lays_all : (all : List Token) (place : ℕ) (text : List ℕ) → length all ≤ place → LaysOut (take place all) text → LaysOut all text
lays_all all place text past laid = subst (λ (ts : List Token). LaysOut ts text) (take_all place all past) laid

-- a comment more
pub lays_comment : (ts : List Token) (old new c : List ℕ) → new ≡ old ++ comment_line c → HasNoFeed c → LaysOut ts old → LaysOut ts new
lays_comment ts old new c is none laid = subst (λ (t : List ℕ). LaysOut ts t) (sym is) (comment c none laid)
