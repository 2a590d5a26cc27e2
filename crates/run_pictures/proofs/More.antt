-- One more turn has its box.
use Rattle.run_pictures.proofs.Prelude.{◌≡◌, ℕ, ◌+◌, ◌<◌, List, [], ◌∷◌, ◌++◌, length, drop, map, get_or, sym, ap, ◌∙◌, append_assoc, drop_more, RecordView, box_of}
use Rattle.run_pictures.specs.declared.picture.boxes.TurnBox.{TurnBox}
use Rattle.run_pictures.proofs.Ranges.{first_of}

boxes_from : (e place : ℕ) (j : List RecordView) (b : TurnBox) → place < length j → ((d : RecordView) → b ≡ box_of e (get_or j place d))
    → map (box_of e) (drop place j) ≡ b ∷ map (box_of e) (drop (place + 1) j)
boxes_from e place j b lt is =
    let d = first_of j place lt in
    ap (map (box_of e)) (drop_more j place d lt)
    ∙ ap (λ (x : TurnBox). x ∷ map (box_of e) (drop (place + 1) j)) (sym (is d))

-- a step of the loop that adds them
pub boxes_more : (e place : ℕ) (j : List RecordView) (b : TurnBox) (old new whole : List TurnBox) → place < length j → ((d : RecordView) → b ≡ box_of e (get_or j place d))
    → new ≡ old ++ b ∷ [] → old ++ map (box_of e) (drop place j) ≡ whole → new ++ map (box_of e) (drop (place + 1) j) ≡ whole
boxes_more e place j b old new whole lt is written before =
    let rest = map (box_of e) (drop (place + 1) j) in
    ap (λ (x : List TurnBox). x ++ rest) written
    ∙ append_assoc old (b ∷ []) rest
    ∙ ap (λ (x : List TurnBox). old ++ x) (sym (boxes_from e place j b lt is))
    ∙ before
