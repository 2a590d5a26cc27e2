use Rattle.swift_journal.proofs.Prelude.{ℤ, List, ap, ◌∙◌, take, pending_of, numbers_of, pairs_from, pairs_of, reverse}
use Rattle.swift_journal.proofs.FramesReadBack.{frame_by, frame_same}
use Rattle.swift_journal.proofs.frames.read_lists.Goals as goal

pub returns : goal.returns
returns c =
    let h = c.args.head.now in
    let n = c.args.counts.now in
    ap (λ (vs : List ℤ). frame_by h vs n c.in_ok-read_numbers.field-0.items (pairs_of c.in_ok-read_own.field-0.items) (reverse c.in_ok-read_numbers-2.field-0.items) c.pending.result) c.in_ok-from_slice.ensures.items
    ∙ frame_same h c.args.variables.now n c.args.words.now
    c.in_ok-read_numbers.field-0.items c.in_ok-read_own.field-0.items c.in_ok-read_numbers-2.field-0.items c.pending.result
    (c.in_ok-read_numbers.ensures ∙ ap numbers_of c.split.ensures.front)
    (c.in_ok-read_own.ensures ∙ ap (pairs_from n.own) c.skip_handles.ensures)
    (c.in_ok-read_numbers-2.ensures ∙ ap numbers_of (c.split-2.ensures.front ∙ ap (take n.groups) c.skip_own.ensures))
    (c.pending.ensures ∙ ap (pending_of h.pending) c.skip_groups.ensures)
