use Rattle.script_names.proofs.Prelude.{◌≡◌, drop, sym, ap, ◌∙◌, drop-map, text_is, texts_of, share_a_name}
use Rattle.script_names.proofs.Shared.{either_way, others_decide}
use Rattle.script_names.proofs.texts.Names.has_any_of.Goals as goal

pub returns-then-len-cleared : goal.returns-then-len-cleared
returns-then-len-cleared c =
    let same : texts_of c.as_slice.result.now ≡ c.args.self.now = ap texts_of c.as_slice.ensures.keys ∙ c.self.view_is in
    c.has_any.ensures ∙ ap (share_a_name c.args.others.now) same ∙ either_way c.args.others.now c.args.self.now

pub returns-else-len-cleared : goal.returns-else-len-cleared
returns-else-len-cleared c =
    let same : texts_of c.as_slice-else-len-cleared.result.now ≡ c.args.others.now = ap texts_of c.as_slice-else-len-cleared.ensures.keys ∙ c.others.view_is in
    let newer : texts_of (drop c.args.cleared c.as_slice-else-len-cleared.result.now) ≡ drop c.args.cleared c.args.others.now = sym (drop-map text_is c.args.cleared c.as_slice-else-len-cleared.result.now) ∙ ap (drop c.args.cleared) same in
    c.has_any-else-len-cleared.ensures ∙ ap (λ ts. share_a_name c.args.self.now (texts_of ts)) c.split_at.ensures.back ∙ ap (share_a_name c.args.self.now) newer ∙ others_decide c.args.cleared c.args.self.now c.args.others.now c.requires.cleared
