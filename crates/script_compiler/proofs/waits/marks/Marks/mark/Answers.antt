use Rattle.script_compiler.proofs.Prelude.{false, refl, sym, ◌∙◌, get_or_read}
use Rattle.script_compiler.proofs.MarkOne.{mark_one}
use Rattle.script_compiler.proofs.waits.marks.Marks.mark.Goals as goal

pub returns-in_ok-push : goal.returns-in_ok-push
returns-in_ok-push c =
    mark_one c.args.self.now _ c.args.method c.requires
    (sym (get_or_read c.args.self.now.marked.items c.args.method c.index.result.now c.requires c.index.ensures false) ∙ c.if-not-index.true)
    refl c.in_ok-push.ensures.items
