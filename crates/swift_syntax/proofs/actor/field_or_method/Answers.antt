use Rattle.std.proofs.Common.{[]}
use Rattle.swift_syntax.specs.Declarations.{SetsVariable, SpellsAccess, SpellsMember, SpellsMethod}
use Rattle.swift_syntax.specs.DeclaringInside.{PutsField}
use Rattle.swift_syntax.specs.Statements.{Row}
use Rattle.swift_syntax.proofs.DeclaredRows.{both_stay, took_then}
use Rattle.swift_syntax.proofs.Members.{field_behind, method_behind, took_settable}
use Rattle.swift_syntax.proofs.Statements.{lexed_stays}
use Rattle.swift_syntax.proofs.Steps.{then, took_call}
use Rattle.swift_syntax.proofs.actor.field_or_method.Goals as goal

pub returns-in-Key-Var : goal.returns-in-Key-Var
returns-in-Key-Var c =
    let who = took_call c.args.reader.now c.access-access.new.reader (λ l i j. SpellsAccess l i j c.access-access.result) c.access-access.ensures.spelled c.access-access.ensures.grows in
    let same = took_settable c.access-access.new.reader c.want_var.new.reader c.args.reader.now.at c.want_var.ensures.same c.want_var.ensures.settable c.want_var.ensures.grows in
    let set_stays = lexed_stays (λ l. Row l [] c.access-access.new.reader.at c.want_var.new.reader.at × SetsVariable l c.args.reader.now.at c.access-access.new.reader.at) in
    let stays = lexed_stays (λ l. SpellsAccess l c.args.reader.now.at c.access-access.new.reader.at c.access-access.result) in
    took_then c.args.reader.now c.want_var.new.reader c.field.new.reader (λ s. PutsField s c.args.actor c.access-access.result) (λ s. SpellsMember s c.args.actor) (both_stay stays set_stays) (then _ _ _ stays who same) c.field.ensures (λ n a u v x d. field_behind a x.0 x.1 d)

pub returns-in-Key-Func : goal.returns-in-Key-Func
returns-in-Key-Func c =
    let who = took_call c.args.reader.now c.access-access.new.reader (λ l i j. SpellsAccess l i j c.access-access.result) c.access-access.ensures.spelled c.access-access.ensures.grows in
    let same = took_settable c.access-access.new.reader c.want_var.new.reader c.args.reader.now.at c.want_var.ensures.same c.want_var.ensures.settable c.want_var.ensures.grows in
    let set_stays = lexed_stays (λ l. Row l [] c.access-access.new.reader.at c.want_var.new.reader.at × SetsVariable l c.args.reader.now.at c.access-access.new.reader.at) in
    let stays = lexed_stays (λ l. SpellsAccess l c.args.reader.now.at c.access-access.new.reader.at c.access-access.result) in
    took_then c.args.reader.now c.want_var.new.reader c.method.new.reader (λ s. SpellsMethod s c.args.actor c.access-access.result) (λ s. SpellsMember s c.args.actor) (both_stay stays set_stays) (then _ _ _ stays who same) c.method.ensures (λ n a u v x d. method_behind a x.0 x.1 d)
