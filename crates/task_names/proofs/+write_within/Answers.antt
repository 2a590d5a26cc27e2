use Rattle.std.proofs.Common.{rules, ◌≡◌, ◌++◌, OnOk, ℕ, suc, ◌+◌, ◌-◌, ◌<◌, length, List, take, sym, subst, ap, append_assoc, ◌∙◌, arith}
use Rattle.std.specs.Prelude.{None, Some, codes, decimal}
use Rattle.std.proofs.lemmas.Result.{on_ok_weaker}
use Rattle.task_names.specs.Names.{made_of, name_within}
use Rattle.task_names.proofs.Naming.{name_at, put_name}
use Rattle.task_names.proofs.+write_within.Goals as goal

pub returns-in-None : goal.returns-in-None
returns-in-None t c =
    let es = c.args.endings.now in
    let more : c.args.tasks ≡ suc (c.args.tasks - 1) = omega arith in
    let lt : c.args.task.0 < length es = omega arith in
    let named = name_at c.args.script.now es c.args.tasks (c.args.tasks - 1) c.args.task.0 _ None more lt (sym c.in-None.ensures) in
    subst (λ (l : List ℕ). OnOk c.extend_from_slice.result (c.extend_from_slice.new.self.items ≡ c.args.out.now.items ++ l)) (sym named) (search rules)

pub returns-in_ok-extend_from_slice-in-Some : goal.returns-in_ok-extend_from_slice-in-Some
returns-in_ok-extend_from_slice-in-Some t c =
    let p = c.args.script.now in
    let es = c.args.endings.now in
    let maker = c.in-Some.maker in
    let before = c.args.tasks - 1 in
    let name = name_within before p es maker.0 in
    let more : c.args.tasks ≡ suc (c.args.tasks - 1) = omega arith in
    let lt : c.args.task.0 < length es = omega arith in
    let many : c.made_of.result ≡ made_of (take (c.args.task.0 + 1) es) maker = search rules in
    let told : List ℕ = name ++ (codes "/" ++ decimal (made_of (take (c.args.task.0 + 1) es) maker)) in
    let made = decimal (made_of (take (c.args.task.0 + 1) es) maker) in
    let named : name_within c.args.tasks p es c.args.task.0 ≡ told = name_at p es c.args.tasks before c.args.task.0 _ (Some maker) more lt (sym c.in-Some.ensures) ∙ append_assoc name (codes "/") made in
    let numbered : told ≡ name ++ (codes "/" ++ decimal c.made_of.result) = ap (λ (n : ℕ). name ++ (codes "/" ++ decimal n)) (sym many) in
    subst (λ (l : List ℕ). OnOk c.number.result (c.number.new.out.items ≡ c.args.out.now.items ++ l)) (sym (named ∙ numbered))
    (on_ok_weaker c.number.result
    (λ (last : c.number.new.out.items ≡ c.extend_from_slice-in-Some.new.self.items ++ decimal c.made_of.result).
    put_name c.args.out.now.items c.write_within.new.out.items _ c.number.new.out.items name (codes "/") (decimal c.made_of.result)
    c.in_ok-write_within-in-Some.ensures c.in_ok-extend_from_slice-in-Some.ensures.items last)
    c.number.ensures)
