use Rattle.script_parser.proofs.Prelude.{map, length, sym, length-map, err_from_is_err_and, piece}
use Rattle.script_parser.proofs.Whole.{found_of, tree_of, none_of, not_accepted}
use Rattle.script_parser.proofs.script.parse.Goals as goal

pub returns-clause-found : goal.returns-clause-found
returns-clause-found c = found_of (length c.args.tokens.now) (map piece c.args.tokens.now) _ _ (sym (length-map c.args.tokens.now piece)) c.in_ok-decls.ensures

pub returns-clause-accepted : goal.returns-clause-accepted
returns-clause-accepted c = tree_of (length c.args.tokens.now) (map piece c.args.tokens.now) _ _ (sym (length-map c.args.tokens.now piece)) c.in_ok-decls.ensures

pub returns-in_err-decls-clause-refused : goal.returns-in_err-decls-clause-refused
returns-in_err-decls-clause-refused c =
    let p = err_from_is_err_and c.from_residual.result c.from_residual.ensures.1 in
    rw (p.1, p.2) (none_of (length c.args.tokens.now) (map piece c.args.tokens.now) c.in_err-decls.field-0.0 (sym (length-map c.args.tokens.now piece)) c.in_err-decls.ensures)

pub returns-in_err-decls-clause-accepted : goal.returns-in_err-decls-clause-accepted
returns-in_err-decls-clause-accepted c =
    let p = err_from_is_err_and c.from_residual.result c.from_residual.ensures.1 in
    λ tree d. rw (p.1, p.2) (not_accepted (map piece c.args.tokens.now) tree c.in_err-decls.field-0.0 (none_of (length c.args.tokens.now) (map piece c.args.tokens.now) c.in_err-decls.field-0.0 (sym (length-map c.args.tokens.now piece)) c.in_err-decls.ensures) d)
