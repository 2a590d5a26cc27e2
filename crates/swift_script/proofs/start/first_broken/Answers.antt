use Rattle.swift_script.proofs.Prelude.{sym, ◌∙◌, RootWaits, NoneEarlier, tree_of}
use Rattle.swift_script.proofs.Finishing.{none_waits, some_at}
use Rattle.swift_script.proofs.start.first_broken.Goals as goal

pub returns-in-None-2-clause-waits : goal.returns-in-None-2-clause-waits
returns-in-None-2-clause-waits c =
    none_waits (tree_of c.args.declarations.now) c.in_ok-first_waiting_root-in-None.field-0 c.in-None-2.is (c.in_ok-first_waiting_root-in-None.ensures.none _ c.requires.compiled)

pub returns-in-Some-2-clause-broken : goal.returns-in-Some-2-clause-broken
returns-in-Some-2-clause-broken c =
    let s = tree_of c.args.declarations.now in
    let found = c.in_ok-first_waiting_root-in-None in
    record {
      starts = sym (c.in_ok-first_false.ensures _ c.requires.compiled) ∙ c.in-None.is;
      waits = some_at (RootWaits s) found.field-0 c.in-Some-2.root c.in-Some-2.is (found.ensures.found _ c.requires.compiled);
      first = some_at (NoneEarlier s) found.field-0 c.in-Some-2.root c.in-Some-2.is (found.ensures.first _ c.requires.compiled);
    }
