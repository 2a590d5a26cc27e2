use Rattle.swift_ledger.proofs.Prelude.{◌∙◌, ap, Life, lived}
use Rattle.swift_ledger.proofs.LivesLemmas.{made_lives, made_open, made_reserved}
use Rattle.swift_ledger.proofs.lives.Lives.add.Goals as goal

pub returns-clause-lives : goal.returns-clause-lives
returns-clause-lives c =
    let r = c.requires in
    record {
      lives = c.push_reserved.ensures.items ∙ made_lives c.args.roots c.args.log.now.events c.args.event c.args.self.now.lives.items c.after.result r.log r.fits r.made r.lives.lives (c.after.ensures ∙ ap (λ (l : Life). lived l c.args.event) c.unborn.ensures);
      open_tasks = made_open c.args.roots c.args.log.now.events c.args.event c.args.self.now.open_tasks r.log r.fits r.made r.lives.open_tasks;
      reserved = made_reserved c.args.roots c.args.log.now.events c.args.event c.args.self.now.reserved r.log r.fits r.made r.lives.reserved;
    }
