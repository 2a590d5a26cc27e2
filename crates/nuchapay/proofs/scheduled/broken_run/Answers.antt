use Rattle.nuchapay.proofs.scheduled.broken_run.Goals as goal

pub returns-in-None : goal.returns-in-None
returns-in-None c = λ all. c.in_ok-found.ensures.unbroken all c.in-None.is
