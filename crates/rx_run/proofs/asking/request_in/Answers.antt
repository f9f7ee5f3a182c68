use Rattle.rx_run.proofs.asking.request_in.Goals as goal

pub returns-in_err-request-clause-asked : goal.returns-in_err-request-clause-asked
returns-in_err-request-clause-asked c = rw c.from_residual.ensures (λ request is. c.in_err-request.ensures.asked request is.asked)
