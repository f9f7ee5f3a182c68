use Rattle.rx_command.proofs.service.Service.parse.Goals as goal

pub returns-in_err-answering : goal.returns-in_err-answering
returns-in_err-answering c = rw c.from_residual.ensures (λ service is. c.in_err-answering.ensures service.answering ((c.split-dialect.ensures service.dialect service.answering).0 is).1)
