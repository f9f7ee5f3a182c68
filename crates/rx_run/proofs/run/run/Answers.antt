use Rattle.std.proofs.Common.{subst}
use Rattle.rx_command.specs.declared.service.Service.{Service}
use Rattle.rx_command.specs.declared.command.Command.TheVariants.{Serve, Generate, Print, Json}
use Rattle.rx_run.specs.Outcome.{ReadsAndWrites}
use Rattle.rx_run.specs.Reply.{answers}
use Rattle.rx_run.specs.Status.{Outcome}
use Rattle.rx_run.proofs.Answering.{looks_at_fronts}
use Rattle.rx_run.proofs.Ending.{ended}
use Rattle.rx_run.proofs.JsonLines.{json_looks_at_fronts}
use Rattle.rx_command.proofs.Commands.{json_alone, service_once}
use Rattle.rx_run.proofs.run.run.Goals as goal

pub returns-in-None-clause-generated : goal.returns-in-None-clause-generated
returns-in-None-clause-generated g c = λ seed count is. absurd (c.in-None.ensures (Generate seed count) is)

pub returns-in-None-clause-printed : goal.returns-in-None-clause-printed
returns-in-None-clause-printed g c = λ notice is. absurd (c.in-None.ensures (Print notice) is)

pub returns-in-None-clause-json : goal.returns-in-None-clause-json
returns-in-None-clause-json g c = λ is. absurd (c.in-None.ensures Json is)

pub returns-in-Some-Serve-clause-content : goal.returns-in-Some-Serve-clause-content
returns-in-Some-Serve-clause-content g c = λ service is.
    let arm = c.in-Some-Serve in
    let new = c.run_lines.new in
    let P : Service → Type 0 = λ a. ReadsAndWrites (g.S.Source.left c.args.source.now) (g.S.Source.left new.source) (g.S.Source.drawn c.args.source.now) (g.S.Source.drawn new.source)
    (g.K.Sink.taken c.args.sink.now) (g.K.Sink.taken new.sink) (Outcome (answers a) c.run_lines.result) in
    subst P (service_once c.args.words.now arm.service service (rw arm.field-0-is at arm.ensures) is) c.run_lines.ensures.content

pub returns-in-Some-Serve-clause-end : goal.returns-in-Some-Serve-clause-end
returns-in-Some-Serve-clause-end g c = λ service is.
    let run = c.run_lines.ensures in
    ended (g.S.Source.left c.run_lines.new.source) (g.S.Source.drawn c.args.source.now) (g.S.Source.drawn c.run_lines.new.source) c.run_lines.result run.too_much run.end

pub returns-in-Some-Serve-clause-json : goal.returns-in-Some-Serve-clause-json
returns-in-Some-Serve-clause-json g c = λ json. let arm = c.in-Some-Serve in cc (json_alone c.args.words.now (Serve arm.service) json (rw arm.field-0-is at arm.ensures))

pub run_lines-requires-clause-fronts : goal.run_lines-requires-clause-fronts
run_lines-requires-clause-fronts g c = looks_at_fronts c.in-Some-Serve.service

pub run_lines-requires-in-Some-Json-clause-fronts : goal.run_lines-requires-in-Some-Json-clause-fronts
run_lines-requires-in-Some-Json-clause-fronts g c = json_looks_at_fronts
