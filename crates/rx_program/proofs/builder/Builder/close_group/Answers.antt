use Rattle.std.proofs.Common.{refl, ◌-◌}
use Rattle.std.proofs.lemmas.Result.{on_ok_weaker}
use Rattle.rx_program.proofs.BuilderSteps.{builds_capturing, program_lower}
use Rattle.rx_program.proofs.builder.Builder.close_group.Goals as goal

pub capture-requires-clause-program : goal.capture-requires-clause-program
capture-requires-clause-program c = program_lower c.args.self.now (record c.args.self.now { before = c.args.self.now.before - 1 }) refl c.requires.sound.program

pub returns : goal.returns
returns c = on_ok_weaker c.capture.result (λ r. builds_capturing c.args.self.now (record c.args.self.now { before = c.args.self.now.before - 1 }) c.capture.new.self refl c.requires.sound r) c.capture.ensures
