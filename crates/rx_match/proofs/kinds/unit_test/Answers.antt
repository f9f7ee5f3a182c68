use Rattle.std.proofs.Common.{ap, sym, ◌∙◌, Some, arith}
use Rattle.std.specs.Option.{option_copied}
use Rattle.rx_program.specs.Codes.{consume}
use Rattle.rx_program.specs.Steps.{test_holds}
use Rattle.rx_program.specs.declared.step.Step.TheVariants as step
use Rattle.rx_program.proofs.Programs.{code_is}
use Rattle.rx_match.proofs.kinds.unit_test.Goals as goal

pub returns : goal.returns
returns c =
    let steps = c.args.program.now in
    let b = c.in-Some-Consume in
    let none = c.if-it-gt0.false in
    record {
      body = code_is steps c.args.it.body (step.Consume b.test b.next) c.requires (sym c.step_at.ensures ∙ ap option_copied b.is ∙ ap Some b.field-0-is)
          ∙ ap (consume (test_holds b.test)) (code_is steps b.next step.Accept c.requires (sym c.step_at-2.ensures ∙ ap option_copied c.in-Some-Accept.is ∙ ap Some c.in-Some-Accept.field-0-is));
      no_group = omega arith;
    }
