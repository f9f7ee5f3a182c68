use Rattle.std.proofs.Common.{ap, ◌∙◌, subst, List, false, length}
use Rattle.rx_program.specs.declared.step.Step.{Step}
use Rattle.rx_program.specs.Steps.{code_at}
use Rattle.rx_ast.specs.Tree.{mirror, mirror_disjunction}
use Rattle.rx_trace.specs.Answers.{pattern_trace}
use Rattle.rx_program.specs.ClassTests.{row_tests}
use Rattle.rx_match.specs.Programs.{trace_of}
use Rattle.rx_program.specs.SurveyState.{IsSurvey}
use Rattle.rx_trace.specs.declared.settings.Settings.{Settings}
use Rattle.rx_program.specs.Codes.{accept}
use Rattle.rx_program.specs.Compiled.{each_code}
use Rattle.rx_program.proofs.SurveyState.{unsupported_is}
use Rattle.rx_trace.proofs.GroupNames.{names-length-each}
use Rattle.rx_match.proofs.Answering.{outcome_same, program_trace, outcome_answered}
use Rattle.rx_match.proofs.searching.answer.Goals as goal

pub returns-in-Unsupported : goal.returns-in-Unsupported
returns-in-Unsupported c =
    let surveyed = subst (IsSurvey (mirror_disjunction c.args.pattern.now.body).1) c.in-Unsupported.is c.in_ok-span.ensures in
    (c.if-flags.false, unsupported_is (mirror c.args.pattern.now) ∙ surveyed)

pub compile-requires-clause-rows : goal.compile-requires-clause-rows
compile-requires-clause-rows c = ap row_tests c.as_slice-rows.ensures ∙ c.in_ok-classes.ensures

pub compile-requires-clause-names : goal.compile-requires-clause-names
compile-requires-clause-names c =
    let surveyed = subst (IsSurvey (mirror_disjunction c.args.pattern.now.body).1) c.in-Names.is c.in_ok-span.ensures in
    ap length (c.in_ok-groups.ensures ∙ surveyed.1) ∙ names-length-each (mirror_disjunction c.args.pattern.now.body).1

pub returns : goal.returns
returns c =
    let surveyed = subst (IsSurvey (mirror_disjunction c.args.pattern.now.body).1) c.in-Names.is c.in_ok-span.ensures in
    outcome_answered c.args.flags (mirror c.args.pattern.now) c.args.attempts.input.now _ c.args.attempts.start c.args.attempts.budget c.match_program.result c.if-flags.false (unsupported_is (mirror c.args.pattern.now) ∙ surveyed.0)
    (outcome_same (trace_of c.args.attempts.input.now c.as_slice-steps.result.now c.in_ok-program.program.entry c.len.result) (pattern_trace c.args.flags (mirror c.args.pattern.now) c.args.attempts.input.now)
    (program_trace c.args.flags (mirror c.args.pattern.now) c.args.attempts.input.now c.in_ok-groups.groups c.as_slice-steps.result.now c.in_ok-program.program.entry c.len.result (c.in_ok-groups.ensures ∙ surveyed.1)
    c.len.ensures (ap (λ (steps : List Step). code_at steps c.in_ok-program.program.entry) c.as_slice-steps.ensures ∙ c.in_ok-program.ensures.code
    ∙ ap (λ (s : Settings). each_code c.in_ok-groups.groups (mirror_disjunction c.args.pattern.now.body).1 s false 0 accept) c.settings_at_start.ensures)) _ c.args.attempts.start c.args.attempts.budget c.match_program.result c.match_program.ensures)
