use Rattle.rx_ast.specs.Tree.{mirror_disjunction}
use Rattle.rx_program.specs.SurveyState.{all_looks, rests_of}
use Rattle.rx_program.proofs.SurveyState.{Surveys}
use Rattle.rx_program.proofs.survey.survey_tree.Given as goal

abbrev pub invariant-loop-rest : goal.invariant-loop-rest
invariant-loop-rest l = Surveys l.surveyor (mirror_disjunction l.body).1

abbrev pub decreases-loop-rest : goal.decreases-loop-rest
decreases-loop-rest l = all_looks (rests_of l.surveyor)
