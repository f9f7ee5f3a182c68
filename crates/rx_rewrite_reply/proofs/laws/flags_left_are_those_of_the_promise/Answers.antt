use Rattle.rx_rewrite_reply.proofs.FlagsLeft.{each_left, match_flags_left, mode_left, right_left}
use Rattle.rx_rewrite_reply.proofs.laws.flags_left_are_those_of_the_promise.Goals as goal

pub returns-clause-flags : goal.returns-clause-flags
returns-clause-flags c = λ what letters mode. match_flags_left what letters mode

pub returns-clause-each : goal.returns-clause-each
returns-clause-each c = λ what letters flag is. each_left what letters flag is

pub returns-clause-mode : goal.returns-clause-mode
returns-clause-mode c = λ what letters. mode_left what letters

pub returns-clause-right : goal.returns-clause-right
returns-clause-right c = λ what letters right. right_left what letters right
