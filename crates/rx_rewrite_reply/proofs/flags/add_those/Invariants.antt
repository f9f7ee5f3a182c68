use Rattle.std.proofs.Common.{◌≡◌, ◌++◌, take}
use Rattle.rx_rewrite_reply.specs.Replies.{flags_among}
use Rattle.rx_rewrite_reply.proofs.flags.add_those.Given as goal

abbrev pub invariant-loop-flag : goal.invariant-loop-flag
invariant-loop-flag l = l.bytes ≡ l.initial.bytes ++ flags_among l.what l.letters (take l.flag-index l.flags)
