use Rattle.std.proofs.Common.{◌≡◌, subst, ℕ, rules}
use Rattle.rx_run.proofs.PatternsMade.{Answered, answered_all, answered_more}
use Rattle.rx_run.proofs.generator.spellings_size.Goals as goal

pub loop-preserved : goal.loop-preserved
loop-preserved c = record {
  answered = answered_more c.args.count c.loop.counter c.args.seed c.loop.draws.state c.pattern.new.self.state c.loop.bytes _ c.in_ok-bytes.field-0 (search rules)
      c.loop.invariant.answered c.in_ok-pattern.ensures.text c.in_ok-pattern.ensures.state c.in_ok-bytes.ensures;
  bytes = search rules;
}

pub returns : goal.returns
returns c =
    let all : c.loop.counter ≡ c.args.count = search rules in
    answered_all c.args.count c.args.seed c.loop.draws.state c.loop.bytes
    (subst (λ (i : ℕ). Answered c.args.count i c.args.seed c.loop.draws.state c.loop.bytes) all c.loop.invariant.answered)
