use Rattle.std.proofs.Common.{◌-◌, ◌∙◌, ◌++◌, ap, ℕ, List, arith}
use Rattle.rx_run.specs.Generator.{piece}
use Rattle.rx_run.proofs.PatternsMade.{pieces_done, pieces_more, state_done, state_more}
use Rattle.rx_run.proofs.generator.Draws.add_pieces.Goals as goal

pub loop-preserved : goal.loop-preserved
loop-preserved c =
    let loop = c.loop in
    let draw = c.draw in
    record {
      text = pieces_more c.args.count loop.counter loop.self.state draw.new.self.state loop.text c.push_str.new.self _ (omega arith) loop.invariant.text draw.ensures.state
          (c.in_ok-push_str.ensures.ok ∙ ap (λ (w : List ℕ). loop.text ++ w) (c.piece.ensures ∙ ap piece draw.ensures.number));
      state = state_more c.args.count loop.counter loop.self.state draw.new.self.state _ (omega arith) loop.invariant.state draw.ensures.state;
    }

pub returns-clause-text : goal.returns-clause-text
returns-clause-text c =
    pieces_done (c.args.count - c.loop.counter) c.loop.self.state c.loop.text _ (omega arith) c.loop.invariant.text

pub returns-clause-state : goal.returns-clause-state
returns-clause-state c =
    state_done (c.args.count - c.loop.counter) c.loop.self.state _ (omega arith) c.loop.invariant.state
