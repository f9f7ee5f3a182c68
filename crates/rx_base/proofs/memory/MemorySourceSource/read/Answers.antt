use Rattle.std.proofs.Common.{ap, arith}
use Rattle.std.proofs.lemmas.List.{take_rest}
use Rattle.std.proofs.lemmas.Grind.{common_steps}
use Rattle.rx_base.proofs.Moves.{moved}
use Rattle.rx_base.proofs.memory.MemorySourceSource.read.Goals as goal

pub returns-clause-bytes : goal.returns-clause-bytes
returns-clause-bytes c =
    let front = simp (take_rest, c.as_slice.ensures) at c.fill-count.ensures.front in
    moved c.self.inside.bytes c.fill-count.new.buf _ c.self.inside.at c.fill-count.result (ap (λ s. s.left) c.self.view_is) front (λ none room. grind (arith, common_steps))
