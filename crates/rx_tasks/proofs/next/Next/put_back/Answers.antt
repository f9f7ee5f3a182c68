use Rattle.std.proofs.Common.{ap, ◌∷◌, ◌∙◌}
use Rattle.rx_tasks.proofs.Turns.{popped, pushed}
use Rattle.rx_tasks.proofs.next.Next.put_back.Goals as goal

pub returns-in-Nothing : goal.returns-in-Nothing
returns-in-Nothing g c = rw c.in-Nothing.is (popped _ _ _ c.pop.ensures)

pub returns-in_ok-push-in-Two : goal.returns-in_ok-push-in-Two
returns-in_ok-push-in-Two g c = rw c.in-Two.is (ap (λ ts. c.in-Two.first ∷ ts) (pushed _ _ _ c.in_ok-push-in-Two.ensures.ok))

pub returns-in_ok-push-in-Three-2 : goal.returns-in_ok-push-in-Three-2
returns-in_ok-push-in-Three-2 g c =
    rw c.in-Three.is (ap (λ ts. c.in-Three.first ∷ ts) (pushed _ _ _ c.in_ok-push-in-Three-2.ensures.ok ∙ ap (λ ts. c.in-Three.second ∷ ts) (pushed _ _ _ c.in_ok-push-in-Three.ensures.ok)))
