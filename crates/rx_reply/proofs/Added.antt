-- What is added is a reply.
use Rattle.std.proofs.Common.{◌≡◌, refl, ℕ, List, ◌++◌, Option, Some, None}
use Rattle.rx_reply.specs.Added.{IsAdded}

pub added_reply : (o : Option (List ℕ)) (old new : List ℕ) → IsAdded o old new → (reply : List ℕ) × (o ≡ Some reply) × (new ≡ old ++ reply)
added_reply None old new added = absurd added
added_reply (Some reply) old new added = (reply, refl, added)
