-- What the readers of names answer, by what is read.
use Rattle.std.proofs.Common.{◌≡◌, ap, ℕ, ◌+◌, List}
use Rattle.rx_parser.proofs.Common.{NameRead, name_read, no_name_read, token_read, with_name, Token, found_front, found_name, Halt}
use Rattle.rx_parser.specs.declared.found.Found.TheVariants as found
use Rattle.rx_parser.specs.declared.name.NameFound.TheVariants as name_found

-- a name of n units
pub name_answered : (make : List ℕ → Token) (r : NameRead) (n : ℕ) → name_found.Name n ≡ found_name r → (name : List ℕ) × (with_name make r ≡ token_read (make name) (n + 4))
name_answered make (name_read name k) n h = let same : k ≡ n = cc h in (name, ap (λ k. token_read (make name) (k + 4)) same)
name_answered make (no_name_read it) n h = absurd (let no : ⊥ = cc h in no)

-- none
pub halt_answered : (make : List ℕ → Token) (r : NameRead) (it : Halt) → name_found.Halt it ≡ found_name r → found.Halt it ≡ found_front (with_name make r)
halt_answered make (name_read name k) it h = absurd (let no : ⊥ = cc h in no)
halt_answered make (no_name_read reason) it h = ap found.Halt (cc h)
