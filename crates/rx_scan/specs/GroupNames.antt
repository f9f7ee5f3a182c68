-- What the readers of a name and of its characters answer (RegExpIdentifierName, 22.2.1).
use Rattle.std.specs.Prelude.{◌≡◌, ◌↔◌, ℕ, Bool, List, Option, Some, None}
use Rattle.rx_model.specs.Groups.GroupNameReading.{NameCharacter, character, name_of, no_character}
use Rattle.rx_model.specs.Groups.GroupNames.{IsGroupName}

-- an answer as the reading that it says
abbrev pub seen_character : Option (ℕ × ℕ) → NameCharacter
seen_character (Some c) = character c.0 c.1
seen_character None = no_character

-- the name that all units spell, or none where they spell no name
pub record IsNameOf (unicode_mode : Bool) (us : List ℕ) (found : Option (List ℕ)) : Type 0 where
  pub read : found ≡ name_of unicode_mode us
  pub name : (name : List ℕ) → (found ≡ Some name) ↔ IsGroupName unicode_mode us name
