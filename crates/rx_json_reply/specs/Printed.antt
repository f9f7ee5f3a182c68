-- The text of a value.
use Rattle.std.specs.Prelude.{◌≡◌, ◌≤◌, ℕ, List, [], Some}
use Rattle.json.specs.Json.{Json, value}
use Rattle.json.specs.Lex.{tokens}
use Rattle.json.specs.Print.{print}
use Rattle.json.specs.Tree.{depth, json_tokens}

-- The text is the value as it is printed, without blanks. Read as JSON by what allows as much nesting as the value has, it is this value.
pub record IsTextOf (j : Json) (text : List ℕ) : Type 0 where
  pub printed : text ≡ print (json_tokens j)
  pub reads : (limit : ℕ) → depth j ≤ limit → value limit (tokens text) ≡ Some (j, [])
