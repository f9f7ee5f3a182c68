-- What a line is answered. docs/JSON.md shows the fields of each reply.
use Rattle.std.specs.Prelude.{◌≡◌, ℕ, Bool, true, false, List, [], ◌∷◌, ◌++◌, codes, Ok, Err}
use Rattle.json.specs.Json as json
use Rattle.json.specs.Json.{Json}
use Rattle.rx_base.specs.Ascii as ascii
use Rattle.rx_base.specs.declared.diagnostic.Diagnostic.{Diagnostic}
use Rattle.rx_ast.specs.declared.term.Pattern.{Pattern}
use Rattle.rx_model.specs.declared.mode.Mode.{Mode}
use Rattle.rx_model.specs.Reading.Headline.{IsFirstRefusal, IsReadAs, IsValid}
use Rattle.rx_refusal.specs.declared.field.Field.{Field as Side}
use Rattle.rx_refusal.specs.Fields.{IsFieldOf}
use Rattle.rx_json.specs.Values.{object_of}
use Rattle.rx_json_reply.specs.Lines.{IsValueOf}
use Rattle.rx_json_reply.specs.Parts.{bad_fields, begun, read_fields, refused_fields}
use Rattle.rx_json_reply.specs.Printed.{IsTextOf}
use Rattle.rx_json_reply.specs.Requests.{Asked, id_of, input_of, request_of}
use Rattle.rx_json_reply.specs.Wrongs.{Wrong}

-- What is answered to what is asked, and whether its status is `ok`: what is asked is read, and that is told of it which is asked for; or its flags or text are
-- refused, so that it is no valid one, with the first refusal.
pub data IsAnswer (id : Json) (asked : Asked) : Json → Bool → Type 0 where
  read : (mode : Mode) (pattern : Pattern) → IsReadAs (input_of asked) mode pattern
      → IsAnswer id asked (object_of (begun id (codes "ok") ++ read_fields (input_of asked) asked.want mode pattern)) true
  refused : (refusal : Diagnostic) (side : Side) → ¬ IsValid (input_of asked) → IsFirstRefusal (input_of asked) refusal → IsFieldOf (input_of asked) refusal side
      → IsAnswer id asked (object_of (begun id (codes "refused") ++ refused_fields (input_of asked) side refusal)) false

abbrev pub bad_json : Json → Wrong → Json
bad_json id wrong = object_of (begun id (codes "bad") ++ bad_fields wrong)

-- What a line is answered: it is no value; or a value that asks for nothing; or it asks for something that is answered so.
pub data IsAnswerTo (line : List ℕ) : Json → Bool → Type 0 where
  no_value : (wrong : Wrong) → IsValueOf line (Err wrong) → IsAnswerTo line (bad_json json.null wrong) false
  no_request : (j : Json) (wrong : Wrong) → IsValueOf line (Ok j) → request_of j ≡ Err wrong → IsAnswerTo line (bad_json (id_of j) wrong) false
  answered : (j : Json) (asked : Asked) (answer : Json) (ok : Bool) → IsValueOf line (Ok j) → request_of j ≡ Ok asked → IsAnswer (id_of j) asked answer ok
      → IsAnswerTo line answer ok

-- The reply to a line is the text of what the line is answered, and LF.
pub record IsJsonReply (line reply : List ℕ) (ok : Bool) : Type 0 where
  pub answer : Json
  pub answers : IsAnswerTo line answer ok
  pub text : List ℕ
  pub text_is : IsTextOf answer text
  pub line_is : reply ≡ text ++ ascii.line_feed ∷ []
