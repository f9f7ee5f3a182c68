-- The bytes of a reply.
use Rattle.std.proofs.Common.{◌≡◌, ◌∙◌, refl, sym, ap, append-nil, append_assoc, Bool, ℕ, List, [], ◌∷◌, ◌++◌}
use Rattle.json.specs.Json.{Json, value}
use Rattle.json.specs.Lex.{tokens}
use Rattle.json.specs.Print.{print}
use Rattle.json.specs.Token.{Token}
use Rattle.json.specs.Tree.{json_tokens}
use Rattle.json.specs.Written.{Written}
use Rattle.json.proofs.Printed.Trees.{value-json_tokens}
use Rattle.rx_json.specs.Adding.{Adds}
use Rattle.rx_json_reply.specs.Answers.{IsAnswerTo, IsJsonReply}
use Rattle.rx_json_reply.specs.Printed.{IsTextOf}

-- what is printed of a value and read back as its tokens is its text
text_of : (j : Json) (text : List ℕ) → text ≡ print (json_tokens j) → tokens text ≡ json_tokens j → IsTextOf j text
text_of j text printed back = record {
  printed = printed;
  reads = λ limit within. ap (value limit) (back ∙ sym (append-nil (json_tokens j))) ∙ value-json_tokens j limit [] within;
}

-- what a writer gives back after the tokens of an answer, and LF
pub reply_made : (line : List ℕ) (answer : Json) (ok : Bool) (old new : Written) (start bytes : List ℕ) → IsAnswerTo line answer ok → old.before ≡ start → old.tokens ≡ []
    → Adds old new (json_tokens answer) → bytes ≡ new.before ++ print new.tokens → tokens (print new.tokens) ≡ new.tokens
    → (reply : List ℕ) × IsJsonReply line reply ok × (bytes ++ 10 ∷ [] ≡ start ++ reply)
reply_made line answer ok old new start bytes answers before none added items back =
    let text : List ℕ = print (json_tokens answer) in
    let written : new.tokens ≡ json_tokens answer = added.tokens ∙ ap (λ (ts : List Token). ts ++ json_tokens answer) none in
    let text_is : IsTextOf answer text = text_of answer text refl (ap (λ (ts : List Token). tokens (print ts)) (sym written) ∙ back ∙ written) in
    let bytes_are : bytes ≡ start ++ text = items ∙ ap (λ (ts : List Token). new.before ++ print ts) written ∙ ap (λ (xs : List ℕ). xs ++ text) (added.before ∙ before) in (
      text ++ 10 ∷ [],
      record { answer = answer; answers = answers; text = text; text_is = text_is; line_is = refl },
      ap (λ (xs : List ℕ). xs ++ 10 ∷ []) bytes_are ∙ append_assoc start text (10 ∷ []),
    )
