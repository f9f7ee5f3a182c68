-- A line that is too long to be read has the same replies as its front.
use Rattle.std.proofs.Common.{◌<◌, sym, subst, inl, inr, ℕ, Bool, List, length, arith}
use Rattle.std.proofs.lemmas.Bool.{cases_lt}
use Rattle.rx_json_reply.specs.Answers.{IsAnswerTo, IsJsonReply, no_value, no_request, answered}
use Rattle.rx_json_reply.specs.Lines.{IsValueOf, too_long, no_text, no_value as no_json, value}
use Rattle.rx_run.specs.Serving.{LooksAtFronts, line_front}
use Rattle.rx_run.proofs.Answering.{kept-short, length-kept}

long_value : (line line' : List ℕ) (r : _) → 1048576 < length line → 1048576 < length line' → IsValueOf line r → IsValueOf line' r
long_value line line' r long long' (too_long past) = too_long long'
long_value line line' r long long' (no_text short other) = absurd (omega arith)
long_value line line' r long long' (no_json short text none) = absurd (omega arith)
long_value line line' r long long' (value j short text is) = absurd (omega arith)

long_answer : (line line' : List ℕ) (answer : _) (ok : Bool) → 1048576 < length line → 1048576 < length line' → IsAnswerTo line answer ok → IsAnswerTo line' answer ok
long_answer line line' answer ok long long' (no_value wrong is) = no_value wrong (long_value line line' _ long long' is)
long_answer line line' answer ok long long' (no_request j wrong is e) = no_request j wrong (long_value line line' _ long long' is) e
long_answer line line' answer ok long long' (answered j asked _ _ is e says) = answered j asked _ _ (long_value line line' _ long long' is) e says

long_alike : (line line' reply : List ℕ) (ok : Bool) → 1048576 < length line → 1048576 < length line' → IsJsonReply line reply ok → IsJsonReply line' reply ok
long_alike line line' reply ok long long' is = record {
  answer = is.answer;
  answers = long_answer line line' is.answer ok long long' is.answers;
  text = is.text;
  text_is = is.text_is;
  line_is = is.line_is;
}

pub json_looks_at_fronts : LooksAtFronts IsJsonReply
json_looks_at_fronts line reply ok =
    let P : List ℕ → Type 0 = λ x. IsJsonReply x reply ok in
    elim (cases_lt 1048577 (length line)) [
      | inl long ↦
          let kept : 1048576 < length (line_front line) = (let len = length-kept line (omega arith) in omega (arith, len)) in
          let past : 1048576 < length line = omega arith in
          (long_alike (line_front line) line reply ok kept past, long_alike line (line_front line) reply ok past kept)
      | inr short ↦ (subst P (kept-short line short), subst P (sym (kept-short line short)))
    ]
