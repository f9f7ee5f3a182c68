-- What replies are made of, and the replies to lines past the limit.
use Rattle.std.proofs.Common.{◌≡◌, ◌<◌, ◌≤◌, refl, sym, ap, ◌∙◌, subst, inl, inr, ℕ, Bool, true, ◌&&◌, Ok, Err, List, ◌++◌, append_assoc, codes, drop, encode_utf8_all, length, length-append, arith}
use Rattle.std.proofs.lemmas.Bool.{cases_lt}
use Rattle.std.proofs.lemmas.List.{take_all, length-take-le}
use Rattle.std.proofs.Math.Bool.{and-true}
use Rattle.std.proofs.Math.Seq.{drop-append_seam}
use Rattle.rx_base.specs.declared.diagnostic.Diagnostic.{Diagnostic}
use Rattle.rx_base.specs.declared.fault.Fault.TheVariants as fault
use Rattle.rx_ast.specs.declared.term.Pattern.{Pattern}
use Rattle.rx_model.specs.declared.mode.Mode.{Mode}
use Rattle.rx_model.specs.Reading.Headline.{IsAnswered}
use Rattle.rx_tools.specs.Spelled.{read_of}
use Rattle.rx_tools.specs.Utf8.{utf8}
use Rattle.rx_tools.proofs.CanonicalAnswers.{first_of, read_as}
use Rattle.rx_command.specs.declared.answer.Answering.{Answering}
use Rattle.rx_command.specs.declared.service.Service.{Service}
use Rattle.rx_run.specs.Request.{Request}
use Rattle.rx_run.specs.Reply.{IsAsked, IsReply, IsSaid, answers, bad, said, err, bad_reply, begins_ok, canonical_reply, err_reply, input_of, mode_name}
use Rattle.rx_run.specs.Serving.{LooksAtFronts, line_front}

-- the parts of a reply with the spelling, added after one another
pub canonical_reply_added : (old first second third text : List ℕ) (mode : Mode) → first ≡ old ++ (codes "ok\t" ++ mode_name mode ++ codes "\t") → second ≡ first ++ utf8 text
    → third ≡ second ++ codes "\n" → third ≡ old ++ canonical_reply mode text
unfolding utf8
canonical_reply_added old first second third text mode e f g =
    let front : List ℕ = codes "ok\t" ++ mode_name mode ++ codes "\t" in
    g ∙ ap (λ (x : List ℕ). x ++ codes "\n") (f ∙ ap (λ (x : List ℕ). x ++ encode_utf8_all text) e ∙ append_assoc old front (encode_utf8_all text))
    ∙ append_assoc old (front ++ encode_utf8_all text) (codes "\n")

pub kept-short : (line : List ℕ) → length line ≤ 1048577 → line_front line ≡ line
unfolding line_front
kept-short line short = take_all 1048577 line short

pub length-kept : (line : List ℕ) → 1048577 ≤ length line → length (line_front line) ≡ 1048577
unfolding line_front
length-kept line long = length-take-le 1048577 line long

-- a reply that begins with `ok` leaves the flag
pub ok_added : (P : List ℕ → Type 0) (reply old new : List ℕ) (was is : Bool) → P reply → begins_ok reply ≡ true → is ≡ was → new ≡ old ++ reply
    → (reply : List ℕ) × P reply × (new ≡ old ++ reply) × (is ≡ (was && begins_ok reply))
ok_added P reply old new was is holds begins line_front added = (reply, holds, added, line_front ∙ sym (ap (λ (b : Bool). was && b) begins ∙ and-true was))

-- where an added reply begins
pub judged_start : {P : List ℕ → Type 0} (old new : List ℕ) (start : ℕ) → start ≡ length old → (reply : List ℕ) × P reply × (new ≡ old ++ reply) → start ≤ length new
judged_start old new start at added = let longer = ap length added.2 ∙ length-append old added.0 in omega arith

-- a reply that was added, and then judged
pub judged : {P : List ℕ → Type 0} (old new last : List ℕ) (start : ℕ) (was is : Bool) → start ≡ length old → (reply : List ℕ) × P reply × (new ≡ old ++ reply) → last ≡ new → is ≡ (was && begins_ok (drop start new))
    → (reply : List ℕ) × P reply × (last ≡ old ++ reply) × (is ≡ (was && begins_ok reply))
judged old new last start was is at added line_front noted =
    let left : drop start new ≡ added.0 = ap (λ k. drop k new) at ∙ ap (drop (length old)) added.2 ∙ drop-append_seam old added.0 in
    (added.0, added.1, line_front ∙ added.2, noted ∙ ap (λ reply. was && begins_ok reply) left)

-- in a line past the limit nothing is asked
long_asks_nothing : (answering : Answering) (line : List ℕ) (request : Request) → 1048576 < length line → IsAsked answering line request → ⊥
long_asks_nothing answering line request long is = let short : length line ≤ 1048576 = is.asked.within in omega arith

module _ {service : Service} where
  -- what is said of a tree, as it was made
  pub said_is : (line : List ℕ) (request : Request) (it : Pattern × Mode) (reply : List ℕ) → IsAsked service.answering line request → IsAnswered read_of (input_of service.dialect request) (Ok it)
      → IsSaid service.answering request it.1 it.0 reply → IsReply service line reply
  said_is line request it reply asked answered is = said request it.1 it.0 reply asked (read_as read_of (input_of service.dialect request) it answered) is

  -- an `err` reply, as it was made
  pub err_reply_is : (line : List ℕ) (request : Request) (refusal : Diagnostic) → IsAsked service.answering line request
      → IsAnswered read_of (input_of service.dialect request) (Err (fault.Diagnostic refusal)) → IsReply service line (err_reply refusal)
  err_reply_is line request refusal asked answered =
      let parsed = answered.parsed in
      err request refusal asked (λ valid. let e = parsed.complete valid in let no : ⊥ = cc e in no) (first_of (input_of service.dialect request) refusal parsed.refused)

  -- a line past the limit has exactly the reply `bad`
  long_is_bad : (line : List ℕ) → 1048576 < length line → IsReply service line bad_reply
  long_is_bad line long = bad (λ request is. long_asks_nothing service.answering line request long is)

  bad_if_long : (line reply : List ℕ) → 1048576 < length line → IsReply service line reply → reply ≡ bad_reply
  bad_if_long line reply long (bad none) = refl
  bad_if_long line reply long (said request mode pattern _ asked read is) = absurd (long_asks_nothing service.answering line request long asked)
  bad_if_long line reply long (err request refusal asked none first) = absurd (long_asks_nothing service.answering line request long asked)

  long_alike : (line line' reply : List ℕ) → 1048576 < length line → 1048576 < length line' → IsReply service line reply → IsReply service line' reply
  long_alike line line' reply long long' is =
      let P : List ℕ → Type 0 = λ r. IsReply service line' r in subst P (sym (bad_if_long line reply long is)) (long_is_bad line' long')

  -- the line and as much of it as is kept have the same replies
  pub IsReply-kept : (line reply : List ℕ) → IsReply service (line_front line) reply → IsReply service line reply
  IsReply-kept line reply is = elim (cases_lt 1048577 (length line)) [
    | inl long ↦ long_alike (line_front line) line reply (let len : length (line_front line) ≡ 1048577 = length-kept line (omega arith) in omega arith) (omega arith) is
    | inr short ↦ let P : List ℕ → Type 0 = λ x. IsReply service x reply in subst P (kept-short line short) is
  ]

  pub IsReply-of_kept : (line reply : List ℕ) → IsReply service line reply → IsReply service (line_front line) reply
  IsReply-of_kept line reply is = elim (cases_lt 1048577 (length line)) [
    | inl long ↦ long_alike line (line_front line) reply (omega arith) (let len : length (line_front line) ≡ 1048577 = length-kept line (omega arith) in omega arith) is
    | inr short ↦ let P : List ℕ → Type 0 = λ x. IsReply service x reply in subst P (sym (kept-short line short)) is
  ]

pub looks_at_fronts : (service : Service) → LooksAtFronts (answers service)
looks_at_fronts service line reply ok = (λ is. (IsReply-kept line reply is.0, is.1), λ is. (IsReply-of_kept line reply is.0, is.1))
