-- Replies that count as ok exactly if they begin with `ok`.
use Rattle.std.proofs.Common.{◌≡◌, ◌∙◌, refl, ap, ℕ, Bool, ◌&&◌, List, [], ◌∷◌, ◌++◌, map}
use Rattle.std.specs.List.{AllZip, concat, list_all}
use Rattle.rx_command.specs.declared.service.Service.{Service}
use Rattle.rx_run.specs.Outcome.{AreReplies, are_ok, text_of}
use Rattle.rx_run.specs.Reply.{IsReply, answers, begins_ok}

-- a reply with whether it begins with `ok`
abbrev pub judged_reply : List ℕ → List ℕ × Bool
judged_reply reply = (reply, begins_ok reply)

pub text_of_judged : (replies : List (List ℕ)) → text_of (map judged_reply replies) ≡ concat replies
text_of_judged [] = refl
text_of_judged (reply ∷ replies) = ap (λ (x : List ℕ). reply ++ x) (text_of_judged replies)

pub are_ok_judged : (replies : List (List ℕ)) → are_ok (map judged_reply replies) ≡ list_all begins_ok replies
are_ok_judged [] = refl
are_ok_judged (reply ∷ replies) = ap (λ (b : Bool). begins_ok reply && b) (are_ok_judged replies)

module _ (service : Service) where
  -- the replies alone
  pub without_judgement : (lines : List (List ℕ)) (replies : List (List ℕ × Bool)) → AreReplies (answers service) lines replies → AllZip (IsReply service) lines (map (λ reply. reply.0) replies)
  without_judgement [] [] h = tt
  without_judgement [] (reply ∷ replies) h = absurd h
  without_judgement (line ∷ lines) [] h = absurd h
  without_judgement (line ∷ lines) (reply ∷ replies) h = (h.0.0, without_judgement lines replies h.1)

  pub with_judgement : (lines replies : List (List ℕ)) → AllZip (IsReply service) lines replies → AreReplies (answers service) lines (map judged_reply replies)
  with_judgement [] [] h = tt
  with_judgement [] (reply ∷ replies) h = absurd h
  with_judgement (line ∷ lines) [] h = absurd h
  with_judgement (line ∷ lines) (reply ∷ replies) h = ((h.0, refl), with_judgement lines replies h.1)

  pub are_ok_alone : (lines : List (List ℕ)) (replies : List (List ℕ × Bool)) → AreReplies (answers service) lines replies → are_ok replies ≡ list_all begins_ok (map (λ reply. reply.0) replies)
  are_ok_alone [] [] h = refl
  are_ok_alone [] (reply ∷ replies) h = absurd h
  are_ok_alone (line ∷ lines) [] h = absurd h
  are_ok_alone (line ∷ lines) (reply ∷ replies) h =
      ap (λ (b : Bool). b && are_ok replies) h.0.1 ∙ ap (λ (b : Bool). begins_ok reply.0 && b) (are_ok_alone lines replies h.1)
