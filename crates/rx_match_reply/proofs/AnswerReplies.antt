-- The replies to what the matcher answers.
use Rattle.std.proofs.Common.{◌≡◌, subst, ℕ, List, ◌++◌, length, Option, Result}
use Rattle.rx_ast.specs.Tree.{Whole}
use Rattle.rx_trace.specs.declared.answer.Found.{Found}
use Rattle.rx_trace.specs.declared.answer.MatchFlags.{MatchFlags}
use Rattle.rx_trace.specs.declared.answer.MatchFault.{MatchFault}
use Rattle.rx_trace.specs.Answers.{IsAnswer, IsTickCount}
use Rattle.rx_reply.specs.Added.{IsAdded}
use Rattle.rx_reply.proofs.Added.{added_reply}
use Rattle.rx_match_reply.specs.Replies.{IsMatchReply, IsTicksReply, answer_reply, ticks_reply, units_under}

module _ (flags : MatchFlags) (text : List ℕ) (tree : Whole) (units : List ℕ) (more budget : ℕ) (old new : List ℕ) (units_are : units ≡ units_under flags text)
    (more_is : more ≡ length units) where
  pub match_replied : (answer : Result (Option Found) MatchFault) → IsAnswer flags tree units more 0 budget answer → IsAdded (answer_reply answer) old new
      → (reply : List ℕ) × IsMatchReply flags text tree budget reply × (new ≡ old ++ reply)
  match_replied answer is added =
      let it = added_reply (answer_reply answer) old new added in
      let there = subst (λ k. IsAnswer flags tree units k 0 budget answer) more_is is in (
        it.0,
        record {
          answer = answer;
          answered = subst (λ us. IsAnswer flags tree us (length us) 0 budget answer) units_are there;
          reply_is = it.1;
        },
        it.2,
      )

  pub ticks_replied : (ticks : Result (Option ℕ) MatchFault) → IsTickCount flags tree units more 0 budget ticks → IsAdded (ticks_reply ticks) old new
      → (reply : List ℕ) × IsTicksReply flags text tree budget reply × (new ≡ old ++ reply)
  ticks_replied ticks is added =
      let it = added_reply (ticks_reply ticks) old new added in
      let there = subst (λ k. IsTickCount flags tree units k 0 budget ticks) more_is is in (
        it.0,
        record {
          ticks = ticks;
          counted = subst (λ us. IsTickCount flags tree us (length us) 0 budget ticks) units_are there;
          reply_is = it.1;
        },
        it.2,
      )
