-- The replies to what the rewriter answers.
use Rattle.std.proofs.Common.{◌≡◌, subst, ℕ, List, ◌++◌, None, Result}
use Rattle.rx_ast.specs.declared.term.Pattern.{Pattern}
use Rattle.rx_ast.specs.Tree.{Whole}
use Rattle.rx_model.specs.declared.mode.Mode.{Mode}
use Rattle.rx_rewrite.specs.declared.fault.RewriteFault.{RewriteFault}
use Rattle.rx_rewrite.specs.declared.rewrites.Rewrites.{Rewrites}
use Rattle.rx_rewrite.specs.Answers.{IsRewritten}
use Rattle.rx_rewrite.specs.declared.wanted.Wanted.{Wanted}
use Rattle.rx_reply.specs.Added.{IsAdded}
use Rattle.rx_reply.specs.Flags.{match_flags}
use Rattle.rx_reply.proofs.Added.{added_reply}
use Rattle.rx_rewrite_reply.specs.Replies.{IsRewriteReply, answered, answer_reply, kept_among}
use Rattle.rx_rewrite.specs.Wanted.{rewrites_of}
use Rattle.rx_trace.specs.declared.answer.MatchFlags.{MatchFlags}

pub rewrite_replied : (wanted : Wanted) (letters : List ℕ) (mode : Mode) (tree : Whole) (what : Rewrites) (flags : MatchFlags) (old new : List ℕ) → what ≡ rewrites_of wanted → flags ≡ match_flags mode letters → kept_among wanted tree ≡ None
    → (answer : Result Pattern RewriteFault) → IsRewritten what flags tree answer → IsAdded (answer_reply (rewrites_of wanted) letters mode answer) old new → (reply : List ℕ) × IsRewriteReply wanted letters mode tree reply × (new ≡ old ++ reply)
rewrite_replied wanted letters mode tree what flags old new what_is flags_are none answer is added =
    let it = added_reply (answer_reply (rewrites_of wanted) letters mode answer) old new added in
    (it.0, answered answer it.0 none (subst (λ w. IsRewritten w (match_flags mode letters) tree answer) what_is (subst (λ f. IsRewritten what f tree answer) flags_are is)) it.1, it.2)
