use Rattle.std.proofs.Common.{ap, ◌∙◌, ◌++◌, codes}
use Rattle.std.proofs.lemmas.Result.{on_ok_weaker}
use Rattle.rx_ast.specs.Forget.{bare}
use Rattle.rx_model.specs.Spelling.Spelling.{spelling}
use Rattle.rx_tools.specs.Utf8.{utf8}
use Rattle.rx_rewrite.specs.Wanted.{rewrites_of}
use Rattle.rx_rewrite_reply.specs.Replies.{flags_left}
use Rattle.rx_rewrite_reply.proofs.Parts.{five_added}
use Rattle.rx_rewrite_reply.proofs.replies.add_pattern.Goals as goal

pub returns : goal.returns
returns c =
    on_ok_weaker c.extend_from_slice-3.result
    (five_added c.args.bytes.now (codes "ok\t") (flags_left (rewrites_of c.args.rewriting.wanted) c.args.rewriting.letters.now) (codes "\t") (utf8 (spelling (bare c.args.pattern.now) c.args.rewriting.mode)) (codes "\n")
    c.extend_from_slice.new.self c.add_flags.new.bytes c.extend_from_slice-2.new.self c.append_canonical.new.bytes c.extend_from_slice-3.new.self
    c.in_ok-extend_from_slice.ensures.ok (c.in_ok-add_flags.ensures ∙ ap (λ what. c.extend_from_slice.new.self ++ flags_left what c.args.rewriting.letters.now) c.rewrites.ensures) c.in_ok-extend_from_slice-2.ensures.ok c.in_ok-append_canonical.ensures)
    c.extend_from_slice-3.ensures.ok
