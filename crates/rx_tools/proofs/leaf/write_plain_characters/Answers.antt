use Rattle.std.proofs.Common.{ap, ◌∙◌, arith, [], ◌∷◌}
use Rattle.rx_ast.specs.Size.{terms_size}
use Rattle.rx_ast.proofs.TermShown.{terms_cons}
use Rattle.rx_tools.proofs.Leaves.{front_none, front_then, front_written, front_fails, front_rest, plain_cut}
use Rattle.rx_tools.proofs.Pieces.{same_text, text_stop, failed_from}
use Rattle.rx_tools.proofs.leaf.write_plain_characters.Goals as goal

pub loop-first-init : goal.loop-first-init
loop-first-init g c = record { written = front_none _ _ _ _ _ _; smaller = omega arith }

pub returns-in_err-write_char-clause-written : goal.returns-in_err-write_char-clause-written
returns-in_err-write_char-clause-written g c =
    let cut = plain_cut c.args.mode c.loop-first.rest c.in-Some.first.now c.in-Character.it c.in-Some.terms c.in-Some.ensures.cases.0 c.in-Character.is (c.is_plain.ensures.text c.if-not-is_plain.false) in
    let failed = failed_from _ _ c.from_residual.ensures.1 in
    front_fails (front_rest c.loop-first.invariant.written (same_text cut (text_stop (c.in-Character.it.value ∷ []) _ (rw c.character.ensures at c.in_err-write_char.ensures) failed))) failed

pub loop-first-preserved : goal.loop-first-preserved
loop-first-preserved g c =
    let cut = plain_cut c.args.mode c.loop-first.rest c.in-Some.first.now c.in-Character.it c.in-Some.terms c.in-Some.ensures.cases.0 c.in-Character.is (c.is_plain.ensures.text c.if-not-is_plain.false) in
    record {
      written = front_then c.loop-first.invariant.written (front_written _ (c.in-Character.it.value ∷ []) (rw c.character.ensures at c.in_ok-write_char.ensures) cut);
      smaller = omega (arith, c.loop-first.invariant.smaller, ap terms_size c.in-Some.ensures.cases.0 ∙ terms_cons c.in-Some.first.now c.in-Some.terms.now);
    }
