use Rattle.std.proofs.Common.{refl, subst, sym}
use Rattle.rx_parser.proofs.Common.{text_names, leaf_token, IsLeafOf, on_ok_weaker}
use Rattle.rx_parser.proofs.Leaves.{leaf_term_is}
use Rattle.rx_parser.proofs.Steps.{grown_on_ok}
use Rattle.rx_parser.proofs.Turns.{before, has_turned, leaf_turned, passed}
use Rattle.rx_parser.proofs.turn.Parse.take_leaf.Goals as goal

pub returns-clause-turned : goal.returns-clause-turned
returns-clause-turned g c =
    let h = before c.requires.more in
    let b = c.args.self.now.builder in
    let span = c.span_over-span in
    let its : IsLeafOf c.term.result (leaf_token c.args.leaf) span.result.start span.result.end =
    subst (λ t. IsLeafOf t (leaf_token c.args.leaf) span.result.start span.result.end) (sym c.term.ensures) (leaf_term_is c.args.leaf span.result) in
    let it = c.leaf.ensures in
    grown_on_ok c.leaf.result it.events it.openers it.ready (on_ok_weaker c.leaf.result (λ good. good (its.good b.mode)) it.good) it.fixed (λ grows.
    has_turned c.requires.more
    (leaf_turned h c.leaf.new.self span.new.reader (leaf_token c.args.leaf) c.args.length span.result.start span.result.end c.term.result
    (passed h c.requires.found span.ensures.start span.ensures.end span.ensures.reader)
    (c.requires.found.2 (text_names b.mode c.args.self.now.reader.units)) its grows) refl refl)
