use denote.Shadow.{shadow}
use denote.Text.{Utf8}
use Rattle.std.proofs.Common.{◌+◌, ◌*◌, ◌≤◌, Ok, false, drop, map}
use Rattle.std.specs.Str.{chars}
use Rattle.rx_ast.specs.Size.{term_size, terms_size, all_alternatives_size, disjunction_size}
use Rattle.rx_ast.specs.Tree.{nodes, alternatives, mirror_term, mirror_alternative}
use Rattle.rx_base.specs.declared.ends.Failed.{Failed}
use Rattle.rx_base.proofs.Writing.{Left}
use Rattle.rx_model.specs.Spelling.Spelling.{nodes_text, alternatives_text}
use Rattle.rx_tools.specs.Leaves.{WritesFront, rest_text}
use Rattle.rx_tools.specs.Utf8.{utf8}
use Rattle.rx_tools.proofs.Trees.{alternatives_after}
use Rattle.rx_tools.proofs.recursive.+pattern.Given as goal

abbrev pub decreases-write_term : goal.decreases-write_term
decreases-write_term g l = 3 * term_size l.term.now

abbrev pub decreases-write_quantified : goal.decreases-write_quantified
decreases-write_quantified g l = 3 * term_size l.it.now.body + 1

abbrev pub decreases-write_terms : goal.decreases-write_terms
decreases-write_terms g l = 3 * terms_size l.terms.now + 1

abbrev pub decreases-write_alternatives : goal.decreases-write_alternatives
decreases-write_alternatives g l = 3 * all_alternatives_size l.alternatives.now + 1

abbrev pub decreases-write_group : goal.decreases-write_group
decreases-write_group g l = 3 * disjunction_size l.body.now + 2

abbrev pub invariant-write_alternatives-loop-alternative : goal.invariant-write_alternatives-loop-alternative
invariant-write_alternatives-loop-alternative g l = record {
  is_text : shadow (Utf8 l.before);
  written : Left g.W.TextSink.taken g.W.TextSink.fixed g.W.TextSink.faults l.fn.sink l.sink (utf8 (alternatives_text l.mode (alternatives (map mirror_alternative l.alternatives))))
      (utf8 (alternatives_after l.mode (chars l.before) (alternatives (map mirror_alternative (drop l.alternative-index l.alternatives)))));
}

abbrev pub invariant-write_terms-loop-term : goal.invariant-write_terms-loop-term
invariant-write_terms-loop-term g l = record {
  written : WritesFront {E = Failed} g.W.TextSink.taken g.W.TextSink.fixed g.W.TextSink.faults l.fn.sink l.sink (Ok l.rest) (nodes_text l.mode false (nodes (map mirror_term l.fn.terms))) (rest_text l.mode);
  smaller : terms_size l.rest.terms.now ≤ terms_size l.fn.terms;
}

abbrev pub decreases-write_terms-loop-term : goal.decreases-write_terms-loop-term
decreases-write_terms-loop-term g l = terms_size l.rest.terms.now
