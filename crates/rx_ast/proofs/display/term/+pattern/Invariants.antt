use denote.Shadow.{shadow}
use denote.Text.{Utf8}
use Rattle.std.proofs.Common.{◌+◌, ◌*◌, ◌≤◌, false, drop, length, map}
use Rattle.std.specs.Str.{chars}
use Rattle.rx_ast.specs.Shown.{alternatives_shown, nodes_shown}
use Rattle.rx_ast.specs.Size.{term_size, terms_size, all_alternatives_size, disjunction_size}
use Rattle.rx_ast.specs.Tree.{nodes, alternatives, mirror_term, mirror_alternative}
use Rattle.rx_ast.specs.declared.term.CapturingGroup.{out-CapturingGroup}
use Rattle.rx_ast.specs.declared.term.IgnoreGroup.{out-IgnoreGroup}
use Rattle.rx_ast.specs.declared.term.LookAroundAssertion.{out-LookAroundAssertion}
use Rattle.rx_ast.proofs.FormatterWrites.{Left}
use Rattle.rx_ast.proofs.TermShown.{alternatives_after}
use Rattle.rx_ast.proofs.display.term.+pattern.Given as goal

abbrev pub decreases-write_term : goal.decreases-write_term
decreases-write_term g l = 4 * term_size l.term.now

abbrev pub decreases-write_unless_joined : goal.decreases-write_unless_joined
decreases-write_unless_joined g l = 4 * term_size l.term.now + 1

abbrev pub decreases-write_quantified : goal.decreases-write_quantified
decreases-write_quantified g l = 4 * term_size l.it.now.body + 1

abbrev pub decreases-write_terms : goal.decreases-write_terms
decreases-write_terms g l = 4 * terms_size l.terms.now + 2

abbrev pub decreases-write_alternatives : goal.decreases-write_alternatives
decreases-write_alternatives g l = 4 * all_alternatives_size l.alternatives.now + 1

abbrev pub decreases-write_group : goal.decreases-write_group
decreases-write_group g l = 4 * disjunction_size l.body.now + 2

abbrev pub decreases-write_look_around : goal.decreases-write_look_around
decreases-write_look_around g l = 4 * disjunction_size (out-LookAroundAssertion l.it.now).body + 3

abbrev pub decreases-write_capturing_group : goal.decreases-write_capturing_group
decreases-write_capturing_group g l = 4 * disjunction_size (out-CapturingGroup l.it.now).body + 3

abbrev pub decreases-write_ignore_group : goal.decreases-write_ignore_group
decreases-write_ignore_group g l = 4 * disjunction_size (out-IgnoreGroup l.it.now).body + 3

abbrev pub invariant-write_alternatives-loop-alternative : goal.invariant-write_alternatives-loop-alternative
invariant-write_alternatives-loop-alternative g l = record {
  is_text : shadow (Utf8 l.before);
  written : Left g.W.Write.write_str_gives l.fn.f l.f (alternatives_shown (alternatives (map mirror_alternative l.alternatives)))
      (alternatives_after (chars l.before) (alternatives (map mirror_alternative (drop l.alternative-index l.alternatives))));
}

abbrev pub invariant-write_terms-loop-term : goal.invariant-write_terms-loop-term
invariant-write_terms-loop-term g l = record {
  written : Left g.W.Write.write_str_gives l.fn.f l.f (nodes_shown false (nodes (map mirror_term l.fn.terms))) (nodes_shown l.joined (nodes (map mirror_term l.rest)));
  smaller : terms_size l.rest ≤ terms_size l.fn.terms;
}

abbrev pub decreases-write_terms-loop-term : goal.decreases-write_terms-loop-term
decreases-write_terms-loop-term g l = length l.rest
