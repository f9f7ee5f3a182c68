-- A rewriting keeps its promises.
use Rattle.std.proofs.Common.{◌≡◌, sym, subst, ap, ◌∙◌, ℕ, List, Ok}
use Rattle.rx_ast.specs.Tree.{mirror}
use Rattle.rx_ast.specs.declared.term.Pattern.{Pattern}
use Rattle.rx_trace.specs.Answers.{pattern_trace}
use Rattle.rx_trace.specs.Supported.{unsupported_in}
use Rattle.rx_trace.specs.declared.answer.MatchFlags.{MatchFlags}
use Rattle.rx_rewrite.specs.Answers.{IsRewritten}
use Rattle.rx_rewrite.specs.Asked.{CanBeRewritten, HasDotsInLine, HasEndsOfInput, HasNoLineModifiers, HasNoNames}
use Rattle.rx_rewrite.specs.Promises.{HasNothingAsked, HasSameOutcomes, IsStillPattern, Promises}
use Rattle.rx_rewrite.specs.Rewriting.{flags_rewritten, rewritten}
use Rattle.rx_rewrite.specs.declared.rewrites.Rewrites.{Rewrites}
use Rattle.rx_rewrite.proofs.Early.{its_early}
use Rattle.rx_rewrite.proofs.Follows.{Follows, follow-states}
use Rattle.rx_rewrite.proofs.NotLeft.{dots_left, ends_left, modifiers_left, names_left}
use Rattle.rx_rewrite.proofs.Patterns.{its_shape}
use Rattle.rx_rewrite.proofs.ReadBack.{rewritten_is_read_back}
use Rattle.rx_rewrite.proofs.SameOutcomes.{answer_after, answer_before, pattern_follows, same_begin, same_end}
use Rattle.rx_rewrite.proofs.SameSupport.{same_support}
use Rattle.rx_rewrite.proofs.UsedTwice.{can_be}

module _ (what : Rewrites) (flags : MatchFlags) (p q : Pattern) (is : mirror q ≡ rewritten what flags (mirror p)) where
  same_outcomes : CanBeRewritten what (mirror p) → HasSameOutcomes what flags p q
  same_outcomes can = record {
    reached = λ input start. follow-states (pattern_trace flags (mirror p) input start) (pattern_trace (flags_rewritten what flags) (mirror q) input start) (follows input start);
    end = λ input more start. same_end (pattern_trace flags (mirror p) input) (pattern_trace (flags_rewritten what flags) (mirror q) input) (follows input) more start;
    begin = λ input more start. same_begin (pattern_trace flags (mirror p) input) (pattern_trace (flags_rewritten what flags) (mirror q) input) (follows input) more start;
    before = λ input more start budget a of_q. (
      of_q.0,
      sym refused ∙ of_q.1,
      answer_before (pattern_trace flags (mirror p) input) (pattern_trace (flags_rewritten what flags) (mirror q) input) (follows input) more start budget a of_q.2,
    );
    after = λ input more start budget most a enough of_p. (
      of_p.0,
      refused ∙ of_p.1,
      answer_after (pattern_trace flags (mirror p) input) (pattern_trace (flags_rewritten what flags) (mirror q) input) (follows input) more start budget most a enough of_p.2,
    );
    refused = refused;
  }
    where
      follows : (input : List ℕ) (start : ℕ) → Follows (pattern_trace flags (mirror p) input start) (pattern_trace (flags_rewritten what flags) (mirror q) input start)
      follows input start =
          subst (λ tree. Follows (pattern_trace flags (mirror p) input start) (pattern_trace (flags_rewritten what flags) tree input start)) (sym is) (pattern_follows what flags (mirror p) can input start)

      refused : unsupported_in (mirror q) ≡ unsupported_in (mirror p)
      refused = ap unsupported_in is ∙ same_support what flags (mirror p)

  nothing_asked : HasNothingAsked what flags q
  nothing_asked = record {
    names = λ asked. subst (HasNoNames (flags_rewritten what flags)) (sym is) (names_left what flags (mirror p) asked);
    dots = λ asked. subst (HasDotsInLine (flags_rewritten what flags)) (sym is) (dots_left what flags (mirror p) asked);
    ends = λ asked. subst (HasEndsOfInput (flags_rewritten what flags)) (sym is) (ends_left what flags (mirror p) asked);
    modifiers = λ asked. subst (HasNoLineModifiers (flags_rewritten what flags)) (sym is) (modifiers_left what flags (mirror p) asked);
  }

  still_pattern : IsStillPattern p q
  still_pattern = record {
    early = λ rules early. its_early what flags p q is rules early;
    shape = λ mode made. its_shape what flags p q is mode made;
    read_back = λ mode rules us reads fit some. rewritten_is_read_back what flags p q is mode rules us reads fit some;
  }

pub promised : (what : Rewrites) (flags : MatchFlags) (p q : Pattern) → IsRewritten what flags (mirror p) (Ok q) → Promises what flags p q
promised what flags p q rewritten_is = record {
  outcomes = same_outcomes what flags p q rewritten_is.1 (can_be what flags (mirror p) q rewritten_is);
  left = nothing_asked what flags p q rewritten_is.1;
  pattern = still_pattern what flags p q rewritten_is.1;
}
