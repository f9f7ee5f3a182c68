use Rattle.std.proofs.Common.{◌≡◌, ◌∙◌, refl, List, Option, ℕ}
use Rattle.rx_base.specs.declared.span.Span.{Span}
use Rattle.rx_base.specs.declared.diagnostic.kinds.SetOperator.{SetOperator}
use Rattle.rx_base.specs.declared.diagnostic.kinds.Unterminated.{Unterminated}
use Rattle.rx_base.specs.declared.diagnostic.Diagnostic.{Diagnostic}
use Rattle.rx_base.specs.declared.diagnostic.Diagnostic.TheVariants as found
use Rattle.rx_refusal.specs.Helps.{fixed_help, help_of}
use Rattle.std.specs.Option.{option_copied}
use Rattle.rx_refusal.proofs.help.Help.of.Goals as goal

-- At all others nothing is looked at.
others : (d : Diagnostic) (text : List ℕ) (front after : Option (List ℕ)) → ((s : Span) → d ≡ found.InvalidInput s → ⊥) → ((s : Span) → d ≡ found.ParsePatternIncomplete s → ⊥)
    → ((s : Span) (what : Unterminated) → d ≡ found.UnterminatedPattern s what → ⊥) → ((s : Span) → d ≡ found.InvalidClassAtom s → ⊥) → ((s : Span) → d ≡ found.EmptyClassSetExpression s → ⊥)
    → ((s : Span) (what : SetOperator) → d ≡ found.ClassSetExpressionInvalidCharacter s what → ⊥) → ((s : Span) → d ≡ found.InvalidUnicodeEscapeSequence s → ⊥)
    → ((s : Span) → d ≡ found.UnknownModifiers s → ⊥) → fixed_help d ≡ help_of d text front after
others (found.InvalidInput s) text front after a b c d e f g h = absurd (a s refl)
others (found.ParsePatternIncomplete s) text front after a b c d e f g h = absurd (b s refl)
others (found.UnterminatedPattern s what) text front after a b c d e f g h = absurd (c s what refl)
others (found.InvalidClassAtom s) text front after a b c d e f g h = absurd (d s refl)
others (found.EmptyClassSetExpression s) text front after a b c d e f g h = absurd (e s refl)
others (found.ClassSetExpressionInvalidCharacter s what) text front after a b c d e f g h = absurd (f s what refl)
others (found.InvalidUnicodeEscapeSequence s) text front after a b c d e f g h = absurd (g s refl)
others (found.UnknownModifiers s) text front after a b c d e f g h = absurd (h s refl)
others _ text front after a b c d e f g h = refl

pub returns-in_default : goal.returns-in_default
returns-in_default c =
    let it = c.in_default in
    c.fixed_help.ensures
    ∙ others c.args.refusal.now c.args.text.now (option_copied c.args.front) (option_copied c.args.after) it.not-InvalidInput it.not-ParsePatternIncomplete it.not-UnterminatedPattern it.not-InvalidClassAtom
    it.not-EmptyClassSetExpression it.not-ClassSetExpressionInvalidCharacter it.not-InvalidUnicodeEscapeSequence it.not-UnknownModifiers
