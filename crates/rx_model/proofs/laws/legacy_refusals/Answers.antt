use Rattle.std.proofs.Common.{◌≡◌, Bool, true, false, refl}
use Rattle.rx_base.specs.declared.diagnostic.Diagnostic.TheVariants.{CharacterClassRangeInvalidAtom, LoneQuantifier}
use Rattle.rx_model.specs.Inputs.Environment.{is_unicode}
use Rattle.rx_model.proofs.Refusals.LegacyRefusals.{ends_refused, not_lone}
use Rattle.rx_model.proofs.laws.legacy_refusals.Goals as goal

pub returns-clause-lone : goal.returns-clause-lone
returns-clause-lone c mode rules us start added place span h = with_unicode (is_unicode mode) refl
  where
    with_unicode : (b : Bool) → is_unicode mode ≡ b → is_unicode mode ≡ true
    with_unicode true e = e
    with_unicode false e = absurd (not_lone mode rules e us start added place (LoneQuantifier span) h tt)

pub returns-clause-range : goal.returns-clause-range
returns-clause-range c mode us start added from at_class place span h =
    ends_refused mode us start added from at_class place (CharacterClassRangeInvalidAtom span) h tt
