use Rattle.std.proofs.Common.{◌∙◌, ◌∷◌, ◌&&◌, ap, sym}
use Rattle.rx_base.specs.Characters.{is_lead}
use Rattle.rx_class.proofs.Common.{starts, values}
use Rattle.rx_class.proofs.EscapeReading.CommonEscapes.{short_common, unicode_common}
use Rattle.rx_class.proofs.escapes.common.common_escape_at.Goals as goal

pub returns-then-first : goal.returns-then-first
returns-then-first g c =
    unicode_common c.args.unicode_mode c.args.units.now (values c.in-Some.following) c.in_ok-value.value (c.in-Some.ensures.values ∙ ap (λ u. u ∷ values c.in-Some.following) c.if-first.true)
    (sym c.four_hex_digits.ensures ∙ c.in_ok-value.was) (ap (λ w. (c.args.unicode_mode && is_lead c.in_ok-value.value) && starts 92 w) (sym c.from.ensures.values) ∙ sym c.may_begin_pair.ensures ∙ c.if-may_begin_pair.false)

pub returns : goal.returns
returns g c =
    rw c.short_kind.ensures (short_common c.args.unicode_mode c.args.units.now c.in-Some.first _ c.in_ok-value-2.value c.in-Some.ensures.values (sym c.map_short_escape.ensures ∙ c.in_ok-value-2.was))
