use Rattle.std.proofs.Common.{◌≡◌, ◌&&◌, false, refl, ap, ap₂, ◌∙◌}
use Rattle.rx_class.proofs.Common.{Span, Character, atom_of, atom_span, between}
use Rattle.rx_model.specs.Refusals.ClassCauses.{is_character}
use Rattle.rx_class.specs.declared.classes.atom.ClassAtom.TheVariants as atom
use Rattle.rx_class.specs.declared.classes.atom.ClassAtom as atoms
use Rattle.rx_class.specs.ClassReading.Items.{range, dash_out_of_order, out_of_order, no_character}
use Rattle.rx_class.proofs.classes.item.range_between.Goals.{in_default-via-in-Character+in_default, in_default-via-in_default}
use Rattle.rx_class.proofs.classes.item.range_between.Goals as goal

-- unless both are characters
not_both : (low high : atoms.ClassAtom) → ((x y : Character) → low ≡ atom.Character x → high ≡ atom.Character y → ⊥) → (is_character (atom_of low) && is_character (atom_of high)) ≡ false
not_both (atom.Character x) (atom.Character y) h = absurd (h x y refl refl)
not_both low high h = refl

pub returns-in_default : goal.returns-in_default
returns-in_default c =
    let span : c.new-span.result ≡ between (atom_span c.args.low.now).start (atom_span c.args.high.now).end =
    c.new-span.ensures ∙ ap₂ between (ap (λ (s : Span). s.start) c.span.ensures) (ap (λ (s : Span). s.end) c.span-in_default.ensures) in
    let neither : (is_character (atom_of c.args.low.now) && is_character (atom_of c.args.high.now)) ≡ false = elim c.in_default.branch [
      | in_default-via-in-Character+in_default w ↦ not_both c.args.low.now c.args.high.now (λ x y l h. w.in_default.not-Character-1 y h)
      | in_default-via-in_default w ↦ not_both c.args.low.now c.args.high.now (λ x y l h. w.in_default.not-Character-0 x l)
    ] in
    rw span (no_character neither)

pub returns-then-min-max : goal.returns-then-min-max
returns-then-min-max c = rw (c.in-Character-Character.is-0, c.in-Character-Character.is-1, c.new-span-then-min-max.ensures) (range c.if-min-max.true)

pub returns-then-max : goal.returns-then-max
returns-then-max c = rw (c.in-Character-Character.is-0, c.in-Character-Character.is-1, c.new-span-2.ensures) (dash_out_of_order c.if-min-max.false c.if-max.true)

pub returns : goal.returns
returns c = rw (c.in-Character-Character.is-0, c.in-Character-Character.is-1, c.new-span-2.ensures) (out_of_order c.if-min-max.false c.if-max.false)
