use Rattle.std.proofs.Common.{◌≡◌, sym, ◌∙◌, ◌+◌, ◌&&◌, false, take}
use Rattle.std.proofs.lemmas.Bool.{and_left, and_right}
use Rattle.rx_base.specs.Flags.{holds}
use Rattle.rx_units.specs.Units.{values}
use Rattle.rx_scan.proofs.FlagPlaces.{unknown_at, duplicated_at, both_modes_at, passes_at}
use Rattle.rx_scan.proofs.flags_parser.refusal.Goals as goal
use Rattle.rx_scan.proofs.flags_parser.refusal.Goals.{else-holds-2-via-then-holds-2+else-holds-3, else-holds-2-via-else-holds-2}

pub returns-then-not-is_flag : goal.returns-then-not-is_flag
returns-then-not-is_flag c first added is =
    unknown_at c.args.units.now c.args.place _ c.requires.within c.requires.passed first added c.args.span is (sym c.is_flag.ensures ∙ c.if-not-is_flag.true)

pub returns-then-holds : goal.returns-then-holds
returns-then-holds c first added is =
    duplicated_at c.args.units.now c.args.place _ c.requires.within c.requires.passed first added c.args.span is
    (sym c.is_flag.ensures ∙ c.if-not-is_flag.false) (sym c.holds.ensures ∙ c.if-holds.true)

pub returns-then-holds-3 : goal.returns-then-holds-3
returns-then-holds-3 c first added is =
    both_modes_at c.args.units.now c.args.place _ c.requires.within c.requires.passed first added c.args.span is
    (sym c.is_flag.ensures ∙ c.if-not-is_flag.false) (sym c.holds.ensures ∙ c.if-holds.false)
    (sym c.holds-2.ensures ∙ c.if-holds-2.true) (sym c.holds-then-holds-2.ensures ∙ c.if-holds-3.true)

pub returns : goal.returns
returns c =
    let one_mode = elim c.else-holds-2.branch as (λ _. (holds (values (take (c.args.place + 1) c.args.units.now)) 117 && holds (values (take (c.args.place + 1) c.args.units.now)) 118) ≡ false) [
      | else-holds-2-via-then-holds-2+else-holds-3 w ↦ and_right _ _ (sym w.holds-then-holds-2.ensures ∙ w.if-holds-3.false)
      | else-holds-2-via-else-holds-2 w ↦ and_left _ _ (sym c.holds-2.ensures ∙ w.if-holds-2.false)
    ] in
    passes_at c.args.units.now c.args.place _ c.requires.within c.requires.passed (sym c.is_flag.ensures ∙ c.if-not-is_flag.false) (sym c.holds.ensures ∙ c.if-holds.false) one_mode
