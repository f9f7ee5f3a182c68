use Rattle.std.proofs.Common.{◌≡◌, ap, sym, ◌∙◌, ℕ, List, length, take, min}
use Rattle.std.proofs.lemmas.List.{take_min}
use Rattle.rx_units.specs.declared.code_point.CodePoint.{CodePoint}
use Rattle.rx_units.specs.Units.{end_of}
use Rattle.rx_scan.proofs.state.offset_at.Goals as goal

-- as many units as there are before the place
before : (us : List CodePoint) (place n m : ℕ) → n ≡ min place m → m ≡ length us → take n us ≡ take place us
before us place n m least all = ap (λ n. take n us) (least ∙ ap (min place) all) ∙ take_min place us

pub returns-then-place-eq0 : goal.returns-then-place-eq0
returns-then-place-eq0 g c =
    ap (end_of c.args.start) (ap (λ n. take n c.args.units.now) (sym c.if-place-eq0.true) ∙ before c.args.units.now c.args.place _ _ c.min-place.ensures c.len.ensures.value)

pub returns-else-place-eq0 : goal.returns-else-place-eq0
returns-else-place-eq0 g c =
    c.end_of.ensures c.args.start ∙ ap (end_of c.args.start) (before c.args.units.now c.args.place _ _ c.min-place.ensures c.len.ensures.value)
