-- Modes without `v`.
use Rattle.std.proofs.Common.{◌≡◌, refl, sym, ap, ◌∙◌, true, false}
use Rattle.rx_model.specs.declared.mode.Mode.{Mode}
use Rattle.rx_model.specs.declared.mode.Mode.TheVariants.{Legacy, Unicode, Sets}
use Rattle.rx_model.specs.Inputs.Environment.{is_sets, is_unicode}

pub not_sets : (mode : Mode) → is_sets mode ≡ false → mode ≡ Sets → ⊥
not_sets mode no_sets sets = let no : false ≡ true = sym no_sets ∙ ap is_sets sets in let k : ⊥ = cc no in k

-- Without `v` that of `u` is the only unicode mode.
pub unicode_alone : (mode : Mode) → is_sets mode ≡ false → is_unicode mode ≡ true → mode ≡ Unicode
unicode_alone Legacy no_sets u = absurd (let no : ⊥ = cc u in no)
unicode_alone Unicode no_sets u = refl
unicode_alone Sets no_sets u = absurd (let no : ⊥ = cc no_sets in no)
