-- With neither `u` nor `v`: where an atom of a class begins at a backslash, and that no escape is refused.
use Rattle.std.proofs.Common.{◌≡◌, ℕ, ◌==◌, true, false, not, ◌||◌, ◌&&◌, List, [], ◌∷◌, ◌++◌, length, refl, sym, ap, ◌∙◌, inl, inr}
use Rattle.std.proofs.lemmas.Bool.{both_ways, cases_Bool, eqb-true}
use Rattle.rx_base.specs.declared.diagnostic.Diagnostic.{Diagnostic}
use Rattle.rx_units.specs.declared.code_point.CodePoint.{CodePoint}
use Rattle.rx_units.specs.Units.{values}
use Rattle.rx_units.proofs.Choices.{both}
use Rattle.rx_model.specs.declared.mode.Mode.{Mode}
use Rattle.rx_model.specs.declared.mode.Mode.TheVariants.{Legacy}
use Rattle.rx_model.specs.Classes.ClassFronts.{atom_read, no_atom, atom_at}
use Rattle.rx_model.specs.Classes.ClassRows.{SpellsAtom}
use Rattle.rx_model.specs.Classes.ClassTokens.{Atom}
use Rattle.rx_model.specs.Inputs.Environment.{Environment, is_unicode}
use Rattle.rx_model.specs.Refusals.EscapeCauses as escapes
use Rattle.rx_model.specs.Refusals.EscapeCauses.{IsEscapeCause}
use Rattle.rx_model.specs.Refusals.Firsts.{IsCauseOfEscape, of_character, of_property}
use Rattle.rx_model.specs.Refusals.Stops.{begins_class_escape, is_hyphen_escaped}
use Rattle.rx_model.proofs.Classes.ClassFronts.{at_backslash, atom_found, atom_is_read}
use Rattle.rx_model.proofs.Properties.PropertyRefusals.{cause_unicode}
use Rattle.rx_model.proofs.Refusals.LegacyStops.{atom_after_backslash, no_atom_after_backslash}

no_hyphen : (mode : Mode) → is_unicode mode ≡ false → (is_hyphen_escaped mode && false) ≡ false
no_hyphen Legacy l = refl
no_hyphen mode l = absurd (let no : ⊥ = cc l in no)

module _ (e : Environment) (m : is_unicode e.mode ≡ false) where
  -- none begins before a `k` where `\k` is a reference
  at_k : (w : List ℕ) → e.named ≡ true → begins_class_escape e (107 ∷ w) ≡ false
  at_k w named =
      ap (λ h. (((h || false) || false) || false) || (not (is_unicode e.mode) && not e.named)) (no_hyphen e.mode m)
      ∙ ap (λ u. not u && not e.named) m ∙ ap not named

  no_k : (c : ℕ) (w : List ℕ) → begins_class_escape e (c ∷ w) ≡ true → (c == 107 && e.named) ≡ false
  no_k c w h = elim (cases_Bool (c == 107 && e.named)) [
    | inl k ↦
        let p = both (c == 107) e.named k in
        absurd (both_ways (begins_class_escape e (107 ∷ w)) (at_k w p.1) (ap (λ c. begins_class_escape e (c ∷ w)) (sym (eqb-true c 107 p.0)) ∙ h))
    | inr k ↦ k
  ]

  pub atom_begins : (u : CodePoint) (us : List CodePoint) → u.value ≡ 92 → begins_class_escape e (values us) ≡ true →
      (a : Atom) × (w : List CodePoint) × (rest : List CodePoint) × (u ∷ us ≡ w ++ rest) × SpellsAtom e a w rest
  atom_begins u [] h b = absurd (let no : ⊥ = cc b in no)
  atom_begins u (v ∷ us) h b =
      let r = atom_after_backslash e m v.value (values us) (no_k v.value (values us) b) in
      let f = atom_found e r.0 r.1 (u ∷ v ∷ us) (at_backslash e u (v ∷ us) h ∙ r.2) in
      (r.0, f.w, f.rest, f.whole, f.spelled)

  pub no_atom_begins : (u : CodePoint) (us : List CodePoint) → u.value ≡ 92 → begins_class_escape e (values us) ≡ false →
      (a : Atom) (w rest : List CodePoint) → u ∷ us ≡ w ++ rest → SpellsAtom e a w rest → ⊥
  no_atom_begins u us h b a w rest whole s =
      let no : no_atom ≡ atom_read a (length w) =
      sym (at_backslash e u us h ∙ no_atom_after_backslash e m (values us) b) ∙ ap (atom_at e) whole ∙ atom_is_read e a w rest s in
      cc no

module _ (mode : Mode) (m : is_unicode mode ≡ false) (us : List CodePoint) (start added place : ℕ) (rest : List CodePoint) where
  never : is_unicode mode ≡ true → ⊥
  never h = both_ways (is_unicode mode) m h

  no_character : (d : Diagnostic) → IsEscapeCause mode us start added place rest d → ⊥
  no_character _ (escapes.too_many_hex_digits count following u h limit) = never u
  no_character _ (escapes.invalid_escape following u h none no_limit) = never u

  pub none_refused : (f : ℕ) (d : Diagnostic) → IsCauseOfEscape mode us start added place rest f d → ⊥
  none_refused _ d (of_character c) = no_character d c
  none_refused _ d (of_property c) = never (cause_unicode mode us start added place rest d c)
