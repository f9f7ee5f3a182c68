-- A text begins with at most one atom of a class, and at a `]` with none.
use Rattle.std.proofs.Common.{◌≡◌, refl, sym, ap, ap₂, ◌∙◌, ◌==◌, true, not, List, [], ◌∷◌, ◌++◌, length, drop, arith, inl, inr}
use Rattle.std.proofs.Math.Seq.{drop-append_seam}
use Rattle.std.proofs.lemmas.Bool.{cases_Bool, eqb-true, and_from}
use Rattle.rx_units.specs.declared.code_point.CodePoint.{CodePoint}
use Rattle.rx_units.specs.Units.{values}
use Rattle.rx_model.specs.Classes.ClassFronts.{atom_read, no_atom, atom_at}
use Rattle.rx_model.specs.Classes.ClassRows.{SpellsAtom, is_dashed}
use Rattle.rx_model.specs.Classes.ClassTokens.{Atom}
use Rattle.rx_model.specs.FirstPass.Marks.{starts}
use Rattle.rx_model.specs.Inputs.Environment.{Environment}
use Rattle.rx_model.proofs.Classes.ClassFronts.{atom_is_read, atom_some, no_atom_at_closer}

module _ (e : Environment) where
  pub one_atom : (a b : Atom) (w more v rest : List CodePoint) → w ++ more ≡ v ++ rest → SpellsAtom e a w more → SpellsAtom e b v rest → (a ≡ b) × (more ≡ rest)
  one_atom a b w more v rest h s t =
      let k : atom_read a (length w) ≡ atom_read b (length v) = sym (atom_is_read e a w more s) ∙ ap (atom_at e) h ∙ atom_is_read e b v rest t in
      let same : a ≡ b = cc k in
      let counts : length w ≡ length v = cc k in
      (same, sym (drop-append_seam w more) ∙ ap₂ drop counts h ∙ drop-append_seam v rest)

  pub none_at_closer : (us : List CodePoint) → starts 93 (values us) ≡ true → (a : Atom) (w rest : List CodePoint) → us ≡ w ++ rest → SpellsAtom e a w rest → ⊥
  none_at_closer [] c a w rest h s = let no : ⊥ = cc c in no
  none_at_closer (u ∷ us) c a w rest h s =
      let no : no_atom ≡ atom_read a (length w) = sym (no_atom_at_closer e u us (eqb-true u.value 93 c)) ∙ ap (atom_at e) h ∙ atom_is_read e a w rest s in
      let k : ⊥ = cc no in k

  -- A `-` before an atom is not the last in its class.
  pub dashed : (hyphen : CodePoint) → hyphen.value ≡ 45 → (a : Atom) (w rest : List CodePoint) → SpellsAtom e a w rest → is_dashed (values (hyphen ∷ (w ++ rest))) ≡ true
  dashed hyphen h a [] rest s = absurd (omega (arith, atom_some e a [] rest s))
  dashed hyphen h a (u ∷ w) rest s =
      and_from (hyphen.value == 45) (not (u.value == 93)) (ap (λ c. c == 45) h)
      (elim (cases_Bool (u.value == 93)) [
        | inl c ↦ absurd (none_at_closer (u ∷ (w ++ rest)) c a (u ∷ w) rest refl s)
        | inr c ↦ ap not c
      ])
