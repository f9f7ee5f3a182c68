-- With neither `u` nor `v`: where a `[` stands, a class stands that is free of early errors, or a refusal holds in it.
use Rattle.rx_base.specs.Characters.{is_one_of}
use Rattle.std.proofs.Common.{◌≡◌, ◌⊎◌, refl, ap, sym, ◌∙◌, subst, ℕ, ◌+◌, ◌==◌, ◌&&◌, Bool, true, false, not, is_some, List, [], ◌∷◌, ◌++◌, length, inl, inr, codes, arith}
use Rattle.std.proofs.lemmas.Bool.{cases_Bool, eqb-true, false_from_ne_true, not-true, true≢false}
use Rattle.std.proofs.lemmas.Bool.Decides.{nat_tests}
use Rattle.rx_ast.specs.declared.leaf.CharacterKind.TheVariants as kinds
use Rattle.rx_units.specs.declared.code_point.CodePoint.{CodePoint}
use Rattle.rx_units.specs.Units.{values}
use Rattle.rx_units.proofs.Choices.{both}
use Rattle.rx_model.specs.declared.mode.Mode.TheVariants.{Legacy}
use Rattle.rx_model.specs.Classes.ClassFronts.{AtomRead, atom_at, atom_read, no_atom}
use Rattle.rx_model.specs.Classes.ClassRows as spelled
use Rattle.rx_model.specs.Classes.ClassRows.{SpellsAtom, SpellsInClass, fresh, is_dashed}
use Rattle.rx_model.specs.Classes.ClassRuns.{is_union, may_follow}
use Rattle.rx_model.specs.Classes.ClassTokens.{Atom, ClassToken, character, closer, escape, is_character, item, low, property}
use Rattle.rx_model.specs.Inputs.Environment.{Environment}
use Rattle.rx_model.specs.Refusals.ClassCauses as class_cause
use Rattle.rx_model.specs.Refusals.ClassCauses.{NothingFollows}
use Rattle.rx_model.specs.Refusals.Reached.{class_environment}
use Rattle.rx_model.specs.Refusals.Stops.{begins_class_escape}
use Rattle.rx_model.specs.Spelling.ReadBack.{AreCodeUnits}
use Rattle.rx_model.proofs.Classes.ClassFronts.{atom_found, atom_is_read}
use Rattle.rx_model.proofs.Classes.ClassStates.{Fits, opened_fits, opened_union, union_more}
use Rattle.rx_model.proofs.Classes.ClassStops.{fresh_union}
use Rattle.rx_model.proofs.Classes.ClassValues.{units_small}
use Rattle.rx_model.proofs.Classes.FurtherItems.{Item, Refused, RefusesNothing, StandsClass, same_place}
use Rattle.rx_model.proofs.Classes.FurtherItems as items
use Rattle.rx_model.proofs.Classes.LegacyClassEscapes.{atom_begins}
use Rattle.rx_model.proofs.Classes.OpenBrackets.{innermost}

-- A `-` stands next, and then neither `]` nor the end.
record Dashed (rest : List CodePoint) : Type 0 where
  hyphen : CodePoint
  next : CodePoint
  more : List CodePoint
  whole : rest ≡ hyphen ∷ next ∷ more
  hyphen_is : hyphen.value ≡ 45
  no_closer : (next.value == 93) ≡ false

dashed : (rest : List CodePoint) → is_dashed (values rest) ≡ true → Dashed rest
dashed [] h = absurd (let no : ⊥ = cc h in no)
dashed (u ∷ []) h = absurd (let no : ⊥ = cc h in no)
dashed (u ∷ v ∷ rest) h =
    let p = both (u.value == 45) (not (v.value == 93)) h in
    record { hyphen = u; next = v; more = rest; whole = refl; hyphen_is = eqb-true u.value 45 p.0; no_closer = not-true _ p.1 }

module _ (us : List CodePoint) (start added from : ℕ) (at_class : List CodePoint) where
  abbrev here : Environment
  here = class_environment Legacy us

  abbrev There : ℕ → List CodePoint → Type 0
  There = Item Legacy us start added from at_class

  abbrev Wrong : Type 0
  Wrong = Refused Legacy us start added from at_class

  spelled_none : (a : Atom) (all w more : List CodePoint) → all ≡ w ++ more → SpellsAtom here a w more → atom_at here all ≡ no_atom → ⊥
  spelled_none a all w more whole s h = let no : no_atom ≡ atom_read a (length w) = sym h ∙ ap (atom_at here) whole ∙ atom_is_read here a w more s in cc no

  -- No atom stands at a closer alone, and at a backslash that begins no escape.
  no_atom_there : (u : CodePoint) (rest : List CodePoint) → atom_at here (u ∷ rest) ≡ no_atom → (u.value ≡ 93) ⊎ ((u.value ≡ 92) × (begins_class_escape here (values rest) ≡ false))
  no_atom_there u rest h = elim (cases_Bool (u.value == 93)) [
    | inl c ↦ inl (eqb-true u.value 93 c)
    | inr c ↦ elim (cases_Bool (u.value == 92)) [
      | inl b ↦ inr (
        eqb-true u.value 92 b,
        false_from_ne_true (begins_class_escape here (values rest)) (λ t.
            let a = atom_begins here refl u rest (eqb-true u.value 92 b) t in
            spelled_none a.0 (u ∷ rest) a.1 a.2 a.3 a.4 h),
      )
      | inr b ↦ elim (cases_Bool (u.value == 45)) [
        | inl d ↦ absurd (spelled_none (character kinds.Symbol 45) (u ∷ rest) (u ∷ []) rest refl (spelled.hyphen u refl (eqb-true u.value 45 d)) h)
        | inr d ↦
            let raw : not (is_one_of (codes "\\]-") u.value) ≡ true = grind (arith, nat_tests, b, c, d) in
            absurd (spelled_none (character _ u.value) (u ∷ rest) (u ∷ []) rest refl (spelled.raw u raw) h)
      ]
    ]
  ]

  module _ {place : ℕ} {rest : List CodePoint} (i : There place rest) (none : NothingFollows here i.at i.inner.held rest) where
    union : is_union i.inner.held ≡ true
    union = opened_union here refl i.tokens at_class i.at rest i.inner i.outer i.row i.accepted

    fits : Fits i.at i.inner.held
    fits = opened_fits here i.tokens at_class i.at rest i.inner i.outer i.row i.accepted

    at_fresh : i.at ≡ fresh
    at_fresh = fresh_union i.at i.inner.held i.begins fits union

    -- what would follow
    never : (t : ClassToken) (w more : List CodePoint) → rest ≡ w ++ more → SpellsInClass here fresh t w more → may_follow i.inner.held t ≡ true → ⊥
    never t w more whole s may = true≢false (sym may ∙ none t w more whole (subst (λ q. SpellsInClass here q t w more) (sym at_fresh) s))

    at_end : rest ≡ [] → Wrong
    at_end ends =
        let b = innermost here from at_class place rest i in
        let p = b.in_bracket.item_place in (
          place,
          _,
          class_cause.unterminated_class b.is_nested b.begin place rest b.in_bracket (ap (λ r. is_union r.held) b.inner_is ∙ union)
              (λ t w more whole s. ap (λ r. may_follow r.held t) b.inner_is ∙ none t w more whole (subst (λ q. SpellsInClass here q t w more) b.at_is s))
              (λ sets. absurd (true≢false (sym sets))) (λ no_sets. ends),
        )

    -- an atom, a `-` and an atom
    pair_there : (a b : Atom) (w z back : List CodePoint) (hyphen : CodePoint) → rest ≡ w ++ (hyphen ∷ (z ++ back)) → hyphen.value ≡ 45 → is_dashed (values (hyphen ∷ (z ++ back))) ≡ true → SpellsAtom here a w (hyphen ∷ (z ++ back)) →
        SpellsAtom here b z back → (c : Bool) → (is_character a && is_character b) ≡ c → ⊥
    pair_there a b w z back hyphen whole is d s t false apart =
        never (item a) w (hyphen ∷ (z ++ back)) whole (s, inr (inl (record { hyphen = hyphen; third = b; w = z; more = back; whole = refl; hyphen_is = is; dashed = d; spelled = t; apart = apart; threes = refl })))
        (union_more i.inner.held union).0
    pair_there (character k v) (character j x) w z back hyphen whole is d s t true both_are =
        never (low k v) w (hyphen ∷ (z ++ back)) whole (s, d, record { hyphen = hyphen; kind = j; value = x; w = z; more = back; whole = refl; hyphen_is = is; spelled = t })
        (ap is_some (union_more i.inner.held union).1.1)
    pair_there (character k v) (escape j) w z back hyphen whole is d s t true both_are = true≢false (sym both_are)
    pair_there (character k v) (property negative may name value) w z back hyphen whole is d s t true both_are = true≢false (sym both_are)
    pair_there (escape k) b w z back hyphen whole is d s t true both_are = true≢false (sym both_are)
    pair_there (property negative may name value) b w z back hyphen whole is d s t true both_are = true≢false (sym both_are)

    -- after an atom and a `-`
    second : (a : Atom) (w back : List CodePoint) → rest ≡ w ++ back → SpellsAtom here a w back → (d : Dashed back) → is_dashed (values back) ≡ true → (r : AtomRead) → atom_at here (d.next ∷ d.more) ≡ r → Wrong
    second a w back whole s d is no_atom h = elim (no_atom_there d.next d.more h) [
      | inl c ↦ absurd (true≢false (sym (ap (λ c. c == 93) c) ∙ d.no_closer))
      | inr b ↦ (
        place + length w + 1,
        _,
        class_cause.invalid_atom (place + length w + 1) d.next d.more refl
            (inr (inl (record {
              first = place;
              atom = a;
              w = w;
              hyphen = d.hyphen;
              item_place = same_place Legacy us start added from at_class i (w ++ (d.hyphen ∷ d.next ∷ d.more)) (whole ∙ ap (λ v. w ++ v) d.whole);
              hyphen_is = d.hyphen_is;
              dashed = ap (λ us. is_dashed (values us)) (sym d.whole) ∙ is;
              spelled = subst (SpellsAtom here a w) d.whole s;
              of_union = λ sets. absurd (true≢false (sym sets));
              place_is = refl;
            })))
            b.0 b.1,
      )
    ]
    second a w back whole s d is (atom_read b m) h =
        let f = atom_found here b m (d.next ∷ d.more) h in
        let back_is : back ≡ d.hyphen ∷ (f.w ++ f.rest) = d.whole ∙ ap (λ us. d.hyphen ∷ us) f.whole in
        absurd (pair_there a b w f.w f.rest d.hyphen (whole ∙ ap (λ v. w ++ v) back_is) d.hyphen_is (ap (λ us. is_dashed (values us)) (sym back_is) ∙ is) (subst (SpellsAtom here a w) back_is s) f.spelled
        (is_character a && is_character b) refl)

    by_dash : (a : Atom) (w back : List CodePoint) → rest ≡ w ++ back → SpellsAtom here a w back → (d : Bool) → is_dashed (values back) ≡ d → Wrong
    by_dash a w back whole s false d = absurd (never (item a) w back whole (s, inl d) (union_more i.inner.held union).0)
    by_dash a w back whole s true d = let p = dashed back d in second a w back whole s p d (atom_at here (p.next ∷ p.more)) refl

    by_atom : (u : CodePoint) (text : List CodePoint) → rest ≡ u ∷ text → (r : AtomRead) → atom_at here rest ≡ r → Wrong
    by_atom u text there no_atom h = elim (no_atom_there u text (ap (atom_at here) (sym there) ∙ h)) [
      | inl c ↦ absurd (never closer (u ∷ []) text there (ap (λ c. c ∷ []) c) (subst (λ q. Fits q i.inner.held) at_fresh fits))
      | inr b ↦ (place, _, class_cause.invalid_atom place u text refl (inl (record { item_place = same_place Legacy us start added from at_class i (u ∷ text) there; takes = (union_more i.inner.held union).0 })) b.0 b.1)
    ]
    by_atom u text there (atom_read a m) h = let f = atom_found here a m rest h in by_dash a f.w f.rest f.whole f.spelled (is_dashed (values f.rest)) refl

    by_text : (text : List CodePoint) → rest ≡ text → Wrong
    by_text [] ends = at_end ends
    by_text (u ∷ text) there = by_atom u text there (atom_at here rest) refl

  -- Where nothing may follow the text ends, or a backslash begins no escape.
  refuses_nothing : RefusesNothing Legacy us start added from at_class
  refuses_nothing place rest i none = by_text i none rest refl

  pub class_or_refusal : (u : CodePoint) (text : List CodePoint) → at_class ≡ u ∷ text → u.value ≡ 91 → AreCodeUnits text → StandsClass Legacy us start added from at_class ⊎ Refused Legacy us start added from at_class
  class_or_refusal u text at h units = items.class_or_refusal Legacy us start added from at_class refuses_nothing u text at h (units_small text units)
