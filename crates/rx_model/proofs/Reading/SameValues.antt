-- What is read depends on the values of units alone, but for the kinds of characters.
use Rattle.std.proofs.Common.{◌≡◌, refl, sym, ap, ap₂, ◌∙◌, subst, ℕ, ◌==◌, Bool, true, false, cond, Option, Some, None, List, [], ◌∷◌, ◌++◌, length, map, drop}
use Rattle.std.proofs.Math.Seq.{drop-append_seam}
use Rattle.rx_ast.specs.declared.term.Pattern.{Pattern}
use Rattle.rx_ast.specs.ClassTree.{Class}
use Rattle.rx_ast.specs.Forget.{bare}
use Rattle.rx_units.specs.declared.code_point.CodePoint.{CodePoint}
use Rattle.rx_units.specs.Units.{values}
use Rattle.rx_units.proofs.Choices.{Some-inj}
use Rattle.rx_model.specs.declared.mode.Mode.{Mode}
use Rattle.rx_model.specs.Classes.ClassFronts.{class_front}
use Rattle.rx_model.specs.FirstPass.Marks.{count, marks, seen}
use Rattle.rx_model.specs.Inputs.Environment.{Environment, for_classes, environment, environment_with, has_some}
use Rattle.rx_model.specs.Reading.Fronts.{backslash_front, bracket_token, front, is_raw_at, syntax_front}
use Rattle.rx_model.specs.Reading.Reading.{Reads}
use Rattle.rx_model.specs.Reading.Rows.{Spells, TokenRow}
use Rattle.rx_model.specs.Refusals.Reached.{text_environment, text_groups, text_names}
use Rattle.rx_model.specs.Trees.Events.{tokens}
use Rattle.rx_model.specs.Trees.Token.{Token, character}
use Rattle.rx_model.specs.Characters.UnitKinds.{unit_kind}
use Rattle.rx_model.specs.declared.rules.Rules.{Rules}
use Rattle.rx_model.proofs.Classes.BareClassFronts.{bare_class_read, class_same, drop_values}
use Rattle.rx_model.proofs.FirstPass.OwnGroups.{own_environment}
use Rattle.rx_model.proofs.Reading.Fronts.{spelled_front}
use Rattle.rx_model.proofs.Reading.OneRow.{nothing_spelled}
use Rattle.rx_model.proofs.Trees.BareTrees.{bare_token, one_bare_tree}

-- what is read, without the kinds of characters
abbrev bare_read : Option (Token × ℕ) → Option (Token × ℕ)
bare_read None = None
bare_read (Some t) = Some (bare_token t.0, t.1)

bracket_bare : (c : Option (Class × ℕ)) → bare_read (bracket_token c) ≡ bracket_token (bare_class_read c)
bracket_bare None = refl
bracket_bare (Some c) = refl

-- the token at the front, by what its first unit is: raw, a backslash, a bracket before a class, or another
abbrev front_by : Bool → Bool → Bool → Token → Option (Token × ℕ) → Option (Class × ℕ) → Option (Token × ℕ) → Option (Token × ℕ)
front_by raw backslash bracket itself escaped c other = cond raw (Some (itself, 1)) (cond backslash escaped (cond bracket (bracket_token c) other))

front_by_same : (raw backslash bracket : Bool) (t s : Token) (escaped : Option (Token × ℕ)) (c d : Option (Class × ℕ)) (other : Option (Token × ℕ)) → bare_token t ≡ bare_token s →
    bare_class_read c ≡ bare_class_read d → bare_read (front_by raw backslash bracket t escaped c other) ≡ bare_read (front_by raw backslash bracket s escaped d other)
front_by_same true backslash bracket t s escaped c d other h k = ap (λ t. Some (t, 1)) h
front_by_same false true bracket t s escaped c d other h k = refl
front_by_same false false true t s escaped c d other h k = bracket_bare c ∙ ap bracket_token k ∙ sym (bracket_bare d)
front_by_same false false false t s escaped c d other h k = refl

empty_values : (us : List CodePoint) → [] ≡ values us → us ≡ []
empty_values [] h = refl
empty_values (u ∷ us) h = absurd (let no : ⊥ = cc h in no)

module _ (e : Environment) where
  front_same : (us vs : List CodePoint) → values us ≡ values vs → bare_read (front e us) ≡ bare_read (front e vs)
  unfolding front
  front_same [] [] h = refl
  front_same [] (v ∷ vs) h = absurd (let no : ⊥ = cc h in no)
  front_same (u ∷ us) [] h = absurd (let no : ⊥ = cc h in no)
  front_same (u ∷ us) (v ∷ vs) h =
      let same : u.value ≡ v.value = cc h in
      let more : values us ≡ values vs = cc h in
      front_by_same (is_raw_at e u.value (values us)) (u.value == 92) (u.value == 91) (character (unit_kind u.escape_kind) u.value) (character (unit_kind v.escape_kind) u.value)
      (backslash_front e (values us)) (class_front (for_classes e) (u ∷ us)) (class_front (for_classes e) (v ∷ vs)) (syntax_front e u.value (values us)) refl (class_same (for_classes e) (u ∷ us) (v ∷ vs) h)
      ∙ ap₂ (λ c w. bare_read (front_by (is_raw_at e c w) (c == 92) (c == 91) (character (unit_kind v.escape_kind) c) (backslash_front e w) (class_front (for_classes e) (v ∷ vs)) (syntax_front e c w)))
      same more

  token_same : (t s : Token) (w more v rest : List CodePoint) → values (w ++ more) ≡ values (v ++ rest) → Spells e t w more → Spells e s v rest →
      (bare_token t ≡ bare_token s) × (values more ≡ values rest)
  token_same t s w more v rest h a b =
      let pair : (bare_token t, length w) ≡ (bare_token s, length v) =
      Some-inj (ap bare_read (sym (spelled_front e t w more a)) ∙ front_same (w ++ more) (v ++ rest) h ∙ ap bare_read (spelled_front e s v rest b)) in (
        ap (λ x. x.0) pair,
        ap values (sym (drop-append_seam w more)) ∙ drop_values (length w) (w ++ more) (v ++ rest) h ∙ ap (λ n. values (drop n (v ++ rest))) (ap (λ x. x.1) pair)
            ∙ ap values (drop-append_seam v rest),
      )

  -- no token is left where no unit is
  none_left : (t : Token) (ts : List Token) (us : List CodePoint) → [] ≡ values us → TokenRow e (t ∷ ts) us [] → ⊥
  none_left t ts us h r = nothing_spelled e t ts [] (subst (λ us. TokenRow e (t ∷ ts) us []) (empty_values us h) r)

  row_same : (ts ss : List Token) (us vs : List CodePoint) → values us ≡ values vs → TokenRow e ts us [] → TokenRow e ss vs [] → map bare_token ts ≡ map bare_token ss
  row_same [] [] us vs h r q = refl
  row_same [] (s ∷ ss) us vs h r q = absurd (none_left s ss vs (ap values (sym r) ∙ h) q)
  row_same (t ∷ ts) [] us vs h r q = absurd (none_left t ts us (ap values (sym q) ∙ sym h) r)
  row_same (t ∷ ts) (s ∷ ss) us vs h r q =
      let first = token_same t s r.0 r.1 q.0 q.1 (ap values (sym r.2) ∙ h ∙ ap values q.2) r.3 q.3 in
      ap₂ (λ t ts. t ∷ ts) first.0 (row_same ts ss r.1 q.1 first.1 r.4 q.4)

environment_same : (mode : Mode) (rules : Rules) (us vs : List CodePoint) → values us ≡ values vs → text_environment mode rules us ≡ text_environment mode rules vs
unfolding text_groups text_names
environment_same mode rules us vs h = ap (λ w. environment_with mode rules.buffer_boundaries (count (marks mode w)) (has_some (seen mode (marks mode w)))) h

-- Trees that units of equal values spell are equal but for spans and kinds.
pub same_values : (mode : Mode) (rules : Rules) (p q : Pattern) (us vs : List CodePoint) → Reads mode rules p us → Reads mode rules q vs → values us ≡ values vs → bare p ≡ bare q
same_values mode rules p q us vs r s h =
    let same : environment mode rules p ≡ environment mode rules q =
    sym (own_environment mode rules p us r.spelled) ∙ environment_same mode rules us vs h ∙ own_environment mode rules q vs s.spelled in
    one_bare_tree mode p q r.spelled.shape s.spelled.shape
    (row_same (environment mode rules q) (tokens p) (tokens q) us vs h (subst (λ e. TokenRow e (tokens p) us []) same r.spelled.row) s.spelled.row)
