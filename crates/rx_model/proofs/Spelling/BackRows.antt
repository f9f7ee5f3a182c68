-- The canonical text of the known tokens of a pattern is a row of them, but for the kinds of characters.
use Rattle.std.proofs.Common.{◌≡◌, ◌≢◌, ℕ, ◌<◌, ◌≤◌, Bool, true, false, ◌==◌, ◌&&◌, ◌||◌, nat_le, Option, Some, None, List, [], ◌∷◌, ◌++◌, length, get_or, refl, sym, ap, ◌∙◌, subst, append_assoc, arith}
use Rattle.std.specs.List.{All}
use Rattle.std.specs.Fmt.{decimal}
use Rattle.std.proofs.lemmas.Bool.{cond_both, eqb-true, true≢false}
use Rattle.std.proofs.lemmas.Bool.Decides.{nat_tests}
use Rattle.std.proofs.lemmas.Fmt.{decimal_is_IsNumeral, first_decimal}
use Rattle.std.proofs.lemmas.List.Elements.{All-head, All-tail}
use Rattle.rx_ast.specs.declared.leaf.BoundaryAssertionKind.{BoundaryAssertionKind}
use Rattle.rx_ast.specs.declared.leaf.BoundaryAssertionKind.TheVariants as boundaries
use Rattle.rx_ast.specs.declared.leaf.LookAroundAssertionKind.{LookAroundAssertionKind}
use Rattle.rx_ast.specs.declared.leaf.LookAroundAssertionKind.TheVariants as look
use Rattle.rx_tables.specs.Characters.{is_decimal_digit, is_syntax_character}
use Rattle.rx_ast.specs.ClassTree.{Class}
use Rattle.rx_units.specs.declared.code_point.CodePoint.{CodePoint}
use Rattle.rx_units.specs.Units.{literal_units, values}
use Rattle.rx_units.specs.Digits.{front_is}
use Rattle.rx_units.proofs.Choices.{both}
use Rattle.rx_model.specs.declared.mode.Mode.{Mode}
use Rattle.rx_model.specs.declared.mode.Mode.TheVariants.{Legacy, Unicode, Sets}
use Rattle.rx_ast.specs.Texts.{boundary_text, class_escape_text, property_text, letters, dash, look_text, indexed_text, named_text, counts_text, lazy_text, quantifier_text}
use Rattle.rx_model.specs.Spelling.CharacterText.{two_digits, four_digits, in_braces_text, outside, character_text}
use Rattle.rx_model.specs.Spelling.ClassText.{class_text}
use Rattle.rx_model.specs.Trees.Early.{Obeys, IsEarlyOpener, greatest_count, most_groups, IsGreatest}
use Rattle.rx_model.specs.Inputs.Environment.{for_classes, Environment, is_unicode}
use Rattle.rx_model.specs.Groups.GroupNames.{SpellsName}
use Rattle.rx_model.specs.Groups.Groups.{IsNaming, IsNamed, SpellsOpener}
use Rattle.rx_model.specs.FirstPass.Marks.{starts}
use Rattle.rx_model.specs.Quantifiers.Quantifiers.{AreDigits, SpellsCounts, star, plus, optional, braces, exactly, at_least, between, lazy_mark, is_question}
use Rattle.rx_model.specs.Reading.Rows.{Spells, TokenRow}
use Rattle.rx_model.specs.Trees.Shapes.{run, group_takes}
use Rattle.rx_model.specs.Trees.Token.{Token, Opener, boundary, character, dot, class_escape, property, class, indexed, named, opener, closer, bar, quantifier, capturing, ignoring, looking}
use Rattle.rx_model.proofs.Spelling.Backs.{spelled_kind, values_literal, units-append, character_spelled, are_digits}
use Rattle.rx_model.proofs.Spelling.Bounds.{FitsIn}
use Rattle.rx_model.proofs.Spelling.ClassAgain.{again_class}
use Rattle.rx_model.proofs.Spelling.ClassBacks.{property_spelled, class_spelled_again}
use Rattle.rx_model.proofs.Spelling.ClassTexts.{BeginsOutside, class_escape_outside, property_outside, class_outside}
use Rattle.rx_model.proofs.Spelling.ClassKnown.{IsKnownClass}
use Rattle.rx_model.proofs.Spelling.Known.{NameFits, IsKnownOpener, Known, AreKnown}
use Rattle.rx_model.proofs.Groups.ModifierTexts.{modifiers_spelled}
use Rattle.rx_model.proofs.Groups.NameTexts.{IsName, name_spelled}
use Rattle.rx_model.proofs.Spelling.Narrows.{IsNarrow, character_narrow, class_narrow, narrow_by}
use Rattle.rx_model.proofs.Spelling.Wides.{wide, values_wide, narrow_units, front_wide, wide-append, wide_closed, wide_name_spelled}
use Rattle.rx_model.proofs.Spelling.TokenTexts.{opened_text, token_text, token_refers, tokens_text}
use Rattle.rx_model.proofs.Spelling.CharacterText.{by_form}
use Rattle.rx_model.proofs.Spelling.PrintableTexts.{boundary_printable, class_escape_printable, decimal_printable, look_printable, modifiers_are_printable, quantifier_printable}

-- the token that the canonical text is read as; the flag says whether an unquantified indexed reference stands right before
abbrev pub again_token : Mode → Bool → Token → Token
again_token mode after_reference (character kind value) = character (spelled_kind mode after_reference value) value
again_token mode after_reference (boundary kind) = boundary kind
again_token mode after_reference dot = dot
again_token mode after_reference (class_escape kind) = class_escape kind
again_token mode after_reference (property negative strings name value) = property negative strings name value
again_token mode after_reference (class c) = class (again_class mode c)
again_token mode after_reference (indexed n) = indexed n
again_token mode after_reference (named name) = named name
again_token mode after_reference (opener o) = opener o
again_token mode after_reference closer = closer
again_token mode after_reference bar = bar
again_token mode after_reference (quantifier min max greedy) = quantifier min max greedy

abbrev pub again_tokens : Mode → Bool → List Token → List Token
again_tokens mode after_reference [] = []
again_tokens mode after_reference (t ∷ ts) = again_token mode after_reference t ∷ again_tokens mode (token_refers t) ts

some_digit : (ds : List ℕ) → 0 < length ds → ds ≢ []
some_digit [] h e = omega (arith, h)
some_digit (d ∷ ds) h e = cc

decimal_digits : (n : ℕ) → n ≤ greatest_count → AreDigits n (decimal n)
decimal_digits n h = let d = decimal_is_IsNumeral n (omega (arith, h)) in are_digits n (decimal n) d.0.1 (some_digit (decimal n) d.0.0) d.1

counts_spelled : (min : ℕ) (max : Option ℕ) → min ≤ greatest_count → IsGreatest min max → SpellsCounts min max (counts_text min max)
counts_spelled min None h k =
    let P : List ℕ → Type 0 = SpellsCounts min None in
    cond_both (min == 0) _ _ P (λ e. subst (λ n. SpellsCounts n None (42 ∷ [])) (sym (eqb-true min 0 e)) star)
    (λ _. cond_both (min == 1) _ _ P (λ e. subst (λ n. SpellsCounts n None (43 ∷ [])) (sym (eqb-true min 1 e)) plus)
    (λ _. braces (at_least (decimal min) (decimal_digits min h))))
counts_spelled min (Some max) h k =
    let P : List ℕ → Type 0 = SpellsCounts min (Some max) in
    cond_both (min == 0 && max == 1) _ _ P
    (λ e. let p = both (min == 0) (max == 1) e in
    subst (λ n. SpellsCounts n (Some max) (63 ∷ [])) (sym (eqb-true min 0 p.0)) (subst (λ n. SpellsCounts 0 (Some n) (63 ∷ [])) (sym (eqb-true max 1 p.1)) optional))
    (λ _. cond_both (min == max) _ _ P
    (λ e. subst (λ n. SpellsCounts min (Some n) (123 ∷ (decimal min ++ (125 ∷ [])))) (eqb-true min max e) (braces (exactly (decimal min) (decimal_digits min h))))
    (λ _. braces (between (decimal min) (decimal max) (decimal_digits min h) (decimal_digits max k.1))))

lazy_same : (greedy : Bool) → lazy_text greedy ≡ lazy_mark greedy
lazy_same true = refl
lazy_same false = refl

not_question : (c : ℕ) → (is_syntax_character c || c == 47) ≡ false → is_question c ≡ false
not_question c h = grind (arith, nat_tests)

-- no character's text begins with a question mark
character_no_question : (mode : Mode) (c : ℕ) (more : List ℕ) → front_is is_question (character_text mode (outside false) c ++ more) ≡ false
unfolding two_digits four_digits in_braces_text
character_no_question mode c more =
    by_form (λ text. front_is is_question (text ++ more) ≡ false) mode (outside false) c refl refl refl refl (λ _. refl) (λ _. refl) (λ raw. not_question c raw.unescaped)

-- right after a reference no character's text begins with a digit
character_no_digit : (mode : Mode) (c : ℕ) (more : List ℕ) → front_is is_decimal_digit (character_text mode (outside true) c ++ more) ≡ false
unfolding two_digits four_digits in_braces_text
character_no_digit mode c more = by_form (λ text. front_is is_decimal_digit (text ++ more) ≡ false) mode (outside true) c refl refl refl refl (λ _. refl) (λ _. refl) (λ raw. raw.alone)

-- the set holds none of these: $ ( \ ^
module _ (set : ℕ → Bool) (dollar : set 36 ≡ false) (parenthesis : set 40 ≡ false) (backslash : set 92 ≡ false) (caret : set 94 ≡ false) where
  boundary_outside : (kind : BoundaryAssertionKind) → BeginsOutside set (boundary_text kind)
  boundary_outside boundaries.Start more = caret
  boundary_outside boundaries.End more = dollar
  boundary_outside q more = backslash

  look_outside : (kind : LookAroundAssertionKind) → BeginsOutside set (look_text kind)
  look_outside look.Lookahead more = parenthesis
  look_outside look.NegativeLookahead more = parenthesis
  look_outside look.Lookbehind more = parenthesis
  look_outside look.NegativeLookbehind more = parenthesis

  opened_outside : (o : Opener) → BeginsOutside set (opened_text o)
  opened_outside (capturing None) more = parenthesis
  opened_outside (capturing (Some name)) more = parenthesis
  opened_outside (ignoring None) more = parenthesis
  opened_outside (ignoring (Some bits)) more = parenthesis
  opened_outside (looking kind) more = look_outside kind more

counts_no_digit : (min : ℕ) (max : Option ℕ) → BeginsOutside is_decimal_digit (counts_text min max)
counts_no_digit min None more =
    let P : List ℕ → Type 0 = λ text. front_is is_decimal_digit (text ++ more) ≡ false in
    cond_both (min == 0) _ _ P (λ _. refl) (λ _. cond_both (min == 1) _ _ P (λ _. refl) (λ _. refl))
counts_no_digit min (Some max) more =
    let P : List ℕ → Type 0 = λ text. front_is is_decimal_digit (text ++ more) ≡ false in
    cond_both (min == 0 && max == 1) _ _ P (λ _. refl) (λ _. cond_both (min == max) _ _ P (λ _. refl) (λ _. refl))

quantifier_no_digit : (min : ℕ) (max : Option ℕ) (greedy : Bool) → BeginsOutside is_decimal_digit (quantifier_text min max greedy)
quantifier_no_digit min max greedy more =
    ap (front_is is_decimal_digit) (append_assoc (counts_text min max) (lazy_text greedy) more) ∙ counts_no_digit min max (lazy_text greedy ++ more)

-- What has to follow a token for its canonical text to be read as that token.
abbrev FollowsOpener : Opener → List ℕ → Type 0
FollowsOpener (capturing None) more = front_is is_question more ≡ false
FollowsOpener (capturing (Some name)) more = Unit {0}
FollowsOpener (ignoring bits) more = Unit {0}
FollowsOpener (looking kind) more = Unit {0}

abbrev Follows : Token → List ℕ → Type 0
Follows (quantifier min max greedy) more = front_is is_question more ≡ false
Follows (indexed n) more = front_is is_decimal_digit more ≡ false
Follows (opener o) more = FollowsOpener o more
Follows t more = Unit {0}

-- where no question mark follows, what has to follow an opener does
follows_opener : (o : Opener) (more : List ℕ) → front_is is_question more ≡ false → FollowsOpener o more
follows_opener (capturing None) more h = h
follows_opener (capturing (Some name)) more h = tt
follows_opener (ignoring bits) more h = tt
follows_opener (looking kind) more h = tt

first_no_zero : (ds : List ℕ) → 48 < get_or ds 0 0 → starts 48 ds ≡ false
first_no_zero [] h = refl
first_no_zero (d ∷ ds) h = grind (arith, nat_tests)

-- the number of a reference begins with no zero
no_zero : (n : ℕ) → 1 ≤ n → n ≤ most_groups → starts 48 (decimal n) ≡ false
no_zero n some low = first_no_zero (decimal n) (first_decimal n some (omega (arith, low)))

at_most : (n k : ℕ) → n ≤ k → nat_le n k ≡ true
at_most n k h = grind (arith, nat_tests, h)

high_question : (c : ℕ) → 0xD800 ≤ c → is_question c ≡ false
high_question c h = grind (arith, nat_tests, h)

high_digit : (c : ℕ) → 0xD800 ≤ c → is_decimal_digit c ≡ false
high_digit c h = grind (arith, nat_tests, h)

module _ (e : Environment) (mode : Mode) (m : e.mode ≡ mode) (count : ℕ) (groups_are : e.groups ≡ count) (in_limit : count ≤ most_groups) (names : List (List ℕ)) where
  -- no question mark comes where no quantifier may follow
  no_question : (ts : List Token) (open_groups : List Opener) (end : List Opener × Bool) → run mode ts open_groups false ≡ Some end → AreKnown true e ts →
      front_is is_question (tokens_text mode false ts) ≡ false
  no_question [] open_groups end r k = refl
  no_question ((boundary kind) ∷ ts) open_groups end r k = boundary_outside is_question refl refl refl refl kind (tokens_text mode false ts)
  no_question ((character kind value) ∷ ts) open_groups end r k = character_no_question mode value (tokens_text mode false ts)
  no_question (dot ∷ ts) open_groups end r k = refl
  no_question ((class_escape kind) ∷ ts) open_groups end r k = class_escape_outside is_question refl kind (tokens_text mode false ts)
  no_question ((property negative strings name value) ∷ ts) open_groups end r k = property_outside is_question refl negative name value (tokens_text mode false ts)
  no_question ((class c) ∷ ts) open_groups end r k = class_outside mode is_question refl c (tokens_text mode false ts)
  no_question ((indexed n) ∷ ts) open_groups end r k = refl
  no_question ((named name) ∷ ts) open_groups end r k = refl
  no_question ((opener o) ∷ ts) open_groups end r k = opened_outside is_question refl refl refl refl o (tokens_text mode false ts)
  no_question (closer ∷ ts) open_groups end r k = refl
  no_question (bar ∷ ts) open_groups end r k = refl
  no_question ((quantifier min max greedy) ∷ ts) open_groups end r k = absurd (let f : ⊥ = cc r in f)

  -- no digit comes right after a reference
  no_digit : (ts : List Token) → AreKnown true e ts → front_is is_decimal_digit (tokens_text mode true ts) ≡ false
  no_digit [] k = refl
  no_digit ((boundary kind) ∷ ts) k = boundary_outside is_decimal_digit refl refl refl refl kind (tokens_text mode false ts)
  no_digit ((character kind value) ∷ ts) k = character_no_digit mode value (tokens_text mode false ts)
  no_digit (dot ∷ ts) k = refl
  no_digit ((class_escape kind) ∷ ts) k = class_escape_outside is_decimal_digit refl kind (tokens_text mode false ts)
  no_digit ((property negative strings name value) ∷ ts) k = property_outside is_decimal_digit refl negative name value (tokens_text mode false ts)
  no_digit ((class c) ∷ ts) k = class_outside mode is_decimal_digit refl c (tokens_text mode false ts)
  no_digit ((indexed n) ∷ ts) k = refl
  no_digit ((named name) ∷ ts) k = refl
  no_digit ((opener o) ∷ ts) k = opened_outside is_decimal_digit refl refl refl refl o (tokens_text mode false ts)
  no_digit (closer ∷ ts) k = refl
  no_digit (bar ∷ ts) k = refl
  no_digit ((quantifier min max greedy) ∷ ts) k = quantifier_no_digit min max greedy (tokens_text mode false ts)

  -- The run after a token, and what follows the token.
  record Next (t : Token) (ts : List Token) (end : List Opener × Bool) : Type 0 where
    open_after : List Opener
    ready_after : Bool
    run_after : run mode ts open_after ready_after ≡ Some end
    follows : Follows t (tokens_text mode (token_refers t) ts)

  next : (t : Token) (ts : List Token) (open_groups : List Opener) (ready : Bool) (end : List Opener × Bool) → run mode (t ∷ ts) open_groups ready ≡ Some end →
      AreKnown true e (t ∷ ts) → Next t ts end
  next (boundary kind) ts open_groups ready end r k = record { open_after = open_groups; ready_after = false; run_after = r; follows = tt }
  next (character kind value) ts open_groups ready end r k = record { open_after = open_groups; ready_after = true; run_after = r; follows = tt }
  next dot ts open_groups ready end r k = record { open_after = open_groups; ready_after = true; run_after = r; follows = tt }
  next (class_escape kind) ts open_groups ready end r k = record { open_after = open_groups; ready_after = true; run_after = r; follows = tt }
  next (property negative strings name value) ts open_groups ready end r k = record { open_after = open_groups; ready_after = true; run_after = r; follows = tt }
  next (class c) ts open_groups ready end r k = record { open_after = open_groups; ready_after = true; run_after = r; follows = tt }
  next (indexed n) ts open_groups ready end r k = record { open_after = open_groups; ready_after = true; run_after = r; follows = no_digit ts k.1 }
  next (named name) ts open_groups ready end r k = record { open_after = open_groups; ready_after = true; run_after = r; follows = tt }
  next (opener o) ts open_groups ready end r k = record {
    open_after = o ∷ open_groups;
    ready_after = false;
    run_after = r;
    follows = follows_opener o (tokens_text mode false ts) (no_question ts (o ∷ open_groups) end r k.1);
  }
  next closer ts [] ready end r k = absurd (let f : ⊥ = cc r in f)
  next closer ts (o ∷ open_groups) ready end r k = record { open_after = open_groups; ready_after = group_takes mode o; run_after = r; follows = tt }
  next bar ts open_groups ready end r k = record { open_after = open_groups; ready_after = false; run_after = r; follows = tt }
  next (quantifier min max greedy) ts open_groups false end r k = absurd (let f : ⊥ = cc r in f)
  next (quantifier min max greedy) ts open_groups true end r k = record {
    open_after = open_groups;
    ready_after = false;
    run_after = r;
    follows = no_question ts open_groups end r k.1;
  }

  -- the units of a name's text, before `>`
  naming_in_unicode : (name : List ℕ) → IsName name → (at : ℕ) (rest : List CodePoint) → IsNaming e name (literal_units true at (opened_text (capturing (Some name)))) rest
  naming_in_unicode name k at rest = record {
    spelled = name;
    whole = values_literal at (opened_text (capturing (Some name)));
    spells = name_spelled (is_unicode e.mode) name _ k;
  }

  naming_again : (md : Mode) → e.mode ≡ md → (name : List ℕ) → IsName name → NameFits md name → (at : ℕ) (rest : List CodePoint) →
      IsNaming e name (literal_units (is_unicode md) at (opened_text (capturing (Some name)))) rest
  naming_again Unicode l name k fits at rest = naming_in_unicode name k at rest
  naming_again Sets l name k fits at rest = naming_in_unicode name k at rest
  naming_again Legacy l name k fits at rest = record {
    spelled = wide name;
    whole = values_wide at (opened_text (capturing (Some name))) ∙ ap (λ v. 40 ∷ 63 ∷ 60 ∷ v) (wide_closed name);
    spells = subst (λ mode. SpellsName (is_unicode mode) name (wide name) (62 ∷ values rest)) (sym l) (wide_name_spelled name (62 ∷ values rest) k (fits refl));
  }

  reference_in_unicode : (name : List ℕ) → IsName name → e.named ≡ true → (at : ℕ) (rest : List CodePoint) → IsNamed e name (literal_units true at (named_text name)) rest
  reference_in_unicode name k there at rest = record {
    spelled = name;
    whole = values_literal at (named_text name);
    spells = name_spelled (is_unicode e.mode) name _ k;
    there = there;
  }

  reference_again : (md : Mode) → e.mode ≡ md → (name : List ℕ) → IsName name → NameFits md name → e.named ≡ true → (at : ℕ) (rest : List CodePoint) →
      IsNamed e name (literal_units (is_unicode md) at (named_text name)) rest
  reference_again Unicode l name k fits there at rest = reference_in_unicode name k there at rest
  reference_again Sets l name k fits there at rest = reference_in_unicode name k there at rest
  reference_again Legacy l name k fits there at rest = record {
    spelled = wide name;
    whole = values_wide at (named_text name) ∙ ap (λ v. 92 ∷ 107 ∷ 60 ∷ v) (wide_closed name);
    spells = subst (λ mode. SpellsName (is_unicode mode) name (wide name) (62 ∷ values rest)) (sym l) (wide_name_spelled name (62 ∷ values rest) k (fits refl));
    there = there;
  }

  -- what has no name has the same units in every mode
  same_units : (md : Mode) (at : ℕ) (text : List ℕ) → (md ≡ Legacy → IsNarrow text) → literal_units true at text ≡ literal_units (is_unicode md) at text
  same_units Legacy at text n = sym (narrow_units at text (n refl))
  same_units mode at text n = refl

  as_units : (t : Token) (at : ℕ) (text : List ℕ) (rest : List CodePoint) → (mode ≡ Legacy → IsNarrow text) → Spells e t (literal_units true at text) rest → Spells e t (literal_units (is_unicode mode) at text) rest
  as_units t at text rest n s = subst (λ us. Spells e t us rest) (same_units mode at text n) s

  character_in : (md : Mode) (after_reference : Bool) (c : ℕ) → FitsIn md c → md ≡ Legacy → IsNarrow (character_text md (outside after_reference) c)
  character_in Legacy after_reference c f l = character_narrow (outside after_reference) c (f refl)
  character_in mode after_reference c f l = absurd (let no : ⊥ = cc l in no)

  class_in : (md : Mode) (c : Class) → IsKnownClass true md c → md ≡ Legacy → IsNarrow (class_text md c)
  class_in Legacy c k l = class_narrow c k
  class_in mode c k l = absurd (let no : ⊥ = cc l in no)

  no_legacy : {A : Type 0} → is_unicode e.mode ≡ true → mode ≡ Legacy → A
  no_legacy u l = absurd (true≢false (sym u ∙ ap is_unicode (m ∙ l)))

  -- the units of an opener's canonical text spell it again
  opener_again : (o : Opener) → IsKnownOpener true mode o → IsEarlyOpener o → (at : ℕ) (rest : List CodePoint) → FollowsOpener o (values rest) →
      SpellsOpener e o (literal_units (is_unicode mode) at (opened_text o)) rest
  opener_again (capturing None) k h at rest f = as_units (opener (capturing None)) at (opened_text (capturing None)) rest (λ _. refl) (refl, f)
  opener_again (capturing (Some name)) k h at rest f = naming_again mode m name k.0 (k.1 refl) at rest
  opener_again (ignoring None) k h at rest f = as_units (opener (ignoring None)) at (opened_text (ignoring None)) rest (λ _. refl) refl
  opener_again (ignoring (Some bits)) k h at rest f = as_units (opener (ignoring (Some bits))) at (opened_text (ignoring (Some bits))) rest (λ _. narrow_by (opened_text (ignoring (Some bits))) (modifiers_are_printable bits)) (record {
    text = letters bits.0 ++ (dash bits.1 ++ letters bits.1);
    whole = values_literal at (opened_text (ignoring (Some bits)));
    spelled = modifiers_spelled bits k h.1;
  })
  opener_again (looking kind) k h at rest f = as_units (opener (looking kind)) at (look_text kind) rest (λ _. narrow_by (look_text kind) (look_printable kind)) (values_literal at (look_text kind))

  -- the units of a token's canonical text spell it again
  token_again : (after_reference : Bool) (t : Token) → Known true e t → Obeys count names t → (at : ℕ) (rest : List CodePoint) → Follows t (values rest) →
      Spells e (again_token mode after_reference t) (literal_units (is_unicode mode) at (token_text mode after_reference t)) rest
  token_again after_reference (boundary kind) k h at rest f =
      as_units (boundary kind) at (boundary_text kind) rest (λ _. narrow_by (boundary_text kind) (boundary_printable kind)) (record { text = values_literal at (boundary_text kind); there = k })
  token_again after_reference (character kind value) k h at rest f =
      as_units (character (spelled_kind mode after_reference value) value) at (character_text mode (outside after_reference) value) rest
      (character_in mode after_reference value (λ l. k refl (m ∙ l))) (character_spelled e mode m after_reference value h (λ l. k refl (m ∙ l)) at rest)
  token_again after_reference dot k h at rest f = as_units (dot) at (46 ∷ []) rest (λ _. refl) refl
  token_again after_reference (class_escape kind) k h at rest f =
      as_units (class_escape kind) at (class_escape_text kind) rest (λ _. narrow_by (class_escape_text kind) (class_escape_printable kind)) (values_literal at (class_escape_text kind))
  token_again after_reference (property negative strings name value) k h at rest f =
      as_units (property negative strings name value) at (property_text negative name value) rest (λ l. no_legacy k.0 l) (property_spelled e mode m negative strings name value k.0 k.1 at)
  token_again after_reference (class c) k h at rest f =
      as_units (class (again_class mode c)) at (class_text mode c) rest (class_in mode c (subst (λ mode. IsKnownClass true mode c) m k)) (class_spelled_again (for_classes e) mode m c k h at rest)
  token_again after_reference (indexed n) k h at rest f = as_units (indexed n) at (indexed_text n) rest (λ _. narrow_by (indexed_text n) (decimal_printable n (omega (arith, h.1, in_limit)))) (record {
    digits = decimal n;
    whole = values_literal at (indexed_text n);
    number = decimal_digits n (omega (arith, h.1, in_limit));
    not_zero = no_zero n h.0 (omega (arith, h.1, in_limit));
    all = f;
    refers = refers_again (is_unicode e.mode) n h.1;
  })
    where
      refers_again : (u : Bool) (n : ℕ) → n ≤ count → (u || nat_le n e.groups) ≡ true
      refers_again true n h = refl
      refers_again false n h = ap (nat_le n) groups_are ∙ at_most n count h
  token_again after_reference (named name) k h at rest f = reference_again mode m name k.0.0 (λ l. k.0.1 refl (m ∙ l)) k.1 at rest
  token_again after_reference (opener o) k h at rest f = opener_again o (subst (λ mode. IsKnownOpener true mode o) m k) h at rest f
  token_again after_reference closer k h at rest f = as_units (closer) at (41 ∷ []) rest (λ _. refl) refl
  token_again after_reference bar k h at rest f = as_units (bar) at (124 ∷ []) rest (λ _. refl) refl
  token_again after_reference (quantifier min max greedy) k h at rest f =
      as_units (quantifier min max greedy) at (quantifier_text min max greedy) rest (λ _. narrow_by (quantifier_text min max greedy) (quantifier_printable min max greedy h.0 h.1)) (record {
        prefix = counts_text min max;
        counts = counts_spelled min max h.0 h.1;
        whole = values_literal at (counts_text min max ++ lazy_text greedy) ∙ ap (λ mark. counts_text min max ++ mark) (lazy_same greedy);
        alone = λ _. f;
      })

  -- What has to follow a token follows it as units too.
  front_units : (u : Bool) (set : ℕ → Bool) → ((c : ℕ) → 0xD800 ≤ c → set c ≡ false) → (at : ℕ) (text : List ℕ) → front_is set text ≡ false → front_is set (values (literal_units u at text)) ≡ false
  front_units true set high at text h = ap (front_is set) (values_literal at text) ∙ h
  front_units false set high at text h = ap (front_is set) (values_wide at text) ∙ front_wide set high text h

  opener_followed : (u : Bool) (o : Opener) (at : ℕ) (text : List ℕ) → FollowsOpener o text → FollowsOpener o (values (literal_units u at text))
  opener_followed u (capturing None) at text h = front_units u is_question high_question at text h
  opener_followed u (capturing (Some name)) at text h = tt
  opener_followed u (ignoring bits) at text h = tt
  opener_followed u (looking kind) at text h = tt

  followed : (u : Bool) (t : Token) (at : ℕ) (text : List ℕ) → Follows t text → Follows t (values (literal_units u at text))
  followed u (quantifier min max greedy) at text h = front_units u is_question high_question at text h
  followed u (indexed n) at text h = front_units u is_decimal_digit high_digit at text h
  followed u (opener o) at text h = opener_followed u o at text h
  followed u q at text h = tt

  append_units : (u : Bool) (at : ℕ) (v w : List ℕ) → (between : ℕ) × (literal_units u at (v ++ w) ≡ literal_units u at v ++ literal_units u between w)
  append_units true at v w = units-append at v w
  append_units false at v w = wide-append at v w

  -- The units of the text, from any place on, are a row of the tokens.
  abbrev Again : List Token → List ℕ → Type 0
  Again ts text = (at : ℕ) → TokenRow e ts (literal_units (is_unicode mode) at text) []

  -- one more token in front
  further : (after_reference : Bool) (t : Token) (ts : List Token) → Known true e t → Obeys count names t → Follows t (tokens_text mode (token_refers t) ts) →
      Again (again_tokens mode (token_refers t) ts) (tokens_text mode (token_refers t) ts) →
      Again (again_tokens mode after_reference (t ∷ ts)) (tokens_text mode after_reference (t ∷ ts))
  further after_reference t ts k h f again at =
      let text = token_text mode after_reference t in
      let more = tokens_text mode (token_refers t) ts in
      let u = append_units (is_unicode mode) at text more in
      let rest = literal_units (is_unicode mode) u.0 more in
      (literal_units (is_unicode mode) at text, rest, u.1, token_again after_reference t k h at rest (followed (is_unicode mode) t u.0 more f), again u.0)

  pub tokens_again : (after_reference : Bool) (ts : List Token) (open_groups : List Opener) (ready : Bool) (end : List Opener × Bool) → run mode ts open_groups ready ≡ Some end →
      AreKnown true e ts → All (Obeys count names) ts → Again (again_tokens mode after_reference ts) (tokens_text mode after_reference ts)
  tokens_again after_reference [] open_groups ready end r k h = λ at. refl
  tokens_again after_reference (t ∷ ts) open_groups ready end r k h =
      let n = next t ts open_groups ready end r k in
      further after_reference t ts k.0 (All-head (Obeys count names) t ts h) n.follows
      (tokens_again (token_refers t) ts n.open_after n.ready_after end n.run_after k.1 (All-tail (Obeys count names) t ts h))
