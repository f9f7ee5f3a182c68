-- When the text of a pattern is refused, and where: at a place that is reached, for what stands there.
use Rattle.std.specs.Prelude.{◌≡◌, ◌≢◌, ℕ, ◌+◌, ◌<◌, ◌≤◌, ◌⊎◌, ◌==◌, Bool, true, false, not, ◌&&◌, ◌||◌, Contains, Option, Some, None, List, [], ◌∷◌, ◌++◌, length, codes}
use Rattle.rx_base.specs.Ascii as ascii
use Rattle.rx_base.specs.declared.diagnostic.Diagnostic.{Diagnostic}
use Rattle.rx_base.specs.declared.diagnostic.Diagnostic.TheVariants.{DuplicatedCapturingGroupNames, TooMayCapturingGroups, ParsePatternIncomplete, LoneQuantifier, UnterminatedPattern, InvalidExtendedAtomEscape, InvalidBracedQuantifier, InvalidSurrogatePair, InvalidIndexedReference, EmptyGroupSpecifier, InvalidNamedReference, BracedQuantifierOutOfOrder, TooLargeNumberInBracedQuantifier, TooLargeNumberDigits, InvalidUnicodeEscapeSequence, DuplicatedModifiers, InvalidModifiers, EmptyModifiers, UnknownModifiers}
use Rattle.rx_base.specs.declared.diagnostic.kinds.DigitsKind.TheVariants as digits
use Rattle.rx_base.specs.declared.diagnostic.kinds.Unterminated.{Unterminated}
use Rattle.rx_base.specs.declared.diagnostic.kinds.Unterminated.TheVariants as what
use Rattle.rx_base.specs.declared.span.Span.{Span}
use Rattle.rx_base.specs.SurrogatePair.{IsLeadSurrogate, IsTrailSurrogate}
use Rattle.rx_units.specs.declared.code_point.CodePoint.{CodePoint}
use Rattle.rx_units.specs.Units.{values}
use Rattle.rx_units.specs.Digits.{front_is, PassesHex}
use Rattle.rx_model.specs.declared.mode.Mode.{Mode}
use Rattle.rx_model.specs.Refusals.ClassCauses.{IsClassCause}
use Rattle.rx_model.specs.Trees.Early.{greatest_count, most_groups}
use Rattle.rx_model.specs.Inputs.Environment.{is_unicode}
use Rattle.rx_model.specs.Groups.Groups.{EndsName, is_mark}
use Rattle.rx_model.specs.FirstPass.Marks.{IsFirstClash, marks, name_places, starts}
use Rattle.rx_model.specs.Groups.Modifiers.{AreSides, has_twice, is_modifier, occurs, share_some}
use Rattle.rx_model.specs.Refusals.EscapeCauses.{IsEscapeCause, IsPropertyCause}
use Rattle.rx_model.specs.Quantifiers.Quantifiers.{BeginsWithBraces, SpellsBraces, PassesLimit}
use Rattle.rx_model.specs.Refusals.Reached.{AreObeying, HasNoClash, IsInside, IsPlace, IsReached, span_between, text_environment, text_groups, text_names}
use Rattle.rx_model.specs.declared.rules.Rules.{Rules}
use Rattle.rx_model.specs.Reading.Rows.{Spells}
use Rattle.rx_model.specs.Refusals.Stops.{IsStop}
use Rattle.rx_model.specs.Trees.Token.{Opener, capturing, ignoring, looking, indexed, named, quantifier}
use Rattle.rx_model.specs.Characters.UnicodeEscapes.{Decodes}

-- a count that is larger than may stand in braces
abbrev pub IsTooLarge : ℕ → Option ℕ → Type 0
IsTooLarge min None = greatest_count < min
IsTooLarge min (Some max) = (greatest_count < min) ⊎ (greatest_count < max)

-- the greatest is below the least
abbrev pub IsOutOfOrder : ℕ → Option ℕ → Type 0
IsOutOfOrder min None = ⊥
IsOutOfOrder min (Some max) = max < min

-- A complete quantifier in braces stands next, and its digits pass no limit.
pub record HasBraces (min : ℕ) (max : Option ℕ) (count : ℕ) (rest : List CodePoint) : Type 0 where
  pub prefix : List ℕ
  pub following : List ℕ
  pub spelled : SpellsBraces min max prefix
  pub whole : values rest ≡ prefix ++ following
  pub count_is : count ≡ length prefix
  pub in_limit : (start digits : ℕ) → PassesLimit (values rest) start digits → ⊥

-- what is said of a group that does not end
abbrev pub unterminated : Opener → Unterminated
unterminated (capturing name) = what.CapturingGroup
unterminated (ignoring bits) = what.IgnoreGroup
unterminated (looking kind) = what.LookAround

-- the span of a name that the first pass finds, between its `<` and its `>`
abbrev pub name_span : Mode → List CodePoint → ℕ → ℕ → ℕ → Span
name_span mode us first added k = span_between us first added (name_places mode (values us) k).0 (name_places mode (values us) k).1

-- whether modifiers are to stand next, after `(?`
abbrev pub begins_modifiers : List ℕ → Bool
begins_modifiers [] = false
begins_modifiers (c ∷ []) = false
begins_modifiers (c ∷ d ∷ w) = c == ascii.left_parenthesis && d == ascii.question_mark && not (front_is is_mark w)

-- Modifiers at the front, after `(?`, lead to no `:`: after their text there is no letter, no first `-` and no `:`.
pub record LeadNowhere (text following : List ℕ) : Type 0 where
  pub enabled : List ℕ
  pub disabled : List ℕ
  pub sides : AreSides enabled disabled text
  pub no_letter : front_is is_modifier following ≡ false
  pub no_dash : starts ascii.hyphen following ≡ true → occurs ascii.hyphen text ≡ true
  pub no_colon : starts ascii.colon following ≡ false
  pub no_mark : text ≡ [] → front_is is_mark following ≡ false

-- A raw lead and a raw trail stand next.
pub record BeginsWithPair (w : List ℕ) : Type 0 where
  pub lead : ℕ
  pub trail : ℕ
  pub rest : List ℕ
  pub whole : w ≡ lead ∷ trail ∷ rest
  pub is_lead : IsLeadSurrogate lead
  pub is_trail : IsTrailSurrogate trail

-- The diagnostic is a refusal of what stands at this place, in a text whose first offset is `first`, `added` being added to each: a place that is reached,
-- or one in a class that begins at such a place.
pub data IsCauseAtPlace (mode : Mode) (rules : Rules) (us : List CodePoint) (first added : ℕ) : ℕ → Diagnostic → Type 0 where
  -- Outside groups terms end before the end of the text.
  incomplete : (place following : ℕ) (ready : Bool) (rest : List CodePoint) → IsReached mode rules us place [] ready rest → IsStop (text_environment mode rules us) rest following → rest ≢ []
      → IsCauseAtPlace mode rules us first added place (ParsePatternIncomplete (span_between us first added (place + following) (place + following)))
  -- A quantifier stands where there is nothing that may have one (Term, 22.2.1).
  lone : (place min : ℕ) (max : Option ℕ) (greedy : Bool) (open_groups : List Opener) (w more : List CodePoint) → IsReached mode rules us place open_groups false (w ++ more)
      → is_unicode mode ≡ true → Spells (text_environment mode rules us) (quantifier min max greedy) w more → AreObeying mode us (quantifier min max greedy ∷ [])
      → IsCauseAtPlace mode rules us first added place (LoneQuantifier (span_between us first added place (place + length w)))
  -- The same with neither `u` nor `v` (InvalidBracedQuantifier, and Term, B.1.2).
  lone_in_legacy : (place min : ℕ) (max : Option ℕ) (greedy : Bool) (open_groups : List Opener) (w more : List CodePoint) → IsReached mode rules us place open_groups false (w ++ more)
      → is_unicode mode ≡ false → Spells (text_environment mode rules us) (quantifier min max greedy) w more → AreObeying mode us (quantifier min max greedy ∷ [])
      → IsCauseAtPlace mode rules us first added place (InvalidBracedQuantifier (span_between us first added place (place + length w)))
  -- With neither `u` nor `v` a backslash ends the text.
  last_backslash : (place : ℕ) (backslash : CodePoint) → IsPlace mode rules us place (backslash ∷ []) → is_unicode mode ≡ false → backslash.value ≡ ascii.backslash
      → IsCauseAtPlace mode rules us first added place (InvalidExtendedAtomEscape (span_between us first added place (place + 1)))
  -- The greatest number is below the least (22.2.1.1, QuantifierPrefix).
  out_of_order : (place count min : ℕ) (max : Option ℕ) (rest : List CodePoint) → IsPlace mode rules us place rest → HasBraces min max count rest → IsOutOfOrder min max
      → IsCauseAtPlace mode rules us first added place (BracedQuantifierOutOfOrder (span_between us first added place (place + count)))
  -- A number is above 2^53 - 1, and they are not out of order.
  -- Why: docs/DECISIONS.md, 19.
  too_large : (place count min : ℕ) (max : Option ℕ) (rest : List CodePoint) → IsPlace mode rules us place rest → HasBraces min max count rest → (IsOutOfOrder min max → ⊥) → IsTooLarge min max
      → IsCauseAtPlace mode rules us first added place (TooLargeNumberInBracedQuantifier (span_between us first added place (place + count)))
  -- The digits of a number after `{` pass 64 bits; with neither `u` nor `v` this is so in a complete quantifier alone, since another brace is a character.
  too_many_digits : (place start count : ℕ) (rest : List CodePoint) → IsPlace mode rules us place rest → PassesLimit (values rest) start count
      → (is_unicode mode ≡ false → BeginsWithBraces (values rest))
      → IsCauseAtPlace mode rules us first added place (TooLargeNumberDigits (span_between us first added (place + start) (place + start + count)) digits.Decimal)
  -- A character escape is refused.
  of_escape : (place : ℕ) (rest : List CodePoint) {diagnostic : Diagnostic} → IsPlace mode rules us place rest → IsEscapeCause mode us first added place rest diagnostic
      → IsCauseAtPlace mode rules us first added place diagnostic
  -- A property escape is refused.
  of_property : (place : ℕ) (rest : List CodePoint) {diagnostic : Diagnostic} → IsPlace mode rules us place rest → IsPropertyCause mode us first added place rest diagnostic
      → IsCauseAtPlace mode rules us first added place diagnostic
  -- A class is refused, at a place in it.
  of_class : (from place : ℕ) (at_class : List CodePoint) {diagnostic : Diagnostic} → IsPlace mode rules us from at_class → IsClassCause mode us first added from at_class place diagnostic
      → IsCauseAtPlace mode rules us first added place diagnostic
  -- A group or a look-around is open where terms end, and no `)` stands there.
  unterminated_group : (from place following : ℕ) (group : Opener) (rest : List CodePoint) → IsInside mode rules us from group place rest → IsStop (text_environment mode rules us) rest following
      → starts ascii.right_parenthesis (values rest) ≡ false → IsCauseAtPlace mode rules us first added place (UnterminatedPattern (span_between us first added from (place + following)) (unterminated group))
  -- With `u` or `v` after `<` and the longest row of a name's characters there is neither an escape nor, after some, a `>`.
  unterminated_name : (place count : ℕ) (rest : List CodePoint) (following : List ℕ) → IsPlace mode rules us place rest → is_unicode mode ≡ true
      → EndsName (text_environment mode rules us) (values rest) count following → starts ascii.backslash following ≡ false → (starts ascii.greater_than following ≡ true → count ≡ 0)
      → IsCauseAtPlace mode rules us first added place (UnterminatedPattern (span_between us first added (place + 2) (place + 3 + count)) what.GroupName)
  -- With neither `u` nor `v` nor a raw pair either.
  unterminated_name_in_legacy : (place count : ℕ) (rest : List CodePoint) (following : List ℕ) → IsPlace mode rules us place rest → is_unicode mode ≡ false
      → EndsName (text_environment mode rules us) (values rest) count following → starts ascii.backslash following ≡ false → (BeginsWithPair following → ⊥) → (starts ascii.greater_than following ≡ true → count ≡ 0)
      → IsCauseAtPlace mode rules us first added place (UnterminatedPattern (span_between us first added (place + 2) (place + 3 + count)) what.GroupName)
  -- With neither `u` nor `v` a raw pair stands in a name that may not stand there.
  misplaced_pair : (place count : ℕ) (rest : List CodePoint) (following : List ℕ) → IsPlace mode rules us place rest
      → is_unicode mode ≡ false → EndsName (text_environment mode rules us) (values rest) count following → BeginsWithPair following
      → IsCauseAtPlace mode rules us first added place (InvalidSurrogatePair (span_between us first added (place + 3 + count) (place + 5 + count)))
  -- In a name the digits of a unicode escape pass 32 bits.
  too_many_digits_in_name : (place count many : ℕ) (rest : List CodePoint) (following : List ℕ) → IsPlace mode rules us place rest
      → EndsName (text_environment mode rules us) (values rest) count (ascii.backslash ∷ following) → PassesHex following many
      → IsCauseAtPlace mode rules us first added place (TooLargeNumberDigits (span_between us first added (place + 6 + count) (place + 6 + count + many)) digits.Hex)
  -- In a name stands a unicode escape of what may not stand there.
  misplaced_in_name : (place count value n : ℕ) (rest : List CodePoint) (following : List ℕ) → IsPlace mode rules us place rest
      → EndsName (text_environment mode rules us) (values rest) count (ascii.backslash ∷ following) → Decodes true following value n
      → IsCauseAtPlace mode rules us first added place (InvalidUnicodeEscapeSequence (span_between us first added (place + 3 + count) (place + 4 + count + n)))
  -- In a name a backslash begins no unicode escape; with `u` or `v` a `u` after it has the span.
  invalid_in_name : (place count : ℕ) (rest : List CodePoint) (following : List ℕ) → IsPlace mode rules us place rest
      → EndsName (text_environment mode rules us) (values rest) count (ascii.backslash ∷ following) → ((value n : ℕ) → Decodes true following value n → ⊥) → ((many : ℕ) → PassesHex following many → ⊥)
      → (is_unicode mode && starts ascii.u following) ≡ false
      → IsCauseAtPlace mode rules us first added place (InvalidUnicodeEscapeSequence (span_between us first added (place + 3 + count) (place + 4 + count)))
  invalid_u_in_name : (place count : ℕ) (rest : List CodePoint) (following : List ℕ) → IsPlace mode rules us place rest
      → EndsName (text_environment mode rules us) (values rest) count (ascii.backslash ∷ following) → ((value n : ℕ) → Decodes true following value n → ⊥) → ((many : ℕ) → PassesHex following many → ⊥)
      → (is_unicode mode && starts ascii.u following) ≡ true
      → IsCauseAtPlace mode rules us first added place (InvalidUnicodeEscapeSequence (span_between us first added (place + 4 + count) (place + 5 + count)))
  -- A reference has a number above that of the groups (22.2.1.1).
  no_such_group : (place n : ℕ) (w more : List CodePoint) → IsPlace mode rules us place (w ++ more) → Spells (text_environment mode rules us) (indexed n) w more → text_groups mode us < n
      → IsCauseAtPlace mode rules us first added place (InvalidIndexedReference (span_between us first added place (place + length w)) (text_groups mode us))
  -- Where `\k` is a reference, no `<` follows.
  no_group_name : (place : ℕ) (rest : List CodePoint) (following : List ℕ) → IsPlace mode rules us place rest → (text_environment mode rules us).named ≡ true → values rest ≡ codes "\\k" ++ following
      → starts ascii.less_than following ≡ false → IsCauseAtPlace mode rules us first added place (EmptyGroupSpecifier (span_between us first added place (place + 2)))
  -- A reference has a name that no group has (22.2.1.1).
  no_such_name : (place : ℕ) (name : List ℕ) (w more : List CodePoint) → IsPlace mode rules us place (w ++ more) → Spells (text_environment mode rules us) (named name) w more
      → (Contains (text_names mode us) name → ⊥) → IsCauseAtPlace mode rules us first added place (InvalidNamedReference (span_between us first added place (place + length w)) (text_names mode us))
  -- After `(?` no `:` ends the modifiers.
  unknown_modifiers : (place : ℕ) (rest : List CodePoint) (text following : List ℕ) → IsPlace mode rules us place rest → values rest ≡ codes "(?" ++ (text ++ following) → LeadNowhere text following
      → IsCauseAtPlace mode rules us first added place (UnknownModifiers (span_between us first added (place + 2) (place + 2 + length text)))
  -- A letter is there twice on one side of the modifiers (22.2.1.1).
  duplicated_modifiers : (place : ℕ) (rest : List CodePoint) (enabled disabled text following : List ℕ) → IsPlace mode rules us place rest → values rest ≡ codes "(?" ++ (text ++ (ascii.colon ∷ following))
      → AreSides enabled disabled text → (has_twice enabled || has_twice disabled) ≡ true
      → IsCauseAtPlace mode rules us first added place (DuplicatedModifiers (span_between us first added (place + 2) (place + 2 + length text)))
  -- Modifiers are a `-` alone (22.2.1.1).
  empty_modifiers : (place : ℕ) (rest : List CodePoint) (following : List ℕ) → IsPlace mode rules us place rest → values rest ≡ codes "(?-:" ++ following
      → IsCauseAtPlace mode rules us first added place (EmptyModifiers (span_between us first added (place + 2) (place + 3)))
  -- A letter is on both sides of the modifiers, and none twice on one (22.2.1.1).
  invalid_modifiers : (place : ℕ) (rest : List CodePoint) (enabled disabled text following : List ℕ) → IsPlace mode rules us place rest
      → values rest ≡ codes "(?" ++ (text ++ (ascii.colon ∷ following)) → AreSides enabled disabled text → (has_twice enabled || has_twice disabled) ≡ false → share_some enabled disabled ≡ true
      → IsCauseAtPlace mode rules us first added place (InvalidModifiers (span_between us first added (place + 2) (place + 2 + length text)))

-- The diagnostic is a refusal of this text, whose first offset is `first`, `added` being added to each. The groups come before all else.
-- Why: docs/DECISIONS.md, 28.
pub data IsCause (mode : Mode) (rules : Rules) (us : List CodePoint) (first added : ℕ) : Diagnostic → Type 0 where
  -- Two names clash (22.2.1.1): the second of the two names is the first that clashes with one before it, and the first is the
  -- first with which it does.
  duplicated_names : (a b : ℕ) → IsFirstClash mode rules.duplicate_names (marks mode (values us)) a b
      → IsCause mode rules us first added (DuplicatedCapturingGroupNames (name_span mode us first added a) (name_span mode us first added b))
  -- There are 2^32 - 1 groups or more (22.2.1.1, Pattern).
  too_many_groups : HasNoClash mode rules.duplicate_names us → most_groups < text_groups mode us → IsCause mode rules us first added (TooMayCapturingGroups (record { start = added; end = added }))
  at_place : (place : ℕ) {diagnostic : Diagnostic} → HasNoClash mode rules.duplicate_names us → text_groups mode us ≤ most_groups → IsCauseAtPlace mode rules us first added place diagnostic → IsCause mode rules us first added diagnostic
