-- Each token is a whole row of marks.
use Rattle.std.proofs.Common.{◌≡◌, ℕ, Bool, true, false, not, is_some, Option, Some, None, List, [], ◌∷◌, ◌++◌, refl, sym, ap, ◌∙◌, subst, inl, inr, codes}
use Rattle.std.specs.List.{list_all}
use Rattle.std.proofs.lemmas.List.Elements.{All-nil, All-cons}
use Rattle.rx_tables.specs.Characters.{control_letter_value, is_octal_digit, is_syntax_character}
use Rattle.rx_ast.specs.ClassTree.{Class}
use Rattle.rx_ast.specs.declared.leaf.BoundaryAssertionKind.{BoundaryAssertionKind}
use Rattle.rx_ast.specs.declared.leaf.BoundaryAssertionKind.TheVariants as boundaries
use Rattle.rx_ast.specs.declared.leaf.CharacterClassEscapeKind.{CharacterClassEscapeKind}
use Rattle.rx_ast.specs.declared.leaf.CharacterClassEscapeKind.TheVariants.{D, NegativeD, S, NegativeS, W, NegativeW}
use Rattle.rx_ast.specs.declared.leaf.CharacterKind.{CharacterKind}
use Rattle.rx_ast.specs.declared.leaf.LookAroundAssertionKind.{LookAroundAssertionKind}
use Rattle.rx_ast.specs.declared.leaf.LookAroundAssertionKind.TheVariants.{Lookahead, NegativeLookahead, Lookbehind, NegativeLookbehind}
use Rattle.rx_units.specs.declared.code_point.CodePoint.{CodePoint}
use Rattle.rx_units.specs.Units.{values}
use Rattle.rx_units.specs.Digits.{front_is}
use Rattle.rx_units.proofs.Choices.{both}
use Rattle.rx_model.specs.declared.mode.Mode.{Mode}
use Rattle.rx_model.specs.declared.mode.Mode.TheVariants.{Legacy}
use Rattle.rx_ast.specs.Texts.{boundary_text, class_escape_text, property_opener, look_text}
use Rattle.rx_model.specs.Classes.ClassRows.{IsClass}
use Rattle.rx_model.specs.FirstPass.Cuts.{AreMarksOf, AreOthers, IsCut, IsOpening}
use Rattle.rx_model.specs.Inputs.Environment.{Environment, for_classes, is_unicode}
use Rattle.rx_model.specs.Characters.Escapes.{SpellsEscape, control, letter, null, hexadecimal, unicode, identity}
use Rattle.rx_model.specs.Groups.Groups.{IsIndexed, IsModified, IsNamed, IsNaming, SpellsOpener}
use Rattle.rx_units.specs.OctalEscapes.{octal_zero, octal1, octal2_low, octal2_high, octal3}
use Rattle.rx_model.specs.Characters.LegacyEscapes as legacy
use Rattle.rx_model.specs.Characters.LegacyEscapes.{SpellsLegacy, lone, class_control, legacy_octal, is_class_control}
use Rattle.rx_model.specs.FirstPass.Marks as mark
use Rattle.rx_model.specs.FirstPass.Marks.{Mark, mark_front, marks}
use Rattle.rx_model.specs.Properties.PropertyEscapes.{IsProperty}
use Rattle.rx_model.specs.Quantifiers.Quantifiers.{is_question, lazy_mark}
use Rattle.rx_model.specs.Reading.Rows.{IsEscaped, IsLegacyEscaped, IsRaw, Spells, is_legacy_syntax, stands_raw}
use Rattle.rx_model.specs.Trees.Token.{Token, Opener, boundary, character, dot, class_escape, property, class, indexed, named, opener, closer, bar, quantifier, capturing, ignoring, looking}
use Rattle.rx_model.proofs.FirstPass.ClassMarks.{class_marks}
use Rattle.rx_model.proofs.Groups.GroupNames.{group_name_read, name_anywhere}
use Rattle.rx_model.proofs.FirstPass.OpenerMarks.{modifier_marks, naming_marks}
use Rattle.rx_model.proofs.FirstPass.PlainMarks.{is_plain, plain_in, GiveOthers, nothing_others, plain_others, escape_others, append_others, all_plain_others, hex_others, escaped_digits_others, unicode_others, name_others, counts_others, lazy_others}
use Rattle.rx_model.proofs.Properties.PropertyWords.{is_property_unit, property_units}

module _ (e : Environment) where
  -- after a backslash a character escape opens and closes nothing
  spelled_escape_others : (kind : CharacterKind) (v : ℕ) (w rest : List ℕ) → SpellsEscape e kind v w rest → GiveOthers e.mode (92 ∷ w)
  spelled_escape_others _ v _ rest (control {c} h) = escape_others e.mode c [] (nothing_others e.mode)
  spelled_escape_others _ v _ rest (letter {c} h) =
      escape_others e.mode 99 (c ∷ []) (plain_others e.mode c [] (plain_in (λ c. is_some (control_letter_value c)) c refl (ap is_some h)) (nothing_others e.mode))
  spelled_escape_others _ _ _ rest (null h) = escape_others e.mode 48 [] (nothing_others e.mode)
  spelled_escape_others _ v _ rest (hexadecimal {a} {b} h) = escape_others e.mode 120 (a ∷ b ∷ []) (hex_others e.mode 0 (a ∷ b ∷ []) v h)
  spelled_escape_others _ v w rest (unicode s) = unicode_others e.mode (is_unicode e.mode) v w rest s
  spelled_escape_others _ _ _ rest (identity {c} u h) = escape_others e.mode c [] (nothing_others e.mode)

-- a character that stands for itself, or is escaped
raw_plain : (mode : Mode) (u : ℕ) → stands_raw mode u ≡ true → is_plain u ≡ true
raw_plain Legacy u h = plain_in (λ c. not (is_legacy_syntax c)) u refl h
raw_plain mode u h = plain_in (λ c. not (is_syntax_character c)) u refl h

raw_others : (e : Environment) (kind : CharacterKind) (v : ℕ) (w rest : List CodePoint) → IsRaw e kind v w rest → GiveOthers e.mode (values w)
raw_others e kind v w rest r = subst (λ w. GiveOthers e.mode (values w)) (sym r.alone) (plain_others e.mode r.unit.value [] (raw_plain e.mode r.unit.value r.allowed) (nothing_others e.mode))

escaped_others : (e : Environment) (kind : CharacterKind) (v : ℕ) (w rest : List CodePoint) → IsEscaped e kind v w rest → GiveOthers e.mode (values w)
escaped_others e kind v w rest r =
    subst (GiveOthers e.mode) (sym (ap values r.whole ∙ ap (λ c. c ∷ values r.following) r.backslash_is)) (spelled_escape_others e kind v (values r.following) (values rest) r.spelled)

boundary_others : (mode : Mode) (kind : BoundaryAssertionKind) → GiveOthers mode (boundary_text kind)
boundary_others mode boundaries.Start = all_plain_others mode (codes "^") refl
boundary_others mode boundaries.End = all_plain_others mode (codes "$") refl
boundary_others mode boundaries.Boundary = escape_others mode 98 [] (nothing_others mode)
boundary_others mode boundaries.NegativeBoundary = escape_others mode 66 [] (nothing_others mode)
boundary_others mode boundaries.StartBuffer = escape_others mode 65 [] (nothing_others mode)
boundary_others mode boundaries.EndBuffer = escape_others mode 122 [] (nothing_others mode)
boundary_others mode boundaries.EndBufferOptionalNewline = escape_others mode 90 [] (nothing_others mode)

class_escape_others : (mode : Mode) (kind : CharacterClassEscapeKind) → GiveOthers mode (class_escape_text kind)
class_escape_others mode D = escape_others mode 100 [] (nothing_others mode)
class_escape_others mode NegativeD = escape_others mode 68 [] (nothing_others mode)
class_escape_others mode S = escape_others mode 115 [] (nothing_others mode)
class_escape_others mode NegativeS = escape_others mode 83 [] (nothing_others mode)
class_escape_others mode W = escape_others mode 119 [] (nothing_others mode)
class_escape_others mode NegativeW = escape_others mode 87 [] (nothing_others mode)

module _ (mode : Mode) (t : Token) (w rest : List CodePoint) where
  -- a token that opens and closes nothing
  others_cut : GiveOthers mode (values w) → ((ms : List Mark) → AreOthers ms → AreMarksOf mode t ms) → IsCut mode t w rest
  others_cut q are = record { cut = q.cut; whole = q.whole (values rest); are = are q.cut q.others }

  -- a token that is one mark
  one_cut : (text : List ℕ) (m : Mark) → values w ≡ text → marks mode (text ++ values rest) ≡ m ∷ marks mode (values rest) → AreMarksOf mode t (m ∷ []) → IsCut mode t w rest
  one_cut text m e whole are = record { cut = m ∷ []; whole = ap (λ v. marks mode (v ++ values rest)) e ∙ whole; are = are }

-- after a backslash a character escape with neither `u` nor `v`: the backslash that stands for itself is the first half of the mark that its `c` ends,
-- so that it is no mark by itself
module _ (inside : Bool) (e : Environment) where
  record OthersBefore (w rest : List ℕ) : Type 0 where
    cut : List Mark
    others : AreOthers cut
    whole : marks e.mode (w ++ rest) ≡ cut ++ marks e.mode rest

  others_before : (w rest : List ℕ) → GiveOthers e.mode w → OthersBefore w rest
  others_before w rest q = record { cut = q.cut; others = q.others; whole = q.whole rest }

  lone_marks : (rest : List ℕ) → marks e.mode (92 ∷ 99 ∷ rest) ≡ marks e.mode (99 ∷ rest)
  unfolding mark_front
  lone_marks rest = refl

  escape_and_digits : (c : ℕ) (ds : List ℕ) → list_all is_octal_digit ds ≡ true → GiveOthers e.mode (92 ∷ c ∷ ds)
  escape_and_digits c ds h = escape_others e.mode c ds (octals_others ds h)
    where
      octals_others : (ds : List ℕ) → list_all is_octal_digit ds ≡ true → GiveOthers e.mode ds
      octals_others [] h = nothing_others e.mode
      octals_others (d ∷ ds) h =
          let p = both (is_octal_digit d) (list_all is_octal_digit ds) h in plain_others e.mode d ds (plain_in is_octal_digit d refl p.0) (octals_others ds p.1)

  legacy_others : (kind : CharacterKind) (v : ℕ) (w rest : List ℕ) → SpellsLegacy inside e kind v w rest → OthersBefore (92 ∷ w) rest
  legacy_others _ _ _ _ (lone {rest} h) = record { cut = []; others = All-nil (λ m. m ≡ mark.other); whole = lone_marks rest }
  legacy_others _ _ _ rest (class_control {c} h k) =
      others_before (92 ∷ 99 ∷ c ∷ []) rest (escape_others e.mode 99 (c ∷ []) (plain_others e.mode c [] (plain_in is_class_control c refl k) (nothing_others e.mode)))
  legacy_others _ _ _ rest (legacy_octal (octal_zero h) f) = others_before (92 ∷ 48 ∷ []) rest (escape_others e.mode 48 [] (nothing_others e.mode))
  legacy_others _ _ _ rest (legacy_octal (octal1 {c} h k) f) = others_before (92 ∷ c ∷ []) rest (escape_others e.mode c [] (nothing_others e.mode))
  legacy_others _ _ _ rest (legacy_octal (octal2_low {c} {d} h k n) f) = others_before (92 ∷ c ∷ d ∷ []) rest (escape_and_digits c (d ∷ []) (rw k refl))
  legacy_others _ _ _ rest (legacy_octal (octal2_high {c} {d} h k) f) = others_before (92 ∷ c ∷ d ∷ []) rest (escape_and_digits c (d ∷ []) (rw k refl))
  legacy_others _ _ _ rest (legacy_octal (octal3 {c} {d} {f} h k l) x) = others_before (92 ∷ c ∷ d ∷ f ∷ []) rest (escape_and_digits c (d ∷ f ∷ []) (rw (k, l) refl))
  legacy_others _ _ _ rest (legacy.identity {c} h) = others_before (92 ∷ c ∷ []) rest (escape_others e.mode c [] (nothing_others e.mode))

legacy_cut : (e : Environment) (kind : CharacterKind) (v : ℕ) (w rest : List CodePoint) → IsLegacyEscaped e kind v w rest → IsCut e.mode (character kind v) w rest
legacy_cut e kind v w rest r =
    let o = legacy_others false e kind v (values r.following) (values rest) r.spelled in
    record {
      cut = o.cut;
      whole = ap (λ v. marks e.mode (v ++ values rest)) (ap values r.whole ∙ ap (λ c. c ∷ values r.following) r.backslash_is) ∙ o.whole;
      are = o.others;
    }

-- an opener that is one mark
opening_cut : (mode : Mode) (o : Opener) (w rest : List CodePoint) (text : List ℕ) (m : Mark) →
    values w ≡ text → marks mode (text ++ values rest) ≡ m ∷ marks mode (values rest) → IsOpening mode o m → IsCut mode (opener o) w rest
opening_cut mode o w rest text m e whole opens =
    one_cut mode (opener o) w rest text m e whole (m, [], refl, opens, All-nil (λ m. m ≡ mark.other))

-- each opener without a name or modifiers is one mark
look_marks : (mode : Mode) (kind : LookAroundAssertionKind) (us : List ℕ) → marks mode (look_text kind ++ us) ≡ mark.quiet ∷ marks mode us
unfolding mark_front
look_marks mode Lookahead us = refl
look_marks mode NegativeLookahead us = refl
look_marks mode Lookbehind us = refl
look_marks mode NegativeLookbehind us = refl

unnamed_marks : (mode : Mode) (us : List ℕ) → front_is is_question us ≡ false → marks mode (40 ∷ us) ≡ mark.capturing None ∷ marks mode us
unfolding mark_front
unnamed_marks mode [] h = refl
unnamed_marks mode (u ∷ us) h = rw h refl

ignoring_marks : (mode : Mode) (us : List ℕ) → marks mode (40 ∷ 63 ∷ 58 ∷ us) ≡ mark.quiet ∷ marks mode us
unfolding mark_front
ignoring_marks mode us = refl

naming_cut : (e : Environment) (name : List ℕ) (w rest : List CodePoint) → IsNaming e name w rest → IsCut e.mode (opener (capturing (Some name))) w rest
naming_cut e name w rest s =
    let mode = e.mode in
    opening_cut mode (capturing (Some name)) w rest (40 ∷ 63 ∷ 60 ∷ (s.spelled ++ (62 ∷ []))) (mark.capturing (Some s.spelled)) s.whole
    (naming_marks mode name s.spelled (62 ∷ values rest) (values rest) s.spells)
    (s.spelled, refl, group_name_read (is_unicode mode) s.spelled name (name_anywhere (is_unicode mode) name s.spelled (62 ∷ values rest) [] s.spells))

modified_cut : (mode : Mode) (bits : ℕ × ℕ) (w rest : List CodePoint) → IsModified bits w → IsCut mode (opener (ignoring (Some bits))) w rest
modified_cut mode bits w rest s =
    let m = modifier_marks mode s.spelled.enabled s.spelled.disabled s.text s.spelled.sides s.spelled.some in
    record {
      cut = mark.quiet ∷ m.following.cut;
      whole = ap (λ v. marks mode (v ++ values rest)) s.whole ∙ m.whole (values rest) ∙ ap (λ ms. mark.quiet ∷ ms) (m.following.whole (values rest));
      are = (mark.quiet, m.following.cut, refl, refl, m.following.others);
    }

opener_cut : (e : Environment) (o : Opener) (w rest : List CodePoint) → SpellsOpener e o w rest → IsCut e.mode (opener o) w rest
opener_cut e (capturing None) w rest s =
    opening_cut e.mode (capturing None) w rest (40 ∷ []) (mark.capturing None) s.0 (unnamed_marks e.mode (values rest) s.1) refl
opener_cut e (capturing (Some name)) w rest s = naming_cut e name w rest s
opener_cut e (ignoring None) w rest s =
    opening_cut e.mode (ignoring None) w rest (40 ∷ 63 ∷ 58 ∷ []) mark.quiet s (ignoring_marks e.mode (values rest)) refl
opener_cut e (ignoring (Some bits)) w rest s = modified_cut e.mode bits w rest s
opener_cut e (looking kind) w rest s =
    opening_cut e.mode (looking kind) w rest (look_text kind) mark.quiet s (look_marks e.mode kind (values rest)) refl

-- references
indexed_others : (e : Environment) (n : ℕ) (w rest : List CodePoint) → IsIndexed e n w rest → GiveOthers e.mode (values w)
indexed_others e n w rest s = subst (GiveOthers e.mode) (sym s.whole) (escaped_digits_others e.mode s.number)

named_others : (e : Environment) (name : List ℕ) (w rest : List CodePoint) → IsNamed e name w rest → GiveOthers e.mode (values w)
named_others e name w rest s =
    subst (GiveOthers e.mode) (sym s.whole) (escape_others e.mode 107 (60 ∷ (s.spelled ++ (62 ∷ []))) (plain_others e.mode 60 (s.spelled ++ (62 ∷ [])) refl
    (append_others e.mode s.spelled (62 ∷ []) (name_others e.mode name s.spelled (62 ∷ values rest) s.spells) (all_plain_others e.mode (62 ∷ []) refl))))

-- property escapes and classes
property_units_others : (mode : Mode) (text : List ℕ) → list_all is_property_unit text ≡ true → GiveOthers mode text
property_units_others mode [] h = nothing_others mode
property_units_others mode (u ∷ text) h =
    let p = both (is_property_unit u) (list_all is_property_unit text) h in
    plain_others mode u text (plain_in is_property_unit u refl p.0) (property_units_others mode text p.1)

property_opener_others : (mode : Mode) (negative : Bool) (w : List ℕ) → GiveOthers mode w → GiveOthers mode (property_opener negative ++ w)
property_opener_others mode true w q = escape_others mode 80 (123 ∷ w) (plain_others mode 123 w refl q)
property_opener_others mode false w q = escape_others mode 112 (123 ∷ w) (plain_others mode 123 w refl q)

property_others : (e : Environment) (negative strings : Bool) (name : List ℕ) (value : Option (List ℕ)) (w : List CodePoint) → IsProperty e negative strings name value w →
    GiveOthers e.mode (values w)
property_others e negative strings name value w s =
    subst (GiveOthers e.mode) (sym s.whole) (property_opener_others e.mode negative (s.text ++ (125 ∷ []))
    (append_others e.mode s.text (125 ∷ []) (property_units_others e.mode s.text (property_units e.mode strings name value s.text s.spelled)) (all_plain_others e.mode (125 ∷ []) refl)))

class_cut : (e : Environment) (c : Class) (w rest : List CodePoint) → IsClass e c w rest → IsCut e.mode (class c) w rest
class_cut e c w rest s = record {
  cut = mark.other ∷ [];
  whole = class_marks e c w rest s;
  are = All-cons (λ m. m ≡ mark.other) mark.other [] refl (All-nil (λ m. m ≡ mark.other));
}

closing_marks : (mode : Mode) (us : List ℕ) → marks mode (41 ∷ us) ≡ mark.closer ∷ marks mode us
unfolding mark_front
closing_marks mode us = refl

bar_marks : (mode : Mode) (us : List ℕ) → marks mode (124 ∷ us) ≡ mark.bar ∷ marks mode us
unfolding mark_front
bar_marks mode us = refl

pub token_cut : (e : Environment) (t : Token) (w rest : List CodePoint) → Spells e t w rest → IsCut e.mode t w rest
token_cut e (boundary kind) w rest s = others_cut e.mode (boundary kind) w rest (subst (GiveOthers e.mode) (sym s.text) (boundary_others e.mode kind)) (λ ms h. h)
token_cut e (character kind v) w rest s =
    elim s [
      | inl r ↦ others_cut e.mode (character kind v) w rest (raw_others e kind v w rest r) (λ ms h. h)
      | inr s ↦ elim s [
        | inl r ↦ others_cut e.mode (character kind v) w rest (escaped_others e kind v w rest r) (λ ms h. h)
        | inr r ↦ legacy_cut e kind v w rest r
      ]
    ]
token_cut e dot w rest s = others_cut e.mode dot w rest (subst (GiveOthers e.mode) (sym s) (all_plain_others e.mode (46 ∷ []) refl)) (λ ms h. h)
token_cut e (class_escape kind) w rest s = others_cut e.mode (class_escape kind) w rest (subst (GiveOthers e.mode) (sym s) (class_escape_others e.mode kind)) (λ ms h. h)
token_cut e (property negative strings name value) w rest s =
    others_cut e.mode (property negative strings name value) w rest (property_others e negative strings name value w s) (λ ms h. h)
token_cut e (class c) w rest s = class_cut (for_classes e) c w rest s
token_cut e (indexed n) w rest s = others_cut e.mode (indexed n) w rest (indexed_others e n w rest s) (λ ms h. h)
token_cut e (named name) w rest s = others_cut e.mode (named name) w rest (named_others e name w rest s) (λ ms h. h)
token_cut e (opener o) w rest s = opener_cut e o w rest s
token_cut e closer w rest s = one_cut e.mode closer w rest (41 ∷ []) mark.closer s (closing_marks e.mode (values rest)) refl
token_cut e bar w rest s = one_cut e.mode bar w rest (124 ∷ []) mark.bar s (bar_marks e.mode (values rest)) refl
token_cut e (quantifier min max greedy) w rest s =
    others_cut e.mode (quantifier min max greedy) w rest
    (subst (GiveOthers e.mode) (sym s.whole) (append_others e.mode s.prefix (lazy_mark greedy) (counts_others e.mode s.counts) (lazy_others e.mode greedy))) (λ ms h. h)
