-- No token that obeys stands where an escape, a name, a reference or modifiers are wrong.
use Rattle.std.proofs.Common.{◌≡◌, ◌≢◌, refl, ap, sym, ◌∙◌, subst, ℕ, ◌+◌, ◌<◌, Bool, true, false, ◌&&◌, ◌||◌, Option, Some, None, List, [], ◌∷◌, ◌++◌, ◌==◌, length, drop, inl, inr, arith, append_assoc, length-append}
use Rattle.std.specs.Int.RustNames.{bit_and}
use Rattle.std.specs.List.{list_all}
use Rattle.std.proofs.Math.Seq.{drop-append_seam, drop-append-add, take-append_seam}
use Rattle.std.proofs.lemmas.Bool.{and_from, true≢false, cond-false, eqb-true, eq-eqb, false_from_ne_true, or_cases, or_from, or_left, or_right}
use Rattle.rx_ast.specs.declared.leaf.BoundaryAssertionKind.{BoundaryAssertionKind}
use Rattle.rx_units.specs.declared.code_point.CodePoint.{CodePoint}
use Rattle.rx_units.specs.Units.{values}
use Rattle.rx_units.specs.Digits.{front_is, PassesHex}
use Rattle.rx_units.proofs.Choices.{both}
use Rattle.rx_model.specs.declared.mode.Mode.{Mode}
use Rattle.rx_model.specs.Refusals.Causes.{LeadNowhere}
use Rattle.rx_model.specs.Characters.Decoding.{Decoded, value, decoding_of}
use Rattle.rx_model.specs.Inputs.Environment.{Environment, is_unicode}
use Rattle.rx_model.specs.Characters.EscapeFronts.{EscapeRead, escaped, nothing, too_many, no_unicode, or_legacy}
use Rattle.rx_model.specs.Reading.Fronts.{escape_at, escaped_token, unicode_read, backslash_front, named_token, opener_token, front}
use Rattle.rx_model.specs.Groups.GroupFronts.{closed_name, name_front, reference_front, named_group, modified_group, question_group, group_front, sides, sides_at}
use Rattle.rx_model.specs.Groups.GroupNameReading.{row}
use Rattle.rx_model.specs.Groups.GroupNames.{IsNameRow, no_name, some_name, SpellsName, whole_name, SpellsNameCharacter}
use Rattle.rx_model.specs.Groups.Groups.{BeginsName, of_group, of_reference}
use Rattle.rx_model.specs.FirstPass.Marks.{starts}
use Rattle.rx_model.specs.Groups.Modifiers.{AreSides, one_side, two_sides, SpellsModifiers, has_twice, is_modifier, letters_bits, occurs, share_some}
use Rattle.rx_model.specs.Refusals.Reached.{text_environment, text_groups}
use Rattle.rx_model.specs.Trees.Token.{indexed, opener, ignoring}
use Rattle.rx_model.specs.Characters.UnicodeEscapes.{Decodes}
use Rattle.rx_model.specs.declared.rules.Rules.{Rules}
use Rattle.rx_model.proofs.Characters.Decoding.{value_law}
use Rattle.rx_model.proofs.Characters.Escapes.{too_many_escape, escape_u}
use Rattle.rx_model.proofs.Reading.Fronts.{front_by_values}
use Rattle.rx_model.proofs.Groups.GroupFronts.{angle_named, question_modified}
use Rattle.rx_model.proofs.Groups.GroupNames.{character_some, differs, name_read, no_name_law}
use Rattle.rx_model.proofs.Groups.ModifierBits.{and_three, three_zero, modifier_is}
use Rattle.rx_model.proofs.Groups.Modifiers.{letters_read, modified_read, modifiers_begin, not_mark, sides_read, sides_letters}
use Rattle.rx_model.proofs.Characters.Backslashes.{same_both}
use Rattle.rx_model.proofs.Refusals.BlockedPlaces.{IsBlocked, blocked_none, blocked_token}

-- no whole name stands where none begins
pub no_name_begins : (m : Bool) (w : List ℕ) → ((c : ℕ) (v more : List ℕ) → SpellsNameCharacter m true c v more → w ≡ v ++ more → ⊥) → (name v more : List ℕ) → SpellsName m name v more → w ≡ v ++ more → ⊥
no_name_begins m w none _ _ _ (whole_name {c} v more rest s parts) e = none c v (more ++ rest) s (e ∙ append_assoc v more rest)

name_length : (m : Bool) (name w rest : List ℕ) → SpellsName m name w rest → 0 < length w
name_length m _ _ _ (whole_name {c} w v rest s parts) = omega (arith, character_some m true c w (v ++ rest) s, length-append w v)

not_closed : (name : List ℕ) (n : ℕ) (w : List ℕ) → starts 62 (drop n w) ≡ false → closed_name (row name n) w ≡ None
not_closed [] n w h = refl
not_closed (c ∷ cs) n w h = cond-false (starts 62 (drop n w)) _ _ h

-- The longest row of a name's characters has no `>` after it, or there is none.
pub no_name_front : (m : Bool) (w : List ℕ) (count : ℕ) → IsNameRow m w count → (starts 62 (drop count w) ≡ true → count ≡ 0) → name_front m w ≡ None
no_name_front m w _ (no_name none) h = ap (λ r. closed_name r w) ((no_name_law m w).1 (no_name_begins m w none))
no_name_front m w count (some_name {name} b) h =
    let some = name_length m name b.spelled b.rest b.spells in
    ap (λ r. closed_name r w) (name_read m w name count b)
    ∙ not_closed name count w (false_from_ne_true (starts 62 (drop count w)) (λ t. omega (arith, h t, some, b.count_is)))

-- a letter is no `-`
no_dash : (w : List ℕ) → list_all is_modifier w ≡ true → occurs 45 w ≡ false
no_dash [] h = refl
no_dash (c ∷ w) h = let p = both (is_modifier c) (list_all is_modifier w) h in or_from (c == 45) (occurs 45 w) (differs is_modifier c 45 refl p.0) (no_dash w p.1)

-- modifiers that no further letter and no first `-` follows
pub sides_lead : (w v text following : List ℕ) → AreSides w v text → front_is is_modifier following ≡ false → (starts 45 following ≡ true → occurs 45 text ≡ true) → sides_at (text ++ following) ≡ sides w v (length text)
sides_lead w _ _ following (one_side h) letters dash =
    let none : starts 45 following ≡ false = false_from_ne_true (starts 45 following) (λ t. let no : ⊥ = cc (dash t, no_dash w h) in no) in
    rw (letters_read w following h letters, drop-append_seam w following, take-append_seam w following, none) refl
sides_lead _ _ _ following (two_sides w v h k) letters dash =
    let back : List ℕ = 45 ∷ (v ++ following) in
    ap sides_at (append_assoc w (45 ∷ v) following)
    ∙ rw (letters_read w back h refl, drop-append_seam w back, drop-append-add w back 1, letters_read v following k letters, take-append_seam w back, take-append_seam v following)
    (ap (sides w v) (omega (arith, length-append w (45 ∷ v))))

no_colon : (w v : List ℕ) (n : ℕ) (all : List ℕ) → starts 58 (drop n all) ≡ false → modified_group (sides w v n) all ≡ None
no_colon w v n all h = rw h refl

pub some_text : (c : ℕ) (text : List ℕ) → c ∷ text ≢ []
some_text c text e = cc

question_sides : (m : Bool) (w v text following : List ℕ) → AreSides w v text → text ≢ [] → question_group m (text ++ following) ≡ modified_group (sides_at (text ++ following)) (text ++ following)
question_sides m w v [] following s some = absurd (some refl)
question_sides m w v (c ∷ text) following s some = question_modified m c (text ++ following) (not_mark c (modifiers_begin w v (c ∷ text) s some))

lead_none : (text following : List ℕ) → LeadNowhere text following → modified_group (sides_at (text ++ following)) (text ++ following) ≡ None
lead_none text following l =
    ap (λ r. modified_group r (text ++ following)) (sides_lead l.enabled l.disabled text following l.sides l.no_letter l.no_dash)
    ∙ no_colon l.enabled l.disabled (length text) (text ++ following) (ap (starts 58) (drop-append_seam text following) ∙ l.no_colon)

question_lead : (m : Bool) (text following : List ℕ) → LeadNowhere text following → question_group m (text ++ following) ≡ None
question_lead m [] [] l = refl
question_lead m [] (c ∷ following) l = question_modified m c following (l.no_mark refl) ∙ lead_none [] (c ∷ following) l
question_lead m (c ∷ text) following l = question_sides m l.enabled l.disabled (c ∷ text) following l.sides (some_text c text) ∙ lead_none (c ∷ text) following l

-- modifiers with some letters
sides_some : (w v text : List ℕ) → AreSides w v text → (w ≡ [] → v ≡ [] → ⊥) → text ≢ []
sides_some w _ _ (one_side h) some e = some e refl
sides_some w v _ (two_sides _ _ h k) some e = omega (arith, length-append w (45 ∷ v), ap length e)

twice_some : (w v : List ℕ) → (has_twice w || has_twice v) ≡ true → w ≡ [] → v ≡ [] → ⊥
twice_some w v h e f = let no : (has_twice [] || has_twice []) ≡ true = subst (λ x. (has_twice x || has_twice []) ≡ true) e (subst (λ x. (has_twice w || has_twice x) ≡ true) f h) in cc

shared_some : (w v : List ℕ) → share_some w v ≡ true → w ≡ [] → v ≡ [] → ⊥
shared_some w v h e f = let no : share_some [] v ≡ true = subst (λ x. share_some x v ≡ true) e h in cc

twice_none : (m : Bool) (w v text following : List ℕ) → AreSides w v text → (has_twice w || has_twice v) ≡ true → question_group m (text ++ (58 ∷ following)) ≡ None
twice_none m w v text following s h =
    question_sides m w v text (58 ∷ following) s (sides_some w v text s (twice_some w v h))
    ∙ ap (λ r. modified_group r (text ++ (58 ∷ following))) (sides_read w v text following s)
    ∙ rw (drop-append_seam text (58 ∷ following), h) refl

-- a letter that is on both sides
record IsShared (w v : List ℕ) : Type 0 where
  letter : ℕ
  letter_is : is_modifier letter ≡ true
  here : occurs letter w ≡ true
  there : occurs letter v ≡ true

shared : (w v : List ℕ) → list_all is_modifier w ≡ true → share_some w v ≡ true → IsShared w v
shared [] v h s = absurd (let no : ⊥ = cc s in no)
shared (c ∷ w) v h s =
    let p = both (is_modifier c) (list_all is_modifier w) h in
    elim (or_cases (occurs c v) (share_some w v) s) [
      | inl q ↦ record { letter = c; letter_is = p.0; here = or_left (c == c) (occurs c w) (eq-eqb c c refl); there = q }
      | inr q ↦ let r = shared w v p.1 q in record { letter = r.letter; letter_is = r.letter_is; here = or_right (c == r.letter) (occurs r.letter w) r.here; there = r.there }
    ]

letter_shared : (w v : List ℕ) → IsShared w v → bit_and (letters_bits w) (letters_bits v) ≡ 0 → ⊥
letter_shared w v s e = elim (or_cases (s.letter == 105 || s.letter == 109) (s.letter == 115) (sym (modifier_is s.letter) ∙ s.letter_is)) [
  | inl p ↦ elim (or_cases (s.letter == 105) (s.letter == 109) p) [ inl q ↦ never 105 q none.0 | inr q ↦ never 109 q none.1 ]
  | inr q ↦ never 115 q none.2
]
  where
    none : ((occurs 105 w && occurs 105 v) ≡ false) × ((occurs 109 w && occurs 109 v) ≡ false) × ((occurs 115 w && occurs 115 v) ≡ false)
    none = three_zero _ _ _ (sym (and_three (occurs 105 w) (occurs 109 w) (occurs 115 w) (occurs 105 v) (occurs 109 v) (occurs 115 v)) ∙ e)

    never : (c : ℕ) → (s.letter == c) ≡ true → (occurs c w && occurs c v) ≡ false → ⊥
    never c q none =
        let same = eqb-true s.letter c q in
        true≢false (sym (and_from (occurs c w) (occurs c v) (ap (λ c. occurs c w) (sym same) ∙ s.here) (ap (λ c. occurs c v) (sym same) ∙ s.there)) ∙ none)

-- with `u` or `v` nothing is added to the escapes
or_unicode : (r legacy : EscapeRead) → or_legacy r true legacy ≡ r
or_unicode (escaped k v n) legacy = refl
or_unicode nothing legacy = refl
or_unicode (too_many n) legacy = refl
or_unicode no_unicode legacy = refl

module _ (mode : Mode) (rules : Rules) (us : List CodePoint) where
  abbrev here : Environment
  here = text_environment mode rules us

  front_backslash : (rest : List CodePoint) (v : List ℕ) → values rest ≡ 92 ∷ v → front here rest ≡ backslash_front here v
  front_backslash rest v e = front_by_values here rest 92 v refl e

  backslash_u : is_unicode mode ≡ true → (v : List ℕ) → backslash_front here (117 ∷ v) ≡ escaped_token (escape_at true (117 ∷ v))
  unfolding backslash_front
  backslash_u u v = rw (u, same_both {A = Option BoundaryAssertionKind} rules.buffer_boundaries None) (ap escaped_token (or_unicode (escape_at true (117 ∷ v)) _))

  pub backslash_k : here.named ≡ true → (w : List ℕ) → backslash_front here (107 ∷ w) ≡ named_token (reference_front (is_unicode mode) w)
  unfolding backslash_front
  backslash_k there w = rw there refl

  -- after a backslash, `u` with digits that pass 32 bits, or without a unicode escape
  pub blocked_hex : is_unicode mode ≡ true → (rest : List CodePoint) (following : List ℕ) (count : ℕ) → values rest ≡ 92 ∷ following → PassesHex following count → IsBlocked mode rules us rest
  blocked_hex u rest following count e p =
      let more : List ℕ = 123 ∷ (p.digits ++ p.next ∷ p.rest) in
      blocked_none mode rules us rest (front_backslash rest following e ∙ ap (backslash_front here) p.whole ∙ backslash_u u more
      ∙ ap (λ w. escaped_token (escape_at true w)) (sym p.whole) ∙ ap escaped_token (too_many_escape following count p))

  no_unicode_token : (w : List ℕ) → ((v n : ℕ) → Decodes true w v n → ⊥) → ((count : ℕ) → PassesHex w count → ⊥) → (d : Decoded) → decoding_of true w ≡ d → escaped_token (unicode_read d) ≡ None
  no_unicode_token w no_value no_limit (value v n) h = absurd (no_value v n ((value_law true w v n).0 h))
  no_unicode_token w no_value no_limit q h = refl

  pub blocked_escape : is_unicode mode ≡ true → (rest : List CodePoint) (following : List ℕ) → values rest ≡ 92 ∷ 117 ∷ following → ((v n : ℕ) → Decodes true (117 ∷ following) v n → ⊥) → ((count : ℕ) → PassesHex (117 ∷ following) count → ⊥)
      → IsBlocked mode rules us rest
  blocked_escape u rest following e no_value no_limit =
      blocked_none mode rules us rest (front_backslash rest (117 ∷ following) e ∙ backslash_u u following ∙ ap escaped_token (escape_u following)
      ∙ no_unicode_token (117 ∷ following) no_value no_limit (decoding_of true (117 ∷ following)) refl)

  -- a name that does not end, or has in it what may not stand there
  pub blocked_name : (rest : List CodePoint) (w following : List ℕ) (count : ℕ) → values rest ≡ w → BeginsName here w following → IsNameRow (is_unicode mode) following count → (starts 62 (drop count following) ≡ true → count ≡ 0) → IsBlocked mode rules us rest
  unfolding group_front reference_front backslash_front
  blocked_name rest _ following count e (of_group look) longest ends =
      blocked_none mode rules us rest (front_by_values here rest 40 (63 ∷ 60 ∷ following) refl e
      ∙ ap opener_token (angle_named (is_unicode mode) following look ∙ ap named_group (no_name_front (is_unicode mode) following count longest ends)))
  blocked_name rest _ following count e (of_reference there) longest ends =
      blocked_none mode rules us rest (front_by_values here rest 92 (107 ∷ 60 ∷ following) refl e ∙ backslash_k there (60 ∷ following) ∙ ap named_token (no_name_front (is_unicode mode) following count longest ends))

  no_angle : (m : Bool) (following : List ℕ) → starts 60 following ≡ false → reference_front m following ≡ None
  unfolding reference_front
  no_angle m [] h = refl
  no_angle m (c ∷ w) h = cond-false (c == 60) _ _ h

  -- `\k` without a name
  pub blocked_reference : here.named ≡ true → (rest : List CodePoint) (following : List ℕ) → values rest ≡ 92 ∷ 107 ∷ following → starts 60 following ≡ false → IsBlocked mode rules us rest
  unfolding backslash_front
  blocked_reference there rest following e h = blocked_none mode rules us rest (front_backslash rest (107 ∷ following) e ∙ backslash_k there following ∙ ap named_token (no_angle (is_unicode mode) following h))

  -- a reference to no group
  pub blocked_index : (rest : List CodePoint) (k n : ℕ) → front here rest ≡ Some (indexed k, n) → text_groups mode us < k → IsBlocked mode rules us rest
  blocked_index rest k n e large = blocked_token mode rules us rest (indexed k) n e (λ o. omega (arith, large, o.1))

  pub front_question : (rest : List CodePoint) (following : List ℕ) → values rest ≡ 40 ∷ 63 ∷ following → front here rest ≡ opener_token (question_group (is_unicode mode) following)
  unfolding group_front
  front_question rest following e = front_by_values here rest 40 (63 ∷ following) refl e

  -- modifiers that no `:` ends, or with a letter twice on one side, or with none, or with a letter on both sides
  pub blocked_unknown : (rest : List CodePoint) (text following : List ℕ) → values rest ≡ 40 ∷ 63 ∷ (text ++ following) → LeadNowhere text following → IsBlocked mode rules us rest
  blocked_unknown rest text following e l = blocked_none mode rules us rest (front_question rest (text ++ following) e ∙ ap opener_token (question_lead (is_unicode mode) text following l))

  pub blocked_duplicated : (rest : List CodePoint) (w v text following : List ℕ) → values rest ≡ 40 ∷ 63 ∷ (text ++ (58 ∷ following)) → AreSides w v text → (has_twice w || has_twice v) ≡ true → IsBlocked mode rules us rest
  blocked_duplicated rest w v text following e s h = blocked_none mode rules us rest (front_question rest (text ++ (58 ∷ following)) e ∙ ap opener_token (twice_none (is_unicode mode) w v text following s h))

  pub blocked_empty : (rest : List CodePoint) (following : List ℕ) → values rest ≡ 40 ∷ 63 ∷ 45 ∷ 58 ∷ following → IsBlocked mode rules us rest
  blocked_empty rest following e = blocked_token mode rules us rest (opener (ignoring (Some (0, 0)))) 4 (front_question rest (45 ∷ 58 ∷ following) e) (λ o. o.1 refl)

  pub blocked_shared : (rest : List CodePoint) (w v text following : List ℕ) → values rest ≡ 40 ∷ 63 ∷ (text ++ (58 ∷ following)) → AreSides w v text → (has_twice w || has_twice v) ≡ false → share_some w v ≡ true
      → IsBlocked mode rules us rest
  blocked_shared rest w v text following e s once h =
      let some = sides_some w v text s (shared_some w v h) in
      let spelled : SpellsModifiers (letters_bits w) (letters_bits v) text = record { enabled = w; disabled = v; sides = s; some = some; once = once; enabling_is = refl; disabling_is = refl } in
      blocked_token mode rules us rest (opener (ignoring (Some (letters_bits w, letters_bits v)))) (length text + 3)
      (front_question rest (text ++ (58 ∷ following)) e ∙ ap opener_token (question_sides (is_unicode mode) w v text (58 ∷ following) s some ∙ modified_read (letters_bits w) (letters_bits v) text following spelled))
      (λ o. letter_shared w v (shared w v (sides_letters w v text s).0 h) o.0)
