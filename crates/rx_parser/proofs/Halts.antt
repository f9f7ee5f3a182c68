-- Where the reading halts the text is refused with its cause.
use Rattle.std.proofs.Common.{◌≡◌, ◌≢◌, refl, ap, ◌∙◌, sym, subst, ℕ, ◌+◌, ◌<◌, ◌≤◌, ◌&&◌, ◌||◌, inl, inr, Bool, true, false, not, Some, List, [], ◌∷◌, ◌++◌, length, drop, arith, length-append}
use Rattle.rx_parser.proofs.Common.{cases_Bool, drop_all, Fault, Diagnostic, InvalidExtendedAtomEscape, InvalidSurrogatePair, ParsePatternIncomplete, UnterminatedPattern, InvalidIndexedReference, BracedQuantifierOutOfOrder, TooLargeNumberInBracedQuantifier, TooLargeNumberDigits}
use Rattle.rx_parser.proofs.Common.{InvalidUnicodeEscapeSequence, EmptyGroupSpecifier, DuplicatedModifiers, InvalidModifiers, UnknownModifiers, Span, CodePoint, offset_at, values, PassesHex, Mode, IsCauseAtPlace, unterminated, incomplete, last_backslash, misplaced_pair, out_of_order, too_large}
use Rattle.rx_parser.proofs.Common.{too_many_digits, of_escape, unterminated_group, unterminated_name, unterminated_name_in_legacy, too_many_digits_in_name, misplaced_in_name, invalid_in_name, invalid_u_in_name, no_such_group, no_group_name, unknown_modifiers, duplicated_modifiers, empty_modifiers}
use Rattle.rx_parser.proofs.Common.{invalid_modifiers, most_groups, Environment, has_some, is_unicode, front, BeginsName, EndsName, starts, no_item, yielding_of, IsPlace, HasNoClash, IsReached, span_between, text_environment, text_groups, text_names, Opener, capturing, closer, ignoring, indexed}
use Rattle.rx_parser.proofs.Common.{looking, opener_of, front_spelled, Builder, Frame, IsEndedFault, IsHaltFault, halt_refusal, modifiers_refusal, ModifiersHalt, FrontHalt, ends_here, many_decimal_digits, many_hex_digits, no_unicode_escape, in_name, no_angle, in_modifiers, IsHalt, Stands}
use Rattle.rx_parser.proofs.Common.{found_fault, found_halt, openers_onto, openers, opener_tree, ready, found_name_halt, IsParsing, IsRefused, Rules, IsNameRow, too_many_hex_digits, invalid_escape, IsStop, at_closer, at_end, Halt, AreWrong, unknown, duplicated, empty, invalid, EscapeAfter}
use Rattle.rx_parser.proofs.Common.{SaysNameHalt, no_pair, Says, SaysHalt, front_said, halt_end, halt_start}
use Rattle.rx_base.specs.declared.diagnostic.Diagnostic.{Diagnostic as Refusal}
use Rattle.rx_base.specs.declared.diagnostic.kinds.DigitsKind.TheVariants.{Decimal, Hex}
use Rattle.rx_base.specs.declared.diagnostic.kinds.Unterminated.TheVariants.{GroupName}
use Rattle.rx_model.specs.Characters.UnicodeEscapes.{Decodes}
use Rattle.rx_parser.specs.declared.found.Halt.TheVariants as halt
use Rattle.rx_parser.specs.declared.found.ModifiersFault.{ModifiersFault}
use Rattle.rx_parser.specs.declared.found.ModifiersFault.TheVariants as fault
use Rattle.rx_model.specs.Groups.NameFronts.{NameHalt, begins_pair, unterminated as unterminated_row, misplaced_pair as misplaced_pair_row, misplaced, no_escape, no_escape_of_u, many_digits}
use Rattle.rx_model.specs.Quantifiers.Quantifiers.{BeginsWithBraces, PassesLimit}
use Rattle.rx_model.specs.Reading.FrontReading as reading
use Rattle.rx_model.proofs.Characters.Escapes.{NoUnicode}
use Rattle.rx_parser.proofs.Insides.{inside}
use Rattle.rx_parser.proofs.Places.{reached, some_left}
use Rattle.rx_parser.proofs.Refused.{cause_refused}

-- a group that is not ended
says_group : (o : Opener) (span : Span) → yielding_of (UnterminatedPattern span (unterminated o)) ≢ no_item
says_group (capturing name) span e = cc e
says_group (ignoring bits) span e = cc e
says_group (looking kind) span e = cc e

-- wrong modifiers
says_modifiers : (it : ModifiersFault) (span : Span) → yielding_of (modifiers_refusal it span) ≢ no_item
says_modifiers fault.Unknown span e = cc e
says_modifiers fault.Duplicated span e = cc e
says_modifiers fault.Empty span e = cc e
says_modifiers fault.Invalid span e = cc e

module _ {mode : Mode} {rules : Rules} (us : List CodePoint) (first added : ℕ) (b : Builder) (place : ℕ) (h : IsParsing mode rules us first added b place) where
  abbrev unicode_mode : Bool
  unicode_mode = is_unicode mode

  abbrev left : List CodePoint
  left = drop place us

  abbrev here : Environment
  here = text_environment mode rules us

  at_left : IsPlace mode rules us place left
  at_left = record { open_groups = openers b; ready = ready b; reached = reached us first added b place h }

  abbrev Causes : Refusal → Type 0
  Causes cause = IsCauseAtPlace mode rules us first added place cause

  abbrev between : ℕ → ℕ → Span
  between from to = span_between us first added from to

  -- the same span, its places said otherwise
  placed : (make : Span → Refusal) (i j from to : ℕ) → i ≡ from → j ≡ to → Causes (make (between i j)) → Causes (make (between from to))
  placed make i j from to e f c = subst (λ k. Causes (make (between from k))) f (subst (λ k. Causes (make (between k j))) e c)

  -- the same, from here on
  from_here : (make : Span → Refusal) (j : ℕ) → Causes (make (between place j)) → Causes (make (between (place + 0) j))
  from_here make j c = placed make place j (place + 0) j (omega arith) refl c

  -- the numbers of a quantifier
  limit_cause : (start many : ℕ) → PassesLimit (values left) start many → (unicode_mode ≡ false → BeginsWithBraces (values left)) → Causes (TooLargeNumberDigits (between (place + start) (place + (start + many))) Decimal)
  limit_cause start many s in_legacy =
      placed (λ span. TooLargeNumberDigits span Decimal) (place + start) (place + start + many) (place + start) (place + (start + many)) refl (omega arith)
      (too_many_digits place start many left at_left s in_legacy)

  -- a name that is to stand here, and its longest row; after it an escape
  ends_name : (following : List ℕ) → BeginsName here (values left) following → (count : ℕ) → IsNameRow unicode_mode following count → EndsName here (values left) count (drop count following)
  ends_name following begins count longest = record { following = following; begins = begins; longest = longest; rest_is = refl }

  ends_escape : (following : List ℕ) → BeginsName here (values left) following → (count : ℕ) (escape : List ℕ) → EscapeAfter unicode_mode following count escape → EndsName here (values left) count (92 ∷ escape)
  ends_escape following begins count escape r = record { following = following; begins = begins; longest = r.row; rest_is = sym r.there }

  abbrev Refuses : Halt → Type 0
  Refuses it = Causes (halt_refusal it (between (place + halt_start it) (place + halt_end it)) (text_groups mode us))

  name_cause : (following : List ℕ) → BeginsName here (values left) following → (it : NameHalt) → SaysNameHalt unicode_mode following it → Refuses (found_name_halt it)
  name_cause following begins (unterminated_row n) s =
      placed (λ span. UnterminatedPattern span GroupName) (place + 2) (place + 3 + n) (place + 2) (place + (n + 3)) refl (omega arith)
      (elim (cases_Bool unicode_mode) [
        | inl unicode ↦ unterminated_name place n left (drop n following) at_left unicode (ends_name following begins n s.0) s.1 s.3
        | inr legacy ↦
            let raw : begins_pair (drop n following) ≡ false = ap (λ u. not u && begins_pair (drop n following)) (sym legacy) ∙ s.2 in
            unterminated_name_in_legacy place n left (drop n following) at_left legacy (ends_name following begins n s.0) s.1 (no_pair (drop n following) raw) s.3
      ])
  name_cause following begins (misplaced_pair_row n) s =
      placed InvalidSurrogatePair (place + 3 + n) (place + 5 + n) (place + (n + 3)) (place + (n + 3 + 2)) (omega arith) (omega arith)
      (misplaced_pair place n left (drop n following) at_left s.1 (ends_name following begins n s.0) s.2)
  name_cause following begins (misplaced count n) s =
      placed InvalidUnicodeEscapeSequence (place + 3 + count) (place + 4 + count + n) (place + (count + 3)) (place + (count + 3 + (n + 1))) (omega arith) (omega arith)
      (misplaced_in_name place count s.2 n left s.0 at_left (ends_escape following begins count s.0 s.1) s.3)
  name_cause following begins (no_escape count) s =
      placed InvalidUnicodeEscapeSequence (place + 3 + count) (place + 4 + count) (place + (count + 3)) (place + (count + 3 + 1)) (omega arith) (omega arith)
      (invalid_in_name place count left s.0 at_left (ends_escape following begins count s.0 s.1) s.2.no_value s.2.no_limit s.3)
  name_cause following begins (no_escape_of_u count) s =
      placed InvalidUnicodeEscapeSequence (place + 4 + count) (place + 5 + count) (place + (count + 4)) (place + (count + 4 + 1)) (omega arith) (omega arith)
      (invalid_u_in_name place count left s.0 at_left (ends_escape following begins count s.0 s.1) s.2.no_value s.2.no_limit s.3)
  name_cause following begins (many_digits count many) s =
      placed (λ span. TooLargeNumberDigits span Hex) (place + 6 + count) (place + 6 + count + many) (place + (count + 6)) (place + (count + 6 + many)) (omega arith) (omega arith)
      (too_many_digits_in_name place count many left s.0 at_left (ends_escape following begins count s.0 s.1) s.2)

  -- a unicode escape of a character
  hex_cause : unicode_mode ≡ true → (following : List ℕ) (many : ℕ) → values left ≡ 92 ∷ following → PassesHex following many → Causes (TooLargeNumberDigits (between (place + 3) (place + (3 + many))) Hex)
  hex_cause unicode following many whole passes =
      placed (λ span. TooLargeNumberDigits span Hex) (place + 3) (place + 3 + many) (place + 3) (place + (3 + many)) refl (omega arith)
      (of_escape place left at_left (too_many_hex_digits many following unicode whole passes))

  escape_cause : unicode_mode ≡ true → (following : List ℕ) → values left ≡ 92 ∷ following → NoUnicode following → Causes (InvalidUnicodeEscapeSequence (between (place + 1) (place + 2)))
  escape_cause unicode following whole n =
      of_escape place left at_left (invalid_escape n.following unicode (whole ∙ ap (λ w. 92 ∷ w) n.whole) (λ v k d. n.no_value v k (subst (λ w. Decodes true w v k) (sym n.whole) d))
      (λ many p. n.no_limit many (subst (λ w. PassesHex w many) (sym n.whole) p)))

  index_cause : (n k : ℕ) → front here left ≡ Some (indexed k, n) → text_groups mode us < k → Causes (InvalidIndexedReference (between (place + 0) (place + n)) (text_groups mode us))
  index_cause n k e large =
      let f = front_spelled here left (indexed k) n e in
      placed (λ span. InvalidIndexedReference span (text_groups mode us)) place (place + length f.w) (place + 0) (place + n) (omega arith) (ap (λ n. place + n) f.count)
      (no_such_group place k f.w f.rest (subst (IsPlace mode rules us place) f.whole at_left) f.spells large)

  modifiers_cause : (it : ModifiersHalt) (n : ℕ) (following : List ℕ) → values left ≡ 40 ∷ 63 ∷ following → AreWrong following n it → Refuses (halt.Modifiers (found_fault it) n)
  modifiers_cause _ _ _ whole (unknown text following l) =
      placed UnknownModifiers (place + 2) (place + 2 + length text) (place + 2) (place + (length text + 2)) refl (omega arith) (unknown_modifiers place left text following at_left whole l)
  modifiers_cause _ _ _ whole (duplicated {enabled} {disabled} text following sides twice) =
      placed DuplicatedModifiers (place + 2) (place + 2 + length text) (place + 2) (place + (length text + 2)) refl (omega arith)
      (duplicated_modifiers place left enabled disabled text following at_left whole sides twice)
  modifiers_cause _ _ _ whole (empty {following}) = empty_modifiers place left following at_left whole
  modifiers_cause _ _ _ whole (invalid {enabled} {disabled} text following sides once both) =
      placed InvalidModifiers (place + 2) (place + 2 + length text) (place + 2) (place + (length text + 2)) refl (omega arith)
      (invalid_modifiers place left enabled disabled text following at_left whole sides once both)

  -- the fault is some cause
  abbrev IsOfCause : Fault → Type 0
  IsOfCause fault = (cause : Refusal) × (fault ≡ Diagnostic cause) × (yielding_of cause ≢ no_item) × Causes cause

  -- Terms end, and n units on reading stands: outside groups, or in the innermost one.
  ended_cause : (following at : ℕ) (fault : Fault) → IsStop here left following → starts 41 (values left) ≡ false → (b.frames ≡ [] → left ≡ [] → ⊥) → at ≡ place + following → IsEndedFault us first added at b fault
      → IsOfCause fault
  ended_cause following at fault stop not_closed some e f = elim f [ inl p ↦ pattern p.0 p.1 | inr p ↦ group p.0 p.1 p.2 p.3 ]
    where
      pattern : b.frames ≡ [] → fault ≡ Diagnostic (ParsePatternIncomplete (between at at)) → IsOfCause fault
      pattern none is =
          let r : IsReached mode rules us place [] (ready b) left = subst (λ fs. IsReached mode rules us place (openers_onto fs []) (ready b) left) none (reached us first added b place h) in (
            ParsePatternIncomplete (between at at),
            is,
            (λ e. cc e),
            placed ParsePatternIncomplete (place + following) (place + following) at at (sym e) (sym e) (incomplete place following (ready b) left r stop (some none)),
          )

      group : (outer : List Frame) (it : Frame) → b.frames ≡ outer ++ (it ∷ [])
          → fault ≡ Diagnostic (UnterminatedPattern (record { start = it.start; end = offset_at first us at + added }) (unterminated (opener_of (opener_tree it.group_kind)))) → IsOfCause fault
      group outer it frames is =
          let what = unterminated (opener_of (opener_tree it.group_kind)) in
          let i = inside us first added b place h outer it frames in
          let made_span : ℕ → Span = λ start. record { start = start; end = offset_at first us at + added } in
          let made : ℕ → Refusal = λ start. UnterminatedPattern (made_span start) what in (
            made it.start,
            is,
            says_group (opener_of (opener_tree it.group_kind)) (made_span it.start),
            subst (λ start. Causes (made start)) (sym i.2)
                (placed (λ span. UnterminatedPattern span what) i.0 (place + following) i.0 at refl (sym e)
                (unterminated_group i.0 place following (opener_of (opener_tree it.group_kind)) left i.1 stop not_closed)),
          )

  module _ (no_clash : HasNoClash mode rules.duplicate_names us) (limit : text_groups mode us ≤ most_groups) where
    refused : (cause : Refusal) → yielding_of cause ≢ no_item → Causes cause → (fault : Fault) → fault ≡ Diagnostic cause → IsRefused mode rules us first added fault
    refused cause says c fault e = subst (IsRefused mode rules us first added) (sym e) (cause_refused mode rules us first added no_clash limit place cause says c)

    -- why the text is refused where the reading halts
    pub halt_refused : place < length us → (fault : Fault) (it : Halt) → IsHalt here left it → IsHaltFault us first added place b (text_groups mode us) it fault → IsRefused mode rules us first added fault
    halt_refused l fault it h f =
        go h.0 (subst (Says here left (front here left)) h.1 (front_said here (ap (λ u. u || has_some (text_names mode us))) left)) (subst (λ it. IsHaltFault us first added place b (text_groups mode us) it fault) h.2 f)
      where
        name : (it : NameHalt) → Refuses (found_name_halt it) → IsHaltFault us first added place b (text_groups mode us) (found_name_halt it) fault → IsRefused mode rules us first added fault
        name (unterminated_row n) c f = refused _ (λ e. cc e) c fault f
        name (misplaced_pair_row n) c f = refused _ (λ e. cc e) c fault f
        name (misplaced count n) c f = refused _ (λ e. cc e) c fault f
        name (no_escape count) c f = refused _ (λ e. cc e) c fault f
        name (no_escape_of_u count) c f = refused _ (λ e. cc e) c fault f
        name (many_digits count many) c f = refused _ (λ e. cc e) c fault f

        go : (it : FrontHalt) → SaysHalt here left (front here left) it → IsHaltFault us first added place b (text_groups mode us) (found_halt it) fault → IsRefused mode rules us first added fault
        go (ends_here following) s f =
            let c = ended_cause following (place + following) fault s.0 s.1 (λ none. some_left us place l) refl f in
            refused c.0 c.2 c.3 fault c.1
        go reading.last_backslash s f =
            refused _ (λ e. cc e) (from_here InvalidExtendedAtomEscape (place + 1) (last_backslash place s.1 (subst (IsPlace mode rules us place) s.2 at_left) s.0 s.3)) fault f
        go (reading.out_of_order n) s f = refused _ (λ e. cc e) (from_here BracedQuantifierOutOfOrder (place + n) (out_of_order place n s.0 s.1 left at_left s.2 s.3)) fault f
        go (reading.too_large n) s f = refused _ (λ e. cc e) (from_here TooLargeNumberInBracedQuantifier (place + n) (too_large place n s.0 s.1 left at_left s.2 s.3.0 s.3.1)) fault f
        go (many_decimal_digits start many) s f = refused _ (λ e. cc e) (limit_cause start many s.0 s.1) fault f
        go (many_hex_digits many) s f = refused _ (λ e. cc e) (hex_cause s.0 s.1 many s.2 s.3) fault f
        go no_unicode_escape s f = refused _ (λ e. cc e) (escape_cause s.0 s.1 s.2 s.3) fault f
        go (in_name it) s f = name it (name_cause s.0 s.1 it s.2) f
        go no_angle s f = refused _ (λ e. cc e) (from_here EmptyGroupSpecifier (place + 2) (no_group_name place left s.0 at_left s.3 s.1 s.2)) fault f
        go (reading.no_such_group n) s f = refused _ (λ e. cc e) (index_cause n s.0 s.1 s.2) fault f
        go (in_modifiers it n) s f = refused _ (says_modifiers (found_fault it) _) (modifiers_cause it n s.0 s.1 s.2) fault f

    -- a group is open at the end of the text
    pub ended_refused : place ≡ length us → (openers b ≡ [] → ⊥) → (fault : Fault) → IsEndedFault us first added place b fault → IsRefused mode rules us first added fault
    ended_refused e some fault f =
        let none : left ≡ [] = drop_all place us (omega (arith, e)) in
        let stop : IsStop here left 0 = subst (λ rest. IsStop here rest 0) (sym none) at_end in
        let c = ended_cause 0 place fault stop (ap (λ rest. starts 41 (values rest)) none) (λ frames _. some (ap (λ fs. openers_onto fs []) frames)) (omega arith) f in
        refused c.0 c.2 c.3 fault c.1

    -- a `)` where no group is open
    pub closer_refused : Stands here left closer 1 → openers b ≡ [] → IsRefused mode rules us first added (Diagnostic (ParsePatternIncomplete (between place place)))
    closer_refused s none =
        let f = front_spelled here left closer 1 s.0 in
        let stop : IsStop here left 0 = subst (λ rest. IsStop here rest 0) (sym f.whole) (closer_stops f.w f.rest f.spells) in
        let some : left ≡ [] → ⊥ = λ e. omega (arith, ap length e, ap length f.whole, length-append f.w f.rest, f.count) in
        let r : IsReached mode rules us place [] (ready b) left = subst (λ os. IsReached mode rules us place os (ready b) left) none (reached us first added b place h) in
        let here_is : place + 0 ≡ place = omega arith in
        cause_refused mode rules us first added no_clash limit place (ParsePatternIncomplete (between place place)) (λ e. cc e)
        (placed ParsePatternIncomplete (place + 0) (place + 0) place place here_is here_is (incomplete place 0 (ready b) left r stop some))
      where
        closer_stops : (w rest : List CodePoint) → values w ≡ 41 ∷ [] → IsStop here (w ++ rest) 0
        closer_stops [] rest e = absurd (let no : ⊥ = cc e in no)
        closer_stops (u ∷ w) rest e = at_closer (let is : u.value ≡ 41 = cc e in is)
