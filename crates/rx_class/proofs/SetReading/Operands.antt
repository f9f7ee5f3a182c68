-- Operands of a class with `v` that are read: what they add to what was built, and how what is refused in them is refused in the class.
use Rattle.std.proofs.Common.{◌≡◌, ◌≢◌, refl, sym, ap, ap₂, ◌∙◌, subst, ℕ, ◌+◌, ◌-◌, ◌<◌, ◌≤◌, Bool, true, false, not, is_some, MatchResult, Option, Some, None, Result, Ok, Err, List, [], ◌∷◌, ◌++◌, length, drop, arith, inl, inr, append_assoc, length-append}
use Rattle.rx_class.proofs.Common.{and_right, le-leb, true≢false, length-map, Diagnostic, Intersection, Fault, Span, Character, CharacterClassEscapeKind, UnicodePropertyEscape, CharacterClassRange}
use Rattle.rx_class.proofs.Common.{ClassStringDisjunction, Member, CodePoint, Cursor, move_on, offset_of, rest, values, front_is, Mode, is_union, operand, with_range, Atom, ClassEvents}
use Rattle.rx_class.proofs.Common.{ClassToken, item, leave, token, within, class_tokens_of, member_events, strings_events, strings, strings_end, low as low_end, starts, Environment, is_sets}
use Rattle.rx_class.proofs.Common.{begins_property, IsOperandPlace, IsSecondPlace, begins_item, IsEscapeCause, IsPropertyCause, no_item, yielding_of, class_environment, class_escape_text}
use Rattle.rx_class.proofs.Common.{atom_some, class_letter, token_some, sets_is, tokens_append, class_row_tokens, ClassAtom, ClassBuilder, builder_events, GivesAtom, atom_member, atom_of}
use Rattle.rx_class.proofs.Common.{atom_span, between, from_backslash, span_to, mirror_held, KeepsUnits, GivesSetCharacter, GivesStrings, AddsToSets, GivesTurn, IsInSets, IsOfSets}
use Rattle.rx_class.proofs.Common.{IsRangeNext, RefusesNoEnd, innermost_held, offset_in, place_of, IsSound, IsWellBuilt, strings_by_name}
use Rattle.rx_base.specs.declared.diagnostic.Diagnostic.TheVariants.{CharacterClassRangeOutOfOrder}
use Rattle.rx_base.specs.declared.diagnostic.kinds.RangeKind.TheVariants as range_kind
use Rattle.rx_base.specs.declared.fault.Fault.TheVariants as fault
use Rattle.rx_ast.specs.ClassTree as tree
use Rattle.rx_model.specs.Classes.ClassRows.{BeforeHigh, ClassRow, Place, SpellsAtom, SpellsInClass, next_place, following_item, has_threes, fresh, is_dashed, after_operator}
use Rattle.rx_model.specs.Classes.ClassRuns.{Held}
use Rattle.rx_model.specs.Classes.ClassTokens.{is_character}
use Rattle.rx_model.specs.Classes.ClassTokens.{dash as dash_token, high as high_end}
use Rattle.rx_model.specs.Refusals.ClassCauses as class_cause
use Rattle.rx_model.specs.Refusals.ClassCauses.{IsClassCause}
use Rattle.rx_model.specs.Refusals.EscapeCauses as escape_cause
use Rattle.rx_model.proofs.Classes.ClassStates.{row_shorter}
use Rattle.rx_model.proofs.Classes.ClassWithoutSpans.{within_tokens}
use Rattle.rx_class.specs.declared.classes.atom.ClassAtom.TheVariants as atom
use Rattle.rx_class.specs.declared.sets.held.Held.{Held as HeldState}
use Rattle.rx_class.specs.ClassReading.Items as items
use Rattle.rx_class.specs.PropertyReading.Answers.{GivesProperty}
use Rattle.rx_class.specs.PropertyReading.Answers as property_answer
use Rattle.rx_class.specs.SetReading.Answers.{IsAfterDash}
use Rattle.rx_class.specs.SetReading.Answers as given
use Rattle.rx_class.specs.SetReading.Fronts.{Begins, BeginsProperty}
use Rattle.rx_class.specs.SetReading.Progress as turn
use Rattle.rx_class.specs.SetReading.Progress.{IsSetRange}
use Rattle.rx_class.specs.SetReading.WellBuilt.{HoldsMore, TakesOperand}
use Rattle.rx_class.proofs.ClassReading.Ranges.{DashStands, PairStands, atom_stands, dash_at, dash_given, dash_whole, pair_given, range_is, atom_events}
use Rattle.rx_class.proofs.Keeping.{Passes, keeps_on, moved_keeps, passes_keeps, passes_moved, passes_over}
use Rattle.rx_class.proofs.SetReading.Characters.{no_end_without, no_escape_refused, no_range_end, spelled_set_character, unicode_is}
use Rattle.rx_class.proofs.Operators.{begins_cases, begins_place, no_range_after, no_range_no_union, operand_after, operand_fresh, ranged_fresh, union_whole, whole_fresh}
use Rattle.rx_class.proofs.SetReading.Places.{item_before, item_here}
use Rattle.rx_class.proofs.SetReading.Refusals.{by_text, said_gives}
use Rattle.rx_class.proofs.SetReading.Steps.{adds_by, last_no_character}
use Rattle.rx_class.proofs.SetReading.Strings.{escape_says_more}
use Rattle.rx_model.proofs.Classes.FurtherItems.{ranged_union}
use Rattle.rx_model.proofs.Reading.Splits.{starts_front}

-- With `v` an item leads to where the next may begin.
after_fresh : (mode : Mode) (q : Place) (a : Atom) (left : List CodePoint) → begins_item q ≡ true → is_sets mode ≡ true → next_place mode q (item a) left ≡ fresh
after_fresh mode q a left begins sets = ap (following_item q) (and_right (is_dashed (values left)) (has_threes mode) (ap has_threes (sets_is mode sets))) ∙ by q begins
  where
    by : (q : Place) → begins_item q ≡ true → following_item q false ≡ fresh
    by q begins = grind arith

-- An atom is an operand where an item may begin: no range begins with it, and no third `&`.
item_there : (e : Environment) (q : Place) (a : Atom) (w left : List CodePoint) → begins_item q ≡ true → is_sets e.mode ≡ true → SpellsAtom e a w left → (q ≡ fresh → is_character a ≡ true → BeforeHigh e left → ⊥) →
    (q ≡ after_operator Intersection → starts 38 (values w) ≡ false) → SpellsInClass e q (item a) w left
item_there e q a w left begins sets s none third =
    begins_cases (λ q. (q ≡ fresh → is_character a ≡ true → BeforeHigh e left → ⊥) → (q ≡ after_operator Intersection → starts 38 (values w) ≡ false) → SpellsInClass e q (item a) w left)
    (λ none third. (s, inr (inr record { sets = sets; none = none refl })))
    (λ o none third. operand_after o e (item a) w left sets s (λ is. third (ap after_operator is)))
    q begins none third

item_row : (e : Environment) (o : ℕ → ℕ) (i : ℕ) (q : Place) (a : Atom) (s : Span) (w left : List CodePoint) → SpellsInClass e q (item a) w left → next_place e.mode q (item a) left ≡ fresh → s ≡ between (o i) (o (i + length w)) →
    ClassRow e o (within s (token (item a) ∷ [])) q i (w ++ left) fresh (i + length w) left
item_row e o i q a s w left spelled following covers = (ap (λ (s : Span). s.start) covers, (w, left, refl, spelled, (ap (λ (s : Span). s.end) covers, (following, refl, refl))))

-- an operand
module _ {e : Environment} {added : ℕ} {old new : Cursor} {before after : ClassBuilder} {held : HeldState} (takes : TakesOperand before held) (with : innermost_held after ≡ mirror_held held) (well : IsWellBuilt after) where
  member_adds : (m : Member) (w left : List CodePoint) → rest old ≡ w ++ left → 0 < length w → new ≡ move_on (length w) old → builder_events after ≡ builder_events before ++ member_events m →
      ClassRow e (offset_in added old) (member_events m) (place_of (innermost_held before)) old.place (w ++ left) fresh (old.place + length w) left → RefusesNoEnd e new after → AddsToSets e added old new before after
  member_adds m w left whole some moves events row ends =
      adds_by e added old new before after (member_events m) w left (place_of (innermost_held before)) fresh whole some moves events refl (ap place_of with ∙ operand_fresh (innermost_held before) (mirror_held held) takes.held) row well ends

  atom_adds : (it : ClassAtom) → IsOfSets e old → GivesAtom e added old new (Ok it) → builder_events after ≡ builder_events before ++ member_events (atom_member it) →
      (place_of (innermost_held before) ≡ fresh → is_character (atom_of it) ≡ true → BeforeHigh e (rest new) → ⊥) → (place_of (innermost_held before) ≡ after_operator Intersection → starts 38 (values (rest old)) ≡ false) → RefusesNoEnd e new after →
      AddsToSets e added old new before after
  atom_adds it of gives events none third ends =
      let s = atom_stands e added old old.place new it gives in
      let passes = s.passes in
      let q = place_of (innermost_held before) in
      let some = atom_some e (atom_of it) s.w (rest new) s.spelled in
      let begins = begins_place (innermost_held before) in
      member_adds (atom_member it) s.w (rest new) passes.whole some (passes_over passes) events
      (rw (atom_events it)
      (item_row e (offset_in added old) old.place q (atom_of it) (atom_span it) s.w (rest new)
      (item_there e q (atom_of it) s.w (rest new) begins of.sets s.spelled none (λ meets. sym (starts_front 38 s.w (rest new) some) ∙ ap (λ us. starts 38 (values us)) (sym passes.whole) ∙ third meets))
      (after_fresh e.mode q (atom_of it) (rest new) begins of.sets) s.span))
      ends

-- the span of what the reader moved over
moved_span : (added start : ℕ) (old new : Cursor) (w left : List CodePoint) (span : Span) → rest old ≡ w ++ left → 0 < length w → new ≡ move_on (length w) old → start ≡ offset_of old → span ≡ span_to added start new →
    span ≡ between (offset_in added old old.place) (offset_in added old (old.place + length w))
moved_span added start old new w left span whole some moves at covers =
    let p = passes_moved old new w left whole some moves in
    let passes = p.0 in
    covers ∙ ap₂ (λ start (r : Cursor). between (start + added) (offset_of r + added)) at passes.moves

abbrev item_character : ClassToken → Bool
item_character (item a) = is_character a
item_character t = false

no_character_item : (t : ClassToken) → item_character t ≡ false → (a : Atom) → t ≡ item a → is_character a ≡ true → ⊥
no_character_item t none a same is = true≢false (sym is ∙ ap item_character (sym same) ∙ none)

atom_keeps : {e : Environment} {added : ℕ} {old new : Cursor} {it : ClassAtom} → GivesAtom e added old new (Ok it) → KeepsUnits old new
atom_keeps {e} {added} {old} {new} {it} gives = let s = atom_stands e added old old.place new it gives in passes_keeps s.passes

-- a class escape
module _ (added start : ℕ) (old new : Cursor) (kind : CharacterClassEscapeKind) (span : Span) where
  pub escape_read : Begins (rest old) (class_escape_text kind) → start ≡ offset_of old → new ≡ move_on 2 old → span ≡ span_to added start new → (e : Environment) →
      GivesAtom e added old new (Ok (atom.Escape (record { span = span; kind = kind })))
  escape_read front at moves covers e =
      let letter = class_letter kind in
      let n : 2 ≡ length front.w = omega (arith, ap length (front.text_is ∙ letter.text), length-map front.w (λ (u : CodePoint). u.value)) in
      let on = moves ∙ ap (λ n. move_on n old) n in
      items.some front.w front.rest front.whole front.text_is refl (moved_span added start old new front.w front.rest span front.whole (omega (arith, n)) on at covers) on

  pub escape_adds : {before after : ClassBuilder} {held : HeldState} → TakesOperand before held → innermost_held after ≡ mirror_held held → IsWellBuilt after → builder_events after ≡ builder_events before ++ member_events (tree.escape (record { span = span; kind = kind })) →
      Begins (rest old) (class_escape_text kind) → start ≡ offset_of old → new ≡ move_on 2 old → span ≡ span_to added start new → (e : Environment) → IsOfSets e old → AddsToSets e added old new before after
  escape_adds {before} {after} takes with well events front at moves covers e of =
      let it : ClassAtom = atom.Escape (record { span = span; kind = kind }) in
      let letter = class_letter kind in
      let third : starts 38 (values (rest old)) ≡ false =
      ap (λ us. starts 38 (values us)) front.whole ∙ starts_front 38 front.w front.rest (omega (arith, ap length (front.text_is ∙ letter.text), length-map front.w (λ (u : CodePoint). u.value))) ∙ ap (starts 38) (front.text_is ∙ letter.text) in
      atom_adds takes with well it of (escape_read front at moves covers e) events (λ at is high. true≢false (sym is)) (λ meets. third)
      (last_no_character e new before after (member_events (atom_member it)) [] (item (atom_of it)) events refl (no_character_item (item (atom_of it)) refl))

-- Where an operand may stand.
operand_here : {e : Environment} {added : ℕ} {from r : Cursor} {b : ClassBuilder} {after : HeldState} → IsInSets e added from r b → TakesOperand b after → IsOperandPlace e from.place (rest from) r.place (rest r)
operand_here h takes = record { item_place = item_here h; takes = ap is_some takes.held }

property_says_more : {mode : Mode} {us : List CodePoint} {first added place : ℕ} {rest : List CodePoint} (d : Diagnostic) → IsPropertyCause mode us first added place rest d → yielding_of d ≢ no_item
property_says_more _ (escape_cause.no_property c following unicode whole is other) k = cc k
property_says_more _ cause k = cc k

-- a property escape, whose backslash was read
module _ (old mid : Cursor) (front : BeginsProperty (rest old)) (moves : mid ≡ move_on 1 old) where
  -- the backslash
  record After : Type 0 where
    backslash : CodePoint
    others : List CodePoint
    whole : rest old ≡ backslash ∷ others
    left : rest mid ≡ others
    passes : Passes old mid (backslash ∷ [])

  after_backslash : After
  after_backslash = go (rest old) refl front.whole
    where
      go : (us : List CodePoint) → rest old ≡ us → values us ≡ 92 ∷ front.letter ∷ front.following → After
      go [] whole h = absurd (let no : ⊥ = cc h in no)
      go (u ∷ us) whole h =
          let p = passes_moved old mid (u ∷ []) us whole (omega arith) moves in
          record { backslash = u; others = us; whole = whole; left = p.1; passes = p.0 }

  mid_is : mid ≡ record old { place = old.place + 1 }
  mid_is = let b = after_backslash in let passes = b.passes in passes.moves

  one_before : old.place + 1 - 1 ≡ old.place
  one_before = omega arith

  before_is : from_backslash mid ≡ rest old
  before_is = ap from_backslash mid_is ∙ ap (λ place. drop place old.units) one_before

  on_from : (new : Cursor) (n : ℕ) → new ≡ move_on n mid → new ≡ move_on (n + 1) old
  on_from new n on = on ∙ ap (move_on n) moves ∙ ap (λ place. record old { place = place }) (grind arith)

  module _ {e : Environment} {added start : ℕ} {new : Cursor} where
    -- One is read.
    pub property_stands : is_sets e.mode ≡ true → GivesProperty e added start mid new (Ok None) → ⊥
    property_stands sets gives = go None refl gives
      where
        go : (o : Option UnicodePropertyEscape) → o ≡ None → GivesProperty e added start mid new (Ok o) → ⊥
        go _ same (property_answer.some backslash w more whole spells obeys covers on) = cc same
        go _ same (property_answer.none stays (inl never)) = true≢false (sym (unicode_is e sets) ∙ never)
        go _ same (property_answer.none stays (inr other)) =
            let b = after_backslash in
            let text : b.backslash.value ∷ values b.others ≡ 92 ∷ front.letter ∷ front.following = ap values (sym b.whole) ∙ front.whole in
            let letters : values b.others ≡ front.letter ∷ front.following = cc text in
            true≢false (sym front.letter_is ∙ ap (front_is begins_property) (sym letters) ∙ ap (λ us. front_is begins_property (values us)) (sym b.left) ∙ other)

    property_read : {it : UnicodePropertyEscape} → start ≡ offset_of old → GivesProperty e added start mid new (Ok (Some it)) → GivesAtom e added old new (Ok (atom.Property it))
    property_read {it} at (property_answer.some backslash w more whole spells obeys covers on) =
        let all : rest old ≡ (backslash ∷ w) ++ more = sym before_is ∙ whole in
        let n : length w + 1 ≡ length (backslash ∷ w) = omega arith in
        let moves_on = on_from new (length w) on ∙ ap (λ n. move_on n old) n in
        items.some (backslash ∷ w) more all spells (ap not obeys) (moved_span added start old new (backslash ∷ w) more it.span all (omega arith) moves_on at covers) moves_on

    pub property_adds : {before after : ClassBuilder} {held : HeldState} {it : UnicodePropertyEscape} → TakesOperand before held → innermost_held after ≡ mirror_held held → IsWellBuilt after → start ≡ offset_of old →
        GivesProperty e added start mid new (Ok (Some it)) → builder_events after ≡ builder_events before ++ member_events (tree.property it) → IsOfSets e old → AddsToSets e added old new before after
    property_adds {before = before} {after = after} {it = it} takes with well at gives events of =
        let a : ClassAtom = atom.Property it in
        atom_adds takes with well a of (property_read at gives) events (λ at is high. true≢false (sym is)) (λ meets. ap (starts 38) front.whole)
        (last_no_character e new before after (member_events (atom_member a)) [] (item (atom_of a)) events refl (no_character_item (item (atom_of a)) refl))

    pub property_keeps : {it : UnicodePropertyEscape} → start ≡ offset_of old → GivesProperty e added start mid new (Ok (Some it)) → KeepsUnits old new
    property_keeps at gives = atom_keeps (property_read at gives)

    -- or refused.
    pub property_refused : {before after : ClassBuilder} {held : HeldState} {f : Fault} → TakesOperand before held → IsOfSets e old → GivesProperty e added start mid new (Err f) → GivesTurn e added old new before after (Err f)
    property_refused takes of (property_answer.no_memory keeps) = turn.no_memory (keeps_on (moved_keeps 1 old mid moves) keeps)
    property_refused {before} {after} takes of (property_answer.refused {diagnostic = d} cause first none keeps) =
        let here : IsPropertyCause e.mode old.units old.first added old.place (rest old) d =
        subst (λ place. IsPropertyCause e.mode old.units old.first added place (drop place old.units) d) one_before (subst (λ (r : Cursor). IsPropertyCause e.mode r.units r.first added (r.place - 1) (from_backslash r) d) mid_is cause) in
        by_text (λ e. IsPropertyCause e.mode old.units old.first added old.place (rest old) d → GivesTurn e added old new before after (Err (fault.Diagnostic d))) of
        (λ cause. said_gives d (keeps_on (moved_keeps 1 old mid moves) keeps) (property_says_more d cause) (λ from h. (old.place, class_cause.property_in_class old.place (rest old) (inl (operand_here h takes)) cause))) here

    -- Whatever is answered of one that was read.
    pub property_turns : {before after : ClassBuilder} {held : HeldState} {it : UnicodePropertyEscape} (given : Result (Unit {0}) Fault) → TakesOperand before held → IsOfSets e old → start ≡ offset_of old
        → GivesProperty e added start mid new (Ok (Some it)) → MatchResult given (λ none. HoldsMore before after (tree.property it) held) (λ given. given ≡ fault.OutOfMemory) → GivesTurn e added old new before after given
    property_turns (Ok tt) takes of at gives more = turn.adds (property_adds takes more.holds more.well at gives more.events of)
    property_turns {before} {after} (Err _) takes of at gives none = subst (λ given. GivesTurn e added old new before after (Err given)) (sym none) (turn.no_memory (property_keeps at gives))

pub property_sound : {e : Environment} {added start : ℕ} {old new : Cursor} {it : UnicodePropertyEscape} → GivesProperty e added start old new (Ok (Some it)) → IsSound (tree.property it)
property_sound {e = e} {it = it} (property_answer.some backslash w more whole spelled no_strings span moves) =
    let flagged = strings_by_name e.mode it.strings it.name it.value spelled.text spelled.spelled in
    record { fitting = tt; flagged = flagged; early = (flagged, no_strings) }

-- Class strings have units.
strings_some : (e : Environment) (o : ℕ → ℕ) (i j : ℕ) (s : Span) (es : ClassEvents) (q : Place) (w more : List CodePoint) → ClassRow e o (within s (token strings ∷ es)) q i (w ++ more) fresh j more → 0 < length w
strings_some e o i j s es q w more row =
    let r = row.1 in
    let first = token_some e q strings r.0 r.1 r.3 in
    let others = class_row_tokens e o (es ++ (leave s.end ∷ [])) (next_place e.mode q strings r.1) (i + length r.0) r.1 fresh j more r.4 in
    omega (arith, first, row_shorter e (class_tokens_of (es ++ (leave s.end ∷ []))) (next_place e.mode q strings r.1) r.1 fresh more others, ap length r.2, length-append w more, length-append r.0 r.1)

module _ {e : Environment} {added : ℕ} {old new : Cursor} where
  pub strings_adds : {before after : ClassBuilder} {held : HeldState} {it : ClassStringDisjunction} → TakesOperand before held → innermost_held after ≡ mirror_held held → IsWellBuilt after →
      builder_events after ≡ builder_events before ++ member_events (tree.strings it) → GivesStrings e added old new (Ok it) → AddsToSets e added old new before after
  strings_adds {before = before} {after = after} {it = it} takes with well events (given.some w more whole row sound moves) =
      let here = row (place_of (innermost_held before)) (begins_place (innermost_held before)) in
      member_adds takes with well (tree.strings it) w more whole
      (strings_some e (offset_in added old) old.place (old.place + length w) it.span (strings_events it.body ++ (token strings_end ∷ [])) (place_of (innermost_held before)) w more here) moves events here
      (last_no_character e new before after (member_events (tree.strings it)) (strings ∷ class_tokens_of (strings_events it.body)) strings_end events
      (within_tokens it.span (token strings ∷ (strings_events it.body ++ (token strings_end ∷ []))) ∙ ap (λ ts. strings ∷ ts) (tokens_append (strings_events it.body) (token strings_end ∷ []))) (no_character_item strings_end refl))

  pub strings_keep : {it : ClassStringDisjunction} → GivesStrings e added old new (Ok it) → KeepsUnits old new
  strings_keep (given.some w more whole row sound moves) = moved_keeps (length w) old new moves

  pub strings_sound : {it : ClassStringDisjunction} → GivesStrings e added old new (Ok it) → IsSound (tree.strings it)
  strings_sound (given.some w more whole row sound moves) = sound

  pub strings_refused : {before after : ClassBuilder} {held : HeldState} {f : Fault} → TakesOperand before held → IsOfSets e old → GivesStrings e added old new (Err f) → GivesTurn e added old new before after (Err f)
  strings_refused takes of (given.no_memory keeps) = turn.no_memory keeps
  strings_refused takes of (given.refused refusal keeps) = turn.refused (λ from h. refusal of.text from.place (rest from) (operand_here h takes)) keeps

-- a character
module _ {e : Environment} {added : ℕ} {old new : Cursor} where
  character_atom : {it : Character} → GivesSetCharacter e added old new (Ok it) → GivesAtom e added old new (Ok (atom.Character it))
  character_atom {it} (given.some w more whole spelled small span moves) = items.some w more whole spelled (le-leb it.value 0x10FFFF small) span moves

  pub character_small : {it : Character} → GivesSetCharacter e added old new (Ok it) → it.value ≤ 0x10FFFF
  character_small (given.some w more whole spelled small span moves) = small

  -- An escape that is refused where an operand may stand is refused in the class.
  pub character_refused : {before after : ClassBuilder} {held : HeldState} {d : Diagnostic} → TakesOperand before held → IsOfSets e old → GivesSetCharacter e added old new (Err d) → GivesTurn e added old new before after (Err (fault.Diagnostic d))
  character_refused {before = before} {after = after} {d = d} takes of (given.refused cause keeps) =
      by_text (λ e. IsEscapeCause e.mode old.units old.first added old.place (rest old) d → GivesTurn e added old new before after (Err (fault.Diagnostic d))) of
      (λ cause. said_gives d keeps (escape_says_more d cause) (λ from h. (old.place, class_cause.escape_in_class old.place (rest old) (inl (operand_here h takes)) cause))) cause

  -- One that begins no range is added.
  pub character_adds : {before after : ClassBuilder} {held : HeldState} {it : Character} → TakesOperand before held → innermost_held after ≡ mirror_held held → IsWellBuilt after → IsOfSets e old →
      GivesSetCharacter e added old new (Ok it) → IsRangeNext (rest new) (innermost_held before) None → (place_of (innermost_held before) ≡ after_operator Intersection → starts 38 (values (rest old)) ≡ false) →
      builder_events after ≡ builder_events before ++ member_events (tree.character it) → AddsToSets e added old new before after
  character_adds {before} {after} {held} {it} takes with well of gives none third events = atom_adds takes with well (atom.Character it) of (character_atom gives) events (no_high none) third (no_end none)
    where
      no_high : IsRangeNext (rest new) (innermost_held before) None → place_of (innermost_held before) ≡ fresh → true ≡ true → BeforeHigh e (rest new) → ⊥
      no_high (inl none) at is high = no_range_after (innermost_held before) (mirror_held held) takes.held none at
      no_high (inr none) at is high =
          let no = sym (spelled_set_character e of.sets high.kind high.value high.w high.more high.spelled) ∙ no_range_end (rest new) high.hyphen (high.w ++ high.more) none high.whole high.hyphen_is in let k : ⊥ = cc no in k

      no_end : IsRangeNext (rest new) (innermost_held before) None → RefusesNoEnd e new after
      no_end (inl none) = λ union. absurd (true≢false (sym union ∙ ap is_union with ∙ no_range_no_union (innermost_held before) (mirror_held held) takes.held none))
      no_end (inr none) = λ union xs a tokens is hyphen following whole hyphen_is us first_at added place d c.
          no_escape_refused e of.sets following (no_range_end (rest new) hyphen following none whole hyphen_is) us first_at added place d c

  -- So is one in a union, where no `-` follows.
  pub union_character_adds : {before after : ClassBuilder} {it : Character} → IsWellBuilt before → is_union (innermost_held before) ≡ true → operand (innermost_held before) ≡ Some (innermost_held after) → IsWellBuilt after → IsOfSets e old →
      GivesSetCharacter e added old new (Ok it) → starts 45 (values (rest new)) ≡ false → builder_events after ≡ builder_events before ++ member_events (tree.character it) → AddsToSets e added old new before after
  union_character_adds {before} {after} was union takes well of gives no_dash events =
      character_adds {held = after.inner.held} record { well = was; held = takes } refl well of gives (inr (no_end_without (rest new) no_dash))
      (λ at. absurd (let no : ⊥ = cc (sym (whole_fresh (innermost_held before) (union_whole (innermost_held before) union)) ∙ at) in no)) events

-- a range
module _ (mode : Mode) (added : ℕ) (old new : Cursor) (before : ClassBuilder) (after : Held) (ranges : with_range (innermost_held before) ≡ Some after) where
  abbrev here : Environment
  here = class_environment mode old.units

  -- The end of a range is refused.
  end_cause : {low : Character} {h : Span} (s : DashStands here added old new (atom.Character low) h) (d : Diagnostic) → IsEscapeCause mode new.units new.first added new.place (rest new) d → (from : Cursor) → IsInSets here added from old before →
      (f : ℕ) × IsClassCause mode old.units old.first added from.place (rest from) f d
  end_cause {low} s d cause from h =
      let place = old.place + length s.w + 1 in
      let there = subst (λ (r : Cursor). IsEscapeCause mode r.units r.first added r.place (rest r) d) (dash_at here added old s) cause in
      let left : rest new ≡ rest (record old { place = place }) = ap rest (dash_at here added old s) in (
        place,
        class_cause.escape_in_class place (rest (record old { place = place })) (inr (inl (subst (IsSecondPlace here from.place (rest from) place) left record {
          first = old.place;
          atom = atom_of (atom.Character low);
          w = s.w;
          hyphen = s.hyphen;
          item_place = item_before h (s.w ++ (s.hyphen ∷ rest new)) (dash_whole here added old s);
          hyphen_is = s.hyphen_is;
          dashed = s.dashed;
          spelled = s.spelled;
          of_union = λ sets. (refl, ranged_union (innermost_held before) after ranges);
          place_is = refl;
        }))) there,
      )

  -- The end is below the start.
  order_cause : {low high : Character} {k : Span} (p : PairStands here added old new (atom.Character low) (atom.Character high) k) → is_sets mode ≡ true → high.value < low.value → (from : Cursor) → IsInSets here added from old before →
      IsClassCause mode old.units old.first added from.place (rest from) old.place (CharacterClassRangeOutOfOrder (between low.span.start high.span.end) range_kind.ClassSet)
  order_cause {low} {high} p sets below from h =
      rw (ap (λ (s : Span). s.start) p.dash.span, ap (λ (s : Span). s.end) p.second.span)
      (class_cause.set_range_out_of_order old.place low.value high.value p.dash.w p.second.w (rest new) p.dash.hyphen sets
      (item_before h (p.dash.w ++ (p.dash.hyphen ∷ (p.second.w ++ rest new))) (p.passes.whole ∙ append_assoc p.dash.w (p.dash.hyphen ∷ p.second.w) (rest new))) (ranged_union (innermost_held before) after ranges)
      record { low_kind = low.kind; low_is = p.low_is; hyphen_is = p.dash.hyphen_is; high_kind = high.kind; high_is = p.second.spelled } below)

module _ {e : Environment} {added : ℕ} {old following : Cursor} {low : Character} (after_dash : IsAfterDash e added old low following) where
  dash : DashStands e added old following (atom.Character low) (span_to added (offset_of after_dash.before) following)
  dash = dash_given e added old (character_atom after_dash.gives) refl refl after_dash.dashed refl after_dash.moves refl

  pair : {new : Cursor} {high : Character} → GivesSetCharacter e added following new (Ok high) → PairStands e added old new (atom.Character low) (atom.Character high) (span_to added (offset_of after_dash.before) following)
  pair gives = pair_given e added old dash (character_atom gives)

  pub range_keeps : {new : Cursor} {high : Character} → GivesSetCharacter e added following new (Ok high) → KeepsUnits old new
  range_keeps gives = let p = pair gives in passes_keeps p.passes

  module _ {new : Cursor} {before after : ClassBuilder} (held : HeldState) (ranges : with_range (innermost_held before) ≡ Some (mirror_held held)) (of : IsOfSets e old) where
    pub end_refused : {d : Diagnostic} → GivesSetCharacter e added following new (Err d) → GivesTurn e added old new before after (Err (fault.Diagnostic d))
    end_refused {d} (given.refused cause keeps) =
        by_text (λ e. DashStands e added old following (atom.Character low) (span_to added (offset_of after_dash.before) following) → IsEscapeCause e.mode following.units following.first added following.place (rest following) d →
        GivesTurn e added old new before after (Err (fault.Diagnostic d))) of
        (λ s cause. said_gives d (keeps_on (passes_keeps s.passes) keeps) (escape_says_more d cause) (end_cause e.mode added old following before (mirror_held held) ranges s d cause)) dash cause

    pub range_refused : {high : Character} {d : Diagnostic} → GivesSetCharacter e added following new (Ok high) → IsSetRange low high (Err d) → GivesTurn e added old new before after (Err (fault.Diagnostic d))
    range_refused {high} gives (turn.out_of_order below) =
        let d = CharacterClassRangeOutOfOrder (between low.span.start high.span.end) range_kind.ClassSet in
        by_text (λ e. PairStands e added old new (atom.Character low) (atom.Character high) (span_to added (offset_of after_dash.before) following) → GivesTurn e added old new before after (Err (fault.Diagnostic d))) of
        (λ p. said_gives d (passes_keeps p.passes) (λ k. let no : ⊥ = cc k in no) (λ from h. (old.place, order_cause e.mode added old new before (mirror_held held) ranges p of.sets below from h))) (pair gives)

    pub range_adds : {high : Character} {range : CharacterClassRange} → GivesSetCharacter e added following new (Ok high) → IsSetRange low high (Ok range) → innermost_held after ≡ mirror_held held → IsWellBuilt after →
        builder_events after ≡ builder_events before ++ member_events (tree.range range) → AddsToSets e added old new before after
    range_adds {high} gives (turn.range ordered) with well events =
        let p = pair gives in
        let r : CharacterClassRange = record { span = between low.span.start high.span.end; min = low; max = high } in
        let is = range_is e added old new low high ordered p in
        let places = ranged_fresh (innermost_held before) (mirror_held held) ranges in
        adds_by e added old new before after (member_events (tree.range r)) (p.dash.w ++ (p.dash.hyphen ∷ p.second.w)) (rest new) fresh fresh p.passes.whole is.some (passes_over p.passes) events places.0 (ap place_of with ∙ places.1) is.row well
        (last_no_character e new before after (member_events (tree.range r)) (low_end low.kind low.value ∷ dash_token ∷ []) (high_end high.kind high.value) events refl (no_character_item (high_end high.kind high.value) refl))

pub range_sound : {low high : Character} {range : CharacterClassRange} → low.value ≤ 0x10FFFF → high.value ≤ 0x10FFFF → IsSetRange low high (Ok range) → IsSound (tree.range range)
range_sound small small' (turn.range ordered) = record { fitting = tt; flagged = tt; early = (small, small', ordered) }
