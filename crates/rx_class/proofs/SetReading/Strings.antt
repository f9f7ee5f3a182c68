-- Class strings: a part more, what is refused where none stands, and from their opener on where their reader stands, and what it answers.
use Rattle.std.proofs.Common.{◌≡◌, refl, sym, ap, ◌∙◌, subst, ℕ, ◌+◌, ◌≤◌, ◌==◌, ◌||◌, true, false, not, Result, Ok, Err, List, [], ◌∷◌, ◌++◌, length, arith, append_assoc, ◌≢◌, ◌-◌, ◌<◌, is_some, Option, Some, None, append-nil, inr, length-append, IfErr, All}
use Rattle.rx_class.proofs.Common.{or-false, All-nil, All-push, All-head, All-tail, All-weaker, le-leb, true≢false, length-map, Diagnostic, UnterminatedPattern, Fault, Span, Character}
use Rattle.rx_class.proofs.Common.{ClassStringDisjunction, CodePoint, Cursor, move_on, offset_of, rest, offset_at, values, ClassEvents, ClassToken, character, enter, leave, strings_end}
use Rattle.rx_class.proofs.Common.{token, strings, class_tokens_of, strings_events, starts, Environment, is_sets, Bracket, Brackets, after_step, class_run, operand, takes_operand}
use Rattle.rx_class.proofs.Common.{IsOperandPlace, begins_item, IsEscapeCause, invalid_escape, too_many_hex_digits, IsFirstInClass, no_item, yielding_of, class_environment, atom_some}
use Rattle.rx_class.proofs.Common.{class_row_tokens, said_is_first, span_to, KeepsUnits, GivesSetCharacter, GivesStrings, IsOfText, offset_in, IsSound}
use Rattle.std.specs.List.{list_any}
use Rattle.std.proofs.lemmas.List.Elements.{All-cons}
use Rattle.std.proofs.lemmas.List.Folds.{list_any-append}
use Rattle.rx_base.specs.declared.diagnostic.kinds.Unterminated.TheVariants as what
use Rattle.rx_base.specs.declared.fault.Fault.TheVariants as fault
use Rattle.rx_ast.specs.declared.class.ClassString.{ClassString}
use Rattle.rx_ast.specs.ClassTree as tree
use Rattle.rx_model.specs.Characters.EscapeFronts.{escaped, nothing}
use Rattle.rx_model.specs.Classes.ClassRows.{SpellsInClass, SpellsOfStrings, in_strings, ClassRow, Place, fresh}
use Rattle.rx_model.specs.Classes.ClassTokens.{ClassEvent, letter, letters_events, string_bar, string_events, barred_strings_events}
use Rattle.rx_model.specs.Refusals.ClassCauses.{EndsStrings, escape_in_class}
use Rattle.rx_model.specs.Trees.Early.{IsEarlyString, IsCodePoint, IsFlaggedString}
use Rattle.rx_model.specs.Classes.ClassRuns.{Held, any_string, where_may, where_true}
use Rattle.rx_model.specs.Refusals.ClassPlaces.{IsOfStrings, IsStringPlace}
use Rattle.rx_model.proofs.Classes.NothingFirst.{unterminated_strings_first}
use Rattle.rx_class.specs.declared.sets.strings.StringsBuilder.{StringsBuilder}
use Rattle.rx_class.specs.SetReading.Answers as given
use Rattle.rx_class.specs.SetReading.Fronts.{set_character_at, Begins}
use Rattle.rx_class.specs.SetReading.Strings.{AddsPart, AreSoundStrings, RefusesPart, ended_events, ends, escape, last_string, read_events, with_string, no_memory, strings_from}
use Rattle.rx_class.proofs.Keeping.{passes_moved, stays_keeps, Passes, keeps_on, passes_keeps, passes_on, passes_over}
use Rattle.rx_class.proofs.SetReading.Characters.{no_escape_refused, spelled_set_character}
use Rattle.rx_class.proofs.SetReading.Refusals.{unit_next}
use Rattle.rx_class.proofs.ClassReading.Items.{rows_append}
use Rattle.rx_class.proofs.Operators.{begins_cases, operand_after}

-- what is said of a failure to read a part
abbrev pub IsRefusedPart : ℕ → ℕ → Cursor → Cursor → Result (Unit {0}) Fault → Type 0
IsRefusedPart added start old new r = IfErr r (λ fault. (e : Environment) → is_sets e.mode ≡ true → RefusesPart e added start old new fault)

-- Events that are read one after another.
letters_push : (cs : List Character) (c : Character) → letters_events (cs ++ (c ∷ [])) ≡ letters_events cs ++ (enter c.span.start ∷ token (letter c.kind c.value) ∷ leave c.span.end ∷ [])
letters_push [] c = refl
letters_push (x ∷ cs) c = ap (λ es. enter x.span.start ∷ token (letter x.kind x.value) ∷ leave x.span.end ∷ es) (letters_push cs c)

ended_push : (ss : List ClassString) (s : ClassString) → ended_events (ss ++ (s ∷ [])) ≡ ended_events ss ++ (string_events s ++ (token string_bar ∷ []))
ended_push [] s = refl
ended_push (x ∷ ss) s =
    ap (λ es. string_events x ++ (token string_bar ∷ es)) (ended_push ss s) ∙ sym (append_assoc (string_events x) (token string_bar ∷ ended_events ss) (string_events s ++ (token string_bar ∷ [])))

-- an event at the end of some, and two more
three_more : (xs : ClassEvents) (a b c : ClassEvent) → ((xs ++ (a ∷ [])) ++ (b ∷ [])) ++ (c ∷ []) ≡ xs ++ (a ∷ b ∷ c ∷ [])
three_more [] a b c = refl
three_more (x ∷ xs) a b c = ap (λ es. x ∷ es) (three_more xs a b c)

bar_events : (before inside : ClassEvents) (begin a b c : ClassEvent) → (before ++ ((begin ∷ (inside ++ (a ∷ []))) ++ (b ∷ []))) ++ (c ∷ []) ≡ (before ++ (begin ∷ inside)) ++ (a ∷ b ∷ c ∷ [])
bar_events [] inside begin a b c = ap (λ es. begin ∷ es) (three_more inside a b c)
bar_events (x ∷ before) inside begin a b c = ap (λ es. x ∷ es) (bar_events before inside begin a b c)

-- a string has ended
string_ends : (b : StringsBuilder) (end : ℕ) → AreSoundStrings b → AreSoundStrings (with_string b end)
string_ends b end s = record {
  early = All-push IsEarlyString b.strings (last_string b end) s.early (refl, s.letters);
  letters = All-nil (λ (c : Character). IsCodePoint c.value);
  may =
      ap (λ may. may || not (length b.letters == 1)) s.may
      ∙ ap (λ any. list_any (λ s. s.strings) b.strings || any) (sym (or-false (not (length b.letters == 1))))
      ∙ sym (list_any-append (λ (s : ClassString). s.strings) b.strings (last_string b end ∷ []));
}

module _ (e : Environment) (sets : is_sets e.mode ≡ true) (added : ℕ) (old new : Cursor) where
  abbrev Adds : StringsBuilder → StringsBuilder → Type 0
  Adds = AddsPart e added old new

  -- A character more.
  pub letter_adds : (b after : StringsBuilder) (c : Character) → GivesSetCharacter e added old new (Ok c) → after ≡ record b { letters = b.letters ++ (c ∷ []) } → Adds b after
  letter_adds b after c (given.some w more whole spelled small covers moves) is =
      let p = passes_moved old new w more whole (atom_some e (character c.kind c.value) w more spelled) moves in
      let spelled_here = subst (λ more. SpellsInClass e in_strings (letter c.kind c.value) w more) (sym p.1) (sets, spelled) in
      record {
        w = w;
        some = atom_some e (character c.kind c.value) w more spelled;
        whole = p.0.whole;
        moves = moves;
        events = enter c.span.start ∷ token (letter c.kind c.value) ∷ leave c.span.end ∷ [];
        row = (ap (λ (s : Span). s.start) covers, (w, rest new, refl, spelled_here, (ap (λ (s : Span). s.end) covers, (refl, refl, refl))));
        adds =
            ap read_events is
            ∙ ap (λ es. ended_events b.strings ++ (enter b.start ∷ es)) (letters_push b.letters c)
            ∙ sym (append_assoc (ended_events b.strings) (enter b.start ∷ letters_events b.letters) (enter c.span.start ∷ token (letter c.kind c.value) ∷ leave c.span.end ∷ []));
        sound = λ s. subst AreSoundStrings (sym is) record { early = s.early; letters = All-push (λ (c : Character). IsCodePoint c.value) b.letters c s.letters small; may = s.may };
      }

  -- A bar more: a string ends before it, and the next begins after it.
  pub bar_adds : (b ended after : StringsBuilder) (before_bar after_bar : Span) → starts 124 (values (rest old)) ≡ true → new ≡ move_on 1 old → before_bar ≡ span_to added (offset_of old) old → after_bar ≡ span_to added (offset_of new) new
      → ended ≡ with_string b before_bar.start → after ≡ record ended { start = after_bar.start } → Adds b after
  bar_adds b ended after before_bar after_bar bar moves before_is after_is ended_is is =
      let t = unit_next 124 (rest old) bar in
      let p = passes_moved old new (t.0 ∷ []) t.1 t.2 (omega arith) moves in
      let here : before_bar.start ≡ offset_of old + added = ap (λ (s : Span). s.start) before_is in
      let there : after_bar.start ≡ offset_at old.first old.units (old.place + 1) + added =
      ap (λ (s : Span). s.start) after_is ∙ ap (λ (r : Cursor). offset_of r + added) p.0.moves in
      let all : after ≡ record (with_string b before_bar.start) { start = after_bar.start } = is ∙ ap (λ (b : StringsBuilder). record b { start = after_bar.start }) ended_is in
      record {
        w = t.0 ∷ [];
        some = omega arith;
        whole = p.0.whole;
        moves = moves;
        events = leave before_bar.start ∷ token string_bar ∷ enter after_bar.start ∷ [];
        row = (here, (t.0 ∷ [], rest new, refl, (sets, ap (λ c. c ∷ []) t.3), (there, (refl, refl, refl))));
        adds =
            ap read_events all
            ∙ ap (λ es. es ++ (enter after_bar.start ∷ [])) (ended_push b.strings (last_string b before_bar.start))
            ∙ bar_events (ended_events b.strings) (letters_events b.letters) (enter b.start) (leave before_bar.start) (token string_bar) (enter after_bar.start);
        sound = λ s. subst AreSoundStrings (sym all) (let k = string_ends b before_bar.start s in record { early = k.early; letters = k.letters; may = k.may });
      }

  -- Where neither a `|` nor a `}` stands, and no character is read, class strings do not go on.
  no_more : starts 125 (values (rest old)) ≡ false → starts 124 (values (rest old)) ≡ false → set_character_at (rest old) ≡ nothing → EndsStrings e (rest old)
  no_more no_end no_bar none t w more whole s = by t s.1
    where
      stands : (c : ℕ) (w : List CodePoint) → values w ≡ c ∷ [] → starts c (values (w ++ more)) ≡ true
      stands c [] h = absurd (let no : ⊥ = cc h in no)
      stands c (u ∷ w) h = ap (λ x. x == c) (let is : u.value ≡ c = cc h in is) ∙ grind arith

      never : (c : ℕ) → starts c (values (rest old)) ≡ false → values w ≡ c ∷ [] → ⊥
      never c h text = let no : true ≡ false = sym (stands c w text) ∙ ap (λ us. starts c (values us)) (sym whole) ∙ h in cc no

      by : (t : ClassToken) → SpellsOfStrings e t w more → ⊥
      by (letter k v) spelled = let no : escaped k v (length w) ≡ nothing = sym (spelled_set_character e sets k v w more spelled) ∙ ap set_character_at (sym whole) ∙ none in cc no
      by string_bar text = never 124 no_bar text
      by strings_end text = never 125 no_end text
      by t text = absurd text

  -- what is refused where no character stands
  pub escape_refuses : (start : ℕ) (d : Diagnostic) → GivesSetCharacter e added old new (Err d) → RefusesPart e added start old new (fault.Diagnostic d)
  escape_refuses start d (given.refused c keeps) = escape c keeps

  pub none_refuses : (start : ℕ) (span : Span) → starts 125 (values (rest old)) ≡ false → starts 124 (values (rest old)) ≡ false → set_character_at (rest old) ≡ nothing → old.place ≤ length old.units → span ≡ span_to added start old
      → RefusesPart e added start old old (fault.Diagnostic (UnterminatedPattern span what.ClassStringDisjunction))
  none_refuses start span no_end no_bar none within covers =
      rw covers (ends (no_more no_end no_bar none) (λ d c. no_escape_refused e sets (rest old) none old.units old.first added old.place d c) (stays_keeps old old within refl))

-- From the opener at a reader's old place, characters and bars lead to its new one.
pub record IsInStrings (e : Environment) (added : ℕ) (old new : Cursor) (b : StringsBuilder) : Type 0 where
  pub opener : List CodePoint
  pub opener_is : values opener ≡ 92 ∷ 113 ∷ 123 ∷ []
  pub w : List CodePoint
  pub passes : Passes old new (opener ++ w)
  pub row : ClassRow e (offset_in added old) (read_events b) in_strings (old.place + length opener) (w ++ rest new) in_strings new.place (rest new)
  pub sound : AreSoundStrings b

-- Tokens of class strings are accepted in a bracket.
abbrev IsSmallOfStrings : ClassToken → Type 0
IsSmallOfStrings (letter k v) = v ≤ 0x10FFFF
IsSmallOfStrings string_bar = Unit {0}
IsSmallOfStrings t = ⊥

small_is_of_strings : (t : ClassToken) → IsSmallOfStrings t → IsOfStrings t
small_is_of_strings (letter k v) h = tt
small_is_of_strings string_bar h = tt
small_is_of_strings t h = absurd h

small_run : (ts : List ClassToken) (b : Bracket) (outer : Brackets) → All IsSmallOfStrings ts → (c : Bracket) × (class_run ts (b ∷ outer) ≡ Some (c ∷ outer))
small_run [] b outer h = (b, refl)
small_run ((letter k v) ∷ ts) b outer h =
    let small = All-head IsSmallOfStrings (letter k v) ts h in
    let more : Bracket = record b { count = b.count + 1 } in
    let again = small_run ts more outer (All-tail IsSmallOfStrings (letter k v) ts h) in
    (again.0, ap (λ x. after_step (where_true x (Some (more ∷ outer))) (λ bs. class_run ts bs)) (le-leb v 0x10FFFF small) ∙ again.1)
small_run (string_bar ∷ ts) b outer h = small_run ts (record b { count = 0; any = any_string b }) outer (All-tail IsSmallOfStrings string_bar ts h)
small_run (t ∷ ts) b outer h = absurd (All-head IsSmallOfStrings t ts h)

opens : (held : Held) (bs : Brackets) → takes_operand held ≡ true → where_may (operand held) bs ≡ Some bs
opens held bs takes = by (operand held) takes
  where
    by : (o : Option Held) → is_some o ≡ true → where_may o bs ≡ Some bs
    by None h = absurd (true≢false (sym h))
    by (Some held) h = refl

-- What has been read are such tokens.
abbrev AreSmall : ClassEvents → Type 0
AreSmall es = All IsSmallOfStrings (class_tokens_of es)

small_append : (es fs : ClassEvents) → AreSmall es → AreSmall fs → AreSmall (es ++ fs)
small_append [] fs h k = k
small_append ((token t) ∷ es) fs h k =
    All-cons IsSmallOfStrings t (class_tokens_of (es ++ fs)) (All-head IsSmallOfStrings t (class_tokens_of es) h) (small_append es fs (All-tail IsSmallOfStrings t (class_tokens_of es) h) k)
small_append (edge ∷ es) fs h k = small_append es fs h k

letters_small : (cs : List Character) → All (λ c. IsCodePoint c.value) cs → AreSmall (letters_events cs)
letters_small [] h = All-nil IsSmallOfStrings
letters_small (c ∷ cs) h =
    All-cons IsSmallOfStrings (letter c.kind c.value) (class_tokens_of (letters_events cs)) (All-head (λ (c : Character). IsCodePoint c.value) c cs h)
    (letters_small cs (All-tail (λ (c : Character). IsCodePoint c.value) c cs h))

ended_small : (ss : List ClassString) → All IsEarlyString ss → AreSmall (ended_events ss)
ended_small [] h = All-nil IsSmallOfStrings
ended_small (s ∷ ss) h =
    small_append (string_events s) (token string_bar ∷ ended_events ss)
    (small_append (letters_events s.body) (leave s.span.end ∷ []) (letters_small s.body (All-head IsEarlyString s ss h).1) (All-nil IsSmallOfStrings))
    (All-cons IsSmallOfStrings string_bar (class_tokens_of (ended_events ss)) tt (ended_small ss (All-tail IsEarlyString s ss h)))

read_small : (b : StringsBuilder) → AreSoundStrings b → AreSmall (read_events b)
read_small b s = small_append (ended_events b.strings) (enter b.start ∷ letters_events b.letters) (ended_small b.strings s.early) (letters_small b.letters s.letters)

-- The strings that ended, and a last one.
barred : (ss : List ClassString) (s : ClassString) → barred_strings_events (ss ++ (s ∷ [])) ≡ token string_bar ∷ (ended_events ss ++ string_events s)
barred [] s = ap (λ es. token string_bar ∷ es) (append-nil (string_events s))
barred (x ∷ ss) s = ap (λ es. token string_bar ∷ (string_events x ++ es)) (barred ss s) ∙ ap (λ es. token string_bar ∷ es) (sym (append_assoc (string_events x) (token string_bar ∷ ended_events ss) (string_events s)))

strings_are : (ss : List ClassString) (s : ClassString) → strings_events (ss ++ (s ∷ [])) ≡ ended_events ss ++ string_events s
strings_are [] s = append-nil (string_events s)
strings_are (x ∷ ss) s = ap (λ es. string_events x ++ es) (barred ss s) ∙ sym (append_assoc (string_events x) (token string_bar ∷ ended_events ss) (string_events s))

last_ends : (b : StringsBuilder) (end : ℕ) → strings_events (with_string b end).strings ≡ read_events b ++ (leave end ∷ [])
last_ends b end = strings_are b.strings (last_string b end) ∙ sym (append_assoc (ended_events b.strings) (enter b.start ∷ letters_events b.letters) (leave end ∷ []))

some_string : (ss : List ClassString) (s : ClassString) → ss ++ (s ∷ []) ≡ [] → ⊥
some_string [] s h = cc h
some_string (x ∷ ss) s h = cc h

-- An escape that is refused says what stands there.
pub escape_says_more : {mode : _} {us : List CodePoint} {first added place : ℕ} {rest : List CodePoint} (d : Diagnostic) → IsEscapeCause mode us first added place rest d → yielding_of d ≢ no_item
escape_says_more _ (too_many_hex_digits count following u h p) k = cc k
escape_says_more _ (invalid_escape following u h no_value no_limit) k = cc k

module _ (e : Environment) (sets : is_sets e.mode ≡ true) (added : ℕ) (old : Cursor) where
  -- where an operand may stand class strings may begin
  opener_spelled : (q : Place) (w more : List CodePoint) → begins_item q ≡ true → values w ≡ 92 ∷ 113 ∷ 123 ∷ [] → SpellsInClass e q strings w more
  opener_spelled q w more b h =
      begins_cases (λ q. SpellsInClass e q strings w more) (sets, h) (λ o. operand_after o e strings w more sets h (λ is. ap (starts 38) h)) q b

  pub strings_begin : (new : Cursor) (b : StringsBuilder) (here : Span) → Begins (rest old) (92 ∷ 113 ∷ 123 ∷ []) → new ≡ move_on 3 old → here ≡ span_to added (offset_of new) new → b ≡ strings_from here.start → IsInStrings e added old new b
  strings_begin new b here o moves here_is is =
      let count : 3 ≡ length o.w = sym (sym (length-map o.w (λ (u : CodePoint). u.value)) ∙ ap length o.text_is) in
      let p = passes_moved old new o.w o.rest o.whole (omega arith) (moves ∙ ap (λ n. move_on n old) count) in
      let place : new.place ≡ old.place + length o.w = ap (λ (r : Cursor). r.place) p.0.moves in
      let start : here.start ≡ offset_in added old (old.place + length o.w) = ap (λ (s : Span). s.start) here_is ∙ ap (λ (r : Cursor). offset_of r + added) p.0.moves in
      record {
        opener = o.w;
        opener_is = o.text_is;
        w = [];
        passes = subst (Passes old new) (sym (append-nil o.w)) p.0;
        row = subst (λ b. ClassRow e (offset_in added old) (read_events b) in_strings (old.place + length o.w) (rest new) in_strings new.place (rest new)) (sym is) (start, (refl, sym place, refl));
        sound = subst AreSoundStrings (sym is) record { early = All-nil IsEarlyString; letters = All-nil (λ (c : Character). IsCodePoint c.value); may = refl };
      }

  pub strings_go_on : (mid new : Cursor) (b after : StringsBuilder) → IsInStrings e added old mid b → AddsPart e added mid new b after → IsInStrings e added old new after
  strings_go_on mid new b after h a =
      let p = (passes_moved mid new a.w (rest new) a.whole a.some a.moves).0 in
      let all = passes_on h.passes p in
      let place : new.place ≡ mid.place + length a.w = ap (λ (r : Cursor). r.place) p.moves in
      let more : ClassRow e (offset_in added old) a.events in_strings mid.place (rest mid) in_strings new.place (rest new) =
      subst (λ place. ClassRow e (offset_in added old) a.events in_strings mid.place (rest mid) in_strings place (rest new)) (sym place)
      (subst (λ us. ClassRow e (offset_in added old) a.events in_strings mid.place us in_strings (mid.place + length a.w) (rest new)) (sym a.whole)
      (subst (λ (r : Cursor). ClassRow e (offset_in added r) a.events in_strings mid.place (a.w ++ rest new) in_strings (mid.place + length a.w) (rest new)) h.passes.moves a.row)) in
      let text : h.w ++ rest mid ≡ (h.w ++ a.w) ++ rest new = ap (λ us. h.w ++ us) a.whole ∙ sym (append_assoc h.w a.w (rest new)) in
      record {
        opener = h.opener;
        opener_is = h.opener_is;
        w = h.w ++ a.w;
        passes = subst (Passes old new) (append_assoc h.opener h.w a.w) all;
        row =
            rw a.adds
            (subst (λ us. ClassRow e (offset_in added old) (read_events b ++ a.events) in_strings (old.place + length h.opener) us in_strings new.place (rest new)) text
            (rows_append e (offset_in added old) (read_events b) a.events in_strings (old.place + length h.opener) (h.w ++ rest mid) in_strings mid.place (rest mid) in_strings new.place (rest new) h.row more));
        sound = a.sound h.sound;
      }

  -- What spells the class strings, from the opener to the `}`.
  module _ (mid new : Cursor) (b ended : StringsBuilder) (here span : Span) (h : IsInStrings e added old mid b) (closes : starts 125 (values (rest mid)) ≡ true) (here_is : here ≡ span_to added (offset_of mid) mid) (ended_is : ended ≡ with_string b here.start)
      (moves : new ≡ move_on 1 mid) (start : ℕ) (start_is : start ≡ offset_of old) (span_is : span ≡ span_to added start new) where
    abbrev it : ClassStringDisjunction
    it = record { span = span; strings = ended.may; body = ended.strings }

    abbrev ends_by : ClassEvents
    ends_by = leave here.start ∷ token strings_end ∷ leave span.end ∷ []

    events_are : (strings_events ended.strings ++ (token strings_end ∷ [])) ++ (leave span.end ∷ []) ≡ read_events b ++ ends_by
    events_are =
        ap (λ es. (es ++ (token strings_end ∷ [])) ++ (leave span.end ∷ [])) (ap (λ (b : StringsBuilder). strings_events b.strings) ended_is ∙ last_ends b here.start)
        ∙ three_more (read_events b) (leave here.start) (token strings_end) (leave span.end)

    sound_strings : AreSoundStrings ended
    sound_strings = subst AreSoundStrings (sym ended_is) (string_ends b here.start h.sound)

    strings_sound : IsSound (tree.strings it)
    strings_sound = record {
      fitting = λ none. some_string b.strings (last_string b here.start) (sym (ap (λ (b : StringsBuilder). b.strings) ended_is) ∙ none);
      flagged = (sound_strings.may, All-weaker IsEarlyString IsFlaggedString (λ s early. early.0) ended.strings sound_strings.early);
      early = (sound_strings.may, sound_strings.early);
    }

    pub strings_give : GivesStrings e added old new (Ok it)
    strings_give =
        let t = unit_next 125 (rest mid) closes in
        let p = (passes_moved mid new (t.0 ∷ []) t.1 t.2 (omega arith) moves).0 in
        let all = passes_on h.passes p in
        let w = (h.opener ++ h.w) ++ (t.0 ∷ []) in
        let place : new.place ≡ mid.place + 1 = ap (λ (r : Cursor). r.place) p.moves in
        let place_all : new.place ≡ old.place + length w = ap (λ (r : Cursor). r.place) all.moves in
        let o = offset_in added old in
        let here_there : here.start ≡ o mid.place = ap (λ (s : Span). s.start) here_is ∙ ap (λ (r : Cursor). offset_of r + added) h.passes.moves ∙ ap o (sym (ap (λ (r : Cursor). r.place) h.passes.moves)) in
        let end_there : span.end ≡ o (mid.place + 1) = ap (λ (s : Span). s.end) span_is ∙ ap (λ (r : Cursor). offset_of r + added) all.moves ∙ ap o (sym place_all ∙ place) in
        let begins : span.start ≡ o old.place = ap (λ (s : Span). s.start) span_is ∙ ap (λ n. n + added) start_is in
        let last : ClassRow e o ends_by in_strings mid.place (rest mid) fresh new.place (rest new) =
        (here_there, (t.0 ∷ [], rest new, p.whole, (sets, ap (λ c. c ∷ []) t.3), (end_there, (refl, sym place, refl)))) in
        let row : ClassRow e o (read_events b ++ ends_by) in_strings (old.place + length h.opener) (h.w ++ rest mid) fresh new.place (rest new) =
        rows_append e o (read_events b) ends_by in_strings (old.place + length h.opener) (h.w ++ rest mid) in_strings mid.place (rest mid) fresh new.place (rest new) h.row last in
        let whole : w ++ rest new ≡ h.opener ++ (h.w ++ rest mid) = sym all.whole ∙ h.passes.whole ∙ append_assoc h.opener h.w (rest mid) in
        let on = subst (λ place. ClassRow e o (read_events b ++ ends_by) in_strings (old.place + length h.opener) (h.w ++ rest mid) fresh place (rest new)) place_all row in
        given.some w (rest new) all.whole
        (λ q b. (begins, (h.opener, h.w ++ rest mid, whole, opener_spelled q h.opener (h.w ++ rest mid) b h.opener_is, rw events_are on)))
        strings_sound (passes_over all)

  -- Where no part is read.
  module _ (r : Cursor) (b : StringsBuilder) (h : IsInStrings e added old r b) where
    string_place : (from : ℕ) (at_class : List CodePoint) → IsOperandPlace e from at_class old.place (rest old) → IsStringPlace e from at_class old.place r.place (rest r)
    string_place from at_class p =
        let i = p.item_place in
        let small = read_small b h.sound in
        let inside = class_tokens_of (read_events b) in
        let run = small_run inside (record i.inner { count = 0; any = false }) i.outer small in
        let row = class_row_tokens e (offset_in added old) (read_events b) in_strings (old.place + length h.opener) (h.w ++ rest r) in_strings r.place (rest r) h.row in
        let whole : rest old ≡ h.opener ++ (h.w ++ rest r) = h.passes.whole ∙ append_assoc h.opener h.w (rest r) in
        let place : r.place ≡ old.place + length (h.opener ++ h.w) = ap (λ (r : Cursor). r.place) h.passes.moves in
        record {
          at_strings = rest old;
          item_place = i;
          inside = inside;
          of_strings = All-weaker IsSmallOfStrings IsOfStrings small_is_of_strings inside small;
          row = (h.opener, h.w ++ rest r, whole, opener_spelled i.at h.opener (h.w ++ rest r) i.begins h.opener_is, row);
          inner = run.0;
          outer = i.outer;
          accepted = ap (λ o. after_step o (λ bs. class_run inside bs)) (opens i.inner.held (record i.inner { count = 0; any = false } ∷ i.outer) p.takes) ∙ run.1;
          place_is = omega (arith, i.place_is, place, ap length h.passes.whole, length-append (h.opener ++ h.w) (rest r));
        }

    -- of each class in which the class strings may stand, what is refused there is the first refusal
    abbrev IsFirstHere : Diagnostic → Type 0
    IsFirstHere d = (from : ℕ) (at_class : List CodePoint) → IsOperandPlace e from at_class old.place (rest old) → IsFirstInClass e.mode r.units r.first added from at_class d

    in_text : IsOfText e r → (from : ℕ) (at_class : List CodePoint) → IsOperandPlace e from at_class old.place (rest old) → IsStringPlace (class_environment e.mode r.units) from at_class old.place r.place (rest r)
    in_text text from at_class p = subst (λ e. IsStringPlace e from at_class old.place r.place (rest r)) text (string_place from at_class p)

    escape_first_here : (d : Diagnostic) → IsOfText e r → IsEscapeCause e.mode r.units r.first added r.place (rest r) d → IsFirstHere d
    escape_first_here d text c from at_class p =
        said_is_first e.mode r.units r.first added from at_class r.place d (escape_in_class r.place (rest r) (inr (inr (old.place, in_text text from at_class p))) c) (escape_says_more d c)

    ends_first_here : (start : ℕ) → start ≡ offset_of old → IsOfText e r → EndsStrings e (rest r) → ((d : Diagnostic) → IsEscapeCause e.mode r.units r.first added r.place (rest r) d → ⊥)
        → IsFirstHere (UnterminatedPattern (span_to added start r) what.ClassStringDisjunction)
    ends_first_here start start_is text none no_escape from at_class p =
        let first = unterminated_strings_first e.mode r.units r.first added from at_class sets old.place r.place (rest r) (in_text text from at_class p) (subst (λ e. EndsStrings e (rest r)) text none) no_escape in
        let begins : start ≡ offset_at r.first r.units old.place = start_is ∙ ap (λ (r : Cursor). offset_at r.first r.units old.place) (sym h.passes.moves) in
        subst (λ n. IsFirstInClass e.mode r.units r.first added from at_class (UnterminatedPattern (record { start = n + added; end = offset_of r + added }) what.ClassStringDisjunction)) (sym begins) first

    refused_here : (new : Cursor) (d : Diagnostic) → (IsOfText e r → IsFirstHere d) → KeepsUnits r new → GivesStrings e added old new (Err (fault.Diagnostic d))
    refused_here new d first keeps =
        let back : old ≡ record r { place = old.place } = sym (ap (λ (r : Cursor). record r { place = old.place }) h.passes.moves) in
        given.refused
        (λ text from at_class p.
        subst (λ (c : Cursor). IsFirstInClass e.mode c.units c.first added from at_class d) (sym back)
        (first (text ∙ ap (λ (c : Cursor). class_environment e.mode c.units) back) from at_class p))
        (keeps_on (passes_keeps h.passes) keeps)

    pub strings_refuse : (new : Cursor) (start : ℕ) (f : Fault) → start ≡ offset_of old → RefusesPart e added start r new f → GivesStrings e added old new (Err f)
    strings_refuse new start _ start_is (escape {diagnostic} c keeps) = refused_here new diagnostic (λ text. escape_first_here diagnostic text c) keeps
    strings_refuse new start _ start_is (ends none no_escape keeps) = refused_here new _ (λ text. ends_first_here start start_is text none no_escape) keeps
    strings_refuse new start _ start_is (no_memory keeps) = given.no_memory (keeps_on (passes_keeps h.passes) keeps)

    pub strings_no_memory : GivesStrings e added old r (Err fault.OutOfMemory)
    strings_no_memory = given.no_memory (passes_keeps h.passes)

    pub strings_within : r.place ≤ length r.units
    strings_within = let k = passes_keeps h.passes in omega (arith, k.within, ap (λ (r : Cursor). length r.units) k.same)

  -- A part more leaves less to read.
  pub strings_shorter : (mid new : Cursor) (b after : StringsBuilder) → IsInStrings e added old mid b → AddsPart e added mid new b after → length new.units - new.place < length mid.units - mid.place
  strings_shorter mid new b after h a =
      let p = (passes_moved mid new a.w (rest new) a.whole a.some a.moves).0 in
      omega (arith, a.some, p.within, ap (λ (r : Cursor). r.place) p.moves, ap (λ (r : Cursor). length r.units) p.moves)
