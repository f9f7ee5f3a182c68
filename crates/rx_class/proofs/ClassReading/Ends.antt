-- A class whose items are read one after another: where its reader stands, and what it answers.
use Rattle.std.proofs.Common.{◌≡◌, refl, sym, ap, ap₂, ◌∙◌, subst, ℕ, ◌+◌, ◌-◌, ◌<◌, ◌==◌, Bool, true, false, MatchResult, Result, Ok, Err, Some, is_some, List, [], ◌∷◌, ◌++◌, length, if◌then◌else◌, arith, append-nil, append_assoc, length-append}
use Rattle.rx_class.proofs.Common.{and-false, and-true, Diagnostic, UnterminatedPattern, Fault, Span, CharacterClass, CharacterClassContents, Members, no_member, mirror_class, CodePoint}
use Rattle.rx_class.proofs.Common.{Cursor, front, move_on, offset_of, rest, values, Mode, IsInBracket, IsItemPlace, of_class, bracket_of, empty, bracket, closer, leave, token}
use Rattle.rx_class.proofs.Common.{members_events, more_members_events, Environment, is_sets, starts, span_between, class_environment, token_some, union_tokens, class_row_tokens}
use Rattle.rx_class.proofs.Common.{ClassItem, span_to, BeginsNoClass, GivesClass, GivesOneClass, GivesItem, IsItem, IsOfText, contents, item_members, KeepsUnits, offset_in}
use Rattle.rx_base.specs.declared.diagnostic.kinds.Unterminated.TheVariants as what
use Rattle.rx_base.specs.declared.fault.Fault.TheVariants as fault
use Rattle.rx_ast.specs.declared.class.CharacterClassContentsKind.TheVariants.{Union}
use Rattle.rx_ast.specs.ClassTree.{class}
use Rattle.rx_units.specs.Cursor.{begins}
use Rattle.rx_model.specs.Refusals.ClassCauses.{IsClassCause, NothingFollows, unterminated_class}
use Rattle.rx_model.specs.Classes.ClassRows.{ClassRow, ClassTokenRow, Place, SpellsInClass, fresh, outside}
use Rattle.rx_model.specs.Classes.ClassRuns.{Held}
use Rattle.rx_model.proofs.Classes.ClassBeyond.{no_class}
use Rattle.rx_model.proofs.Classes.ClassFaults.{stuck}
use Rattle.rx_model.proofs.Classes.ClassStates.{opened_union}
use Rattle.rx_model.proofs.Classes.ClassTokens.{members_are, more_tokens_are}
use Rattle.rx_model.proofs.Classes.OneInClass.{class_cause_is_first}
use Rattle.rx_class.specs.ClassReading.Answers as class_answer
use Rattle.rx_class.specs.ClassReading.Items.{RefusesItem, item_contents}
use Rattle.rx_class.specs.ClassReading.Items as item_answer
use Rattle.rx_class.proofs.ClassReading.Items.{AreItems, items_push, rows_append}
use Rattle.rx_class.proofs.Keeping.{Passes, keeps_on, moved_keeps, passes_keeps, passes_moved, passes_on, passes_over}
use Rattle.rx_class.proofs.SetReading.Refusals.{unit_next}

-- From the bracket at a reader's old place, items lead to its new one.
pub record IsInClass (e : Environment) (added : ℕ) (old new : Cursor) (negative : Bool) (ms : Members) : Type 0 where
  pub w : List CodePoint
  pub v : List CodePoint
  pub passes : Passes old new (w ++ v)
  pub opens : SpellsInClass e outside (bracket negative) w (v ++ rest new)
  pub items : AreItems e (offset_in added old) negative ms (old.place + length w) (v ++ rest new) new.place (rest new)

-- to begin with one character
begins_is : (c : ℕ) (us : List CodePoint) → begins (c ∷ []) us ≡ starts c (values us)
begins_is c [] = refl
begins_is c (u ∷ us) = and-true (u.value == c)

-- the reader moves over a unit
passes_one : (c : ℕ) (old new : Cursor) → starts c (values (rest old)) ≡ true → new ≡ move_on 1 old → (u : CodePoint) × (u.value ≡ c) × Passes old new (u ∷ [])
passes_one c old new there is =
    let u = unit_next c (rest old) there in
    let p = passes_moved old new (u.0 ∷ []) u.1 u.2 (omega arith) is in
    (u.0, u.3, p.0)

module _ (e : Environment) (added : ℕ) (old : Cursor) where
  opened : (new : Cursor) (negative : Bool) (w : List CodePoint) → Passes old new w → SpellsInClass e outside (bracket negative) w (rest new) → IsInClass e added old new negative no_member
  opened new negative w p opens = record {
    w = w;
    v = [];
    passes = subst (Passes old new) (sym (append-nil w)) p;
    opens = opens;
    items = record { row = (refl, ap (λ (r : Cursor). r.place) (sym p.moves), refl); sound = record { fitting = tt; flagged = tt; early = tt }; no_strings = refl; holds = record { held = empty; union = tt; run = refl } };
  }

  -- After its bracket the reader is in a class.
  pub begins_class : (mid new : Cursor) (negative : Bool) → starts 91 (values (rest old)) ≡ true → mid ≡ move_on 1 old → negative ≡ begins (94 ∷ []) (rest mid) →
      new ≡ (if negative then move_on 1 mid else mid) → IsInClass e added old new negative no_member
  begins_class mid new true h m n is =
      let a = passes_one 91 old mid h m in
      let b = passes_one 94 mid new (sym (begins_is 94 (rest mid)) ∙ sym n) is in
      opened new true (a.0 ∷ b.0 ∷ []) (passes_on a.2 b.2) (ap₂ (λ x y. x ∷ y ∷ []) a.1 b.1)
  begins_class mid new false h m n is =
      let a = passes_one 91 old mid h m in
      rw is (opened mid false (a.0 ∷ []) a.2 (ap (λ x. x ∷ []) a.1, sym (begins_is 94 (rest mid)) ∙ sym n))

-- the end of the text
pub nothing_stands : (us : List CodePoint) → is_some (front us) ≡ false → us ≡ []
nothing_stands [] h = refl
nothing_stands (u ∷ us) h = absurd (let no : ⊥ = cc h in no)

-- Where a refusal of a class holds no class stands.
pub no_class_there : (mode : Mode) (us : List CodePoint) (first added from place : ℕ) (at_class : List CodePoint) (d : Diagnostic) → IsClassCause mode us first added from at_class place d
    → BeginsNoClass (class_environment mode us) at_class
no_class_there mode us first added from place at_class d cause = no_class mode us first added from at_class place d (stuck mode us first added from at_class place d cause)

-- At the end of the text nothing follows.
pub nothing_follows : (e : Environment) (at : Place) (held : Held) → NothingFollows e at held []
nothing_follows e at held t w more whole spells = absurd (omega (arith, token_some e at t w more spells, ap length whole, length-append w more))

module _ {e : Environment} {added : ℕ} {old mid : Cursor} {negative : Bool} {ms : Members} (h : IsInClass e added old mid negative ms) where
  -- an item may begin here
  here : IsItemPlace e old.place (rest old) mid.place (rest mid)
  here = record {
    tokens = bracket negative ∷ union_tokens ms;
    at = fresh;
    begins = refl;
    inner = bracket_of negative h.items.holds.held false;
    outer = [];
    row = (
      h.w,
      h.v ++ rest mid,
      h.passes.whole ∙ append_assoc h.w h.v (rest mid),
      h.opens,
      subst (λ ts. ClassTokenRow e ts fresh (h.v ++ rest mid) fresh (rest mid)) (more_tokens_are ms)
          (class_row_tokens e (offset_in added old) (more_members_events [] ms) fresh (old.place + length h.w) (h.v ++ rest mid) fresh mid.place (rest mid) h.items.row),
    );
    accepted = h.items.holds.run;
    place_is = omega (arith, ap (λ (r : Cursor). r.place) h.passes.moves, ap length h.passes.whole, length-append (h.w ++ h.v) (rest mid));
  }

  in_bracket : IsInBracket e old.place (rest old) false old.place mid.place (rest mid)
  unfolding here
  in_bracket = record { at_bracket = rest old; begins = of_class; item_place = here; innermost = refl }

  -- The text ends in the class, or an item is refused.
  module _ (no_sets : is_sets e.mode ≡ false) (same : IsOfText e old) where
    first_gives : (new : Cursor) (place : ℕ) (d : Diagnostic) → IsClassCause e.mode old.units old.first added old.place (rest old) place d → KeepsUnits old new →
        GivesClass e added old new (Err (fault.Diagnostic d))
    first_gives new place d cause keeps =
        class_answer.refused (class_cause_is_first e.mode old.units old.first added old.place (rest old) no_sets place d cause)
        (subst (λ t. BeginsNoClass t (rest old)) (sym same) (no_class_there e.mode old.units old.first added old.place place (rest old) d cause)) keeps

    pub unterminated_gives : (start : ℕ) (span : Span) → rest mid ≡ [] → start ≡ offset_of old → span ≡ span_to added start mid →
        GivesClass e added old mid (Err (fault.Diagnostic (UnterminatedPattern span what.CharacterClass)))
    unterminated_gives start span none s is =
        rw covers (first_gives mid mid.place _ ends (passes_keeps h.passes))
      where
        in_class : IsInBracket (class_environment e.mode old.units) old.place (rest old) false old.place mid.place []
        in_class =
            subst (λ t. IsInBracket t old.place (rest old) false old.place mid.place []) same (subst (IsInBracket e old.place (rest old) false old.place mid.place) none in_bracket)

        ends : IsClassCause e.mode old.units old.first added old.place (rest old) mid.place (UnterminatedPattern (span_between old.units old.first added old.place mid.place) what.CharacterClass)
        ends =
            let i = in_class.item_place in
            unterminated_class false old.place mid.place [] in_class
            (opened_union (class_environment e.mode old.units) no_sets i.tokens in_class.at_bracket i.at [] i.inner i.outer i.row i.accepted)
            (nothing_follows (class_environment e.mode old.units) i.at i.inner.held) (λ sets empties. refl) (λ no. refl)

        covers : span ≡ span_between old.units old.first added old.place mid.place
        covers =
            let keeps = passes_keeps h.passes in
            is ∙ ap₂ (span_to added) s keeps.same

    pub refused_gives : (new : Cursor) (cause : Fault) → GivesItem e added mid new (Err cause) → GivesClass e added old new (Err cause)
    refused_gives new _ (item_answer.refused {diagnostic} cause keeps) =
        let c = subst (λ r. IsOfText e r → (from : ℕ) (at_class : List CodePoint) → IsItemPlace e from at_class mid.place (rest mid) →
        (place : ℕ) × IsClassCause e.mode r.units r.first added from at_class place diagnostic) h.passes.moves cause same old.place (rest old) here in
        first_gives new c.0 diagnostic c.1 (keeps_on (passes_keeps h.passes) keeps)
    refused_gives new _ (item_answer.no_memory keeps) = class_answer.no_memory (keeps_on (passes_keeps h.passes) keeps)

    -- Whatever refuses the next item.
    pub item_refused : (new : Cursor) (start : ℕ) (cause : Fault) → start ≡ offset_of old → RefusesItem e added start mid new cause → GivesClass e added old new (Err cause)
    item_refused new start cause s (item_answer.refused_item gives) = refused_gives new cause gives
    item_refused new start _ s (item_answer.no_end {span = span} none stays is) =
        subst (λ new. GivesClass e added old new (Err (fault.Diagnostic (UnterminatedPattern span what.CharacterClass)))) (sym stays) (unterminated_gives start span none s is)

  -- An item is read, and pushed after the others: fewer units are left.
  pub item_gives : (body : List CharacterClassContents) {new : Cursor} {it : ClassItem} → ms ≡ contents body → GivesItem e added mid new (Ok it) →
      IsInClass e added old new negative (contents (body ++ item_contents it)) × (length new.units - new.place < length mid.units - mid.place)
  item_gives body {new} {it} all (item_answer.some w more whole is moves) = (
    record {
      w = h.w;
      v = h.v ++ w;
      passes = subst (Passes old new) (append_assoc h.w h.v w) (passes_on h.passes p);
      opens = subst (SpellsInClass e outside (bracket negative) h.w) units h.opens;
      items = subst (λ j. AreItems e offset negative (contents (body ++ item_contents it)) (old.place + length h.w) ((h.v ++ w) ++ rest new) j (rest new)) (sym place)
          (items_push e offset negative body (item_contents it) (old.place + length h.w) ((h.v ++ w) ++ rest new) mid.place w (rest new) (rw (← all, ← units, ← p.whole) h.items)
          (subst (IsItem e offset mid.place (item_members it) w) (sym q.1) here_is));
    },
    omega (arith, place, some, p.within, ap (λ (r : Cursor). length r.units) p.moves),
  )
    where
      offset : ℕ → ℕ
      offset = offset_in added old

      here_is : IsItem e offset mid.place (item_members it) w more
      here_is = subst (λ r. IsItem e (offset_in added r) mid.place (item_members it) w more) h.passes.moves is

      some : 0 < length w
      some = here_is.some

      q : Passes mid new w × (rest new ≡ more)
      q = passes_moved mid new w more whole some moves

      p : Passes mid new w
      p = q.0

      place : new.place ≡ mid.place + length w
      place = ap (λ (r : Cursor). r.place) p.moves

      units : h.v ++ rest mid ≡ (h.v ++ w) ++ rest new
      units = ap (λ us. h.v ++ us) p.whole ∙ sym (append_assoc h.v w (rest new))

  -- The closer is read: a class stands there.
  pub class_gives : (new : Cursor) (start : ℕ) (it : CharacterClass) → starts 93 (values (rest mid)) ≡ true → new ≡ move_on 1 mid → start ≡ offset_of old → it.span ≡ span_to added start new →
      mirror_class it ≡ class it.span negative false Union ms → GivesClass e added old new (Ok (Some it))
  class_gives new start it closes moves s span mirror =
      class_answer.some (h.w ++ inside) (rest new) all.whole (rw mirror record {
        shape = ((tt, h.items.sound.fitting), (sym h.items.no_strings, h.items.sound.flagged));
        row = (
          ap (λ (s : Span). s.start) span ∙ ap (λ n. n + added) s,
          (h.w, inside ++ rest new, append_assoc h.w inside (rest new), subst (SpellsInClass e outside (bracket negative) h.w) units h.opens, closed),
        );
      })
      (rw mirror (sym h.items.no_strings, and-false negative, h.items.sound.early)) (passes_over all)
    where
      u : (u : CodePoint) × (u.value ≡ 93) × Passes mid new (u ∷ [])
      u = passes_one 93 mid new closes moves

      inside : List CodePoint
      inside = h.v ++ (u.0 ∷ [])

      all : Passes old new (h.w ++ inside)
      all = subst (Passes old new) (append_assoc h.w h.v (u.0 ∷ [])) (passes_on h.passes u.2)

      units : h.v ++ rest mid ≡ inside ++ rest new
      units = ap (λ us. h.v ++ us) u.2.whole ∙ sym (append_assoc h.v (u.0 ∷ []) (rest new))

      offset : ℕ → ℕ
      offset = offset_in added old

      end_is : it.span.end ≡ offset (mid.place + 1)
      end_is =
          let keeps = passes_keeps all in
          ap (λ (s : Span). s.end) span ∙ ap (λ n. n + added) (ap offset_of keeps.same) ∙ ap offset (ap (λ (r : Cursor). r.place) u.2.moves)

      items_row : ClassRow e offset (members_events [] ms) fresh (old.place + length h.w) (inside ++ rest new) fresh mid.place (u.0 ∷ rest new)
      items_row = rw (members_are ms, ← units, ← u.2.whole) h.items.row

      closed : ClassRow e offset ((members_events [] ms ++ (token closer ∷ [])) ++ (leave it.span.end ∷ [])) fresh (old.place + length h.w) (inside ++ rest new) fresh (old.place + length (h.w ++ inside)) (rest new)
      closed =
          rows_append e offset (members_events [] ms ++ (token closer ∷ [])) (leave it.span.end ∷ []) fresh (old.place + length h.w) (inside ++ rest new) fresh (mid.place + 1) (rest new) fresh
          (old.place + length (h.w ++ inside)) (rest new)
          (rows_append e offset (members_events [] ms) (token closer ∷ []) fresh (old.place + length h.w) (inside ++ rest new) fresh mid.place (u.0 ∷ rest new) fresh (mid.place + 1) (rest new) items_row
          (u.0 ∷ [], rest new, refl, ap (λ c. c ∷ []) u.1, (refl, refl, refl)))
          (end_is, (refl, ap (λ (r : Cursor). r.place) (sym u.2.moves ∙ all.moves), refl))

  -- Whatever is answered at the closer.
  pub closed_gives : (new : Cursor) (start : ℕ) (given : Result CharacterClass Fault) → starts 93 (values (rest mid)) ≡ true → new ≡ move_on 1 mid → start ≡ offset_of old
      → MatchResult given (λ it. (it.span ≡ span_to added start new) × (mirror_class it ≡ class it.span negative false Union ms)) (λ given. given ≡ fault.OutOfMemory) → GivesOneClass e added old new given
  closed_gives new start (Ok it) closes moves s is = class_gives new start it closes moves s is.0 is.1
  closed_gives new start (Err _) closes moves s none =
      subst (λ given. GivesClass e added old new (Err given)) (sym none) (class_answer.no_memory (keeps_on (passes_keeps h.passes) (moved_keeps 1 mid new moves)))
