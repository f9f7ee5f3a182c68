-- An item of a class is an atom, or a range of two atoms with a `-` between them.
use Rattle.std.proofs.Common.{◌≡◌, refl, sym, ap, ◌∙◌, subst, ℕ, ◌+◌, ◌<◌, ◌≤◌, ◌==◌, Bool, true, false, not, ◌&&◌, IfErr, MatchResult, OnOk, Result, Ok, Err, List, [], ◌∷◌, ◌++◌, length, drop, arith, inl, inr, append_assoc, length-append}
use Rattle.rx_class.proofs.Common.{cases_Bool, eqb-true, true≢false, not-true, Diagnostic, Fault, Span, Character, CharacterClassContents, CharacterClassRange, mirror_contents, CodePoint}
use Rattle.rx_class.proofs.Common.{Cursor, move_on, offset_of, rest, offset_at, values, starts, IsItemPlace, IsSecondPlace, atom_obeys, Atom, character, item, leave, member_events}
use Rattle.rx_class.proofs.Common.{token, within, IsEarlyMember, member_strings, Environment, is_sets, is_unicode, span_between, class_environment, both, atom_some, unicode_alone}
use Rattle.rx_class.proofs.Common.{strings_by_name, ClassAtom, ClassItem, span_to, GivesAtom, GivesItem, IsItem, IsOfText, IsPlain, StandsItem, atom_member, atom_of, atom_span, between}
use Rattle.rx_class.proofs.Common.{KeepsUnits, item_members}
use Rattle.std.proofs.lemmas.Bool.{leb-true}
use Rattle.rx_base.specs.declared.fault.Fault.TheVariants as fault
use Rattle.rx_ast.specs.declared.leaf.CharacterKind.TheVariants as kinds
use Rattle.rx_ast.specs.ClassTree as tree
use Rattle.rx_model.specs.Refusals.ClassCauses.{StandsRange, is_character}
use Rattle.rx_model.specs.Refusals.ClassCauses as cause
use Rattle.rx_model.specs.Classes.ClassRows.{BeforeThird, ClassRow, SpellsAtom, fresh, is_dashed}
use Rattle.rx_model.proofs.Classes.ClassFronts.{after_first, after_one}
use Rattle.rx_model.proofs.Classes.PieceClasses.{legacy_threes}
use Rattle.rx_class.specs.declared.classes.atom.ClassAtom.TheVariants as atom
use Rattle.rx_class.specs.declared.classes.item.ClassItem.TheVariants as given_item
use Rattle.rx_class.specs.ClassReading.Items.{AddsItem, AddsRange, IsAtomCause, IsBetween, IsItemCause, IsRangeItem, are_three, hyphen_member}
use Rattle.rx_class.specs.ClassReading.Items as items
use Rattle.rx_class.proofs.Keeping.{Passes, keeps_from, moved_keeps, passes_keeps, passes_moved, passes_on, passes_over}
use Rattle.rx_class.proofs.ClassReading.Places.{operand_place}
use Rattle.rx_class.proofs.Modes.{no_strings}
use Rattle.rx_class.proofs.PropertyReading.Spans.{next_span}

-- Two atoms that are no range are three items but with `u`.
unless_three : {unicode characters : Bool} → characters ≡ false → (not unicode && not characters) ≡ false → unicode ≡ true
unless_three {unicode} {characters} apart no_three = grind (arith, apart, no_three)

-- a `-` at the front, after which an item may stand
record DashFront (us : List CodePoint) : Type 0 where
  hyphen : CodePoint
  following : List CodePoint
  whole : us ≡ hyphen ∷ following
  hyphen_is : hyphen.value ≡ 45
  stands : StandsItem following

dash_front : (us : List CodePoint) → is_dashed (values us) ≡ true → DashFront us
dash_front (u ∷ v ∷ us) h =
    let b = both (u.value == 45) (not (v.value == 93)) h in
    record {
      hyphen = u;
      following = v ∷ us;
      whole = refl;
      hyphen_is = eqb-true u.value 45 b.0;
      stands = record { some = λ e. let no : ⊥ = cc e in no; no_closer = not-true (v.value == 93) b.1 };
    }
dash_front us h = absurd (let no : ⊥ = cc h in no)

pub after_dash : (us : List CodePoint) → is_dashed (values us) ≡ true → (1 ≤ length us) × StandsItem (drop 1 us)
after_dash us h = let d = dash_front us h in rw d.whole (omega arith, d.stands)

-- An atom as a member of a class.
pub atom_events : (a : ClassAtom) → member_events (atom_member a) ≡ within (atom_span a) (token (item (atom_of a)) ∷ [])
atom_events (atom.Character c) = refl
atom_events a = refl

atom_early : (e : Environment) (a : ClassAtom) (w more : List CodePoint) → SpellsAtom e (atom_of a) w more → atom_obeys (atom_of a) ≡ true → IsEarlyMember (atom_member a)
atom_early e (atom.Character c) w more s o = leb-true c.value 0x10FFFF o
atom_early e (atom.Escape c) w more s o = tt
atom_early e (atom.Property p) w more s o = (strings_by_name e.mode p.strings p.name p.value s.text s.spelled, not-true (p.negative && p.strings) o)

atom_plain : (a : ClassAtom) → IsPlain (atom_member a)
atom_plain (atom.Character c) = tt
atom_plain a = tt

atom_no_strings : (e : Environment) (a : ClassAtom) (w more : List CodePoint) → is_sets e.mode ≡ false → SpellsAtom e (atom_of a) w more → member_strings (atom_member a) ≡ false
atom_no_strings e (atom.Property p) w more no_sets s = no_strings e.mode p.strings p.name p.value s.text no_sets s.spelled
atom_no_strings e a w more no_sets s = refl

module _ (e : Environment) (added : ℕ) (old : Cursor) where
  -- the reader at another place of its text
  abbrev at : ℕ → Cursor
  at place = record old { place = place }

  -- the offset of a place
  abbrev offset : ℕ → ℕ
  offset i = offset_at old.first old.units i + added

  -- An atom stands at a place, and the reader has moved over it.
  pub record AtomStands (place : ℕ) (new : Cursor) (it : ClassAtom) : Type 0 where
    pub w : List CodePoint
    pub passes : Passes (at place) new w
    pub spelled : SpellsAtom e (atom_of it) w (rest new)
    pub obeys : atom_obeys (atom_of it) ≡ true
    pub span : atom_span it ≡ between (offset place) (offset (place + length w))

  pub atom_stands : (place : ℕ) (new : Cursor) (it : ClassAtom) → GivesAtom e added (at place) new (Ok it) → AtomStands place new it
  atom_stands place new it (items.some w more whole spelled obeys span moves) =
      let p = passes_moved (at place) new w more whole (atom_some e (atom_of it) w more spelled) moves in
      record { w = w; passes = p.0; spelled = subst (SpellsAtom e (atom_of it) w) (sym p.1) spelled; obeys = obeys; span = span }

  -- After an atom memory ran out.
  pub out_of_memory : {new : Cursor} {it : ClassAtom} → GivesAtom e added old new (Ok it) → GivesItem e added old new (Err fault.OutOfMemory)
  out_of_memory {new} {it} g = let f = atom_stands old.place new it g in items.no_memory (passes_keeps f.passes)

  -- An atom with no range after it is an item.
  alone_row : (a : Atom) (s : Span) (w more : List CodePoint) → SpellsAtom e a w more → is_dashed (values more) ≡ false → s ≡ between (offset old.place) (offset (old.place + length w))
      → ClassRow e offset (within s (token (item a) ∷ [])) fresh old.place (w ++ more) fresh (old.place + length w) more
  alone_row a s w more spells alone is = (ap (λ (s : Span). s.start) is, (w, more, refl, (spells, inl alone), (ap (λ (s : Span). s.end) is, (after_one e a more alone, refl, refl))))

  alone_is : (it : ClassAtom) (w more : List CodePoint) → is_sets e.mode ≡ false → SpellsAtom e (atom_of it) w more → atom_obeys (atom_of it) ≡ true → is_dashed (values more) ≡ false
      → atom_span it ≡ between (offset old.place) (offset (old.place + length w)) → IsItem e offset old.place (atom_member it ∷ []) w more
  alone_is it w more no_sets s o d is = record {
    some = atom_some e (atom_of it) w more s;
    row = rw (atom_events it) (alone_row (atom_of it) (atom_span it) w more s d is);
    early = (atom_early e it w more s o, tt);
    plain = (atom_plain it, tt);
    no_strings = rw (atom_no_strings e it w more no_sets s) refl;
  }

  pub alone_gives : {new : Cursor} {it : ClassAtom} {given : ClassItem} {us : List CodePoint} {b : Bool} → is_sets e.mode ≡ false → GivesAtom e added old new (Ok it) → us ≡ rest new
      → b ≡ is_dashed (values us) → b ≡ false → item_members given ≡ atom_member it ∷ [] → GivesItem e added old new (Ok given)
  alone_gives {new} {it} {given} {us} {b} no_sets g same is_test is_false m =
      let f = atom_stands old.place new it g in
      let alone = ap (λ us. is_dashed (values us)) (sym same) ∙ sym is_test ∙ is_false in
      items.some f.w (rest new) f.passes.whole (rw m (alone_is it f.w (rest new) no_sets f.spelled f.obeys alone f.span)) (passes_over f.passes)

  -- Whatever is answered of the atom alone.
  pub one_gives : {new : Cursor} {it : ClassAtom} {us : List CodePoint} {b : Bool} (given : Result ClassItem Fault) → is_sets e.mode ≡ false → GivesAtom e added old new (Ok it) → us ≡ rest new → b ≡ is_dashed (values us) → b ≡ false
      → MatchResult given (λ given. item_members given ≡ atom_member it ∷ []) (λ given. given ≡ fault.OutOfMemory) → GivesItem e added old new given
  one_gives (Ok given) no_sets g same is_test is_false m = alone_gives no_sets g same is_test is_false m
  one_gives {new} (Err _) no_sets g same is_test is_false none = subst (λ given. GivesItem e added old new (Err given)) (sym none) (out_of_memory g)

  -- A reader that moved over an item keeps what it reads.
  pub item_keeps : {new : Cursor} {it : ClassItem} → GivesItem e added old new (Ok it) → KeepsUnits old new
  item_keeps (items.some w more whole is moves) = moved_keeps (length w) _ _ moves

  -- An atom and the `-` of a range stand at a reader's place, and the reader moved over both.
  pub record DashStands (new : Cursor) (it : ClassAtom) (hyphen_at : Span) : Type 0 where
    pub w : List CodePoint
    pub hyphen : CodePoint
    pub passes : Passes old new (w ++ (hyphen ∷ []))
    pub hyphen_is : hyphen.value ≡ 45
    pub dashed : is_dashed (values (hyphen ∷ rest new)) ≡ true
    pub stands : StandsItem (rest new)
    pub spelled : SpellsAtom e (atom_of it) w (hyphen ∷ rest new)
    pub obeys : atom_obeys (atom_of it) ≡ true
    pub span : atom_span it ≡ between (offset old.place) (offset (old.place + length w))
    pub hyphen_span : hyphen_at ≡ between (offset (old.place + length w)) (offset (old.place + length w + 1))

  pub dash_given : {to new : Cursor} {it : ClassAtom} {us : List CodePoint} {b : Bool} {start : ℕ} {hyphen : Span} → GivesAtom e added old to (Ok it) → us ≡ rest to → b ≡ is_dashed (values us) → b ≡ true
      → start ≡ offset_of to → new ≡ move_on 1 to → hyphen ≡ span_to added start new → DashStands new it hyphen
  dash_given {to} {new} {it} {us} {b} {start} {hyphen = hyphen_at} g same is_test is_true starts moves covers =
      let f = atom_stands old.place to it g in
      let d = dash_front us (sym is_test ∙ is_true) in
      let p = passes_moved to new (d.hyphen ∷ []) d.following (sym same ∙ d.whole) (omega arith) moves in
      let hyphen = p.0 in
      record {
        w = f.w;
        hyphen = d.hyphen;
        passes = passes_on f.passes hyphen;
        hyphen_is = d.hyphen_is;
        dashed = ap (λ us. is_dashed (values us)) (sym hyphen.whole ∙ sym same) ∙ sym is_test ∙ is_true;
        stands = subst StandsItem (sym p.1) d.stands;
        spelled = subst (SpellsAtom e (atom_of it) f.w) hyphen.whole f.spelled;
        obeys = f.obeys;
        span = f.span;
        hyphen_span = next_span to new 1 added start hyphen_at starts moves covers ∙ ap (λ (r : Cursor). span_between r.units r.first added r.place (r.place + 1)) f.passes.moves;
      }

  -- the place after the `-`
  pub dash_at : {new : Cursor} {it : ClassAtom} {h : Span} (d : DashStands new it h) → new ≡ at (old.place + length d.w + 1)
  dash_at d = d.passes.moves ∙ ap at (omega (arith, length-append d.w (d.hyphen ∷ [])))

  pub dash_whole : {new : Cursor} {it : ClassAtom} {h : Span} (d : DashStands new it h) → rest old ≡ d.w ++ (d.hyphen ∷ rest new)
  dash_whole {new} {it} {h} d = d.passes.whole ∙ append_assoc d.w (d.hyphen ∷ []) (rest new)

  -- A fault of an atom at some place is one of the item.
  fault_of : (place : ℕ) (new : Cursor) (given : Fault) → ((d : Diagnostic) → IsAtomCause e added (at place) d → IsItemCause e added old d)
      → GivesAtom e added (at place) new (Err given) → GivesItem e added old new (Err given)
  fault_of place new _ causes (items.refused {diagnostic = d} c keeps) = items.refused (causes d c) (keeps_from place old new keeps)
  fault_of place new _ causes (items.no_memory keeps) = items.no_memory (keeps_from place old new keeps)

  pub first_gives : {new : Cursor} {given : Fault} → is_sets e.mode ≡ false → GivesAtom e added old new (Err given) → GivesItem e added old new (Err given)
  first_gives {new} {given} no_sets g = fault_of old.place new given (λ d c same from at_class p. (old.place, c same from at_class (inl (operand_place no_sets p)))) g

  pub second_gives : {to new : Cursor} {low : ClassAtom} {h : Span} {given : Fault} → is_sets e.mode ≡ false → DashStands to low h → GivesAtom e added to new (Err given) → GivesItem e added old new (Err given)
  second_gives {to} {new} {low} {h} {given} no_sets d g =
      fault_of second new given (λ cause c same from at_class p. (
        second,
        c same from at_class (inr (inl (subst (IsSecondPlace e from at_class second) (ap rest (dash_at d)) record {
          first = old.place;
          atom = atom_of low;
          w = d.w;
          hyphen = d.hyphen;
          item_place = subst (IsItemPlace e from at_class old.place) (dash_whole d) p;
          hyphen_is = d.hyphen_is;
          dashed = d.dashed;
          spelled = d.spelled;
          of_union = λ sets. absurd (true≢false (sym sets ∙ no_sets));
          place_is = refl;
        }))),
      ))
      (subst (λ r. GivesAtom e added r new (Err given)) (dash_at d) g)
    where
      second : ℕ
      second = old.place + length d.w + 1

  -- Two atoms with a `-` between them stand at a reader's place, and the reader moved over them.
  pub record PairStands (new : Cursor) (low high : ClassAtom) (hyphen_at : Span) : Type 0 where
    pub to : Cursor
    pub dash : DashStands to low hyphen_at
    pub second : AtomStands (old.place + length dash.w + 1) new high
    pub passes : Passes old new (dash.w ++ (dash.hyphen ∷ second.w))
    pub low_is : SpellsAtom e (atom_of low) dash.w (dash.hyphen ∷ (second.w ++ rest new))
    pub dashed : is_dashed (values (dash.hyphen ∷ (second.w ++ rest new))) ≡ true

  pub pair_given : {to new : Cursor} {low high : ClassAtom} {h : Span} → DashStands to low h → GivesAtom e added to new (Ok high) → PairStands new low high h
  pair_given {to} {new} {low} {high} {h} d g =
      let f = atom_stands (old.place + length d.w + 1) new high (subst (λ r. GivesAtom e added r new (Ok high)) (dash_at d) g) in
      let q = subst (λ r. Passes r new f.w) (sym (dash_at d)) f.passes in
      record {
        to = to;
        dash = d;
        second = f;
        passes = subst (Passes old new) (append_assoc d.w (d.hyphen ∷ []) f.w) (passes_on d.passes q);
        low_is = subst (λ us. SpellsAtom e (atom_of low) d.w (d.hyphen ∷ us)) q.whole d.spelled;
        dashed = ap (λ us. is_dashed (values (d.hyphen ∷ us))) (sym q.whole) ∙ d.dashed;
      }

  module _ (new : Cursor) where
    pub pair_out_of_memory : {low high : ClassAtom} {h : Span} → PairStands new low high h → GivesItem e added old new (Err fault.OutOfMemory)
    pair_out_of_memory {low} {high} {h} p = items.no_memory (passes_keeps p.passes)

    -- Why two atoms are no range is why there is no item.
    module _ (no_sets : is_sets e.mode ≡ false) where
      abbrev text : Environment
      text = class_environment e.mode old.units

      here : IsOfText e old → {low high : ClassAtom} {h : Span} (p : PairStands new low high h) (from : ℕ) (at_class : List CodePoint) → IsItemPlace e from at_class old.place (rest old)
          → IsItemPlace text from at_class old.place (p.dash.w ++ (p.dash.hyphen ∷ (p.second.w ++ (rest new))))
      here same {low} {high} {h} p from at_class place =
          subst (λ t. IsItemPlace t from at_class old.place (p.dash.w ++ (p.dash.hyphen ∷ (p.second.w ++ (rest new))))) same
          (subst (IsItemPlace e from at_class old.place) (p.passes.whole ∙ append_assoc p.dash.w (p.dash.hyphen ∷ p.second.w) (rest new)) place)

      range_stands : IsOfText e old → (min max : Character) {h : Span} (p : PairStands new (atom.Character min) (atom.Character max) h) → StandsRange text min.value p.dash.w p.dash.hyphen max.value p.second.w (rest new)
      range_stands same min max {h} p =
          subst (λ t. StandsRange t min.value p.dash.w p.dash.hyphen max.value p.second.w (rest new)) same record { low_kind = min.kind; low_is = p.low_is; hyphen_is = p.dash.hyphen_is; high_kind = max.kind; high_is = p.second.spelled }

      pub range_refused : (low high : ClassAtom) (diagnostic : Diagnostic) {h : Span} → (not (is_unicode e.mode) && not (is_character (atom_of low) && is_character (atom_of high))) ≡ false → PairStands new low high h → IsBetween low high (Err diagnostic)
          → GivesItem e added old new (Err (fault.Diagnostic diagnostic))
      range_refused _ _ _ {h} no_three p (items.out_of_order {min = min} {max = max} less no_dash) =
          items.refused (rw (p.dash.span, p.second.span) (λ same from at_class place. (
            old.place,
            cause.range_out_of_order old.place min.value max.value p.dash.w p.second.w (rest new) p.dash.hyphen no_sets (here same p from at_class place) (range_stands same min max p) less no_dash,
          )))
          (passes_keeps p.passes)
      range_refused _ _ _ {h} no_three p (items.dash_out_of_order {min = min} {max = max} less dash) =
          items.refused (rw (p.dash.span, p.second.span) (λ same from at_class place. (
            old.place,
            cause.dash_out_of_order old.place min.value p.dash.w p.second.w (rest new) p.dash.hyphen no_sets (here same p from at_class place)
                (subst (λ x. StandsRange text min.value p.dash.w p.dash.hyphen x p.second.w (rest new)) dash (range_stands same min max p)) (subst (λ x. x < min.value) dash less),
          )))
          (passes_keeps p.passes)
      range_refused low high _ {h} no_three p (items.no_character apart) =
          items.refused (rw (p.dash.span, p.second.span) (λ same from at_class place. (
            old.place,
            cause.invalid_range old.place (atom_of low) (atom_of high) p.dash.w p.second.w (rest new) p.dash.hyphen (here same p from at_class place) (unicode_alone e.mode no_sets (unless_three apart no_three))
                (subst (λ t. SpellsAtom t (atom_of low) p.dash.w (p.dash.hyphen ∷ (p.second.w ++ (rest new)))) same p.low_is) p.dash.hyphen_is (subst (λ t. SpellsAtom t (atom_of high) p.second.w (rest new)) same p.second.spelled) apart,
          )))
          (passes_keeps p.passes)

    -- A range of two characters in order is an item.
    pub range_is : (min max : Character) → min.value ≤ max.value → {h : Span} (p : PairStands new (atom.Character min) (atom.Character max) h)
        → IsItem e offset old.place (tree.range (record { span = between min.span.start max.span.end; min = min; max = max }) ∷ []) (p.dash.w ++ (p.dash.hyphen ∷ p.second.w)) (rest new)
    range_is min max ordered {h} p =
        let start = ap (λ (s : Span). s.start) p.dash.span in
        let end = ap (λ (s : Span). s.end) p.second.span in
        let place : old.place + length p.dash.w + 1 + length p.second.w ≡ old.place + length (p.dash.w ++ (p.dash.hyphen ∷ p.second.w)) = omega (arith, length-append p.dash.w (p.dash.hyphen ∷ p.second.w)) in
        let following = p.second.w ++ (rest new) in
        record {
          some = omega (arith, length-append p.dash.w (p.dash.hyphen ∷ p.second.w));
          row = (
            start,
            (
              start,
              (
                p.dash.w,
                p.dash.hyphen ∷ following,
                append_assoc p.dash.w (p.dash.hyphen ∷ p.second.w) (rest new),
                (p.low_is, p.dashed, record { hyphen = p.dash.hyphen; kind = max.kind; value = max.value; w = p.second.w; more = (rest new); whole = refl; hyphen_is = p.dash.hyphen_is; spelled = p.second.spelled }),
                (
                  ap (λ (s : Span). s.end) p.dash.span,
                  (
                    p.dash.hyphen ∷ [],
                    following,
                    refl,
                    ap (λ c. c ∷ []) p.dash.hyphen_is,
                    (ap (λ (s : Span). s.start) p.second.span, (p.second.w, (rest new), refl, p.second.spelled, (end, (end, (refl, place, refl))))),
                  ),
                ),
              ),
            ),
          );
          early = ((leb-true min.value 0x10FFFF p.dash.obeys, leb-true max.value 0x10FFFF p.second.obeys, ordered), tt);
          plain = (tt, tt);
          no_strings = refl;
        }

    pub range_gives : (low high : ClassAtom) (range : CharacterClassRange) (given : CharacterClassContents) {h : Span} → PairStands new low high h → IsBetween low high (Ok range)
        → mirror_contents given ≡ tree.range range → GivesItem e added old new (Ok (given_item.One given))
    range_gives _ _ _ given {h} p (items.range {min = min} {max = max} ordered) m =
        items.some (p.dash.w ++ (p.dash.hyphen ∷ p.second.w)) (rest new) p.passes.whole (rw m (range_is min max ordered p)) (passes_over p.passes)

    -- Whatever is answered of two atoms that are not three items.
    pub range_item_gives : (low high : ClassAtom) (given : Result ClassItem Fault) {h : Span} → is_sets e.mode ≡ false → are_three (is_unicode e.mode) (atom_of low) (atom_of high) ≡ false → PairStands new low high h
        → IsRangeItem low high given → GivesItem e added old new given
    range_item_gives low high _ no_sets no_three p (items.range {range = range} {given = given} between m) = range_gives low high range given p between m
    range_item_gives low high _ no_sets no_three p (items.refused {diagnostic = d} between) = range_refused no_sets low high d no_three p between
    range_item_gives low high _ no_sets no_three p items.no_memory = pair_out_of_memory p

    -- So is one whose atoms were found before the reader moved.
    pub common_range_gives : {to mid : Cursor} {min max : Character} {given : CharacterClassContents} → is_dashed (values (rest to)) ≡ true → GivesAtom e added old to (Ok (atom.Character min)) → mid ≡ move_on 1 to
        → GivesAtom e added mid new (Ok (atom.Character max)) → min.value ≤ max.value → mirror_contents given ≡ tree.range (record { span = between min.span.start max.span.end; min = min; max = max })
        → GivesItem e added old new (Ok (given_item.One given))
    common_range_gives {min = min} {max = max} {given = given} dashed low moves high ordered m =
        range_gives (atom.Character min) (atom.Character max) _ given (pair_given (dash_given low refl refl dashed refl moves refl) high) (items.range ordered) m

    -- With neither `u` nor `v` two atoms of which one is no character are three items, with the `-` between.
    three_row : (a b : Atom) (s h t : Span) (w v more : List CodePoint) (hyphen : CodePoint) → BeforeThird e a (hyphen ∷ (v ++ more)) → SpellsAtom e a w (hyphen ∷ (v ++ more)) → SpellsAtom e b v more → hyphen.value ≡ 45
        → s ≡ between (offset old.place) (offset (old.place + length w)) → h ≡ between (offset (old.place + length w)) (offset (old.place + length w + 1))
        → t ≡ between (offset (old.place + length w + 1)) (offset (old.place + length w + 1 + length v))
        → ClassRow e offset (within s (token (item a) ∷ []) ++ (within h (token (item (character kinds.Symbol 45)) ∷ []) ++ (within t (token (item b) ∷ []) ++ []))) fresh old.place (w ++ (hyphen ∷ (v ++ more)))
        fresh (old.place + length w + 1 + length v) more
    three_row a b s h t w v more hyphen before low high value s_is h_is t_is = rw (s_is, h_is, t_is) (
      refl,
      (
        w,
        hyphen ∷ (v ++ more),
        refl,
        (low, inr (inl before)),
        subst (λ q. ClassRow e offset (leave (offset (old.place + length w)) ∷ (within (between (offset (old.place + length w)) (offset (old.place + length w + 1))) (token (item (character kinds.Symbol 45)) ∷ [])
            ++ within (between (offset (old.place + length w + 1)) (offset (old.place + length w + 1 + length v))) (token (item b) ∷ []))) q (old.place + length w) (hyphen ∷ (v ++ more)) fresh
            (old.place + length w + 1 + length v) more) (sym (after_first e a (hyphen ∷ (v ++ more)) before))
            (refl, (refl, (hyphen ∷ [], v ++ more, refl, (refl, ap (λ c. c ∷ []) value), (refl, (refl, (v, more, refl, high, (refl, (refl, refl, refl)))))))),
      ),
    )

    pub three_gives : {low high : ClassAtom} {h : Span} (given : ClassItem) → is_sets e.mode ≡ false → (not (is_unicode e.mode) && not (is_character (atom_of low) && is_character (atom_of high))) ≡ true → PairStands new low high h
        → item_members given ≡ atom_member low ∷ hyphen_member h ∷ atom_member high ∷ [] → GivesItem e added old new (Ok given)
    three_gives {low} {high} {h} given no_sets three p m =
        items.some (p.dash.w ++ (p.dash.hyphen ∷ p.second.w)) (rest new) p.passes.whole (rw m record {
          some = omega (arith, length-append p.dash.w (p.dash.hyphen ∷ p.second.w));
          row = rw (atom_events low, atom_events high, ← place, append_assoc p.dash.w (p.dash.hyphen ∷ p.second.w) (rest new))
              (three_row (atom_of low) (atom_of high) (atom_span low) h (atom_span high) p.dash.w p.second.w (rest new) p.dash.hyphen before p.low_is p.second.spelled p.dash.hyphen_is p.dash.span p.dash.hyphen_span p.second.span);
          early = (atom_early e low p.dash.w _ p.low_is p.dash.obeys, (by_computing, (atom_early e high p.second.w _ p.second.spelled p.second.obeys, tt)));
          plain = (atom_plain low, (tt, (atom_plain high, tt)));
          no_strings = rw (atom_no_strings e low p.dash.w _ no_sets p.low_is, atom_no_strings e high p.second.w _ no_sets p.second.spelled) refl;
        }) (passes_over p.passes)
      where
        by_computing : 45 ≤ 0x10FFFF
        by_computing = omega arith

        place : old.place + length p.dash.w + 1 + length p.second.w ≡ old.place + length (p.dash.w ++ (p.dash.hyphen ∷ p.second.w))
        place = omega (arith, length-append p.dash.w (p.dash.hyphen ∷ p.second.w))

        tests : (not (is_unicode e.mode) ≡ true) × (not (is_character (atom_of low) && is_character (atom_of high)) ≡ true)
        tests = both (not (is_unicode e.mode)) (not (is_character (atom_of low) && is_character (atom_of high))) three

        before : BeforeThird e (atom_of low) (p.dash.hyphen ∷ (p.second.w ++ rest new))
        before = record {
          hyphen = p.dash.hyphen;
          third = atom_of high;
          w = p.second.w;
          more = rest new;
          whole = refl;
          hyphen_is = p.dash.hyphen_is;
          dashed = p.dashed;
          spelled = p.second.spelled;
          apart = not-true _ tests.1;
          threes = legacy_threes e.mode (not-true _ tests.0);
        }

    three_or_none : {low high : ClassAtom} {h : Span} (given : Result ClassItem Fault) → is_sets e.mode ≡ false → are_three (is_unicode e.mode) (atom_of low) (atom_of high) ≡ true → PairStands new low high h
        → MatchResult given (λ given. item_members given ≡ atom_member low ∷ hyphen_member h ∷ atom_member high ∷ []) (λ given. given ≡ fault.OutOfMemory) → GivesItem e added old new given
    three_or_none (Ok given) no_sets three p m = three_gives given no_sets three p m
    three_or_none (Err _) no_sets three p none = subst (λ given. GivesItem e added old new (Err given)) (sym none) (pair_out_of_memory p)

    -- Whatever is answered of two atoms, by whether they are three items.
    pub two_give : {to : Cursor} {low high : ClassAtom} {h : Span} {unicode : Bool} (given : Result ClassItem Fault) → is_sets e.mode ≡ false → unicode ≡ is_unicode e.mode → DashStands to low h → GivesAtom e added to new (Ok high)
        → (are_three unicode (atom_of low) (atom_of high) ≡ true
        → MatchResult given (λ given. item_members given ≡ atom_member low ∷ hyphen_member h ∷ atom_member high ∷ []) (λ given. given ≡ fault.OutOfMemory))
        → (are_three unicode (atom_of low) (atom_of high) ≡ false → IsRangeItem low high given) → GivesItem e added old new given
    two_give {low = low} {high = high} {h = h} given no_sets same d g three range =
        let p = pair_given d g in
        let test = ap (λ unicode. are_three unicode (atom_of low) (atom_of high)) same in
        elim (cases_Bool (are_three (is_unicode e.mode) (atom_of low) (atom_of high))) [
          | inl is ↦ three_or_none given no_sets is p (three (test ∙ is))
          | inr is ↦ range_item_gives low high given no_sets is p (range (test ∙ is))
        ]

    -- A range that was found is added, or memory runs out.
    pub range_added : (before after : List CharacterClassContents) {range : CharacterClassRange} (given : Result (Unit {0}) Fault)
        → ((given : CharacterClassContents) → mirror_contents given ≡ tree.range range → GivesItem e added old new (Ok (given_item.One given)))
        → MatchResult given (λ none. AddsRange before after range) (λ given. given ≡ fault.OutOfMemory) → OnOk given (AddsItem e added old new before after)
    range_added before after (Ok tt) gives more = record { it = given_item.One more.given; gives = gives more.given more.is; adds = more.adds }
    range_added before after (Err _) gives none = tt

    pub range_not_added : (before after : List CharacterClassContents) (range : CharacterClassRange) (given : Result (Unit {0}) Fault) → KeepsUnits old new
        → MatchResult given (λ none. AddsRange before after range) (λ given. given ≡ fault.OutOfMemory) → IfErr given (λ given. GivesItem e added old new (Err given))
    range_not_added before after range (Ok tt) keeps more = tt
    range_not_added before after range (Err _) keeps none = subst (λ given. GivesItem e added old new (Err given)) (sym none) (items.no_memory keeps)
