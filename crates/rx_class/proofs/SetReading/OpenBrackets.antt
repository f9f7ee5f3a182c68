-- An open bracket with one thing more in it, and the class that it is.
use Rattle.std.proofs.Common.{◌≡◌, refl, ap, ap₂, sym, ◌∙◌, subst, ℕ, Bool, true, false, Some, List, [], ◌∷◌, ◌++◌, append-nil, append_assoc, ◌&&◌, map}
use Rattle.rx_class.proofs.Common.{map-append, or-false, SetOperator, Intersection, Subtraction, CharacterClass, CharacterClassContents, Member, Members, members, mirror_class, mirror_contents, kind_of}
use Rattle.rx_class.proofs.Common.{Bracket, Brackets, after_step, bracket_of, class_run_from_start, class_run, is_union, is_whole, with_strings, with_operator, ClassEvents, enter, leave, token}
use Rattle.rx_class.proofs.Common.{bracket, closer, class_events, class_tokens_of, member_events, members_events, operator, member_strings, tokens_append, OpenBracket, bracket_at}
use Rattle.rx_class.proofs.Common.{bracket_events, class_of, with_member, contents, mirror_held, AreHeld, AreSound, IsSound, IsWellHeld}
use Rattle.std.specs.declared.boxed.Box.{Box}
use Rattle.std.specs.declared.alloc.Global.{Global}
use Rattle.rx_ast.specs.declared.class.CharacterClassContents.TheVariants.{NestedCharacterClass}
use Rattle.rx_ast.specs.ClassTree as tree
use Rattle.rx_ast.specs.ClassTree.{member, nested}
use Rattle.rx_ast.proofs.ClassEquations.{nested_is}
use Rattle.rx_model.specs.Classes.ClassRuns as runs
use Rattle.rx_model.specs.Classes.ClassRuns.{class_step, add_operator}
use Rattle.rx_model.specs.Classes.ClassTokens as tokens
use Rattle.rx_model.proofs.Classes.ClassShapes as shapes
use Rattle.rx_model.proofs.Classes.ClassShapes.{member_out}
use Rattle.rx_model.proofs.Classes.ClassWholes.{class_opened-append}
use Rattle.rx_class.specs.declared.sets.held.Held.{Held}
use Rattle.rx_class.specs.declared.sets.held.Held.TheVariants.{Empty}
use Rattle.rx_class.proofs.SetReading.HeldSteps.{GrowsByMember, GrowsByOperator, grows_by_member, grows_by_operator, held_events, held_strings, whole_fits}
use Rattle.rx_class.proofs.SetReading.MembersPushed.{pushed, sound_pushed}

pub new_bracket : (b : OpenBracket) → b.held ≡ Empty → b.body ≡ [] → bracket_events b ≡ enter b.start ∷ token (bracket b.negative) ∷ []
unfolding bracket_events
new_bracket b held body = rw (held, body) refl

pub well_new : (b : OpenBracket) → b.held ≡ Empty → b.strings ≡ false → b.body ≡ [] → IsWellHeld b
well_new b held strings body = record {
  sound = subst (λ xs. AreSound (contents xs)) (sym body) (record { fitting = tt; flagged = tt; early = tt });
  held = rw (held, body) tt;
  strings = rw (held, body) strings;
  opens =
      ap (λ es. class_run_from_start (class_tokens_of es)) (new_bracket b held body)
      ∙ ap₂ (λ (held : Held) strings. Some (bracket_of b.negative (mirror_held held) strings ∷ [])) (sym held) (sym strings);
}

contents_pushed : (xs ys : List CharacterClassContents) (y : CharacterClassContents) → ys ≡ xs ++ (y ∷ []) → contents ys ≡ pushed (map mirror_contents xs) (mirror_contents y)
contents_pushed xs ys y e = ap contents e ∙ ap members (map-append mirror_contents xs (y ∷ []))

-- a member more
member_with : (m : Member) (held : runs.Held) → shapes.with_member m held ≡ with_member m held
member_with (tree.range r) held = refl
member_with m held = refl

member_runs : (b : Bracket) (m : Member) (after : runs.Held) → b ≡ bracket_of b.negative b.held b.may → IsSound m → with_member m b.held ≡ Some after →
    class_run (class_tokens_of (member_events m)) (b ∷ []) ≡ Some (bracket_of b.negative after (with_strings b.held b.may (member_strings m)) ∷ [])
member_runs b m after plain sound with =
    ap (λ b. class_run (class_tokens_of (member_events m)) (b ∷ [])) plain
    ∙ ap (λ ts. class_run ts (bracket_of b.negative b.held b.may ∷ [])) (sym (append-nil (class_tokens_of (member_events m))))
    ∙ member_out m sound.fitting sound.early b.negative b.held b.may [] after (member_with m b.held ∙ with) []

-- The tokens of a bracket go on with those of more events.
opens_on : (b : OpenBracket) (es more : ClassEvents) (cs : Brackets) → es ≡ bracket_events b ++ more → class_run_from_start (class_tokens_of (bracket_events b)) ≡ Some (bracket_at b ∷ []) →
    class_run (class_tokens_of more) (bracket_at b ∷ []) ≡ Some cs → class_run_from_start (class_tokens_of es) ≡ Some cs
opens_on b es more cs is opens run =
    ap (λ es. class_run_from_start (class_tokens_of es)) is ∙ ap class_run_from_start (tokens_append (bracket_events b) more)
    ∙ class_opened-append (class_tokens_of (bracket_events b)) (class_tokens_of more) (bracket_at b ∷ []) opens ∙ run

-- A union with a member more that matches no string may match strings as before.
pub union_strings : (b : OpenBracket) → is_union (mirror_held b.held) ≡ true → IsWellHeld b → b.strings ≡ with_strings (mirror_held b.held) b.strings false
union_strings b union well = by (mirror_held b.held) (contents b.body) union well.held well.strings
  where
    by : (held : runs.Held) (ms : Members) → is_union held ≡ true → AreHeld held ms → b.strings ≡ held_strings held ms → b.strings ≡ with_strings held b.strings false
    by runs.empty (member m ms) union are h = absurd are
    by runs.empty ms union are h = h
    by runs.single ms union are h = sym (or-false b.strings)
    by runs.several ms union are h = sym (or-false b.strings)
    by held ms union are h = absurd (let no : ⊥ = cc union in no)

abbrev after_bracket : OpenBracket → ClassEvents → ClassEvents
after_bracket b es = enter b.start ∷ token (bracket b.negative) ∷ es

-- with an operand or a range more
module _ (b : OpenBracket) (ys : List CharacterClassContents) (y : CharacterClassContents) (held : Held) (strings : Bool) (is : ys ≡ b.body ++ (y ∷ []))
    (with : with_member (mirror_contents y) (mirror_held b.held) ≡ Some (mirror_held held)) (well : IsWellHeld b) where
  push_grows : GrowsByMember (mirror_held b.held) (mirror_held held) (map mirror_contents b.body) (mirror_contents y)
  push_grows = grows_by_member (mirror_held b.held) (mirror_held held) (map mirror_contents b.body) (mirror_contents y) with well.held

  pub push_events : bracket_events (record b { held = held; strings = strings; body = ys }) ≡ bracket_events b ++ member_events (mirror_contents y)
  unfolding bracket_events
  push_events = ap (λ ms. after_bracket b (held_events (mirror_held held) ms)) (contents_pushed b.body ys y is) ∙ ap (after_bracket b) push_grows.events

  pub push_well : IsSound (mirror_contents y) → strings ≡ with_strings (mirror_held b.held) b.strings (member_strings (mirror_contents y)) →
      IsWellHeld (record b { held = held; strings = strings; body = ys })
  push_well sound flag =
      let m : Member = mirror_contents y in
      let same = sym (contents_pushed b.body ys y is) in record {
        sound = subst AreSound same (sound_pushed (map mirror_contents b.body) m well.sound sound);
        held = subst (AreHeld (mirror_held held)) same push_grows.held;
        strings = flag ∙ ap (λ s. with_strings (mirror_held b.held) s (member_strings m)) well.strings ∙ sym push_grows.strings ∙ ap (held_strings (mirror_held held)) same;
        opens =
            opens_on b (bracket_events (record b { held = held; strings = strings; body = ys })) (member_events m)
            (bracket_of b.negative (mirror_held held) (with_strings (mirror_held b.held) b.strings (member_strings m)) ∷ []) push_events well.opens
            (member_runs (bracket_at b) m (mirror_held held) refl sound with)
            ∙ ap (λ strings. Some (bracket_of b.negative (mirror_held held) strings ∷ [])) (sym flag);
      }

-- with an operator more
operator_steps : (o : SetOperator) (b : Bracket) → class_step (operator o) (b ∷ []) ≡ add_operator b [] (with_operator o b.held)
operator_steps Intersection b = refl
operator_steps Subtraction b = refl

module _ (o : SetOperator) (b : OpenBracket) (held : Held) (with : with_operator o (mirror_held b.held) ≡ Some (mirror_held held)) (well : IsWellHeld b) where
  operator_grows : GrowsByOperator (mirror_held b.held) (mirror_held held) (contents b.body) o
  operator_grows = grows_by_operator o (mirror_held b.held) (mirror_held held) (contents b.body) with well.held

  pub operator_events : bracket_events (record b { held = held }) ≡ bracket_events b ++ (token (operator o) ∷ [])
  unfolding bracket_events
  operator_events = ap (after_bracket b) operator_grows.events

  pub operator_well : IsWellHeld (record b { held = held })
  operator_well = record {
    sound = well.sound;
    held = operator_grows.held;
    strings = well.strings ∙ sym operator_grows.strings;
    opens =
        opens_on b (bracket_events (record b { held = held })) (token (operator o) ∷ []) (bracket_at (record b { held = held }) ∷ []) operator_events well.opens
        (ap (λ after. after_step after (λ brackets. class_run [] brackets)) (operator_steps o (bracket_at b) ∙ ap (add_operator (bracket_at b) []) with));
  }

-- the class that a whole bracket is
module _ (b : OpenBracket) (end : ℕ) (whole : is_whole (mirror_held b.held) ≡ true) (well : IsWellHeld b) where
  pub closed_events : class_events (class_of b end) ≡ bracket_events b ++ (token closer ∷ leave end ∷ [])
  unfolding bracket_events
  closed_events =
      let es : ClassEvents = members_events (tokens.operator_events (kind_of (mirror_held b.held))) (contents b.body) in
      ap (after_bracket b)
      (append_assoc es (token closer ∷ []) (leave end ∷ [])
      ∙ ap (λ fs. fs ++ (token closer ∷ leave end ∷ [])) (sym (whole_fits (mirror_held b.held) (contents b.body) whole well.held).1))

  pub closed_sound : (b.negative && b.strings) ≡ false → IsSound (nested (class_of b end))
  closed_sound no_strings = record {
    fitting = ((whole_fits (mirror_held b.held) (contents b.body) whole well.held).0, well.sound.fitting);
    flagged = (well.strings, well.sound.flagged);
    early = (well.strings, no_strings, well.sound.early);
  }

pub closed_mirror : (it : Box CharacterClass Global) (c : CharacterClass) (closed b : OpenBracket) (end : ℕ) → it.value ≡ c → mirror_class c ≡ class_of closed end → closed ≡ b →
    mirror_contents (NestedCharacterClass it) ≡ nested (class_of b end)
closed_mirror it c closed b end value is same =
    nested_is it ∙ ap (λ k. nested (mirror_class k)) value ∙ ap nested is ∙ ap (λ k. nested (class_of k end)) same
