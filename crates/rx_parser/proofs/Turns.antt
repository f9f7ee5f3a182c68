-- A token that stands next moves a parse on, or refuses the text.
use Rattle.std.proofs.Common.{◌≡◌, ◌≢◌, refl, ap, sym, ◌∙◌, subst, ℕ, ◌+◌, ◌-◌, ◌^◌, ◌<◌, Bool, true, false, Option, Some, List, [], ◌∷◌, ◌++◌, length, drop, arith, length-append, length-drop, Contains, All, min}
use Rattle.rx_parser.proofs.Common.{drop-append_seam, All-append, All-cons, All-nil, Diagnostic, InvalidNamedReference, Span, Term, class_span, leaf, mirror_term, CodePoint, Cursor, move_on, offset_of, rest, offset_at, Mode, Legacy, Sets, Unicode, IsCauseAtPlace, lone, lone_in_legacy, no_such_name}
use Rattle.rx_parser.proofs.Common.{no_item, yielding_of, IsEarlyClass, IsEarlyOpener, Obeys, for_classes, Environment, is_unicode, Events, enter, inside, leave, modified, token, opener_event, term_events, tokens_of, front, IsModified, IsModifying, AreObeying, IsPlace, IsReached, span_between}
use Rattle.rx_parser.proofs.Common.{text_environment, text_groups, text_names, Row, Spells, group_takes, run, takes, Token, Opener, bar, capturing, class, closer, ignoring, letter_bits, named, opener, opener_of, quantifier, tokens_of-append, Front, front_spelled, spelled_some, State, Builder}
use Rattle.rx_parser.proofs.Common.{NamedReference, Parse, lone_refusal, HoldsName, IsFound, IsOpenerFound, Stands, builder_events, opener_tree, openers, ready, HoldsPass, IsParsing, IsRefused, IsAt, IsLeafOf, HasTurned, IsBefore, HasMore, IsTurned, fixed_parts, Rules, is_among, Class}
use Rattle.rx_parser.proofs.Common.{IsClassSpanned, among, GroupKind, IsGroupKindOf}
use Rattle.std.proofs.lemmas.Bool.{true≢false}
use Rattle.std.proofs.lemmas.List.{drop-drop, length-map}
use Rattle.rx_base.specs.declared.diagnostic.Diagnostic.{Diagnostic as Refusal}
use Rattle.rx_ast.specs.declared.leaf.Modifiers.{Modifiers}
use Rattle.rx_ast.specs.Forget.{forget_class, same_kind}
use Rattle.rx_ast.specs.Tree as tree
use Rattle.rx_parser.specs.declared.found.OpenerFound.{OpenerFound}
use Rattle.rx_parser.specs.declared.found.OpenerFound.TheVariants as opener_found
use Rattle.rx_parser.specs.declared.frame.GroupKind.TheVariants.{Ignoring}
use Rattle.rx_parser.proofs.Leaves.{leaf_events, leaf_runs}
use Rattle.rx_parser.proofs.Places.{reached}
use Rattle.rx_parser.proofs.Refused.{cause_refused}
use Rattle.rx_parser.proofs.Steps.{Grows, Quantifies, class_end, class_start, moves, quantifier_adds, repeats}

-- what is asked of a builder and a reader alone
pub before : {S U : Type 0} {p : Parse S U} → HasMore p → IsBefore p.spans p.builder p.reader
before h = record { parsing = h.under_way.parsing; left = h.left; fits = h.under_way.fits }

-- A parse has turned where its builder and its reader have.
pub has_turned : {S U : Type 0} {p q : Parse S U} → HasMore p → IsTurned p.spans p.builder q.builder p.reader q.reader → q.state ≡ p.state → q.spans ≡ p.spans → HasTurned p q
has_turned {p} {q} h t state_is spans_is =
    let it = h.under_way in
    let units_are = ap (λ (r : Cursor). r.units) t.same in
    let first_is = ap (λ (r : Cursor). r.first) t.same in
    let kept : fixed_parts q ≡ fixed_parts p = cc (t.parsing.at.mode, t.parsing.rules_are, units_are, first_is, spans_is, state_is) in
    let was = sym kept in
    record {
      under_way = record {
        parsing = subst (λ (k : Mode × Rules × List CodePoint × ℕ × ℕ × State). IsParsing k.0 k.1 q.reader.units q.reader.first k.4 q.builder q.reader.place) was t.parsing;
        fits = record {
          first = subst (λ (k : Mode × Rules × List CodePoint × ℕ × ℕ × State). k.3 + k.4 < 2 ^ 32) was it.fits.first;
          ends = subst (λ (k : Mode × Rules × List CodePoint × ℕ × ℕ × State). All (λ (u : CodePoint). u.span.end + k.4 < 2 ^ 32) k.2) was it.fits.ends;
        };
        pass = subst (λ (k : Mode × Rules × List CodePoint × ℕ × ℕ × State). HoldsPass k.0 k.1 k.2 k.5) was it.pass;
      };
      kept = kept;
      moved = t.moved;
    }

-- The token stands next between two offsets, and the other reader has moved over it.
pub record IsPassed (added : ℕ) (b : Builder) (r s : Cursor) (t : Token) (n at after : ℕ) : Type 0 where
  pub next : Front (text_environment b.mode b.rules r.units) t n (rest r)
  pub start : at ≡ offset_of r + added
  pub end : after ≡ offset_of s + added
  pub moved_on : s ≡ move_on n r

-- the span between two offsets, and the empty one
abbrev pub between : ℕ → ℕ → Span
between start end = record { start = start; end = end }

abbrev pub empty_at : ℕ → Span
empty_at at = between at at

-- A builder has begun a group.
abbrev pub Opens : Builder → Builder → GroupKind → ℕ → ℕ → Type 0
Opens b c begun at after =
    Grows b c (enter at ∷ opener_event (opener_tree begun) ∷ enter after ∷ enter after ∷ []) (opener_of (opener_tree begun) ∷ openers b) false

-- What a group begins with is a token among the events.
abbrev HasToken : GroupKind → Type 0
HasToken begun = opener_event (opener_tree begun) ≡ token (opener (opener_of (opener_tree begun)))

-- one name stands in a group's beginning, or in a reference
pub one_name : {unicode_mode : Bool} {us : List CodePoint} {name other : List ℕ} {n : ℕ} → HoldsName unicode_mode us name n → HoldsName unicode_mode us other n → name ≡ other
one_name {name = name} {other = other} h k = let same : Some name ≡ Some other = sym h.name_is ∙ k.name_is in cc same

-- a quantifier after nothing that may have one
lone_cause : {us : List CodePoint} {first added : ℕ} {rules : Rules} (mode : Mode) (place min : ℕ) (max : Option ℕ) (greedy : Bool) (open_groups : List Opener) (w more : List CodePoint) → IsReached mode rules us place open_groups false (w ++ more)
    → Spells (text_environment mode rules us) (quantifier min max greedy) w more → AreObeying mode us (quantifier min max greedy ∷ [])
    → IsCauseAtPlace mode rules us first added place (lone_refusal mode (span_between us first added place (place + length w)))
lone_cause Legacy place min max greedy open_groups w more r s o = lone_in_legacy place min max greedy open_groups w more r refl s o
lone_cause Unicode place min max greedy open_groups w more r s o = lone place min max greedy open_groups w more r refl s o
lone_cause Sets place min max greedy open_groups w more r s o = lone place min max greedy open_groups w more r refl s o

lone_says : (mode : Mode) (span : Span) → yielding_of (lone_refusal mode span) ≢ no_item
lone_says Legacy span e = cc e
lone_says Unicode span e = cc e
lone_says Sets span e = cc e

-- the units of `(?`, modifiers and `:`
modified_length : (bits : ℕ × ℕ) (w : List CodePoint) (m : IsModified bits w) → length w ≡ length m.text + 3
modified_length bits w m = omega (arith, ap length m.whole, length-map w (λ (u : CodePoint). u.value), length-append m.text (58 ∷ []))

module _ {added : ℕ} {b : Builder} {r : Cursor} (h : IsBefore added b r) where
  -- the environment of the text
  abbrev text : Environment
  text = text_environment b.mode b.rules r.units

  -- the offset of a place
  abbrev offset : ℕ → ℕ
  offset i = offset_at r.first r.units i + added

  abbrev IsNext : Token → ℕ → Type 0
  IsNext t n = Front text t n (rest r)

  -- the token is free of early errors by itself
  abbrev IsObeying : Token → Type 0
  IsObeying = Obeys (text_groups b.mode r.units) (text_names b.mode r.units)

  abbrev IsPassedBy : Cursor → Token → ℕ → ℕ → ℕ → Type 0
  IsPassedBy = IsPassed added b r

  -- What stands next is passed.
  pub passed : {s : Cursor} {t : Token} {n at after : ℕ} → Stands text (rest r) t n → at ≡ offset_of r + added → after ≡ offset_of s + added → s ≡ move_on n r → IsPassedBy s t n at after
  passed {t = t} {n = n} stands start end moved_on = record { next = front_spelled text (rest r) t n stands.0; start = start; end = end; moved_on = moved_on }

  -- So is a reference by the name that is read in its units.
  pub named_passed : {s : Cursor} {us : List CodePoint} {name : List ℕ} {unicode_mode : Bool} {n at after : ℕ} → IsFound text (rest r) (NamedReference n) → us ≡ rest r → unicode_mode ≡ is_unicode b.mode
      → HoldsName unicode_mode us name n → at ≡ offset_of r + added → after ≡ offset_of s + added → s ≡ move_on n r → IsPassedBy s (named name) n at after
  named_passed {us = us} {name = name} {unicode_mode = unicode_mode} {n = n} found same mode holds start end moved_on =
      let stands : HoldsName (is_unicode b.mode) (rest r) name n = subst (λ m. HoldsName m (rest r) name n) mode (subst (λ us. HoldsName unicode_mode us name n) same holds) in
      let read = subst (λ k. front text (rest r) ≡ Some (named k, n)) (one_name found.2 stands) found.1 in
      record { next = front_spelled text (rest r) (named name) n read; start = start; end = end; moved_on = moved_on }

  -- a reader after a token
  stands_after : {s : Cursor} {t : Token} {n : ℕ} (next : IsNext t n) → s ≡ move_on n r → s ≡ record r { place = r.place + length next.w }
  stands_after {s} {t} {n} next e =
      let it : min (r.place + n) (length r.units) ≡ r.place + length next.w = omega (arith, next.count, ap length next.whole, length-append next.w next.rest, length-drop r.place r.units, h.parsing.within) in
      e ∙ ap (λ k. record r { place = k }) it

  following : {s : Cursor} {t : Token} {n at after : ℕ} (k : IsPassedBy s t n at after) → after ≡ offset (r.place + length k.next.w)
  following k = k.end ∙ ap (λ x. offset_of x + added) (stands_after k.next k.moved_on)

  span_is : {s : Cursor} {t : Token} {n at after : ℕ} (k : IsPassedBy s t n at after) → between at after ≡ span_between r.units r.first added r.place (r.place + length k.next.w)
  span_is {at = at} {after = after} k = ap (λ x. between x after) k.start ∙ ap (between (offset r.place)) (following k)

  -- a token that the builder takes
  turned : (c : Builder) (s : Cursor) (t : Token) (n : ℕ) (next : IsNext t n) → IsObeying t → s ≡ move_on n r
      → (IsAt text offset b r.units r.place (next.w ++ next.rest) → IsAt text offset c r.units (r.place + length next.w) next.rest)
      → tokens_of (builder_events c) ≡ tokens_of (builder_events b) ++ (t ∷ []) → c.rules ≡ b.rules → IsTurned added b c r s
  turned c s t n next obeys e takes adds same_rules =
      let k : ℕ = r.place + length next.w in
      let left : drop k r.units ≡ next.rest = sym (drop-drop (length next.w) r.place r.units) ∙ ap (drop (length next.w)) next.whole ∙ drop-append_seam next.w next.rest in
      subst (IsTurned added b c r) (sym (stands_after next e)) (record {
        parsing = record {
          at = subst (IsAt text offset c r.units k) (sym left) (takes (subst (IsAt text offset b r.units r.place) next.whole h.parsing.at));
          within = omega (arith, ap length next.whole, length-append next.w next.rest, length-drop r.place r.units, h.parsing.within);
          rules_are = same_rules;
          obey = subst (All IsObeying) (sym adds) (All-append IsObeying (tokens_of (builder_events b)) (t ∷ []) h.parsing.obey (All-cons IsObeying t [] obeys (All-nil IsObeying)));
        };
        moved = omega (arith, spelled_some text t next.w next.rest next.spells);
        same = refl;
      })

  -- a token that is one of more events
  grown : (c : Builder) (s : Cursor) (t : Token) (n : ℕ) (es : Events) (open_groups : List Opener) (ready_then : Bool) (next : IsNext t n) → IsObeying t → s ≡ move_on n r → Grows b c es open_groups ready_then
      → tokens_of es ≡ t ∷ [] → Row text offset es r.place (next.w ++ next.rest) (r.place + length next.w) next.rest → run b.mode (t ∷ []) (openers b) (ready b) ≡ Some (open_groups, ready_then)
      → IsTurned added b c r s
  grown c s t n es open_groups ready_then next obeys e g one row runs =
      turned c s t n next obeys e
      (moves text offset b c es r.units r.place (r.place + length next.w) (next.w ++ next.rest) next.rest open_groups ready_then g row (ap (λ ts. run b.mode ts (openers b) (ready b)) one ∙ runs))
      (ap tokens_of g.events ∙ tokens_of-append (builder_events b) es ∙ ap (λ ts. tokens_of (builder_events b) ++ ts) one) (ap (λ (k : Mode × Rules × ℕ). k.1) g.fixed)

  pub leaf_turned : (c : Builder) (s : Cursor) (t : Token) (n at after : ℕ) (term : Term) → IsPassedBy s t n at after → IsObeying t → IsLeafOf term t at after
      → Grows b c (term_events term) (openers b) (takes b.mode (mirror_term term)) → IsTurned added b c r s
  leaf_turned c s t n at after term k obeys l g =
      grown c s t n (enter at ∷ token t ∷ leave after ∷ []) (openers b) (takes b.mode (mirror_term term)) k.next obeys k.moved_on
      (subst (λ es. Grows b c es (openers b) (takes b.mode (mirror_term term))) l.events_are g) refl
      (k.start, (k.next.w, k.next.rest, refl, k.next.spells, (following k, (refl, refl)))) (l.runs b.mode [] (openers b) (ready b))

  -- a class, which has the span of what it spells
  pub class_turned : (c : Builder) (s : Cursor) (n : ℕ) (it : Class) (term : Term) (next : IsNext (class (forget_class same_kind it)) n) → IsEarlyClass (forget_class same_kind it) → s ≡ move_on n r → mirror_term term ≡ leaf (tree.class it)
      → IsClassSpanned (for_classes text) offset r.place it next.w next.rest → Grows b c (term_events term) (openers b) (takes b.mode (mirror_term term)) → IsTurned added b c r s
  class_turned c s n it term next early e m spelled g =
      let span = class_span it in
      let es : Events = enter span.start ∷ inside it ∷ leave span.end ∷ [] in
      grown c s (class (forget_class same_kind it)) n es (openers b) true next early e
      (subst (Grows b c es (openers b)) (ap (takes b.mode) m) (subst (λ es. Grows b c es (openers b) (takes b.mode (mirror_term term))) (leaf_events term (tree.class it) m) g)) refl
      (class_start (for_classes text) offset r.place it next.w next.rest spelled, (next.w, next.rest, refl, spelled, (class_end (for_classes text) offset r.place it next.w next.rest spelled, (refl, refl))))
      (leaf_runs b.mode (tree.class it) [] (openers b) (ready b))

  pub bar_turned : (c : Builder) (s : Cursor) (at after : ℕ) → IsPassedBy s bar 1 at after → Grows b c (leave at ∷ token bar ∷ enter after ∷ []) (openers b) false → IsTurned added b c r s
  bar_turned c s at after k g =
      grown c s bar 1 (leave at ∷ token bar ∷ enter after ∷ []) (openers b) false k.next tt k.moved_on g refl (k.start, (k.next.w, k.next.rest, refl, k.next.spells, (following k, (refl, refl)))) refl

  pub close_turned : (c : Builder) (s : Cursor) (at after : ℕ) (o : Opener) → IsPassedBy s closer 1 at after → openers b ≡ o ∷ openers c
      → Grows b c (leave at ∷ leave at ∷ token closer ∷ leave after ∷ []) (openers c) (group_takes b.mode o) → IsTurned added b c r s
  close_turned c s at after o k opened g =
      grown c s closer 1 (leave at ∷ leave at ∷ token closer ∷ leave after ∷ []) (openers c) (group_takes b.mode o) k.next tt k.moved_on g refl
      (k.start, (k.start, (k.next.w, k.next.rest, refl, k.next.spells, (following k, (refl, refl))))) (ap (λ os. run b.mode (closer ∷ []) os (ready b)) opened)

  pub quantifier_turned : (c : Builder) (s : Cursor) (min : ℕ) (max : Option ℕ) (greedy : Bool) (n at after : ℕ) → IsPassedBy s (quantifier min max greedy) n at after
      → IsObeying (quantifier min max greedy) → Quantifies b c min max greedy after → IsTurned added b c r s
  quantifier_turned c s min max greedy n at after k obeys q =
      turned c s (quantifier min max greedy) n k.next obeys k.moved_on (repeats text offset b c min max greedy after r.units r.place k.next.w k.next.rest q (following k) k.next.spells) (quantifier_adds q) (ap (λ (k : Mode × Rules × ℕ). k.1) q.fixed)

  -- a group that begins with a token
  plain_opened : (c : Builder) (s : Cursor) (begun made : GroupKind) (o : Opener) (n at after : ℕ) → begun ≡ made → HasToken made → opener_of (opener_tree made) ≡ o → IsPassedBy s (opener o) n at after
      → IsEarlyOpener o → Opens b c begun at after → IsTurned added b c r s
  plain_opened c s begun made o n at after is t e k early g =
      let it : Opener = opener_of (opener_tree made) in
      let p : IsPassedBy s (opener it) n at after = subst (λ x. IsPassedBy s (opener x) n at after) (sym e) k in
      grown c s (opener it) n (enter at ∷ token (opener it) ∷ enter after ∷ enter after ∷ []) (it ∷ openers b) false p.next (subst IsEarlyOpener (sym e) early) p.moved_on
      (subst (λ x. Grows b c (enter at ∷ x ∷ enter after ∷ enter after ∷ []) (it ∷ openers b) false) t (subst (λ x. Opens b c x at after) is g)) refl
      (p.start, (p.next.w, p.next.rest, refl, p.next.spells, (following p, (following p, (refl, refl))))) refl

  -- a group with modifiers, which have the span of their text
  modified_opened : (c : Builder) (s : Cursor) (m : Modifiers) (n at after : ℕ) → IsPassedBy s (opener (ignoring (Some (letter_bits m)))) n at after
      → IsEarlyOpener (ignoring (Some (letter_bits m))) → m.span ≡ span_between r.units r.first added (r.place + 2) (r.place + (n - 1)) → Opens b c (Ignoring (Some m)) at after → IsTurned added b c r s
  modified_opened c s m n at after k early e g =
      let o : Opener = ignoring (Some (letter_bits m)) in
      let w = k.next.w in
      let ends : r.place + (n - 1) ≡ r.place + 2 + length k.next.spells.text = omega (arith, k.next.count, modified_length (letter_bits m) w k.next.spells) in
      let it : IsModifying offset r.place m w = record { modified = k.next.spells; start = ap (λ x. x.start) e; end = ap (λ x. x.end) e ∙ ap offset ends } in
      grown c s (opener o) n (enter at ∷ modified m ∷ enter after ∷ enter after ∷ []) (o ∷ openers b) false k.next early k.moved_on g refl
      (k.start, (w, k.next.rest, refl, it, (following k, (following k, (refl, refl))))) refl

  -- a group, or a look-around
  pub open_turned : (c : Builder) (s : Cursor) (found : OpenerFound) (begun : GroupKind) (o : Opener) (n at after : ℕ) → IsOpenerFound text (rest r) n o found → IsGroupKindOf b.mode r added n found begun
      → IsPassedBy s (opener o) n at after → IsEarlyOpener o → Opens b c begun at after → IsTurned added b c r s
  open_turned c s opener_found.Capturing begun o n at after f is k early g = plain_opened c s begun _ o n at after is refl (sym f) k early g
  open_turned c s opener_found.Named begun o n at after f is k early g = plain_opened c s begun _ o n at after is.2 refl (ap (λ x. capturing (Some x)) (one_name is.1 f.2) ∙ sym f.1) k early g
  open_turned c s opener_found.Ignoring begun o n at after f is k early g = plain_opened c s begun _ o n at after is refl (sym f) k early g
  open_turned c s (opener_found.Modified enabling disabling) begun o n at after f is k early g =
      let m : Modifiers = record { span = span_between r.units r.first added (r.place + 2) (r.place + (n - 1)); enabling = enabling; disabling = disabling } in
      modified_opened c s m n at after (subst (λ x. IsPassedBy s (opener x) n at after) f.0 k) (subst IsEarlyOpener f.0 early) refl (subst (λ x. Opens b c x at after) is g)
  open_turned c s (opener_found.LookAround kind) begun o n at after f is k early g = plain_opened c s begun _ o n at after is refl (sym f) k early g

  module _ {state : State} (pass : HoldsPass b.mode b.rules r.units state) where
    -- Where this is a cause of a token that stands next, the text is refused.
    refused : {s : Cursor} {t : Token} {n at after : ℕ} (k : IsPassedBy s t n at after) (cause : Span → Refusal) → ((span : Span) → yielding_of (cause span) ≢ no_item)
        → IsCauseAtPlace b.mode b.rules r.units r.first added r.place (cause (span_between r.units r.first added r.place (r.place + length k.next.w)))
        → IsRefused b.mode b.rules r.units r.first added (Diagnostic (cause (between at after)))
    refused {at = at} {after = after} k cause says c =
        cause_refused b.mode b.rules r.units r.first added pass.no_clash pass.in_limit r.place (cause (between at after)) (says (between at after))
        (subst (λ x. IsCauseAtPlace b.mode b.rules r.units r.first added r.place (cause x)) (sym (span_is k)) c)

    -- the place, where the token is left
    at_token : {t : Token} {n : ℕ} (next : IsNext t n) → IsReached b.mode b.rules r.units r.place (openers b) (ready b) (next.w ++ next.rest)
    at_token next = subst (IsReached b.mode b.rules r.units r.place (openers b) (ready b)) next.whole (reached r.units r.first added b r.place h.parsing)

    -- A quantifier stands where none may follow.
    pub lone_refused : (s : Cursor) (min : ℕ) (max : Option ℕ) (greedy : Bool) (n at after : ℕ) → IsPassedBy s (quantifier min max greedy) n at after → IsObeying (quantifier min max greedy) → ready b ≡ false
        → IsRefused b.mode b.rules r.units r.first added (Diagnostic (lone_refusal b.mode (between at after)))
    lone_refused s min max greedy n at after k obeys none =
        let w = k.next.w in
        let more = k.next.rest in
        refused k (lone_refusal b.mode) (lone_says b.mode)
        (lone_cause b.mode r.place min max greedy (openers b) w more (subst (λ q. IsReached b.mode b.rules r.units r.place (openers b) q (w ++ more)) none (at_token k.next)) k.next.spells
        (All-cons IsObeying (quantifier min max greedy) [] obeys (All-nil IsObeying)))

    -- A reference has a name that no group has.
    pub name_refused : (s : Cursor) (name : List ℕ) (n at after : ℕ) → IsPassedBy s (named name) n at after → is_among state.capturing_group_names name ≡ false
        → IsRefused b.mode b.rules r.units r.first added (Diagnostic (InvalidNamedReference (between at after) state.capturing_group_names))
    name_refused s name n at after k none =
        let held = text_names b.mode r.units in
        let unknown : Contains held name → ⊥ = λ c. true≢false (sym (among held name c) ∙ ap (λ names. is_among names name) (sym pass.names) ∙ none) in
        let here : IsPlace b.mode b.rules r.units r.place (k.next.w ++ k.next.rest) = record { open_groups = openers b; ready = ready b; reached = at_token k.next } in
        subst (λ names. IsRefused b.mode b.rules r.units r.first added (Diagnostic (InvalidNamedReference (between at after) names))) (sym pass.names)
        (refused k (λ span. InvalidNamedReference span held) (λ span e. cc e) (no_such_name r.place name k.next.w k.next.rest here k.next.spells unknown))
