-- What is refused where the reader of a class with `v` stands, and that it is the first refusal of the class; what stands next, as a turn of the reader needs it.
use Rattle.std.proofs.Common.{◌≡◌, ◌≢◌, refl, sym, ap, ◌∙◌, subst, ℕ, ◌+◌, ◌≤◌, ◌==◌, ◌&&◌, Bool, true, false, is_some, None, Err, List, [], ◌∷◌, ◌++◌, length, arith}
use Rattle.rx_class.proofs.Common.{eqb-true, true≢false, Diagnostic, UnterminatedPattern, Intersection, Span, CodePoint, Cursor, front, move_on, offset_of, rest, values, Mode, empty}
use Rattle.rx_class.proofs.Common.{is_union, is_whole, operator_of, pending, starts, Environment, is_sets, no_item, yielding_of, span_between, class_environment, said_is_first, ClassBuilder}
use Rattle.rx_class.proofs.Common.{between, span_to, KeepsUnits, GivesTurn, IsInSets, IsOfSets, innermost_held, is_nested, no_operator, offset_in, place_of}
use Rattle.rx_base.specs.declared.diagnostic.Diagnostic.TheVariants.{ClassIntersectionUnexpectedAmpersand, EmptyClassSetExpression}
use Rattle.rx_base.specs.declared.diagnostic.kinds.Unterminated.{Unterminated}
use Rattle.rx_base.specs.declared.fault.Fault.TheVariants as fault
use Rattle.rx_model.specs.Refusals.ClassCauses as class_cause
use Rattle.rx_model.specs.Refusals.ClassCauses.{IsClassCause, of_negative, unterminated}
use Rattle.rx_model.proofs.Classes.ClassFronts.{single as one_unit}
use Rattle.rx_model.proofs.Classes.ClassStops.{item_between}
use Rattle.rx_model.proofs.Classes.NothingFirst.{silent_is_first}
use Rattle.rx_class.specs.SetReading.Fronts.{Begins, FrontRead, IsSetFront, StandsFront, set_front_at}
use Rattle.rx_class.specs.SetReading.Progress.{SaysNothing, StandsNothing, no_end, no_operand, refused}
use Rattle.rx_class.proofs.Keeping.{passes_keeps, passes_moved, stays_keeps}
use Rattle.rx_class.proofs.Operators.{begins_place, may_follow_here, no_operator_union, pending_there}
use Rattle.rx_class.proofs.SetReading.Places.{innermost_here, item_before, item_here}
use Rattle.rx_class.specs.SetReading.Turns.{TakesNothing}
use Rattle.rx_class.proofs.SetReading.Fronts.{stands}

-- What holds by the environment of the whole text holds by the reader's.
pub by_text : {e : Environment} {r : Cursor} (P : Environment → Type 0) → IsOfSets e r → P (class_environment e.mode r.units) → P e
by_text P of p = subst P (sym of.text) p

-- A refusal that says what stands there is the first.
pub said_gives : {e : Environment} {added : ℕ} {old new : Cursor} {before after : ClassBuilder} (d : Diagnostic) → KeepsUnits old new → yielding_of d ≢ no_item →
    ((from : Cursor) → IsInSets e added from old before → (f : ℕ) × IsClassCause e.mode old.units old.first added from.place (rest from) f d) → GivesTurn e added old new before after (Err (fault.Diagnostic d))
said_gives {e} {added} {old} d keeps says cause =
    refused (λ from h. let c = cause from h in said_is_first e.mode old.units old.first added from.place (rest from) c.0 d c.1 says) keeps

-- the unit that stands next
pub unit_next : (c : ℕ) (us : List CodePoint) → starts c (values us) ≡ true → (u : CodePoint) × (more : List CodePoint) × (us ≡ u ∷ more) × (u.value ≡ c)
unit_next c [] h = absurd (true≢false (sym h))
unit_next c (u ∷ us) h = (u, us, refl, eqb-true u.value c h)

pub begins_closer : (us : List CodePoint) → Begins us (93 ∷ []) → starts 93 (values us) ≡ true
begins_closer us b =
    let u = one_unit b.w 93 b.text_is in
    ap (λ us. starts 93 (values us)) (b.whole ∙ ap (λ w. w ++ b.rest) u.1) ∙ ap (λ c. c == 93) u.2

pub closer_begins : (us : List CodePoint) → starts 93 (values us) ≡ true → Begins us (93 ∷ [])
closer_begins us h = let u = unit_next 93 us h in record { w = u.0 ∷ []; rest = u.1; whole = u.2; text_is = ap (λ c. c ∷ []) u.3 }

module _ (mode : Mode) (added : ℕ) (r : Cursor) (b : ClassBuilder) where
  abbrev here : Environment
  here = class_environment mode r.units

  -- a third `&`
  ampersand_cause : starts 38 (values (rest r)) ≡ true → innermost_held b ≡ pending Intersection → (from : Cursor) → IsInSets here added from r b →
      IsClassCause mode r.units r.first added from.place (rest from) r.place (ClassIntersectionUnexpectedAmpersand (span_between r.units r.first added r.place (r.place + 1)))
  ampersand_cause stands held from h =
      let u = unit_next 38 (rest r) stands in
      class_cause.third_ampersand r.place u.0 u.1 (item_before h (u.0 ∷ u.1) u.2) (ap place_of held) u.3

  -- a negative bracket with strings, before its `]`
  negative_cause : starts 93 (values (rest r)) ≡ true → is_whole (innermost_held b) ≡ true → (b.inner.negative && b.inner.strings) ≡ true → (from : Cursor) → IsInSets here added from r b →
      IsClassCause mode r.units r.first added from.place (rest from) r.place (of_negative (is_nested b) (between b.inner.start (offset_in added r (r.place + 1))))
  negative_cause closes whole strings from h =
      let i = innermost_here h in
      let start : b.inner.start ≡ offset_in added r i.begin = i.start_is ∙ ap (λ (r : Cursor). offset_in added r i.begin) (sym h.keeps.same) in
      rw start
      (class_cause.negative_strings (is_nested b) i.begin r.place (rest r) record {
        in_bracket = i.in_bracket;
        closes = closes;
        whole = ap (λ b. is_whole b.held) i.inner_is ∙ whole;
        may = ap (λ b. b.negative && b.may) i.inner_is ∙ strings;
      })

  -- Nothing follows.
  nothing_cause : (d : Diagnostic) → is_sets mode ≡ true → StandsNothing here r b → SaysNothing added r b d → (from : Cursor) → IsInSets here added from r b → IsClassCause mode r.units r.first added from.place (rest from) r.place d
  nothing_cause _ sets stands (no_operand none some) from h = class_cause.no_operand r.place (rest r) (item_here h) sets none stands.follows some
  nothing_cause _ sets stands (no_end union ends) from h =
      let i = innermost_here h in
      let held : i.in_bracket.item_place.inner.held ≡ innermost_held b = ap (λ b. b.held) i.inner_is in
      let start : b.inner.start ≡ offset_in added r i.begin = i.start_is ∙ ap (λ (r : Cursor). offset_in added r i.begin) (sym h.keeps.same) in
      rw start
      (class_cause.unterminated_class (is_nested b) i.begin r.place (rest r) i.in_bracket (ap is_union held ∙ union) (rw (i.at_is, held) stands.follows) (λ sets none. ends (sym held ∙ none)) (λ no_sets. absurd (true≢false (sym sets ∙ no_sets))))
  nothing_cause _ sets stands (no_operator operator is) from h = class_cause.no_operator operator r.place (rest r) (item_here h) is stands.follows (may_follow_here operator _ _ stands.no_third)

  nothing_first : (d : Diagnostic) → is_sets mode ≡ true → StandsNothing here r b → SaysNothing added r b d → r.place ≤ length r.units → GivesTurn here added r r b b (Err (fault.Diagnostic d))
  nothing_first d sets stands says within =
      refused (λ from h.
      let i = item_here h in
      silent_is_first mode r.units r.first added from.place (rest from) (record { tokens = i.tokens; at = i.at; inner = i.inner; outer = i.outer; place = r.place; rest = rest r }) i.row i.accepted i.place_is
      (item_between i.at i.begins)
      record {
        sets = sets;
        follows = stands.follows;
        none_refused = λ takes. stands.none_refused (takes (begins_place (innermost_held b)));
        no_third = stands.no_third;
        no_end = λ low hyphen following whole is d c. h.ends low.of_union low.before low.atom low.tokens_are low.is_low hyphen following whole is r.units r.first added (r.place + 1) d c;
      }
      r.place d (nothing_cause d sets stands says from h)) (stays_keeps r r within refl)

-- A third `&` is refused.
pub ampersand_gives : (added : ℕ) (r new : Cursor) (b : ClassBuilder) (span : Span) → starts 38 (values (rest r)) ≡ true → innermost_held b ≡ pending Intersection → span ≡ span_between r.units r.first added r.place (r.place + 1) → KeepsUnits r new →
    (e : Environment) → IsOfSets e r → GivesTurn e added r new b b (Err (fault.Diagnostic (ClassIntersectionUnexpectedAmpersand span)))
ampersand_gives added r new b span stands held covers keeps e of =
    by_text (λ e. GivesTurn e added r new b b (Err (fault.Diagnostic (ClassIntersectionUnexpectedAmpersand span)))) of
    (rw covers (said_gives (ClassIntersectionUnexpectedAmpersand (span_between r.units r.first added r.place (r.place + 1))) keeps (λ k. let no : ⊥ = cc k in no) (λ from h. (r.place, ampersand_cause e.mode added r b stands held from h))))

negative_says : (nested : Bool) (span : Span) → yielding_of (of_negative nested span) ≢ no_item
negative_says true span k = cc k
negative_says false span k = cc k

-- A negative bracket with strings is refused.
pub negative_gives : (added : ℕ) (r new : Cursor) (b : ClassBuilder) (d : Diagnostic) (span : Span) → Begins (rest r) (93 ∷ []) → is_whole (innermost_held b) ≡ true → (b.inner.negative && b.inner.strings) ≡ true →
    d ≡ of_negative (is_nested b) span → span ≡ between b.inner.start (offset_of new + added) → new ≡ move_on 1 r → (e : Environment) → IsOfSets e r → GivesTurn e added r new b b (Err (fault.Diagnostic d))
negative_gives added r new b d span front whole strings says covers moves e of =
    let closes = begins_closer (rest r) front in
    let f = unit_next 93 (rest r) closes in
    let p = passes_moved r new (f.0 ∷ []) f.1 f.2 (omega arith) moves in
    let passes = p.0 in
    let end : offset_of new + added ≡ offset_in added r (r.place + 1) = ap (λ (r : Cursor). offset_of r + added) passes.moves in
    by_text (λ e. GivesTurn e added r new b b (Err (fault.Diagnostic d))) of
    (rw (says, covers, end) (said_gives (of_negative (is_nested b) (between b.inner.start (offset_in added r (r.place + 1)))) (passes_keeps passes) (negative_says (is_nested b) _)
    (λ from h. (r.place, negative_cause e.mode added r b closes whole strings from h))))

-- Where nothing follows this is refused.
pub nothing_gives : (added : ℕ) (r : Cursor) (b : ClassBuilder) (d : Diagnostic) → SaysNothing added r b d → (e : Environment) → IsOfSets e r → StandsNothing e r b → GivesTurn e added r r b b (Err (fault.Diagnostic d))
nothing_gives added r b d says e of =
    by_text (λ e. StandsNothing e r b → GivesTurn e added r r b b (Err (fault.Diagnostic d))) of (λ stands. nothing_first e.mode added r b d of.sets stands says of.within)

-- a bracket that does not end
pub says_no_end : (added : ℕ) (r : Cursor) (b : ClassBuilder) (span here : Span) (what : Unterminated) → operator_of (innermost_held b) ≡ None → (innermost_held b ≡ empty → rest r ≡ []) → here ≡ span_to added (offset_of r) r → span ≡ between b.inner.start here.end →
    what ≡ unterminated (is_nested b) → SaysNothing added r b (UnterminatedPattern span what)
says_no_end added r b span here what none ends is covers says =
    rw (covers ∙ ap (λ (s : Span). between b.inner.start s.end) is, says) (no_end (no_operator_union (innermost_held b) none) ends)

-- one that begins with no operand
pub says_no_operand : (added : ℕ) (r : Cursor) (b : ClassBuilder) (here : Span) → innermost_held b ≡ empty → is_some (front (rest r)) ≡ true → here ≡ span_to added (offset_of r) r → SaysNothing added r b (EmptyClassSetExpression here)
says_no_operand added r b here none some is = rw is (no_operand none (λ h. true≢false (sym some ∙ ap (λ us. is_some (front us)) h)))

-- what stands next, by what was found
pub front_stands : (us vs : List CodePoint) (read found : FrontRead) → us ≡ vs → read ≡ set_front_at us → read ≡ found → StandsFront vs found
front_stands us vs read found same h is = subst (λ us. StandsFront us found) same (subst (StandsFront us) (sym h ∙ is) (stands us))

-- Where the bracket goes on with nothing that was found, nothing follows.
pub nothing_there : {e : Environment} (r : Cursor) (b : ClassBuilder) (us : List CodePoint) (read : FrontRead) → us ≡ rest r → IsSetFront e us read → TakesNothing (innermost_held b) read →
    (innermost_held b ≡ pending Intersection → starts 38 (values (rest r)) ≡ false) → StandsNothing e r b
nothing_there {e} r b us read same h takes no_third =
    let front = subst (λ us. IsSetFront e us read) same h in record {
      follows = λ t w more whole spelled. takes.no_token t (front.only (place_of (innermost_held b)) t w more (begins_place (innermost_held b)) whole spelled);
      none_refused = λ operand. front.none_refused (takes.no_escape operand);
      no_third = λ following. no_third (pending_there (innermost_held b) following);
    }
