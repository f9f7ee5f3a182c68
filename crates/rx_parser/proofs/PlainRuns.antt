-- A run of units that stand for themselves moves a parse on.
use Rattle.std.proofs.Common.{◌≡◌, refl, ap, sym, ◌∙◌, subst, ℕ, ◌+◌, ◌-◌, ◌^◌, ◌<◌, ◌≤◌, ◌||◌, false, Some, List, [], ◌∷◌, length, drop, take, get_or, arith, length-drop, All, min}
use Rattle.std.proofs.lemmas.List.{drop-drop, get_or-drop, get_or-map, get_or-take, take_more}
use Rattle.std.proofs.lemmas.List.Elements.{All-head, All-take}
use Rattle.rx_parser.proofs.Common.{All-drop, All-push, AreFitting, offset_fits, Term, mirror_term, is_syntax_character, CodePoint, Cursor, move_on, offset_of, rest, offset_at, values, has_some, text_environment, text_names, term_events, takes, character, Builder, Leaf, IsFound, openers, IsParsing, IsLeafOf, IsBefore}
use Rattle.rx_parser.proofs.Common.{IsTurned, unit_kind, Character}
use Rattle.rx_units.proofs.Offsets.{end_of_take, offset_more}
use Rattle.rx_units.specs.Cursor.{front}
use Rattle.rx_units.specs.Stored.{values_of}
use Rattle.rx_parser.proofs.FrontFound.{plain_found}
use Rattle.rx_parser.proofs.Steps.{Grows}
use Rattle.rx_parser.proofs.Turns.{leaf_turned, passed}

-- each unit is a code point
abbrev AreCodePoints : Cursor → Type 0
AreCodePoints r = All (λ (u : CodePoint). u.value ≤ 0x10FFFF) (rest r)

-- the builder has taken a unit as a character between two offsets
pub record Takes (b c : Builder) (u : CodePoint) (term : Term) (at after : ℕ) : Type 0 where
  pub leaf : IsLeafOf term (character (unit_kind u.escape_kind) u.value) at after
  pub grows : Grows b c (term_events term) (openers b) (takes b.mode (mirror_term term))

-- the unit that stands next
unit_turned : {added : ℕ} {b : Builder} {r : Cursor} → IsBefore added b r → (c : Builder) (u : CodePoint) (term : Term) (at after : ℕ) → AreCodePoints r → 1 ≤ length (rest r) → u ≡ get_or (rest r) 0 u
    → is_syntax_character u.value ≡ false → at ≡ offset_of r + added → after ≡ offset_of (move_on 1 r) + added → Takes b c u term at after → IsTurned added b c r (move_on 1 r)
unit_turned {added} {b} {r} h c u term at after small some is plain start end t =
    let e = text_environment b.mode b.rules r.units in
    let found : IsFound e (rest r) (Leaf (Character (unit_kind u.escape_kind) u.value) 1) =
    subst (λ (v : CodePoint). IsFound e (rest r) (Leaf (Character (unit_kind v.escape_kind) v.value) 1)) (sym is)
    (plain_found e (rest r) u (ap (λ always. always || has_some (text_names b.mode r.units))) small some (subst (λ (v : CodePoint). is_syntax_character v.value ≡ false) is plain)) in
    leaf_turned h c (move_on 1 r) (character (unit_kind u.escape_kind) u.value) 1 at after term (passed h found start end refl) (found.2 (text_names b.mode r.units)) t.leaf t.grows

-- one more unit that stands for itself
pub plain_more : (us : List CodePoint) (i : ℕ) (d : CodePoint) → i < length us → All (λ (u : CodePoint). is_syntax_character u.value ≡ false) (take i us) → is_syntax_character (get_or us i d).value ≡ false
    → All (λ (u : CodePoint). is_syntax_character u.value ≡ false) (take (i + 1) us)
plain_more us i d inside plain here =
    let P : CodePoint → Type 0 = λ (u : CodePoint). is_syntax_character u.value ≡ false in
    subst (All P) (sym (take_more us i d inside)) (All-push P (take i us) (get_or us i d) plain here)

-- the value of a unit, by the item that it is
pub unit_value : {Item : Type 0} (value : Item → ℕ) (us : List CodePoint) (xs : List Item) (i : ℕ) (u : CodePoint) (x : Item) → values us ≡ values_of value xs → length us ≡ length xs → i < length xs
    → (get_or us i u).value ≡ value (get_or xs i x)
unit_value value us xs i u x same long inside =
    sym (get_or-map (λ (u : CodePoint). u.value) us i u u.value (omega (arith, inside, long))) ∙ ap (λ ws. get_or ws i u.value) same ∙ get_or-map value xs i x u.value inside

-- the unit that stands first of what is left of a run
pub first_unit : (us : List CodePoint) (c : ℕ) → front us ≡ Some c → (u : CodePoint) × (more : List CodePoint) × (us ≡ u ∷ more) × (c ≡ u.value)
first_unit [] c h = absurd (let no : ⊥ = cc h in no)
first_unit (u ∷ more) c h = (u, more, refl, cc h)

-- it ends where an offset fits
pub first_fits : {added : ℕ} {r : Cursor} (count i : ℕ) {left : List CodePoint} {end c : ℕ} → AreFitting added r → left ≡ drop i (take count (rest r)) → front left ≡ Some c → ((first : ℕ) → end ≡ offset_at first left 1) → end + added < 2 ^ 32
first_fits {added} {r} count i {left} {end} {c} fits here some ends =
    let P : CodePoint → Type 0 = λ (u : CodePoint). u.span.end + added < 2 ^ 32 in
    let first = first_unit left c some in
    let all = All-drop P i (take count (rest r)) (All-take P count (rest r) (All-drop P r.place r.units fits.ends)) in
    subst (λ k. k + added < 2 ^ 32) (sym (ends 0 ∙ ap (λ us. offset_at 0 us 1) first.2)) (All-head P first.0 first.1 (subst (All P) (sym here ∙ first.2) all))

module _ (us : List CodePoint) (count i : ℕ) (u : CodePoint) (more : List CodePoint) (left : drop i (take count us) ≡ u ∷ more) (inside : i < count) where
  pub unit_is : u ≡ get_or us i u
  unit_is =
      let first : i + 0 ≡ i = omega arith in
      sym (ap (λ ws. get_or ws 0 u) left) ∙ get_or-drop i (take count us) 0 u ∙ ap (λ n. get_or (take count us) n u) first ∙ get_or-take count us i u inside

  pub unit_plain : All (λ (u : CodePoint). is_syntax_character u.value ≡ false) (take count us) → is_syntax_character u.value ≡ false
  unit_plain plain =
      let P : CodePoint → Type 0 = λ (u : CodePoint). is_syntax_character u.value ≡ false in
      All-head P u more (subst (All P) left (All-drop P i (take count us) plain))

-- the end of units that are left
pub end_ahead : (r : Cursor) (n : ℕ) {us : List CodePoint} {end : ℕ} → us ≡ rest r → ((first : ℕ) → end ≡ offset_at first us n) → end ≡ offset_at r.first r.units (r.place + n)
end_ahead r n here ends = ends (offset_of r) ∙ ap (λ us. offset_at (offset_of r) us n) here ∙ sym (offset_more r.first r.units r.place n)

pub end_fits : {added : ℕ} {r : Cursor} (n : ℕ) {us : List CodePoint} {end : ℕ} → AreFitting added r → us ≡ rest r → ((first : ℕ) → end ≡ offset_at first us n) → end + added < 2 ^ 32
end_fits {added} {r} n fits here ends = subst (λ k. k + added < 2 ^ 32) (sym (end_ahead r n here ends)) (offset_fits added r.first r.units (r.place + n) fits.first fits.ends)

-- a unit ends where the next begins
pub unit_end : (r : Cursor) (i : ℕ) (u : CodePoint) → i < length (rest r) → u ≡ get_or (rest r) i u → u.span.end ≡ offset_at r.first r.units (r.place + (i + 1))
unit_end r i u some is =
    let place : ℕ = r.place + (i + 1) in
    let before : r.place + i ≡ place - 1 = omega arith in
    let k = end_of_take r.first r.units place u (omega arith) (omega (arith, some, length-drop r.place r.units)) in
    ap (λ (v : CodePoint). v.span.end) (is ∙ get_or-drop r.place r.units i u ∙ ap (λ n. get_or r.units n u) before) ∙ sym k

-- the unit of a run after i others
module _ {added : ℕ} {b : Builder} {r : Cursor} (h : IsBefore added b r) (i : ℕ) (u : CodePoint) (some : i < length (rest r)) (is : u ≡ get_or (rest r) i u) where
  -- the builder takes it
  pub run_on : (l c : Builder) (term : Term) (start : ℕ) → AreCodePoints r → is_syntax_character u.value ≡ false → IsParsing b.mode b.rules r.units r.first added l (r.place + i) → start ≡ offset_at r.first r.units (r.place + i) + added
      → Takes l c u term start (u.span.end + added) → IsParsing b.mode b.rules r.units r.first added c (r.place + (i + 1))
  run_on l c term start small plain parsing from t =
      let s : Cursor = record r { place = r.place + i } in
      let within : r.place + i < length r.units = omega (arith, some, length-drop r.place r.units, h.parsing.within) in
      let same : drop i (rest r) ≡ rest s = drop-drop i r.place r.units in
      let mode : b.mode ≡ l.mode = sym parsing.at.mode in
      let same_rules : b.rules ≡ l.rules = sym parsing.rules_are in
      let before : IsBefore added l s = record {
        parsing = subst (λ m. IsParsing m l.rules r.units r.first added l (r.place + i)) mode (subst (λ it. IsParsing b.mode it r.units r.first added l (r.place + i)) same_rules parsing);
        left = within;
        fits = record { first = h.fits.first; ends = h.fits.ends };
      } in
      let next : min (r.place + i + 1) (length r.units) ≡ r.place + (i + 1) = omega (arith, within) in
      let code_points : AreCodePoints s = subst (All (λ (u : CodePoint). u.value ≤ 0x10FFFF)) same (All-drop (λ (u : CodePoint). u.value ≤ 0x10FFFF) i (rest r) small) in
      let first : i ≡ i + 0 = omega arith in
      let here : u ≡ get_or (rest s) 0 u = is ∙ ap (λ n. get_or (rest r) n u) first ∙ sym (get_or-drop i (rest r) 0 u) ∙ ap (λ us. get_or us 0 u) same in
      let turned = unit_turned before c u term start (u.span.end + added) code_points (omega (arith, within, length-drop (r.place + i) r.units)) here plain
      from (ap (λ k. k + added) (unit_end r i u some is ∙ ap (offset_at r.first r.units) (sym next))) t in
      subst (λ it. IsParsing b.mode it r.units r.first added c (r.place + (i + 1))) (sym same_rules)
      (subst (λ m. IsParsing m l.rules r.units r.first added c (r.place + (i + 1))) (sym mode) (subst (IsParsing l.mode l.rules r.units r.first added c) next turned.parsing))
