-- Where what was built of a class with `v` leads to: an item place of the class, and of the innermost bracket.
use Rattle.std.proofs.Common.{◌≡◌, refl, sym, ap, ◌∙◌, subst, ℕ, ◌+◌, Bool, true, Option, Some, List, [], ◌∷◌, ◌++◌, length, arith, append_assoc, length-append, All}
use Rattle.rx_class.proofs.Common.{flat_map, All-head, All-tail, CodePoint, Cursor, rest, Bracket, Brackets, class_run_from_start, class_run, takes_operand, ClassEvents, token}
use Rattle.rx_class.proofs.Common.{class_tokens_of, Environment, IsInBracket, IsItemPlace, of_class, tokens_append, class_row_tokens, ClassBuilder, OpenBracket, bracket_at, bracket_events}
use Rattle.rx_class.proofs.Common.{builder_events, IsInSets, innermost_held, is_nested, offset_in, place_of, IsAround, IsWellBuilt, IsWellHeld}
use Rattle.rx_model.specs.Classes.ClassRows.{ClassRow, ClassTokenRow, Place, next_place, outside}
use Rattle.rx_model.specs.Refusals.ClassPlaces.{nested}
use Rattle.rx_model.proofs.Classes.ClassWholes.{class_opened-append, class_run-append}
use Rattle.rx_model.proofs.Classes.OpenBrackets.{after_opened, nested_run, row_alone}
use Rattle.rx_class.specs.SetReading.Progress.{has_outer}
use Rattle.rx_class.proofs.Operators.{begins_place}

-- Brackets open in others, the innermost of which takes an operand more.
record Opens (o : Option Brackets) : Type 0 where
  inner : Bracket
  outer : Brackets
  opened : o ≡ Some (inner ∷ outer)
  takes : takes_operand inner.held ≡ true

-- one more
opens_in : (b : OpenBracket) (d : Bracket) (ds : Brackets) → IsWellHeld b → takes_operand d.held ≡ true → class_run (class_tokens_of (bracket_events b)) (d ∷ ds) ≡ Some (bracket_at b ∷ d ∷ ds)
opens_in b d ds well takes =
    let ts = class_tokens_of (bracket_events b) in
    nested_run ts d (bracket_at b) ds takes well.opens

all_open : (bs : List OpenBracket) (d : Bracket) (ds : Brackets) → All IsAround bs → takes_operand d.held ≡ true → Opens (class_run (class_tokens_of (flat_map bracket_events bs)) (d ∷ ds))
all_open [] d ds all takes = record { inner = d; outer = ds; opened = refl; takes = takes }
all_open (b ∷ bs) d ds all takes =
    let is = All-head IsAround b bs all in
    let on = all_open bs (bracket_at b) (d ∷ ds) (All-tail IsAround b bs all) is.operand in record {
      inner = on.inner;
      outer = on.outer;
      opened =
          ap (λ ts. class_run ts (d ∷ ds)) (tokens_append (bracket_events b) (flat_map bracket_events bs))
          ∙ class_run-append (class_tokens_of (bracket_events b)) (class_tokens_of (flat_map bracket_events bs)) (d ∷ ds) (bracket_at b ∷ d ∷ ds) (opens_in b d ds is.well takes)
          ∙ on.opened;
      takes = on.takes;
    }

around_open : (b : OpenBracket) (bs : List OpenBracket) → All IsAround (b ∷ bs) → Opens (class_run_from_start (class_tokens_of (flat_map bracket_events (b ∷ bs))))
around_open b bs all =
    let is = All-head IsAround b bs all in
    let well = is.well in
    let on = all_open bs (bracket_at b) [] (All-tail IsAround b bs all) is.operand in record {
      inner = on.inner;
      outer = on.outer;
      opened =
          ap class_run_from_start (tokens_append (bracket_events b) (flat_map bracket_events bs))
          ∙ class_opened-append (class_tokens_of (bracket_events b)) (class_tokens_of (flat_map bracket_events bs)) (bracket_at b ∷ []) well.opens
          ∙ on.opened;
      takes = on.takes;
    }

-- All that was built leaves the innermost bracket open, and those around it.
pub record BuiltOpens (b : ClassBuilder) : Type 0 where
  pub outer : Brackets
  pub opened : class_run_from_start (class_tokens_of (builder_events b)) ≡ Some (bracket_at b.inner ∷ outer)

inner_alone : (b : ClassBuilder) → b.outer ≡ [] → builder_events b ≡ bracket_events b.inner
unfolding builder_events
inner_alone b none = ap (λ bs. flat_map bracket_events bs ++ bracket_events b.inner) none

inner_after : (b : ClassBuilder) (bs : List OpenBracket) → b.outer ≡ bs → builder_events b ≡ flat_map bracket_events bs ++ bracket_events b.inner
unfolding builder_events
inner_after b bs are = ap (λ bs. flat_map bracket_events bs ++ bracket_events b.inner) are

pub built_opens : (b : ClassBuilder) → IsWellBuilt b → BuiltOpens b
built_opens b well = go b.outer refl
  where
    inner : IsWellHeld b.inner
    inner = well.inner

    go : (bs : List OpenBracket) → b.outer ≡ bs → BuiltOpens b
    go [] are = record { outer = []; opened = ap (λ es. class_run_from_start (class_tokens_of es)) (inner_alone b are) ∙ inner.opens }
    go (x ∷ bs) are =
        let around = around_open x bs (subst (All IsAround) are well.outer) in
        let ts = class_tokens_of (flat_map bracket_events (x ∷ bs)) in record {
          outer = around.inner ∷ around.outer;
          opened =
              ap (λ es. class_run_from_start (class_tokens_of es)) (inner_after b (x ∷ bs) are)
              ∙ ap class_run_from_start (tokens_append (flat_map bracket_events (x ∷ bs)) (bracket_events b.inner))
              ∙ class_opened-append ts (class_tokens_of (bracket_events b.inner)) (around.inner ∷ around.outer) around.opened
              ∙ opens_in b.inner around.inner around.outer inner around.takes;
        }

-- The units that a row of events spells stand before what is left.
pub row_units : (e : Environment) (o : ℕ → ℕ) (es : ClassEvents) (q : Place) (i : ℕ) (us : List CodePoint) (r : Place) (j : ℕ) (end : List CodePoint) → ClassRow e o es q i us r j end →
    (w : List CodePoint) × (us ≡ w ++ end) × (j ≡ i + length w)
row_units e o [] q i us r j end h = ([], h.2, omega (arith, h.1))
row_units e o ((token t) ∷ es) q i us r j end h =
    let on = row_units e o es (next_place e.mode q t h.1) (i + length h.0) h.1 r j end h.4 in
    (h.0 ++ on.0, h.2 ∙ ap (λ us. h.0 ++ us) on.1 ∙ sym (append_assoc h.0 on.0 end), omega (arith, on.2, length-append h.0 on.0))
row_units e o (edge ∷ es) q i us r j end h = row_units e o es q i us r j end h.1

module _ (e : Environment) (o : ℕ → ℕ) where
  -- A row falls apart where its events do.
  record SplitRow (es fs : ClassEvents) (q : Place) (i : ℕ) (us : List CodePoint) (r : Place) (j : ℕ) (end : List CodePoint) : Type 0 where
    at : Place
    place : ℕ
    left : List CodePoint
    first : ClassRow e o es q i us at place left
    others : ClassRow e o fs at place left r j end

  split_row : (es fs : ClassEvents) (q : Place) (i : ℕ) (us : List CodePoint) (r : Place) (j : ℕ) (end : List CodePoint) → ClassRow e o (es ++ fs) q i us r j end → SplitRow es fs q i us r j end
  split_row [] fs q i us r j end h = record { at = q; place = i; left = us; first = (refl, refl, refl); others = h }
  split_row ((token t) ∷ es) fs q i us r j end h =
      let s = split_row es fs (next_place e.mode q t h.1) (i + length h.0) h.1 r j end h.4 in
      record { at = s.at; place = s.place; left = s.left; first = (h.0, h.1, h.2, h.3, s.first); others = s.others }
  split_row (edge ∷ es) fs q i us r j end h = let s = split_row es fs q i us r j end h.1 in record { at = s.at; place = s.place; left = s.left; first = (h.0, s.first); others = s.others }

  -- A row keeps the sum of its place and of what is left.
  pub row_place : (es : ClassEvents) (q : Place) (i : ℕ) (us : List CodePoint) (r : Place) (j : ℕ) (end : List CodePoint) → ClassRow e o es q i us r j end → i + length us ≡ j + length end
  row_place es q i us r j end h = let u = row_units e o es q i us r j end h in omega (arith, u.2, ap length u.1, length-append u.0 end)

  -- An open bracket begins where its row does.
  begins_at : (b : OpenBracket) (q : Place) (i : ℕ) (us : List CodePoint) (r : Place) (j : ℕ) (end : List CodePoint) → ClassRow e o (bracket_events b) q i us r j end → b.start ≡ o i
  unfolding bracket_events
  begins_at b q i us r j end h = h.0

module _ {e : Environment} {added : ℕ} {from r : Cursor} {b : ClassBuilder} (h : IsInSets e added from r b) where
  -- An item may begin where the reader stands.
  abbrev pub item_before : (left : List CodePoint) → rest r ≡ left → IsItemPlace e from.place (rest from) r.place left
  item_before left is =
      let opens = built_opens b h.well in record {
        tokens = class_tokens_of (builder_events b);
        at = place_of (innermost_held b);
        inner = bracket_at b.inner;
        outer = opens.outer;
        begins = begins_place (innermost_held b);
        row = subst (ClassTokenRow e (class_tokens_of (builder_events b)) outside (rest from) (place_of (innermost_held b))) is
            (class_row_tokens e (offset_in added from) (builder_events b) outside from.place (rest from) (place_of (innermost_held b)) r.place (rest r) h.row);
        accepted = opens.opened;
        place_is = row_place e (offset_in added from) (builder_events b) outside from.place (rest from) (place_of (innermost_held b)) r.place (rest r) h.row ∙ ap (λ us. r.place + length us) is;
      }

  abbrev pub item_here : IsItemPlace e from.place (rest from) r.place (rest r)
  item_here = item_before (rest r) refl

  -- The innermost bracket, which is nested or not, begins where it says.
  pub record Innermost (nested : Bool) : Type 0 where
    pub begin : ℕ
    pub in_bracket : IsInBracket e from.place (rest from) nested begin r.place (rest r)
    pub at_is : in_bracket.item_place.at ≡ place_of (innermost_held b)
    pub inner_is : in_bracket.item_place.inner ≡ bracket_at b.inner
    pub start_is : b.inner.start ≡ offset_in added from begin

  pub innermost_here : Innermost (is_nested b)
  innermost_here = go b.outer refl
    where
      o : ℕ → ℕ
      o = offset_in added from

      well : IsWellBuilt b
      well = h.well

      inner : IsWellHeld b.inner
      inner = well.inner

      q : Place
      q = place_of (innermost_held b)

      own : ClassEvents
      own = bracket_events b.inner

      -- the place in the innermost bracket, by a row of it alone
      alone : (begin : ℕ) (us : List CodePoint) → ClassTokenRow e (class_tokens_of own) outside us q (rest r) → begin + length us ≡ r.place + length (rest r) → IsItemPlace e begin us r.place (rest r)
      alone begin us row place_is = record {
        tokens = class_tokens_of own;
        at = q;
        inner = bracket_at b.inner;
        outer = [];
        begins = begins_place (innermost_held b);
        row = row;
        accepted = inner.opens;
        place_is = place_is;
      }

      go : (bs : List OpenBracket) → b.outer ≡ bs → Innermost (has_outer bs)
      go [] are =
          let row = subst (λ es. ClassRow e o es outside from.place (rest from) q r.place (rest r)) (inner_alone b are) h.row in
          let place_is = row_place e o own outside from.place (rest from) q r.place (rest r) row in record {
            begin = from.place;
            in_bracket = record {
              at_bracket = rest from;
              begins = of_class;
              item_place = alone from.place (rest from) (class_row_tokens e o own outside from.place (rest from) q r.place (rest r) row) place_is;
              innermost = refl;
            };
            at_is = refl;
            inner_is = refl;
            start_is = begins_at e o b.inner outside from.place (rest from) q r.place (rest r) row;
          }
      go (x ∷ bs) are =
          let before : ClassEvents = flat_map bracket_events (x ∷ bs) in
          let row = subst (λ es. ClassRow e o es outside from.place (rest from) q r.place (rest r)) (inner_after b (x ∷ bs) are) h.row in
          let s = split_row e o before own outside from.place (rest from) q r.place (rest r) row in
          let around = around_open x bs (subst (All IsAround) are well.outer) in
          let first = class_row_tokens e o before outside from.place (rest from) s.at s.place s.left s.first in
          let inside = after_opened e (class_tokens_of before) (around.inner ∷ around.outer) (rest from) s.at s.left around.opened first in
          let on = row_alone e (class_tokens_of own) (bracket_at b.inner ∷ []) s.at s.left q (rest r) inner.opens inside (class_row_tokens e o own s.at s.place s.left q r.place (rest r) s.others) in record {
            begin = s.place;
            in_bracket = record {
              at_bracket = s.left;
              begins = nested on.0 record {
                item_place = record {
                  tokens = class_tokens_of before;
                  at = s.at;
                  inner = around.inner;
                  outer = around.outer;
                  begins = on.1;
                  row = first;
                  accepted = around.opened;
                  place_is = row_place e o before outside from.place (rest from) s.at s.place s.left s.first;
                };
                takes = around.takes;
              };
              item_place = alone s.place s.left on.2 (row_place e o own s.at s.place s.left q r.place (rest r) s.others);
              innermost = refl;
            };
            at_is = refl;
            inner_is = refl;
            start_is = begins_at e o b.inner s.at s.place s.left q r.place (rest r) s.others;
          }
