-- The spans of what a reader has moved over, by places.
use Rattle.std.proofs.Common.{◌≡◌, ℕ, ◌+◌, ◌-◌, ◌≤◌, List, length, min, ap, ap₂, ◌∙◌, arith}
use Rattle.rx_class.proofs.Common.{Span, CodePoint, Cursor, move_on, offset_of, offset_at, span_between, span_to}
use Rattle.std.proofs.lemmas.List.{take_min}
use Rattle.rx_units.specs.Units.{end_of}

-- past the end the offset is that of the end
capped : (first : ℕ) (us : List CodePoint) (n : ℕ) → offset_at first us (min n (length us)) ≡ offset_at first us n
capped first us n = ap (end_of first) (take_min n us)

moved_offset : (r : Cursor) (n : ℕ) → offset_of (move_on n r) ≡ offset_at r.first r.units (r.place + n)
moved_offset r n = capped r.first r.units (r.place + n)

twice_moved : (r : Cursor) (a c : ℕ) → offset_of (move_on c (move_on a r)) ≡ offset_at r.first r.units (r.place + a + c)
twice_moved r a c =
    ap (offset_at r.first r.units) (let e : min (min (r.place + a) (length r.units) + c) (length r.units) ≡ min (r.place + a + c) (length r.units) = grind arith in e)
    ∙ capped r.first r.units (r.place + a + c)

-- a span between two offsets that are known
abbrev between : ℕ → ℕ → ℕ → Span
between added s e = record { start = s + added; end = e + added }

pub ahead_span : (r after following : Cursor) (a c added s : ℕ) (span : Span) → after ≡ move_on a r → s ≡ offset_of after → following ≡ move_on c after → span ≡ span_to added s following
    → span ≡ span_between r.units r.first added (r.place + a) (r.place + a + c)
ahead_span r after following a c added s span moves start on is =
    is ∙ ap₂ (between added) (start ∙ ap offset_of moves ∙ moved_offset r a) (ap offset_of (on ∙ ap (move_on c) moves) ∙ twice_moved r a c)

pub cut_off : (r after : Cursor) (n added s : ℕ) (span : Span) → 1 ≤ r.place → s ≡ offset_at r.first r.units (r.place - 1) → after ≡ move_on n r → span ≡ span_to added s after
    → span ≡ span_between r.units r.first added (r.place - 1) (r.place - 1 + 1 + n)
cut_off r after n added s span some start moves is =
    is ∙ ap₂ (between added) start (ap offset_of moves ∙ moved_offset r n ∙ ap (offset_at r.first r.units) (let k : r.place + n ≡ r.place - 1 + 1 + n = omega (arith, some) in k))

-- the same span by the place of the backslash
pub from_before : (r : Cursor) (added a c : ℕ) (span : Span) → 1 ≤ r.place → span ≡ span_between r.units r.first added (r.place + a) (r.place + a + c)
    → span ≡ span_between r.units r.first added (r.place - 1 + 1 + a) (r.place - 1 + 1 + a + c)
from_before r added a c span some is = is ∙ ap (λ p. span_between r.units r.first added (p + a) (p + a + c)) (let k : r.place ≡ r.place - 1 + 1 = omega (arith, some) in k)

pub from_brace : (r : Cursor) (added c : ℕ) (span : Span) → 1 ≤ r.place → span ≡ span_between r.units r.first added (r.place + 2) (r.place + 2 + c)
    → span ≡ span_between r.units r.first added (r.place - 1 + 3) (r.place - 1 + 3 + c)
from_brace r added c span some is = is ∙ ap (λ p. span_between r.units r.first added p (p + c)) (let k : r.place + 2 ≡ r.place - 1 + 3 = omega (arith, some) in k)

-- the span of the next units
pub next_span : (r after : Cursor) (n added s : ℕ) (span : Span) → s ≡ offset_of r → after ≡ move_on n r → span ≡ span_to added s after → span ≡ span_between r.units r.first added r.place (r.place + n)
next_span r after n added s span start moves is = is ∙ ap₂ (between added) start (ap offset_of moves ∙ moved_offset r n)
