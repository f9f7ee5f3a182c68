-- What stands between the escapes of a text in colour.
use Rattle.std.proofs.Common.{◌≡◌, refl, ap, sym, ◌∙◌, ℕ, ◌+◌, ◌-◌, ◌/◌, ◌%◌, ◌≤◌, true, false, nat_lt, arith, IsTrue, List, [], ◌∷◌, ◌++◌, append_assoc, length, take, drop, codes}
use Rattle.std.specs.Prelude.{◌||◌, not, nat_eq, if◌then◌else◌, slice_range}
use Rattle.std.specs.List.{flat_map}
use Rattle.std.proofs.lemmas.Bool.Decides.{nat_tests}
use Rattle.std.proofs.lemmas.Grind.{flat_map-append}
use Rattle.std.proofs.lemmas.List.{drop-drop, take_all}
use Rattle.std.proofs.lemmas.List.Elements.{All-head, All-tail}
use Rattle.std.proofs.Math.Seq.{take-add}
use Rattle.rx_base.specs.Ascii as ascii
use Rattle.rx_paint.specs.declared.token.Kind.{Kind}
use Rattle.rx_paint.specs.declared.token.Kind.TheVariants.{Char, Escape, Dot, Set, Class, Assert, Group, Modifier, Quantifier, Reference, Bar, Other}
use Rattle.rx_paint.specs.declared.token.Token.{Token}
use Rattle.rx_paint.specs.Runs.{Tile}
use Rattle.rx_paint_reply.specs.Colors.{color, color_reply, hex_digit, plain, shown_byte, shown_text, text_in_color, token_in_color}
use Rattle.rx_paint_reply.specs.Escapes.{HaveNoControl, bytes_outside, without_escapes}

-- a byte that is no ESC stands outside
kept : (b : ℕ) (rest : List ℕ) → nat_eq b 27 ≡ false → bytes_outside false (b ∷ rest) ≡ b ∷ bytes_outside false rest
kept b rest other = ap (λ t. if t then bytes_outside true rest else b ∷ bytes_outside false rest) other

digit_kept : (n : ℕ) → nat_eq (hex_digit n) 27 ≡ false
digit_kept n = elim (nat_lt n 10) as (λ t. nat_eq (if t then ascii.zero + n else (ascii.a - 10) + n) 27 ≡ false) [ true ↦ grind (arith, nat_tests) | false ↦ grind (arith, nat_tests) ]

byte_kept : (b : ℕ) → (nat_lt b 32 || nat_eq b 127) ≡ false → nat_eq b 27 ≡ false
byte_kept b printed = grind (arith, nat_tests)

outside_byte : (b : ℕ) (rest : List ℕ) → bytes_outside false (shown_byte b ++ rest) ≡ shown_byte b ++ bytes_outside false rest
outside_byte b rest =
    let x = hex_digit (b / 16) in
    let y = hex_digit (b % 16) in
    elim (nat_lt b 32 || nat_eq b 127) as (λ t. (nat_lt b 32 || nat_eq b 127) ≡ t →
    bytes_outside false ((if t then codes "\\x" ++ (x ∷ y ∷ []) else b ∷ []) ++ rest) ≡ (if t then codes "\\x" ++ (x ∷ y ∷ []) else b ∷ []) ++ bytes_outside false rest) [
      | true ↦ λ control. ap (λ (bs : List ℕ). codes "\\x" ++ bs) (kept x (y ∷ rest) (digit_kept (b / 16)) ∙ ap (λ (bs : List ℕ). x ∷ bs) (kept y rest (digit_kept (b % 16))))
      | false ↦ λ printed. kept b rest (byte_kept b printed)
    ] refl

outside_shown : (text rest : List ℕ) → bytes_outside false (shown_text text ++ rest) ≡ shown_text text ++ bytes_outside false rest
outside_shown [] rest = refl
outside_shown (b ∷ bs) rest =
    ap (bytes_outside false) (append_assoc (shown_byte b) (shown_text bs) rest) ∙ outside_byte b (shown_text bs ++ rest)
    ∙ ap (λ (text : List ℕ). shown_byte b ++ text) (outside_shown bs rest) ∙ sym (append_assoc (shown_byte b) (shown_text bs) (bytes_outside false rest))

outside_color : (k : Kind) (rest : List ℕ) → bytes_outside false (color k ++ rest) ≡ bytes_outside false rest
outside_color Char rest = refl
outside_color Escape rest = refl
outside_color Dot rest = refl
outside_color Set rest = refl
outside_color Class rest = refl
outside_color Assert rest = refl
outside_color Group rest = refl
outside_color Modifier rest = refl
outside_color Quantifier rest = refl
outside_color Reference rest = refl
outside_color Bar rest = refl
outside_color Other rest = refl

-- the part of a text that a token covers, as it is shown
abbrev part : List ℕ → Token → List ℕ
part text t = shown_text (slice_range text t.span.start t.span.end)

outside_token : (text : List ℕ) (t : Token) (rest : List ℕ) → bytes_outside false (token_in_color text t ++ rest) ≡ part text t ++ bytes_outside false rest
outside_token text t rest =
    ap (bytes_outside false) (append_assoc (color t.kind ++ part text t) plain rest ∙ append_assoc (color t.kind) (part text t) (plain ++ rest))
    ∙ outside_color t.kind (part text t ++ (plain ++ rest)) ∙ outside_shown (slice_range text t.span.start t.span.end) (plain ++ rest)

outside_text : (text : List ℕ) (ts : List Token) (rest : List ℕ) → bytes_outside false (text_in_color text ts ++ rest) ≡ flat_map (part text) ts ++ bytes_outside false rest
outside_text text [] rest = refl
outside_text text (t ∷ ts) rest =
    ap (bytes_outside false) (append_assoc (token_in_color text t) (text_in_color text ts) rest) ∙ outside_token text t (text_in_color text ts ++ rest)
    ∙ ap (λ (bytes : List ℕ). part text t ++ bytes) (outside_text text ts rest) ∙ sym (append_assoc (part text t) (flat_map (part text) ts) (bytes_outside false rest))

slices : (text : List ℕ) (low mid high : ℕ) → low ≤ mid → mid ≤ high → slice_range text low high ≡ slice_range text low mid ++ slice_range text mid high
slices text low mid high a b =
    let whole : high - low ≡ (mid - low) + (high - mid) = omega arith in
    let past : low + (mid - low) ≡ mid = omega arith in
    ap (λ n. take n (drop low text)) whole ∙ take-add (mid - low) (high - mid) (drop low text)
    ∙ ap (λ (rest : List ℕ). slice_range text low mid ++ take (high - mid) rest) (drop-drop (mid - low) low text ∙ ap (λ n. drop n text) past)

pub tile_le : (ts : List Token) (low high : ℕ) → Tile low high ts → low ≤ high
tile_le [] low high tile = omega arith
tile_le (t ∷ ts) low high tile =
    let some = tile.1 in
    let more = tile_le ts t.span.end high tile.2 in
    omega arith

no_slice : (text : List ℕ) (low high : ℕ) → low ≡ high → slice_range text low high ≡ []
no_slice text low high same =
    let none : high - low ≡ 0 = omega arith in
    ap (λ n. take n (drop low text)) none

parts : (text : List ℕ) (ts : List Token) (low high : ℕ) → Tile low high ts → flat_map (part text) ts ≡ shown_text (slice_range text low high)
parts text [] low high tile = sym (ap shown_text (no_slice text low high tile))
parts text (t ∷ ts) low high tile =
    let mid = t.span.end in
    let some = tile.1 in
    ap (λ start. shown_text (slice_range text start mid) ++ flat_map (part text) ts) tile.0
    ∙ ap (λ (more : List ℕ). shown_text (slice_range text low mid) ++ more) (parts text ts mid high tile.2)
    ∙ sym (flat_map-append shown_byte (slice_range text low mid) (slice_range text mid high))
    ∙ ap shown_text (sym (slices text low mid high (omega arith) (tile_le ts mid high tile.2)))

-- Where tokens tile a text, what stands between the escapes is the text as it is shown.
module _ (text : List ℕ) (ts : List Token) (tile : Tile 0 (length text) ts) where
  outside_all : (rest : List ℕ) → bytes_outside false (text_in_color text ts ++ rest) ≡ shown_text text ++ bytes_outside false rest
  outside_all rest =
      let count : length text - 0 ≡ length text = omega arith in
      let whole : slice_range text 0 (length text) ≡ text = ap (λ n. take n text) count ∙ take_all (length text) text (omega arith) in
      outside_text text ts rest ∙ ap (λ (bytes : List ℕ). bytes ++ bytes_outside false rest) (parts text ts 0 (length text) tile ∙ ap shown_text whole)

  pub reply_outside : without_escapes (color_reply text ts) ≡ codes "ok\t" ++ shown_text text ++ codes "\n"
  reply_outside =
      ap (λ (bytes : List ℕ). codes "ok\t" ++ bytes) (outside_all (codes "\n"))

-- A text with no control character is shown as it is.
pub shown_as_it_is : (text : List ℕ) → HaveNoControl text → shown_text text ≡ text
shown_as_it_is [] none = refl
shown_as_it_is (b ∷ bs) none =
    let P : ℕ → Type 0 = λ b. IsTrue (not (nat_lt b 32 || nat_eq b 127)) in
    let here : (nat_lt b 32 || nat_eq b 127) ≡ false = grind (arith, nat_tests, All-head P b bs none) in
    ap (λ t. (if t then codes "\\x" ++ (hex_digit (b / 16) ∷ hex_digit (b % 16) ∷ []) else b ∷ []) ++ shown_text bs) here
    ∙ ap (λ (more : List ℕ). b ∷ more) (shown_as_it_is bs (All-tail P b bs none))
