-- Where units end, and what that says of offsets.
use Rattle.std.proofs.Common.{◌≡◌, ℕ, zero, suc, ◌+◌, ◌≤◌, Bool, true, false, ◌||◌, cond, nat_lt, List, [], ◌∷◌, ◌++◌, length, refl, sym, ◌∙◌, arith, append-nil, append_assoc, length-append, subst}
use Rattle.std.proofs.lemmas.Str.{length-encode, IsCharBoundary-at_seam, scalars-chars, encodes-chars}
use Rattle.std.proofs.lemmas.List.Elements.{All-cons, All-nil}
use Rattle.std.specs.Char.{len_utf8}
use Rattle.std.specs.Prelude.{All}
use Rattle.std.specs.Str.{IsCharBoundary, IsUtf8, chars}
use lib.Utf8.{encode, encodes, scalar, scalars}
use Rattle.rx_units.specs.declared.code_point.CodePoint.{CodePoint}
use Rattle.rx_units.specs.declared.code_point.EscapeKind.{EscapeKind}
use Rattle.rx_units.specs.declared.code_point.EscapeKind.TheVariants as kind
use Rattle.rx_units.specs.Cursor.{AreEnds}
use Rattle.rx_units.specs.Units.{character_units, end_of, lead_of, literal_units, offset_at, trail_of, unit}
use Rattle.rx_units.proofs.Choices.{both}

-- the units of one character before others
AreEnds-character : (text : List ℕ) (joined : Bool) (first start end c : ℕ) (k : EscapeKind) (us : List CodePoint) → first ≤ end → IsCharBoundary text end → AreEnds text end us → AreEnds text first (character_units joined start end c k ++ us)
AreEnds-character text joined first start end c k us order cut more =
    let e : end ≤ end = omega arith in
    elim (joined || nat_lt c 0x10000) as (λ b. AreEnds text first (cond b (unit start end c k ∷ []) (unit start end (lead_of c) k ∷ unit start end (trail_of c) k ∷ []) ++ us)) [ true ↦ (order, cut, more) | false ↦ (order, cut, (e, cut, more)) ]

AreEnds-append : (text : List ℕ) (first : ℕ) (us vs : List CodePoint) → AreEnds text first us → AreEnds text (end_of first us) vs → AreEnds text first (us ++ vs)
AreEnds-append text first [] vs ends more = more
AreEnds-append text first (u ∷ us) vs ends more = (ends.0, ends.1, AreEnds-append text u.span.end us vs ends.2 more)

end_of-append : (first : ℕ) (us vs : List CodePoint) → end_of first (us ++ vs) ≡ end_of (end_of first us) vs
end_of-append first [] vs = refl
end_of-append first (u ∷ us) vs = end_of-append u.span.end us vs

end_of-character : (joined : Bool) (first start end c : ℕ) (k : EscapeKind) → end_of first (character_units joined start end c k) ≡ end
end_of-character joined first start end c k =
    elim (joined || nat_lt c 0x10000) as (λ b. end_of first (cond b (unit start end c k ∷ []) (unit start end (lead_of c) k ∷ unit start end (trail_of c) k ∷ [])) ≡ end) [ true ↦ refl | false ↦ refl ]

-- the units of one character after others
module _ (text : List ℕ) (joined : Bool) (first start end c : ℕ) (k : EscapeKind) (us : List CodePoint) where
  pub ends_more : AreEnds text first us → end_of first us ≤ end → IsCharBoundary text end → AreEnds text first (us ++ character_units joined start end c k)
  ends_more ends order cut =
      AreEnds-append text first us (character_units joined start end c k) ends
      (subst (AreEnds text (end_of first us)) (append-nil (character_units joined start end c k)) (AreEnds-character text joined (end_of first us) start end c k [] order cut tt))

  pub end_more : end_of first (us ++ character_units joined start end c k) ≡ end
  end_more = end_of-append first us (character_units joined start end c k) ∙ end_of-character joined (end_of first us) start end c k

AreEnds-literal : (text following cs : List ℕ) (joined : Bool) (at : ℕ) → at ≡ length following → scalars cs ≡ true → text ≡ following ++ encodes cs → AreEnds text at (literal_units joined at cs)
AreEnds-literal text following [] joined at is s h = tt
AreEnds-literal text following (c ∷ cs) joined at is s h =
    let more = both (scalar c) (scalars cs) s in
    let e : at + len_utf8 c ≡ length (following ++ encode c) = omega (arith, length-append following (encode c), length-encode c) in
    let t = h ∙ sym (append_assoc following (encode c) (encodes cs)) in
    AreEnds-character text joined at at (at + len_utf8 c) c kind.None _ (omega arith)
    (rw e (IsCharBoundary-at_seam text (following ++ encode c) (encodes cs) t (cs, (more.1, refl))))
    (AreEnds-literal text (following ++ encode c) cs joined (at + len_utf8 c) e more.1 t)

pub literal_ends : (text : List ℕ) (joined : Bool) → IsUtf8 text → AreEnds text 0 (literal_units joined 0 (chars text))
literal_ends text joined h = AreEnds-literal text [] (chars text) joined 0 refl (scalars-chars text h) (sym (encodes-chars text h))

-- at each offset the text may be cut
pub offset_is_cut : (text : List ℕ) (first : ℕ) (us : List CodePoint) (place : ℕ) → IsCharBoundary text first → AreEnds text first us → IsCharBoundary text (offset_at first us place)
offset_is_cut text first us zero start ends = start
offset_is_cut text first [] (suc place) start ends = start
offset_is_cut text first (u ∷ us) (suc place) start ends = offset_is_cut text u.span.end us place ends.1 ends.2

first_le-offset_at : (text : List ℕ) (first : ℕ) (us : List CodePoint) (place : ℕ) → AreEnds text first us → first ≤ offset_at first us place
first_le-offset_at text first us zero ends = omega arith
first_le-offset_at text first [] (suc place) ends = omega arith
first_le-offset_at text first (u ∷ us) (suc place) ends = omega (arith, ends.0, first_le-offset_at text u.span.end us place ends.2)

-- offsets do not fall
pub offset_at_le : (text : List ℕ) (first : ℕ) (us : List CodePoint) (i j : ℕ) → i ≤ j → AreEnds text first us → offset_at first us i ≤ offset_at first us j
offset_at_le text first us zero j order ends = first_le-offset_at text first us j ends
offset_at_le text first us (suc i) zero order ends = absurd (omega arith)
offset_at_le text first [] (suc i) (suc j) order ends = omega arith
offset_at_le text first (u ∷ us) (suc i) (suc j) order ends = offset_at_le text u.span.end us i j (omega arith) ends.2

-- no unit ends after the text
pub ends_within : (text : List ℕ) (first : ℕ) (us : List CodePoint) → AreEnds text first us → All (λ unit. unit.span.end ≤ length text) us
ends_within text first [] ends = All-nil (λ unit. unit.span.end ≤ length text)
ends_within text first (u ∷ us) ends = All-cons (λ unit. unit.span.end ≤ length text) u us ends.1.0 (ends_within text u.span.end us ends.2)
