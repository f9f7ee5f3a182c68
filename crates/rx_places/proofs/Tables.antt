-- Tables of places in UTF-16.
use Rattle.std.proofs.Common.{◌≡◌, ◌∙◌, refl, ap, sym, subst, ◌⊎◌, inl, inr, ℕ, zero, suc, ◌+◌, ◌-◌, ◌<◌, ◌≤◌, ◌^◌, Bool, true, false, List, [], ◌∷◌, ◌++◌, length, length-append, append_assoc, get_or, drop, arith}
use Rattle.std.proofs.lemmas.Bool.{cases_lt, lt-ltb, le-ltb}
use Rattle.std.proofs.lemmas.List.{get_or_append_left, get_or-append_right, get_or-replicate, length-replicate, replicate-append-replicate, at_drop_more}
use Rattle.std.proofs.lemmas.Str.{chars_from_encodes, encodes-chars, encodes-IsAscii, IsUtf8-from_ascii, len_utf8_ascii, len_utf8_bounds, length-encode}
use Rattle.std.specs.Prelude.{nat_lt, replicate, if◌then◌else◌}
use Rattle.std.specs.Char.{len_utf8}
use Rattle.std.specs.Str.{IsAscii, IsUtf8, chars}
use lib.Utf8.{encode, encodes}
use Rattle.rx_places.specs.Places.{IsTable, all_bytes, all_units, later_units, len_utf16, units_at, units_before}

one_unit : (c : ℕ) → c < 0x10000 → len_utf16 c ≡ 1
one_unit c h = ap (λ b. if b then 1 else 2) (lt-ltb c 0x10000 h)

two_units : (c : ℕ) → 0x10000 ≤ c → len_utf16 c ≡ 2
two_units c h = ap (λ b. if b then 1 else 2) (le-ltb c 0x10000 h)

two_or_more : (a b : Bool) → 2 ≤ (if a then 2 else (if b then 3 else 4))
two_or_more true b = omega arith
two_or_more false true = omega arith
two_or_more false false = omega arith

wide : (c : ℕ) → 0x10000 ≤ c → 2 ≤ len_utf8 c
wide c h =
    subst (λ b. 2 ≤ (if b then 1 else (if nat_lt c 0x800 then 2 else (if nat_lt c 0x10000 then 3 else 4)))) (sym (le-ltb c 0x80 (omega (arith, h)))) (two_or_more (nat_lt c 0x800) (nat_lt c 0x10000))

few_by : (c : ℕ) → (c < 0x10000) ⊎ (0x10000 ≤ c) → len_utf16 c ≤ len_utf8 c
few_by c (inl h) = omega (arith, one_unit c h, (len_utf8_bounds c).0)
few_by c (inr h) = omega (arith, two_units c h, wide c h)

-- a character has no more code units than bytes
few_units : (c : ℕ) → len_utf16 c ≤ len_utf8 c
few_units c = few_by c (cases_lt c 0x10000)

pub all_units_fit : (cs : List ℕ) → all_units cs ≤ all_bytes cs
unfolding all_units all_bytes
all_units_fit [] = omega arith
all_units_fit (c ∷ cs) = omega (arith, few_units c, all_units_fit cs)

pub bytes_are : (cs : List ℕ) → all_bytes cs ≡ length (encodes cs)
unfolding all_bytes
bytes_are [] = refl
bytes_are (c ∷ cs) = omega (arith, length-append (encode c) (encodes cs), length-encode c, bytes_are cs)

pub none_before : (cs : List ℕ) → units_before cs 0 ≡ 0
unfolding units_before
none_before [] = refl
none_before (c ∷ cs) = refl

-- past the end the surplus stays
past : (cs : List ℕ) (n : ℕ) → all_bytes cs ≤ n → units_before cs n + all_bytes cs ≡ n + all_units cs
unfolding units_before all_units all_bytes
past [] n h = refl
past (c ∷ cs) zero h = absurd (omega (arith, h, (len_utf8_bounds c).0))
past (c ∷ cs) (suc n) h = omega (arith, h, (len_utf8_bounds c).0, past cs (suc n - len_utf8 c) (omega (arith, h)))

later_length : (u : ℕ) (cs : List ℕ) → length (later_units u cs) ≡ all_bytes cs
unfolding later_units all_bytes
later_length u [] = refl
later_length u (c ∷ cs) =
    omega (arith, length-append (replicate (len_utf8 c) (u + len_utf16 c)) (later_units (u + len_utf16 c) cs), length-replicate (len_utf8 c) (u + len_utf16 c), later_length (u + len_utf16 c) cs)

later_in : (u : ℕ) (c : ℕ) (cs : List ℕ) (n : ℕ) → n < len_utf8 c + all_bytes cs → (n < len_utf8 c) ⊎ (len_utf8 c ≤ n)
    → ((m : ℕ) → m < all_bytes cs → get_or (later_units (u + len_utf16 c) cs) m 0 ≡ u + len_utf16 c + units_before cs (suc m))
    → get_or (replicate (len_utf8 c) (u + len_utf16 c) ++ later_units (u + len_utf16 c) cs) n 0 ≡ u + (len_utf16 c + units_before cs (suc n - len_utf8 c))
later_in u c cs n h (inl k) more =
    let z : suc n - len_utf8 c ≡ 0 = omega (arith, k) in
    get_or_append_left (replicate (len_utf8 c) (u + len_utf16 c)) (later_units (u + len_utf16 c) cs) 0 n (omega (arith, k, length-replicate (len_utf8 c) (u + len_utf16 c)))
    ∙ get_or-replicate (len_utf8 c) n (u + len_utf16 c) 0 k
    ∙ omega (arith, ap (units_before cs) z, none_before cs)
later_in u c cs n h (inr k) more =
    let z : suc (n - len_utf8 c) ≡ suc n - len_utf8 c = omega (arith, k) in
    get_or-append_right (replicate (len_utf8 c) (u + len_utf16 c)) (later_units (u + len_utf16 c) cs) (len_utf8 c) n 0 (length-replicate (len_utf8 c) (u + len_utf16 c)) k
    ∙ more (n - len_utf8 c) (omega (arith, h, k))
    ∙ omega (arith, ap (units_before cs) z)

later_at : (u : ℕ) (cs : List ℕ) (n : ℕ) → n < all_bytes cs → get_or (later_units u cs) n 0 ≡ u + units_before cs (suc n)
unfolding later_units units_before all_bytes
later_at u [] n h = absurd (omega (arith, h))
later_at u (c ∷ cs) n h = later_in u c cs n h (cases_lt n (len_utf8 c)) (λ m k. later_at (u + len_utf16 c) cs m k)

-- a place in UTF-16 is no further than the one in bytes, or than the end
within : (cs : List ℕ) (n : ℕ) → (units_before cs n ≤ n) ⊎ (units_before cs n ≤ all_bytes cs)
unfolding units_before all_bytes
within [] n = inl (omega arith)
within (c ∷ cs) zero = inl (omega arith)
within (c ∷ cs) (suc n) = by_case (cases_lt n (len_utf8 c)) (within cs (suc n - len_utf8 c))
  where
    by_case : (n < len_utf8 c) ⊎ (len_utf8 c ≤ n) → (units_before cs (suc n - len_utf8 c) ≤ suc n - len_utf8 c) ⊎ (units_before cs (suc n - len_utf8 c) ≤ all_bytes cs)
        → (len_utf16 c + units_before cs (suc n - len_utf8 c) ≤ suc n) ⊎ (len_utf16 c + units_before cs (suc n - len_utf8 c) ≤ len_utf8 c + all_bytes cs)
    by_case (inl k) (inl h) = inr (omega (arith, k, h, few_units c))
    by_case (inr k) (inl h) = inl (omega (arith, k, h, few_units c))
    by_case k (inr h) = inr (omega (arith, h, few_units c))

-- so it fits where the end fits
fits_by : (cs : List ℕ) (offset place : ℕ) → offset + all_bytes cs < 2 ^ 32 → place < 2 ^ 32
    → (units_before cs (place - offset) ≤ place - offset) ⊎ (units_before cs (place - offset) ≤ all_bytes cs) → offset + units_before cs (place - offset) < 2 ^ 32
fits_by cs offset place h k (inl e) = omega (arith, h, k, e)
fits_by cs offset place h k (inr e) = omega (arith, h, k, e)

pub utf16_fits : (cs : List ℕ) (offset place : ℕ) → offset + all_bytes cs < 2 ^ 32 → place < 2 ^ 32 → offset + units_before cs (place - offset) < 2 ^ 32
utf16_fits cs offset place h k = fits_by cs offset place h k (within cs (place - offset))

table_at : (cs : List ℕ) (n : ℕ) → n < suc (length (later_units 0 cs)) → get_or (0 ∷ later_units 0 cs) n 0 ≡ units_before cs n
table_at cs zero k = sym (none_before cs)
table_at cs (suc n) k = omega (arith, later_at 0 cs n (omega (arith, k, later_length 0 cs)))

-- the table that is made of a text
pub table_is : (cs : List ℕ) → IsTable cs (0 ∷ later_units 0 cs) (all_bytes cs - all_units cs)
table_is cs = record { tells = λ n. by_case n (cases_lt n (suc (length (later_units 0 cs)))); within = omega (arith, later_length 0 cs) }
  where
    surplus : ℕ
    surplus = all_bytes cs - all_units cs

    by_case : (n : ℕ) → (n < suc (length (later_units 0 cs))) ⊎ (suc (length (later_units 0 cs)) ≤ n) → units_at (0 ∷ later_units 0 cs) surplus n ≡ units_before cs n
    by_case n (inl k) =
        ap (λ b. if b then get_or (0 ∷ later_units 0 cs) n 0 else n - surplus) (lt-ltb n (suc (length (later_units 0 cs))) k) ∙ table_at cs n k
    by_case n (inr k) =
        ap (λ b. if b then get_or (0 ∷ later_units 0 cs) n 0 else n - surplus) (le-ltb n (suc (length (later_units 0 cs))) k)
        ∙ omega (arith, past cs n (omega (arith, k, later_length 0 cs)), all_units_fit cs)

ascii_before : (bs : List ℕ) (n : ℕ) → IsAscii bs → units_before bs n ≡ n
unfolding units_before
ascii_before [] n h = refl
ascii_before (b ∷ bs) zero h = refl
ascii_before (b ∷ bs) (suc n) h =
    let z : suc n - len_utf8 b ≡ n = omega (arith, len_utf8_ascii b (h 0)) in
    omega (arith, one_unit b (omega (arith, h 0)), ap (units_before bs) z, ascii_before bs n (λ i. h (suc i)))

ascii_chars : (bs : List ℕ) → IsAscii bs → chars bs ≡ bs
ascii_chars bs h = sym (chars_from_encodes bs bs (IsUtf8-from_ascii bs h) (encodes-IsAscii bs h))

-- a text of one byte a character needs no table
pub ascii_table : (bs : List ℕ) → IsAscii bs → IsTable (chars bs) [] 0
ascii_table bs h = record {
  tells = λ n. ap (λ b. if b then get_or [] n 0 else n - 0) (le-ltb n 0 (omega arith)) ∙ omega (arith, ap (λ cs. units_before cs n) (ascii_chars bs h), ascii_before bs n h);
  within = omega arith;
}

-- one more of a number
pub often_more : (number n : ℕ) (old table new : List ℕ) → table ≡ old ++ replicate n number → new ≡ table ++ number ∷ [] → new ≡ old ++ replicate (n + 1) number
often_more number n old table new e f =
    f ∙ ap (λ (xs : List ℕ). xs ++ number ∷ []) e ∙ append_assoc old (replicate n number) (number ∷ [])
    ∙ ap (λ (xs : List ℕ). old ++ xs) (replicate-append-replicate n 1 number)

-- one character more of a text
module _ (cs : List ℕ) (n c : ℕ) (turn : (n < length cs) × (c ≡ get_or cs n c)) where
  later_turn : (units : ℕ) → later_units units (drop n cs) ≡ replicate (len_utf8 c) (units + len_utf16 c) ++ later_units (units + len_utf16 c) (drop (n + 1) cs)
  unfolding later_units
  later_turn units = at_drop_more (later_units units) cs n c turn.0 ∙ ap (λ x. later_units units (x ∷ drop (n + 1) cs)) (sym turn.1)

  units_turn : all_units (drop n cs) ≡ len_utf16 c + all_units (drop (n + 1) cs)
  unfolding all_units
  units_turn = at_drop_more all_units cs n c turn.0 ∙ ap (λ x. all_units (x ∷ drop (n + 1) cs)) (sym turn.1)

  later_plain : (units : ℕ) (old new all : List ℕ) → old ++ later_units units (drop n cs) ≡ all → new ≡ old ++ replicate (len_utf8 c) (units + len_utf16 c)
      → new ++ later_units (units + len_utf16 c) (drop (n + 1) cs) ≡ all
  later_plain units old new all so_far pushed =
      ap (λ (xs : List ℕ). xs ++ later_units (units + len_utf16 c) (drop (n + 1) cs)) pushed
      ∙ append_assoc old (replicate (len_utf8 c) (units + len_utf16 c)) (later_units (units + len_utf16 c) (drop (n + 1) cs))
      ∙ ap (λ (xs : List ℕ). old ++ xs) (sym (later_turn units)) ∙ so_far

  pub later_on : (units count width : ℕ) (old new all : List ℕ) → count ≡ len_utf8 c → width ≡ len_utf16 c → old ++ later_units units (drop n cs) ≡ all
      → new ≡ old ++ replicate count (units + width) → new ++ later_units (units + width) (drop (n + 1) cs) ≡ all
  later_on units count width old new all e f so_far pushed =
      ap (λ (w : ℕ). new ++ later_units (units + w) (drop (n + 1) cs)) f
      ∙ later_plain units old new all so_far
      (pushed ∙ ap (λ (k : ℕ). old ++ replicate k (units + width)) e ∙ ap (λ (w : ℕ). old ++ replicate (len_utf8 c) (units + w)) f)

  pub units_on : (units width all : ℕ) → width ≡ len_utf16 c → units + all_units (drop n cs) ≡ all → units + width + all_units (drop (n + 1) cs) ≡ all
  units_on units width all e so_far = omega (arith, e, so_far, units_turn)

  pub units_stay : (units width : ℕ) → width ≡ len_utf16 c → units + all_units (drop n cs) ≡ all_units cs → units + width ≤ all_bytes cs
  units_stay units width e so_far = omega (arith, e, so_far, units_turn, all_units_fit cs)

-- a text has as many bytes as its characters
pub text_bytes : (bytes : List ℕ) → IsUtf8 bytes → all_bytes (chars bytes) ≡ length bytes
text_bytes bytes utf8 = bytes_are (chars bytes) ∙ ap length (encodes-chars bytes utf8)

-- what the code keeps of a text that is not ASCII
pub table_told : (cs table : List ℕ) (all bytes : ℕ) → table ≡ 0 ∷ later_units 0 cs → all ≡ all_units cs → all_bytes cs ≡ bytes → IsTable cs table (bytes - all)
table_told cs table all bytes e f g =
    let s : bytes - all ≡ all_bytes cs - all_units cs = omega (arith, f, g) in
    subst (λ t. IsTable cs t (bytes - all)) (sym e) (subst (λ k. IsTable cs (0 ∷ later_units 0 cs) k) (sym s) (table_is cs))
