-- What is found after `\p{` and `\P{` is what stands there, in a mode that has properties.
use Rattle.std.proofs.Common.{◌≡◌, ◌≢◌, ℕ, ◌+◌, ◌⊎◌, inl, inr, Bool, true, false, ◌&&◌, List, [], ◌∷◌, ◌++◌, Option, Some, length, refl, sym, ap, ◌∙◌, subst, arith, length-append}
use Rattle.rx_class.proofs.Common.{and-false, CodePoint, values, Mode, starts, is_sets, is_unicode, HasPair, HasRun, begins_property, sets_is, not_sets, unicode_alone, starts_there, IsLone}
use Rattle.rx_class.proofs.Common.{IsPropertyAfter, IsPropertyHalt}
use Rattle.std.proofs.lemmas.List.{append_assoc}
use Rattle.rx_tables.specs.Properties.{IsValidUnicodeProperty}
use Rattle.rx_ast.specs.Texts.{property_opener}
use Rattle.rx_model.specs.Refusals.EscapeCauses.{BeginsProperty, no_property, unterminated_run, unclosed_run, unclosed_pair, unknown_pair, unknown_run, of_strings, negative_of_strings}
use Rattle.rx_model.specs.Properties.PropertyEscapes.{SpellsProperty, pair}
use Rattle.rx_model.specs.Properties.PropertyForms.{IsKnownRun}
use Rattle.rx_class.specs.declared.properties.found.Lone.TheVariants as lone
use Rattle.rx_class.specs.declared.properties.found.PropertyHalt.TheVariants as halt
use Rattle.rx_class.specs.declared.properties.found.Lone.{Lone}
use Rattle.rx_class.specs.PropertyReading.Found.{is_known, property_letter, unknown_halt}

letter_begins : (negative : Bool) → begins_property (property_letter negative) ≡ true
letter_begins true = refl
letter_begins false = refl

opener_is : (negative : Bool) (w : List ℕ) → 92 ∷ property_letter negative ∷ 123 ∷ w ≡ property_opener negative ++ w
opener_is true w = refl
opener_is false w = refl

module _ (mode : Mode) (unicode : is_unicode mode ≡ true) (negative : Bool) where
  begins : (rest : List CodePoint) (w : List ℕ) → values rest ≡ 92 ∷ property_letter negative ∷ 123 ∷ w → BeginsProperty mode (values rest) w
  begins rest w whole = record { letter = property_letter negative; unicode = unicode; letter_is = letter_begins negative; whole = whole }

  -- no `{` follows
  pub no_brace : (following : List ℕ) → starts 123 following ≡ false → IsPropertyHalt mode (property_letter negative ∷ following) (halt.Unterminated 1)
  no_brace following other us rest first added place whole =
      let e : place + 1 + 1 ≡ place + 2 = omega arith in
      rw e (no_property (property_letter negative) following unicode whole (letter_begins negative) other)

  -- a text and the `}` after it are a property
  spelled_before : (strings : Bool) (name : List ℕ) (value : Option (List ℕ)) (text w following : List ℕ) (n : ℕ) → w ≡ text ++ following → starts 125 following ≡ true → SpellsProperty mode strings name value text
      → n ≡ 3 + length text → (negative && strings) ≡ false → IsPropertyAfter mode (property_letter negative ∷ 123 ∷ w) negative strings name value n
  spelled_before strings name value text w following n there closed spelled count obeys =
      let close = starts_there 125 following closed in
      record {
        text = text;
        spelled = spelled;
        front = property_letter negative ∷ 123 ∷ (text ++ (125 ∷ []));
        rest = close.0;
        front_is = opener_is negative (text ++ (125 ∷ []));
        whole = ap (λ w. property_letter negative ∷ 123 ∷ w) (there ∙ ap (λ b. text ++ b) close.1 ∙ sym (append_assoc text (125 ∷ []) close.0));
        count_is = omega (arith, count, length-append text (125 ∷ []));
        obeys = obeys;
      }

  module _ (w name value following : List ℕ) (p : HasPair w name value following) (n m : ℕ) (names : n ≡ length name) (counts : m ≡ length value) where
    pub pair_unclosed : IsValidUnicodeProperty name value → starts 125 following ≡ false → IsPropertyHalt mode (property_letter negative ∷ 123 ∷ w) (halt.Unterminated (3 + n + m))
    pair_unclosed valid unclosed us rest first added place whole =
        let e : place + 1 + (3 + n + m) ≡ place + 4 + length name + length value = omega (arith, names, counts) in
        rw e (unclosed_pair w name value following (begins rest w whole) p valid unclosed)

    pub pair_unknown : (IsValidUnicodeProperty name value → ⊥) → IsPropertyHalt mode (property_letter negative ∷ 123 ∷ w) (halt.Name (3 + n) m)
    pair_unknown unknown us rest first added place whole =
        let e : place + 1 + (3 + n) ≡ place + 4 + length name = omega (arith, names) in
        rw (e, counts) (unknown_pair w name value following (begins rest w whole) p unknown)

    pub pair_spelled : IsValidUnicodeProperty name value → starts 125 following ≡ true → IsPropertyAfter mode (property_letter negative ∷ 123 ∷ w) negative false name (Some value) (4 + n + m)
    pair_spelled valid closed =
        let whole = p.whole ∙ ap (λ v. name ++ (61 ∷ v)) p.run.whole ∙ sym (append_assoc name (61 ∷ value) following) in
        spelled_before false name (Some value) (name ++ (61 ∷ value)) w following (4 + n + m) whole closed (pair valid) (omega (arith, length-append name (61 ∷ value), names, counts)) (and-false negative)

  module _ (w word following : List ℕ) (r : HasRun w word following) (n : ℕ) (count : n ≡ length word) where
    cut_off_at : (place : ℕ) → place + 1 + (2 + n) ≡ place + 3 + length word
    cut_off_at place = omega (arith, count)

    pub run_unterminated : (word ≡ []) ⊎ (following ≡ []) → IsPropertyHalt mode (property_letter negative ∷ 123 ∷ w) (halt.Unterminated (2 + n))
    run_unterminated short us rest first added place whole = rw (cut_off_at place) (unterminated_run w word following (begins rest w whole) r short)

    pub run_unclosed : IsKnownRun mode word → following ≢ [] → starts 125 following ≡ false → IsPropertyHalt mode (property_letter negative ∷ 123 ∷ w) (halt.Unterminated (2 + n))
    run_unclosed known some unclosed us rest first added place whole = rw (cut_off_at place) (unclosed_run w word following (begins rest w whole) r known some unclosed)

    pub run_unknown : (lone : Lone) → IsLone word lone → word ≢ [] → following ≢ [] → is_known lone (is_sets mode) ≡ false → IsPropertyHalt mode (property_letter negative ∷ 123 ∷ w) (unknown_halt lone word n)
    run_unknown lone.OfStrings named some more unknown us rest first added place whole =
        rw count (of_strings w word following (unicode_alone mode unknown unicode) (begins rest w whole) r more (λ known. elim known [
          | inl h ↦ named.0 h
          | inr h ↦ elim h [ inl k ↦ named.1 k | inr k ↦ not_sets mode unknown k.0 ]
        ]) named.2)
    run_unknown lone.Nothing named some more unknown us rest first added place whole =
        rw count (unknown_run w word following (begins rest w whole) r some more (λ known. elim known [
          | inl h ↦ named.0 h
          | inr h ↦ elim h [ inl k ↦ named.1 k | inr k ↦ named.2 k.1 ]
        ]) named.2)
    run_unknown other named some more unknown us rest first added place whole = absurd (let no : ⊥ = cc unknown in no)

  -- A word that names a property stands alone between the braces.
  module _ (w word following : List ℕ) (r : HasRun w word following) (closed : starts 125 following ≡ true) (n : ℕ) (count : n ≡ length word) where
    pub word_spelled : (strings : Bool) (name : List ℕ) (value : Option (List ℕ)) → SpellsProperty mode strings name value word → (negative && strings) ≡ false
        → IsPropertyAfter mode (property_letter negative ∷ 123 ∷ w) negative strings name value (3 + n)
    word_spelled strings name value spelled obeys = spelled_before strings name value word w following (3 + n) r.is_run.whole closed spelled (omega (arith, count)) obeys

    pub negative_refused : negative ≡ true → is_sets mode ≡ true → IsLone word lone.OfStrings → IsPropertyHalt mode (property_letter negative ∷ 123 ∷ w) (halt.NegativeOfStrings word (3 + n))
    negative_refused is sets_too named us rest first added place whole =
        let close = starts_there 125 following closed in
        let end : place + 1 + (3 + n) ≡ place + 4 + length word = omega (arith, count) in
        rw end (negative_of_strings w word close.0 (sets_is mode sets_too) (whole ∙ ap (λ negative. 92 ∷ property_letter negative ∷ 123 ∷ w) is) (subst (HasRun w word) close.1 r)
        named.0 named.1 named.2)

-- A word that names a property is a run that is known.
pub known_run : (mode : Mode) (word : List ℕ) (lone : Lone) → IsLone word lone → is_known lone (is_sets mode) ≡ true → IsKnownRun mode word
known_run mode word lone.Category named known = inl named
known_run mode word lone.Binary named known = inr (inl named.1)
known_run mode word lone.OfStrings named known = inr (inr (sets_is mode known, named.2))
known_run mode word lone.Nothing named known = absurd (let no : ⊥ = cc known in no)

pub valid_texts : (a b x y : List ℕ) → a ≡ x → b ≡ y → IsValidUnicodeProperty a b → IsValidUnicodeProperty x y
valid_texts a b x y e f h = subst (λ x. IsValidUnicodeProperty x y) e (subst (λ y. IsValidUnicodeProperty a y) f h)
