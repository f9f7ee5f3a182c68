-- How many looks it takes to find what stands at the front.
use Rattle.std.proofs.Common.{◌≡◌, ◌∙◌, refl, ap, sym, ℕ, ◌+◌, ◌-◌, ◌*◌, ◌≤◌, ◌==◌, ◌||◌, Bool, true, false, inl, inr, List, [], ◌∷◌, ◌++◌, length, drop, min, arith, if◌then◌else◌}
use Rattle.rx_parser.proofs.Common.{nat_tests, Rises, is_decimal_digit, CodePoint, values, starts, Environment, is_unicode, escape_read, found_front, LooksAtEscape, LooksAtSyntax, digit_run, halt_looks, looks, name_looks, plain, token_looks, CharacterKind, SpellsLegacy, begins_property, any_refused, values_drop}
use Rattle.rx_parser.proofs.Common.{any_spelled, seen_escape}
use Rattle.std.proofs.lemmas.Bool.{cases_Bool, cond-false, true≢false}
use Rattle.std.specs.List.{prefix_len}
use Rattle.rx_units.specs.OctalEscapes.{SpellsOctal}
use Rattle.rx_units.specs.OctalEscapes as octal
use Rattle.rx_model.specs.Characters.EscapeFronts.{any_escape_at, escaped, too_many}
use Rattle.rx_model.specs.Characters.Escapes.{SpellsEscape}
use Rattle.rx_model.specs.Characters.Escapes as spelled
use Rattle.rx_model.specs.Characters.LegacyEscapes as legacy
use Rattle.rx_class.specs.EscapeReading.Steps.{most_looks}
use Rattle.rx_class.specs.declared.escapes.found.EscapeFound.{EscapeFound}
use Rattle.rx_class.specs.declared.escapes.found.EscapeFound.TheVariants as escape
use Rattle.rx_class.proofs.EscapeReading.Bounds.{read_within}
use Rattle.rx_class.proofs.EscapeReading.Steps.{spelled_long}
use Rattle.rx_scan.proofs.MarkSteps.{values_length}
use Rattle.rx_parser.specs.declared.found.Found.{Found}
use Rattle.rx_parser.specs.declared.found.Found.TheVariants as found
use Rattle.rx_parser.specs.declared.name.NameFound.{NameFound}
use Rattle.rx_parser.specs.declared.name.NameFound.TheVariants as name
use Rattle.rx_parser.proofs.Paces.{plain_reach, plain_same, plain_within, run_reach, run_stops, run_under_plain, run_within}

-- a name, and what stands after it
pub name_steps : (units tail n old mid new : ℕ) (escapes : Bool) (it : NameFound) → (escapes ≡ false → mid ≤ old + 2 * n + 1) → mid ≤ old + units + n + 4 → n + 2 * old ≤ 2 * mid
    → Rises mid new 0 (halt_looks tail it) → tail + n ≡ units → ((k : ℕ) → it ≡ name.Name k → (k ≡ n) × (escapes ≡ false)) → Rises old new 0 (name_looks units it)
name_steps units tail n old mid new escapes (name.Name k) ends most least more parts named = let e = named k refl in let f = ends e.1 in (omega arith, omega (arith, f, e.0))
name_steps units tail n old mid new escapes (name.Halt it) ends most least more parts named = (omega arith, omega arith)

-- looks that pass over units that stand for themselves, and then at a token that is no escape
module _ (following : List CodePoint) (old mid new units : ℕ) where
  of_token : (n : ℕ) → mid ≤ old + (plain following + 1) → new ≤ mid + 2 * n → new ≤ old + token_looks following n
  of_token n first more = omega (arith, first, more, plain_reach following (n - 1))

  pub syntax_steps : (it : Found) → Rises old mid 0 (plain following + 1) → units ≤ length following → LooksAtSyntax mid new units it → Rises old new 0 (looks following it)
  syntax_steps (found.Leaf leaf n) first within more = (omega arith, of_token n first.1 more.1)
  syntax_steps (found.NamedReference n) first within more = (omega arith, of_token n first.1 more.1)
  syntax_steps found.Property first within more = absurd more
  syntax_steps found.Class first within more = absurd more
  syntax_steps (found.Open opener n) first within more = (omega arith, of_token n first.1 more.1)
  syntax_steps found.Close first within more = (omega arith, omega arith)
  syntax_steps found.Bar first within more = (omega arith, omega arith)
  syntax_steps (found.Quantifier least most greedy n) first within more = (omega arith, of_token n first.1 more.1)
  syntax_steps (found.Halt it) first within more = (omega arith, omega (arith, first.1, more.1, within, plain_within following))

-- Units of the same values are looked at as often.
module _ (us vs : List CodePoint) (same : values us ≡ values vs) where
  token_same : (n : ℕ) → token_looks us n ≡ token_looks vs n
  token_same n = ap (λ k. 4 * n + 2 * k + 1) (plain_same (drop (n - 1) us) (drop (n - 1) vs) (values_drop (n - 1) us ∙ ap (drop (n - 1)) same ∙ sym (values_drop (n - 1) vs)))

  pub looks_same : (it : Found) → looks us it ≡ looks vs it
  looks_same (found.Leaf leaf n) = token_same n
  looks_same (found.NamedReference n) = token_same n
  looks_same found.Property = refl
  looks_same found.Class = refl
  looks_same (found.Open opener n) = token_same n
  looks_same found.Close = token_same 1
  looks_same found.Bar = token_same 1
  looks_same (found.Quantifier least most greedy n) = token_same n
  looks_same (found.Halt it) = omega (arith, ap length same, values_length us, values_length vs)

-- looks at digits, and then at an escape
module _ (following : List CodePoint) (old mid new : ℕ) where
  of_escape : (n : ℕ) → 1 ≤ n → mid ≤ old + min (2 * digit_run following) (digit_run following + 1) → new ≤ mid + (n + digit_run following + 4) → (n ≡ 1 → new ≤ mid + 5) → new ≤ old + token_looks following n
  of_escape n some first more lone = elim (cases_Bool (n == 1)) [
    | inl one ↦
        let is : n ≡ 1 = grind (arith, nat_tests) in
        let seam : plain (drop (n - 1) following) ≡ plain following = ap (λ k. plain (drop (k - 1) following)) is in
        omega (arith, is, lone is, run_under_plain following, seam, first)
    | inr other ↦
        let long : n ≡ 1 → ⊥ = grind (arith, nat_tests) in
        omega (arith, long, more, some, run_reach following (n - 1), run_under_plain (drop (n - 1) following), first)
  ]

  pub escape_steps : (it : Found) → Rises old mid 0 (min (2 * digit_run following) (digit_run following + 1)) → LooksAtEscape mid new following it → Rises old new 0 (looks following it)
  escape_steps (found.Leaf leaf n) first more = (omega (arith, first.0, more.1.0), of_escape n more.0 first.1 more.1.1 more.2)
  escape_steps (found.NamedReference n) first more = absurd more
  escape_steps found.Property first more = absurd more
  escape_steps found.Class first more = absurd more
  escape_steps (found.Open opener n) first more = absurd more
  escape_steps found.Close first more = absurd more
  escape_steps found.Bar first more = absurd more
  escape_steps (found.Quantifier least most greedy n) first more = absurd more
  escape_steps (found.Halt it) first more = (omega arith, omega (arith, first.1, more.1, run_within following))

-- no digit begins a property
property_no_digit : (c : ℕ) → begins_property c ≡ true → is_decimal_digit c ≡ false
property_no_digit c h = grind (arith, nat_tests)

pub property_run : (us : List CodePoint) (c : ℕ) (w : List ℕ) → values us ≡ c ∷ w → begins_property c ≡ true → digit_run us ≡ 0
property_run us c w whole h = run_stops us c w whole (property_no_digit c h)

-- no digit stands where a `c` does
letter_run : (us : List CodePoint) → starts 99 (values us) ≡ true → prefix_len (λ (u : CodePoint). is_decimal_digit u.value) us ≡ 0
letter_run [] h = refl
letter_run (u ∷ us) h = let is : is_decimal_digit u.value ≡ false = grind (arith, nat_tests) in cond-false (is_decimal_digit u.value) _ _ is

-- An escape of every mode has a unit.
escape_long : {e : Environment} (kind : CharacterKind) (v : ℕ) (w rest : List ℕ) → SpellsEscape e kind v w rest → 1 ≤ length w
escape_long _ _ _ _ (spelled.control h) = omega arith
escape_long _ _ _ _ (spelled.letter h) = omega arith
escape_long _ _ _ _ (spelled.null h) = omega arith
escape_long _ _ _ _ (spelled.hexadecimal h) = omega arith
escape_long _ v w rest (spelled.unicode s) = omega (arith, spelled_long _ v w rest s)
escape_long _ _ _ _ (spelled.identity h k) = omega arith

octal_long : (v : ℕ) (w rest : List ℕ) → SpellsOctal v w rest → 1 ≤ length w
octal_long _ _ _ (octal.octal_zero h) = omega arith
octal_long _ _ _ (octal.octal1 h k) = omega arith
octal_long _ _ _ (octal.octal2_low h k l) = omega arith
octal_long _ _ _ (octal.octal2_high h k) = omega arith
octal_long _ _ _ (octal.octal3 h k l) = omega arith

-- Of the escapes of legacy mode, only the lone backslash takes no unit, and a `c` follows it.
legacy_run : {e : Environment} (us : List CodePoint) (kind : CharacterKind) (v : ℕ) (w rest : List ℕ) → values us ≡ w ++ rest → SpellsLegacy false e kind v w rest → length w ≡ 0
    → prefix_len (λ (u : CodePoint). is_decimal_digit u.value) us ≡ 0
legacy_run us _ _ _ _ whole (legacy.lone h) none = letter_run us (ap (starts 99) whole)
legacy_run us _ _ _ _ whole (legacy.class_control h k) none = absurd (omega (arith, none))
legacy_run us _ v w rest whole (legacy.legacy_octal s f) none = absurd (omega (arith, none, octal_long v w rest s))
legacy_run us _ _ _ _ whole (legacy.identity h) none = absurd (omega (arith, none))

module _ (e : Environment) (us : List CodePoint) (old new : ℕ) where
  lone_run : (kind : CharacterKind) (v : ℕ) → any_escape_at false e (values us) ≡ escaped kind v 0 → prefix_len (λ (u : CodePoint). is_decimal_digit u.value) us ≡ 0
  lone_run kind v read = elim (any_spelled false e kind v 0 (values us) read) [
    | inl f ↦ absurd (omega (arith, f.count, escape_long kind v f.spelled f.rest f.spells))
    | inr (mode, f) ↦ legacy_run us kind v f.spelled f.rest f.whole f.spells f.count
  ]

  looked : (m : Bool) → is_unicode e.mode ≡ m → (it : EscapeFound) → seen_escape it ≡ any_escape_at false e (values us)
      → Rises old new 0 (most_looks m (length us) it + (if m || false then 0 else prefix_len (λ (u : CodePoint). is_decimal_digit u.value) us + 1))
      → LooksAtEscape old new us (found_front (escape_read (seen_escape it)))
  unfolding digit_run
  looked true mode (escape.Character kind v n) read h = (omega arith, (omega (arith, h.0), omega (arith, h.1)), λ one. omega (arith, h.1, one))
  looked false mode (escape.Character kind v n) read h = (
    omega arith,
    (omega (arith, h.0), omega (arith, h.1)),
    λ one. let none : n ≡ 0 = omega (arith, one) in omega (arith, h.1, none, lone_run kind v (sym read ∙ ap (escaped kind v) none)),
  )
  looked true mode escape.Nothing read h = (omega (arith, h.0), omega (arith, h.1))
  looked false mode escape.Nothing read h = (omega (arith, h.0), omega (arith, h.1, run_within us))
  looked true mode (escape.TooMany n) read h =
      let short = read_within true us (escape.TooMany n) (sym (any_refused false e (values us) (too_many n) (sym read) (λ no. no)).1) in
      (omega (arith, h.0), omega (arith, h.1, short))
  looked false mode (escape.TooMany n) read h = absurd (true≢false (sym (any_refused false e (values us) (too_many n) (sym read) (λ no. no)).0 ∙ mode))
  looked true mode escape.Invalid read h = (omega (arith, h.0), omega (arith, h.1))
  looked false mode escape.Invalid read h = (omega (arith, h.0), omega (arith, h.1, run_within us))

  -- looks at an escape of a character, as its reader counts them
  pub escape_looked : (it : EscapeFound) → seen_escape it ≡ any_escape_at false e (values us)
      → Rises old new 0 (most_looks (is_unicode e.mode) (length us) it + (if is_unicode e.mode || false then 0 else prefix_len (λ (u : CodePoint). is_decimal_digit u.value) us + 1))
      → LooksAtEscape old new us (found_front (escape_read (seen_escape it)))
  escape_looked it read h = looked (is_unicode e.mode) refl it read h
