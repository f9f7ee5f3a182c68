-- Whatever a parser answers to a canonical spelling is the tree that was spelled, but for spans and character kinds, or out of memory.
use Rattle.std.proofs.Common.{◌≡◌, ◌≢◌, refl, sym, ◌∙◌, subst, ℕ, ◌+◌, ◌<◌, ◌≤◌, ◌==◌, ◌&&◌, Bool, true, false, cond, List, [], ◌∷◌, ◌++◌, Result, Ok, Err, arith}
use Rattle.std.specs.Prelude.{All, nat_lt}
use Rattle.std.proofs.lemmas.Bool.Decides.{nat_tests}
use Rattle.std.proofs.lemmas.List.Elements.{All-nil, All-cons, All-head, All-tail}
use Rattle.std.specs.Char.{len_utf8}
use Rattle.rx_base.specs.declared.fault.Fault.{Fault}
use Rattle.rx_ast.specs.declared.term.Pattern.{Pattern}
use Rattle.rx_ast.specs.Forget.{bare}
use Rattle.rx_ast.proofs.Forget.{unspanned_bare}
use Rattle.rx_units.specs.declared.code_point.CodePoint.{CodePoint}
use Rattle.rx_units.specs.declared.code_point.EscapeKind.TheVariants as escape_kind
use Rattle.rx_units.specs.Units.{character_units, literal_units}
use Rattle.rx_units.proofs.DecodedUnits.{decoded_narrow}
use Rattle.rx_model.specs.declared.form.Form.{Form}
use Rattle.rx_model.specs.declared.form.Form.TheVariants.{Literal}
use Rattle.rx_model.specs.declared.mode.Mode.{Mode}
use Rattle.rx_model.specs.Inputs.Environment.{is_unicode}
use Rattle.rx_model.specs.Inputs.Inputs.{Asks, AsksFor, Input, literal_alone}
use Rattle.rx_model.specs.Inputs.Texts.{AreUnits, is_quote, literal_text, of_literal, of_quoted, quoted_text, some_units, stand_in}
use Rattle.rx_model.specs.Reading.Headline.{IsParsed, IsReadAs, IsSameAgain}
use Rattle.rx_model.specs.Spelling.ReadBack.{AreCodeUnits, FitIn, IsReadBack}
use Rattle.rx_model.specs.Reading.Reading.{Reads}
use Rattle.rx_model.specs.Spelling.Spelling.{spelling}
use Rattle.rx_model.proofs.Inputs.Asked.{alone_asks, literal_asks, one_asked}
use Rattle.rx_model.proofs.Spelling.Bounds.{AreCodePoints}
use Rattle.rx_model.proofs.Spelling.ReadBack.{spelled_is_read_back}

-- Where an input asks to read the spelling of a tree that is read back, its answer is this tree.
same_as : (input : Input) (mode : Mode) (tree : Pattern) → IsReadBack mode input.rules tree → Asks input mode (literal_units (is_unicode mode) 0 (literal_text (spelling (bare tree) mode)))
    → (answer : Result Pattern Fault) → IsParsed (λ p. p) input answer → IsSameAgain tree answer
same_as input mode tree back asked (Ok q) parsed =
    let it = parsed.read.1 in
    let same = one_asked input mode parsed.read.0 (literal_units (is_unicode mode) 0 (literal_text (spelling (bare tree) mode))) it.units asked it.asked in
    let reads = subst (λ m. Reads m input.rules back.again it.units) same.0 (subst (λ us. Reads mode input.rules back.again us) same.1 back.reads) in
    sym (unspanned_bare back.again q (it.only back.again reads)) ∙ back.same
same_as input mode tree back asked (Err fault) parsed =
    parsed.complete (record {
      mode = mode;
      units = literal_units (is_unicode mode) 0 (literal_text (spelling (bare tree) mode));
      asked = asked;
      pattern = back.again;
      reads = back.reads;
    })

pub same_again : (input : Input) (mode : Mode) (answer : Result Pattern Fault) → IsParsed (λ p. p) input answer → input.form ≡ Literal → AsksFor input mode
    → (tree : Pattern) (us : List CodePoint) → Reads mode input.rules tree us → FitIn mode us → us ≢ [] → input.text ≡ spelling (bare tree) mode → IsSameAgain tree answer
same_again input mode answer parsed literal asks tree us r fit some text =
    same_as input mode tree (spelled_is_read_back mode input.rules tree us r fit some)
    (subst (λ w. Asks input mode (literal_units (is_unicode mode) 0 (literal_text w))) text (literal_asks input mode literal asks)) answer parsed

-- So it is with the spelling of what an input is read as.
pub spelled_again : (input : Input) (mode : Mode) (tree : Pattern) (read : IsReadAs input mode tree) → FitIn mode read.units → read.units ≢ []
    → (answer : Result Pattern Fault) → IsParsed (λ p. p) (literal_alone (spelling (bare tree) mode) mode input.rules input.standard_strings) answer → IsSameAgain tree answer
spelled_again input mode tree read fit some answer parsed =
    let text = spelling (bare tree) mode in
    same_as (literal_alone text mode input.rules input.standard_strings) mode tree (spelled_is_read_back mode input.rules tree read.units read.reads fit some) (alone_asks text mode input.rules input.standard_strings) answer parsed

-- The units of a text of code points fit in its mode.
narrow_append : (us vs : List CodePoint) → AreCodeUnits us → AreCodeUnits vs → AreCodeUnits (us ++ vs)
narrow_append [] vs h k = k
narrow_append (u ∷ us) vs h k = (h.0, narrow_append us vs h.1 k)

code_units : (at : ℕ) (text : List ℕ) → AreCodePoints text → AreCodeUnits (literal_units false at text)
code_units at [] h = tt
code_units at (c ∷ cs) h = narrow_append (character_units false at (at + len_utf8 c) c escape_kind.None) (literal_units false (at + len_utf8 c) cs) (one (nat_lt c 0x10000) refl) (code_units (at + len_utf8 c) cs h.1)
  where
    one : (low : Bool) → nat_lt c 0x10000 ≡ low → AreCodeUnits (character_units false at (at + len_utf8 c) c escape_kind.None)
    one true l = rw l (grind (arith, nat_tests), tt)
    one false l = rw l (omega (arith, h.0), (omega (arith, h.0), tt))

literal_fits : (text : List ℕ) → AreCodePoints text → AreCodeUnits (literal_units false 0 (literal_text text))
literal_fits [] h = code_units 0 (40 ∷ 63 ∷ 58 ∷ 41 ∷ []) (omega arith, (omega arith, (omega arith, (omega arith, tt))))
literal_fits (c ∷ cs) h = code_units 0 (c ∷ cs) h

all_points : (text : List ℕ) → AreCodePoints text → All (λ c. c ≤ 0x10FFFF) text
all_points [] h = All-nil (λ c. c ≤ 0x10FFFF)
all_points (c ∷ cs) h = All-cons (λ c. c ≤ 0x10FFFF) c cs h.0 (all_points cs h.1)

quoted_points : (text : List ℕ) → AreCodePoints text → All (λ c. c ≤ 0x10FFFF) (quoted_text text)
quoted_points [] h = all_points [] h
quoted_points (a ∷ []) h = all_points (a ∷ []) h
quoted_points (a ∷ b ∷ d ∷ more) h = all_points (a ∷ b ∷ d ∷ more) h
quoted_points (a ∷ b ∷ []) h =
    elim (is_quote a && a == b) as (λ same. All (λ c. c ≤ 0x10FFFF) (cond same (34 ∷ 40 ∷ 63 ∷ 58 ∷ 41 ∷ 34 ∷ []) (a ∷ b ∷ []))) [
      | true ↦ all_points (34 ∷ 40 ∷ 63 ∷ 58 ∷ 41 ∷ 34 ∷ []) (omega arith, (omega arith, (omega arith, (omega arith, (omega arith, (omega arith, tt))))))
      | false ↦ all_points (a ∷ b ∷ []) h
    ]

narrow_units : (us : List CodePoint) → All (λ u. u.value < 0x10000) us → AreCodeUnits us
narrow_units [] h = tt
narrow_units (u ∷ us) h = (omega (arith, All-head (λ u. u.value < 0x10000) u us h), narrow_units us (All-tail (λ u. u.value < 0x10000) u us h))

fits_of : (standard : Bool) (text whole : List ℕ) (form : Form) (us : List CodePoint) → AreUnits standard false whole form us → whole ≡ stand_in form text → AreCodePoints text → AreCodeUnits us
fits_of standard text whole _ _ of_literal e h = subst (λ w. AreCodeUnits (literal_units false 0 w)) (sym e) (literal_fits text h)
fits_of standard text whole _ us (of_quoted d) e h = narrow_units us (decoded_narrow (subst (All (λ c. c ≤ 0x10FFFF)) (sym e) (quoted_points text h)) d)

some_fit : (own : List CodePoint) → AreCodeUnits own → AreCodeUnits (some_units own)
some_fit [] h = (omega arith, (omega arith, (omega arith, (omega arith, tt))))
some_fit (u ∷ us) h = h

pub asked_fits : (input : Input) (mode : Mode) (us : List CodePoint) → Asks input mode us → AreCodePoints input.text → FitIn mode us
asked_fits input mode us asked h legacy =
    let standard = input.standard_strings in
    let text = stand_in input.form input.text in
    let own = subst (λ m. AreUnits standard (is_unicode m) text input.form asked.own) legacy asked.own_are in
    subst AreCodeUnits (sym asked.units_are) (some_fit asked.own (fits_of standard input.text text input.form asked.own own refl h))
