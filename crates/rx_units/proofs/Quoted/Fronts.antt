-- What stands at the front of a quoted text: what is spelled is read, and what is read is spelled.
use Rattle.std.proofs.Common.{◌≡◌, ℕ, ◌+◌, ◌==◌, true, false, ◌&&◌, ◌||◌, List, [], ◌∷◌, ◌++◌, length, refl, sym, ap, ◌∙◌, inl, inr}
use Rattle.rx_units.proofs.Common.{eqb-true, is_line_terminator, Element, Literal, is_line_feed, quote_of, SpellsElement, is_open_brace, NothingStands, is_closer, EscapeRead, escaped, digit, unended, no_hex, no_unicode, passes, Front, element, closer, escape_at, string_escape}
use Rattle.rx_units.proofs.Common.{string_front, template_escape, template_front, front, front_is, PassesHex, chosen, told_apart, written, either_way}
use Rattle.rx_units.specs.declared.quoted_text.element.Writing.TheVariants as writing
use Rattle.rx_units.specs.declared.quoted_text.literal.Literal.TheVariants as literals
use Rattle.rx_units.specs.declared.string_literal_parser.StringLiteralKind.TheVariants as quotes
use Rattle.rx_units.specs.Quoted.Fronts.{too_large}
use Rattle.rx_units.proofs.Quoted.Escapes.{ElementFront, passes_read}
use Rattle.rx_units.proofs.Quoted.ReadForms.{legacy_read, digit_read, string_rows, template_rows}
use Rattle.rx_units.proofs.Quoted.StringFronts.{spelled_string, string_spelled}
use Rattle.rx_units.proofs.Quoted.TemplateFronts.{spelled_template, template_spelled}

-- spelled → read
pub spelled_front : (l : Literal) (e : Element) (w rest : List ℕ) → SpellsElement l e w rest → front l (w ++ rest) ≡ element e (length w)
unfolding front
spelled_front (literals.String quotes.Double) e w rest s = spelled_string 34 refl e w rest s
spelled_front (literals.String quotes.Single) e w rest s = spelled_string 39 refl e w rest s
spelled_front literals.Template e w rest s = spelled_template e w rest s

-- read → spelled
pub front_spelled : (l : Literal) (us : List ℕ) (e : Element) (n : ℕ) → front l us ≡ element e n → ElementFront (SpellsElement l) e n us
unfolding front
front_spelled (literals.String quotes.Double) us e n h = string_spelled 34 refl us e n h
front_spelled (literals.String quotes.Single) us e n h = string_spelled 39 refl us e n h
front_spelled literals.Template us e n h = template_spelled us e n h

-- the closing quote
pub quote_front : (l : Literal) (rest : List ℕ) → front l (quote_of l ∷ rest) ≡ closer
unfolding front
quote_front (literals.String quotes.Double) rest = refl
quote_front l rest = refl

abbrev NoCloser : Front → Type 0
NoCloser r = is_closer r ≡ false

string_escape_no_closer : (r : EscapeRead) (w : List ℕ) → NoCloser (string_escape r w)
string_escape_no_closer digit w = legacy_read NoCloser (λ e n. refl) refl w
string_escape_no_closer r w = refl

string_closer : (quote : ℕ) (us : List ℕ) → string_front quote us ≡ closer → (rest : List ℕ) × (us ≡ quote ∷ rest)
string_closer quote [] h = absurd (let no : ⊥ = cc h in no)
string_closer quote (c ∷ w) h =
    string_rows (λ r. r ≡ closer → (rest : List ℕ) × (c ∷ w ≡ quote ∷ rest)) quote c w (λ q e. (w, ap (λ c. c ∷ w) q)) (λ b e. absurd (told_apart is_closer e (string_escape_no_closer (escape_at w) w) refl))
    (λ l e. absurd (let no : ⊥ = cc e in no)) (λ q b l e. absurd (let no : ⊥ = cc e in no)) h

template_escape_no_closer : (r : EscapeRead) (w : List ℕ) → NoCloser (template_escape r w)
template_escape_no_closer digit w = digit_read NoCloser (λ e n. refl) refl w
template_escape_no_closer r w = refl

template_closer : (us : List ℕ) → template_front us ≡ closer → (rest : List ℕ) × (us ≡ 96 ∷ rest)
template_closer [] h = absurd (let no : ⊥ = cc h in no)
template_closer (c ∷ w) h =
    template_rows (λ r. r ≡ closer → (rest : List ℕ) × (c ∷ w ≡ 96 ∷ rest)) c w (λ q e. (w, ap (λ c. c ∷ w) q)) (λ b e. absurd (told_apart is_closer e (template_escape_no_closer (escape_at w) w) refl))
    (λ d o e. absurd (let no : ⊥ = cc e in no)) (λ d o e. absurd (let no : ⊥ = cc e in no))
    (λ l e. absurd (told_apart is_closer e (either_way NoCloser (c == 13 && front_is is_line_feed w) (element (written 10 writing.LineTerminator) 2) (element (written c writing.LineTerminator) 1) refl refl) refl))
    (λ q b d l e. absurd (let no : ⊥ = cc e in no)) h

pub closer_found : (l : Literal) (us : List ℕ) → front l us ≡ closer → (rest : List ℕ) × (us ≡ quote_of l ∷ rest)
unfolding front
closer_found (literals.String quotes.Double) us h = string_closer 34 us h
closer_found (literals.String quotes.Single) us h = string_closer 39 us h
closer_found literals.Template us h = template_closer us h

-- where neither is read, neither stands
pub nothing_stands : (l : Literal) (us : List ℕ) → ((e : Element) (n : ℕ) → front l us ≡ element e n → ⊥) → (front l us ≡ closer → ⊥) → NothingStands l us
nothing_stands l us no_element no_quote = record {
  no_element = λ e w rest h s. no_element e (length w) (ap (front l) h ∙ spelled_front l e w rest s);
  no_quote = λ rest h. no_quote (ap (front l) h ∙ quote_front l rest);
}

-- digits that pass 32 bits are read
pub passes_front : (l : Literal) (us w : List ℕ) (count : ℕ) → us ≡ 92 ∷ w → PassesHex w count → front l us ≡ too_large (count + 3)
unfolding front
passes_front (literals.String quotes.Double) us w count e p = ap (string_front 34) e ∙ ap (λ r. string_escape r w) (passes_read w count p)
passes_front (literals.String quotes.Single) us w count e p = ap (string_front 39) e ∙ ap (λ r. string_escape r w) (passes_read w count p)
passes_front literals.Template us w count e p = ap template_front e ∙ ap (λ r. template_escape r w) (passes_read w count p)
