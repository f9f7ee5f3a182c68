-- Where reading stops before the closing quote ends a text: at one place at most. So at most one fault stands in a text, and none in one that is decoded.
use Rattle.std.proofs.Common.{◌≡◌, ℕ, Bool, true, false, List, [], ◌∷◌, refl, sym, ap, ◌∙◌, subst, arith, ◌⊎◌, inl, inr}
use Rattle.rx_units.proofs.Common.{Result, Ok, Err, IfOk, IfErr, MatchResult, CodePoint, Literal, Options, quote_of, is_closer, Place, IsReached, IsDecoded, front_is}
use Rattle.rx_units.specs.declared.quoted_text.literal.Literal.TheVariants as literals
use Rattle.rx_units.specs.declared.string_literal_parser.StringLiteralKind.TheVariants as quotes
use Rattle.rx_units.specs.Quoted.Fronts as read
use Rattle.rx_units.proofs.Quoted.Fronts.{spelled_front, quote_front}
use Rattle.rx_units.proofs.Quoted.Rows.{IsStuck, stuck_at_quote, one_reached}

-- a text has one opening quote
one_quote : (l m : Literal) → quote_of l ≡ quote_of m → l ≡ m
one_quote (literals.String quotes.Double) (literals.String quotes.Single) h = let e : 34 ≡ 39 = h in absurd (omega (arith, e))
one_quote (literals.String quotes.Double) literals.Template h = let e : 34 ≡ 96 = h in absurd (omega (arith, e))
one_quote (literals.String quotes.Single) (literals.String quotes.Double) h = let e : 39 ≡ 34 = h in absurd (omega (arith, e))
one_quote (literals.String quotes.Single) literals.Template h = let e : 39 ≡ 96 = h in absurd (omega (arith, e))
one_quote literals.Template (literals.String quotes.Double) h = let e : 96 ≡ 34 = h in absurd (omega (arith, e))
one_quote literals.Template (literals.String quotes.Single) h = let e : 96 ≡ 39 = h in absurd (omega (arith, e))
one_quote l m h = refl

pub one_literal : (l m : Literal) (o : Options) (text : List ℕ) (p q : Place) → IsReached l o text p → IsReached m o text q → l ≡ m
one_literal l m o text p q a b = one_quote l m (let e : quote_of l ∷ a.inner ≡ quote_of m ∷ b.inner = sym a.opens ∙ b.opens in cc e)

-- A place where reading stops, and not at the closing quote that ends the text.
pub record Stops (l : Literal) (o : Options) (text : List ℕ) (p : Place) : Type 0 where
  pub reached : IsReached l o text p
  pub stuck : IsStuck l o p
  pub unended : p.rest ≡ quote_of l ∷ [] → ⊥

abbrev pub is_element : read.Front → Bool
is_element (read.element e n) = true
is_element _ = false

module _ (l : Literal) (o : Options) (p : Place) where
  pub without_closer : (r : read.Front) → read.front l p.rest ≡ r → is_closer r ≡ false → p.rest ≡ quote_of l ∷ [] → ⊥
  without_closer r h other e = let k : true ≡ false = ap is_closer (sym (quote_front l []) ∙ ap (read.front l) (sym e) ∙ h) ∙ other in cc k

  without_element : (r : read.Front) → read.front l p.rest ≡ r → is_element r ≡ false → IsStuck l o p
  without_element r h other e w rest whole s allowed =
      let k : false ≡ true = sym other ∙ ap is_element (sym h ∙ ap (read.front l) whole ∙ spelled_front l e w rest s) in
      cc k

  -- neither an element nor the closing quote is read
  pub stops_without : (text : List ℕ) (r : read.Front) → IsReached l o text p → read.front l p.rest ≡ r → is_element r ≡ false → is_closer r ≡ false → Stops l o text p
  stops_without text r a h no_element no_closer = record {
    reached = a;
    stuck = without_element r h no_element;
    unended = without_closer r h no_closer;
  }

  -- something follows the closing quote
  pub stops_followed : (text : List ℕ) (c : ℕ) (cs : List ℕ) → IsReached l o text p → p.rest ≡ quote_of l ∷ c ∷ cs → Stops l o text p
  stops_followed text c cs a h = record {
    reached = a;
    stuck = stuck_at_quote l o p (c ∷ cs) h;
    unended = λ g. let no : quote_of l ∷ c ∷ cs ≡ quote_of l ∷ [] = sym h ∙ g in cc no;
  }

one_place : (l : Literal) (o : Options) (text : List ℕ) (p q : Place) → Stops l o text p → Stops l o text q → p ≡ q
one_place l o text p q a b = one_reached l o text p q a.reached b.reached a.stuck b.stuck

none_decoded : (l : Literal) (o : Options) (text : List ℕ) (us : List CodePoint) (p : Place) → Stops l o text p → IsDecoded l o text us → ⊥
none_decoded l o text us p a d =
    let same = one_reached l o text p d.last a.reached d.reached a.stuck (stuck_at_quote l o d.last [] d.closes) in
    a.unended (ap (λ (p : Place). p.rest) same ∙ d.closes)

-- Faults of one type: which quotes open a text, the fault where none does, and the fault of a place where reading stops, by what is read there.
module _ {F : Type 0} (opens : ℕ → Bool) (unopened : F) (fault_at : read.Front → Place → F) (o : Options) (text : List ℕ) where
  -- where a fault comes from
  pub data Cause (f : F) : Type 0 where
    outside : front_is opens text ≡ false → f ≡ unopened → Cause f
    inside : (l : Literal) (p : Place) → opens (quote_of l) ≡ true → Stops l o text p → f ≡ fault_at (read.front l p.rest) p → Cause f

  clash : {A : Type 0} (l : Literal) (p : Place) → opens (quote_of l) ≡ true → IsReached l o text p → front_is opens text ≡ false → A
  clash l p i a h = let e : true ≡ false = sym i ∙ sym (ap (front_is opens) a.opens) ∙ h in absurd (let no : ⊥ = cc e in no)

  pub one_cause : (f g : F) → Cause f → Cause g → f ≡ g
  one_cause f g (outside h e) (outside k d) = e ∙ sym d
  one_cause f g (outside h e) (inside m q j b d) = clash m q j b.reached h
  one_cause f g (inside l p i a e) (outside k d) = clash l p i a.reached k
  one_cause f g (inside l p i a e) (inside m q j b d) =
      let same = one_literal l m o text p q a.reached b.reached in
      let here = one_place l o text p q a (subst (λ l. Stops l o text q) (sym same) b) in
      e ∙ ap (λ (p : Place). fault_at (read.front l p.rest) p) here ∙ ap (λ l. fault_at (read.front l q.rest) q) same ∙ sym d

  pub no_cause : (l : Literal) (us : List CodePoint) (f : F) → opens (quote_of l) ≡ true → IsDecoded l o text us → Cause f → ⊥
  no_cause l us f i d (outside h e) = clash l d.last i d.reached h
  no_cause l us f i d (inside m q j b e) =
      none_decoded l o text us q (subst (λ m. Stops m o text q) (one_literal m l o text q d.last b.reached d.reached) b) d

-- What a reader answers, where it answers what is right, a fault that stands, or that there is no memory.
module _ {V F : Type 0} (no_memory : F) (is_right : V → Type 0) (stands : F → Type 0) (result : Result V F) where
  pub answers_right : IfErr result (λ fault. (fault ≡ no_memory) ⊎ stands fault) → ((f : F) → stands f → ⊥) → IfErr result (λ fault. fault ≡ no_memory)
  answers_right err none = go result err
    where
      go : (r : Result V F) → IfErr r (λ fault. (fault ≡ no_memory) ⊎ stands fault) → IfErr r (λ fault. fault ≡ no_memory)
      go (Ok it) b = tt
      go (Err f) b = elim b [ inl m ↦ m | inr x ↦ absurd (none f x) ]

  pub answers_fault : (f : F) → IfOk result is_right → IfErr result (λ fault. (fault ≡ no_memory) ⊎ stands fault) → ((it : V) → is_right it → ⊥) → ((g : F) → stands g → g ≡ f)
      → MatchResult result (λ it. ⊥) (λ fault. (fault ≡ no_memory) ⊎ (fault ≡ f))
  answers_fault f ok err none one = go result ok err
    where
      go : (r : Result V F) → IfOk r is_right → IfErr r (λ fault. (fault ≡ no_memory) ⊎ stands fault) → MatchResult r (λ it. ⊥) (λ fault. (fault ≡ no_memory) ⊎ (fault ≡ f))
      go (Ok it) a b = none it a
      go (Err g) a b = elim b [ inl m ↦ inl m | inr y ↦ inr (one g y) ]
