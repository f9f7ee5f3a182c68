-- At most one token is at the front of a text, since reading it is a function: what is spelled is read, and what is read is spelled.
use Rattle.std.proofs.Common.{◌≡◌, refl, ap, ap₂, sym, ◌∙◌, subst, ℕ, ◌+◌, ◌<◌, Bool, true, false, cond, not, nat_le, ◌&&◌, ◌||◌, ◌==◌, Option, Some, None, List, [], ◌∷◌, ◌++◌, length, drop, arith, inl, inr, append_assoc, length-append}
use Rattle.std.proofs.Math.Seq.{drop-append_seam}
use Rattle.std.proofs.lemmas.Bool.{eqb-true, cond-true, cond-false, cases_Bool, and_left, and_from, false_from_ne_true, not-true, true≢false}
use Rattle.std.proofs.lemmas.Bool.Decides.{nat_tests}
use Rattle.std.proofs.lemmas.List.{append-nil, length-map, map-append}
use Rattle.std.proofs.Math.Bool.{and-false}
use Rattle.rx_base.specs.Characters.{is_within}
use Rattle.rx_tables.specs.Characters.{is_syntax_character}
use Rattle.rx_ast.specs.declared.leaf.BoundaryAssertionKind.{BoundaryAssertionKind}
use Rattle.rx_ast.specs.declared.leaf.BoundaryAssertionKind.TheVariants as boundaries
use Rattle.rx_ast.specs.declared.leaf.CharacterClassEscapeKind.{CharacterClassEscapeKind}
use Rattle.rx_ast.specs.declared.leaf.CharacterClassEscapeKind.TheVariants as classes
use Rattle.rx_ast.specs.declared.leaf.CharacterKind.{CharacterKind}
use Rattle.rx_ast.specs.ClassTree.{Class}
use Rattle.rx_units.specs.declared.code_point.CodePoint.{CodePoint}
use Rattle.rx_units.specs.Units.{values}
use Rattle.rx_units.specs.Digits.{front_is}
use Rattle.rx_units.proofs.Choices.{chosen, Some-inj, both}
use Rattle.rx_model.specs.declared.mode.Mode.{Mode}
use Rattle.rx_model.specs.declared.mode.Mode.TheVariants.{Legacy}
use Rattle.rx_ast.specs.Texts.{boundary_text, class_escape_text}
use Rattle.rx_model.specs.Classes.ClassFronts.{class_front}
use Rattle.rx_model.specs.Classes.ClassRows.{IsClass}
use Rattle.rx_model.specs.Inputs.Environment.{Environment, for_classes, is_unicode}
use Rattle.rx_model.specs.Characters.Escapes.{SpellsEscape}
use Rattle.rx_model.specs.Reading.Fronts.{EscapeRead, escaped, any_escape_at, is_reference, are_counts, is_raw_at, boundary_at, class_escape_at, escaped_token, backslash_token, backslash_front, Counts, counts, no_counts, counts_at, quantifier_token, opener_token, bracket_token, property_token, Digits, digits, digits_after, indexed_token, named_token, syntax_front, front}
use Rattle.rx_model.specs.Groups.GroupFronts.{group_front, reference_front}
use Rattle.rx_model.specs.Characters.LegacyEscapes.{SpellsLegacy, run_number}
use Rattle.rx_model.specs.Properties.PropertyFronts.{PropertyRead, property_read, no_property, property_front}
use Rattle.rx_model.specs.Quantifiers.Quantifiers.{SpellsCounts, SpellsBraces, star, plus, optional, braces, exactly, at_least, between, lazy_mark, is_question, BeginsWithBraces, IsQuantifier}
use Rattle.rx_model.specs.Characters.UnitKinds.{unit_kind}
use Rattle.rx_model.specs.Reading.Rows.{is_legacy_syntax, stands_raw, IsRaw, IsEscaped, IsLegacyEscaped, IsBoundary, Spells}
use Rattle.rx_model.specs.Trees.Token.{Token, Opener, boundary, character, dot, class_escape, property, class, indexed, named, opener, closer, bar, quantifier}
use Rattle.rx_model.specs.Properties.PropertyForms.{begins_property}
use Rattle.rx_model.proofs.Characters.Backslashes.{escape_token, legacy_token, boundary_found, class_found, buffer_token, class_token, indexed_front, indexed_spelled, property_front_token}
use Rattle.rx_model.proofs.Classes.ClassReads.{class_opens, class_read, class_spelled, class_takes_some}
use Rattle.rx_model.proofs.Characters.LegacyEscapes.{AnyFront, any_spelled}
use Rattle.rx_model.proofs.Groups.GroupFronts.{opener_read, opener_spelled, named_read, named_spelled}
use Rattle.rx_model.proofs.Properties.PropertyFronts.{property_row, property_text}
use Rattle.rx_model.proofs.Quantifiers.Quantifiers.{spelled_counts, counts_spelled, no_braces}
use Rattle.rx_model.proofs.Reading.Splits.{split_values, TextFront, one_value}

pub legacy_syntax : (c : ℕ) → is_legacy_syntax c ≡ true → is_syntax_character c ≡ true
legacy_syntax c h = grind (arith, nat_tests)

-- the characters that stand for themselves in no mode
syntax_not_raw : (mode : Mode) (c : ℕ) → is_legacy_syntax c ≡ true → stands_raw mode c ≡ false
syntax_not_raw Legacy c h = ap not h
syntax_not_raw mode c h = ap not (legacy_syntax c h)

-- with `u` or `v` no SyntaxCharacter does
pub unicode_not_raw : (mode : Mode) (c : ℕ) → is_unicode mode ≡ true → is_syntax_character c ≡ true → stands_raw mode c ≡ false
unicode_not_raw Legacy c m h = absurd (let no : ⊥ = cc m in no)
unicode_not_raw mode c m h = ap not h

not_raw_at : (e : Environment) (c : ℕ) (w : List ℕ) → stands_raw e.mode c ≡ false → is_raw_at e c w ≡ false
not_raw_at e c w h = and_left _ (is_unicode e.mode || not (are_counts (counts_at (c ∷ w)))) h

-- with `u` or `v` what stands for itself does so whatever follows
pub raw_in_unicode : (e : Environment) (c : ℕ) (w : List ℕ) → is_unicode e.mode ≡ true → stands_raw e.mode c ≡ true → is_raw_at e c w ≡ true
raw_in_unicode e c w m h = and_from (stands_raw e.mode c) _ h (ap (λ u. u || not (are_counts (counts_at (c ∷ w)))) m)

-- the token at the front, where its first character is no `[` and does not stand for itself
abbrev front_of_values : Environment → List ℕ → Option (Token × ℕ)
front_of_values e [] = None
front_of_values e (c ∷ w) = cond (c == 92) (backslash_front e w) (syntax_front e c w)

front_by : (e : Environment) (us : List CodePoint) (c : ℕ) (w : List ℕ) → is_raw_at e c w ≡ false → (c == 91) ≡ false → values us ≡ c ∷ w → front e us ≡ front_of_values e (c ∷ w)
unfolding front
front_by e [] c w s n h = absurd (let k : ⊥ = cc h in k)
front_by e (u ∷ us) c w s n h =
    let same : u.value ≡ c = cc h in
    let equal : values us ≡ w = cc h in
    cond-false (is_raw_at e u.value (values us)) _ _ (ap₂ (is_raw_at e) same equal ∙ s)
    ∙ ap (cond (u.value == 92) (backslash_front e (values us))) (cond-false (u.value == 91) _ _ (ap (λ c. c == 91) same ∙ n))
    ∙ ap (λ c. front_of_values e (c ∷ values us)) same
    ∙ ap (λ w. front_of_values e (c ∷ w)) equal

pub front_by_values : (e : Environment) (us : List CodePoint) (c : ℕ) (w : List ℕ) → (is_legacy_syntax c && not (c == 91)) ≡ true → values us ≡ c ∷ w → front e us ≡ front_of_values e (c ∷ w)
front_by_values e us c w s h =
    let b = both (is_legacy_syntax c) (not (c == 91)) s in front_by e us c w (not_raw_at e c w (syntax_not_raw e.mode c b.0)) (not-true (c == 91) b.1) h

-- with `u` or `v`
pub front_by_unicode : (e : Environment) (us : List CodePoint) (c : ℕ) (w : List ℕ) → is_unicode e.mode ≡ true → (is_syntax_character c && not (c == 91)) ≡ true → values us ≡ c ∷ w →
    front e us ≡ front_of_values e (c ∷ w)
front_by_unicode e us c w m s h =
    let b = both (is_syntax_character c) (not (c == 91)) s in front_by e us c w (not_raw_at e c w (unicode_not_raw e.mode c m b.0)) (not-true (c == 91) b.1) h

question_there : (w : List ℕ) → front_is is_question w ≡ true → (rest : List ℕ) × (w ≡ 63 ∷ rest)
question_there [] h = absurd (let k : ⊥ = cc h in k)
question_there (c ∷ w) h = (w, ap (λ c. c ∷ w) (eqb-true c 63 h))

module _ (e : Environment) where
  -- a token whose spelling begins with a character that does not stand for itself there, other than `[`
  by_front : (t : Token) (c : ℕ) (text : List ℕ) (w rest : List CodePoint) → is_raw_at e c (text ++ values rest) ≡ false → (c == 91) ≡ false → values w ≡ c ∷ text →
      front_of_values e (c ∷ (text ++ values rest)) ≡ Some (t, length (c ∷ text)) → front e (w ++ rest) ≡ Some (t, length w)
  by_front t c text w rest s n h f =
      front_by e (w ++ rest) c (text ++ values rest) s n (map-append (λ u. u.value) w rest ∙ ap (λ v. v ++ values rest) h)
      ∙ f
      ∙ ap (λ n. Some (t, n)) (sym (ap length h) ∙ length-map w (λ u. u.value))

  by_text : (t : Token) (c : ℕ) (text : List ℕ) (w rest : List CodePoint) → (is_legacy_syntax c && not (c == 91)) ≡ true → values w ≡ c ∷ text →
      front_of_values e (c ∷ (text ++ values rest)) ≡ Some (t, length (c ∷ text)) → front e (w ++ rest) ≡ Some (t, length w)
  by_text t c text w rest s h f =
      let b = both (is_legacy_syntax c) (not (c == 91)) s in
      by_front t c text w rest (not_raw_at e c (text ++ values rest) (syntax_not_raw e.mode c b.0)) (not-true (c == 91) b.1) h f

  -- A character that stands for itself begins a quantifier only as a brace.
  raw_counts : (mode : Mode) (c : ℕ) (w : List ℕ) (r : Counts) → stands_raw mode c ≡ true → counts_at (c ∷ w) ≡ r → are_counts r ≡ true → BeginsWithBraces (c ∷ w)
  raw_counts mode c w no_counts s f h = absurd (let no : ⊥ = cc h in no)
  raw_counts mode c w (counts min max n) s f h =
      let k = counts_spelled min max n (c ∷ w) f in
      go min max k.prefix k.rest k.spelled k.whole
    where
      not_this : (d : ℕ) (v : List ℕ) → is_legacy_syntax d ≡ true → c ∷ w ≡ d ∷ v → BeginsWithBraces (c ∷ w)
      not_this d v l h = let same : c ≡ d = cc h in absurd (true≢false (sym s ∙ ap (stands_raw mode) same ∙ syntax_not_raw mode d l))

      go : (min : ℕ) (max : Option ℕ) (prefix rest : List ℕ) → SpellsCounts min max prefix → c ∷ w ≡ prefix ++ rest → BeginsWithBraces (c ∷ w)
      go _ _ _ rest star h = not_this 42 rest refl h
      go _ _ _ rest plus h = not_this 43 rest refl h
      go _ _ _ rest optional h = not_this 63 rest refl h
      go min max prefix rest (braces b) h = record {
        min = min;
        max = max;
        prefix = prefix;
        rest = rest;
        spelled = b;
        whole = h;
      }

  raw_at : (c : ℕ) (w : List ℕ) → stands_raw e.mode c ≡ true → (is_unicode e.mode ≡ false → BeginsWithBraces (c ∷ w) → ⊥) → is_raw_at e c w ≡ true
  raw_at c w s n = and_from (stands_raw e.mode c) _ s (elim (cases_Bool (is_unicode e.mode)) [
    | inl m ↦ ap (λ u. u || not (are_counts (counts_at (c ∷ w)))) m
    | inr m ↦ ap (λ u. u || not (are_counts (counts_at (c ∷ w)))) m ∙ ap not (false_from_ne_true (are_counts (counts_at (c ∷ w))) (λ h. n m (raw_counts e.mode c w (counts_at (c ∷ w)) s refl h)))
  ])

  raw_front : (kind : CharacterKind) (value : ℕ) (w rest : List CodePoint) → IsRaw e kind value w rest → front e (w ++ rest) ≡ Some (character kind value, length w)
  unfolding front
  raw_front kind value w rest r =
      ap (λ w. front e (w ++ rest)) r.alone
      ∙ cond-true (is_raw_at e r.unit.value (values rest)) _ _ (raw_at r.unit.value (values rest) r.allowed r.no_quantifier)
      ∙ ap₂ (λ k v. Some (character k v, 1)) (sym r.kind_is) (sym r.value_is)
      ∙ ap (λ (w : List CodePoint). Some (character kind value, length w)) (sym r.alone)

  escaped_front : (kind : CharacterKind) (value : ℕ) (w rest : List CodePoint) → IsEscaped e kind value w rest → front e (w ++ rest) ≡ Some (character kind value, length w)
  escaped_front kind value w rest r =
      by_text (character kind value) 92 (values r.following) w rest refl (ap values r.whole ∙ ap (λ c. c ∷ values r.following) r.backslash_is)
      (escape_token e kind value (values r.following) (values rest) r.spelled ∙ ap (λ n. Some (character kind value, n)) (omega arith))

  legacy_front : (kind : CharacterKind) (value : ℕ) (w rest : List CodePoint) → IsLegacyEscaped e kind value w rest → front e (w ++ rest) ≡ Some (character kind value, length w)
  legacy_front kind value w rest r =
      by_text (character kind value) 92 (values r.following) w rest refl (ap values r.whole ∙ ap (λ c. c ∷ values r.following) r.backslash_is)
      (legacy_token e kind value (values r.following) (values rest) r.legacy r.spelled ∙ ap (λ n. Some (character kind value, n)) (omega arith))

  boundary_front : (kind : BoundaryAssertionKind) (w rest : List CodePoint) → IsBoundary e kind w → front e (w ++ rest) ≡ Some (boundary kind, length w)
  unfolding backslash_front
  boundary_front boundaries.Start w rest s = by_text (boundary boundaries.Start) 94 [] w rest refl s.text refl
  boundary_front boundaries.End w rest s = by_text (boundary boundaries.End) 36 [] w rest refl s.text refl
  boundary_front boundaries.Boundary w rest s = by_text (boundary boundaries.Boundary) 92 (98 ∷ []) w rest refl s.text refl
  boundary_front boundaries.NegativeBoundary w rest s = by_text (boundary boundaries.NegativeBoundary) 92 (66 ∷ []) w rest refl s.text refl
  boundary_front boundaries.StartBuffer w rest s = by_text (boundary boundaries.StartBuffer) 92 (65 ∷ []) w rest refl s.text (buffer_token e 65 (values rest) s.there refl refl refl refl refl)
  boundary_front boundaries.EndBuffer w rest s = by_text (boundary boundaries.EndBuffer) 92 (122 ∷ []) w rest refl s.text (buffer_token e 122 (values rest) s.there refl refl refl refl refl)
  boundary_front boundaries.EndBufferOptionalNewline w rest s = by_text (boundary boundaries.EndBufferOptionalNewline) 92 (90 ∷ []) w rest refl s.text (buffer_token e 90 (values rest) s.there refl refl refl refl refl)

  class_escape_front : (kind : CharacterClassEscapeKind) (w rest : List CodePoint) → values w ≡ class_escape_text kind → front e (w ++ rest) ≡ Some (class_escape kind, length w)
  class_escape_front classes.D w rest s = by_text (class_escape classes.D) 92 (100 ∷ []) w rest refl s (class_token e classes.D 100 (values rest) refl refl refl refl refl refl refl)
  class_escape_front classes.NegativeD w rest s = by_text (class_escape classes.NegativeD) 92 (68 ∷ []) w rest refl s (class_token e classes.NegativeD 68 (values rest) refl refl refl refl refl refl refl)
  class_escape_front classes.S w rest s = by_text (class_escape classes.S) 92 (115 ∷ []) w rest refl s (class_token e classes.S 115 (values rest) refl refl refl refl refl refl refl)
  class_escape_front classes.NegativeS w rest s = by_text (class_escape classes.NegativeS) 92 (83 ∷ []) w rest refl s (class_token e classes.NegativeS 83 (values rest) refl refl refl refl refl refl refl)
  class_escape_front classes.W w rest s = by_text (class_escape classes.W) 92 (119 ∷ []) w rest refl s (class_token e classes.W 119 (values rest) refl refl refl refl refl refl refl)
  class_escape_front classes.NegativeW w rest s = by_text (class_escape classes.NegativeW) 92 (87 ∷ []) w rest refl s (class_token e classes.NegativeW 87 (values rest) refl refl refl refl refl refl refl)

  -- what the prefix of a quantifier begins with
  record Beginning (prefix : List ℕ) : Type 0 where
    first : ℕ
    more : List ℕ
    whole : prefix ≡ first ∷ more
    no_bracket : (first == 91) ≡ false
    not_raw : (w : List ℕ) → are_counts (counts_at (first ∷ w)) ≡ true → is_raw_at e first w ≡ false
    read_so : (w : List ℕ) → front_of_values e (first ∷ w) ≡ quantifier_token (counts_at (first ∷ w)) (first ∷ w)

  brace_not_raw : (w : List ℕ) → are_counts (counts_at (123 ∷ w)) ≡ true → is_raw_at e 123 w ≡ false
  brace_not_raw w h = elim (cases_Bool (is_unicode e.mode)) [
    | inl m ↦ not_raw_at e 123 w (unicode_not_raw e.mode 123 m refl)
    | inr m ↦ rw (m, h) (and-false (stands_raw e.mode 123))
  ]

  braces_beginning : (min : ℕ) (max : Option ℕ) (prefix : List ℕ) → SpellsBraces min max prefix → Beginning prefix
  braces_beginning _ _ _ (exactly ds a) = record { first = 123; more = _; whole = refl; no_bracket = refl; not_raw = brace_not_raw; read_so = λ w. refl }
  braces_beginning _ _ _ (at_least ds a) = record { first = 123; more = _; whole = refl; no_bracket = refl; not_raw = brace_not_raw; read_so = λ w. refl }
  braces_beginning _ _ _ (between ds es a b) = record { first = 123; more = _; whole = refl; no_bracket = refl; not_raw = brace_not_raw; read_so = λ w. refl }

  beginning : (min : ℕ) (max : Option ℕ) (prefix : List ℕ) → SpellsCounts min max prefix → Beginning prefix
  beginning _ _ _ star = record { first = 42; more = []; whole = refl; no_bracket = refl; not_raw = λ w h. not_raw_at e 42 w (syntax_not_raw e.mode 42 refl); read_so = λ w. refl }
  beginning _ _ _ plus = record { first = 43; more = []; whole = refl; no_bracket = refl; not_raw = λ w h. not_raw_at e 43 w (syntax_not_raw e.mode 43 refl); read_so = λ w. refl }
  beginning _ _ _ optional = record { first = 63; more = []; whole = refl; no_bracket = refl; not_raw = λ w h. not_raw_at e 63 w (syntax_not_raw e.mode 63 refl); read_so = λ w. refl }
  beginning min max prefix (braces s) = braces_beginning min max prefix s

  -- counts, and a `?` or none, before the rest
  quantifier_read : (min : ℕ) (max : Option ℕ) (greedy : Bool) (prefix rest : List ℕ) → SpellsCounts min max prefix → (greedy ≡ true → front_is is_question rest ≡ false) →
      quantifier_token (counts_at (prefix ++ (lazy_mark greedy ++ rest))) (prefix ++ (lazy_mark greedy ++ rest)) ≡ Some (quantifier min max greedy, length (prefix ++ lazy_mark greedy))
  quantifier_read min max true prefix rest s alone =
      ap (λ c. quantifier_token c (prefix ++ rest)) (spelled_counts min max prefix rest s)
      ∙ cond-false (front_is is_question (drop (length prefix) (prefix ++ rest))) _ _ (ap (front_is is_question) (drop-append_seam prefix rest) ∙ alone refl)
      ∙ ap (λ w. Some (quantifier min max true, length w)) (sym (append-nil prefix))
  quantifier_read min max false prefix rest s alone =
      ap (λ c. quantifier_token c (prefix ++ (63 ∷ rest))) (spelled_counts min max prefix (63 ∷ rest) s)
      ∙ cond-true (front_is is_question (drop (length prefix) (prefix ++ (63 ∷ rest)))) _ _ (ap (front_is is_question) (drop-append_seam prefix (63 ∷ rest)))
      ∙ ap (λ n. Some (quantifier min max false, n)) (omega (arith, length-append prefix (63 ∷ [])))

  quantifier_front : (min : ℕ) (max : Option ℕ) (greedy : Bool) (w rest : List CodePoint) → IsQuantifier min max greedy w rest → front e (w ++ rest) ≡ Some (quantifier min max greedy, length w)
  quantifier_front min max greedy w rest q =
      let b = beginning min max q.prefix q.counts in
      let more = b.more ++ lazy_mark greedy in
      let text : q.prefix ++ lazy_mark greedy ≡ b.first ∷ more = ap (λ v. v ++ lazy_mark greedy) b.whole in
      let all : b.first ∷ (more ++ values rest) ≡ q.prefix ++ (lazy_mark greedy ++ values rest) = ap (λ v. v ++ values rest) (sym text) ∙ append_assoc q.prefix (lazy_mark greedy) (values rest) in
      by_front (quantifier min max greedy) b.first more w rest
      (b.not_raw (more ++ values rest) (ap (λ v. are_counts (counts_at v)) all ∙ ap are_counts (spelled_counts min max q.prefix (lazy_mark greedy ++ values rest) q.counts)))
      b.no_bracket (q.whole ∙ text)
      (b.read_so (more ++ values rest)
      ∙ ap (λ v. quantifier_token (counts_at v) v) all
      ∙ quantifier_read min max greedy q.prefix (values rest) q.counts q.alone
      ∙ ap (λ v. Some (quantifier min max greedy, length v)) text)

  -- a `[` at the front
  pub at_bracket : (u : CodePoint) (us : List CodePoint) → u.value ≡ 91 → front e (u ∷ us) ≡ bracket_token (class_front (for_classes e) (u ∷ us))
  unfolding front
  at_bracket u us h =
      cond-false (is_raw_at e u.value (values us)) _ _ (not_raw_at e u.value (values us) (ap (stands_raw e.mode) h ∙ syntax_not_raw e.mode 91 refl))
      ∙ cond-false (u.value == 92) _ _ (ap (λ c. c == 92) h)
      ∙ cond-true (u.value == 91) _ _ (ap (λ c. c == 91) h)

  bracket_front : (c : Class) (w rest : List CodePoint) → IsClass (for_classes e) c w rest → front e (w ++ rest) ≡ Some (class c, length w)
  bracket_front c w rest s =
      let b = class_opens (for_classes e) c w rest s in
      ap (front e) b.2 ∙ at_bracket b.0 b.1 b.3 ∙ ap (λ us. bracket_token (class_front (for_classes e) us)) (sym b.2) ∙ ap bracket_token (class_read (for_classes e) c w rest s)

  -- spelled → read
  pub spelled_front : (t : Token) (w rest : List CodePoint) → Spells e t w rest → front e (w ++ rest) ≡ Some (t, length w)
  spelled_front (character kind value) w rest s = elim s [
    | inl r ↦ raw_front kind value w rest r
    | inr s ↦ elim s [ inl r ↦ escaped_front kind value w rest r | inr r ↦ legacy_front kind value w rest r ]
  ]
  spelled_front dot w rest s = by_text dot 46 [] w rest refl s refl
  spelled_front bar w rest s = by_text bar 124 [] w rest refl s refl
  spelled_front (boundary kind) w rest s = boundary_front kind w rest s
  spelled_front (class_escape kind) w rest s = class_escape_front kind w rest s
  spelled_front (property negative strings name value) w rest s =
      let r = property_row e negative strings name value w rest s in
      by_text (property negative strings name value) 92 (r.letter ∷ r.more) w rest refl r.whole
      (property_front_token e r.letter (r.more ++ values rest) s.unicode r.is_letter ∙ ap property_token r.read ∙ ap (λ n. Some (property negative strings name value, n)) (omega arith))
  spelled_front (class c) w rest s = bracket_front c w rest s
  spelled_front (indexed n) w rest s = by_text (indexed n) 92 s.digits w rest refl s.whole (indexed_front e n s.digits (values rest) s.refers s.number s.not_zero s.all ∙ ap (λ k. Some (indexed n, k)) (omega arith))
  spelled_front (named name) w rest s = let r = named_read e name w rest s in by_text (named name) 92 r.0 w rest refl r.1 r.2
  spelled_front (opener o) w rest s = let r = opener_read e o w rest s in by_text (opener o) 40 r.following w rest refl r.whole (ap opener_token r.read)
  spelled_front closer w rest s = by_text closer 41 [] w rest refl s refl
  spelled_front (quantifier min max greedy) w rest s = quantifier_front min max greedy w rest s

  -- No token is spelled by no units.
  boundary_some : (kind : BoundaryAssertionKind) → values [] ≡ boundary_text kind → ⊥
  boundary_some boundaries.Start s = cc
  boundary_some boundaries.End s = cc
  boundary_some boundaries.Boundary s = cc
  boundary_some boundaries.NegativeBoundary s = cc
  boundary_some boundaries.StartBuffer s = cc
  boundary_some boundaries.EndBuffer s = cc
  boundary_some boundaries.EndBufferOptionalNewline s = cc

  class_some : (kind : CharacterClassEscapeKind) → values [] ≡ class_escape_text kind → ⊥
  class_some classes.D s = cc
  class_some classes.NegativeD s = cc
  class_some classes.S s = cc
  class_some classes.NegativeS s = cc
  class_some classes.W s = cc
  class_some classes.NegativeW s = cc

  spelled_none : (t : Token) (rest : List CodePoint) → Spells e t [] rest → ⊥
  spelled_none (character kind value) rest s = elim s [
    | inl r ↦ let h = r.alone in cc
    | inr s ↦ elim s [ inl r ↦ let h = r.whole in cc | inr r ↦ let h = r.whole in cc ]
  ]
  spelled_none dot rest s = cc
  spelled_none bar rest s = cc
  spelled_none (boundary kind) rest s = boundary_some kind s.text
  spelled_none (class_escape kind) rest s = class_some kind s
  spelled_none (property negative strings name value) rest s = let h = (property_row e negative strings name value [] rest s).whole in cc h
  spelled_none (class c) rest s = omega (arith, class_takes_some (for_classes e) c [] rest s)
  spelled_none (indexed n) rest s = let h = s.whole in cc
  spelled_none (named name) rest s = let h = s.whole in cc
  spelled_none (opener o) rest s = let h = (opener_read e o [] rest s).whole in cc
  spelled_none closer rest s = cc
  spelled_none (quantifier min max greedy) rest s =
      let b = beginning min max s.prefix s.counts in
      let h : [] ≡ b.first ∷ (b.more ++ lazy_mark greedy) = s.whole ∙ ap (λ v. v ++ lazy_mark greedy) b.whole in
      cc h

  pub spelled_some : (t : Token) (w rest : List CodePoint) → Spells e t w rest → 0 < length w
  spelled_some t [] rest s = absurd (spelled_none t rest s)
  spelled_some t (u ∷ w) rest s = omega arith

  -- a token that stands at the front
  pub record Front (t : Token) (n : ℕ) (us : List CodePoint) : Type 0 where
    pub w : List CodePoint
    pub rest : List CodePoint
    pub whole : us ≡ w ++ rest
    pub count : length w ≡ n
    pub spells : Spells e t w rest

  abbrev FrontOf : List CodePoint → Token × ℕ → Type 0
  FrontOf us p = Front p.0 p.1 us

  front_of : {p : Token × ℕ} (t : Token) (n : ℕ) (us w rest : List CodePoint) → us ≡ w ++ rest → length w ≡ n → Spells e t w rest → Some (t, n) ≡ Some p → FrontOf us p
  front_of t n us w rest h l s k = subst (FrontOf us) (Some-inj k) (record { w = w; rest = rest; whole = h; count = l; spells = s })

  quantifier_at : (us : List CodePoint) (p : Token × ℕ) (c : Counts) → counts_at (values us) ≡ c → quantifier_token c (values us) ≡ Some p → FrontOf us p
  quantifier_at us p no_counts h k = absurd (let f : ⊥ = cc k in f)
  quantifier_at us p (counts min max n) h k =
      let f = counts_spelled min max n (values us) h in
      let seam : drop n (values us) ≡ f.rest = ap (drop n) f.whole ∙ ap (λ n. drop n (f.prefix ++ f.rest)) (sym f.count) ∙ drop-append_seam f.prefix f.rest in
      elim (chosen (front_is is_question (drop n (values us))) k) [
        | inl q ↦
            let r = question_there f.rest (ap (front_is is_question) (sym seam) ∙ q.0) in
            let s = split_values us (f.prefix ++ (63 ∷ [])) r.0 (f.whole ∙ ap (λ v. f.prefix ++ v) r.1 ∙ sym (append_assoc f.prefix (63 ∷ []) r.0)) in
            front_of (quantifier min max false) (n + 1) us s.front s.back s.whole
            (omega (arith, f.count, ap length s.front_is, length-map s.front (λ (u : CodePoint). u.value), length-append f.prefix (63 ∷ [])))
            (record { prefix = f.prefix; counts = f.spelled; whole = s.front_is; alone = λ h. absurd (let k : ⊥ = cc h in k) }) q.1
        | inr q ↦
            let s = split_values us f.prefix f.rest f.whole in
            front_of (quantifier min max true) n us s.front s.back s.whole
            (omega (arith, f.count, ap length s.front_is, length-map s.front (λ (u : CodePoint). u.value)))
            (record { prefix = f.prefix; counts = f.spelled; whole = s.front_is ∙ sym (append-nil f.prefix); alone = λ _. ap (front_is is_question) (s.back_is ∙ sym seam) ∙ q.0 }) q.1
      ]

  -- a token that the values of these units begin with
  text_at : {p : Token × ℕ} (t : Token) (n : ℕ) (us : List CodePoint) (v : List ℕ) → values us ≡ v → TextFront (Spells e t) n v → Some (t, n) ≡ Some p → FrontOf us p
  text_at t n us v h f q =
      let s = split_values us f.text f.back (h ∙ f.whole) in
      front_of t n us s.front s.back s.whole (sym (length-map s.front (λ u. u.value)) ∙ ap length s.front_is ∙ f.count) (f.spells s.front s.back s.front_is s.back_is) q

  opener_at : (u : CodePoint) (us : List CodePoint) (p : Token × ℕ) → u.value ≡ 40 → (r : Option (Opener × ℕ)) → group_front (is_unicode e.mode) (values us) ≡ r → opener_token r ≡ Some p → FrontOf (u ∷ us) p
  opener_at u us p h None f q = absurd (let k : ⊥ = cc q in k)
  opener_at u us p h (Some o) f q =
      text_at (opener o.0) o.1 (u ∷ us) (40 ∷ values us) (ap (λ c. c ∷ values us) h) (opener_spelled e (values us) o f) q

  syntax_found : (u : CodePoint) (us : List CodePoint) (p : Token × ℕ) → syntax_front e u.value (values us) ≡ Some p → FrontOf (u ∷ us) p
  syntax_found u us p h = elim (chosen (u.value == 46) h) [
    | inl q ↦ front_of dot 1 (u ∷ us) (u ∷ []) us refl refl (one_value u 46 q.0) q.1
    | inr q ↦ elim (chosen (u.value == 40) q.1) [
      | inl q ↦ opener_at u us p (eqb-true u.value 40 q.0) (group_front (is_unicode e.mode) (values us)) refl q.1
      | inr q ↦ elim (chosen (u.value == 41) q.1) [
        | inl q ↦ front_of closer 1 (u ∷ us) (u ∷ []) us refl refl (one_value u 41 q.0) q.1
        | inr q ↦ elim (chosen (u.value == 124) q.1) [
          | inl q ↦ front_of bar 1 (u ∷ us) (u ∷ []) us refl refl (one_value u 124 q.0) q.1
          | inr q ↦ elim (chosen (u.value == 94) q.1) [
            | inl q ↦ front_of (boundary boundaries.Start) 1 (u ∷ us) (u ∷ []) us refl refl (record { text = one_value u 94 q.0; there = refl }) q.1
            | inr q ↦ elim (chosen (u.value == 36) q.1) [
              | inl q ↦ front_of (boundary boundaries.End) 1 (u ∷ us) (u ∷ []) us refl refl (record { text = one_value u 36 q.0; there = refl }) q.1
              | inr q ↦ quantifier_at (u ∷ us) p (counts_at (values (u ∷ us))) refl q.1
            ]
          ]
        ]
      ]
    ]
  ]

  any_at_front : (u : CodePoint) (us : List CodePoint) (p : Token × ℕ) (k : CharacterKind) (v n : ℕ) → u.value ≡ 92 → AnyFront false e k v n (values us) → Some (character k v, n + 1) ≡ Some p → FrontOf (u ∷ us) p
  any_at_front u us p k v n h (inl r) q =
      let s = split_values us r.spelled r.rest r.whole in
      front_of (character k v) (n + 1) (u ∷ us) (u ∷ s.front) s.back (ap (λ w. u ∷ w) s.whole)
      (omega (arith, r.count, ap length s.front_is, length-map s.front (λ (u : CodePoint). u.value)))
      (inr (inl (record {
        backslash = u;
        following = s.front;
        whole = refl;
        backslash_is = h;
        spelled = subst (λ b. SpellsEscape e k v (values s.front) b) (sym s.back_is) (subst (λ a. SpellsEscape e k v a r.rest) (sym s.front_is) r.spells);
      }))) q
  any_at_front u us p k v n h (inr (m, r)) q =
      let s = split_values us r.spelled r.rest r.whole in
      front_of (character k v) (n + 1) (u ∷ us) (u ∷ s.front) s.back (ap (λ w. u ∷ w) s.whole)
      (omega (arith, r.count, ap length s.front_is, length-map s.front (λ (u : CodePoint). u.value)))
      (inr (inr (record {
        backslash = u;
        following = s.front;
        whole = refl;
        backslash_is = h;
        legacy = m;
        spelled = subst (λ b. SpellsLegacy false e k v (values s.front) b) (sym s.back_is) (subst (λ a. SpellsLegacy false e k v a r.rest) (sym s.front_is) r.spells);
      }))) q

  escape_at_front : (u : CodePoint) (us : List CodePoint) (p : Token × ℕ) → u.value ≡ 92 → (r : EscapeRead) → any_escape_at false e (values us) ≡ r → escaped_token r ≡ Some p → FrontOf (u ∷ us) p
  escape_at_front u us p h (escaped k v n) f q = any_at_front u us p k v n h (any_spelled false e k v n (values us) f) q
  escape_at_front u us p h t f q = absurd (let k : ⊥ = cc q in k)

  two_units : (u v : CodePoint) (text : List ℕ) → u.value ≡ 92 → 92 ∷ v.value ∷ [] ≡ text → values (u ∷ v ∷ []) ≡ text
  two_units u v text h k = ap (λ c. c ∷ v.value ∷ []) h ∙ k

  backslash_at : (u v : CodePoint) (us : List CodePoint) (p : Token × ℕ) → u.value ≡ 92 →
      (b : Option BoundaryAssertionKind) → boundary_at e v.value ≡ b → (c : Option CharacterClassEscapeKind) → class_escape_at v.value ≡ c →
      backslash_token b c (any_escape_at false e (values (v ∷ us))) ≡ Some p → FrontOf (u ∷ v ∷ us) p
  backslash_at u v us p h (Some k) f c g q =
      let b = boundary_found e k v.value f in
      front_of (boundary k) 2 (u ∷ v ∷ us) (u ∷ v ∷ []) us refl refl (record { text = two_units u v (boundary_text k) h b.text; there = b.there }) q
  backslash_at u v us p h None f (Some k) g q = front_of (class_escape k) 2 (u ∷ v ∷ us) (u ∷ v ∷ []) us refl refl (two_units u v (class_escape_text k) h (class_found k v.value g)) q
  backslash_at u v us p h None f None g q = escape_at_front u (v ∷ us) p h (any_escape_at false e (values (v ∷ us))) refl q

  named_at : (u v : CodePoint) (us : List CodePoint) (p : Token × ℕ) → u.value ≡ 92 → v.value ≡ 107 → e.named ≡ true → (r : Option (List ℕ × ℕ)) → reference_front (is_unicode e.mode) (values us) ≡ r →
      named_token r ≡ Some p → FrontOf (u ∷ v ∷ us) p
  named_at u v us p h k there None f q = absurd (let k : ⊥ = cc q in k)
  named_at u v us p h k there (Some n) f q =
      text_at (named n.0) (n.1 + 3) (u ∷ v ∷ us) (92 ∷ 107 ∷ values us) (ap₂ (λ c d. c ∷ d ∷ values us) h k) (named_spelled e (values us) n there f) q

  indexed_at : (u v : CodePoint) (us : List CodePoint) (p : Token × ℕ) → u.value ≡ 92 → is_within 49 57 v.value ≡ true → (is_unicode e.mode || nat_le (run_number 0 (values (v ∷ us))) e.groups) ≡ true → (d : Digits) → digits_after 0 0 (values (v ∷ us)) ≡ d →
      indexed_token d ≡ Some p → FrontOf (u ∷ v ∷ us) p
  indexed_at u v us p h k m (digits n count w) f q =
      text_at (indexed n) (count + 1) (u ∷ v ∷ us) (92 ∷ values (v ∷ us)) (ap (λ c. c ∷ values (v ∷ us)) h) (indexed_spelled e n count v.value (values us) w k m f) q

  property_at : (u v : CodePoint) (us : List CodePoint) (p : Token × ℕ) → u.value ≡ 92 → is_unicode e.mode ≡ true → (r : PropertyRead) → property_front e.mode (values (v ∷ us)) ≡ r →
      property_token r ≡ Some p → FrontOf (u ∷ v ∷ us) p
  property_at u v us p h m no_property f q = absurd (let k : ⊥ = cc q in k)
  property_at u v us p h m (property_read negative strings name value n) f q =
      text_at (property negative strings name value) (n + 1) (u ∷ v ∷ us) (92 ∷ values (v ∷ us)) (ap (λ c. c ∷ values (v ∷ us)) h) (property_text e negative strings name value n (values (v ∷ us)) m f) q

  backslash_found : (u : CodePoint) (us : List CodePoint) (p : Token × ℕ) → u.value ≡ 92 → backslash_front e (values us) ≡ Some p → FrontOf (u ∷ us) p
  unfolding backslash_front
  backslash_found u [] p h q = absurd (let k : ⊥ = cc q in k)
  backslash_found u (v ∷ us) p h q = elim (chosen (is_reference e (values (v ∷ us))) q) [
    | inl r ↦
        let b = both (is_within 49 57 v.value) (is_unicode e.mode || nat_le (run_number 0 (values (v ∷ us))) e.groups) r.0 in
        indexed_at u v us p h b.0 b.1 (digits_after 0 0 (values (v ∷ us))) refl r.1
    | inr r ↦ elim (chosen (v.value == 107 && e.named) r.1) [
      | inl s ↦
          let b = both (v.value == 107) e.named s.0 in
          named_at u v us p h (eqb-true v.value 107 b.0) b.1 (reference_front (is_unicode e.mode) (values us)) refl s.1
      | inr s ↦ elim (chosen (begins_property v.value && is_unicode e.mode) s.1) [
        | inl t ↦ property_at u v us p h (both (begins_property v.value) (is_unicode e.mode) t.0).1 (property_front e.mode (values (v ∷ us))) refl t.1
        | inr t ↦ backslash_at u v us p h (boundary_at e v.value) refl (class_escape_at v.value) refl t.1
      ]
    ]
  ]

  class_at : (u : CodePoint) (us : List CodePoint) (p : Token × ℕ) → (r : Option (Class × ℕ)) → class_front (for_classes e) (u ∷ us) ≡ r → bracket_token r ≡ Some p → FrontOf (u ∷ us) p
  class_at u us p None f q = absurd (let k : ⊥ = cc q in k)
  class_at u us p (Some c) f q = let s = class_spelled (for_classes e) (u ∷ us) c.0 c.1 f in front_of (class c.0) c.1 (u ∷ us) s.w s.rest s.whole s.count s.spelled q

  none_there : (r : Counts) → are_counts r ≡ false → r ≡ no_counts
  none_there no_counts h = refl
  none_there (counts min max n) h = absurd (let no : ⊥ = cc h in no)

  counts_none : (u : CodePoint) (us : List CodePoint) → is_unicode e.mode ≡ false → (is_unicode e.mode || not (are_counts (counts_at (values (u ∷ us))))) ≡ true → counts_at (values (u ∷ us)) ≡ no_counts
  counts_none u us m h =
      let r = counts_at (values (u ∷ us)) in none_there r (not-true (are_counts r) (ap (λ b. b || not (are_counts r)) (sym m) ∙ h))

  unit_found : (u : CodePoint) (us : List CodePoint) (p : Token × ℕ) → front e (u ∷ us) ≡ Some p → FrontOf (u ∷ us) p
  unfolding front
  unit_found u us p h = elim (chosen (is_raw_at e u.value (values us)) h) [
    | inl q ↦
        let b = both (stands_raw e.mode u.value) (is_unicode e.mode || not (are_counts (counts_at (values (u ∷ us))))) q.0 in
        front_of (character (unit_kind u.escape_kind) u.value) 1 (u ∷ us) (u ∷ []) us refl refl
        (inl (record { unit = u; alone = refl; kind_is = refl; value_is = refl; allowed = b.0; no_quantifier = λ m. no_braces (values (u ∷ us)) (counts_none u us m b.1) })) q.1
    | inr q ↦ elim (chosen (u.value == 92) q.1) [
      | inl q ↦ backslash_found u us p (eqb-true u.value 92 q.0) q.1
      | inr q ↦ elim (chosen (u.value == 91) q.1) [
        | inl r ↦ class_at u us p (class_front (for_classes e) (u ∷ us)) refl r.1
        | inr r ↦ syntax_found u us p r.1
      ]
    ]
  ]

  -- read → spelled
  pub front_spelled : (us : List CodePoint) (t : Token) (n : ℕ) → front e us ≡ Some (t, n) → Front t n us
  unfolding front
  front_spelled [] t n h = absurd (let k : ⊥ = cc h in k)
  front_spelled (u ∷ us) t n h = unit_found u us (t, n) h
