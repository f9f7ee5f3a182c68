-- Class strings are spelled exactly as their tokens are.
use Rattle.std.proofs.Common.{◌≡◌, refl, sym, ap, ◌∙◌, subst, ℕ, arith, ◌==◌, true, List, [], ◌∷◌, ◌++◌, append_assoc, append-nil, inl, inr}
use Rattle.std.specs.Prelude.{All, map}
use Rattle.std.proofs.lemmas.Bool.Decides.{nat_tests}
use Rattle.std.proofs.lemmas.List.Elements.{All-head, All-tail}
use Rattle.rx_ast.specs.declared.leaf.Character.{Character}
use Rattle.rx_ast.specs.declared.class.ClassString.{ClassString}
use Rattle.rx_ast.specs.declared.class.ClassStringDisjunction.{ClassStringDisjunction}
use Rattle.rx_ast.specs.ClassTree as tree
use Rattle.rx_ast.specs.Forget.{forget_character, forget_member, forget_string, same_kind}
use Rattle.rx_units.specs.declared.code_point.CodePoint.{CodePoint}
use Rattle.rx_units.specs.Units.{values}
use Rattle.rx_model.specs.Classes.ClassFromTokens.{character_of, string_of}
use Rattle.rx_model.specs.Classes.ClassRows.{ClassTokenRow, Place, fresh, in_strings}
use Rattle.rx_model.specs.Classes.ClassShapes.{IsFittingMember, IsFlaggedMember}
use Rattle.rx_model.specs.Trees.Early.{IsFlaggedString}
use Rattle.rx_model.specs.Classes.ClassStrings.{BarredRow, IsStringEnd, SpellsBarredString, SpellsSetCharacter, SpellsStrings, StringRow, of_bar, of_character}
use Rattle.rx_model.specs.Classes.ClassTokens.{ClassToken, string_bar, strings, strings_end}
use Rattle.rx_model.specs.FirstPass.Marks.{starts}
use Rattle.rx_model.specs.Inputs.Environment.{Environment, is_sets}
use Rattle.rx_units.specs.Sequences.{ElementRow}
use Rattle.rx_model.proofs.Classes.ClassFromTokens.{string_is}
use Rattle.rx_model.proofs.Classes.ClassEnds.{class_row_append}
use Rattle.rx_model.proofs.Classes.ClassFronts.{single}
use Rattle.rx_model.proofs.Classes.ClassShapes.{barred_tokens, letters_tokens, operand_tokens, some_strings, strings_are}
use Rattle.rx_model.proofs.Classes.ClassStrings.{bar_first, by_class_character}

-- the tokens of class strings, from the first letter on
abbrev pub inside_tokens : ClassString → List ClassString → List ClassToken
inside_tokens s ss = letters_tokens s.body ++ (barred_tokens ss ++ (strings_end ∷ []))

pub tokens_are : (d : ClassStringDisjunction) (s : ClassString) (ss : List ClassString) → d.body ≡ s ∷ ss → operand_tokens (tree.strings d) ≡ strings ∷ inside_tokens s ss
tokens_are d s ss is =
    ap (λ body. operand_tokens (tree.strings (record { span = d.span; strings = d.strings; body = body }))) is ∙ ap (λ ts. strings ∷ ts) (strings_are s ss d.span)

-- A class string without a span is told by its characters.
string_by_body : (s : ClassString) → IsFlaggedString s → forget_string same_kind s ≡ s → string_of s.body ≡ s
string_by_body s flag plain = ap string_of (sym (ap (λ s. s.body) plain)) ∙ string_is s flag ∙ plain

-- A row begins with the units that it takes.
pub row_front : {Element : Type 0} (spells : Unit {0} → Element → List CodePoint → List CodePoint → Type 0) (ts : List Element) (us rest : List CodePoint) →
    ElementRow {Place = Unit {0}} spells (λ q t more. tt) ts tt us tt rest → (w : List CodePoint) × (us ≡ w ++ rest)
row_front spells [] us rest row = ([], row.1)
row_front spells (t ∷ ts) us rest row =
    let f = row_front spells ts row.1 rest row.4 in (row.0 ++ f.0, row.2 ∙ ap (λ more. row.0 ++ more) f.1 ∙ sym (append_assoc row.0 f.0 rest))

module _ (e : Environment) where
  -- spelled → tokens
  letters_row : (cs : List Character) (us rest : List CodePoint) → StringRow e cs us rest → ClassTokenRow e (letters_tokens cs) in_strings us in_strings rest
  letters_row [] us rest row = (refl, row.1)
  letters_row (c ∷ cs) us rest row = (row.0, row.1, row.2, by_class_character e c row.0 row.1 row.3, letters_row cs row.1 rest row.4)

  barred_row : is_sets e.mode ≡ true → (s : ClassString) (w rest : List CodePoint) → SpellsBarredString e s w rest → ClassTokenRow e (string_bar ∷ letters_tokens s.body) in_strings (w ++ rest) in_strings rest
  barred_row m _ _ rest (of_bar bar cs w is row ends) = (bar ∷ [], w ++ rest, refl, (m, ap (λ c. c ∷ []) is), letters_row cs (w ++ rest) rest row)

  barred_rows : is_sets e.mode ≡ true → (ss : List ClassString) (us rest : List CodePoint) → BarredRow e ss us rest → ClassTokenRow e (barred_tokens ss) in_strings us in_strings rest
  barred_rows m [] us rest row = (refl, row.1)
  barred_rows m (s ∷ ss) us rest row =
      class_row_append e (string_bar ∷ letters_tokens s.body) (barred_tokens ss) in_strings us in_strings row.1 in_strings rest
      (subst (λ us. ClassTokenRow e (string_bar ∷ letters_tokens s.body) in_strings us in_strings row.1) (sym row.2) (barred_row m s row.0 row.1 row.3)) (barred_rows m ss row.1 rest row.4)

  -- After their opener class strings are these tokens.
  pub inside_row : (ss : List ClassString) (w rest : List CodePoint) (s : SpellsStrings e ss w rest) → ClassTokenRow e (inside_tokens (string_of s.first) s.more) in_strings s.inside fresh rest
  inside_row ss w rest s =
      class_row_append e (letters_tokens s.first) (barred_tokens s.more ++ (strings_end ∷ [])) in_strings s.inside in_strings s.further fresh rest (letters_row s.first s.inside s.further s.first_row)
      (class_row_append e (barred_tokens s.more) (strings_end ∷ []) in_strings s.further in_strings (s.closer ∷ rest) fresh rest (barred_rows s.sets s.more s.further (s.closer ∷ rest) s.more_row)
      (s.closer ∷ [], rest, refl, (s.sets, ap (λ c. c ∷ []) s.closer_is), (refl, refl)))

  -- tokens → spelled
  letters_found : (cs : List Character) (ts : List ClassToken) (us : List CodePoint) (r : Place) (rest : List CodePoint) → map (forget_character same_kind) cs ≡ cs → ClassTokenRow e (letters_tokens cs ++ ts) in_strings us r rest →
      (more : List CodePoint) × StringRow e cs us more × ClassTokenRow e ts in_strings more r rest
  letters_found [] ts us r rest plain row = (us, (refl, refl), row)
  letters_found (c ∷ cs) ts us r rest plain row =
      let more = letters_found cs ts row.1 r rest (let k : map (forget_character same_kind) cs ≡ cs = cc plain in k) row.4 in
      let c_is : character_of c.kind c.value ≡ c = (let k : forget_character same_kind c ≡ c = cc plain in k) in
      (more.0, (row.0, row.1, row.2, subst (λ c. SpellsSetCharacter e c row.0 row.1) c_is (of_character row.3.0 row.3.1), more.1), more.2)

  starts_with : (us w rest : List CodePoint) (c : ℕ) → us ≡ w ++ rest → values w ≡ c ∷ [] → starts c (values us) ≡ true
  starts_with us w rest c whole h =
      let u = single w c h in
      ap (λ us. starts c (values us)) (whole ∙ ap (λ w. w ++ rest) u.1) ∙ ap (λ d. d == c) u.2 ∙ same_value c
    where
      same_value : (c : ℕ) → (c == c) ≡ true
      same_value c = grind (arith, nat_tests)

  string_ends : (ss : List ClassString) (ts : List ClassToken) (us : List CodePoint) (r : Place) (rest : List CodePoint) → ClassTokenRow e (barred_tokens ss ++ (strings_end ∷ ts)) in_strings us r rest → IsStringEnd us
  string_ends [] ts us r rest row = inr (starts_with us row.0 row.1 125 row.2 row.3.1)
  string_ends (s ∷ ss) ts us r rest row = inl (starts_with us row.0 row.1 124 row.2 row.3.1)

  -- a bar and the characters of a class string
  barred_from : (s : ClassString) → IsFlaggedString s → forget_string same_kind s ≡ s → (us w more rest : List CodePoint) → us ≡ w ++ more → values w ≡ 124 ∷ [] → StringRow e s.body more rest → IsStringEnd rest →
      (v : List CodePoint) × (us ≡ v ++ rest) × SpellsBarredString e s v rest
  barred_from s flag plain us w more rest whole h row ends =
      let u = single w 124 h in
      let front = row_front (λ q. SpellsSetCharacter e) s.body more rest row in (
        u.0 ∷ front.0,
        whole ∙ ap (λ w. w ++ more) u.1 ∙ ap (λ more. u.0 ∷ more) front.1,
        subst (λ s. SpellsBarredString e s (u.0 ∷ front.0) rest) (string_by_body s flag plain) (of_bar u.0 s.body front.0 u.2 (subst (λ us. StringRow e s.body us rest) front.1 row) ends),
      )

  -- further class strings, and what follows their closer
  record Found (ss : List ClassString) (us : List CodePoint) (ts : List ClassToken) (r : Place) (rest : List CodePoint) : Type 0 where
    closer : CodePoint
    back : List CodePoint
    row : BarredRow e ss us (closer ∷ back)
    closer_is : closer.value ≡ 125
    others : ClassTokenRow e ts fresh back r rest

  strings_found : (ss : List ClassString) (ts : List ClassToken) (us : List CodePoint) (r : Place) (rest : List CodePoint) → All IsFlaggedString ss → map (forget_string same_kind) ss ≡ ss →
      ClassTokenRow e (barred_tokens ss ++ (strings_end ∷ ts)) in_strings us r rest → Found ss us ts r rest
  strings_found [] ts us r rest flags plain row =
      let u = single row.0 125 row.3.1 in
      record { closer = u.0; back = row.1; row = (refl, row.2 ∙ ap (λ w. w ++ row.1) u.1); closer_is = u.2; others = row.4 }
  strings_found (s ∷ ss) ts us r rest flags plain row =
      let s_plain : forget_string same_kind s ≡ s = cc plain in
      let tail = barred_tokens ss ++ (strings_end ∷ ts) in
      let letters =
      letters_found s.body tail row.1 r rest (ap (λ s. s.body) s_plain) (subst (λ ts. ClassTokenRow e ts in_strings row.1 r rest) (append_assoc (letters_tokens s.body) (barred_tokens ss) (strings_end ∷ ts)) row.4) in
      let more = strings_found ss ts letters.0 r rest (All-tail IsFlaggedString s ss flags) (let k : map (forget_string same_kind) ss ≡ ss = cc plain in k) letters.2 in
      let b =
      barred_from s (All-head IsFlaggedString s ss flags) s_plain us row.0 row.1 letters.0 row.2 row.3.1 letters.1 (string_ends ss ts letters.0 r rest letters.2) in
      record {
        closer = more.closer;
        back = more.back;
        row = (b.0, letters.0, b.1, b.2, more.row);
        closer_is = more.closer_is;
        others = more.others;
      }

  -- What the tokens of class strings after their opener spell, with others after them.
  pub record InStrings (s : ClassString) (ss : List ClassString) (us : List CodePoint) (ts : List ClassToken) (r : Place) (rest : List CodePoint) : Type 0 where
    pub further : List CodePoint
    pub first_row : StringRow e s.body us further
    pub closer : CodePoint
    pub back : List CodePoint
    pub more_row : BarredRow e ss further (closer ∷ back)
    pub closer_is : closer.value ≡ 125
    pub others : ClassTokenRow e ts fresh back r rest

  pub inside_found : (s : ClassString) (ss : List ClassString) (ts : List ClassToken) (us : List CodePoint) (r : Place) (rest : List CodePoint) → All IsFlaggedString (s ∷ ss) → map (forget_string same_kind) (s ∷ ss) ≡ s ∷ ss →
      ClassTokenRow e (inside_tokens s ss ++ ts) in_strings us r rest → InStrings s ss us ts r rest
  inside_found s ss ts us r rest flags plain row =
      let s_plain : forget_string same_kind s ≡ s = cc plain in
      let tail = barred_tokens ss ++ (strings_end ∷ ts) in
      let apart = append_assoc (letters_tokens s.body) (barred_tokens ss ++ (strings_end ∷ [])) ts ∙ ap (λ ts. letters_tokens s.body ++ ts) (append_assoc (barred_tokens ss) (strings_end ∷ []) ts) in
      let letters = letters_found s.body tail us r rest (ap (λ s. s.body) s_plain) (subst (λ ts. ClassTokenRow e ts in_strings us r rest) apart row) in
      let more = strings_found ss ts letters.0 r rest (All-tail IsFlaggedString s ss flags) (let k : map (forget_string same_kind) ss ≡ ss = cc plain in k) letters.2 in
      record { further = letters.0; first_row = letters.1; closer = more.closer; back = more.back; more_row = more.row; closer_is = more.closer_is; others = more.others }

  pub is_tokens : (ss : List ClassString) (w rest : List CodePoint) → SpellsStrings e ss w rest → (d : ClassStringDisjunction) → d.body ≡ ss → ClassTokenRow e (operand_tokens (tree.strings d)) fresh (w ++ rest) fresh rest
  is_tokens ss w rest s d is =
      subst (λ ts. ClassTokenRow e ts fresh (w ++ rest) fresh rest) (sym (tokens_are d (string_of s.first) s.more (is ∙ s.strings_are))) (s.opener, s.inside, s.whole, (s.sets, s.opener_is), inside_row ss w rest s)

  -- from the token of their opener on
  pub is_spelled_from : (d : ClassStringDisjunction) → IsFittingMember (tree.strings d) → IsFlaggedMember (tree.strings d) → forget_member same_kind (tree.strings d) ≡ tree.strings d →
      (w opener inside : List CodePoint) (p : Place) (rest : List CodePoint) → is_sets e.mode ≡ true → w ++ rest ≡ opener ++ inside → values opener ≡ 92 ∷ 113 ∷ 123 ∷ [] →
      (ts : List ClassToken) → operand_tokens (tree.strings d) ≡ strings ∷ ts → ClassTokenRow e ts in_strings inside p rest → SpellsStrings e d.body w rest × (p ≡ fresh)
  is_spelled_from d fits flags plain w opener inside p rest m whole h ts is row =
      some_strings d.body fits (λ s ss body_is.
      let same = sym is ∙ tokens_are d s ss body_is in
      let own : ts ≡ inside_tokens s ss ++ [] = (let k : ts ≡ inside_tokens s ss = cc same in k) ∙ sym (append-nil (inside_tokens s ss)) in
      let body_plain : map (forget_string same_kind) d.body ≡ d.body = ap body_of plain in
      let f =
      inside_found s ss [] inside p rest (subst (All IsFlaggedString) body_is flags.1) (subst (λ body. map (forget_string same_kind) body ≡ body) body_is body_plain) (subst (λ ts. ClassTokenRow e ts in_strings inside p rest) own row) in
      let s_plain : forget_string same_kind s ≡ s = (let k = subst (λ body. map (forget_string same_kind) body ≡ body) body_is body_plain in let k : forget_string same_kind s ≡ s = cc k in k) in (
        record {
          sets = m;
          opener = opener;
          inside = inside;
          whole = whole;
          opener_is = h;
          first = s.body;
          further = f.further;
          first_row = f.first_row;
          more = ss;
          closer = f.closer;
          more_row = subst (λ back. BarredRow e ss f.further (f.closer ∷ back)) f.others.1 f.more_row;
          closer_is = f.closer_is;
          strings_are = body_is ∙ ap (λ s. s ∷ ss) (sym (string_by_body s (All-head IsFlaggedString s ss (subst (All IsFlaggedString) body_is flags.1)) s_plain));
        },
        sym f.others.0,
      ))
    where
      body_of : tree.Member → List ClassString
      body_of (tree.strings d) = d.body
      body_of m = []

  pub is_spelled : (d : ClassStringDisjunction) (w rest : List CodePoint) → IsFittingMember (tree.strings d) → IsFlaggedMember (tree.strings d) → forget_member same_kind (tree.strings d) ≡ tree.strings d →
      ClassTokenRow e (operand_tokens (tree.strings d)) fresh (w ++ rest) fresh rest → SpellsStrings e d.body w rest
  is_spelled d w rest fits flags plain row = (is_spelled_from d fits flags plain w row.0 row.1 fresh rest row.3.0 row.2 row.3.1 _ refl row.4).0

  -- A class string ends where others stand.
  pub first_ends : (ss : List ClassString) (us : List CodePoint) (closer : CodePoint) (rest : List CodePoint) → closer.value ≡ 125 → BarredRow e ss us (closer ∷ rest) → IsStringEnd us
  first_ends [] us closer rest h row = inr (ap (λ us. starts 125 (values us)) row.1 ∙ ap (λ c. c == 125) h)
  first_ends (s ∷ ss) us closer rest h row = inl (ap (λ us. starts 124 (values us)) row.2 ∙ bar_first e s row.0 row.1 row.3)
