-- A class without `v` is made of pieces, and pieces in brackets are a class.
use Rattle.std.proofs.Common.{◌≡◌, refl, sym, ap, ap₂, ◌∙◌, subst, ℕ, Bool, true, false, ◌&&◌, ◌||◌, Some, None, List, [], ◌∷◌, ◌++◌, append_assoc, inl, inr}
use Rattle.std.specs.Prelude.{All}
use Rattle.std.proofs.lemmas.List.Elements.{All-cons, All-nil}
use Rattle.rx_ast.specs.declared.leaf.CharacterKind.{CharacterKind}
use Rattle.rx_ast.specs.declared.leaf.CharacterKind.TheVariants as kinds
use Rattle.rx_ast.specs.declared.class.CharacterClassContentsKind.TheVariants.{Union}
use Rattle.rx_ast.specs.ClassTree.{Class, Member, Members, class, member, members, no_member}
use Rattle.rx_ast.specs.Forget.{nowhere}
use Rattle.rx_units.specs.declared.code_point.CodePoint.{CodePoint}
use Rattle.rx_model.specs.declared.mode.Mode.TheVariants.{Legacy, Sets}
use Rattle.rx_model.specs.declared.mode.Mode.{Mode}
use Rattle.rx_model.specs.Classes.ClassBrackets.{class_of_members}
use Rattle.rx_model.specs.Classes.ClassFromTokens.{atom_member, range_member}
use Rattle.rx_model.specs.Classes.ClassPieces.{IsClassOfPieces, Piece, alone, range, three, SpellsPiece, of_atom, of_range, of_three, piece_members, pieces_members}
use Rattle.rx_model.specs.Classes.ClassRows.{BeforeThird, ClassTokenRow, IsClass, Place, SpellsAtom, SpellsClassCharacter, at_dash, at_high, at_second, at_third, fresh, has_threes, outside}
use Rattle.rx_model.specs.Classes.ClassTokens.{Atom, ClassToken, bracket, character, closer, dash, escape, high, is_character, item, operator, low, property, strings}
use Rattle.rx_model.specs.Inputs.Environment.{Environment, is_sets, is_unicode}
use Rattle.rx_units.specs.Sequences.{ElementRow}
use Rattle.rx_model.specs.Trees.Early.{any_strings, member_strings}
use Rattle.rx_model.proofs.Classes.ClassBrackets.{class_has_tokens, class_in_brackets}
use Rattle.rx_model.proofs.Classes.ClassFromTokens.{same_tokens}
use Rattle.rx_model.proofs.Classes.TokensOfBuilt.{IsPlainMember, atom_plain, atom_tokens}
use Rattle.rx_model.proofs.Classes.ClassEnds.{OfClass, class_ends, class_row_append, none_after_end}
use Rattle.rx_model.proofs.Classes.ClassFlags.{atom_flagged}
use Rattle.rx_model.proofs.Classes.ClassFronts.{after_first, after_one, single}
use Rattle.rx_model.proofs.Classes.ClassShapes.{between_by, class_tokens_by, contents_tokens, further_tokens, operand_tokens}
use Rattle.rx_model.proofs.Classes.ClassWholes.{only_sets}
use Rattle.rx_model.proofs.Classes.OneAtom.{dashed, one_atom}

abbrev piece_tokens : Piece → List ClassToken
piece_tokens (alone a) = item a ∷ []
piece_tokens (range k v j x) = low k v ∷ dash ∷ high j x ∷ []
piece_tokens (three a b) = item a ∷ item (character kinds.Symbol 45) ∷ item b ∷ []

abbrev pieces_tokens : List Piece → List ClassToken
pieces_tokens [] = []
pieces_tokens (p ∷ ps) = piece_tokens p ++ pieces_tokens ps

-- They are the tokens of the members that pieces give.
atom_first : (a : Atom) (ts : List ClassToken) → item a ∷ ts ≡ operand_tokens (atom_member a) ++ ts
atom_first a ts = ap (λ first. first ++ ts) (atom_tokens a)

tokens_of_piece : (p : Piece) (ms : List Member) → piece_tokens p ++ further_tokens [] (members ms) ≡ further_tokens [] (members (piece_members p ++ ms))
tokens_of_piece (alone a) ms = atom_first a (further_tokens [] (members ms))
tokens_of_piece (range k v j x) ms = refl
tokens_of_piece (three a b) ms =
    ap (λ ts. item a ∷ item (character kinds.Symbol 45) ∷ ts) (atom_first b (further_tokens [] (members ms)))
    ∙ atom_first a (item (character kinds.Symbol 45) ∷ (operand_tokens (atom_member b) ++ further_tokens [] (members ms)))

tokens_of_pieces : (ps : List Piece) → pieces_tokens ps ≡ further_tokens [] (members (pieces_members ps))
tokens_of_pieces [] = refl
tokens_of_pieces (p ∷ ps) = ap (λ ts. piece_tokens p ++ ts) (tokens_of_pieces ps) ∙ tokens_of_piece p (pieces_members ps)

-- a union has no operator between its members
pub union_tokens : (ms : Members) → contents_tokens [] ms ≡ further_tokens [] ms
union_tokens no_member = refl
union_tokens (member m ms) = refl

contents_of_pieces : (ps : List Piece) → pieces_tokens ps ≡ contents_tokens (between_by Union) (members (pieces_members ps))
contents_of_pieces ps = tokens_of_pieces ps ∙ sym (union_tokens (members (pieces_members ps)))

pub legacy_threes : (mode : Mode) → is_unicode mode ≡ false → has_threes mode ≡ true
legacy_threes Legacy h = refl
legacy_threes mode h = absurd (let no : ⊥ = cc h in no)

threes_legacy : (mode : Mode) → has_threes mode ≡ true → is_unicode mode ≡ false
threes_legacy Legacy h = refl
threes_legacy mode h = absurd (let no : ⊥ = cc h in no)

module _ (e : Environment) where
  abbrev PieceRow : List Piece → List CodePoint → List CodePoint → Type 0
  PieceRow ps us rest = ElementRow {Place = Unit {0}} (λ q. SpellsPiece e) (λ q p more. tt) ps tt us tt rest

  -- The members are as the standard has them.
  piece_plain : (p : Piece) (w rest : List CodePoint) (ms : List Member) → SpellsPiece e p w rest → All IsPlainMember ms → All IsPlainMember (piece_members p ++ ms)
  piece_plain _ w rest ms (of_atom a s d) all = All-cons IsPlainMember (atom_member a) ms (atom_plain a (atom_flagged e a w rest s)) all
  piece_plain _ _ rest ms (of_range {k} {j} {v} {x} first hyphen last s h t) all = All-cons IsPlainMember (range_member k v j x) ms (record { fits = tt; flagged = tt; plain = refl }) all
  piece_plain _ _ rest ms (of_three a b first hyphen third m apart s h t) all =
      let between = atom_member (character kinds.Symbol 45) in
      All-cons IsPlainMember (atom_member a) (between ∷ atom_member b ∷ ms) (atom_plain a (atom_flagged e a first (hyphen ∷ (third ++ rest)) s))
      (All-cons IsPlainMember between (atom_member b ∷ ms) (atom_plain (character kinds.Symbol 45) tt)
      (All-cons IsPlainMember (atom_member b) ms (atom_plain b (atom_flagged e b third rest t)) all))

  pieces_plain : (ps : List Piece) (us rest : List CodePoint) → PieceRow ps us rest → All IsPlainMember (pieces_members ps)
  pieces_plain [] us rest row = All-nil IsPlainMember
  pieces_plain (p ∷ ps) us rest row = piece_plain p row.0 row.1 (pieces_members ps) row.3 (pieces_plain ps row.1 rest row.4)

  -- Pieces are tokens.
  pub piece_row : (p : Piece) (w rest : List CodePoint) → SpellsPiece e p w rest → ClassTokenRow e (piece_tokens p) fresh (w ++ rest) fresh rest
  piece_row _ w rest (of_atom a s d) = (w, rest, refl, (s, inl d), (after_one e a rest d, refl))
  piece_row _ _ rest (of_range {k} {j} {v} {x} first hyphen last s h t) = (
    first,
    hyphen ∷ (last ++ rest),
    append_assoc first (hyphen ∷ last) rest,
    (s, dashed e hyphen h (character j x) last rest t, record { hyphen = hyphen; kind = j; value = x; w = last; more = rest; whole = refl; hyphen_is = h; spelled = t }),
    (hyphen ∷ [], last ++ rest, refl, ap (λ c. c ∷ []) h, (last, rest, refl, t, (refl, refl))),
  )
  piece_row _ _ rest (of_three a b first hyphen third m apart s h t) =
      let before : BeforeThird e a (hyphen ∷ (third ++ rest)) = record {
        hyphen = hyphen;
        third = b;
        w = third;
        more = rest;
        whole = refl;
        hyphen_is = h;
        dashed = dashed e hyphen h b third rest t;
        spelled = t;
        apart = apart;
        threes = legacy_threes e.mode m;
      } in (
        first,
        hyphen ∷ (third ++ rest),
        append_assoc first (hyphen ∷ third) rest,
        (s, inr (inl before)),
        subst (λ q. ClassTokenRow e (item (character kinds.Symbol 45) ∷ item b ∷ []) q (hyphen ∷ (third ++ rest)) fresh rest) (sym (after_first e a (hyphen ∷ (third ++ rest)) before))
            (hyphen ∷ [], third ++ rest, refl, (refl, ap (λ c. c ∷ []) h), (third, rest, refl, t, (refl, refl))),
      )

  pieces_row : (ps : List Piece) (us rest : List CodePoint) → PieceRow ps us rest → ClassTokenRow e (pieces_tokens ps) fresh us fresh rest
  pieces_row [] us rest row = (refl, row.1)
  pieces_row (p ∷ ps) us rest row =
      class_row_append e (piece_tokens p) (pieces_tokens ps) fresh us fresh row.1 fresh rest
      (subst (λ us. ClassTokenRow e (piece_tokens p) fresh us fresh row.1) (sym row.2) (piece_row p row.0 row.1 row.3)) (pieces_row ps row.1 rest row.4)

  -- No member of them may contain strings.
  module _ (no_sets : is_sets e.mode ≡ false) where
    no_such : is_sets e.mode ≡ true → ⊥
    no_such h = let no : true ≡ false = sym h ∙ no_sets in let k : ⊥ = cc no in k

    not_sets : e.mode ≡ Sets → ⊥
    not_sets h = no_such (ap is_sets h)

    atom_without : (a : Atom) (w rest : List CodePoint) → SpellsAtom e a w rest → member_strings (atom_member a) ≡ false
    atom_without (character k v) w rest s = refl
    atom_without (escape k) w rest s = refl
    atom_without (property negative may name value) w rest s = only_sets e.mode not_sets may name value s.text s.spelled

    piece_without : (p : Piece) (w rest : List CodePoint) (ms : List Member) → SpellsPiece e p w rest → any_strings (members (piece_members p ++ ms)) ≡ any_strings (members ms)
    piece_without _ w rest ms (of_atom a s d) = ap (λ b. b || any_strings (members ms)) (atom_without a w rest s)
    piece_without _ _ rest ms (of_range first hyphen last s h t) = refl
    piece_without _ _ rest ms (of_three a b first hyphen third m apart s h t) =
        ap₂ (λ b c. b || (false || (c || any_strings (members ms)))) (atom_without a first (hyphen ∷ (third ++ rest)) s) (atom_without b third rest t)

    pieces_without : (ps : List Piece) (us rest : List CodePoint) → PieceRow ps us rest → any_strings (members (pieces_members ps)) ≡ false
    pieces_without [] us rest row = refl
    pieces_without (p ∷ ps) us rest row = piece_without p row.0 row.1 (pieces_members ps) row.3 ∙ pieces_without ps row.1 rest row.4

    -- The class of pieces, by its members.
    class_of_pieces : (negative : Bool) (ps : List Piece) (us rest : List CodePoint) → PieceRow ps us rest →
        class_of_members negative Union (pieces_members ps) ≡ class nowhere negative false Union (members (pieces_members ps))
    class_of_pieces negative ps us rest row = ap (λ may. class nowhere negative may Union (members (pieces_members ps))) (pieces_without ps us rest row)

    pub is_class : (c : Class) (w rest : List CodePoint) → IsClassOfPieces e c w rest → IsClass e c w rest
    is_class c w rest of =
        let b = of.brackets in
        let row = subst (λ ts. ClassTokenRow e ts fresh b.inside fresh (b.closer ∷ rest)) (contents_of_pieces of.pieces) (pieces_row of.pieces b.inside (b.closer ∷ rest) of.row) in
        subst (λ c. IsClass e c w rest) (class_of_pieces of.negative of.pieces b.inside (b.closer ∷ rest) of.row ∙ sym of.class_is)
        (class_in_brackets e of.negative Union (pieces_members of.pieces) w rest b tt (pieces_plain of.pieces b.inside (b.closer ∷ rest) of.row) row)

    -- Tokens up to the closer are those of pieces.
    record InPieces (ts : List ClassToken) (us rest : List CodePoint) : Type 0 where
      pieces : List Piece
      last : CodePoint
      tokens : ts ≡ pieces_tokens pieces ++ (closer ∷ [])
      row : PieceRow pieces us (last ∷ rest)
      last_is : last.value ≡ 93

    with_piece : (p : Piece) (w more : List CodePoint) (ts : List ClassToken) (us rest : List CodePoint) → us ≡ w ++ more → SpellsPiece e p w more → InPieces ts more rest → InPieces (piece_tokens p ++ ts) us rest
    with_piece p w more ts us rest whole s i = record {
      pieces = p ∷ i.pieces;
      last = i.last;
      tokens = ap (λ ts. piece_tokens p ++ ts) i.tokens ∙ sym (append_assoc (piece_tokens p) (pieces_tokens i.pieces) (closer ∷ []));
      row = (w, more, whole, s, i.row);
      last_is = i.last_is;
    }

    -- tokens of a class from a place in its bracket on, up to its closer
    abbrev ToCloser : Place → List ClassToken → List CodePoint → List CodePoint → Type 0
    ToCloser q ts us rest = OfClass e ts (Some (0, q)) us None rest

    none_there : {A : Type 0} (q : Place) (us rest : List CodePoint) → ToCloser q [] us rest → A
    none_there q us rest row = absurd (let same = row.0 in let no : ⊥ = cc same in no)

    mutual
      pieces_in : (ts : List ClassToken) (us rest : List CodePoint) → ToCloser fresh ts us rest → InPieces ts us rest
      pieces_in [] us rest row = none_there fresh us rest row
      pieces_in (closer ∷ ts) us rest row =
          let n = none_after_end e ts row.1 None rest row.4 in
          let u = single row.0 93 row.3 in
          record {
            pieces = [];
            last = u.0;
            tokens = ap (λ ts. closer ∷ ts) n.0;
            row = (refl, row.2 ∙ ap₂ (λ w rest. w ++ rest) u.1 n.1);
            last_is = u.2;
          }
      pieces_in ((item a) ∷ ts) us rest row = elim row.3.1 [
        | inl d ↦
            with_piece (alone a) row.0 row.1 ts us rest row.2 (of_atom a row.3.0 d) (pieces_in ts row.1 rest (subst (λ q. ToCloser q ts row.1 rest) (after_one e a row.1 d) row.4))
        | inr o ↦ elim o [
          | inl t ↦ second_in a row.0 row.1 t ts us rest row.2 row.3.0 (subst (λ q. ToCloser q ts row.1 rest) (after_first e a row.1 t) row.4)
          | inr b ↦ absurd (no_such b.sets)
        ]
      ]
      pieces_in ((low k v) ∷ ts) us rest row = dash_in k v row.0 row.1 ts us rest row.2 row.3.0 row.4
      pieces_in ((bracket negative) ∷ ts) us rest row = absurd (no_such row.3.0)
      pieces_in (strings ∷ ts) us rest row = absurd (no_such row.3.0)
      pieces_in ((operator o) ∷ ts) us rest row = absurd (no_such row.3.0)
      pieces_in (t ∷ ts) us rest row = absurd row.3

      second_in : (a : Atom) (first more : List CodePoint) (t : BeforeThird e a more) (ts : List ClassToken) (us rest : List CodePoint) → us ≡ first ++ more → SpellsAtom e a first more → ToCloser at_second ts more rest →
          InPieces (item a ∷ ts) us rest
      second_in a first more t [] us rest whole s row = none_there at_second more rest row
      second_in a first more t ((item b) ∷ ts) us rest whole s row =
          let u = single row.0 45 row.3.1 in
          let at : more ≡ u.0 ∷ row.1 = row.2 ∙ ap (λ w. w ++ row.1) u.1 in
          subst (λ b. InPieces (item a ∷ item b ∷ ts) us rest) (sym row.3.0)
          (third_in a first u.0 row.1 (subst (BeforeThird e a) at t) ts us rest (whole ∙ ap (λ more. first ++ more) at) (subst (SpellsAtom e a first) at s) u.2 row.4)
      second_in a first more t (s ∷ ts) us rest whole spelled row = absurd row.3

      third_in : (a : Atom) (first : List CodePoint) (hyphen : CodePoint) (more : List CodePoint) (t : BeforeThird e a (hyphen ∷ more)) (ts : List ClassToken) (us rest : List CodePoint) → us ≡ first ++ (hyphen ∷ more) →
          SpellsAtom e a first (hyphen ∷ more) → hyphen.value ≡ 45 → ToCloser at_third ts more rest → InPieces (item a ∷ item (character kinds.Symbol 45) ∷ ts) us rest
      third_in a first hyphen more t [] us rest whole s h row = none_there at_third more rest row
      third_in a first hyphen more t ((item b) ∷ ts) us rest whole s h row =
          let tails = sym t.whole in
          let o = one_atom e t.third b t.w t.more row.0 row.1 ((let same : t.w ++ t.more ≡ more = cc tails in same) ∙ row.2) t.spelled row.3 in
          with_piece (three a b) (first ++ (hyphen ∷ row.0)) row.1 ts us rest (whole ∙ ap (λ more. first ++ (hyphen ∷ more)) row.2 ∙ sym (append_assoc first (hyphen ∷ row.0) row.1))
          (of_three a b first hyphen row.0 (threes_legacy e.mode t.threes) (ap (λ b. is_character a && is_character b) (sym o.0) ∙ t.apart) (subst (λ more. SpellsAtom e a first (hyphen ∷ more)) row.2 s) h row.3)
          (pieces_in ts row.1 rest row.4)
      third_in a first hyphen more t (s ∷ ts) us rest whole spelled h row = absurd row.3

      dash_in : (k : CharacterKind) (v : ℕ) (first more : List CodePoint) (ts : List ClassToken) (us rest : List CodePoint) → us ≡ first ++ more → SpellsClassCharacter e k v first more → ToCloser at_dash ts more rest →
          InPieces (low k v ∷ ts) us rest
      dash_in k v first more [] us rest whole s row = none_there at_dash more rest row
      dash_in k v first more (dash ∷ ts) us rest whole s row =
          let u = single row.0 45 row.3 in
          let at : more ≡ u.0 ∷ row.1 = row.2 ∙ ap (λ w. w ++ row.1) u.1 in
          high_in k v first u.0 row.1 ts us rest (whole ∙ ap (λ more. first ++ more) at) (subst (SpellsClassCharacter e k v first) at s) u.2 row.4
      dash_in k v first more (s ∷ ts) us rest whole spelled row = absurd row.3

      high_in : (k : CharacterKind) (v : ℕ) (first : List CodePoint) (hyphen : CodePoint) (more : List CodePoint) (ts : List ClassToken) (us rest : List CodePoint) → us ≡ first ++ (hyphen ∷ more) →
          SpellsClassCharacter e k v first (hyphen ∷ more) → hyphen.value ≡ 45 → ToCloser at_high ts more rest → InPieces (low k v ∷ dash ∷ ts) us rest
      high_in k v first hyphen more [] us rest whole s h row = none_there at_high more rest row
      high_in k v first hyphen more ((high j x) ∷ ts) us rest whole s h row =
          with_piece (range k v j x) (first ++ (hyphen ∷ row.0)) row.1 ts us rest (whole ∙ ap (λ more. first ++ (hyphen ∷ more)) row.2 ∙ sym (append_assoc first (hyphen ∷ row.0) row.1))
          (of_range first hyphen row.0 (subst (λ more. SpellsClassCharacter e k v first (hyphen ∷ more)) row.2 s) h row.3)
          (pieces_in ts row.1 rest row.4)
      high_in k v first hyphen more (s ∷ ts) us rest whole spelled h row = absurd row.3

    pub is_of_pieces : (c : Class) (w rest : List CodePoint) → IsClass e c w rest → IsClassOfPieces e c w rest
    is_of_pieces (class s negative may kind ms) w rest is =
        let c = class s negative may kind ms in
        let tokens_are = class_tokens_by s negative may kind ms in
        let contents = contents_tokens (between_by kind) ms ++ (closer ∷ []) in
        let row : OfClass e (bracket negative ∷ contents) (Some (0, outside)) (w ++ rest) None rest = subst (λ ts. OfClass e ts (Some (0, outside)) (w ++ rest) None rest) tokens_are (class_ends e c w rest is) in
        let i = pieces_in contents row.1 rest row.4 in
        let made = class_has_tokens negative Union (pieces_members i.pieces) tt (pieces_plain i.pieces row.1 (i.last ∷ rest) i.row) in
        let same = same_tokens c (class_of_members negative Union (pieces_members i.pieces)) is.shape.0 is.shape.1 made.fitting made.flagged
        (tokens_are ∙ ap (λ ts. bracket negative ∷ ts) (i.tokens ∙ ap (λ ts. ts ++ (closer ∷ [])) (contents_of_pieces i.pieces)) ∙ sym made.tokens) in
        record {
          negative = negative;
          brackets = record { bracket = row.0; inside = row.1; closer = i.last; whole = row.2; bracket_is = row.3; closer_is = i.last_is };
          pieces = i.pieces;
          row = i.row;
          class_is = sym is.no_spans ∙ same ∙ made.plain ∙ class_of_pieces negative i.pieces row.1 (i.last ∷ rest) i.row;
        }
