-- The pieces of a class without `v` are a list that ends before a stop, and such a class is made of pieces.
use Rattle.std.proofs.Common.{◌≡◌, ◌⊎◌, refl, sym, ap, ap₂, ◌∙◌, true, false, ◌&&◌, List, [], ◌∷◌, ◌++◌, append_assoc, length, length-append, arith, inl, inr}
use Rattle.rx_units.specs.declared.code_point.CodePoint.{CodePoint}
use Rattle.rx_units.specs.Units.{values}
use Rattle.rx_model.specs.Classes.ClassPieces.{Piece, alone, range, three, SpellsPiece, of_atom, of_range, of_three, IsPiecesEnd}
use Rattle.rx_model.specs.Classes.ClassRows.{SpellsAtom, is_dashed}
use Rattle.rx_model.specs.Classes.ClassTokens.{Atom, character, escape, property, is_character}
use Rattle.rx_model.specs.Inputs.Environment.{Environment}
use Rattle.rx_model.proofs.Classes.ClassFronts.{atom_some}
use Rattle.rx_model.proofs.Classes.OneAtom.{dashed, none_at_closer, one_atom}

-- the piece that two atoms with a `-` between them are
abbrev pair : Atom → Atom → Piece
pair (character k v) (character j x) = range k v j x
pair a b = three a b

apart_pair : (a b : Atom) → (is_character a && is_character b) ≡ false → pair a b ≡ three a b
apart_pair (character k v) (character j x) h = absurd (let no : ⊥ = cc h in no)
apart_pair (character k v) (escape j) h = refl
apart_pair (character k v) (property negative may name value) h = refl
apart_pair (escape k) b h = refl
apart_pair (property negative may name value) b h = refl

module _ (e : Environment) where
  record Alone (p : Piece) (w rest : List CodePoint) : Type 0 where
    atom : Atom
    spelled : SpellsAtom e atom w rest
    last : is_dashed (values rest) ≡ false
    is : p ≡ alone atom

  record Paired (p : Piece) (w rest : List CodePoint) : Type 0 where
    first : Atom
    second : Atom
    front : List CodePoint
    hyphen : CodePoint
    back : List CodePoint
    whole : w ≡ front ++ (hyphen ∷ back)
    first_is : SpellsAtom e first front (hyphen ∷ (back ++ rest))
    hyphen_is : hyphen.value ≡ 45
    second_is : SpellsAtom e second back rest
    is : p ≡ pair first second

  parts : (p : Piece) (w rest : List CodePoint) → SpellsPiece e p w rest → Alone p w rest ⊎ Paired p w rest
  parts _ _ _ (of_atom a s d) = inl (record { atom = a; spelled = s; last = d; is = refl })
  parts _ _ _ (of_range {k} {j} {v} {x} low hyphen high s h t) = inr (record {
    first = character k v;
    second = character j x;
    front = low;
    hyphen = hyphen;
    back = high;
    whole = refl;
    first_is = s;
    hyphen_is = h;
    second_is = t;
    is = refl;
  })
  parts _ _ _ (of_three a b first hyphen third m c s h t) = inr (record {
    first = a;
    second = b;
    front = first;
    hyphen = hyphen;
    back = third;
    whole = refl;
    first_is = s;
    hyphen_is = h;
    second_is = t;
    is = sym (apart_pair a b c);
  })

  -- the first atom of a piece, and what follows it
  pair_front : (p : Piece) (w rest : List CodePoint) (q : Paired p w rest) → w ++ rest ≡ q.front ++ (q.hyphen ∷ (q.back ++ rest))
  pair_front p w rest q = ap (λ w. w ++ rest) q.whole ∙ append_assoc q.front (q.hyphen ∷ q.back) rest

  -- An atom that is a piece is not the first of two.
  no_pair : (p s : Piece) (w more v rest : List CodePoint) → w ++ more ≡ v ++ rest → Alone p w more → Paired s v rest → ⊥
  no_pair p s w more v rest h a q =
      let o = one_atom e a.atom q.first w more q.front (q.hyphen ∷ (q.back ++ rest)) (h ∙ pair_front s v rest q) a.spelled q.first_is in
      let no : true ≡ false = sym (dashed e q.hyphen q.hyphen_is q.second q.back rest q.second_is) ∙ ap (λ us. is_dashed (values us)) (sym o.1) ∙ a.last in
      let k : ⊥ = cc no in k

  pub one_piece : (q : Unit {0}) (p s : Piece) (w more v rest : List CodePoint) → w ++ more ≡ v ++ rest → SpellsPiece e p w more → SpellsPiece e s v rest → (p ≡ s) × (more ≡ rest)
  one_piece q p s w more v rest h a b = elim (parts p w more a) [
    | inl x ↦ elim (parts s v rest b) [
      | inl y ↦ let o = one_atom e x.atom y.atom w more v rest h x.spelled y.spelled in (x.is ∙ ap alone o.0 ∙ sym y.is, o.1)
      | inr y ↦ absurd (no_pair p s w more v rest h x y)
    ]
    | inr x ↦ elim (parts s v rest b) [
      | inl y ↦ absurd (no_pair s p v rest w more (sym h) y x)
      | inr y ↦
          let o = one_atom e x.first y.first x.front (x.hyphen ∷ (x.back ++ more)) y.front (y.hyphen ∷ (y.back ++ rest)) (sym (pair_front p w more x) ∙ h ∙ pair_front s v rest y) x.first_is y.first_is in
          let tails = o.1 in
          let t = one_atom e x.second y.second x.back more y.back rest (let same : x.back ++ more ≡ y.back ++ rest = cc tails in same) x.second_is y.second_is in
          (x.is ∙ ap₂ pair o.0 t.0 ∙ sym y.is, t.1)
    ]
  ]

  pub piece_some : (q : Unit {0}) (p : Piece) (rest : List CodePoint) → SpellsPiece e p [] rest → ⊥
  piece_some q p rest s = elim (parts p [] rest s) [
    | inl a ↦ let k : ⊥ = omega (arith, atom_some e a.atom [] rest a.spelled) in k
    | inr x ↦ let k : ⊥ = omega (arith, ap length x.whole, length-append x.front (x.hyphen ∷ x.back)) in k
  ]

  -- No piece begins where they end.
  pub none_at_end : (q : Unit {0}) (us : List CodePoint) → IsPiecesEnd us → (p : Piece) (w rest : List CodePoint) → us ≡ w ++ rest → SpellsPiece e p w rest → ⊥
  none_at_end q us (inl c) p w rest h s = elim (parts p w rest s) [
    | inl a ↦ none_at_closer e us c a.atom w rest h a.spelled
    | inr x ↦ none_at_closer e us c x.first x.front (x.hyphen ∷ (x.back ++ rest)) (h ∙ pair_front p w rest x) x.first_is
  ]
  none_at_end q us (inr none) p [] rest h s = piece_some q p rest s
  none_at_end q us (inr none) p (u ∷ w) rest h s = let no : [] ≡ u ∷ (w ++ rest) = sym none ∙ h in let k : ⊥ = cc no in k
