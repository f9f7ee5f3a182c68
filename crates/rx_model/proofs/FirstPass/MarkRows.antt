-- The tokens of a tree as stretches of marks, by their indices.
use Rattle.std.proofs.Common.{◌≡◌, refl, ap, sym, ◌∙◌, subst, ℕ, zero, suc, ◌<◌, ◌≤◌, Bool, Option, Some, None, List, [], ◌∷◌, ◌++◌, length, drop, Contains, arith, inl, inr}
use Rattle.std.proofs.lemmas.Bool.{cases_lt}
use Rattle.std.proofs.lemmas.List.Elements.{All-head, All-tail}
use Rattle.rx_ast.specs.Tree as tree
use Rattle.rx_model.specs.declared.mode.Mode.{Mode}
use Rattle.rx_model.specs.FirstPass.Cuts.{IsOpening, AreOthers, AreMarksOfAll}
use Rattle.rx_model.specs.FirstPass.GroupStates.{GroupState, step, group_states}
use Rattle.rx_model.specs.FirstPass.Marks as mark
use Rattle.rx_model.specs.FirstPass.Marks.{Mark, mark_at, mark_name}
use Rattle.rx_model.specs.Trees.Names.{opener_names}
use Rattle.rx_model.specs.Trees.Token.{Token, opener, closer, bar, quantifier, opener_of, leaf_token}

-- the mark at an index is the first of those that are left there
first_mark : (ms : List Mark) (k : ℕ) (m : Mark) (rest : List Mark) → drop k ms ≡ m ∷ rest → (mark_at ms k ≡ m) × (drop (suc k) ms ≡ rest)
first_mark [] zero m rest e = cc
first_mark [] (suc k) m rest e = cc
first_mark (x ∷ ms) zero m rest e = (cc, cc)
first_mark (x ∷ ms) (suc k) m rest e = first_mark ms k m rest e

-- where no mark is left all are after
pub past_end : (ms : List Mark) (k : ℕ) → drop k ms ≡ [] → length ms ≤ k
past_end [] k e = omega arith
past_end (m ∷ ms) zero e = cc
past_end (m ∷ ms) (suc k) e = let h = past_end ms k e in omega arith

-- a mark with a name is one of the marks
pub named_before_end : (mode : Mode) (ms : List Mark) (b : ℕ) (name : List ℕ) → mark_name mode (mark_at ms b) ≡ Some name → b < length ms
named_before_end mode [] b name e = cc
named_before_end mode (m ∷ ms) zero name e = omega arith
named_before_end mode (m ∷ ms) (suc b) name e = let h = named_before_end mode ms b name e in omega arith

-- the marks from k to j open and close nothing
pub record OnlyOthers (ms : List Mark) (k : ℕ) (j : ℕ) : Type 0 where
  pub up : k ≤ j
  pub same : group_states ms j ≡ group_states ms k
  pub each : (b : ℕ) → k ≤ b → b < j → mark_at ms b ≡ mark.other

pub no_mark : (ms : List Mark) (k : ℕ) → OnlyOthers ms k k
no_mark ms k = record { up = omega arith; same = refl; each = λ b l g. absurd (omega arith) }

one_more : (ms : List Mark) (k j : ℕ) → mark_at ms k ≡ mark.other → OnlyOthers ms (suc k) j → OnlyOthers ms k j
one_more ms k j e o = record {
  up = let l = o.up in omega arith;
  same = o.same ∙ ap (λ m. step k m (group_states ms k)) e;
  each = λ b l g. elim (cases_lt k b) [
    | inl lt ↦ o.each b lt g
    | inr ge ↦ let here : b ≡ k = omega arith in ap (mark_at ms) here ∙ e
  ];
}

-- others in front of the rest
others_pass : (ms others rest : List Mark) (k : ℕ) → AreOthers others → drop k ms ≡ others ++ rest → (j : ℕ) × OnlyOthers ms k j × (drop j ms ≡ rest)
others_pass ms [] rest k a e = (k, no_mark ms k, e)
others_pass ms (m ∷ others) rest k a e =
    let f = first_mark ms k m (others ++ rest) e in
    let h = others_pass ms others rest (suc k) (All-tail (λ x. x ≡ mark.other) m others a) f.1 in
    (h.0, one_more ms k h.0 (f.0 ∙ All-head (λ x. x ≡ mark.other) m others a) h.1, h.2)

module _ (mode : Mode) (ms : List Mark) where
  -- the marks from index k on are those of these tokens
  abbrev pub AreFrom : ℕ → List Token → Type 0
  AreFrom k ts = AreMarksOfAll mode ts (drop k ms)

  -- From k on stand others, and then these tokens.
  abbrev pub OthersThen : ℕ → List Token → Type 0
  OthersThen k ts = (j : ℕ) × OnlyOthers ms k j × AreFrom j ts

  others_then : (others rest : List Mark) (k : ℕ) (ts : List Token) → drop k ms ≡ others ++ rest → AreOthers others → AreMarksOfAll mode ts rest → OthersThen k ts
  others_then others rest k ts e a r =
      let h = others_pass ms others rest k a e in (h.0, h.1, subst (AreMarksOfAll mode ts) (sym h.2) r)

  -- a leaf is others
  pub leaf_then : (l : tree.Leaf) (ts : List Token) (k : ℕ) → AreFrom k (leaf_token l ∷ ts) → OthersThen k ts
  leaf_then (tree.boundary b) ts k c = others_then c.0 c.1 k ts c.2 c.3 c.4
  leaf_then (tree.character x) ts k c = others_then c.0 c.1 k ts c.2 c.3 c.4
  leaf_then (tree.dot d) ts k c = others_then c.0 c.1 k ts c.2 c.3 c.4
  leaf_then (tree.class_escape x) ts k c = others_then c.0 c.1 k ts c.2 c.3 c.4
  leaf_then (tree.property p) ts k c = others_then c.0 c.1 k ts c.2 c.3 c.4
  leaf_then (tree.class x) ts k c = others_then c.0 c.1 k ts c.2 c.3 c.4
  leaf_then (tree.indexed r) ts k c = others_then c.0 c.1 k ts c.2 c.3 c.4
  leaf_then (tree.named r) ts k c = others_then c.0 c.1 k ts c.2 c.3 c.4

  -- so is a quantifier
  pub quantifier_then : (min : ℕ) (max : Option ℕ) (greedy : Bool) (ts : List Token) (k : ℕ) → AreFrom k (quantifier min max greedy ∷ ts) → OthersThen k ts
  quantifier_then min max greedy ts k c = others_then c.0 c.1 k ts c.2 c.3 c.4

  -- a token that is one mark
  alone_then : (m : Mark) (here rest : List Mark) (k : ℕ) (ts : List Token) → drop k ms ≡ here ++ rest → here ≡ m ∷ [] → AreMarksOfAll mode ts rest → (mark_at ms k ≡ m) × AreFrom (suc k) ts
  alone_then m here rest k ts e a r =
      let f = first_mark ms k m rest (e ∙ ap (λ xs. xs ++ rest) a) in (f.0, subst (AreMarksOfAll mode ts) (sym f.1) r)

  pub closer_then : (ts : List Token) (k : ℕ) → AreFrom k (closer ∷ ts) → (mark_at ms k ≡ mark.closer) × AreFrom (suc k) ts
  closer_then ts k c = alone_then mark.closer c.0 c.1 k ts c.2 c.3 c.4

  pub bar_then : (ts : List Token) (k : ℕ) → AreFrom k (bar ∷ ts) → (mark_at ms k ≡ mark.bar) × AreFrom (suc k) ts
  bar_then ts k c = alone_then mark.bar c.0 c.1 k ts c.2 c.3 c.4

  -- an opener is an opening and others
  pub opener_then : (o : tree.Opener) (ts : List Token) (k : ℕ) → AreFrom k (opener (opener_of o) ∷ ts) → IsOpening mode (opener_of o) (mark_at ms k) × OthersThen (suc k) ts
  opener_then o ts k c =
      let a = c.3 in
      let f = first_mark ms k a.0 (a.1 ++ c.1) (c.2 ∙ ap (λ xs. xs ++ c.1) a.2) in
      (subst (IsOpening mode (opener_of o)) (sym f.0) a.3, others_then a.1 c.1 (suc k) ts f.1 a.4 c.4)

-- an opening opens a group
pub opening_step : (mode : Mode) (o : tree.Opener) (m : Mark) (k : ℕ) (fs : List GroupState) → IsOpening mode (opener_of o) m → step k m fs ≡ (suc k, suc k) ∷ fs
opening_step mode (tree.capturing None) m k fs h = ap (λ x. step k x fs) h
opening_step mode (tree.capturing (Some name)) m k fs h = ap (λ x. step k x fs) h.1
opening_step mode q m k fs h = ap (λ x. step k x fs) h

-- and has no name but the group's
pub opening_named : (mode : Mode) (o : tree.Opener) (m : Mark) (name : List ℕ) → IsOpening mode (opener_of o) m → mark_name mode m ≡ Some name → Contains (opener_names o) name
opening_named mode (tree.capturing None) m name h e = let f = ap (mark_name mode) h in cc
opening_named mode (tree.capturing (Some x)) m name h e =
    let f = ap (mark_name mode) h.1 ∙ h.2 in let same : x ≡ name = cc (e, f) in (0, omega arith, same)
opening_named mode (tree.ignoring modifiers) m name h e = let f = ap (mark_name mode) h in cc
opening_named mode (tree.looking kind) m name h e = let f = ap (mark_name mode) h in cc

one_name : (x name : List ℕ) → Contains (x ∷ []) name → x ≡ name
one_name x name (zero, l, e) = e
one_name x name (suc k, l, e) = absurd (omega arith)

-- where the group has a name, that is the opening's
pub named_opening : (mode : Mode) (o : tree.Opener) (m : Mark) (name : List ℕ) → IsOpening mode (opener_of o) m → Contains (opener_names o) name → mark_name mode m ≡ Some name
named_opening mode (tree.capturing None) m name h c = let l = c.1 in absurd (omega arith)
named_opening mode (tree.capturing (Some x)) m name h c = ap (mark_name mode) h.1 ∙ h.2 ∙ ap Some (one_name x name c)
named_opening mode q m name h c = let l = c.1 in absurd (omega arith)
