-- How a class is read depends on the values of units alone, but for the kinds of its characters.
use Rattle.std.proofs.Common.{◌≡◌, refl, sym, ap, ap₂, ◌∙◌, ℕ, zero, suc, ◌-◌, ◌==◌, Bool, true, false, cond, ◌&&◌, ◌||◌, Option, Some, None, option_map, List, [], ◌∷◌, map, drop}
use Rattle.std.proofs.lemmas.List.{drop-map}
use Rattle.rx_ast.specs.declared.leaf.CharacterKind.{CharacterKind}
use Rattle.rx_ast.specs.declared.leaf.CharacterKind.TheVariants.{Symbol}
use Rattle.rx_ast.specs.ClassTree.{Class}
use Rattle.rx_ast.specs.Forget.{forget_class, no_kind}
use Rattle.rx_units.specs.declared.code_point.CodePoint.{CodePoint}
use Rattle.rx_units.specs.Units.{values}
use Rattle.rx_units.proofs.Choices.{Some-inj}
use Rattle.rx_model.specs.Classes.ClassFromTokens.{class_of_tokens}
use Rattle.rx_model.specs.Classes.ClassFronts.{AtomRead, atom_read, no_atom, escape_in_class, atom_at, TokenRead, item_where, item_of, high_of, before_dash, item_before, bracket_at, set_token, fresh_token, operand_of, string_token, token_where, class_token_at, TokensRead, with_token, tokens_on, tokens_from, class_tokens_at, class_in, class_of, class_front}
use Rattle.rx_model.specs.Classes.ClassRows.{Place, outside, fresh, at_dash, at_high, at_second, at_third, after_operator, in_strings, following_item, has_hyphen, has_threes, is_dashed, may_follow_operator, stands_raw_in_class}
use Rattle.rx_model.specs.Classes.ClassTokens.{Atom, character, escape, property, ClassToken, closer, item, dash}
use Rattle.rx_model.specs.Inputs.Environment.{Environment, is_sets}
use Rattle.rx_model.specs.FirstPass.Marks.{starts}
use Rattle.rx_model.specs.Reading.ElementKinds.{NestedPlace, after_of_class}
use Rattle.rx_model.specs.Characters.UnitKinds.{unit_kind}
use Rattle.rx_model.proofs.Classes.BareClasses.{bare_atom, bare_class_token, class_bare}

-- what is read, without the kinds of characters

abbrev bare_atom_read : AtomRead → AtomRead
bare_atom_read (atom_read a n) = atom_read (bare_atom a) n
bare_atom_read no_atom = no_atom

abbrev bare_read : TokenRead → TokenRead
bare_read None = None
bare_read (Some t) = Some (bare_class_token t.0, t.1)

abbrev bare_tokens_read : TokensRead → TokensRead
bare_tokens_read None = None
bare_tokens_read (Some ts) = Some (map bare_class_token ts.0, ts.1)

abbrev pub bare_class_read : Option (Class × ℕ) → Option (Class × ℕ)
bare_class_read None = None
bare_class_read (Some c) = Some (forget_class no_kind c.0, c.1)

pub drop_values : (n : ℕ) (us vs : List CodePoint) → values us ≡ values vs → values (drop n us) ≡ values (drop n vs)
drop_values n us vs h = sym (drop-map (λ (u : CodePoint). u.value) n us) ∙ ap (drop n) h ∙ drop-map (λ (u : CodePoint). u.value) n vs

-- What is done with atoms that were read does not look at their kinds.

atom_twice : (a : Atom) → bare_atom (bare_atom a) ≡ bare_atom a
atom_twice (character k v) = refl
atom_twice (escape k) = refl
atom_twice (property negative may name value) = refl

where_bare : (there : Bool) (a : Atom) (n : ℕ) → bare_read (item_where there a n) ≡ item_where there (bare_atom a) n
where_bare true a n = refl
where_bare false a n = refl

item_bare : (r : AtomRead) → bare_read (item_of r) ≡ item_of (bare_atom_read r)
item_bare no_atom = refl
item_bare (atom_read a n) = refl

high_bare : (r : AtomRead) → bare_read (high_of r) ≡ high_of (bare_atom_read r)
high_bare no_atom = refl
high_bare (atom_read (character k v) n) = refl
high_bare (atom_read (escape k) n) = refl
high_bare (atom_read (property negative may name value) n) = refl

operand_bare : (r : AtomRead) (w : List ℕ) → bare_read (operand_of r w) ≡ bare_read (operand_of (bare_atom_read r) w)
operand_bare no_atom w = refl
operand_bare (atom_read a n) w = ap (λ a. Some (item a, n)) (sym (atom_twice a))

string_bare : (r : AtomRead) (w : List ℕ) → bare_read (string_token r w) ≡ bare_read (string_token (bare_atom_read r) w)
string_bare no_atom w = refl
string_bare (atom_read (character k v) n) w = refl
string_bare (atom_read (escape k) n) w = refl
string_bare (atom_read (property negative may name value) n) w = refl

token_where_same : (there : Bool) (r s : TokenRead) → bare_read r ≡ bare_read s → bare_read (token_where there r) ≡ bare_read (token_where there s)
token_where_same true r s h = h
token_where_same false r s h = refl

with_bare : (t : ClassToken) (n : ℕ) (r : TokensRead) → bare_tokens_read (with_token t n r) ≡ with_token (bare_class_token t) n (bare_tokens_read r)
with_bare t n None = refl
with_bare t n (Some ts) = refl

on_same : (n : ℕ) (q : Option NestedPlace) (f g : NestedPlace → ℕ → TokensRead) → ((p : NestedPlace) (n : ℕ) → bare_tokens_read (f p n) ≡ bare_tokens_read (g p n)) →
    bare_tokens_read (tokens_on n q f) ≡ bare_tokens_read (tokens_on n q g)
on_same n None f g h = refl
on_same n (Some p) f g h = h p (n - 1)

class_in_bare : (n : ℕ) (c : Option Class) → bare_class_read (class_in n c) ≡ class_in n (option_map (forget_class no_kind) c)
class_in_bare n None = refl
class_in_bare n (Some c) = refl

class_of_bare : (r : TokensRead) → bare_class_read (class_of r) ≡ class_of (bare_tokens_read r)
class_of_bare None = refl
class_of_bare (Some ts) = class_in_bare ts.1 (class_of_tokens ts.0) ∙ ap (class_in ts.1) (class_bare ts.0)

module _ (e : Environment) where
  raw_same : (raw : Bool) (k j : CharacterKind) (c : ℕ) (r : AtomRead) → bare_atom_read (cond raw (atom_read (character k c) 1) r) ≡ bare_atom_read (cond raw (atom_read (character j c) 1) r)
  raw_same true k j c r = refl
  raw_same false k j c r = refl

  -- the atom at the front, where it is no raw character
  abbrev other_atom : ℕ → List ℕ → AtomRead
  other_atom c w = cond (has_hyphen e.mode && c == 45) (atom_read (character Symbol 45) 1) (cond (c == 92) (escape_in_class e w) no_atom)

  atom_same : (us vs : List CodePoint) → values us ≡ values vs → bare_atom_read (atom_at e us) ≡ bare_atom_read (atom_at e vs)
  unfolding atom_at
  atom_same [] [] h = refl
  atom_same [] (v ∷ vs) h = absurd (let no : ⊥ = cc h in no)
  atom_same (u ∷ us) [] h = absurd (let no : ⊥ = cc h in no)
  atom_same (u ∷ us) (v ∷ vs) h =
      let same : u.value ≡ v.value = cc h in
      let more : values us ≡ values vs = cc h in
      raw_same (stands_raw_in_class e.mode u.value (values us)) (unit_kind u.escape_kind) (unit_kind v.escape_kind) u.value (other_atom u.value (values us))
      ∙ ap₂ (λ c w. bare_atom_read (cond (stands_raw_in_class e.mode c w) (atom_read (character (unit_kind v.escape_kind) c) 1) (other_atom c w))) same more

  dashed_bare : (a : Atom) (n : ℕ) (r : AtomRead) → bare_read (before_dash e.mode a n r) ≡ before_dash e.mode (bare_atom a) n (bare_atom_read r)
  dashed_bare a n no_atom = where_bare (is_sets e.mode) a n
  dashed_bare (character k v) n (atom_read (character j x) m) = refl
  dashed_bare (character k v) n (atom_read (escape j) m) = where_bare (has_threes e.mode || is_sets e.mode) (character k v) n
  dashed_bare (character k v) n (atom_read (property negative may name value) m) = where_bare (has_threes e.mode || is_sets e.mode) (character k v) n
  dashed_bare (escape k) n (atom_read b m) = where_bare (has_threes e.mode || is_sets e.mode) (escape k) n
  dashed_bare (property negative may name value) n (atom_read b m) = where_bare (has_threes e.mode || is_sets e.mode) (property negative may name value) n

  -- an atom, by whether it is dashed and what stands after the dash
  abbrev item_by : Atom → ℕ → Bool → AtomRead → TokenRead
  item_by a n dashed r = cond dashed (before_dash e.mode a n r) (Some (item a, n))

  item_by_bare : (a : Atom) (n : ℕ) (dashed : Bool) (r : AtomRead) → bare_read (item_by a n dashed r) ≡ item_by (bare_atom a) n dashed (bare_atom_read r)
  item_by_bare a n true r = dashed_bare a n r
  item_by_bare a n false r = refl

  item_same : (a b : Atom) (n : ℕ) (us vs : List CodePoint) → bare_atom a ≡ bare_atom b → values us ≡ values vs → bare_read (item_before e a n us) ≡ bare_read (item_before e b n vs)
  item_same a b n us vs h k =
      item_by_bare a n (is_dashed (values us)) (atom_at e (drop 1 us))
      ∙ ap (λ a. item_by a n (is_dashed (values us)) (bare_atom_read (atom_at e (drop 1 us)))) h
      ∙ ap₂ (λ dashed r. item_by (bare_atom b) n dashed r) (ap is_dashed k) (atom_same (drop 1 us) (drop 1 vs) (drop_values 1 us vs k))
      ∙ sym (item_by_bare b n (is_dashed (values vs)) (atom_at e (drop 1 vs)))

  fresh_same : (r s : AtomRead) (us vs : List CodePoint) → bare_atom_read r ≡ bare_atom_read s → values us ≡ values vs → bare_read (fresh_token e r us) ≡ bare_read (fresh_token e s vs)
  fresh_same no_atom no_atom us vs h k = ap (λ w. bare_read (cond (starts 93 w) (Some (closer, 1)) (cond (is_sets e.mode) (set_token w) None))) k
  fresh_same no_atom (atom_read b m) us vs h k = absurd (let no : ⊥ = cc h in no)
  fresh_same (atom_read a n) no_atom us vs h k = absurd (let no : ⊥ = cc h in no)
  fresh_same (atom_read a n) (atom_read b m) us vs h k =
      let same : bare_atom a ≡ bare_atom b = cc h in
      let count : n ≡ m = cc h in
      item_same a b n (drop n us) (drop m vs) same (drop_values n us vs k ∙ ap (λ n. values (drop n vs)) count)
      ∙ ap (λ n. bare_read (item_before e b n (drop m vs))) count

  operand_same : (us vs : List CodePoint) → values us ≡ values vs → bare_read (operand_of (atom_at e us) (values us)) ≡ bare_read (operand_of (atom_at e vs) (values vs))
  operand_same us vs h =
      operand_bare (atom_at e us) (values us)
      ∙ ap₂ (λ r w. bare_read (operand_of r w)) (atom_same us vs h) h
      ∙ sym (operand_bare (atom_at e vs) (values vs))

  string_same : (us vs : List CodePoint) → values us ≡ values vs → bare_read (string_token (atom_at e us) (values us)) ≡ bare_read (string_token (atom_at e vs) (values vs))
  string_same us vs h =
      string_bare (atom_at e us) (values us)
      ∙ ap₂ (λ r w. bare_read (string_token r w)) (atom_same us vs h) h
      ∙ sym (string_bare (atom_at e vs) (values vs))

  token_same : (q : Place) (us vs : List CodePoint) → values us ≡ values vs → bare_read (class_token_at e q us) ≡ bare_read (class_token_at e q vs)
  unfolding class_token_at
  token_same outside us vs h = ap (λ w. bare_read (bracket_at w)) h
  token_same fresh us vs h = fresh_same (atom_at e us) (atom_at e vs) us vs (atom_same us vs h) h
  token_same at_dash us vs h = ap (λ w. bare_read (token_where (starts 45 w) (Some (dash, 1)))) h
  token_same at_high us vs h = high_bare (atom_at e us) ∙ ap high_of (atom_same us vs h) ∙ sym (high_bare (atom_at e vs))
  token_same at_second us vs h = ap (λ w. bare_read (token_where (starts 45 w) (Some (item (character Symbol 45), 1)))) h
  token_same at_third us vs h = item_bare (atom_at e us) ∙ ap item_of (atom_same us vs h) ∙ sym (item_bare (atom_at e vs))
  token_same (after_operator o) us vs h =
      token_where_same (is_sets e.mode && may_follow_operator o (values us)) (operand_of (atom_at e us) (values us)) (operand_of (atom_at e vs) (values vs)) (operand_same us vs h)
      ∙ ap (λ w. bare_read (token_where (is_sets e.mode && may_follow_operator o w) (operand_of (atom_at e vs) (values vs)))) h
  token_same in_strings us vs h = token_where_same (is_sets e.mode) (string_token (atom_at e us) (values us)) (string_token (atom_at e vs) (values vs)) (string_same us vs h)

  -- nor does the place after a token
  after_bare : (p : NestedPlace) (t : ClassToken) (us vs : List CodePoint) → values us ≡ values vs → after_of_class e (Some p) t us ≡ after_of_class e (Some p) (bare_class_token t) vs
  after_bare p (item a) us vs h = ap (λ w. Some (p.0, following_item p.1 (is_dashed w && has_threes e.mode))) h
  after_bare p t us vs h = refl

  after_same : (p : NestedPlace) (t s : ClassToken) (us vs : List CodePoint) → bare_class_token t ≡ bare_class_token s → values us ≡ values vs → after_of_class e (Some p) t us ≡ after_of_class e (Some p) s vs
  after_same p t s us vs h k = after_bare p t us vs k ∙ ap (λ t. after_of_class e (Some p) t vs) h ∙ sym (after_bare p s vs vs refl)

  from_same : (p : NestedPlace) (us vs : List CodePoint) (r s : TokenRead) (f g : NestedPlace → ℕ → TokensRead) → values us ≡ values vs → bare_read r ≡ bare_read s →
      ((q : NestedPlace) (n : ℕ) → bare_tokens_read (f q n) ≡ bare_tokens_read (g q n)) → bare_tokens_read (tokens_from e p us r f) ≡ bare_tokens_read (tokens_from e p vs s g)
  from_same p us vs None None f g h k more = refl
  from_same p us vs None (Some s) f g h k more = absurd (let no : ⊥ = cc k in no)
  from_same p us vs (Some r) None f g h k more = absurd (let no : ⊥ = cc k in no)
  from_same p us vs (Some r) (Some s) f g h k more =
      let pair : (bare_class_token r.0, r.1) ≡ (bare_class_token s.0, s.1) = Some-inj k in
      let same : bare_class_token r.0 ≡ bare_class_token s.0 = ap (λ x. x.0) pair in
      let count : r.1 ≡ s.1 = ap (λ x. x.1) pair in
      let here = after_of_class e (Some p) r.0 (drop r.1 us) in
      let there = after_of_class e (Some p) s.0 (drop s.1 vs) in
      let place : here ≡ there = after_same p r.0 s.0 (drop r.1 us) (drop s.1 vs) same (drop_values r.1 us vs h ∙ ap (λ n. values (drop n vs)) count) in
      with_bare r.0 r.1 (tokens_on r.1 here f)
      ∙ ap (with_token (bare_class_token r.0) r.1) (on_same r.1 here f g more)
      ∙ ap₂ (λ t q. with_token t r.1 (bare_tokens_read (tokens_on r.1 q g))) same place
      ∙ ap (λ n. with_token (bare_class_token s.0) n (bare_tokens_read (tokens_on n there g))) count
      ∙ sym (with_bare s.0 s.1 (tokens_on s.1 there g))

  tokens_same : (us vs : List CodePoint) → values us ≡ values vs → (p : NestedPlace) (skipped : ℕ) → bare_tokens_read (class_tokens_at e p skipped us) ≡ bare_tokens_read (class_tokens_at e p skipped vs)
  tokens_same [] [] h p skipped = refl
  tokens_same [] (v ∷ vs) h p skipped = absurd (let no : ⊥ = cc h in no)
  tokens_same (u ∷ us) [] h p skipped = absurd (let no : ⊥ = cc h in no)
  tokens_same (u ∷ us) (v ∷ vs) h p (suc skipped) = tokens_same us vs (let more : values us ≡ values vs = cc h in more) p skipped
  tokens_same (u ∷ us) (v ∷ vs) h p zero =
      from_same p (u ∷ us) (v ∷ vs) (class_token_at e p.1 (u ∷ us)) (class_token_at e p.1 (v ∷ vs)) (λ q n. class_tokens_at e q n us) (λ q n. class_tokens_at e q n vs) h
      (token_same p.1 (u ∷ us) (v ∷ vs) h) (tokens_same us vs (let more : values us ≡ values vs = cc h in more))

  pub class_same : (us vs : List CodePoint) → values us ≡ values vs → bare_class_read (class_front e us) ≡ bare_class_read (class_front e vs)
  unfolding class_front
  class_same us vs h =
      class_of_bare (class_tokens_at e (0, outside) 0 us)
      ∙ ap class_of (tokens_same us vs h (0, outside) 0)
      ∙ sym (class_of_bare (class_tokens_at e (0, outside) 0 vs))
