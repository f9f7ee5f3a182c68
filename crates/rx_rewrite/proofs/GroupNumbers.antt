-- The groups that open, one after the other, and their numbers.
use Rattle.std.proofs.Common.{◌≡◌, refl, ap, sym, ◌∙◌, subst, ℕ, zero, suc, ◌+◌, Bool, true, false, if◌then◌else◌, Option, Some, None, List, [], ◌∷◌, ◌++◌, append-nil, length, length-append, add-one, arith, Result, Ok, Bor}
use Rattle.std.specs.BTreeMap.{get_by_text}
use Rattle.std.specs.Option.{option_map, option_map_or}
use Rattle.std.specs.Str.{IsUtf8, bytes_eq, chars, encode_utf8_all}
use Rattle.std.proofs.lemmas.Slice.Eq.{bytes_eq-Decides}
use Rattle.std.proofs.lemmas.Str.{encodes-chars}
use Rattle.rx_base.specs.declared.span.Span.{Span}
use Rattle.rx_trace.specs.Groups.{Names, same_units, is_named}
use Rattle.rx_trace.proofs.EqualUnits.{same_is}
use Rattle.rx_rewrite.specs.declared.numbers.GroupNumbers.{GroupNumbers}
use Rattle.rx_rewrite.specs.declared.numbers.NumberedGroup.{NumberedGroup}
use Rattle.rx_rewrite.specs.Answers.{NamedGroup, named_group, first_named, with_first, second_use}
use Rattle.rx_rewrite.specs.NamedGroups.{group_name, group_of_name, Numbers, Tells, Inserts}
use Rattle.rx_rewrite.specs.declared.fault.RewriteFault.{RewriteFault}
use Rattle.rx_ast.specs.declared.ast_kind.RegExpAstKind.{RegExpAstKind}
use Rattle.rx_ast.specs.declared.ast_kind.RegExpAstKind.TheVariants as to
use Rattle.rx_ast.specs.declared.term.CapturingGroup.{CapturingGroup, out-CapturingGroup}
use Rattle.rx_ast.specs.Kinds.{capturing_group}
use Rattle.rx_ast.specs.MirrorKinds.{mirror_kind}
use Rattle.rx_ast.specs.Tree.{SpannedAlternatives, mirror_disjunction}
use Rattle.rx_rewrite.specs.Rewriting.{one_up, number_of}

-- the first of two numbers that is not 0
or_number : ℕ → ℕ → ℕ
or_number zero later = later
or_number (suc k) later = suc k

or_zero : (n : ℕ) → or_number n 0 ≡ n
unfolding or_number
or_zero zero = refl
or_zero (suc k) = refl

up_or : (n l : ℕ) (b : Bool) → one_up (or_number n (if b then suc l else 0)) ≡ or_number (one_up n) (if b then suc (suc l) else 0)
unfolding or_number
up_or zero l true = refl
up_or zero l false = refl
up_or (suc k) l b = refl

last_alone : (b : Bool) → (if b then 1 else one_up 0) ≡ or_number 0 (if b then suc 0 else 0)
unfolding or_number
last_alone true = refl
last_alone false = refl

number-more : (name : List ℕ) (ms : Names) (n : Option (List ℕ)) (b : Bool) → number_of name (ms ++ (n ∷ [])) ≡ or_number (number_of name ms) (if is_named name n then suc (length ms) else 0)
    → (if b then 1 else one_up (number_of name (ms ++ (n ∷ [])))) ≡ or_number (if b then 1 else one_up (number_of name ms)) (if is_named name n then suc (suc (length ms)) else 0)
unfolding or_number
number-more name ms n true e = refl
number-more name ms n false e = ap one_up e ∙ up_or (number_of name ms) (length ms) (is_named name n)

number-last : (name : List ℕ) (names : Names) (n : Option (List ℕ)) → number_of name (names ++ (n ∷ [])) ≡ or_number (number_of name names) (if is_named name n then suc (length names) else 0)
number-last name [] n = last_alone (is_named name n)
number-last name (m ∷ ms) n = number-more name ms n (is_named name m) (number-last name ms n)

or_first : Option Span → Option Span → Option Span
or_first None later = later
or_first (Some s) later = Some s

or_none : (s : Option Span) → or_first s None ≡ s
unfolding or_first
or_none None = refl
or_none (Some s) = refl

first-more : (name : List ℕ) (hs : List NamedGroup) (g : NamedGroup) (first : Span) (b : Bool) → first_named name (hs ++ (g ∷ [])) ≡ or_first (first_named name hs) (if same_units name g.0 then Some g.1 else None)
    → (if b then Some first else first_named name (hs ++ (g ∷ []))) ≡ or_first (if b then Some first else first_named name hs) (if same_units name g.0 then Some g.1 else None)
unfolding or_first
first-more name hs g first true e = refl
first-more name hs g first false e = e

first-last : (name : List ℕ) (named : List NamedGroup) (g : NamedGroup) → first_named name (named ++ (g ∷ [])) ≡ or_first (first_named name named) (if same_units name g.0 then Some g.1 else None)
unfolding or_first
first-last name [] g = refl
first-last name (h ∷ hs) g = first-more name hs g h.1 (same_units name h.0) (first-last name hs g)

-- the bytes of a text are those of a name where its characters are
same_name : (key bytes name : List ℕ) → IsUtf8 key → IsUtf8 bytes → chars key ≡ name → bytes_eq key bytes ≡ same_units (chars bytes) name
same_name key bytes name key_text text is =
    let d = bytes_eq-Decides key bytes in
    same_is (bytes_eq key bytes) (chars bytes) name (λ same. ap chars (sym (d.0 same)) ∙ is)
    (λ same. d.1 (sym (encodes-chars key key_text) ∙ ap encode_utf8_all (is ∙ sym same) ∙ encodes-chars bytes text))

one_more : (names : Names) (n : Option (List ℕ)) (count : ℕ) → count ≡ length names → count + 1 ≡ length (names ++ (n ∷ []))
one_more names n count is = let e = length-append names (n ∷ []) in omega arith

-- A group without a name opens.
pub tells_unnamed : (names : Names) (named : List NamedGroup) (old new : GroupNumbers) → new ≡ record old { count = old.count + 1 } → Tells names named old → Tells (names ++ (None ∷ [])) (named ++ []) new
tells_unnamed names named old new is t =
    subst (λ y. Tells (names ++ (None ∷ [])) (named ++ []) y) (sym is)
    (record {
      count = one_more names None old.count t.count;
      spans = λ bytes text. t.spans bytes text ∙ ap (first_named (chars bytes)) (sym (append-nil named));
      firsts = λ bytes text. t.firsts bytes text ∙ sym (number-last (chars bytes) names None ∙ or_zero (number_of (chars bytes) names));
    })

-- No group opens.
pub used_none : (named rest : List NamedGroup) → second_use named ([] ++ rest) ≡ second_use (named ++ []) rest
used_none named rest = ap (λ gs. second_use gs rest) (sym (append-nil named))

module _ (names : Names) (named : List NamedGroup) (old : GroupNumbers) (key name : List ℕ) (span : Span) (t : Tells names named old) (key_text : IsUtf8 key) (is : chars key ≡ name) where
  module _ (new : GroupNumbers) (i : Inserts old key span new) (absent : get_by_text old.groups key ≡ None) where
    pub not_used : (rest : List NamedGroup) → second_use named ((name, span) ∷ rest) ≡ second_use (named ++ ((name, span) ∷ [])) rest
    not_used rest =
        let stood : None ≡ first_named name named = ap (option_map (λ g. g.span)) (sym absent) ∙ t.spans key key_text ∙ ap (λ n. first_named n named) is in
        ap (λ s. with_first s span (second_use (named ++ ((name, span) ∷ [])) rest)) (sym stood)

    no_number : number_of name names ≡ 0
    no_number = ap (λ n. number_of n names) (sym is) ∙ sym (t.firsts key key_text) ∙ ap (λ g. option_map_or (λ (x : NumberedGroup). x.number) g 0) absent

    no_span : first_named name named ≡ None
    no_span = ap (λ n. first_named n named) (sym is) ∙ sym (t.spans key key_text) ∙ ap (option_map (λ g. g.span)) absent

    module _ (bytes : List ℕ) (text : IsUtf8 bytes) where
      alike : bytes_eq key bytes ≡ true → chars bytes ≡ name
      alike equal = ap chars (sym ((bytes_eq-Decides key bytes).0 equal)) ∙ is

      spans_by : (b : Bool) → bytes_eq key bytes ≡ b
          → option_map (λ (x : NumberedGroup). x.span) (if b then Some (record { number = old.count + 1; span = span }) else get_by_text old.groups bytes) ≡ or_first (first_named (chars bytes) named) (if b then Some span else None)
      unfolding or_first
      spans_by true equal = ap (λ s. or_first s (Some span)) (sym (ap (λ n. first_named n named) (alike equal) ∙ no_span))
      spans_by false equal = t.spans bytes text ∙ sym (or_none (first_named (chars bytes) named))

      numbers_by : (b : Bool) → bytes_eq key bytes ≡ b
          → option_map_or (λ (x : NumberedGroup). x.number) (if b then Some (record { number = old.count + 1; span = span }) else get_by_text old.groups bytes) 0 ≡ or_number (number_of (chars bytes) names) (if b then suc (length names) else 0)
      unfolding or_number
      numbers_by true equal =
          let one : old.count + 1 ≡ suc (length names) = add-one old.count ∙ ap suc t.count in
          one ∙ ap (λ n. or_number n (suc (length names))) (sym (ap (λ n. number_of n names) (alike equal) ∙ no_number))
      numbers_by false equal = t.firsts bytes text ∙ sym (or_zero (number_of (chars bytes) names))

    -- A group of a new name opens.
    pub tells_named : Tells (names ++ (Some name ∷ [])) (named ++ ((name, span) ∷ [])) new
    tells_named = record {
      count = i.count ∙ one_more names (Some name) old.count t.count;
      spans = λ bytes text.
          let same = same_name key bytes name key_text text is in
          let b = bytes_eq key bytes in
          ap (option_map (λ (x : NumberedGroup). x.span)) (i.groups bytes)
          ∙ spans_by bytes text b refl
          ∙ ap (λ c. or_first (first_named (chars bytes) named) (if c then Some span else None)) same
          ∙ sym (first-last (chars bytes) named (name, span));
      firsts = λ bytes text.
          let same = same_name key bytes name key_text text is in
          let b = bytes_eq key bytes in
          ap (λ g. option_map_or (λ (x : NumberedGroup). x.number) g 0) (i.groups bytes)
          ∙ numbers_by bytes text b refl
          ∙ ap (λ c. or_number (number_of (chars bytes) names) (if c then suc (length names) else 0)) same
          ∙ sym (number-last (chars bytes) names (Some name));
    }

-- A group without a name opens, and no name stood twice.
pub numbers_unnamed : {A : Type 0} (old new : GroupNumbers) (name : Option (List ℕ)) (s : Span) (it : A) → name ≡ None → new ≡ record old { count = old.count + 1 } → Numbers old (name ∷ []) (group_of_name name s) new (Ok it)
numbers_unnamed old new name s it none is =
    subst (λ n. Numbers old (n ∷ []) (group_of_name n s) new (Ok it)) (sym none)
    (λ names named t. (tells_unnamed names named old new is t, λ rest. used_none named rest))

pub numbers_named : {A : Type 0} (old new : GroupNumbers) (name : Option (List ℕ)) (s : Span) (text : List ℕ) (result : Result A RewriteFault) → name ≡ Some text → Numbers old (Some text ∷ []) ((text, s) ∷ []) new result
    → Numbers old (name ∷ []) (group_of_name name s) new result
numbers_named old new name s text result some n = subst (λ x. Numbers old (x ∷ []) (group_of_name x s) new result) (sym some) n

named-by : (s : Span) (name : Option (List ℕ)) (d : SpannedAlternatives) → named_group (capturing_group s name d) ≡ group_of_name name s
named-by s None d = refl
named-by s (Some name) d = refl

-- A node is a group.
pub numbers_group : {A : Type 0} (old new : GroupNumbers) (node : RegExpAstKind) (g : Bor CapturingGroup) (result : Result A RewriteFault) → node ≡ to.CapturingGroup g
    → Numbers old ((out-CapturingGroup g.now).name ∷ []) (group_of_name (out-CapturingGroup g.now).name (out-CapturingGroup g.now).span) new result → Numbers old (group_name (mirror_kind node)) (named_group (mirror_kind node)) new result
numbers_group old new node g result is n =
    let it = out-CapturingGroup g.now in
    subst (λ k. Numbers old (group_name (mirror_kind k)) (named_group (mirror_kind k)) new result) (sym is)
    (subst (λ gs. Numbers old (it.name ∷ []) gs new result) (sym (named-by it.span it.name (mirror_disjunction it.body))) n)
