-- Lists of names with commas between, by their pieces between the commas.
use Rattle.std.proofs.Common.{◌≡◌, ◌≢◌, ◌∙◌, ◌↔◌, ◌⊎◌, ◌<◌, ◌≤◌, refl, sym, ap, subst, inl, inr, ℕ, zero, suc, ◌+◌, Bool, IsTrue, true, false, not, eqb, nat_lt, List, [], ◌∷◌, length, map, drop, get_or, arith}
use Rattle.std.specs.Str.{IsAscii, IsUtf8, chars}
use Rattle.std.specs.List.{All, AllPairs, Contains, join_with_byte, list_all, slice_split}
use Rattle.std.proofs.lemmas.Bool.{and_parts, false≢true, not-true}
use Rattle.std.proofs.lemmas.List.{at_drop_all, drop_more, length-map}
use Rattle.std.proofs.lemmas.List.Elements.{All-nil, All-cons, All-contains_itself}
use Rattle.std.proofs.lemmas.List.Kept.{AllPairs-cons}
use Rattle.std.proofs.lemmas.List.Splits.{join_with_byte-slice_split, length-slice_split, slice_split_at, slice_split_none}
use Rattle.std.proofs.lemmas.Str.{IsAscii-append}
use Rattle.std.proofs.lemmas.Str.Ascii.{IsAscii-nil}
use Rattle.rx_command.proofs.Plain.{plain_text, word_bytes, word_chars}
use Rattle.rx_command.specs.Names.{IsNamesOf}

-- ---- names

-- No two items have one name, and a name is of ASCII characters, with no comma.
pub record IsNaming {Item : Type 0} (name_of : Item → List ℕ) : Type 0 where
  pub one_name : (one other : Item) → name_of one ≡ name_of other → one ≡ other
  pub no_comma : (item : Item) → list_all (λ x. not (eqb x 44)) (name_of item) ≡ true
  pub plain : (item : Item) → list_all (λ b. nat_lt b 128) (name_of item) ≡ true

none_are_commas : (xs : List ℕ) → list_all (λ x. not (eqb x 44)) xs ≡ true → All (λ x. eqb x 44 ≡ false) xs
none_are_commas [] h = All-nil (λ x. eqb x 44 ≡ false)
none_are_commas (x ∷ xs) h =
    let p = and_parts _ _ h in
    All-cons (λ y. eqb y 44 ≡ false) x xs (not-true (eqb x 44) p.0) (none_are_commas xs p.1)

same_bool : (a b : Bool) → (IsTrue a → IsTrue b) → (IsTrue b → IsTrue a) → a ≡ b
same_bool true b to back = sym (to refl)
same_bool false true to back = absurd (false≢true (back refl))
same_bool false false to back = refl

abbrev pub pieces : List ℕ → List (List ℕ)
pieces word = slice_split (λ b. eqb b 44) word

contains_first : {Item : Type 0} (f : Item) (fs : List Item) → Contains (f ∷ fs) f
contains_first f fs = (0, omega arith, refl)

contains_more : {Item : Type 0} (f g : Item) (fs : List Item) → Contains fs g → Contains (f ∷ fs) g
contains_more f g fs h = (suc h.0, omega (arith, h.1), h.2)

contains_cases : {Item : Type 0} (f g : Item) (fs : List Item) → Contains (f ∷ fs) g → (g ≡ f) ⊎ Contains fs g
contains_cases f g fs (zero, within, is) = inl (sym is)
contains_cases f g fs (suc k, within, is) = inr (k, omega arith, is)

abbrev AreApart : {Item : Type 0} → List Item → Type 0
AreApart fs = AllPairs (λ one other. one ≢ other) fs

apart_first : {Item : Type 0} (f g : Item) (fs : List Item) → AreApart (f ∷ fs) → Contains fs g → f ≢ g
apart_first f g fs h there = λ same. h 0 (suc there.0) g (omega arith) (omega (arith, there.1)) (same ∙ sym there.2)

apart_more : {Item : Type 0} (f : Item) (fs : List Item) → AreApart (f ∷ fs) → AreApart fs
apart_more f fs h = λ i j d l m. h (suc i) (suc j) d (omega arith) (omega arith)

-- The names that are left of a list are those of other items than these, none twice, and both together are the set of the list.
pub record IsRest {Item Set : Type 0} (name_of : Item → List ℕ) (has : Set → Item → Bool) (read : Set) (names : List (List ℕ)) (set : Set) : Type 0 where
  pub listed : List Item
  pub names_are : names ≡ map name_of listed
  pub once : AllPairs (λ one other. one ≢ other) listed
  pub others : (item : Item) → Contains listed item → ¬ IsTrue (has read item)
  pub set_are : (item : Item) → IsTrue (has set item) ↔ (IsTrue (has read item) ⊎ Contains listed item)

-- these are read of a list, and the names are left
abbrev pub IsReadTo : {Item Set : Type 0} (name_of : Item → List ℕ) (has : Set → Item → Bool) → List ℕ → Set → List (List ℕ) → Type 0
IsReadTo {Set = Set} name_of has word read names = (set : Set) → IsNamesOf name_of has word set ↔ IsRest name_of has read names set

-- an item is set besides these
abbrev pub Adds : {Item Set : Type 0} → (Set → Item → Bool) → Set → Set → Item → Type 0
Adds {Item = Item} has read read' item = (other : Item) → IsTrue (has read' other) ↔ ((other ≡ item) ⊎ IsTrue (has read other))

module _ {Item Set : Type 0} (name_of : Item → List ℕ) (has : Set → Item → Bool) (laws : IsNaming name_of) where
  split_names : (item : Item) (items : List Item)
      → pieces (join_with_byte 44 (name_of item ∷ map name_of items)) ≡ name_of item ∷ map name_of items
  split_names item [] = slice_split_none (λ b. eqb b 44) (name_of item) (none_are_commas (name_of item) (laws.no_comma item))
  split_names item (next ∷ items) =
      slice_split_at (λ b. eqb b 44) (name_of item) 44 (join_with_byte 44 (name_of next ∷ map name_of items)) (none_are_commas (name_of item) (laws.no_comma item)) refl
      ∙ ap (λ (names : List (List ℕ)). name_of item ∷ names) (split_names next items)

  pieces_are : (listed : List Item) (word : List ℕ) → 1 ≤ length listed → word ≡ join_with_byte 44 (map name_of listed) → pieces word ≡ map name_of listed
  pieces_are [] word some is = absurd (omega arith)
  pieces_are (item ∷ listed) word some is = ap pieces is ∙ split_names item listed

  pub read_none : (word : List ℕ) (read : Set) → ((item : Item) → has read item ≡ false) → IsReadTo name_of has word read (pieces word)
  read_none word read none set = (
    λ is. record {
      listed = is.listed;
      names_are = pieces_are is.listed word is.some is.word_is;
      once = is.once;
      others = λ item there holds. false≢true (sym (none item) ∙ holds);
      set_are = λ item. (
        λ holds. inr ((is.set_are item).0 holds),
        λ either. elim either [ inl holds ↦ absurd (false≢true (sym (none item) ∙ holds)) | inr there ↦ (is.set_are item).1 there ],
      );
    },
    λ rest. record {
      listed = rest.listed;
      some = omega (arith, ap length rest.names_are, length-map rest.listed name_of, length-slice_split (λ b. eqb b 44) word);
      once = rest.once;
      word_is = sym (join_with_byte-slice_split 44 word) ∙ ap (join_with_byte 44) rest.names_are;
      set_are = λ item. (
        λ holds. elim ((rest.set_are item).0 holds) [ inl was ↦ absurd (false≢true (sym (none item) ∙ was)) | inr there ↦ there ],
        λ there. (rest.set_are item).1 (inr there),
      );
    },
  )

  rest_forward : (read read' whole : Set) (item : Item) → Adds has read read' item → (listed : List Item) (name : List ℕ) (names : List (List ℕ)) → name ∷ names ≡ map name_of listed → name ≡ name_of item → AreApart listed
      → ((other : Item) → Contains listed other → ¬ IsTrue (has read other))
      → ((other : Item) → IsTrue (has whole other) ↔ (IsTrue (has read other) ⊎ Contains listed other))
      → IsRest name_of has read' names whole
  rest_forward read read' whole item adds [] name names e is apart others set_are = cc
  rest_forward read read' whole item adds (first ∷ listed) name names e is apart others set_are =
      let head : name_of first ≡ name_of item = cc in
      let same : first ≡ item = laws.one_name first item head in
      record {
        listed = listed;
        names_are = cc;
        once = apart_more first listed apart;
        others = λ other there holds. elim ((adds other).0 holds) [
          | inl it ↦ apart_first first other listed apart there (same ∙ sym it)
          | inr was ↦ others other (contains_more first other listed there) was
        ];
        set_are = λ other. (
          λ holds. elim ((set_are other).0 holds) [
            | inl was ↦ inl ((adds other).1 (inr was))
            | inr there ↦ elim (contains_cases first other listed there) [ inl it ↦ inl ((adds other).1 (inl (it ∙ same))) | inr later ↦ inr later ]
          ],
          λ either. elim either [
            | inl holds ↦ elim ((adds other).0 holds) [
              | inl it ↦ (set_are other).1 (inr (subst (λ f. Contains (first ∷ listed) f) (same ∙ sym it) (contains_first first listed)))
              | inr was ↦ (set_are other).1 (inl was)
            ]
            | inr later ↦ (set_are other).1 (inr (contains_more first other listed later))
          ],
        );
      }

  rest_back : (read read' whole : Set) (item : Item) → Adds has read read' item → (name : List ℕ) (names : List (List ℕ)) → name ≡ name_of item → ¬ IsTrue (has read item) → IsRest name_of has read' names whole → IsRest name_of has read (name ∷ names) whole
  rest_back read read' whole item adds name names is new rest = record {
    listed = item ∷ rest.listed;
    names_are = ap (λ (w : List ℕ). w ∷ names) is ∙ ap (λ (ws : List (List ℕ)). name_of item ∷ ws) rest.names_are;
    once = AllPairs-cons (λ one other. one ≢ other) item rest.listed
        (λ k d within same. rest.others _ (All-contains_itself rest.listed k d within) ((adds _).1 (inl (sym same)))) rest.once;
    others = λ other there holds. elim (contains_cases item other rest.listed there) [
      | inl it ↦ new (subst (λ f. IsTrue (has read f)) it holds)
      | inr later ↦ rest.others other later ((adds other).1 (inr holds))
    ];
    set_are = λ other. (
      λ holds. elim ((rest.set_are other).0 holds) [
        | inl holds_now ↦ elim ((adds other).0 holds_now) [
          | inl it ↦ inr (subst (λ f. Contains (item ∷ rest.listed) f) (sym it) (contains_first item rest.listed))
          | inr was ↦ inl was
        ]
        | inr later ↦ inr (contains_more item other rest.listed later)
      ],
      λ either. elim either [
        | inl was ↦ (rest.set_are other).1 (inl ((adds other).1 (inr was)))
        | inr there ↦ elim (contains_cases item other rest.listed there) [
          | inl it ↦ (rest.set_are other).1 (inl ((adds other).1 (inl it)))
          | inr later ↦ (rest.set_are other).1 (inr later)
        ]
      ],
    );
  }

  -- one more name
  pub read_more : (word name : List ℕ) (names : List (List ℕ)) (read read' : Set) (item : Item) → IsReadTo name_of has word read (name ∷ names)
      → name ≡ name_of item → ¬ IsTrue (has read item) → Adds has read read' item → IsReadTo name_of has word read' names
  read_more word name names read read' item so_far is new adds set = (
    λ whole. let rest = (so_far set).0 whole in rest_forward read read' set item adds rest.listed name names rest.names_are is rest.once rest.others rest.set_are,
    λ rest. (so_far set).1 (rest_back read read' set item adds name names is new rest),
  )

  pub read_all : (word : List ℕ) (read : Set) → IsReadTo name_of has word read [] → IsNamesOf name_of has word read
  read_all word read all = (all read).1 (record {
    listed = [];
    names_are = refl;
    once = λ i j d l m. absurd (omega arith);
    others = λ item there. absurd (let within = there.1 in omega arith);
    set_are = λ item. (λ holds. inl holds, λ either. elim either [ inl holds ↦ holds | inr there ↦ absurd (let within = there.1 in omega arith) ]);
  })

  first_of : (listed : List Item) (name : List ℕ) (names : List (List ℕ)) → name ∷ names ≡ map name_of listed → (item : Item) × Contains listed item × (name ≡ name_of item)
  first_of [] name names e = cc
  first_of (item ∷ listed) name names e = (item, contains_first item listed, cc)

  -- a name of no item
  pub other_name : (word name : List ℕ) (names : List (List ℕ)) (read : Set) → IsReadTo name_of has word read (name ∷ names) → ((item : Item) → ¬ (name ≡ name_of item))
      → (set : Set) → ¬ IsNamesOf name_of has word set
  other_name word name names read so_far none set is =
      let rest = (so_far set).0 is in
      let first = first_of rest.listed name names rest.names_are in
      none first.0 first.2

  -- a name that came before
  pub name_again : (word name : List ℕ) (names : List (List ℕ)) (read : Set) (item : Item) → IsReadTo name_of has word read (name ∷ names) → name ≡ name_of item
      → IsTrue (has read item) → (set : Set) → ¬ IsNamesOf name_of has word set
  name_again word name names read item so_far is again set whole =
      let rest = (so_far set).0 whole in
      let first = first_of rest.listed name names rest.names_are in
      let same : first.0 ≡ item = laws.one_name first.0 item (sym first.2 ∙ is) in
      rest.others first.0 first.1 (subst (λ f. IsTrue (has read f)) (sym same) again)

  -- the next name
  pub read_next : (word : List ℕ) (read : Set) (k : ℕ) (name : List ℕ) → (k < length (pieces word)) × (name ≡ get_or (pieces word) k name) → IsReadTo name_of has word read (drop k (pieces word))
      → IsReadTo name_of has word read (name ∷ drop (k + 1) (pieces word))
  read_next word read k name next so_far =
      let names : drop k (pieces word) ≡ name ∷ drop (k + 1) (pieces word) =
      drop_more (pieces word) k name next.0 ∙ ap (λ (n : List ℕ). n ∷ drop (k + 1) (pieces word)) (sym next.1) in
      subst (λ rest. IsReadTo name_of has word read rest) names so_far

  -- no name is left
  pub read_end : (word : List ℕ) (read : Set) (k : ℕ) → k ≡ length (pieces word) → IsReadTo name_of has word read (drop k (pieces word)) → IsNamesOf name_of has word read
  read_end word read k end so_far = read_all word read (subst (λ rest. IsReadTo name_of has word read rest) (at_drop_all (λ (names : List (List ℕ)). names) (pieces word) k (omega arith)) so_far)

  -- ---- a list in characters and in bytes

  plain_list : (listed : List Item) → IsAscii (join_with_byte 44 (map name_of listed))
  plain_list [] = IsAscii-nil
  plain_list (item ∷ []) = plain_text (name_of item) (laws.plain item)
  plain_list (item ∷ next ∷ listed) =
      let rest : List ℕ = join_with_byte 44 (map name_of (next ∷ listed)) in
      IsAscii-append (name_of item) (44 ∷ rest) (plain_text (name_of item) (laws.plain item)) (IsAscii-append (44 ∷ []) rest (plain_text (44 ∷ []) refl) (plain_list (next ∷ listed)))

  -- the same list as another word
  respelled : {word : List ℕ} {set : Set} (word' : List ℕ) (is : IsNamesOf name_of has word set) → word' ≡ join_with_byte 44 (map name_of is.listed) → IsNamesOf name_of has word' set
  respelled word' is e = record { listed = is.listed; some = is.some; once = is.once; word_is = e; set_are = is.set_are }

  pub list_in_chars : (bytes : List ℕ) (set : Set) → IsNamesOf name_of has bytes set → IsNamesOf name_of has (chars bytes) set
  list_in_chars bytes set is = respelled (chars bytes) is (word_chars _ bytes (plain_list is.listed) is.word_is)

  pub list_in_bytes : (bytes : List ℕ) (set : Set) → IsUtf8 bytes → IsNamesOf name_of has (chars bytes) set → IsNamesOf name_of has bytes set
  list_in_bytes bytes set utf8 is = respelled bytes is (word_bytes _ bytes (plain_list is.listed) utf8 is.word_is)

  -- ---- a list has one meaning

  one_list : (one other : List Item) → map name_of one ≡ map name_of other → one ≡ other
  one_list [] [] same = refl
  one_list [] (f ∷ other) same = cc
  one_list (f ∷ one) [] same = cc
  one_list (f ∷ one) (g ∷ other) same =
      let first : f ≡ g = laws.one_name f g (cc) in
      let rest : one ≡ other = one_list one other (cc) in cc

  -- Sets that one word lists have the same items.
  pub same_items : (word : List ℕ) (one other : Set) → IsNamesOf name_of has word one → IsNamesOf name_of has word other → (item : Item) → has one item ≡ has other item
  same_items word one other is is' item =
      let names : map name_of is.listed ≡ map name_of is'.listed = sym (pieces_are is.listed word is.some is.word_is) ∙ pieces_are is'.listed word is'.some is'.word_is in
      let lists : is.listed ≡ is'.listed = one_list is.listed is'.listed names in
      same_bool _ _
      (λ holds. (is'.set_are item).1 (subst (λ items. Contains items item) lists ((is.set_are item).0 holds)))
      (λ holds. (is.set_are item).1 (subst (λ items. Contains items item) (sym lists) ((is'.set_are item).0 holds)))
