-- The names that the first pass lists are those that the named openings of a text spell.
use Rattle.std.proofs.Common.{◌≡◌, refl, ap, sym, ◌∙◌, subst, ℕ, zero, suc, ◌+◌, Contains, Option, Some, None, List, [], ◌∷◌, ◌++◌, append_assoc, length, length-append, get_or, arith, ◌⊎◌, inl, inr, ◌↔◌}
use Rattle.std.proofs.lemmas.Bool.{cases_Bool, cond-true, cond-false}
use Rattle.std.proofs.lemmas.List.{append-nil}
use Rattle.rx_base.specs.Texts.{is_among}
use Rattle.rx_model.specs.declared.mode.Mode.{Mode}
use Rattle.rx_model.specs.Groups.GroupNameReading.{name_of}
use Rattle.rx_model.specs.FirstPass.MarkTexts.{SpellsMark, escape, last_backslash, class, open_class, plain, ignoring, ahead, not_ahead, lookbehind, not_lookbehind, modifying, named, unclosed, closing, parting, one_unit, IsMarkRow, no_mark, mark, IsNamedOpening, AreNames, no_opening, opening, nameless, AreOnce, no_name, fresh, known, AreNamesOnce, IsNameBetween}
use Rattle.rx_model.specs.FirstPass.Marks.{Mark, capturing, marks, mark_at, mark_name, name_length, name_places, listed, names, seen, places_following}
use Rattle.rx_model.specs.Inputs.Environment.{is_unicode}
use Rattle.rx_model.specs.Trees.Names.{once_after}
use Rattle.rx_model.proofs.Groups.GroupNames.{read_group_name, group_name_read, name_anywhere}
use Rattle.rx_model.proofs.FirstPass.MarkTexts.{spelled_mark, row_of, first_place}
use Rattle.rx_model.proofs.FirstPass.OpenerMarks.{naming_marks}
use Rattle.rx_model.proofs.Trees.Names.{among, found_among, not_among}

module _ (mode : Mode) where
  -- a mark's name is what its units spell
  units_name : (units name rest : List ℕ) → name_of (is_unicode mode) units ≡ Some name → IsNamedOpening mode name (40 ∷ 63 ∷ 60 ∷ (units ++ (62 ∷ []))) rest
  units_name units name rest h = record {
    units = units;
    whole = refl;
    spells = name_anywhere (is_unicode mode) name units [] (62 ∷ rest) (read_group_name (is_unicode mode) units name h);
  }

  named_spelled : (m : Mark) (w rest name : List ℕ) → SpellsMark mode m w rest → mark_name mode m ≡ Some name → IsNamedOpening mode name w rest
  named_spelled _ _ rest name (named units l n) h = units_name units name rest h
  named_spelled _ _ rest name (escape c) h = absurd (let no : ⊥ = cc h in no)
  named_spelled _ _ _ name last_backslash h = absurd (let no : ⊥ = cc h in no)
  named_spelled _ _ rest name (class inside a) h = absurd (let no : ⊥ = cc h in no)
  named_spelled _ _ _ name (open_class w a) h = absurd (let no : ⊥ = cc h in no)
  named_spelled _ _ rest name (plain p) h = absurd (let no : ⊥ = cc h in no)
  named_spelled _ _ rest name ignoring h = absurd (let no : ⊥ = cc h in no)
  named_spelled _ _ rest name ahead h = absurd (let no : ⊥ = cc h in no)
  named_spelled _ _ rest name not_ahead h = absurd (let no : ⊥ = cc h in no)
  named_spelled _ _ rest name lookbehind h = absurd (let no : ⊥ = cc h in no)
  named_spelled _ _ rest name not_lookbehind h = absurd (let no : ⊥ = cc h in no)
  named_spelled _ _ rest name (modifying p) h = absurd (let no : ⊥ = cc h in no)
  named_spelled _ _ _ name (unclosed units l n) h = absurd (let no : ⊥ = cc h in no)
  named_spelled _ _ rest name closing h = absurd (let no : ⊥ = cc h in no)
  named_spelled _ _ rest name parting h = absurd (let no : ⊥ = cc h in no)
  named_spelled _ _ rest name (one_unit c p) h = absurd (let no : ⊥ = cc h in no)

  -- an opening that spells a name is that mark
  opening_mark : (m : Mark) (w rest name : List ℕ) → SpellsMark mode m w rest → (o : IsNamedOpening mode name w rest) → m ≡ capturing (Some o.units)
  opening_mark m w rest name s o =
      let both : m ∷ marks mode rest ≡ capturing (Some o.units) ∷ marks mode rest =
      sym (spelled_mark mode m w rest s) ∙ ap (λ w. marks mode (w ++ rest)) o.whole ∙ naming_marks mode name o.units (62 ∷ rest) rest o.spells in
      cc both

  spelled_named : (m : Mark) (w rest name : List ℕ) → SpellsMark mode m w rest → IsNamedOpening mode name w rest → mark_name mode m ≡ Some name
  spelled_named m w rest name s o =
      ap (mark_name mode) (opening_mark m w rest name s o)
      ∙ group_name_read (is_unicode mode) o.units name (name_anywhere (is_unicode mode) name o.units (62 ∷ rest) [] o.spells)

  pub named_law : (m : Mark) (w rest name : List ℕ) → SpellsMark mode m w rest → (mark_name mode m ≡ Some name) ↔ IsNamedOpening mode name w rest
  named_law m w rest name s = (named_spelled m w rest name s, spelled_named m w rest name s)

  nameless_spelled : (m : Mark) (w rest : List ℕ) → SpellsMark mode m w rest → ((name : List ℕ) → IsNamedOpening mode name w rest → ⊥) → mark_name mode m ≡ None
  nameless_spelled m w rest s none = go (mark_name mode m) refl
    where
      go : (o : Option (List ℕ)) → mark_name mode m ≡ o → o ≡ None
      go None e = refl
      go (Some name) e = absurd (none name (named_spelled m w rest name s e))

  none_named : (m : Mark) (w rest : List ℕ) → SpellsMark mode m w rest → mark_name mode m ≡ None → (name : List ℕ) → IsNamedOpening mode name w rest → ⊥
  none_named m w rest s none name o = let e = spelled_named m w rest name s o in cc (none, e)

  pub nameless_law : (m : Mark) (w rest : List ℕ) → SpellsMark mode m w rest → (mark_name mode m ≡ None) ↔ ((name : List ℕ) → IsNamedOpening mode name w rest → ⊥)
  nameless_law m w rest s = (none_named m w rest s, nameless_spelled m w rest s)

  -- the names of a text
  names_step : (m : Mark) (w rest : List ℕ) (o : Option (List ℕ)) → SpellsMark mode m w rest → mark_name mode m ≡ o → names mode (marks mode (w ++ rest)) ≡ listed o ++ names mode (marks mode rest)
  names_step m w rest o s e = ap (names mode) (spelled_mark mode m w rest s) ∙ ap (λ o. listed o ++ names mode (marks mode rest)) e

  names_are : (us : List ℕ) (ns : List (List ℕ)) → AreNames mode us ns → ns ≡ names mode (marks mode us)
  names_are _ _ no_opening = refl
  names_are _ _ (opening {m} {name} {names = ns} w rest s o r) =
      ap (λ ns. name ∷ ns) (names_are rest ns r) ∙ sym (names_step m w rest (Some name) s (spelled_named m w rest name s o))
  names_are _ _ (nameless {m} {names = ns} w rest s none r) =
      names_are rest ns r ∙ sym (names_step m w rest None s (nameless_spelled m w rest s none))

  one_more : (m : Mark) (w rest : List ℕ) (o : Option (List ℕ)) → SpellsMark mode m w rest → mark_name mode m ≡ o → AreNames mode rest (names mode (marks mode rest)) →
      AreNames mode (w ++ rest) (listed o ++ names mode (marks mode rest))
  one_more m w rest None s e r = nameless w rest s (none_named m w rest s e) r
  one_more m w rest (Some name) s e r = opening w rest s (named_spelled m w rest name s e) r

  are_names : (us : List ℕ) (ms : List Mark) → IsMarkRow mode us ms → AreNames mode us (names mode (marks mode us))
  are_names _ _ no_mark = no_opening
  are_names _ _ (mark {m} {ms} w rest s r) =
      subst (AreNames mode (w ++ rest)) (sym (names_step m w rest (mark_name mode m) s refl)) (one_more m w rest (mark_name mode m) s refl (are_names rest ms r))

  pub names_law : (us : List ℕ) (ns : List (List ℕ)) → AreNames mode us ns ↔ (ns ≡ names mode (marks mode us))
  names_law us ns = (names_are us ns, λ e. subst (AreNames mode us) (sym e) (are_names us (marks mode us) (row_of mode us)))

  -- where a name stands
  here_between : (front w rest : List ℕ) (m : Mark) (name : List ℕ) → SpellsMark mode m w rest → mark_name mode m ≡ Some name →
      IsNameBetween mode (front ++ (w ++ rest)) name (length front + 3) (length front + 3 + name_length m)
  here_between front w rest m name s e =
      let o = named_spelled m w rest name s e in
      record {
        before = front;
        units = o.units;
        rest = rest;
        whole = ap (λ w. front ++ (w ++ rest)) o.whole ∙ ap (λ us. front ++ (40 ∷ 63 ∷ 60 ∷ us)) (append_assoc o.units (62 ∷ []) rest);
        spells = o.spells;
        from_is = refl;
        to_is = ap (λ m. length front + 3 + name_length m) (opening_mark m w rest name s o);
      }

  between : (front us : List ℕ) (ms : List Mark) (k : ℕ) (name : List ℕ) → IsMarkRow mode us ms → mark_name mode (mark_at (marks mode us) k) ≡ Some name →
      let from : ℕ = get_or (places_following mode (length front) 0 us) k 0 + 3 in
      IsNameBetween mode (front ++ us) name from (from + name_length (mark_at (marks mode us) k))
  between front _ _ k name no_mark e = absurd (let no : ⊥ = cc e in no)
  between front _ _ zero name (mark {m} {ms} w rest s r) e =
      let first = first_place mode (length front) m w rest s in
      let all = spelled_mark mode m w rest s in
      rw (first, all) (here_between front w rest m name s (ap (λ ms. mark_name mode (mark_at ms 0)) (sym all) ∙ e))
  between front _ _ (suc k) name (mark {m} {ms} w rest s r) e =
      let first = first_place mode (length front) m w rest s in
      let all = spelled_mark mode m w rest s in
      let b = between (front ++ w) rest ms k name r (ap (λ ms. mark_name mode (mark_at ms (suc k))) (sym all) ∙ e) in
      rw (first, all, ← append_assoc, ← length-append) b

  pub name_between : (us : List ℕ) (k : ℕ) (name : List ℕ) → mark_name mode (mark_at (marks mode us) k) ≡ Some name →
      IsNameBetween mode us name (name_places mode us k).0 (name_places mode us k).1
  name_between us k name e = between [] us (marks mode us) k name (row_of mode us) e

-- a name is one of those that were seen, or of those that come
abbrev IsOld : List (List ℕ) → List (List ℕ) → List ℕ → Type 0
IsOld before names name = Contains before name ⊎ Contains names name

contains_first : (x : List ℕ) (xs : List (List ℕ)) (name : List ℕ) → x ≡ name → Contains (x ∷ xs) name
contains_first x xs name e = (0, omega arith, e)

contains_more : (x : List ℕ) (xs : List (List ℕ)) (name : List ℕ) → Contains xs name → Contains (x ∷ xs) name
contains_more x xs name (k, l, e) = (suc k, omega arith, e)

pub contains_cases : (x : List ℕ) (xs : List (List ℕ)) (name : List ℕ) → Contains (x ∷ xs) name → (x ≡ name) ⊎ Contains xs name
contains_cases x xs name (zero, l, e) = inl e
contains_cases x xs name (suc k, l, e) = inr (k, omega arith, e)

old_again : (before names : List (List ℕ)) (x name : List ℕ) → Contains before x → IsOld before (x ∷ names) name → IsOld before names name
old_again before names x name seen (inl c) = inl c
old_again before names x name seen (inr c) = elim (contains_cases x names name c) [ inl e ↦ inl (subst (Contains before) e seen) | inr d ↦ inr d ]

old_moved : (before names : List (List ℕ)) (x name : List ℕ) → IsOld before (x ∷ names) name → IsOld (x ∷ before) names name
old_moved before names x name (inl c) = inl (contains_more x before name c)
old_moved before names x name (inr c) = elim (contains_cases x names name c) [ inl e ↦ inl (contains_first x before name e) | inr d ↦ inr d ]

old_back : (before names : List (List ℕ)) (x name : List ℕ) → IsOld before names name → IsOld before (x ∷ names) name
old_back before names x name (inl c) = inl c
old_back before names x name (inr c) = inr (contains_more x names name c)

old_unmoved : (before names : List (List ℕ)) (x name : List ℕ) → IsOld (x ∷ before) names name → IsOld before (x ∷ names) name
old_unmoved before names x name (inl c) = elim (contains_cases x before name c) [ inl e ↦ inr (contains_first x names name e) | inr d ↦ inl d ]
old_unmoved before names x name (inr c) = inr (contains_more x names name c)

-- a known name that comes last adds nothing
known_last : (before names : List (List ℕ)) (name : List ℕ) → IsOld before names name → once_after before (names ++ (name ∷ [])) ≡ once_after before names
known_last before [] name (inl c) = cond-true (is_among before name) [] (name ∷ []) (among before name c)
known_last before [] name (inr (k, l, e)) = absurd (omega arith)
known_last before (x ∷ names) name h = elim (cases_Bool (is_among before x)) [
  | inl seen ↦ rw seen (known_last before names name (old_again before names x name (found_among before x seen) h))
  | inr new ↦ rw new (ap (λ ns. x ∷ ns) (known_last (x ∷ before) names name (old_moved before names x name h)))
]

-- a fresh one comes last
fresh_last : (before names : List (List ℕ)) (name : List ℕ) → (IsOld before names name → ⊥) → once_after before (names ++ (name ∷ [])) ≡ once_after before names ++ (name ∷ [])
fresh_last before [] name none = cond-false (is_among before name) [] (name ∷ []) (not_among before name (λ c. none (inl c)))
fresh_last before (x ∷ names) name none = elim (cases_Bool (is_among before x)) [
  | inl seen ↦ rw seen (fresh_last before names name (λ h. none (old_back before names x name h)))
  | inr new ↦ rw new (ap (λ ns. x ∷ ns) (fresh_last (x ∷ before) names name (λ h. none (old_unmoved before names x name h))))
]

none_before : (names : List (List ℕ)) (name : List ℕ) → (Contains names name → ⊥) → IsOld [] names name → ⊥
none_before names name none (inl (k, l, e)) = omega arith
none_before names name none (inr c) = none c

once_are : (names once : List (List ℕ)) → AreOnce names once → once ≡ once_after [] names
once_are _ _ no_name = refl
once_are _ _ (fresh {names} {once} name r none) = ap (λ o. o ++ (name ∷ [])) (once_are names once r) ∙ sym (fresh_last [] names name (none_before names name none))
once_are _ _ (known {names} {once} name r c) = once_are names once r ∙ sym (known_last [] names name (inr c))

one_last : (names : List (List ℕ)) (name : List ℕ) → AreOnce names (once_after [] names) → AreOnce (names ++ (name ∷ [])) (once_after [] (names ++ (name ∷ [])))
one_last names name r = elim (cases_Bool (is_among names name)) [
  | inl h ↦ let c = found_among names name h in subst (AreOnce (names ++ (name ∷ []))) (sym (known_last [] names name (inr c))) (known name r c)
  | inr h ↦
      let none : Contains names name → ⊥ = λ c. let yes = among names name c in let no : ⊥ = cc (yes, h) in no in
      subst (AreOnce (names ++ (name ∷ []))) (sym (fresh_last [] names name (none_before names name none))) (fresh name r none)
]

are_once : (front back : List (List ℕ)) → AreOnce front (once_after [] front) → AreOnce (front ++ back) (once_after [] (front ++ back))
are_once front [] r = subst (λ names. AreOnce names (once_after [] names)) (sym (append-nil front)) r
are_once front (name ∷ back) r =
    subst (λ names. AreOnce names (once_after [] names)) (append_assoc front (name ∷ []) back) (are_once (front ++ (name ∷ [])) back (one_last front name r))

pub once_law : (names once : List (List ℕ)) → AreOnce names once ↔ (once ≡ once_after [] names)
once_law names once = (once_are names once, λ e. subst (AreOnce names) (sym e) (are_once [] names no_name))

pub seen_law : (mode : Mode) (us : List ℕ) (once : List (List ℕ)) → AreNamesOnce mode us once ↔ (once ≡ seen mode (marks mode us))
seen_law mode us once = (
  λ r. once_are r.names once r.first ∙ ap (once_after []) ((names_law mode us r.names).0 r.are),
  λ e. record {
    names = names mode (marks mode us);
    are = (names_law mode us (names mode (marks mode us))).1 refl;
    first = (once_law (names mode (marks mode us)) once).1 e;
  },
)
