-- When values have the same content: of one variant, options, and lists item by item.
use Rattle.std.proofs.Common.{◌≡◌, refl, ap, sym, ◌∙◌, subst, ℕ, ◌<◌, ◌≤◌, Bool, true, false, List, [], ◌∷◌, map, length, take, get_or, IsTrue, ◌↔◌, Option, Some, None}
use Rattle.std.specs.Option.{option_map, is_some}
use Rattle.rx_base.specs.Equivalence.{BothOrNeither}
use Rattle.std.specs.List.{AllZip}
use Rattle.std.proofs.lemmas.Bool.{true≢false}
use Rattle.std.proofs.lemmas.List.{take_all}
use Rattle.std.proofs.lemmas.List.Elements.{AllZip-get_or}

-- Two of one variant have the same content where what they hold has.
pub by_held : {A M : Type 0} {b : Bool} (hold : A → M) (held : M → A) (x y : A) (m n : M) → held (hold x) ≡ x → held (hold y) ≡ y → m ≡ hold x → n ≡ hold y → (IsTrue b ↔ (x ≡ y)) → IsTrue b ↔ (m ≡ n)
by_held hold held x y m n x_back y_back m_is n_is same = (
  λ t. m_is ∙ ap hold (same.0 t) ∙ sym n_is,
  λ e. same.1 (sym x_back ∙ ap held (sym m_is ∙ e ∙ n_is) ∙ y_back),
)

module _ {A B : Type 0} (content : A → B) where
  pub from_each : (xs ys : List A) → AllZip (λ x y. content x ≡ content y) xs ys → map content xs ≡ map content ys
  from_each [] [] h = refl
  from_each [] (y ∷ ys) h = absurd h
  from_each (x ∷ xs) [] h = absurd h
  from_each (x ∷ xs) (y ∷ ys) h = ap (λ c. c ∷ map content xs) h.0 ∙ ap (λ cs. content y ∷ cs) (from_each xs ys h.1)

  first_or : B → List B → B
  first_or default [] = default
  first_or default (c ∷ cs) = c

  after_first : List B → List B
  after_first [] = []
  after_first (c ∷ cs) = cs

  has_some : List B → Bool
  has_some [] = false
  has_some (c ∷ cs) = true

  pub to_each : (xs ys : List A) → map content xs ≡ map content ys → AllZip (λ x y. content x ≡ content y) xs ys
  unfolding first_or after_first has_some
  to_each [] [] e = tt
  to_each [] (y ∷ ys) e = absurd (true≢false (sym (ap has_some e)))
  to_each (x ∷ xs) [] e = absurd (true≢false (ap has_some e))
  to_each (x ∷ xs) (y ∷ ys) e = (ap (first_or (content x)) e, to_each xs ys (ap after_first e))

  abbrev Same : A → A → Type 0
  Same x y = content x ≡ content y

  -- a loop over two lists, once it has ended
  pub all_same : {xs ys zs ws : List A} {i : ℕ} → length xs ≤ i → length ys ≤ i → xs ≡ zs → ys ≡ ws → AllZip Same (take i xs) (take i ys) → AllZip Same zs ws
  all_same {xs = xs} {ys = ys} {zs = zs} {ws = ws} {i = i} first second xs_are ys_are so_far =
      let left : take i xs ≡ zs = take_all i xs first ∙ xs_are in
      let right : take i ys ≡ ws = take_all i ys second ∙ ys_are in
      subst (λ l. AllZip Same l ws) left (subst (λ l. AllZip Same (take i xs) l) right so_far)

  -- where it stands at two items
  pub same_here : {xs ys zs ws : List A} {i : ℕ} {x y : A} → i < length xs → xs ≡ zs → ys ≡ ws → x ≡ get_or xs i x → y ≡ get_or ys i y → AllZip Same zs ws → content x ≡ content y
  same_here {xs = xs} {ys = ys} {zs = zs} {ws = ws} {i = i} {x = x} {y = y} within xs_are ys_are x_is y_is all =
      let both : AllZip Same xs ys = subst (λ l. AllZip Same l ys) (sym xs_are) (subst (λ l. AllZip Same zs l) (sym ys_are) all) in
      ap content x_is ∙ AllZip-get_or Same xs ys i x y both within ∙ sym (ap content y_is)

  some_or : B → Option B → B
  some_or default None = default
  some_or default (Some c) = c

  pub from_both : (o p : Option A) → BothOrNeither Same o p → option_map content o ≡ option_map content p
  from_both None None h = refl
  from_both None (Some y) h = absurd (true≢false h)
  from_both (Some x) None h = absurd h
  from_both (Some x) (Some y) h = ap (λ c. Some c) h

  pub to_both : (o p : Option A) → option_map content o ≡ option_map content p → BothOrNeither Same o p
  unfolding some_or
  to_both None None e = refl
  to_both None (Some y) e = absurd (true≢false (sym (ap is_some e)))
  to_both (Some x) None e = absurd (true≢false (ap is_some e))
  to_both (Some x) (Some y) e = ap (some_or (content x)) e

pub all_kept : {A : Type 0} (o : Option A) → option_map (λ a. a) o ≡ o
all_kept None = refl
all_kept (Some a) = refl
