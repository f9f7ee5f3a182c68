-- Members and items of a value, one after another.
use Rattle.std.proofs.Common.{◌≡◌, ◌∙◌, refl, sym, ap, ℕ, ◌+◌, ◌<◌, Bool, ◌||◌, Option, List, [], ◌∷◌, ◌++◌, map, length, get_or, take, drop}
use Rattle.std.specs.Borrow.{Bor}
use Rattle.std.specs.List.{list_any}
use Rattle.std.specs.Option.{option_or}
use Rattle.std.specs.Str.{bytes_eq}
use Rattle.std.proofs.lemmas.List.{drop_more, take_more, map-append}
use Rattle.json.specs.Json.{Json, object}
use Rattle.json.specs.Value.{items_view, members_view, value_view}
use Rattle.json.specs.declared.value.Value.{Value}
use Rattle.rx_base.specs.Texts.{is_among}
use Rattle.rx_json_reply.specs.Faults.{Member, item_list, member_list, members_in, wrong_item, wrong_member, wrong_members}
use Rattle.rx_json_reply.specs.Held.{names, pairs}
use Rattle.rx_json_reply.specs.Wrongs.{Wrong, first_wrong}

pub member_list-view : {A : Type 0} (ms : List (Bor (List ℕ) × Value A)) → member_list (members_view ms) ≡ pairs ms
member_list-view [] = refl
member_list-view (m ∷ ms) = ap (λ (more : List Member). (m.0.now, value_view m.1) ∷ more) (member_list-view ms)

-- what was found of the members is so of those of the object
pub members_checked : {A : Type 0} (j : Json) (ms slice : List (Bor (List ℕ) × Value A)) (found : Option Wrong) → j ≡ object (members_view ms) → slice ≡ ms → found ≡ wrong_members [] (pairs slice)
    → found ≡ wrong_members [] (members_in j)
members_checked {A} j ms slice found is same checked =
    checked ∙ ap (λ (xs : List (Bor (List ℕ) × Value A)). wrong_members [] (pairs xs)) same ∙ ap (wrong_members []) (sym (member_list-view ms))
    ∙ ap (λ (v : Json). wrong_members [] (members_in v)) (sym is)

pub item_list-view : {A : Type 0} (vs : List (Value A)) → item_list (items_view vs) ≡ map value_view vs
item_list-view [] = refl
item_list-view (v ∷ vs) = ap (λ (more : List Json). value_view v ∷ more) (item_list-view vs)

pub is_among-names : {A : Type 0} (name : List ℕ) (ms : List (Bor (List ℕ) × Value A)) → list_any (λ m. bytes_eq m.0.now name) ms ≡ is_among (names ms) name
is_among-names name [] = refl
is_among-names name (m ∷ ms) = ap (λ (rest : Bool). bytes_eq m.0.now name || rest) (is_among-names name ms)

-- what is wrong from the member at a place on
pub from_member : {A : Type 0} (ms : List (Bor (List ℕ) × Value A)) (i : ℕ) (m : Bor (List ℕ) × Value A) → i < length ms → m ≡ get_or ms i m
    → wrong_members (names (take i ms)) (pairs (drop i ms))
    ≡ option_or (wrong_member (names (take i ms)) (m.0.now, value_view m.1)) (wrong_members (names (take (i + 1) ms)) (pairs (drop (i + 1) ms)))
from_member {A} ms i m within is =
    let rest : drop i ms ≡ m ∷ drop (i + 1) ms = drop_more ms i m within ∙ ap (λ (n : Bor (List ℕ) × Value A). n ∷ drop (i + 1) ms) (sym is) in
    let front : names (take (i + 1) ms) ≡ names (take i ms) ++ m.0.now ∷ [] =
    ap names (take_more ms i m within ∙ ap (λ (n : Bor (List ℕ) × Value A). take i ms ++ n ∷ []) (sym is)) ∙ map-append (λ (n : Bor (List ℕ) × Value A). n.0.now) (take i ms) (m ∷ []) in
    ap (λ (left : List (Bor (List ℕ) × Value A)). wrong_members (names (take i ms)) (pairs left)) rest
    ∙ ap (λ (before : List (List ℕ)). option_or (wrong_member (names (take i ms)) (m.0.now, value_view m.1)) (wrong_members before (pairs (drop (i + 1) ms)))) (sym front)

-- what is wrong from the item at a place on
pub from_item : {A : Type 0} (vs : List (Value A)) (i : ℕ) (v : Value A) → i < length vs → v ≡ get_or vs i v
    → first_wrong (map (λ it. wrong_item (value_view it)) (drop i vs)) ≡ option_or (wrong_item (value_view v)) (first_wrong (map (λ it. wrong_item (value_view it)) (drop (i + 1) vs)))
from_item {A} vs i v within is =
    ap (λ (left : List (Value A)). first_wrong (map (λ it. wrong_item (value_view it)) left)) (drop_more vs i v within ∙ ap (λ (n : Value A). n ∷ drop (i + 1) vs) (sym is))

pub items_wrong : {A : Type 0} (vs : List (Value A)) → first_wrong (map wrong_item (item_list (items_view vs))) ≡ first_wrong (map (λ it. wrong_item (value_view it)) vs)
items_wrong [] = refl
items_wrong (v ∷ vs) = ap (option_or (wrong_item (value_view v))) (items_wrong vs)
