-- The `id` of a value that was read.
use Rattle.std.proofs.Common.{◌≡◌, ◌∙◌, refl, ap, Option, Some, None, codes}
use Rattle.std.specs.Prelude.{IfSome, option_map, unwrap_or}
use Rattle.std.specs.Borrow.{Bor}
use Rattle.json.specs.Find.{get}
use Rattle.json.specs.Json as json
use Rattle.json.specs.Json.{Json}
use Rattle.json.specs.Tree.{HasNumbers}
use Rattle.json.specs.Value.{value_view}
use Rattle.json.specs.declared.value.Value.{Value}
use Rattle.json.proofs.Numbered.{HasNumbers-get}
use Rattle.rx_json_reply.specs.Begun.{id_json}
use Rattle.rx_json_reply.specs.Requests.{id_of}

module _ {A : Type 0} (id : Option (Bor (Value A))) (j : Json) (found : option_map (λ (v : Bor (Value A)). value_view v.now) id ≡ get (codes "id") j) where
  id_held : (id : Option (Bor (Value A))) → id_json id ≡ unwrap_or (option_map (λ (v : Bor (Value A)). value_view v.now) id) json.null
  id_held None = refl
  id_held (Some id) = refl

  -- it is that of the value,
  pub id_is : id_json id ≡ id_of j
  id_is = id_held id ∙ ap (λ (o : Option Json). unwrap_or o json.null) found

  numbers_in : (id : Option (Bor (Value A))) → option_map (λ (v : Bor (Value A)). value_view v.now) id ≡ get (codes "id") j → HasNumbers j → IfSome id (λ id. HasNumbers (value_view id.now))
  numbers_in None same numbers = tt
  numbers_in (Some v) same numbers = HasNumbers-get (codes "id") j (value_view v.now) numbers same

  -- and can be written as the value can
  pub id_numbers : HasNumbers j → IfSome id (λ id. HasNumbers (value_view id.now))
  id_numbers numbers = numbers_in id found numbers
