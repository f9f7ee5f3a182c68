-- What stands before the nodes in a node, and what closes it.
use Rattle.std.specs.Prelude.{◌≡◌, List, [], ◌∷◌, ◌++◌, Result, IfOk, codes}
use Rattle.json.specs.Token.{Token, begin_object, end_object, begin_array, end_array, key}
use Rattle.json.specs.Written.{Written}
use Rattle.rx_base.specs.declared.span.Span.{Span}
use Rattle.rx_ast.specs.Kinds.{Kind}
use Rattle.rx_json.specs.declared.close.Close.{Close}
use Rattle.rx_json.specs.declared.close.Close.TheVariants as close
use Rattle.rx_json.specs.Adding.{Adds}
use Rattle.rx_json.specs.Nodes.{Body, no_body, one_body, list_body, itself, body_of, own_fields}
use Rattle.rx_json.specs.Values.{Field, field_tokens}

abbrev pub opening : Body → List Field → List Token
opening no_body fs = begin_object ∷ field_tokens fs
opening one_body fs = begin_object ∷ (field_tokens fs ++ key (codes "body") ∷ [])
opening list_body fs = begin_object ∷ (field_tokens fs ++ key (codes "body") ∷ begin_array ∷ [])
opening itself fs = []

abbrev pub closed_by : Body → Close
closed_by no_body = close.Object
closed_by one_body = close.Object
closed_by list_body = close.List
closed_by itself = close.Nothing

abbrev pub closing : Close → List Token
closing close.Nothing = []
closing close.Object = end_object ∷ []
closing close.List = end_array ∷ end_object ∷ []

-- What stands before the nodes in a node was written, and the answer is what closes it.
abbrev pub Opens : {E : Type 0} → Result Close E → Written → Written → (Span → List Field) → Kind → Type 0
Opens result old new place k = IfOk result (λ it. Adds old new (opening (body_of k) (own_fields place k)) × (it ≡ closed_by (body_of k)))
