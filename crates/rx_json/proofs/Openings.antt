-- A node's tokens are what it begins with, the nodes in it, and what closes it.
use Rattle.std.proofs.Common.{◌≡◌, ◌∙◌, refl, ap, sym, ℕ, List, [], ◌∷◌, ◌++◌, append-nil, append_assoc, map, codes, Result, Ok, Err}
use Rattle.std.specs.Borrow.{Bor}
use Rattle.std.specs.Prelude.{IfOk}
use Rattle.json.specs.Token.{Token, begin_object, end_object, begin_array, end_array, key}
use Rattle.json.specs.Json.{Json}
use Rattle.json.specs.Tree.{json_tokens}
use Rattle.json.specs.Written.{Written}
use Rattle.rx_base.specs.declared.span.Span.{Span}
use Rattle.rx_ast.specs.declared.ast_kind.RegExpAstKind.{RegExpAstKind}
use Rattle.rx_ast.specs.declared.class.CharacterClassRange.{CharacterClassRange}
use Rattle.rx_ast.specs.declared.ast_kind.RegExpAstKind.TheVariants as to
use Rattle.rx_ast.specs.Kinds.{Kind, pattern, disjunction, alternative, term, look_around, quantifier, capturing_group, ignore_group, boundary_assertion, character, dot, class_escape, property_escape, class, class_contents, class_range, string_disjunction, class_string, indexed_reference, named_reference, children, in_contents, in_term}
use Rattle.rx_ast.specs.MirrorKinds.{mirror_kind}
use Rattle.rx_json.specs.declared.close.Close.{Close}
use Rattle.rx_json.specs.Adding.{Adds}
use Rattle.rx_json.specs.Nodes.{one_body, list_body, body_of, own_fields, with_body}
use Rattle.rx_json.specs.Openings.{closed_by, closing, opening}
use Rattle.rx_json.specs.Tasks.{inner, tree_tokens}
use Rattle.rx_json.specs.Trees.{tree_json}
use Rattle.rx_json.specs.Values.{Field, field_tokens, list_of, object_of, value_tokens}
use Rattle.rx_json.proofs.Adding.{adds_then}
use Rattle.rx_json.proofs.Lists.{fields_then, items_are, members_are}
use Rattle.rx_json.proofs.Trees.{tree_json_is}

-- what stands before was written, and then what closes is answered
pub opens_after : {E : Type 0} (r : Result Close E) (a b c : Written) (ts us : List Token) (how : Close) → Adds a b ts → IfOk r (λ it. Adds b c us × (it ≡ how)) → IfOk r (λ it. Adds a c (ts ++ us) × (it ≡ how))
opens_after (Ok it) a b c ts us how first second = (adds_then a b c ts us first second.0, second.1)
opens_after (Err e) a b c ts us how first second = tt

-- an object is its fields between braces
pub object_is : (fs : List Field) → json_tokens (object_of fs) ≡ begin_object ∷ (field_tokens fs ++ end_object ∷ [])
object_is fs = ap (λ (ts : List Token). begin_object ∷ ts) (members_are fs)

-- an object with one more field
object_with : (fs : List Field) (name : List ℕ) (j : Json) → json_tokens (object_of (fs ++ (name, j) ∷ [])) ≡ begin_object ∷ (field_tokens fs ++ key name ∷ ((json_tokens j ++ []) ++ end_object ∷ []))
object_with fs name j =
    object_is (fs ++ (name, j) ∷ [])
    ∙ ap (λ (ts : List Token). begin_object ∷ (ts ++ end_object ∷ [])) (fields_then fs ((name, j) ∷ []))
    ∙ ap (λ (ts : List Token). begin_object ∷ ts) (append_assoc (field_tokens fs) (key name ∷ (json_tokens j ++ [])) (end_object ∷ []))

module _ (place : Span → List Field) where
  abbrev tokens : Kind → List Token
  tokens k = json_tokens (tree_json place k)

  abbrev trees : List Kind → List Json
  trees ks = map (tree_json place) ks

  values_are : (ks : List Kind) → value_tokens (trees ks) ≡ tree_tokens place ks
  values_are [] = refl
  values_are (k ∷ ks) = ap (λ (ts : List Token). tokens k ++ ts) (values_are ks)

  -- a body that is one node
  with_one : (fs : List Field) (k : Kind) → json_tokens (with_body one_body fs (trees (k ∷ []))) ≡ opening one_body fs ++ (tree_tokens place (k ∷ []) ++ closing (closed_by one_body))
  with_one fs k =
      object_with fs (codes "body") (tree_json place k)
      ∙ ap (λ (ts : List Token). begin_object ∷ ts) (sym (append_assoc (field_tokens fs) (key (codes "body") ∷ []) ((tokens k ++ []) ++ end_object ∷ [])))

  -- the list in a body, with what comes after it
  list_is : (ks : List Kind) → (json_tokens (list_of (trees ks)) ++ []) ++ end_object ∷ [] ≡ begin_array ∷ (tree_tokens place ks ++ end_array ∷ end_object ∷ [])
  list_is ks =
      ap (λ (ts : List Token). ts ++ end_object ∷ []) (append-nil (json_tokens (list_of (trees ks))))
      ∙ ap (λ (ts : List Token). begin_array ∷ (ts ++ end_object ∷ [])) (items_are (trees ks))
      ∙ ap (λ (ts : List Token). begin_array ∷ ts) (append_assoc (value_tokens (trees ks)) (end_array ∷ []) (end_object ∷ []))
      ∙ ap (λ (ts : List Token). begin_array ∷ (ts ++ end_array ∷ end_object ∷ [])) (values_are ks)

  with_list : (fs : List Field) (ks : List Kind) → json_tokens (with_body list_body fs (trees ks)) ≡ opening list_body fs ++ (tree_tokens place ks ++ closing (closed_by list_body))
  with_list fs ks =
      object_with fs (codes "body") (list_of (trees ks))
      ∙ ap (λ (ts : List Token). begin_object ∷ (field_tokens fs ++ key (codes "body") ∷ ts)) (list_is ks)
      ∙ ap (λ (ts : List Token). begin_object ∷ ts) (sym (append_assoc (field_tokens fs) (key (codes "body") ∷ begin_array ∷ []) (tree_tokens place ks ++ end_array ∷ end_object ∷ [])))

  -- the node that another is
  as_itself : (k : Kind) → tokens k ≡ tree_tokens place (k ∷ []) ++ []
  as_itself k = sym (append-nil (tokens k)) ∙ sym (append-nil (tokens k ++ []))

  pub node_opens : (k : Kind) → tokens k ≡ opening (body_of k) (own_fields place k) ++ (tree_tokens place (inner k) ++ closing (closed_by (body_of k)))
  node_opens (pattern p) = ap json_tokens (tree_json_is place (pattern p)) ∙ with_one (own_fields place (pattern p)) (disjunction p.1)
  node_opens (disjunction d) = ap json_tokens (tree_json_is place (disjunction d)) ∙ with_list (own_fields place (disjunction d)) (children (disjunction d))
  node_opens (alternative a) = ap json_tokens (tree_json_is place (alternative a)) ∙ with_list (own_fields place (alternative a)) (children (alternative a))
  node_opens (term n) = ap json_tokens (tree_json_is place (term n)) ∙ as_itself (in_term n)
  node_opens (look_around s kind d) = ap json_tokens (tree_json_is place (look_around s kind d)) ∙ with_one (own_fields place (look_around s kind d)) (disjunction d)
  node_opens (quantifier s min max greedy n) = ap json_tokens (tree_json_is place (quantifier s min max greedy n)) ∙ with_one (own_fields place (quantifier s min max greedy n)) (term n)
  node_opens (capturing_group s name d) = ap json_tokens (tree_json_is place (capturing_group s name d)) ∙ with_one (own_fields place (capturing_group s name d)) (disjunction d)
  node_opens (ignore_group s modifiers d) = ap json_tokens (tree_json_is place (ignore_group s modifiers d)) ∙ with_one (own_fields place (ignore_group s modifiers d)) (disjunction d)
  node_opens (boundary_assertion b) = ap json_tokens (tree_json_is place (boundary_assertion b)) ∙ object_is (own_fields place (boundary_assertion b))
  node_opens (character c) = ap json_tokens (tree_json_is place (character c)) ∙ object_is (own_fields place (character c))
  node_opens (dot d) = ap json_tokens (tree_json_is place (dot d)) ∙ object_is (own_fields place (dot d))
  node_opens (class_escape e) = ap json_tokens (tree_json_is place (class_escape e)) ∙ object_is (own_fields place (class_escape e))
  node_opens (property_escape p) = ap json_tokens (tree_json_is place (property_escape p)) ∙ object_is (own_fields place (property_escape p))
  node_opens (class c) = ap json_tokens (tree_json_is place (class c)) ∙ with_list (own_fields place (class c)) (children (class c))
  node_opens (class_contents m) = ap json_tokens (tree_json_is place (class_contents m)) ∙ as_itself (in_contents m)
  node_opens (class_range r) = ap json_tokens (tree_json_is place (class_range r)) ∙ object_is (own_fields place (class_range r))
  node_opens (string_disjunction d) = ap json_tokens (tree_json_is place (string_disjunction d)) ∙ with_list (own_fields place (string_disjunction d)) (children (string_disjunction d))
  node_opens (class_string s) = ap json_tokens (tree_json_is place (class_string s)) ∙ with_list (own_fields place (class_string s)) (children (class_string s))
  node_opens (indexed_reference r) = ap json_tokens (tree_json_is place (indexed_reference r)) ∙ object_is (own_fields place (indexed_reference r))
  node_opens (named_reference r) = ap json_tokens (tree_json_is place (named_reference r)) ∙ object_is (own_fields place (named_reference r))

-- All nodes in a node are written after it, if it is no range.
pub inner_are : (node : RegExpAstKind) → ((r : Bor CharacterClassRange) → node ≡ to.CharacterClassRange r → ⊥) → inner (mirror_kind node) ≡ children (mirror_kind node)
inner_are (to.Pattern p) other = refl
inner_are (to.Disjunction d) other = refl
inner_are (to.Alternative a) other = refl
inner_are (to.Term t) other = refl
inner_are (to.LookAroundAssertion a) other = refl
inner_are (to.Quantifier q) other = refl
inner_are (to.CapturingGroup g) other = refl
inner_are (to.IgnoreGroup g) other = refl
inner_are (to.BoundaryAssertion b) other = refl
inner_are (to.Character c) other = refl
inner_are (to.Dot d) other = refl
inner_are (to.CharacterClassEscape e) other = refl
inner_are (to.UnicodePropertyEscape p) other = refl
inner_are (to.CharacterClass c) other = refl
inner_are (to.CharacterClassContents c) other = refl
inner_are (to.CharacterClassRange r) other = absurd (other r refl)
inner_are (to.CharacterClassStringDisjunction d) other = refl
inner_are (to.CharacterClassString s) other = refl
inner_are (to.IndexedReference r) other = refl
inner_are (to.NamedReference r) other = refl
