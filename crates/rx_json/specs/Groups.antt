-- The groups of a pattern as JSON, and their names.
use Rattle.std.specs.Prelude.{ℕ, ◌+◌, List, [], ◌∷◌, ◌++◌, map, Option, Some, None, codes, if◌then◌else◌}
use Rattle.json.specs.Json.{Json}
use Rattle.rx_base.specs.Texts.{is_among}
use Rattle.rx_base.specs.declared.span.Span.{Span}
use Rattle.rx_ast.specs.Kinds.{Kind, capturing_group}
use Rattle.rx_visit.specs.Names.{name_of}
use Rattle.rx_json.specs.Values.{Field, text, number, text_or_null, object_of, list_of}

-- a capturing group with its number, its name and its place; of other nodes nothing
abbrev pub group_of : (Span → List Field) → ℕ → Kind → List Json
group_of place n (capturing_group s name d) = object_of ((codes "number", number n) ∷ (codes "name", text_or_null name) ∷ place s) ∷ []
group_of place n _ = []

-- the number after a node
abbrev pub number_after : ℕ → Kind → ℕ
number_after n (capturing_group s name d) = n + 1
number_after n _ = n

-- the groups among some nodes, the first of which has this number
abbrev pub groups_of : (Span → List Field) → ℕ → List Kind → List Json
groups_of place n [] = []
groups_of place n (k ∷ ks) = group_of place n k ++ groups_of place (number_after n k) ks

abbrev pub one_name : Option (List ℕ) → List (List ℕ)
one_name None = []
one_name (Some name) = name ∷ []

-- the names of the groups among some nodes
abbrev pub names_of : List Kind → List (List ℕ)
names_of [] = []
names_of (k ∷ ks) = one_name (name_of k) ++ names_of ks

-- each once, where it comes first; `seen` came before
abbrev pub once_after : List (List ℕ) → List (List ℕ) → List (List ℕ)
once_after seen [] = []
once_after seen (name ∷ names) = if is_among seen name then once_after seen names else name ∷ once_after (name ∷ seen) names

-- what is told of the groups among some nodes
abbrev pub groups_fields : (Span → List Field) → List Kind → List Field
groups_fields place ks = (codes "groups", list_of (groups_of place 1 ks)) ∷ (codes "names", list_of (map text (once_after [] (names_of ks)))) ∷ []
