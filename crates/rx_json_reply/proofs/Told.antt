-- What is told of a pattern, by what is wanted and by the names that are asked for.
use Rattle.std.proofs.Common.{◌≡◌, ◌∙◌, refl, sym, ap, ap₂, subst, Bool, true, false, cond, ◌&&◌, ℕ, ◌+◌, ◌<◌, List, [], ◌∷◌, ◌++◌, codes, encode_utf8_all, length, map, take, get_or, Result, OnOk}
use Rattle.std.specs.List.{filter}
use Rattle.std.specs.Str.{IsUtf8, chars}
use Rattle.std.proofs.lemmas.List.{map-append, take_more}
use Rattle.std.proofs.lemmas.List.Elements.{filter-append}
use Rattle.json.specs.Json.{Json, string}
use Rattle.json.specs.Token as token
use Rattle.json.specs.Token.{Token}
use Rattle.json.specs.Written.{Written}
use Rattle.rx_ast.specs.declared.term.Pattern.{Pattern}
use Rattle.rx_ast.specs.Kinds.{Kind, order, pattern as pattern_kind}
use Rattle.rx_ast.specs.Tree.{mirror}
use Rattle.rx_base.specs.Texts.{is_among}
use Rattle.rx_model.specs.declared.mode.Mode.{Mode}
use Rattle.rx_model.specs.Inputs.Inputs.{Input}
use Rattle.rx_command.specs.declared.features.Feature.{Feature}
use Rattle.rx_command.specs.Features.{feature_name, has_feature}
use Rattle.rx_json.specs.Adding.{Adds}
use Rattle.rx_refusal.specs.declared.field.Field.TheVariants.{Flags}
use Rattle.rx_json.specs.Values.{Field, field_tokens, list_of, value_tokens}
use Rattle.rx_json.proofs.Adding.{adds_nothing, adds_then}
use Rattle.rx_json.proofs.Lists.{encoded, values_then}
use Rattle.rx_json_reply.specs.declared.want.Want.{Want}
use Rattle.rx_json_reply.specs.Held.{IsWant}
use Rattle.rx_refusal.specs.Fields.{text_in}
use Rattle.rx_json_reply.specs.Parts.{display_fields, is_needed, mode_name, needed_among, only_if, placed_fields, read_fields, spelling_fields, unsupported_fields}
use Rattle.rx_json_reply.specs.Wants.{features, has_features}
use Rattle.rx_json_reply.proofs.Joining.{fields_last}

-- ---- features

filter_same : (p q : Feature → Bool) (xs : List Feature) → ((x : Feature) → p x ≡ q x) → filter p xs ≡ filter q xs
filter_same p q [] same = refl
filter_same p q (x ∷ xs) same = ap (λ b. cond b (x ∷ filter p xs) (filter p xs)) (same x) ∙ ap (λ ys. cond (q x) (x ∷ ys) ys) (filter_same p q xs same)

pub unsupported_same : (input : Input) (p q : Feature → Bool) (pattern : Pattern) → ((feature : Feature) → p feature ≡ q feature) → unsupported_fields input p pattern ≡ unsupported_fields input q pattern
unsupported_same input p q pattern same =
    let letters : List ℕ = encode_utf8_all (text_in input Flags) in
    let nodes : List Kind = order (pattern_kind (mirror pattern)) in
    ap (λ (chosen : List Feature). (codes "unsupported", list_of (map (λ feature. string (feature_name feature)) chosen)) ∷ [])
    (filter_same (λ feature. p feature && is_needed letters nodes feature) (λ feature. q feature && is_needed letters nodes feature) features
    (λ feature. ap (λ asked. asked && is_needed letters nodes feature) (same feature)))

-- the names among one feature more
needed_more : (p : Feature → Bool) (xs : List Feature) (i : ℕ) (d : Feature) → i < length xs
    → value_tokens (map (λ feature. string (feature_name feature)) (filter p (take (i + 1) xs)))
    ≡ value_tokens (map (λ feature. string (feature_name feature)) (filter p (take i xs))) ++ value_tokens (map (λ feature. string (feature_name feature)) (filter p (get_or xs i d ∷ [])))
needed_more p xs i d below =
    let name : Feature → Json = λ feature. string (feature_name feature) in
    let last : List Feature = get_or xs i d ∷ [] in
    ap (λ (fs : List Feature). value_tokens (map name (filter p fs))) (take_more xs i d below)
    ∙ ap (λ (fs : List Feature). value_tokens (map name fs)) (filter-append p (take i xs) last)
    ∙ ap value_tokens (map-append name (filter p (take i xs)) (filter p last))
    ∙ values_then (map name (filter p (take i xs))) (map name (filter p last))

-- how a loop over features goes on
pub needed_step : (asks : Feature → Bool) (letters : List ℕ) (nodes : List Kind) (xs : List Feature) (i : ℕ) (d : Feature) (u v w : Written) → i < length xs
    → Adds u v (value_tokens (needed_among asks letters nodes (take i xs))) → Adds v w (value_tokens (needed_among asks letters nodes (get_or xs i d ∷ [])))
    → Adds u w (value_tokens (needed_among asks letters nodes (take (i + 1) xs)))
needed_step asks letters nodes xs i d u v w below before now =
    let p : Feature → Bool = λ feature. asks feature && is_needed letters nodes feature in
    subst (λ (ts : List Token). Adds u w ts) (sym (needed_more p xs i d below))
    (adds_then u v w (value_tokens (needed_among asks letters nodes (take i xs))) (value_tokens (needed_among asks letters nodes (get_or xs i d ∷ []))) before now)

-- whether a feature is told that is asked for, where this was found for the flags as bytes
pub told_when : (asks : Feature → Bool) (input : Input) (pattern : Pattern) (feature : Feature) (bytes : List ℕ) (needed : Bool) → IsUtf8 bytes → chars bytes ≡ text_in input Flags
    → needed ≡ is_needed bytes (order (pattern_kind (mirror pattern))) feature → asks feature ≡ true
    → (asks feature && is_needed (encode_utf8_all (text_in input Flags)) (order (pattern_kind (mirror pattern))) feature) ≡ needed
told_when asks input pattern feature bytes needed utf8 same found asked =
    let nodes : List Kind = order (pattern_kind (mirror pattern)) in
    ap₂ (λ one other. one && other) asked (sym (found ∙ ap (λ (letters : List ℕ). is_needed letters nodes feature) (encoded bytes (text_in input Flags) utf8 same)))

-- a feature that is not told, and one that is
pub one_left_out : (asks : Feature → Bool) (letters : List ℕ) (nodes : List Kind) (feature : Feature) (w : Written) → (asks feature && is_needed letters nodes feature) ≡ false
    → Adds w w (value_tokens (needed_among asks letters nodes (feature ∷ [])))
one_left_out asks letters nodes feature w lacking =
    subst (λ told. Adds w w (value_tokens (map (λ feature. string (feature_name feature)) (cond told (feature ∷ []) [])))) (sym lacking) (adds_nothing w)

pub one_told : (asks : Feature → Bool) (letters : List ℕ) (nodes : List Kind) (feature : Feature) (v w : Written) → (asks feature && is_needed letters nodes feature) ≡ true
    → Adds v w (token.string (feature_name feature) ∷ []) → Adds v w (value_tokens (needed_among asks letters nodes (feature ∷ [])))
one_told asks letters nodes feature v w told added =
    subst (λ told. Adds v w (value_tokens (map (λ feature. string (feature_name feature)) (cond told (feature ∷ []) [])))) (sym told) added

-- ---- all that is told of a pattern that is read

pub all_told : {E : Type 0} (r : Result (Unit {0}) E) (a b c d e f : Written) (input : Input) (want : Want) (names : List (List ℕ)) (mode : Mode) (pattern : Pattern) → IsWant want names
    → Adds a b (field_tokens ((codes "mode", string (mode_name mode)) ∷ []))
    → Adds b c (field_tokens (only_if want.spelling (spelling_fields mode pattern)))
    → Adds c d (field_tokens (placed_fields input want.groups want.tree pattern))
    → Adds d e (field_tokens (only_if want.unsupported (unsupported_fields input (has_feature want.features) pattern)))
    → OnOk r (Adds e f (field_tokens (only_if want.display (display_fields pattern))))
    → OnOk r (Adds a f (field_tokens (read_fields input names mode pattern)))
all_told r a b c d e f input want names mode pattern is told spelled placed unsupported displayed =
    let mode_field : List Field = (codes "mode", string (mode_name mode)) ∷ [] in
    let asks : Feature → Bool = λ feature. is_among names (feature_name feature) in
    let spelling : List Field = only_if (is_among names (codes "spelling")) (spelling_fields mode pattern) in
    let places : List Field = placed_fields input (is_among names (codes "groups")) (is_among names (codes "tree")) pattern in
    let lacks : List Field = only_if (has_features names) (unsupported_fields input asks pattern) in
    let display : List Field = only_if (is_among names (codes "display")) (display_fields pattern) in
    let spelled_so : Adds b c (field_tokens spelling) = subst (λ asked. Adds b c (field_tokens (only_if asked (spelling_fields mode pattern)))) is.spelling spelled in
    let placed_so : Adds c d (field_tokens places) =
    subst (λ tree. Adds c d (field_tokens (placed_fields input (is_among names (codes "groups")) tree pattern))) is.tree
    (subst (λ groups. Adds c d (field_tokens (placed_fields input groups want.tree pattern))) is.groups placed) in
    let lacks_so : Adds d e (field_tokens lacks) =
    subst (λ (fields : List Field). Adds d e (field_tokens (only_if (has_features names) fields))) (unsupported_same input (has_feature want.features) asks pattern is.features)
    (subst (λ asked. Adds d e (field_tokens (only_if asked (unsupported_fields input (has_feature want.features) pattern)))) is.unsupported unsupported) in
    let displayed_so : OnOk r (Adds e f (field_tokens display)) = subst (λ asked. OnOk r (Adds e f (field_tokens (only_if asked (display_fields pattern))))) is.display displayed in
    fields_last r a b f mode_field (spelling ++ (places ++ (lacks ++ display))) told
    (fields_last r b c f spelling (places ++ (lacks ++ display)) spelled_so
    (fields_last r c d f places (lacks ++ display) placed_so
    (fields_last r d e f lacks display lacks_so displayed_so)))
