-- What is refused: nodes that are refused alone, or groups of one name.
use Rattle.std.proofs.Common.{◌≡◌, refl, ap, sym, ◌∙◌, Bool, true, false, ◌||◌, ◌&&◌, Some, List, [], ◌∷◌, map}
use Rattle.std.specs.List.{list_any}
use Rattle.std.proofs.Math.Bool.{and-false, or-false}
use Rattle.rx_ast.specs.Kinds.{Kind, capturing_group, ignore_group, look_around, property_escape}
use Rattle.rx_ast.specs.MirrorKinds.{mirror_kind}
use Rattle.rx_ast.specs.declared.ast_kind.RegExpAstKind.{RegExpAstKind}
use Rattle.rx_visit.specs.Names.{has_equal_names, is_name_twice, is_refused_alone, name_of}
use Rattle.rx_visit.specs.Patterns.{is_refused, is_refused_pattern, is_twice, looks_behind}
use Rattle.rx_visit.specs.declared.patterns.RegexUnsupportedPatterns.{RegexUnsupportedPatterns}

unnamed : (refused duplicates : Bool) → refused ≡ (refused || (duplicates && false))
unnamed refused duplicates = sym (or-false refused) ∙ ap (λ b. refused || b) (sym (and-false duplicates))

refused_one : (set : RegexUnsupportedPatterns) (ks : List Kind) (k : Kind) → is_refused set ks k ≡ (is_refused_alone set k || (set.duplicate_named_capture_groups && is_name_twice ks (name_of k)))
refused_one set ks (capturing_group s (Some name) d) = ap (λ b. b || (set.duplicate_named_capture_groups && is_twice ks name)) (sym (or-false set.named_capture_groups))
refused_one set ks (property_escape p) = unnamed set.unicode_property_escapes set.duplicate_named_capture_groups
refused_one set ks (look_around s kind d) = unnamed (set.look_behind_assertions && looks_behind kind) set.duplicate_named_capture_groups
refused_one set ks (ignore_group s (Some modifiers) d) = unnamed set.pattern_modifiers set.duplicate_named_capture_groups
refused_one set ks _ = unnamed false set.duplicate_named_capture_groups

parted : (d a b c e : Bool) → ((a || (d && b)) || (c || (d && e))) ≡ ((a || c) || (d && (b || e)))
parted false true b c e = refl
parted false false b c e = refl
parted true true b c e = refl
parted true false true true e = refl
parted true false true false e = refl
parted true false false c e = refl

refused_some : (set : RegexUnsupportedPatterns) (all ks : List Kind) → list_any (is_refused set all) ks ≡ (list_any (is_refused_alone set) ks || (set.duplicate_named_capture_groups && list_any (λ k. is_name_twice all (name_of k)) ks))
refused_some set all [] = sym (and-false set.duplicate_named_capture_groups)
refused_some set all (k ∷ ks) =
    ap (λ b. b || list_any (is_refused set all) ks) (refused_one set all k) ∙ ap (λ b. (is_refused_alone set k || (set.duplicate_named_capture_groups && is_name_twice all (name_of k))) || b) (refused_some set all ks)
    ∙ parted set.duplicate_named_capture_groups (is_refused_alone set k) (is_name_twice all (name_of k)) _ _

-- of nodes that the code holds, as far as it is known
pub refused_is : (set : RegexUnsupportedPatterns) (ks : List Kind) (nodes items : List RegExpAstKind) (found alone duplicates : Bool) → map mirror_kind nodes ≡ ks → items ≡ nodes → found ≡ list_any (is_refused_alone set) (map mirror_kind items)
    → found ≡ alone → set.duplicate_named_capture_groups ≡ duplicates → is_refused_pattern set ks ≡ (alone || (duplicates && has_equal_names (map mirror_kind items)))
refused_is set ks nodes items found alone duplicates listed same is looked known =
    let js = map mirror_kind items in
    ap (is_refused_pattern set) (sym (ap (λ ns. map mirror_kind ns) same ∙ listed)) ∙ refused_some set js js
    ∙ ap (λ b. b || (set.duplicate_named_capture_groups && has_equal_names js)) (sym is ∙ looked) ∙ ap (λ b. alone || (b && has_equal_names js)) known

pub any_mapped : {X : Type 0} (p : Kind → Bool) (f : X → Kind) (xs : List X) → list_any (λ x. p (f x)) xs ≡ list_any p (map f xs)
any_mapped p f [] = refl
any_mapped p f (x ∷ xs) = ap (λ b. p (f x) || b) (any_mapped p f xs)
