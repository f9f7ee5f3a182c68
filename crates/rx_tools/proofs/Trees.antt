-- Terms and alternatives in order: their texts and their sizes.
use Rattle.std.proofs.Common.{◌≡◌, refl, ap, ◌∙◌, ℕ, suc, ◌+◌, ◌<◌, ◌≤◌, false, List, [], ◌++◌, length, drop, get_or, add-one, codes, map}
use Rattle.std.proofs.Math.Seq.{drop-cons}
use Rattle.std.proofs.lemmas.List.{drop_all}
use Rattle.rx_ast.specs.declared.term.Alternative.{Alternative}
use Rattle.rx_ast.specs.declared.term.Term.{Term}
use Rattle.rx_ast.specs.Tree.{Alternatives, Node, no_alternative, alternative, alternatives, nodes, mirror_term, mirror_alternative}
use Rattle.rx_ast.proofs.Equations.{alternative_is}
use Rattle.rx_model.specs.declared.mode.Mode.{Mode}
use Rattle.rx_model.specs.Spelling.Spelling.{nodes_text, alternatives_text, barred_text}

-- what is said of a term of a variant whose mirror is known
pub of_term : {A : Type 0} (said : Node → A) {t variant : Term} {n : Node} → t ≡ variant → mirror_term variant ≡ n → said (mirror_term t) ≡ said n
of_term said is mirrored = ap (λ x. said (mirror_term x)) is ∙ ap said mirrored

-- alternatives, the first after this text and each other one after a bar
abbrev pub alternatives_after : Mode → List ℕ → Alternatives → List ℕ
alternatives_after mode before no_alternative = []
alternatives_after mode before (alternative s ns more) = before ++ (nodes_text mode false ns ++ barred_text mode more)

pub after_nothing : (mode : Mode) (more : Alternatives) → alternatives_text mode more ≡ alternatives_after mode [] more
after_nothing mode no_alternative = refl
after_nothing mode (alternative s ns more) = refl

after_bar : (mode : Mode) (more : Alternatives) → barred_text mode more ≡ alternatives_after mode (codes "|") more
after_bar mode no_alternative = refl
after_bar mode (alternative s ns more) = refl

pub alternatives_next : (mode : Mode) (before : List ℕ) (as' : List Alternative) (i : ℕ) (a : Alternative) → i < length as' → a ≡ get_or as' i a →
    alternatives_after mode before (alternatives (map mirror_alternative (drop i as'))) ≡
    before ++ (nodes_text mode false (nodes (map mirror_term a.body)) ++ alternatives_after mode (codes "|") (alternatives (map mirror_alternative (drop (i + 1) as'))))
alternatives_next mode before as' i a h e =
    rw (add-one, drop-cons as' i a, ← e, alternative_is a)
    (ap (λ rest. before ++ (nodes_text mode false (nodes (map mirror_term a.body)) ++ rest)) (after_bar mode (alternatives (map mirror_alternative (drop (suc i) as')))))

pub alternatives_none : (mode : Mode) (before : List ℕ) (as' : List Alternative) (i : ℕ) → length as' ≤ i → alternatives_after mode before (alternatives (map mirror_alternative (drop i as'))) ≡ []
alternatives_none mode before as' i h = rw (drop_all i as') refl
