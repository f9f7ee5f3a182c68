-- Terms and alternatives as they are written one after the other.
use Rattle.std.proofs.Common.{◌≡◌, refl, ap, ◌∙◌, ℕ, suc, ◌+◌, ◌<◌, Bool, false, List, [], ◌∷◌, ◌++◌, length, drop, get_or, add-one, codes, map, Option}
use Rattle.std.specs.Prelude.{if◌then◌else◌, is_some}
use Rattle.std.proofs.Math.Seq.{drop-cons}
use Rattle.rx_ast.specs.declared.term.Alternative.{Alternative}
use Rattle.rx_ast.specs.declared.term.Term.{Term}
use Rattle.rx_ast.specs.Shown.{alternatives_shown, barred_shown, node_pair, node_shown, nodes_shown, pair_or}
use Rattle.rx_ast.specs.Size.{term_size, terms_size}
use Rattle.rx_ast.specs.Tree.{Alternatives, Node, no_alternative, alternative, alternatives, nodes, mirror_term, mirror_alternative}
use Rattle.rx_ast.proofs.Equations.{alternative_is}

-- a term of a variant whose mirror is known
pub term_shown : {t variant : Term} {n : Node} → t ≡ variant → mirror_term variant ≡ n → node_shown (mirror_term t) ≡ node_shown n
term_shown is mirrored = ap (λ x. node_shown (mirror_term x)) is ∙ ap (λ m. node_shown m) mirrored

pub terms_next : (joined : Bool) (pair : Option ℕ) (t : Term) (ts : List Term) → pair ≡ node_pair (mirror_term t) (nodes (map mirror_term ts)) →
    nodes_shown joined (nodes (map mirror_term (t ∷ ts))) ≡ (if joined then [] else pair_or pair (node_shown (mirror_term t))) ++ nodes_shown (is_some pair) (nodes (map mirror_term ts))
terms_next joined pair t ts is = rw is refl

-- alternatives, the first after this text and each other one after a bar
abbrev pub alternatives_after : List ℕ → Alternatives → List ℕ
alternatives_after before no_alternative = []
alternatives_after before (alternative s ns more) = before ++ (nodes_shown false ns ++ barred_shown more)

pub after_nothing : (more : Alternatives) → alternatives_shown more ≡ alternatives_after [] more
after_nothing no_alternative = refl
after_nothing (alternative s ns more) = refl

after_bar : (more : Alternatives) → barred_shown more ≡ alternatives_after (codes "|") more
after_bar no_alternative = refl
after_bar (alternative s ns more) = refl

pub alternatives_next : (before : List ℕ) (as' : List Alternative) (i : ℕ) (a : Alternative) → i < length as' → a ≡ get_or as' i a →
    alternatives_after before (alternatives (map mirror_alternative (drop i as'))) ≡
    before ++ (nodes_shown false (nodes (map mirror_term a.body)) ++ alternatives_after (codes "|") (alternatives (map mirror_alternative (drop (i + 1) as'))))
alternatives_next before as' i a h e =
    rw (add-one, drop-cons as' i a, ← e, alternative_is a)
    (ap (λ rest. before ++ (nodes_shown false (nodes (map mirror_term a.body)) ++ rest)) (after_bar (alternatives (map mirror_alternative (drop (suc i) as')))))

pub terms_cons : (t : Term) (ts : List Term) → terms_size (t ∷ ts) ≡ term_size t + terms_size ts
unfolding terms_size term_size
terms_cons t ts = refl
