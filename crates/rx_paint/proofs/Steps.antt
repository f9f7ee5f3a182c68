-- The edges that are to come after a node is opened.
use Rattle.std.proofs.Common.{◌≡◌, refl, ap, sym, ◌∙◌, ℕ, ◌+◌, ◌*◌, ◌<◌, arith, Option, Some, None, List, [], ◌∷◌, ◌++◌, append_assoc, length}
use Rattle.std.specs.List.{flat_map}
use Rattle.std.specs.Option.{option_map}
use Rattle.std.proofs.lemmas.List.{length-append, reverse-append}
use Rattle.std.proofs.lemmas.List.Sums.{sum_by-append}
use Rattle.rx_base.specs.declared.span.Span.{Span}
use Rattle.rx_ast.specs.declared.leaf.Modifiers.{Modifiers}
use Rattle.rx_ast.specs.Kinds as kinds
use Rattle.rx_ast.specs.Kinds.{kind_span, children, order}
use Rattle.rx_ast.proofs.Orders.{order_is}
use Rattle.rx_visit.specs.Siblings.{in_order}
use Rattle.rx_visit.specs.declared.siblings.Siblings.{Siblings}
use Rattle.rx_visit.specs.declared.siblings.Siblings.TheVariants as are
use Rattle.rx_ast.specs.MirrorKinds.{mirror_kind}
use Rattle.rx_ast.specs.declared.ast_kind.RegExpAstKind.{RegExpAstKind}
use Rattle.rx_paint.specs.declared.token.Kind.{Kind}
use Rattle.rx_paint.specs.declared.token.Kind.TheVariants as paints
use Rattle.rx_paint.specs.declared.token.Token.{Token}
use Rattle.rx_paint.specs.declared.step.Step.{Step}
use Rattle.rx_paint.specs.declared.step.Step.TheVariants as steps
use Rattle.rx_paint.specs.Steps.{edges_to_come, step_edges, weight, step_weight}
use Rattle.rx_ast.specs.Forest.{Forest, nothing}
use Rattle.rx_ast.specs.Parts.{modifiers_forest, modifiers_in}
use Rattle.rx_paint.specs.Paints.{token_of, own_paint, part_token, token_forest, token_forest_of_all}
use Rattle.rx_paint.specs.Edges.{Edge, edges}
use Rattle.rx_paint.proofs.Parts.{node_forest_as, forest_is, edges_all}

pub come_last : (left : List Step) (s : Step) → edges_to_come (left ++ (s ∷ [])) ≡ step_edges s ++ edges_to_come left
unfolding edges_to_come
come_last left s = rw (reverse-append left (s ∷ [])) refl

pub weight_last : (left : List Step) (s : Step) → weight (left ++ (s ∷ [])) ≡ weight left + step_weight s
unfolding weight
weight_last left s =
    let both = sum_by-append step_weight left (s ∷ []) in
    omega arith

pub clear_edges : (before after : List Step) (k : kinds.Kind) (s : Siblings) (parent : Token) → own_paint k ≡ None → in_order s ≡ children k → after ≡ before ++ (steps.Visit s parent ∷ []) → edges_to_come after ≡ edges parent (token_forest k nothing) ++ edges_to_come before
clear_edges before after k s parent clear in_it pushed =
    ap edges_to_come pushed ∙ come_last before (steps.Visit s parent) ∙ ap (λ ks. edges parent (token_forest_of_all ks nothing) ++ edges_to_come before) in_it ∙ ap (λ f. edges parent f ++ edges_to_come before) (sym (forest_is k nothing ∙ ap (λ o. node_forest_as k o nothing) clear))

-- with no modifiers
plain_edges : (m : Option Modifiers) (f : Forest Token) → option_map (λ m. m.span) m ≡ None → modifiers_forest part_token m f ≡ f
plain_edges None f none = refl
plain_edges (Some m) f none = cc

modified_edges : (m : Option Modifiers) (s : Span) (own : Token) (f : Forest Token) → option_map (λ m. m.span) m ≡ Some s → edges own (modifiers_forest part_token m f) ≡ (s.start, token_of s paints.Modifier) ∷ (s.end, own) ∷ edges own f
modified_edges None s own f some = cc
modified_edges (Some m) s own f some = let is : m.span ≡ s = cc in ap (λ s. (s.start, token_of s paints.Modifier) ∷ (s.end, own) ∷ edges own f) is

-- what a node's own edges are
own_edges : (k : kinds.Kind) (c : Kind) (parent : Token) → own_paint k ≡ Some c → let own = token_of (kind_span k) c in edges parent (token_forest k nothing) ≡ (own.span.start, own) ∷ (edges own (modifiers_forest part_token (modifiers_in k) (token_forest_of_all (children k) nothing)) ++ ((own.span.end, parent) ∷ []))
own_edges k c parent is = ap (edges parent) (forest_is k nothing ∙ ap (λ o. node_forest_as k o nothing) is)

edges_after : (es : List Edge) (e : Edge) (rest : List Edge) → es ++ (e ∷ rest) ≡ (es ++ (e ∷ [])) ++ rest
edges_after es e rest = sym (append_assoc es (e ∷ []) rest)

pub plain_node_edges : (before one two three : List Step) (k : kinds.Kind) (c : Kind) (s : Siblings) (span : Span) (parent own : Token) → own_paint k ≡ Some c → span ≡ kind_span k → own ≡ token_of span c → option_map (λ m. m.span) (modifiers_in k) ≡ None → in_order s ≡ children k →
    one ≡ before ++ (steps.Turn span.end parent ∷ []) → two ≡ one ++ (steps.Visit s own ∷ []) → three ≡ two ++ (steps.Turn span.start own ∷ []) →
    edges_to_come three ≡ edges parent (token_forest k nothing) ++ edges_to_come before
plain_node_edges before one two three k c s span parent own paint place made plain in_it first second third =
    let own' = token_of (kind_span k) c in
    let is : own ≡ own' = made ∙ ap (λ s. token_of s c) place in
    let come : edges_to_come three ≡ (span.start, own) ∷ (edges own (token_forest_of_all (in_order s) nothing) ++ ((span.end, parent) ∷ edges_to_come before)) =
    ap edges_to_come third ∙ come_last two _ ∙ ap (λ es. (span.start, own) ∷ es) (ap edges_to_come second ∙ come_last one _ ∙ ap (λ es. edges own (token_forest_of_all (in_order s) nothing) ++ es) (ap edges_to_come first ∙ come_last before _)) in
    come ∙ ap (λ ks. (span.start, own) ∷ (edges own (token_forest_of_all ks nothing) ++ ((span.end, parent) ∷ edges_to_come before))) in_it ∙ ap (λ o. (span.start, o) ∷ (edges o (token_forest_of_all (children k) nothing) ++ ((span.end, parent) ∷ edges_to_come before))) is
    ∙ ap (λ (s : Span). (s.start, own') ∷ (edges own' (token_forest_of_all (children k) nothing) ++ ((s.end, parent) ∷ edges_to_come before))) place
    ∙ ap (λ f. ((kind_span k).start, own') ∷ (edges own' f ++ (((kind_span k).end, parent) ∷ edges_to_come before))) (sym (plain_edges (modifiers_in k) (token_forest_of_all (children k) nothing) plain))
    ∙ ap (λ es. ((kind_span k).start, own') ∷ es) (edges_after _ _ (edges_to_come before))
    ∙ ap (λ es. es ++ edges_to_come before) (sym (own_edges k c parent paint))

pub modified_node_edges : (before one two three four five : List Step) (k : kinds.Kind) (c : Kind) (s : Siblings) (span within : Span) (parent own other : Token) → own_paint k ≡ Some c → span ≡ kind_span k → own ≡ token_of span c → other ≡ token_of within paints.Modifier → option_map (λ m. m.span) (modifiers_in k) ≡ Some within → in_order s ≡ children k →
    one ≡ before ++ (steps.Turn span.end parent ∷ []) → two ≡ one ++ (steps.Visit s own ∷ []) → three ≡ two ++ (steps.Turn within.end own ∷ []) → four ≡ three ++ (steps.Turn within.start other ∷ []) → five ≡ four ++ (steps.Turn span.start own ∷ []) →
    edges_to_come five ≡ edges parent (token_forest k nothing) ++ edges_to_come before
modified_node_edges before one two three four five k c s span within parent own other paint place made made_other some in_it first second third fourth fifth =
    let own' = token_of (kind_span k) c in
    let is : own ≡ own' = made ∙ ap (λ s. token_of s c) place in
    let inner = token_forest_of_all (children k) nothing in
    let come : edges_to_come five ≡ (span.start, own) ∷ (within.start, other) ∷ (within.end, own) ∷ (edges own (token_forest_of_all (in_order s) nothing) ++ ((span.end, parent) ∷ edges_to_come before)) =
    ap edges_to_come fifth ∙ come_last four _ ∙ ap (λ es. (span.start, own) ∷ es) (ap edges_to_come fourth ∙ come_last three _ ∙ ap (λ es. (within.start, other) ∷ es) (ap edges_to_come third ∙ come_last two _ ∙ ap (λ es. (within.end, own) ∷ es) (ap edges_to_come second ∙ come_last one _ ∙ ap (λ es. edges own (token_forest_of_all (in_order s) nothing) ++ es) (ap edges_to_come first ∙ come_last before _)))) in
    come ∙ ap (λ ks. (span.start, own) ∷ (within.start, other) ∷ (within.end, own) ∷ (edges own (token_forest_of_all ks nothing) ++ ((span.end, parent) ∷ edges_to_come before))) in_it
    ∙ ap (λ m. (span.start, own) ∷ (within.start, m) ∷ (within.end, own) ∷ (edges own inner ++ ((span.end, parent) ∷ edges_to_come before))) made_other
    ∙ ap (λ o. (span.start, o) ∷ (within.start, token_of within paints.Modifier) ∷ (within.end, o) ∷ (edges o inner ++ ((span.end, parent) ∷ edges_to_come before))) is
    ∙ ap (λ (s : Span). (s.start, own') ∷ (within.start, token_of within paints.Modifier) ∷ (within.end, own') ∷ (edges own' inner ++ ((s.end, parent) ∷ edges_to_come before))) place
    ∙ ap (λ es. ((kind_span k).start, own') ∷ (es ++ (((kind_span k).end, parent) ∷ edges_to_come before))) (sym (modified_edges (modifiers_in k) within own' inner some))
    ∙ ap (λ es. ((kind_span k).start, own') ∷ es) (edges_after _ _ (edges_to_come before))
    ∙ ap (λ es. es ++ edges_to_come before) (sym (own_edges k c parent paint))

-- The steps after a node is opened weigh less than what its order weighs.
visit_weight : (k : kinds.Kind) (s : Siblings) (own : Token) → in_order s ≡ children k → step_weight (steps.Visit s own) + 6 ≡ 7 * length (order k)
visit_weight k s own in_it =
    let a = ap (λ ks. length (flat_map order ks)) in_it in
    let b = ap length (order_is k) in
    omega arith

weight_more : (before after : List Step) (s : Step) → after ≡ before ++ (s ∷ []) → weight after ≡ weight before + step_weight s
weight_more before after s pushed = ap weight pushed ∙ weight_last before s

pub clear_weight : (before after : List Step) (k : kinds.Kind) (s : Siblings) (parent : Token) → in_order s ≡ children k → after ≡ before ++ (steps.Visit s parent ∷ []) → weight after < weight before + 7 * length (order k)
clear_weight before after k s parent in_it pushed =
    let a = weight_more before after _ pushed in
    let b = visit_weight k s parent in_it in
    omega arith

pub plain_node_weight : (before one two three : List Step) (k : kinds.Kind) (s : Siblings) (o1 o2 o3 : Token) (a1 a3 : ℕ) → in_order s ≡ children k →
    one ≡ before ++ (steps.Turn a1 o1 ∷ []) → two ≡ one ++ (steps.Visit s o2 ∷ []) → three ≡ two ++ (steps.Turn a3 o3 ∷ []) → weight three < weight before + 7 * length (order k)
plain_node_weight before one two three k s o1 o2 o3 a1 a3 in_it first second third =
    let a = weight_more before one _ first in
    let b = weight_more one two _ second in
    let c = weight_more two three _ third in
    let v = visit_weight k s o2 in_it in
    omega arith

pub modified_node_weight : (before one two three four five : List Step) (k : kinds.Kind) (s : Siblings) (o1 o2 o3 o4 o5 : Token) (a1 a3 a4 a5 : ℕ) → in_order s ≡ children k →
    one ≡ before ++ (steps.Turn a1 o1 ∷ []) → two ≡ one ++ (steps.Visit s o2 ∷ []) → three ≡ two ++ (steps.Turn a3 o3 ∷ []) → four ≡ three ++ (steps.Turn a4 o4 ∷ []) → five ≡ four ++ (steps.Turn a5 o5 ∷ []) → weight five < weight before + 7 * length (order k)
modified_node_weight before one two three four five k s o1 o2 o3 o4 o5 a1 a3 a4 a5 in_it first second third fourth fifth =
    let a = weight_more before one _ first in
    let b = weight_more one two _ second in
    let c = weight_more two three _ third in
    let d = weight_more three four _ fourth in
    let e = weight_more four five _ fifth in
    let v = visit_weight k s o2 in_it in
    omega arith

-- The loop: a turn is done; siblings are cut, and the first is opened.
pub turn_edges : (before left : List Step) (at : ℕ) (own : Token) → before ≡ left ++ (steps.Turn at own ∷ []) → edges_to_come before ≡ (at, own) ∷ edges_to_come left
turn_edges before left at own popped = ap edges_to_come popped ∙ come_last left _

pub turn_weight : (before left : List Step) (at : ℕ) (own : Token) → before ≡ left ++ (steps.Turn at own ∷ []) → weight left < weight before
turn_weight before left at own popped = let a = weight_more left before _ popped in omega arith

pub none_edges : (before left : List Step) (s : Siblings) (own : Token) → before ≡ left ++ (steps.Visit s own ∷ []) → in_order s ≡ [] → edges_to_come before ≡ edges_to_come left
none_edges before left s own popped none = ap edges_to_come popped ∙ come_last left _ ∙ ap (λ ks. edges own (token_forest_of_all ks nothing) ++ edges_to_come left) none

pub none_weight : (before left : List Step) (s : Siblings) (own : Token) → before ≡ left ++ (steps.Visit s own ∷ []) → weight left < weight before
none_weight before left s own popped = let a = weight_more left before _ popped in omega arith

pub next_edges : (before left one both : List Step) (s after : Siblings) (k : kinds.Kind) (own : Token) → before ≡ left ++ (steps.Visit s own ∷ []) → in_order s ≡ k ∷ in_order after → one ≡ left ++ (steps.Visit after own ∷ []) → edges_to_come both ≡ edges own (token_forest k nothing) ++ edges_to_come one → edges_to_come before ≡ edges_to_come both
next_edges before left one both s after k own popped each_from_cut pushed opened =
    ap edges_to_come popped ∙ come_last left _ ∙ ap (λ ks. edges own (token_forest_of_all ks nothing) ++ edges_to_come left) each_from_cut ∙ ap (λ es. es ++ edges_to_come left) (edges_all (k ∷ []) (token_forest_of_all (in_order after) nothing) own)
    ∙ append_assoc (edges own (token_forest k nothing)) (edges own (token_forest_of_all (in_order after) nothing)) (edges_to_come left) ∙ ap (λ es. edges own (token_forest k nothing) ++ es) (sym (ap edges_to_come pushed ∙ come_last left _)) ∙ sym opened

pub next_weight : (before left one both : List Step) (s after : Siblings) (k : kinds.Kind) (own : Token) → before ≡ left ++ (steps.Visit s own ∷ []) → in_order s ≡ k ∷ in_order after → one ≡ left ++ (steps.Visit after own ∷ []) → weight both < weight one + 7 * length (order k) → weight both < weight before
next_weight before left one both s after k own popped each_from_cut pushed lighter =
    let a = weight_more left before _ popped in
    let b = weight_more left one _ pushed in
    let c : length (flat_map order (in_order s)) ≡ length (order k) + length (flat_map order (in_order after)) = ap (λ ks. length (flat_map order ks)) each_from_cut ∙ length-append (order k) (flat_map order (in_order after)) in
    omega arith

pub none_to_come : edges_to_come [] ≡ []
unfolding edges_to_come
none_to_come = refl

pub first_edges : (before one two : List Step) (node : RegExpAstKind) (root : Token) (end : ℕ) → before ≡ [] → one ≡ before ++ (steps.Turn end root ∷ []) → two ≡ one ++ (steps.Visit (are.Node node) root ∷ []) → edges_to_come two ≡ edges root (token_forest (mirror_kind node) nothing) ++ ((end, root) ∷ [])
first_edges before one two node root end none first second =
    ap edges_to_come second ∙ come_last one _ ∙ ap (λ es. edges root (token_forest (mirror_kind node) nothing) ++ es) (ap edges_to_come first ∙ come_last before _ ∙ ap (λ es. (end, root) ∷ es) (ap edges_to_come none ∙ none_to_come))
