-- What is found at a place, and at the places of nodes one after another.
use Rattle.std.proofs.Common.{◌≡◌, refl, ap, sym, ◌∙◌, Bool, true, false, cond, Option, Some, List, [], ◌∷◌, ◌++◌, append_assoc, append-nil, map, filter}
use Rattle.std.specs.Prelude.{if◌then◌else◌}
use Rattle.std.specs.List.{flat_map}
use Rattle.std.proofs.lemmas.Grind.{flat_map-append}
use Rattle.std.proofs.lemmas.List.Elements.{filter_agree}
use Rattle.rx_base.specs.declared.span.Span.{Span}
use Rattle.rx_ast.specs.Kinds.{Kind, children, kind_span}
use Rattle.rx_ast.specs.Tree.{Whole}
use Rattle.rx_lint.specs.declared.earlier.Mark.{Mark}
use Rattle.rx_lint.specs.declared.finding.Finding.{Finding}
use Rattle.rx_lint.specs.declared.finding.Rule.{Rule}
use Rattle.rx_lint.specs.declared.finding.Rule.TheVariants.{EmptyClass, RepeatedMember, EmptyAlternative, RepeatedAlternative, UnusedName, UselessQuantifier}
use Rattle.rx_lint.specs.Earlier.{IsMark}
use Rattle.rx_lint.specs.Findings.{findings_at, rules}
use Rattle.rx_lint.specs.NodeFindings.{finding_if, holds_by, findings_by}
use Rattle.rx_lint.specs.Nodes.{inside, trees}
use Rattle.rx_lint.specs.Places.{places_in}
use Rattle.rx_lint.specs.Rules.{holds}
use Rattle.rx_lint.proofs.Nodes.{inside_is}

-- the findings of six rules, one after another
when_found : (h : Rule → Bool) (f : Rule → Finding) (rs : List Rule) (r : Rule) → map f (filter h (r ∷ rs)) ≡ (if h r then f r ∷ [] else []) ++ map f (filter h rs)
when_found h f rs r = elim (h r) as (λ b. map f (cond b (r ∷ filter h rs) (filter h rs)) ≡ (if b then f r ∷ [] else []) ++ map f (filter h rs)) [ true ↦ refl | false ↦ refl ]

abbrev found_of : (Rule → Bool) → Span → Rule → List Finding
found_of h s r = finding_if (h r) r s

six_found : (h : Rule → Bool) (s : Span) → map (λ rule. record { rule = rule; span = s }) (filter h rules) ≡
    found_of h s EmptyClass ++ (found_of h s RepeatedMember ++ (found_of h s EmptyAlternative ++ (found_of h s RepeatedAlternative ++ (found_of h s UnusedName ++ found_of h s UselessQuantifier))))
six_found h s =
    let f : Rule → Finding = λ rule. record { rule = rule; span = s } in
    when_found h f (RepeatedMember ∷ EmptyAlternative ∷ RepeatedAlternative ∷ UnusedName ∷ UselessQuantifier ∷ []) EmptyClass
    ∙ ap (λ x. found_of h s EmptyClass ++ x) (when_found h f (EmptyAlternative ∷ RepeatedAlternative ∷ UnusedName ∷ UselessQuantifier ∷ []) RepeatedMember
    ∙ ap (λ x. found_of h s RepeatedMember ++ x) (when_found h f (RepeatedAlternative ∷ UnusedName ∷ UselessQuantifier ∷ []) EmptyAlternative
    ∙ ap (λ x. found_of h s EmptyAlternative ++ x) (when_found h f (UnusedName ∷ UselessQuantifier ∷ []) RepeatedAlternative
    ∙ ap (λ x. found_of h s RepeatedAlternative ++ x) (when_found h f (UselessQuantifier ∷ []) UnusedName
    ∙ ap (λ x. found_of h s UnusedName ++ x) (when_found h f [] UselessQuantifier ∙ append-nil _)))))

-- The six calls of the code list what is found.
pub listed : (h : Rule → Bool) (s : Span) (a b c d e f g : List Finding) (u v w x y z : Bool) → b ≡ a ++ finding_if u EmptyClass s → c ≡ b ++ finding_if v RepeatedMember s → d ≡ c ++ finding_if w EmptyAlternative s → e ≡ d ++ finding_if x RepeatedAlternative s → f ≡ e ++ finding_if y UnusedName s → g ≡ f ++ finding_if z UselessQuantifier s →
    u ≡ h EmptyClass → v ≡ h RepeatedMember → w ≡ h EmptyAlternative → x ≡ h RepeatedAlternative → y ≡ h UnusedName → z ≡ h UselessQuantifier → g ≡ a ++ map (λ rule. record { rule = rule; span = s }) (filter h rules)
listed h s a b c d e f g u v w x y z first second third fourth fifth sixth is_u is_v is_w is_x is_y is_z =
    let last : (p q : List Finding) (r t : List Finding) → q ≡ p ++ r → q ++ t ≡ p ++ (r ++ t) = λ p q r t is. ap (λ q. q ++ t) is ∙ append_assoc p r t in
    let z' = finding_if z UselessQuantifier s in
    let y' = finding_if y UnusedName s ++ z' in
    let x' = finding_if x RepeatedAlternative s ++ y' in
    let w' = finding_if w EmptyAlternative s ++ x' in
    let v' = finding_if v RepeatedMember s ++ w' in
    sixth ∙ last e f (finding_if y UnusedName s) z' fifth ∙ last d e (finding_if x RepeatedAlternative s) y' fourth ∙ last c d (finding_if w EmptyAlternative s) x' third ∙ last b c (finding_if v RepeatedMember s) w' second ∙ last a b (finding_if u EmptyClass s) v' first
    ∙ ap (λ u. a ++ (finding_if u EmptyClass s ++ v')) is_u
    ∙ ap (λ v. a ++ (found_of h s EmptyClass ++ (finding_if v RepeatedMember s ++ w'))) is_v
    ∙ ap (λ w. a ++ (found_of h s EmptyClass ++ (found_of h s RepeatedMember ++ (finding_if w EmptyAlternative s ++ x')))) is_w
    ∙ ap (λ x. a ++ (found_of h s EmptyClass ++ (found_of h s RepeatedMember ++ (found_of h s EmptyAlternative ++ (finding_if x RepeatedAlternative s ++ y'))))) is_x
    ∙ ap (λ y. a ++ (found_of h s EmptyClass ++ (found_of h s RepeatedMember ++ (found_of h s EmptyAlternative ++ (found_of h s RepeatedAlternative ++ (finding_if y UnusedName s ++ z')))))) is_y
    ∙ ap (λ z. a ++ (found_of h s EmptyClass ++ (found_of h s RepeatedMember ++ (found_of h s EmptyAlternative ++ (found_of h s RepeatedAlternative ++ (found_of h s UnusedName ++ finding_if z UselessQuantifier s)))))) is_z
    ∙ ap (λ fs. a ++ fs) (sym (six_found h s))

-- What a mark finds is found at the place.
found_here : (p : Whole) (mark : Mark) (parent : Option Kind) (before : List Kind) (k : Kind) → IsMark mark parent before k → (r : Rule) → holds_by p mark k r ≡ holds p (record { node = k; parent = parent; before = before }) r
found_here p mark parent before k is EmptyClass = refl
found_here p mark parent before k is RepeatedMember = sym is.item
found_here p mark parent before k is EmptyAlternative = sym is.many
found_here p mark parent before k is RepeatedAlternative = sym is.equal
found_here p mark parent before k is UnusedName = refl
found_here p mark parent before k is UselessQuantifier = refl

pub found_is : (p : Whole) (mark : Mark) (parent : Option Kind) (before : List Kind) (k : Kind) → IsMark mark parent before k → findings_by p mark k ≡ findings_at p (record { node = k; parent = parent; before = before })
found_is p mark parent before k is = ap (map (λ rule. record { rule = rule; span = kind_span k })) (filter_agree (holds_by p mark k) (holds p (record { node = k; parent = parent; before = before })) (found_here p mark parent before k is) rules)

-- the findings of nodes one after another in a parent, and of all in them
abbrev pub findings_of : Whole → Option Kind → List Kind → List Kind → List Finding
findings_of p parent before ks = flat_map (findings_at p) (places_in parent before (trees ks))

-- the first node, those in it, and those after it
pub findings_cut : (p : Whole) (parent : Option Kind) (before : List Kind) (k : Kind) (ks : List Kind) →
    findings_of p parent before (k ∷ ks) ≡ findings_at p (record { node = k; parent = parent; before = before }) ++ (findings_of p (Some k) [] (children k) ++ findings_of p parent (before ++ (k ∷ [])) ks)
findings_cut p parent before k ks =
    let here = findings_at p (record { node = k; parent = parent; before = before }) in
    ap (λ fs. here ++ fs) (flat_map-append (findings_at p) (places_in (Some k) [] (inside k)) (places_in parent (before ++ (k ∷ [])) (trees ks))
    ∙ ap (λ f. flat_map (findings_at p) (places_in (Some k) [] f) ++ findings_of p parent (before ++ (k ∷ [])) ks) (inside_is k))
