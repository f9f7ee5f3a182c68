-- Where no token stands that obeys by itself.
use Rattle.std.proofs.Common.{◌≡◌, ap, sym, ◌∙◌, subst, ℕ, Option, Some, None, List, [], ◌∷◌, ◌++◌, length}
use Rattle.std.specs.Prelude.{All}
use Rattle.std.proofs.lemmas.List.Elements.{All-head, All-tail}
use Rattle.rx_ast.specs.declared.term.Pattern.{Pattern}
use Rattle.rx_units.specs.declared.code_point.CodePoint.{CodePoint}
use Rattle.rx_units.proofs.Choices.{Some-inj}
use Rattle.rx_model.specs.declared.mode.Mode.{Mode}
use Rattle.rx_model.specs.Trees.Early.{Obeys}
use Rattle.rx_model.specs.Trees.Events.{tokens}
use Rattle.rx_model.specs.Reading.Fronts.{front}
use Rattle.rx_model.specs.Trees.Names.{groups}
use Rattle.rx_model.specs.Refusals.Reached.{AreObeying, text_environment, text_groups, text_names}
use Rattle.rx_model.specs.Reading.Reading.{Reads}
use Rattle.rx_model.specs.Reading.Rows.{TokenRow}
use Rattle.rx_model.specs.Trees.Token.{Token}
use Rattle.rx_model.specs.declared.rules.Rules.{Rules}
use Rattle.rx_model.proofs.Reading.Fronts.{spelled_front}
use Rattle.rx_model.proofs.FirstPass.OwnGroups.{tells_groups}

-- No token that obeys stands next.
abbrev pub IsBlocked : Mode → Rules → List CodePoint → List CodePoint → Type 0
IsBlocked mode rules us rest = (t : Token) (n : ℕ) → front (text_environment mode rules us) rest ≡ Some (t, n) → Obeys (text_groups mode us) (text_names mode us) t → ⊥

abbrev pub next : Token → ℕ → Option (Token × ℕ)
next t n = Some (t, n)

-- one token stands next
pub same_token : (s t : Token) (n k : ℕ) → next s n ≡ next t k → s ≡ t
same_token s t n k h = ap (λ x. x.0) (Some-inj h)

pub blocked_none : (mode : Mode) (rules : Rules) (us rest : List CodePoint) → front (text_environment mode rules us) rest ≡ None → IsBlocked mode rules us rest
blocked_none mode rules us rest e t n f o = let no : ⊥ = cc (e, f) in no

pub blocked_token : (mode : Mode) (rules : Rules) (us rest : List CodePoint) (t : Token) (n : ℕ) → front (text_environment mode rules us) rest ≡ Some (t, n) → (Obeys (text_groups mode us) (text_names mode us) t → ⊥) → IsBlocked mode rules us rest
blocked_token mode rules us rest t n e not s k f o = not (subst (Obeys (text_groups mode us) (text_names mode us)) (sym (same_token t s n k (sym e ∙ f))) o)

-- nor does any row of such tokens go on from there
pub none_goes_on : (mode : Mode) (rules : Rules) (us rest back : List CodePoint) → IsBlocked mode rules us rest → (t : Token) (xs : List Token) → TokenRow (text_environment mode rules us) (t ∷ xs) rest back → AreObeying mode us (t ∷ xs) → ⊥
none_goes_on mode rules us rest back blocked t xs r o =
    blocked t (length r.0) (ap (front (text_environment mode rules us)) r.2 ∙ spelled_front (text_environment mode rules us) t r.0 r.1 r.3)
    (All-head (Obeys (text_groups mode us) (text_names mode us)) t xs o)

-- what holds of all holds of the last
pub last_all : {A : Type 0} (P : A → Type 0) (xs ys : List A) → All P (xs ++ ys) → All P ys
last_all P [] ys h = h
last_all P (x ∷ xs) ys h = last_all P xs ys (All-tail P x (xs ++ ys) h)

-- what the tokens of a tree that the text reads as obey by themselves
pub tree_obeys : (mode : Mode) (rules : Rules) (us : List CodePoint) (p : Pattern) → Reads mode rules p us → AreObeying mode us (tokens p)
tree_obeys mode rules us p r =
    let t = tells_groups mode rules p us r.spelled in
    subst (λ count. All (Obeys count (text_names mode us)) (tokens p)) (sym t.groups_are)
    (subst (λ found. All (Obeys (groups p) found) (tokens p)) (sym t.names_are) r.early.tokens_obey)
