-- The canonical spelling of a pattern is read back.
use Rattle.std.proofs.Common.{◌≡◌, ◌≢◌, ℕ, ◌≤◌, Bool, true, false, refl, ap, sym, ◌∙◌, subst, List, [], ◌∷◌}
use Rattle.std.specs.List.{All}
use Rattle.std.proofs.lemmas.List.Elements.{All-nil, All-cons, All-head, All-tail}
use Rattle.rx_ast.specs.declared.term.Pattern.{Pattern}
use Rattle.rx_ast.specs.Forget.{forget_alternatives, no_kind, bare}
use Rattle.rx_ast.specs.Tree.{Alternatives, mirror_disjunction}
use Rattle.rx_units.specs.declared.code_point.CodePoint.{CodePoint}
use Rattle.rx_units.specs.Units.{literal_units}
use Rattle.rx_model.specs.declared.mode.Mode.{Mode}
use Rattle.rx_model.specs.Trees.Early.{Obeys, IsEarly, most_groups}
use Rattle.rx_model.specs.Inputs.Environment.{is_unicode, environment, environment_with, has_some}
use Rattle.rx_model.specs.Inputs.Texts.{literal_text}
use Rattle.rx_model.specs.Trees.Events.{tokens, alternatives_events}
use Rattle.rx_model.specs.Trees.Names.{groups, names, alternatives_groups, alternatives_names, once_after, AreDistinct, AreNamesEarly}
use Rattle.rx_model.specs.Spelling.ReadBack.{FitIn, IsReadBack}
use Rattle.rx_model.specs.Reading.Reading.{Reads}
use Rattle.rx_model.specs.Reading.Rows.{TokenRow}
use Rattle.rx_model.specs.Trees.Shapes.{HasAlternatives, IsWellMade}
use Rattle.rx_model.specs.Spelling.Spelling.{spelling}
use Rattle.rx_model.specs.Trees.Token.{Token, boundary, character, dot, class_escape, property, class}
use Rattle.rx_model.specs.declared.rules.Rules.{Rules}
use Rattle.rx_model.proofs.Spelling.Again.{again_alternatives, bare_alternatives, alternatives_again, made_alternatives, same_groups, same_names, apart_alternatives}
use Rattle.rx_model.proofs.Spelling.AgainTrees.{disjunction_made}
use Rattle.rx_model.proofs.Spelling.BackRows.{again_token, again_tokens, tokens_again}
use Rattle.rx_model.proofs.Spelling.ClassAgain.{early_class}
use Rattle.rx_model.proofs.Trees.Flat.{before, tokens_are}
use Rattle.rx_model.proofs.Spelling.Known.{AreKnown, are_known, has_tokens}
use Rattle.rx_model.proofs.Spelling.OneLines.{some_tokens}
use Rattle.rx_model.proofs.Trees.Runs.{pattern_runs}
use Rattle.rx_model.proofs.Spelling.TokenTexts.{token_refers, tokens_text, spelled_by_tokens}

-- a text that is not empty is the text of a literal
literal_text_same : (text : List ℕ) → text ≢ [] → literal_text text ≡ text
literal_text_same [] h = absurd (h refl)
literal_text_same (c ∷ text) h = refl

-- a token obeys whatever its kind
module _ (mode : Mode) (count : ℕ) (names : List (List ℕ)) where
  token_obeys : (r : Bool) (t : Token) → Obeys count names t → Obeys count names (again_token mode r t)
  token_obeys r (boundary kind) h = h
  token_obeys r (character kind value) h = h
  token_obeys r dot h = h
  token_obeys r (class_escape kind) h = h
  token_obeys r (property negative strings name value) h = h
  token_obeys r (class c) h = early_class mode c h
  token_obeys r q h = h

  tokens_obey : (r : Bool) (ts : List Token) → All (Obeys count names) ts → All (Obeys count names) (again_tokens mode r ts)
  tokens_obey r [] h = All-nil (Obeys count names)
  tokens_obey r (t ∷ ts) h =
      All-cons (Obeys count names) (again_token mode r t) (again_tokens mode (token_refers t) ts) (token_obeys r t (All-head (Obeys count names) t ts h))
      (tokens_obey (token_refers t) ts (All-tail (Obeys count names) t ts h))

-- its groups keep the early rule on names
names_early : (mode : Mode) (duplicate_names : Bool) (more : Alternatives) → AreNamesEarly duplicate_names more → AreNamesEarly duplicate_names (again_alternatives mode more)
names_early mode true more h = apart_alternatives mode more h
names_early mode false more h = subst AreDistinct (sym (same_names mode more)) h

module _ (mode : Mode) (rules : Rules) (p : Pattern) where
  again : Pattern
  again = record { span = p.span; body = (disjunction_made mode p.body).0 }

  its_tree : (mirror_disjunction again.body).1 ≡ again_alternatives mode (mirror_disjunction p.body).1
  unfolding again
  its_tree = ap (λ it. it.1) (disjunction_made mode p.body).1

  its_bare : bare again ≡ bare p
  its_bare = ap (forget_alternatives no_kind) its_tree ∙ bare_alternatives mode (mirror_disjunction p.body).1

  its_tokens : tokens again ≡ again_tokens mode false (tokens p)
  its_tokens =
      tokens_are again ∙ ap (λ more. before (alternatives_events more) []) its_tree
      ∙ (alternatives_again mode (mirror_disjunction p.body).1).1 [] ∙ sym (ap (again_tokens mode false) (tokens_are p))

  its_groups : groups again ≡ groups p
  its_groups = ap (λ more. alternatives_groups more) its_tree ∙ same_groups mode (mirror_disjunction p.body).1

  its_names : names again ≡ names p
  its_names = ap (λ more. once_after [] (alternatives_names more)) its_tree ∙ ap (once_after []) (same_names mode (mirror_disjunction p.body).1)

  its_environment : environment mode rules again ≡ environment mode rules p
  its_environment =
      ap (λ k. environment_with mode rules.buffer_boundaries k (has_some (names again))) its_groups ∙ ap (λ ns. environment_with mode rules.buffer_boundaries (groups p) (has_some ns)) its_names

  its_early : IsEarly rules p → IsEarly rules again
  its_early h = record {
    tokens_obey =
        subst (λ ts. All (Obeys (groups again) (names again)) ts) (sym its_tokens)
        (subst (λ k. All (Obeys k (names again)) (again_tokens mode false (tokens p))) (sym its_groups)
        (subst (λ ns. All (Obeys (groups p) ns) (again_tokens mode false (tokens p))) (sym its_names)
        (tokens_obey mode (groups p) (names p) false (tokens p) h.tokens_obey)));
    apart = subst (AreNamesEarly rules.duplicate_names) (sym its_tree) (names_early mode rules.duplicate_names (mirror_disjunction p.body).1 h.apart);
    in_limit = subst (λ k. k ≤ most_groups) (sym its_groups) h.in_limit;
  }

  its_shape : IsWellMade mode p → IsWellMade mode again
  its_shape w = subst (HasAlternatives mode) (sym its_tree) (made_alternatives mode (mirror_disjunction p.body).1 w)

  its_row : IsEarly rules p → IsWellMade mode p → AreKnown true (environment mode rules p) (tokens p) → TokenRow (environment mode rules again) (tokens again) (literal_units (is_unicode mode) 0 (tokens_text mode false (tokens p))) []
  its_row early shape known =
      let e = environment mode rules p in
      let text = tokens_text mode false (tokens p) in
      let end = pattern_runs mode p shape in
      subst (λ d. TokenRow d (tokens again) (literal_units (is_unicode mode) 0 text) []) (sym its_environment)
      (subst (λ ts. TokenRow e ts (literal_units (is_unicode mode) 0 text) []) (sym its_tokens)
      (tokens_again e mode refl (groups p) refl early.in_limit (names p) false (tokens p) [] false ([], end.0) end.1 known early.tokens_obey 0))

-- So is that of a tree which nothing spells as it is, where each of its tokens is known.
pub known_is_read_back : (mode : Mode) (rules : Rules) (p : Pattern) → IsEarly rules p → IsWellMade mode p → AreKnown true (environment mode rules p) (tokens p) → tokens_text mode false (tokens p) ≢ [] → IsReadBack mode rules p
known_is_read_back mode rules p early shape known some =
    let units : literal_units (is_unicode mode) 0 (tokens_text mode false (tokens p)) ≡ literal_units (is_unicode mode) 0 (literal_text (spelling (bare p) mode)) =
    ap (literal_units (is_unicode mode) 0) (sym (literal_text_same (tokens_text mode false (tokens p)) some) ∙ ap literal_text (sym (spelled_by_tokens mode p))) in
    record {
      again = again mode rules p;
      same = its_bare mode rules p;
      reads = record {
        spelled = record {
          shape = its_shape mode rules p shape;
          row = subst (λ units. TokenRow (environment mode rules (again mode rules p)) (tokens (again mode rules p)) units []) units (its_row mode rules p early shape known);
        };
        early = its_early mode rules p early;
      };
    }

pub spelled_is_read_back : (mode : Mode) (rules : Rules) (p : Pattern) (us : List CodePoint) → Reads mode rules p us → FitIn mode us → us ≢ [] → IsReadBack mode rules p
spelled_is_read_back mode rules p us r fit h =
    let e = environment mode rules p in
    let known = are_known true e (tokens p) us [] (λ _. fit) r.spelled.row in
    known_is_read_back mode rules p r.early r.spelled.shape known (some_tokens e false (tokens p) (has_tokens e (tokens p) us r.spelled.row h))
