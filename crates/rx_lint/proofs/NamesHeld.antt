-- The set of the names that references have.
use Rattle.std.proofs.Common.{◌≡◌, refl, ap, sym, ◌∙◌, subst, ℕ, Bool, true, false, cond, ◌||◌, List, [], ◌∷◌, ◌++◌, Bor}
use Rattle.std.specs.BTreeSet.{BTreeSet, contains, UpdatesBy}
use Rattle.std.specs.List.{list_any}
use Rattle.std.specs.Str.{bytes_eq, chars, IsUtf8}
use Rattle.std.proofs.Math.Bool.{or-false}
use Rattle.std.proofs.lemmas.Bool.Decides.{same_from_decides}
use Rattle.std.proofs.lemmas.List.Folds.{list_any-append}
use Rattle.std.proofs.lemmas.Map.Text.{is_eq-slice_cmp}
use Rattle.std.proofs.lemmas.Slice.Eq.{bytes_eq-Decides}
use Rattle.rx_base.proofs.Texts.{one_text}
use Rattle.rx_ast.specs.declared.ast_kind.RegExpAstKind.{RegExpAstKind}
use Rattle.rx_ast.specs.declared.ast_kind.RegExpAstKind.TheVariants as to
use Rattle.rx_ast.specs.declared.leaf.NamedReference.{NamedReference}
use Rattle.rx_ast.specs.Kinds.{Kind}
use Rattle.rx_ast.specs.MirrorKinds.{mirror_kind}
use Rattle.rx_lint.specs.Names.{HasNames, text_cmp}
use Rattle.rx_lint.specs.Rules.{refers_to}
use Rattle.rx_lint.proofs.Sets.{either}

-- Texts are equal where their characters are.
same_texts : (a b : List ℕ) → IsUtf8 a → IsUtf8 b → bytes_eq a b ≡ bytes_eq (chars a) (chars b)
same_texts a b first second =
    let decided = bytes_eq-Decides (chars a) (chars b) in
    same_from_decides _ _ (bytes_eq-Decides a b) (λ equal. one_text first second (decided.0 equal), λ same. decided.1 (ap chars same))

one_more : (p : Kind → Bool) (ks : List Kind) (k : Kind) → list_any p (ks ++ (k ∷ [])) ≡ (list_any p ks || p k)
one_more p ks k = list_any-append p ks (k ∷ []) ∙ ap (λ b. list_any p ks || b) (or-false (p k))

-- a reference more
pub reference_more : {names later : BTreeSet (Bor (List ℕ))} {ks more : List Kind} (n : RegExpAstKind) (r : Bor NamedReference) (new : Bor (List ℕ)) → more ≡ ks ++ (mirror_kind n ∷ []) → n ≡ to.NamedReference r → chars new.now ≡ r.now.name → IsUtf8 new.now →
    UpdatesBy text_cmp (text_cmp new) names later true → HasNames names ks → HasNames later more
reference_more {names} {later} {ks} n r new grown is named text updates so_far = subst (HasNames later) (sym grown) (record {
  found = λ q valid.
      let p = refers_to (chars q.now) in
      updates.0 q ∙ ap (λ b. cond b true (contains text_cmp names q)) (is_eq-slice_cmp new.now q.now ∙ same_texts new.now q.now text valid ∙ ap (λ name. bytes_eq name (chars q.now)) named ∙ ap p (sym (ap mirror_kind is)))
      ∙ either (p (mirror_kind n)) (contains text_cmp names q) ∙ ap (λ b. b || p (mirror_kind n)) (so_far.found q valid) ∙ sym (one_more p ks (mirror_kind n));
})

no_reference : (name : List ℕ) (n : RegExpAstKind) → ((r : Bor NamedReference) → n ≡ to.NamedReference r → ⊥) → refers_to name (mirror_kind n) ≡ false
no_reference name (to.NamedReference r) other = absurd (other r refl)
no_reference name _ other = refl

-- another node more
pub other_more : {names : BTreeSet (Bor (List ℕ))} {ks more : List Kind} (n : RegExpAstKind) → more ≡ ks ++ (mirror_kind n ∷ []) → ((r : Bor NamedReference) → n ≡ to.NamedReference r → ⊥) → HasNames names ks → HasNames names more
other_more {names} {ks} n grown other so_far = subst (HasNames names) (sym grown) (record {
  found = λ q valid.
      let p = refers_to (chars q.now) in
      so_far.found q valid ∙ sym (one_more p ks (mirror_kind n) ∙ ap (λ b. list_any p ks || b) (no_reference (chars q.now) n other) ∙ or-false (list_any p ks));
})
