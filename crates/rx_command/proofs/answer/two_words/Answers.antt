use Rattle.std.proofs.Common.{◌≡◌, ◌∙◌, refl, sym, ap, List, ℕ, [], ◌∷◌, codes}
use Rattle.std.specs.Str.{chars}
use Rattle.rx_command.specs.Constructs.{construct_name, has_construct}
use Rattle.rx_command.specs.Features.{feature_name, has_feature}
use Rattle.rx_command.proofs.Commands.{paint_not_rewrite, paint_not_support, said_with_paint, support_not_rewrite, two_say_nothing}
use Rattle.rx_command.proofs.ConstructLists.{construct_naming}
use Rattle.rx_command.proofs.FeatureLists.{feature_naming}
use Rattle.rx_command.proofs.NameLists.{list_in_bytes, list_in_chars}
use Rattle.rx_command.proofs.Plain.{plain_text, word_bytes, word_chars}
use Rattle.rx_command.proofs.answer.two_words.Goals as goal

pub returns-in_err-features-in-support : goal.returns-in_err-features-in-support
returns-in_err-features-in-support c =
    let name : chars c.args.name.now ≡ codes "support" = word_chars (codes "support") c.args.name.now (plain_text (codes "support") refl) c.in-support.is in
    rw c.from_residual.ensures (two_say_nothing (chars c.args.name.now) (chars c.args.second.now) (record {
      no_features = λ features is list. c.in_err-features-in-support.ensures features (list_in_bytes feature_name has_feature feature_naming c.args.second.now features c.utf8.second list);
      no_constructs = λ what is. absurd (support_not_rewrite (sym name ∙ is));
      no_color = λ is. absurd (paint_not_support (sym is ∙ name));
    }))

pub returns-in_ok-features-in-support : goal.returns-in_ok-features-in-support
returns-in_ok-features-in-support c = (
  chars c.args.second.now,
  ap (λ (name : List ℕ). name ∷ chars c.args.second.now ∷ []) (word_chars (codes "support") c.args.name.now (plain_text (codes "support") refl) c.in-support.is),
  list_in_chars feature_name has_feature feature_naming c.args.second.now c.in_ok-features-in-support.features c.in_ok-features-in-support.ensures,
)

pub returns-in_err-what-in-rewrite : goal.returns-in_err-what-in-rewrite
returns-in_err-what-in-rewrite c =
    let name : chars c.args.name.now ≡ codes "rewrite" = word_chars (codes "rewrite") c.args.name.now (plain_text (codes "rewrite") refl) c.in-rewrite.is in
    rw c.from_residual-in_err-what-in-rewrite.ensures (two_say_nothing (chars c.args.name.now) (chars c.args.second.now) (record {
      no_features = λ features is. absurd (support_not_rewrite (sym is ∙ name));
      no_constructs = λ what is list. c.in_err-what-in-rewrite.ensures what (list_in_bytes construct_name has_construct construct_naming c.args.second.now what c.utf8.second list);
      no_color = λ is. absurd (paint_not_rewrite (sym is ∙ name));
    }))

pub returns-in_ok-what-in-rewrite : goal.returns-in_ok-what-in-rewrite
returns-in_ok-what-in-rewrite c = (
  chars c.args.second.now,
  ap (λ (name : List ℕ). name ∷ chars c.args.second.now ∷ []) (word_chars (codes "rewrite") c.args.name.now (plain_text (codes "rewrite") refl) c.in-rewrite.is),
  list_in_chars construct_name has_construct construct_naming c.args.second.now c.in_ok-what-in-rewrite.what c.in_ok-what-in-rewrite.ensures,
)

pub returns-in-paint : goal.returns-in-paint
returns-in-paint c = said_with_paint (chars c.args.name.now) (chars c.args.second.now) c.args.second.now c.in_color.result
    (word_chars (codes "paint") c.args.name.now (plain_text (codes "paint") refl) c.in-paint.is)
    (word_chars (codes "color") c.args.second.now (plain_text (codes "color") refl))
    (word_bytes (codes "color") c.args.second.now (plain_text (codes "color") refl) c.utf8.second)
    c.in_color.ensures

pub returns-in_default : goal.returns-in_default
returns-in_default c = two_say_nothing (chars c.args.name.now) (chars c.args.second.now) (record {
  no_features = λ features is list. c.in_default.not-support (word_bytes (codes "support") c.args.name.now (plain_text (codes "support") refl) c.utf8.name is);
  no_constructs = λ what is list. c.in_default.not-rewrite (word_bytes (codes "rewrite") c.args.name.now (plain_text (codes "rewrite") refl) c.utf8.name is);
  no_color = λ is color. c.in_default.not-paint (word_bytes (codes "paint") c.args.name.now (plain_text (codes "paint") refl) c.utf8.name is);
})
