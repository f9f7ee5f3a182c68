use Rattle.std.proofs.Common.{◌≡◌, ◌∙◌, refl, sym, ap, List, ℕ, [], ◌∷◌, codes, arith}
use Rattle.std.proofs.lemmas.Bool.{false≢true}
use Rattle.std.specs.Str.{chars}
use Rattle.rx_command.proofs.Plain.{plain_text, word_bytes, word_chars}
use Rattle.rx_command.proofs.command.three_words.Goals as goal

pub returns-then-not-is_gen : goal.returns-then-not-is_gen
returns-then-not-is_gen c = λ seed count is.
    let words = is.words_are in
    let name : chars c.args.name.now ≡ codes "gen" = cc in
    false≢true (sym c.if-not-is_gen.true ∙ c.is_gen.ensures.1 (word_bytes (codes "gen") c.args.name.now (plain_text (codes "gen") refl) c.utf8.name name))

pub returns : goal.returns
returns c = record {
  seed_word = chars c.args.seed.now;
  count_word = chars c.args.count.now;
  words_are = ap (λ (name : List ℕ). name ∷ chars c.args.seed.now ∷ chars c.args.count.now ∷ []) (word_chars (codes "gen") c.args.name.now (plain_text (codes "gen") refl) (c.is_gen.ensures.0 c.if-not-is_gen.false));
  seed_is = c.in_ok-seed.ensures;
  count_is = c.in_ok-count.ensures;
  seed_within = omega arith;
  some = omega arith;
  count_within = omega arith;
}
