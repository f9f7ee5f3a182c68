-- What has been read at the end of the text is its tree.
use Rattle.std.proofs.Common.{◌≡◌, refl, ap, sym, ◌∙◌, subst, ℕ, ◌+◌, ◌≤◌, false, List, [], ◌∷◌, ◌++◌, length, drop, arith, All}
use Rattle.std.proofs.lemmas.List.{append-nil, drop_all}
use Rattle.rx_parser.proofs.Common.{All-nil, Pattern, CodePoint, offset_at, Mode, Obeys, most_groups, Environment, environment, enter, leave, events, tokens, tokens_of, AreObeying, HasNoClash, text_environment, text_groups, text_names, Row, TokenRow, IsWellMade, tokens_of-append, row_tokens}
use Rattle.rx_parser.proofs.Common.{Builder, builder_events, openers, ready, IsGood, IsParsing, IsWhole, IsAt, Rules, Reads, IsSpelled, IsOnly, one_row_by_mode, environment_by, own_environment, tells_groups}
use Rattle.rx_model.specs.FirstPass.Cuts.{TellsGroups}
use Rattle.rx_model.specs.Trees.Names.{groups}
use Rattle.rx_model.proofs.FirstPass.Apart.{tells_apart}
use Rattle.rx_model.proofs.Trees.TreeFromTokens.{one_tree}
use Rattle.rx_parser.proofs.Steps.{begun, finished}

-- nothing has been read
pub parsing_begun : {mode : Mode} {rules : Rules} (us : List CodePoint) (first added start : ℕ) (b : Builder) → start ≡ offset_at first us 0 + added → builder_events b ≡ enter start ∷ enter start ∷ enter start ∷ []
    → openers b ≡ [] → ready b ≡ false → IsGood b → b.mode ≡ mode → b.rules ≡ rules → IsParsing mode rules us first added b 0
parsing_begun {mode} {rules} us first added start b a m o r g d k = record {
  at = begun (text_environment mode rules us) (λ i. offset_at first us i + added) b us start a m o r g d;
  within = omega arith;
  rules_are = k;
  obey = subst (λ es. AreObeying mode us (tokens_of es)) (sym m) (All-nil (Obeys (text_groups mode us) (text_names mode us)));
}

module _ (mode : Mode) (rules : Rules) (us : List CodePoint) (first added : ℕ) (p : Pattern) (no_clash : HasNoClash mode rules.duplicate_names us) (limit : text_groups mode us ≤ most_groups) where
  -- the environment of the text
  abbrev text : Environment
  text = text_environment mode rules us

  -- the offset of a place
  abbrev offset : ℕ → ℕ
  offset i = offset_at first us i + added

  -- A tree that is spelled in the environment of the text is spelled in its own.
  whole : Row text offset (events p) 0 us (length us) [] → IsWellMade mode p → AreObeying mode us (tokens p) → IsWhole mode rules us first added p
  whole r w o =
      let row : TokenRow text (tokens p) us [] = row_tokens text offset (events p) 0 us (length us) [] r in
      let own : text ≡ environment mode rules p = environment_by rules text p us row in
      let spelled : IsSpelled mode rules p us = record { shape = w; row = subst (λ e. TokenRow e (tokens p) us []) own row } in
      let told : TellsGroups mode p us = tells_groups mode rules p us spelled in
      record {
        reads = record {
          spelled = spelled;
          early = record {
            tokens_obey = subst (λ held. All (Obeys (groups p) held) (tokens p)) told.names_are (subst (λ count. All (Obeys count (text_names mode us)) (tokens p)) told.groups_are o);
            apart = (tells_apart mode rules p us spelled).apart no_clash;
            in_limit = omega (arith, limit, told.groups_are);
          };
        };
        spanned = subst (λ e. Row e offset (events p) 0 us (length us) []) own r;
      }

  -- the text has been read to its end
  pub parsing_ended : (b : Builder) (place at : ℕ) → IsParsing mode rules us first added b place → length us ≤ place → at ≡ offset place
      → events p ≡ builder_events b ++ (leave at ∷ leave at ∷ leave at ∷ []) → (IsGood b → IsWellMade b.mode p) → IsWhole mode rules us first added p
  parsing_ended b place at h l a m g =
      let end : place ≡ length us = omega (arith, l, h.within) in
      let nothing : drop place us ≡ [] = drop_all place us l in
      let there : IsAt text offset b us (length us) [] = subst (λ k. IsAt text offset b us k []) end (subst (IsAt text offset b us place) nothing h.at) in
      let f = finished text offset b us at p (a ∙ ap offset end) there m g in
      whole f.0 f.1 (subst (AreObeying mode us) (sym (ap tokens_of m ∙ tokens_of-append (builder_events b) (leave at ∷ leave at ∷ leave at ∷ []) ∙ append-nil (tokens_of (builder_events b)))) h.obey)

-- what reads the units is the only one that does
pub reads_only : (mode : Mode) (rules : Rules) (p : Pattern) (us : List CodePoint) → Reads mode rules p us → IsOnly mode rules p us
reads_only mode rules p us r q s =
    one_tree mode mode q p s.spelled.shape r.spelled.shape
    (one_row_by_mode (environment mode rules q) (environment mode rules p) (tokens q) (tokens p) us refl refl
    (ap (λ e. e.named) (sym (own_environment mode rules q us s.spelled) ∙ own_environment mode rules p us r.spelled))
    (λ _. ap (λ e. e.groups) (sym (own_environment mode rules q us s.spelled) ∙ own_environment mode rules p us r.spelled)) s.spelled.row r.spelled.row)
