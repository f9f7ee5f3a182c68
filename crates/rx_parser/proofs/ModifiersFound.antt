-- The modifiers after `(?`, by what their readers find.
use Rattle.std.proofs.Common.{◌≡◌, sym, ap, ap₂, ◌∙◌, ℕ, ◌+◌, true, false, List, [], take, drop}
use Rattle.std.specs.List.{list_all}
use Rattle.rx_parser.proofs.Common.{cond-true, cond-false, starts, is_modifier, letters_at, sides, second_side, sides_at}
use Rattle.rx_model.proofs.Groups.Modifiers.{sides_spelled, sides_letters}

module _ (us : List ℕ) {enabling disabling : List ℕ} (n : ℕ) (letters : n ≡ letters_at us) (first : enabling ≡ take n us) where
  -- no `-` stands after the letters
  pub one_side_seen : starts 45 (drop n us) ≡ false → disabling ≡ [] → sides enabling disabling n ≡ sides_at us
  one_side_seen h none =
      ap₂ (λ w v. sides w v n) first none
      ∙ ap (λ n. sides (take n us) [] n) letters
      ∙ sym (cond-false (starts 45 (drop (letters_at us) us)) _ _ (ap (λ n. starts 45 (drop n us)) (sym letters) ∙ h))

  -- a `-` and letters stand after the letters
  pub two_sides_seen : {following : List ℕ} (k : ℕ) → starts 45 (drop n us) ≡ true → following ≡ drop (n + 1) us → k ≡ letters_at following → disabling ≡ take k following
      → sides enabling disabling (n + 1 + k) ≡ sides_at us
  two_sides_seen k h there more second =
      ap₂ (λ w v. sides w v (n + 1 + k)) first (second ∙ ap (take k) there)
      ∙ ap (λ k. sides (take n us) (take k (drop (n + 1) us)) (n + 1 + k)) (more ∙ ap letters_at there)
      ∙ ap (λ n. second_side us n (drop (n + 1) us)) letters
      ∙ sym (cond-true (starts 45 (drop (letters_at us) us)) _ _ (ap (λ n. starts 45 (drop n us)) (sym letters) ∙ h))

-- the letters on both sides of modifiers that are read
pub letters_there : (us w v : List ℕ) (n : ℕ) → sides w v n ≡ sides_at us → (list_all is_modifier w ≡ true) × (list_all is_modifier v ≡ true)
letters_there us w v n read = let f = sides_spelled us w v n (sym read) in sides_letters w v f.text f.spelled
