-- The flags that are left: what they hold, what they ask for, and that they are right.
use Rattle.std.proofs.Common.{◌≡◌, ◌∙◌, refl, ap, ap₂, ℕ, Bool, true, false, not, ◌&&◌, ◌||◌, ◌==◌, List, [], ◌∷◌, arith}
use Rattle.std.specs.Prelude.{if◌then◌else◌, filter}
use Rattle.std.proofs.Math.Bool.{and_comm, and-true}
use Rattle.std.proofs.lemmas.Bool.{and_from, and_parts, eqb-true}
use Rattle.std.proofs.lemmas.Bool.Decides.{nat_tests}
use Rattle.std.proofs.lemmas.Map.Views.{any-filter_same}
use Rattle.rx_base.specs.Ascii as ascii
use Rattle.rx_base.specs.Characters.{is_one_of}
use Rattle.rx_base.specs.Flags.{holds, is_flag}
use Rattle.rx_model.specs.declared.mode.Mode.{Mode}
use Rattle.rx_model.specs.declared.mode.Mode.TheVariants.{Legacy, Unicode, Sets}
use Rattle.rx_model.specs.Inputs.Flags.{are_distinct_flags, flags_ok, mode_of}
use Rattle.rx_reply.specs.Flags.{match_flags}
use Rattle.rx_rewrite.specs.declared.rewrites.Rewrites.{Rewrites}
use Rattle.rx_rewrite.specs.Rewriting.{flags_rewritten}
use Rattle.rx_rewrite_reply.specs.Replies.{flags_in_order, flags_left, stays}
use Rattle.rx_trace.specs.declared.answer.MatchFlags.{MatchFlags}

-- of some flags those that pass a test hold one exactly where it passes and the flags hold it
holds-filter : (p : ℕ → Bool) (fs : List ℕ) (f : ℕ) → holds (filter p fs) f ≡ (p f && holds fs f)
holds-filter p fs f = any-filter_same (λ g. g == f) p (p f) (λ g same. ap p (eqb-true g f same)) fs

not_in_both : (p q : Bool) → not q ≡ true → not (p && q) ≡ true
not_in_both true q h = h
not_in_both false q h = refl

-- one more flag of distinct ones, where it is kept
distinct_more : (p : ℕ → Bool) (f : ℕ) (fs : List ℕ) (kept : Bool) → is_flag f ≡ true → not (holds fs f) ≡ true → are_distinct_flags (filter p fs) ≡ true
    → are_distinct_flags (if kept then f ∷ filter p fs else filter p fs) ≡ true
distinct_more p f fs true flag new rest =
    and_from (is_flag f && not (holds (filter p fs) f)) (are_distinct_flags (filter p fs))
    (and_from (is_flag f) (not (holds (filter p fs) f)) flag (ap not (holds-filter p fs f) ∙ not_in_both (p f) (holds fs f) new)) rest
distinct_more p f fs false flag new rest = rest

-- of distinct flags those that pass a test are distinct
distinct-filter : (p : ℕ → Bool) (fs : List ℕ) → are_distinct_flags fs ≡ true → are_distinct_flags (filter p fs) ≡ true
distinct-filter p [] h = refl
distinct-filter p (f ∷ fs) h =
    let all = and_parts (is_flag f && not (holds fs f)) (are_distinct_flags fs) h in
    let here = and_parts (is_flag f) (not (holds fs f)) all.0 in
    distinct_more p f fs (p f) here.0 here.1 (distinct-filter p fs all.1)

-- a character is one of some characters where these, as flags, hold it
holds_one_of : (cs : List ℕ) (c : ℕ) → holds cs c ≡ is_one_of cs c
holds_one_of [] c = refl
holds_one_of (d ∷ ds) c = let turn : (d == c) ≡ (c == d) = grind (arith, nat_tests) in ap₂ ◌||◌ turn (holds_one_of ds c)

module _ (what : Rewrites) (letters : List ℕ) where
  -- a flag is left exactly where it stays and is there
  flags_left_hold : (f : ℕ) → holds flags_in_order f ≡ true → holds (flags_left what letters) f ≡ (stays what f && holds letters f)
  flags_left_hold f known =
      holds-filter (λ flag. stays what flag && holds letters flag) flags_in_order f ∙ ap (λ b. (stays what f && holds letters f) && b) known ∙ and-true (stays what f && holds letters f)

  pub each_left : (f : ℕ) → is_flag f ≡ true → holds (flags_left what letters) f ≡ (stays what f && holds letters f)
  each_left f flag = flags_left_hold f (holds_one_of flags_in_order f ∙ flag)

  pub match_flags_left : (mode : Mode) → match_flags mode (flags_left what letters) ≡ flags_rewritten what (match_flags mode letters)
  match_flags_left mode =
      let i = flags_left_hold ascii.i refl in
      let m = flags_left_hold ascii.m refl ∙ and_comm (not what.multiline) (holds letters ascii.m) in
      let s = flags_left_hold ascii.s refl ∙ and_comm (not what.dot_all) (holds letters ascii.s) in
      cc

  pub mode_left : mode_of (flags_left what letters) ≡ mode_of letters
  mode_left =
      ap (λ v. if v then Sets else (if holds (flags_left what letters) ascii.u then Unicode else Legacy)) (flags_left_hold ascii.v refl)
      ∙ ap (λ u. if holds letters ascii.v then Sets else (if u then Unicode else Legacy)) (flags_left_hold ascii.u refl)

  pub right_left : flags_ok letters ≡ true → flags_ok (flags_left what letters) ≡ true
  right_left right =
      and_from (are_distinct_flags (flags_left what letters)) (not (holds (flags_left what letters) ascii.u && holds (flags_left what letters) ascii.v))
      (distinct-filter (λ flag. stays what flag && holds letters flag) flags_in_order refl)
      (ap (λ u. not (u && holds (flags_left what letters) ascii.v)) (flags_left_hold ascii.u refl) ∙ ap (λ v. not (holds letters ascii.u && v)) (flags_left_hold ascii.v refl)
      ∙ (and_parts (are_distinct_flags letters) (not (holds letters ascii.u && holds letters ascii.v)) right).1)
