-- What the first pass over a text tells of its groups.
use Rattle.std.proofs.Common.{Bool, ◌≡◌, ap₂, ℕ, ◌+◌, ◌-◌, ◌^◌, ◌<◌, ◌≤◌, List, arith, min}
use Rattle.rx_parser.proofs.Common.{Diagnostic, TooMayCapturingGroups, Span, CodePoint, Mode, too_many_groups, of_groups, mode_by, HasNoClash, text_groups, text_names, most_groups, mode_of_state, State, HoldsPass, IsRefused, Rules, rules_of_state}

-- the span between two offsets, so much being added to each
abbrev pub shifted : ℕ → ℕ × ℕ → Span
shifted added span = record { start = span.0 + added; end = span.1 + added }

module _ (us : List CodePoint) (old : State) (buffers : Bool) where
  abbrev mode : Mode
  mode = mode_of_state old

  abbrev rules : Rules
  rules = rules_of_state old buffers

  -- Where the pass refuses nothing the state holds it.
  pub holds_pass : (new : State) → new.unicode_mode ≡ old.unicode_mode → new.unicode_sets_mode ≡ old.unicode_sets_mode → new.num_of_capturing_groups ≡ min (text_groups mode us) (2 ^ 32 - 1)
      → new.capturing_group_names ≡ text_names mode us → HasNoClash mode rules.duplicate_names us → new.num_of_capturing_groups < 2 ^ 32 - 1 → HoldsPass mode rules us new
  holds_pass new u s n names apart small = record {
    mode_is = ap₂ mode_by u s;
    groups = omega (arith, n, small);
    names = names;
    no_clash = apart;
    in_limit = omega (arith, n, small);
  }

  -- There are more groups than may be.
  pub many_refused : (first added n : ℕ) → HasNoClash mode rules.duplicate_names us → n ≡ min (text_groups mode us) (2 ^ 32 - 1) → 2 ^ 32 - 1 ≤ n
      → IsRefused mode rules us first added (Diagnostic (TooMayCapturingGroups (record { start = added; end = added })))
  many_refused first added n apart e large = let many : most_groups < text_groups mode us = omega (arith, e, large) in of_groups (too_many_groups apart many) (λ none few. omega (arith, many, few))
