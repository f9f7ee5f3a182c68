-- The place that a parse has reached, and what the first pass says of the environment there.
use Rattle.std.proofs.Common.{◌≡◌, ◌∙◌, ap, ap₂, Bool, ℕ, ◌+◌, ◌<◌, List, [], length, drop, arith, length-drop}
use Rattle.rx_parser.proofs.Common.{CodePoint, offset_at, Mode, tokens_of, environment_with, has_some, IsReached, text_environment, text_groups, text_names, row_tokens, Builder, builder_events, openers, ready, state_environment, State, HoldsPass, IsParsing, Rules}

pub some_left : (us : List CodePoint) (place : ℕ) → place < length us → drop place us ≡ [] → ⊥
some_left us place l e = omega (arith, length-drop place us, ap length e)

pub reached : {mode : Mode} {rules : Rules} (us : List CodePoint) (first added : ℕ) (b : Builder) (place : ℕ) → IsParsing mode rules us first added b place → IsReached mode rules us place (openers b) (ready b) (drop place us)
reached {mode} {rules} us first added b place h = record {
  tokens = tokens_of (builder_events b);
  row = row_tokens (text_environment mode rules us) (λ i. offset_at first us i + added) (builder_events b) 0 us place (drop place us) h.at.row;
  place_is = omega (arith, h.within, length-drop place us);
  accepted = h.at.state;
  obey = h.obey;
}

-- What a state that holds the first pass says of the environment, where buffer boundaries are read or not.
pub pass_environment : {mode : Mode} {rules : Rules} {us : List CodePoint} {state : State} → HoldsPass mode rules us state → (buffers : Bool)
    → state_environment state buffers ≡ environment_with mode buffers (text_groups mode us) (has_some (text_names mode us))
pass_environment {mode} {rules} {us} {state} pass buffers =
    ap (λ mode. environment_with mode buffers state.num_of_capturing_groups (has_some state.capturing_group_names)) pass.mode_is
    ∙ ap₂ (λ count names. environment_with mode buffers count (has_some names)) pass.groups pass.names
