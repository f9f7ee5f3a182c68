-- The environment that tokens are read in, as their readers hold it, and as a state tells it.
use Rattle.std.specs.Prelude.{Bool}
use Rattle.rx_model.specs.Inputs.Environment as model
use Rattle.rx_model.specs.Inputs.Environment.{environment_with, has_some}
use Rattle.rx_scan.specs.StateFaults.{mode_of_state}
use Rattle.rx_scan.specs.declared.environment.Environment.{Environment}
use Rattle.rx_scan.specs.declared.state.State.{State}

-- by its mode, whether buffer boundaries are read, the number of groups, and whether some have names
abbrev pub seen_environment : Environment → model.Environment
seen_environment it = environment_with it.mode it.buffer_boundaries it.groups it.has_names

-- what a state says of it, where buffer boundaries are read or not
abbrev pub state_environment : State → Bool → model.Environment
state_environment state buffers = environment_with (mode_of_state state) buffers state.num_of_capturing_groups (has_some state.capturing_group_names)
