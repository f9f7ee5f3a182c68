-- What is told of faults, by how the answering of the input ended.
use Rattle.std.proofs.Common.{◌≡◌, ◌∙◌, ap, ℕ, List, Result, Err}
use Rattle.rx_base.specs.FaultCounts.{Rose}
use Rattle.rx_run.specs.declared.input.InputFault.{InputFault}
use Rattle.rx_run.specs.declared.input.InputFault.TheVariants.{Read}
use Rattle.rx_run.specs.declared.run.Interruption.{Interruption}
use Rattle.rx_run.specs.declared.run.Interruption.TheVariants as interruption
use Rattle.rx_run.specs.declared.server.ReplyFault.{ReplyFault}
use Rattle.rx_run.specs.declared.server.ReplyFault.TheVariants.{Write}
use Rattle.rx_run.specs.Faults.{TellsFaults}

module _ {S K : Type 0} {source_faults : S → ℕ} {sink_faults : K → ℕ} {fixed_part : K → List ℕ} {source source' : S} {sink sink' : K} where
  -- no fault is told
  pub tells_none : {P Q : Type 0} → ¬ P → ¬ Q → fixed_part sink' ≡ fixed_part sink → source_faults source' ≡ source_faults source → sink_faults sink' ≡ sink_faults sink
      → TellsFaults source_faults sink_faults fixed_part source source' sink sink' P Q
  tells_none no_read no_write fixed same_source same_sink = record {
    fixed = fixed;
    read_fault = λ is. absurd (no_read is);
    write_fault = λ is. absurd (no_write is);
    no_read_fault = λ no. same_source;
    no_write_fault = λ no. same_sink;
  }

  -- the same is told by other words
  pub tells_so : {P Q P' Q' : Type 0} → TellsFaults source_faults sink_faults fixed_part source source' sink sink' P Q → (P' → P) → (P → P') → (Q' → Q) → (Q → Q')
      → TellsFaults source_faults sink_faults fixed_part source source' sink sink' P' Q'
  tells_so told to_read of_read to_write of_write = record {
    fixed = told.fixed;
    read_fault = λ is. told.read_fault (to_read is);
    write_fault = λ is. told.write_fault (to_write is);
    no_read_fault = λ no. told.no_read_fault (λ is. no (of_read is));
    no_write_fault = λ no. told.no_write_fault (λ is. no (of_write is));
  }

  -- the input could not be read on
  pub tells_input : {T : Type 0} (r : Result T Interruption) (fault : InputFault) → r ≡ Err (interruption.Input fault) → fixed_part sink' ≡ fixed_part sink → sink_faults sink' ≡ sink_faults sink
      → (fault ≡ Read → Rose (source_faults source) (source_faults source')) → (¬ (fault ≡ Read) → source_faults source' ≡ source_faults source)
      → TellsFaults source_faults sink_faults fixed_part source source' sink sink' (r ≡ Err (interruption.Input Read)) (r ≡ Err (interruption.Reply Write))
  tells_input r fault e fixed same rose stays = record {
    fixed = fixed;
    read_fault = λ is. rose (cc);
    write_fault = λ is. cc;
    no_read_fault = λ no. stays (λ is. no (e ∙ ap (λ f. Err (interruption.Input f)) is));
    no_write_fault = λ no. same;
  }

  -- the replies were not written whole
  pub tells_reply : {T : Type 0} (r : Result T Interruption) (fault : ReplyFault) → r ≡ Err (interruption.Reply fault) → fixed_part sink' ≡ fixed_part sink → source_faults source' ≡ source_faults source
      → (fault ≡ Write → Rose (sink_faults sink) (sink_faults sink')) → (¬ (fault ≡ Write) → sink_faults sink' ≡ sink_faults sink)
      → TellsFaults source_faults sink_faults fixed_part source source' sink sink' (r ≡ Err (interruption.Input Read)) (r ≡ Err (interruption.Reply Write))
  tells_reply r fault e fixed same rose stays = record {
    fixed = fixed;
    read_fault = λ is. cc;
    write_fault = λ is. rose (cc);
    no_read_fault = λ no. same;
    no_write_fault = λ no. stays (λ is. no (e ∙ ap (λ f. Err (interruption.Reply f)) is));
  }
