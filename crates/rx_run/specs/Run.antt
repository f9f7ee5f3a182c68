-- What a run of the program with these words does.
use Rattle.std.specs.Prelude.{◌≡◌, ◌≢◌, ◌<◌, ◌+◌, ◌↔◌, ℕ, List, Option}
use Rattle.std.specs.Io.KnownBytes.{IsAtEnd}
use Rattle.rx_command.specs.declared.command.Command.TheVariants.{Serve, Json, Print}
use Rattle.rx_command.specs.declared.notice.Notice.{Notice}
use Rattle.rx_command.specs.declared.service.Service.{Service}
use Rattle.rx_command.specs.Command.{IsCommand, IsGen, IsStated}
use Rattle.rx_command.specs.Notices.{notice_text}
use Rattle.rx_json_reply.specs.Answers.{IsJsonReply}
use Rattle.rx_run.specs.declared.run.Status.{Status}
use Rattle.rx_run.specs.declared.run.Status.TheVariants.{Usage, ReadFault, WriteFault, OutOfMemory, TooMuch}
use Rattle.rx_run.specs.Faults.{TellsFaults}
use Rattle.rx_run.specs.Generator.{IsGenOutput}
use Rattle.rx_run.specs.Limits.{IsReadOut}
use Rattle.rx_run.specs.Outcome.{ReadsAndWrites}
use Rattle.rx_run.specs.Reply.{answers}
use Rattle.rx_run.specs.Status.{Outcome, IsFinished, Prints}

-- All that the clauses of `run` say, each under its name. `left`, `drawn` and `source_faults` are those of the source, `taken`, `fixed_part` and `sink_faults` those
-- of the sink.
pub record IsRun {S K : Type 0} (left : S → Option (List ℕ)) (drawn source_faults : S → ℕ) (taken : K → Option (List ℕ)) (fixed_part : K → List ℕ) (sink_faults : K → ℕ)
    (source source' : S) (sink sink' : K) (words : List (List ℕ)) (status : Status) : Type 0 where
  pub content : (service : Service) → IsCommand words (Serve service)
      → ReadsAndWrites (left source) (left source') (drawn source) (drawn source') (taken sink) (taken sink') (Outcome (answers service) status)
  pub end : (service : Service) → IsCommand words (Serve service) → IsFinished status → IsAtEnd (left source')
  pub json : IsCommand words Json
      → ReadsAndWrites (left source) (left source') (drawn source) (drawn source') (taken sink) (taken sink') (Outcome IsJsonReply status)
  pub json_end : IsCommand words Json → IsFinished status → IsReadOut (left source') (drawn source) (drawn source')
  pub no_limit : IsCommand words Json → status ≢ TooMuch
  pub generated : (seed count : ℕ) → IsGen words seed count → Prints taken source source' sink sink' (IsGenOutput seed count) status
  pub printed : (notice : Notice) → IsCommand words (Print notice)
      → Prints taken source source' sink sink' (λ text. text ≡ notice_text notice) status × (status ≢ OutOfMemory)
  pub usage : (status ≡ Usage) ↔ ¬ IsStated words
  pub untouched : status ≡ Usage → (source' ≡ source) × (sink' ≡ sink)
  pub faults : TellsFaults source_faults sink_faults fixed_part source source' sink sink' (status ≡ ReadFault) (status ≡ WriteFault)
  pub too_much : ¬ IsCommand words Json → (status ≡ TooMuch) ↔ (drawn source + 67108864 < drawn source')
