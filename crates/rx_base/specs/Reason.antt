-- What a reason writes.
use Rattle.std.specs.Prelude.{ℕ, List, ◌++◌}
use Rattle.std.specs.Str.{encode_utf8_all}
use Rattle.rx_base.specs.DiagnosticMessage.{flag_text}
use Rattle.rx_base.specs.declared.diagnostic.reason.Reason.{Reason}
use Rattle.rx_base.specs.declared.diagnostic.reason.Reason.TheVariants.{Fixed, Flag, Name}

abbrev pub reason_bytes : Reason → List ℕ
reason_bytes (Fixed text) = text.now
reason_bytes (Flag before flag after) = before.now ++ (encode_utf8_all (flag_text flag) ++ after.now)
reason_bytes (Name before name after) = before.now ++ (name.now ++ after.now)
