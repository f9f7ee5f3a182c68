use Rattle.std.proofs.Common.{ap, sym, ◌∙◌, codes}
use Rattle.std.specs.Char.{encode_utf8}
use Rattle.std.specs.Str.{encode_utf8_all}
use Rattle.rx_base.specs.DiagnosticMessage.{flag_text, reason_of}
use Rattle.rx_base.proofs.Messages.{encoded_between}
use Rattle.rx_base.proofs.diagnostic.Diagnostic.reason.Goals as goal

pub returns-in-UnknownFlag : goal.returns-in-UnknownFlag
unfolding encode_utf8
returns-in-UnknownFlag c =
    sym (encoded_between (codes "Unknown flag: `") (flag_text c.in-UnknownFlag.flag) (codes "` found")) ∙ ap (λ d. encode_utf8_all (reason_of d)) (sym c.in-UnknownFlag.is)

pub returns-in-DuplicatedFlags : goal.returns-in-DuplicatedFlags
unfolding encode_utf8
returns-in-DuplicatedFlags c =
    sym (encoded_between (codes "Duplicated flag: `") (flag_text c.in-DuplicatedFlags.flag) (codes "` found")) ∙ ap (λ d. encode_utf8_all (reason_of d)) (sym c.in-DuplicatedFlags.is)
