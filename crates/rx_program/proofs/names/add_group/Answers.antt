use Rattle.std.proofs.Common.{◌∙◌, ap, sym, [], ◌∷◌, ◌++◌}
use Rattle.std.specs.Prelude.{if◌then◌else◌}
use Rattle.std.specs.Str.{chars}
use Rattle.std.proofs.lemmas.Result.{on_ok_weaker}
use Rattle.rx_trace.specs.Groups.{is_named}
use Rattle.rx_program.specs.Named.{numbers_at}
use Rattle.rx_program.proofs.Named.{same_name}
use Rattle.rx_program.proofs.names.add_group.Goals as goal

pub returns-in-Some : goal.returns-in-Some
returns-in-Some c =
    on_ok_weaker c.add_number.result
    (λ added bytes text. added bytes
    ∙ ap (λ b. numbers_at c.args.numbers.now bytes ++ (if b then c.args.number ∷ [] else []))
    (same_name c.as_str.result.now bytes c.in-Some.name c.as_str.utf8 text c.as_str.ensures ∙ ap (is_named (chars bytes)) (sym c.in-Some.is)))
    c.add_number.ensures
