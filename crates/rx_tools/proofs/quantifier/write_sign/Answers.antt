use Rattle.std.proofs.Common.{[], ◌∷◌}
use Rattle.rx_ast.specs.Texts.{lazy_text}
use Rattle.rx_tools.proofs.Pieces.{text_then, text_stop, failed_from}
use Rattle.rx_tools.proofs.quantifier.write_sign.Goals as goal

pub returns-in_err-write_char : goal.returns-in_err-write_char
returns-in_err-write_char g c = text_stop (c.args.sign ∷ []) (lazy_text c.args.greedy) c.in_err-write_char.ensures (failed_from _ _ c.from_residual.ensures.1)

pub returns : goal.returns
returns g c = text_then (c.args.sign ∷ []) (lazy_text c.args.greedy) c.in_ok-write_char.ensures c.write_lazy.ensures
