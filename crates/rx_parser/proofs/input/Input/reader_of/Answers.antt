use Rattle.std.proofs.Common.{◌≡◌, ap, ◌∙◌, inl, inr, arith, ◌+◌, length}
use Rattle.rx_parser.proofs.Common.{InvalidInput}
use Rattle.rx_base.specs.declared.fault.Fault.TheVariants as fault
use Rattle.rx_parser.proofs.ReadTexts.{whole_text}
use Rattle.rx_parser.proofs.input.Input.reader_of.Goals as goal

pub returns-in-Err-String : goal.returns-in-Err-String
returns-in-Err-String c =
    let whole : c.create-span.result ≡ record { start = 0 + c.args.span_offset; end = length c.args.text.now + c.args.span_offset } =
    c.create-span.ensures ∙ ap (λ n. record { start = 0 + n; end = length c.args.text.now + n }) c.new.ensures in
    record {
      read = tt;
      refused = elim c.in-Err-String.ensures.read [
        | inl e ↦ absurd (let no : ⊥ = grind (arith, e) in no)
        | inr none ↦ inr (ap (λ span. fault.Diagnostic (InvalidInput span)) (whole_text c.args.text.now c.args.span_offset c.create-span.result c.utf8.text whole), none)
      ];
    }
