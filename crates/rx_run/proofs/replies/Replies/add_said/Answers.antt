use Rattle.std.proofs.Common.{refl, sym, subst, encode_utf8_all}
use Rattle.std.specs.Str.{chars}
use Rattle.std.proofs.lemmas.Result.{on_ok_weaker}
use Rattle.rx_ast.specs.Forget.{bare}
use Rattle.rx_ast.specs.Shown.{pattern_shown}
use Rattle.rx_ast.specs.Tree.{mirror}
use Rattle.rx_model.specs.Spelling.Spelling.{spelling}
use Rattle.rx_parser.specs.Inputs.{flags_chars}
use Rattle.rx_command.specs.declared.answer.Answering.{Answering}
use Rattle.rx_run.specs.Reply.{IsSaid, canonical_reply, display_reply}
use Rattle.rx_run.specs.Request.{Request}
use Rattle.rx_model.specs.Inputs.Texts.{literal_text}
use Rattle.rx_paint.specs.Runs.{pattern_tokens}
use Rattle.rx_paint_reply.specs.Colors.{color_reply}
use Rattle.rx_paint_reply.specs.Tokens.{tokens_reply}
use Rattle.rx_lint.specs.Findings.{findings}
use Rattle.rx_lint_reply.specs.Findings.{findings_reply}
use Rattle.rx_run.proofs.Answering.{ok_added}
use Rattle.rx_run.proofs.replies.Replies.add_said.Goals as goal

pub returns-in-Canonical : goal.returns-in-Canonical
returns-in-Canonical c =
    let request : Request = record { form = c.args.request.now.form; flags = flags_chars c.args.request.now.flags; text = chars c.args.request.now.text.now } in
    let reply = canonical_reply c.args.mode (spelling (bare c.args.pattern.now) c.args.mode) in
    on_ok_weaker c.add_canonical.result
    (ok_added (IsSaid c.args.service.now.answering request c.args.mode c.args.pattern.now) reply c.args.self.now.bytes c.add_canonical.new.self.bytes c.args.self.now.all_ok c.add_canonical.new.self.all_ok
    (subst (λ (a : Answering). IsSaid a request c.args.mode c.args.pattern.now reply) (sym c.in-Canonical.is) refl) refl c.add_canonical.ensures.all_ok)
    c.add_canonical.ensures.bytes

pub returns-in-Display : goal.returns-in-Display
returns-in-Display c =
    let request : Request = record { form = c.args.request.now.form; flags = flags_chars c.args.request.now.flags; text = chars c.args.request.now.text.now } in
    let reply = display_reply c.args.mode (encode_utf8_all (pattern_shown c.args.pattern.now)) in
    on_ok_weaker c.add_display.result
    (ok_added (IsSaid c.args.service.now.answering request c.args.mode c.args.pattern.now) reply c.args.self.now.bytes c.add_display.new.self.bytes c.args.self.now.all_ok c.add_display.new.self.all_ok
    (subst (λ (a : Answering). IsSaid a request c.args.mode c.args.pattern.now reply) (sym c.in-Display.is) refl) refl c.add_display.ensures.all_ok)
    c.add_display.ensures.bytes

pub returns-in-Paint : goal.returns-in-Paint
returns-in-Paint c =
    let request : Request = record { form = c.args.request.now.form; flags = flags_chars c.args.request.now.flags; text = chars c.args.request.now.text.now } in
    let reply = tokens_reply (pattern_tokens (mirror c.args.pattern.now)) in
    on_ok_weaker c.add_tokens.result
    (ok_added (IsSaid c.args.service.now.answering request c.args.mode c.args.pattern.now) reply c.args.self.now.bytes c.add_tokens.new.self.bytes c.args.self.now.all_ok c.add_tokens.new.self.all_ok
    (subst (λ (a : Answering). IsSaid a request c.args.mode c.args.pattern.now reply) (sym c.in-Paint.is) refl) refl c.add_tokens.ensures.all_ok)
    c.add_tokens.ensures.bytes

pub returns-in-PaintColor : goal.returns-in-PaintColor
returns-in-PaintColor c =
    let request : Request = record { form = c.args.request.now.form; flags = flags_chars c.args.request.now.flags; text = chars c.args.request.now.text.now } in
    let reply = color_reply (encode_utf8_all (literal_text (chars c.args.request.now.text.now))) (pattern_tokens (mirror c.args.pattern.now)) in
    on_ok_weaker c.add_colors.result
    (ok_added (IsSaid c.args.service.now.answering request c.args.mode c.args.pattern.now) reply c.args.self.now.bytes c.add_colors.new.self.bytes c.args.self.now.all_ok c.add_colors.new.self.all_ok
    (subst (λ (a : Answering). IsSaid a request c.args.mode c.args.pattern.now reply) (sym c.in-PaintColor.is) refl) refl c.add_colors.ensures.all_ok)
    c.add_colors.ensures.bytes

pub returns-in-Lint : goal.returns-in-Lint
returns-in-Lint c =
    let request : Request = record { form = c.args.request.now.form; flags = flags_chars c.args.request.now.flags; text = chars c.args.request.now.text.now } in
    let reply = findings_reply (findings (mirror c.args.pattern.now)) in
    on_ok_weaker c.add_findings.result
    (ok_added (IsSaid c.args.service.now.answering request c.args.mode c.args.pattern.now) reply c.args.self.now.bytes c.add_findings.new.self.bytes c.args.self.now.all_ok c.add_findings.new.self.all_ok
    (subst (λ (a : Answering). IsSaid a request c.args.mode c.args.pattern.now reply) (sym c.in-Lint.is) refl) refl c.add_findings.ensures.all_ok)
    c.add_findings.ensures.bytes
