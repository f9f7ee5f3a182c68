-- What a line is answered.
use Rattle.std.specs.Prelude.{◌≡◌, ⊤, ℕ, Bool, true, false, nat_eq, List, [], ◌++◌, length, codes, encode_utf8_all, Option, Some, None}
use Rattle.std.specs.Fmt.{decimal}
use Rattle.std.specs.List.{starts_with}
use Rattle.rx_base.specs.declared.diagnostic.Diagnostic.{Diagnostic}
use Rattle.rx_base.specs.Diagnostic.{name_of}
use Rattle.rx_ast.specs.declared.term.Pattern.{Pattern}
use Rattle.rx_ast.specs.Forget.{bare}
use Rattle.rx_ast.specs.Kinds.{order, pattern as pattern_kind}
use Rattle.rx_ast.specs.Tree.{mirror}
use Rattle.rx_visit.specs.Flags.{are_refused_flags}
use Rattle.rx_ast.specs.Shown.{pattern_shown}
use Rattle.rx_model.specs.declared.form.Form.{Form}
use Rattle.rx_model.specs.declared.form.Form.TheVariants.{Literal}
use Rattle.rx_model.specs.declared.mode.Mode.{Mode}
use Rattle.rx_model.specs.declared.mode.Mode.TheVariants.{Legacy, Unicode, Sets}
use Rattle.rx_model.specs.Reading.Headline.{IsFirstRefusal, IsReadAs, IsValid}
use Rattle.rx_model.specs.Inputs.Inputs.{Input}
use Rattle.rx_model.specs.Inputs.Texts.{literal_text}
use Rattle.rx_model.specs.Spelling.Spelling.{spelling}
use Rattle.rx_lint.specs.Findings.{findings}
use Rattle.rx_lint_reply.specs.Findings.{findings_reply}
use Rattle.rx_match_reply.specs.Replies.{IsMatchReply, IsTicksReply}
use Rattle.rx_paint.specs.Runs.{pattern_tokens}
use Rattle.rx_paint_reply.specs.Colors.{color_reply}
use Rattle.rx_paint_reply.specs.Tokens.{tokens_reply}
use Rattle.rx_reply.specs.Flags.{match_flags}
use Rattle.rx_rewrite_reply.specs.Replies.{IsRewriteReply}
use Rattle.rx_command.specs.declared.answer.Answering.{Answering}
use Rattle.rx_command.specs.declared.answer.Answering.TheVariants.{Canonical, Display, Support, Match, Steps, Paint, PaintColor, Lint, Rewrite}
use Rattle.rx_command.specs.declared.dialect.Dialect.{Dialect}
use Rattle.rx_command.specs.declared.dialect.Dialect.TheVariants.{Default}
use Rattle.rx_command.specs.Dialects.{is_standard, rules_for}
use Rattle.rx_command.specs.declared.service.Service.{Service}
use Rattle.rx_command.specs.Features.{needs_feature}
use Rattle.rx_run.specs.Request.{Request, IsRequest}
use Rattle.rx_run.specs.Spans.{spans_text}

abbrev pub mode_name : Mode → List ℕ
mode_name Legacy = codes "legacy"
mode_name Unicode = codes "unicode"
mode_name Sets = codes "sets"

abbrev pub bad_reply : List ℕ
bad_reply = codes "bad\n"

-- the mode, and the spelling of a pattern
abbrev pub canonical_reply : Mode → List ℕ → List ℕ
canonical_reply mode text = codes "ok\t" ++ mode_name mode ++ codes "\t" ++ encode_utf8_all text ++ codes "\n"

-- the mode, the number of the bytes of a text, and the text
-- Why: docs/DECISIONS.md, 57.
abbrev pub display_reply : Mode → List ℕ → List ℕ
display_reply mode bytes = codes "ok\t" ++ mode_name mode ++ codes "\t" ++ decimal (length bytes) ++ codes "\t" ++ bytes ++ codes "\n"

abbrev pub truth_digit : Bool → List ℕ
truth_digit false = codes "0"
truth_digit true = codes "1"

-- whether something of the flags, and whether something of the tree, is not supported
abbrev pub support_reply : Bool → Bool → List ℕ
support_reply flags pattern = codes "ok\t" ++ truth_digit flags ++ codes "\t" ++ truth_digit pattern ++ codes "\n"

-- the bytes of the flags, none where there is no flags text
abbrev pub flags_bytes : Option (List ℕ) → List ℕ
flags_bytes None = []
flags_bytes (Some flags) = encode_utf8_all flags

-- what is said of a request that is read as this tree, in this mode
abbrev pub IsSaid : Answering → Request → Mode → Pattern → List ℕ → Type 0
IsSaid Canonical request mode pattern reply = reply ≡ canonical_reply mode (spelling (bare pattern) mode)
IsSaid Display request mode pattern reply = reply ≡ display_reply mode (encode_utf8_all (pattern_shown pattern))
IsSaid (Support features) request mode pattern reply =
    reply ≡ support_reply (are_refused_flags features.flags (flags_bytes request.flags)) (needs_feature features (order (pattern_kind (mirror pattern))))
IsSaid (Match budget text) request mode pattern reply = IsMatchReply (match_flags mode (flags_bytes request.flags)) text (mirror pattern) budget reply
IsSaid (Steps text most) request mode pattern reply = IsTicksReply (match_flags mode (flags_bytes request.flags)) text (mirror pattern) most reply
IsSaid Paint request mode pattern reply = reply ≡ tokens_reply (pattern_tokens (mirror pattern))
IsSaid PaintColor request mode pattern reply = reply ≡ color_reply (encode_utf8_all (literal_text request.text)) (pattern_tokens (mirror pattern))
IsSaid Lint request mode pattern reply = reply ≡ findings_reply (findings (mirror pattern))
IsSaid (Rewrite wanted) request mode pattern reply = IsRewriteReply wanted (flags_bytes request.flags) mode (mirror pattern) reply

-- the name and the spans of a refusal
abbrev pub err_reply : Diagnostic → List ℕ
err_reply cause = codes "err\t" ++ name_of cause ++ codes "\t" ++ spans_text cause ++ codes "\n"

-- what is to be read: the request's text and flags, by themselves
abbrev pub input_of : Dialect → Request → Input
input_of dialect request = record { form = request.form; text = request.text; flags = request.flags; text_offset = 0; flags_offset = 0; rules = rules_for dialect; standard_strings = is_standard dialect }

-- the forms that are answered: what is said of a pattern besides its spelling and its tree is said of literals, whose flags and text stand in the fields as they are
abbrev pub IsAnswerable : Answering → Form → Type 0
IsAnswerable Canonical form = ⊤
IsAnswerable Display form = ⊤
IsAnswerable (Support features) form = form ≡ Literal
IsAnswerable (Match budget text) form = form ≡ Literal
IsAnswerable (Steps text most) form = form ≡ Literal
IsAnswerable Paint form = form ≡ Literal
IsAnswerable PaintColor form = form ≡ Literal
IsAnswerable Lint form = form ≡ Literal
IsAnswerable (Rewrite wanted) form = form ≡ Literal

-- The line asks for this, in a form that is answered.
pub record IsAsked (answering : Answering) (line : List ℕ) (request : Request) : Type 0 where
  pub asked : IsRequest line request
  pub answerable : IsAnswerable answering request.form

-- The reply to a line: nothing that is answered is asked in it; or what is asked is read, and this is said of it; or its flags or text are refused, so that it
-- is no valid one, with the first refusal.
pub data IsReply (service : Service) (line : List ℕ) : List ℕ → Type 0 where
  bad : ((request : Request) → ¬ IsAsked service.answering line request) → IsReply service line bad_reply
  said : (request : Request) (mode : Mode) (pattern : Pattern) (reply : List ℕ) → IsAsked service.answering line request → IsReadAs (input_of service.dialect request) mode pattern
      → IsSaid service.answering request mode pattern reply → IsReply service line reply
  err : (request : Request) (refusal : Diagnostic) → IsAsked service.answering line request → ¬ IsValid (input_of service.dialect request) → IsFirstRefusal (input_of service.dialect request) refusal
      → IsReply service line (err_reply refusal)

-- how lines are answered without words
abbrev pub without_words : Service
without_words = record { dialect = Default; answering = Canonical }

-- a reply that says `ok`
abbrev pub begins_ok : List ℕ → Bool
begins_ok reply = starts_with nat_eq reply (codes "ok")

-- a reply to a line, and whether it begins with `ok`
abbrev pub answers : Service → List ℕ → List ℕ → Bool → Type 0
answers service line reply ok = IsReply service line reply × (ok ≡ begins_ok reply)
