-- What `rewrite` answers of a pattern that is read.
use Rattle.std.specs.Prelude.{◌≡◌, ℕ, Bool, true, not, ◌==◌, ◌&&◌, if◌then◌else◌, List, ◌++◌, codes, filter, Option, Some, None, Result, Ok, Err}
use Rattle.rx_base.specs.Ascii as ascii
use Rattle.rx_base.specs.Flags.{holds}
use Rattle.rx_base.specs.declared.span.Span.{Span}
use Rattle.rx_ast.specs.declared.term.Pattern.{Pattern}
use Rattle.rx_ast.specs.Forget.{bare}
use Rattle.rx_ast.specs.Tree.{Whole}
use Rattle.rx_reply.specs.Flags.{match_flags}
use Rattle.rx_reply.specs.Places.{span_text}
use Rattle.rx_model.specs.declared.mode.Mode.{Mode}
use Rattle.rx_model.specs.Spelling.Spelling.{spelling}
use Rattle.rx_rewrite.specs.declared.fault.RewriteFault.{RewriteFault}
use Rattle.rx_rewrite.specs.declared.fault.RewriteFault.TheVariants as fault
use Rattle.rx_rewrite.specs.declared.rewrites.Rewrites.{Rewrites}
use Rattle.rx_rewrite.specs.Answers.{IsRewritten}
use Rattle.rx_rewrite.specs.KeptModifiers.{kept_modifiers_in}
use Rattle.rx_rewrite.specs.declared.wanted.Wanted.{Wanted}
use Rattle.rx_rewrite.specs.declared.wanted.Wanted.TheVariants.{All, Listed}
use Rattle.rx_rewrite.specs.Wanted.{rewrites_of}
use Rattle.rx_tools.specs.Utf8.{utf8}

-- `m` goes with multiline, `s` with dot_all, and no other flag goes
abbrev pub stays : Rewrites → ℕ → Bool
stays what flag = if flag == ascii.m then not what.multiline else (if flag == ascii.s then not what.dot_all else true)

-- those of some flags that are there and stay
abbrev pub flags_among : Rewrites → List ℕ → List ℕ → List ℕ
flags_among what letters flags = filter (λ flag. stays what flag && holds letters flag) flags

-- all flags, in the order in which a RegExp tells its own (get RegExp.prototype.flags, 22.2.6.4)
abbrev pub flags_in_order : List ℕ
flags_in_order = codes "dgimsuvy"

-- the flags that stay, in this order
abbrev pub flags_left : Rewrites → List ℕ → List ℕ
flags_left what letters = flags_among what letters flags_in_order

abbrev pub pattern_reply : Rewrites → List ℕ → Mode → Pattern → List ℕ
pattern_reply what letters mode it = codes "ok\t" ++ flags_left what letters ++ codes "\t" ++ utf8 (spelling (bare it) mode) ++ codes "\n"

-- The reply to what a rewriting came to. Out of memory has none.
abbrev pub answer_reply : Rewrites → List ℕ → Mode → Result Pattern RewriteFault → Option (List ℕ)
answer_reply what letters mode (Ok it) = Some (pattern_reply what letters mode it)
answer_reply what letters mode (Err (fault.NameUsedTwice first second)) = Some (codes "err\tname_used_twice\t" ++ span_text first ++ codes "," ++ span_text second ++ codes "\n")
answer_reply what letters mode (Err fault.OutOfMemory) = None

-- the span of modifiers that do not go, where modifiers are named among what is to go
abbrev pub kept_among : Wanted → Whole → Option Span
kept_among All tree = None
kept_among (Listed what) tree = if what.pattern_modifiers then kept_modifiers_in tree else None

abbrev pub unsupported_reply : Span → List ℕ
unsupported_reply span = codes "err\tunsupported\t" ++ span_text span ++ codes "\n"

-- The reply says that modifiers are left, or else what the pattern is rewritten into.
pub data IsRewriteReply (wanted : Wanted) (letters : List ℕ) (mode : Mode) (tree : Whole) : List ℕ → Type 0 where
  unsupported : (span : Span) → kept_among wanted tree ≡ Some span → IsRewriteReply wanted letters mode tree (unsupported_reply span)
  answered : (answer : Result Pattern RewriteFault) (reply : List ℕ) → kept_among wanted tree ≡ None → IsRewritten (rewrites_of wanted) (match_flags mode letters) tree answer
      → answer_reply (rewrites_of wanted) letters mode answer ≡ Some reply → IsRewriteReply wanted letters mode tree reply
