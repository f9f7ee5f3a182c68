use Rattle.std.proofs.Common.{◌≡◌, ap, sym, subst, ◌∙◌, ◌++◌, false, Ok, Err, rules}
use Rattle.std.specs.Prelude.{IfErr}
use Rattle.std.specs.List.{filter_map}
use Rattle.std.specs.Str.{chars}
use Rattle.rx_ast.specs.Kinds.{pattern, order}
use Rattle.rx_ast.specs.Tree.{mirror}
use Rattle.rx_base.specs.declared.fault.Fault.TheVariants.{OutOfMemory}
use Rattle.rx_model.specs.declared.form.Form.TheVariants.{Literal}
use Rattle.rx_model.specs.Reading.Headline.{IsFaultOf, no_memory}
use Rattle.rx_parser.specs.Inputs.{flags_chars, rules_of}
use Rattle.rx_tools.specs.Spelled.{read_of}
use Rattle.rx_tools.proofs.CanonicalAnswers.{by_itself, read_as}
use Rattle.rx_linter_example.specs.Notes.{both_rules, literal, note_of}
use Rattle.rx_linter_example.proofs.NotesTaken.{notes_taken}
use Rattle.rx_linter_example.proofs.reading.notes.Goals as goal

pub returns-in_err-walk_pattern_in-clause-err : goal.returns-in_err-walk_pattern_in-clause-err
returns-in_err-walk_pattern_in-clause-err c =
    let is : c.from_residual-in_err-walk_pattern_in.result ≡ Err OutOfMemory = search rules in
    subst (λ r. IfErr r (IsFaultOf (literal (chars c.args.pattern.now) (flags_chars c.args.flags)))) (sym is) no_memory

pub returns-then-visitor-clause-err : goal.returns-then-visitor-clause-err
returns-then-visitor-clause-err c = no_memory

pub returns-clause-ok : goal.returns-clause-ok
returns-clause-ok c =
    let tree = c.in_ok-tree.tree in
    let mode = c.in_ok-tree._mode in
    let text = chars c.args.pattern.now in
    let flags = flags_chars c.args.flags in
    let at = c.default.ensures in
    let under : rules_of c.default.result ≡ both_rules = cc (at.duplicate_names, at.buffer_boundaries) in
    let answered =
    by_itself read_of Literal text flags (Ok (tree, mode)) c.default.result.pattern_span_offset c.default.result.flags_span_offset (rules_of c.default.result) both_rules
    c.default.result.standard_strings false at.pattern_span_offset at.flags_span_offset under at.standard_strings c.in_ok-tree.ensures.headline in
    let nodes = order (pattern (mirror tree)) in
    let taken = notes_taken c.new-visitor.result (pattern (mirror tree)) c.walk_pattern_in.new.visitor c.in_ok-walk_pattern_in.ensures in
    record {
      tree = tree;
      mode = mode;
      read = read_as read_of (literal text flags) (tree, mode) answered;
      notes_are = taken.added c.if-visitor.false ∙ ap (λ v. v.notes ++ filter_map note_of nodes) c.new-visitor.ensures;
    }
