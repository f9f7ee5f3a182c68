use Rattle.std.proofs.Common.{◌≡◌, ◌∙◌, ◌<◌, ◌≤◌, ◌++◌, refl, ap, subst, inl, inr, ℕ, List, [], Some, map, length, length-append, arith, rules}
use Rattle.std.specs.List.{AllZip, concat}
use Rattle.std.proofs.lemmas.Grind.{common_steps}
use Rattle.rx_base.specs.FaultCounts.{Rose}
use Rattle.rx_command.specs.declared.command.Command.TheVariants.{Serve}
use Rattle.rx_run.specs.declared.run.Status.{Status}
use Rattle.rx_command.specs.Command.{IsServing}
use Rattle.rx_run.specs.Lines.{lines_of}
use Rattle.rx_run.specs.Outcome.{IsBegun, Reads, ReadsAndWrites, text_of}
use Rattle.rx_run.specs.Reply.{IsReply, answers, without_words}
use Rattle.rx_run.specs.Status.{Outcome}
use Rattle.rx_run.proofs.Judging.{without_judgement}
use Rattle.rx_run.proofs.over_memory.replies.Goals as goal

-- all room was taken, and some bytes are missing
past_room : (input left taken : List ℕ) (drawn drawn' room : ℕ) → length taken ≡ room
    → ReadsAndWrites (Some input) (Some left) drawn drawn' (Some []) (Some taken) (λ read written. IsBegun (answers without_words) read written 1)
    → (read left : List ℕ) × (lines later replies : List (List ℕ)) × (input ≡ read ++ left) × (lines_of read ≡ lines ++ later) × AllZip (IsReply without_words) lines replies × (room < length (concat replies))
past_room input left taken drawn drawn' room full r =
    let begun = r.4 in
    let written : taken ≡ r.1 = r.3 in
    let missing : 1 ≤ length begun.unwritten = begun.missing in
    let past : room < length (text_of begun.replies) = omega (arith, ap length begun.front, ap length written, length-append r.1 begun.unwritten) in
    (r.0, left, begun.lines, begun.later, map (λ reply. reply.0) begun.replies, r.2.consumed, begun.lines_are, without_judgement without_words begun.lines begun.replies begun.answered, past)

-- no words ask for what is said without words
no_words : (words : List (List ℕ)) → words ≡ [] → IsServing words without_words.dialect without_words.answering
no_words words none = record { rest = []; words_are = none; says = refl }

rose_above : (n : ℕ) → Rose 0 n → 0 < n
rose_above n rose = elim rose [ inl above ↦ above | inr last ↦ omega arith ]

pub returns-clause-write_fault : goal.returns-clause-write_fault
returns-clause-write_fault c = λ is.
    let run = c.run-status.ensures in
    let sink = c.run-status.new.sink in
    let source = c.run-status.new.source in
    let made = c.in_ok-sink.ensures in
    let none : c.as_slice.result.now ≡ [] = c.as_slice.ensures ∙ c.new-words.ensures in
    let fails : sink.fails ≡ [] = cc (run.faults.fixed, made) in
    let room : sink.room ≡ c.args.room = cc (run.faults.fixed, made) in
    let fault : 0 < sink.faults = rose_above sink.faults (rw made at run.faults.write_fault is) in
    let full : length sink.taken ≡ c.args.room = c.bytes.ensures.full fails fault ∙ room in
    let P : Status → Type 0 = λ s. ReadsAndWrites (Some c.args.input.now) (Some source.left) 0 source.drawn (Some []) (Some sink.taken) (Outcome (answers without_words) s) in
    past_room c.args.input.now source.left sink.taken 0 source.drawn c.args.room full (subst P is (rw (made, c.new-source.ensures) at (run.content without_words (no_words c.as_slice.result.now none))))

pub returns-clause-all_ok : goal.returns-clause-all_ok
returns-clause-all_ok c =
    let none : c.as_slice.result.now ≡ [] = c.as_slice.ensures ∙ c.new-words.ensures in
    let content = c.run-status.ensures.content without_words (no_words c.as_slice.result.now none) in
    let end = c.run-status.ensures.end without_words (no_words c.as_slice.result.now none) in
    search rules

pub returns-clause-some_refused : goal.returns-clause-some_refused
returns-clause-some_refused c =
    let none : c.as_slice.result.now ≡ [] = c.as_slice.ensures ∙ c.new-words.ensures in
    let content = c.run-status.ensures.content without_words (no_words c.as_slice.result.now none) in
    let end = c.run-status.ensures.end without_words (no_words c.as_slice.result.now none) in
    grind (arith, common_steps)

pub returns-clause-usage : goal.returns-clause-usage
returns-clause-usage c = λ is.
    let none : c.as_slice.result.now ≡ [] = c.as_slice.ensures ∙ c.new-words.ensures in
    c.run-status.ensures.usage.0 is (Serve without_words, no_words c.as_slice.result.now none)

-- more than the limit was read
past_limit : (input left read : List ℕ) (drawn : ℕ) → Reads (Some input) (Some left) 0 drawn read → 67108864 < drawn → 67108864 < length input
past_limit input left read drawn reads past =
    let whole : input ≡ read ++ left = reads.consumed in
    omega (arith, reads.counted, ap length whole, length-append read left)

pub returns-clause-too_much : goal.returns-clause-too_much
returns-clause-too_much c = λ is.
    let none : c.as_slice.result.now ≡ [] = c.as_slice.ensures ∙ c.new-words.ensures in
    let source = c.run-status.new.source in
    let content = rw c.new-source.ensures at (c.run-status.ensures.content without_words (no_words c.as_slice.result.now none)) in
    let past = rw c.new-source.ensures at ((c.run-status.ensures.too_much (λ json. cc (none, json))).0 is) in
    past_limit c.args.input.now source.left content.0 source.drawn content.2 past
