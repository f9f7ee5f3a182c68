-- What a run of the program read and wrote.
use Rattle.std.specs.Prelude.{◌≡◌, ◌≤◌, ℕ, ◌+◌, Bool, List, ◌++◌, length, map, Option}
use Rattle.std.specs.List.{AllZip, list_all, concat}
use Rattle.std.specs.Io.KnownBytes.{Consumes, Appends}
use Rattle.rx_run.specs.Lines.{lines_of}

-- The lines have these replies, one each and in order, each with whether it counts as ok. `answers` says what a reply to a line is, and whether that one counts.
abbrev pub AreReplies : (answers : List ℕ → List ℕ → Bool → Type 0) → List (List ℕ) → List (List ℕ × Bool) → Type 0
AreReplies answers lines replies = AllZip (λ line reply. answers line reply.0 reply.1) lines replies

-- the bytes of the replies, after one another
abbrev pub text_of : List (List ℕ × Bool) → List ℕ
text_of replies = concat (map (λ reply. reply.0) replies)

-- whether each of them counts as ok
abbrev pub are_ok : List (List ℕ × Bool) → Bool
are_ok replies = list_all (λ reply. reply.1) replies

-- One reply to each line of what was read, in order, and nothing else was written. The flag says whether all count as ok.
pub record IsAnswered (answers : List ℕ → List ℕ → Bool → Type 0) (read written : List ℕ) (all_ok : Bool) : Type 0 where
  pub replies : List (List ℕ × Bool)
  pub answered : AreReplies answers (lines_of read) replies
  pub written_is : written ≡ text_of replies
  pub judged : all_ok ≡ are_ok replies

-- What was written is the front of the replies to the first lines of what was read, of which at least n bytes are missing.
-- Why: docs/DECISIONS.md, 7.
pub record IsBegun (answers : List ℕ → List ℕ → Bool → Type 0) (read written : List ℕ) (least : ℕ) : Type 0 where
  pub lines : List (List ℕ)
  pub later : List (List ℕ)
  pub replies : List (List ℕ × Bool)
  pub unwritten : List ℕ
  pub lines_are : lines_of read ≡ lines ++ later
  pub answered : AreReplies answers lines replies
  pub front : text_of replies ≡ written ++ unwritten
  pub missing : least ≤ length unwritten

-- The known bytes of a source lost these at their front, and the count of its bytes rose by as many.
pub record Reads (left left' : Option (List ℕ)) (drawn drawn' : ℕ) (bytes : List ℕ) : Type 0 where
  pub consumed : Consumes left left' bytes
  pub counted : drawn' ≡ drawn + length bytes

-- Some bytes were read from the source and some written to the sink, of which this holds.
abbrev pub ReadsAndWrites : (left left' : Option (List ℕ)) (drawn drawn' : ℕ) (taken taken' : Option (List ℕ)) → (List ℕ → List ℕ → Type 0) → Type 0
ReadsAndWrites left left' drawn drawn' taken taken' P =
    (read written : List ℕ) × Reads left left' drawn drawn' read × Appends taken taken' written × P read written
