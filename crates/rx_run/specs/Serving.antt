-- How the replies come from the bytes, up to any moment.
use Rattle.std.specs.Prelude.{◌≡◌, ℕ, ◌≤◌, ◌↔◌, Bool, true, ◌&&◌, List, [], ◌++◌, length, map, take, Option}
use Rattle.std.specs.Io.KnownBytes.{Appends}
use Rattle.rx_run.specs.Lines.{lines_of}
use Rattle.rx_run.specs.Outcome.{AreReplies, Reads, are_ok, text_of}

-- a line as far as it is kept: one byte past the longest that is read
unfoldable pub line_front : List ℕ → List ℕ
line_front line = take 1048577 line

-- each line of these bytes, as far as it is kept
unfoldable pub kept_lines : List ℕ → List (List ℕ)
kept_lines bytes = map line_front (lines_of bytes)

-- a line has the replies that as much of it has as is kept
abbrev pub LooksAtFronts : (answers : List ℕ → List ℕ → Bool → Type 0) → Type 0
LooksAtFronts answers = (line reply : List ℕ) (ok : Bool) → answers (line_front line) reply ok ↔ answers line reply ok

-- After this much of a line the bytes came. Their lines were answered by these replies, and this much of a next line came. The flags say
-- whether all replies counted as ok, before and after.
pub record Serves (answers : List ℕ → List ℕ → Bool → Type 0) (line : List ℕ) (ok : Bool) (bytes written line' : List ℕ) (ok' : Bool) : Type 0 where
  pub lines : List (List ℕ)
  pub replies : List (List ℕ × Bool)
  pub lines_are : (more : List ℕ) → kept_lines (line ++ bytes ++ more) ≡ lines ++ kept_lines (line' ++ more)
  pub answered : AreReplies answers lines replies
  pub written_is : written ≡ text_of replies
  pub judged : ok' ≡ (ok && are_ok replies)

-- The input ended with this much of a line, and its lines were answered by what was written.
pub record Ends (answers : List ℕ → List ℕ → Bool → Type 0) (line : List ℕ) (ok : Bool) (written : List ℕ) (ok' : Bool) : Type 0 where
  pub replies : List (List ℕ × Bool)
  pub answered : AreReplies answers (kept_lines line) replies
  pub written_is : written ≡ text_of replies
  pub judged : ok' ≡ (ok && are_ok replies)

-- After this much of a line the bytes came, and what was written is the front of the replies to the first of their lines, of which at
-- least n bytes are missing.
pub record Halts (answers : List ℕ → List ℕ → Bool → Type 0) (line bytes written : List ℕ) (least : ℕ) : Type 0 where
  pub lines : List (List ℕ)
  pub later : List (List ℕ)
  pub replies : List (List ℕ × Bool)
  pub unwritten : List ℕ
  pub lines_are : kept_lines (line ++ bytes) ≡ lines ++ later
  pub answered : AreReplies answers lines replies
  pub front : text_of replies ≡ written ++ unwritten
  pub missing : least ≤ length unwritten

-- So far these bytes were read and those written, and this much of a line came.
pub record Progress (answers : List ℕ → List ℕ → Bool → Type 0) (left left' : Option (List ℕ)) (drawn drawn' : ℕ) (taken taken' : Option (List ℕ)) (line : List ℕ) (ok : Bool) : Type 0 where
  pub read : List ℕ
  pub written : List ℕ
  pub reads : Reads left left' drawn drawn' read
  pub appends : Appends taken taken' written
  pub serves : Serves answers [] true read written line ok
