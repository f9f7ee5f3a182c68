-- The value that a line is, or why it is none.
use Rattle.std.specs.Prelude.{◌≡◌, ◌<◌, ◌≤◌, ℕ, List, length, IsUtf8, Some, None, Result, Ok, Err}
use Rattle.json.specs.Json.{Json, document}
use Rattle.rx_json_reply.specs.Wrongs.{Wrong, long_line, not_utf8, not_json}

-- how many bytes a line has at most
abbrev pub line_limit : ℕ
line_limit = 1048576

pub data IsValueOf (line : List ℕ) : Result Json Wrong → Type 0 where
  too_long : line_limit < length line → IsValueOf line (Err long_line)
  no_text : length line ≤ line_limit → ¬ IsUtf8 line → IsValueOf line (Err not_utf8)
  no_value : length line ≤ line_limit → IsUtf8 line → document line ≡ None → IsValueOf line (Err not_json)
  value : (j : Json) → length line ≤ line_limit → IsUtf8 line → document line ≡ Some j → IsValueOf line (Ok j)
