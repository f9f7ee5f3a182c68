-- What a line asks for.
use Rattle.std.specs.Prelude.{◌≡◌, ◌≤◌, ℕ, List, [], ◌∷◌, ◌++◌, length, codes, Option, Some, None, IsTrue, IsUtf8}
use Rattle.std.specs.Str.{chars}
use Rattle.rx_base.specs.Ascii as ascii
use Rattle.rx_model.specs.declared.form.Form.{Form}
use Rattle.rx_model.specs.declared.form.Form.TheVariants.{Literal, Constructor}
use Rattle.rx_run.specs.Lines.{lacks}

-- the longest line that is read, in bytes
abbrev pub line_limit : ℕ
line_limit = 1048576

-- A pattern to be read, in characters: its form, the flags text, if there is one, and the pattern's own text.
pub record Request : Type 0 where
  pub form : Form
  pub flags : Option (List ℕ)
  pub text : List ℕ

-- A line is cut at its first two TABs into three fields, of which the third is all the rest.
pub record HasFields (line form flags text : List ℕ) : Type 0 where
  pub cut : line ≡ form ++ ascii.tab ∷ (flags ++ ascii.tab ∷ text)
  pub first_tab : IsTrue (lacks ascii.tab form)
  pub second_tab : IsTrue (lacks ascii.tab flags)

-- the field that stands for a form
abbrev pub form_field : Form → List ℕ
form_field Literal = codes "L"
form_field Constructor = codes "C"

-- an empty field stands for no flags text
abbrev pub flags_text : List ℕ → Option (List ℕ)
flags_text [] = None
flags_text (byte ∷ bytes) = Some (chars (byte ∷ bytes))

-- The line asks for this.
pub record IsRequest (line : List ℕ) (request : Request) : Type 0 where
  pub within : length line ≤ line_limit
  pub utf8 : IsUtf8 line
  pub flags_field : List ℕ
  pub text_field : List ℕ
  pub fields : HasFields line (form_field request.form) flags_field text_field
  pub flags_are : request.flags ≡ flags_text flags_field
  pub text_is : request.text ≡ chars text_field
