-- The cut of a text into marks is that of its tokens: each token is a whole row of marks, whatever the environment. So the marks tell the groups and
-- their names before any token is read.
use Rattle.std.specs.Prelude.{◌≡◌, ℕ, Bool, Some, None, List, [], ◌∷◌, ◌++◌, All}
use Rattle.rx_ast.specs.declared.term.Pattern.{Pattern}
use Rattle.rx_ast.specs.Tree.{mirror_disjunction}
use Rattle.rx_units.specs.declared.code_point.CodePoint.{CodePoint}
use Rattle.rx_units.specs.Units.{values}
use Rattle.rx_model.specs.declared.mode.Mode.{Mode}
use Rattle.rx_model.specs.Groups.GroupNameReading.{name_of}
use Rattle.rx_model.specs.FirstPass.Marks as mark
use Rattle.rx_model.specs.FirstPass.Marks.{Mark, marks}
use Rattle.rx_model.specs.Inputs.Environment.{is_unicode}
use Rattle.rx_model.specs.Trees.Names.{groups, names, AreNamesEarly}
use Rattle.rx_model.specs.Refusals.Reached.{HasNoClash, text_groups, text_names}
use Rattle.rx_model.specs.Trees.Token.{Token, Opener, boundary, character, dot, class_escape, property, class, indexed, named, opener, closer, bar, quantifier, capturing, ignoring, looking}

-- the mark opens such a group, with its name
abbrev pub IsOpening : Mode → Opener → Mark → Type 0
IsOpening mode (capturing None) m = m ≡ mark.capturing None
IsOpening mode (capturing (Some name)) m = (units : List ℕ) × (m ≡ mark.capturing (Some units)) × (name_of (is_unicode mode) units ≡ Some name)
IsOpening mode (ignoring bits) m = m ≡ mark.quiet
IsOpening mode (looking kind) m = m ≡ mark.quiet

-- they open and close nothing
abbrev pub AreOthers : List Mark → Type 0
AreOthers ms = All (λ m. m ≡ mark.other) ms

-- These are the marks of a token: an opener is an opening and others, a closer is a closer, a bar is a bar; any other token is others alone.
abbrev pub AreMarksOf : Mode → Token → List Mark → Type 0
AreMarksOf mode (opener o) ms = (m : Mark) × (others : List Mark) × (ms ≡ m ∷ others) × IsOpening mode o m × AreOthers others
AreMarksOf mode closer ms = ms ≡ mark.closer ∷ []
AreMarksOf mode bar ms = ms ≡ mark.bar ∷ []
AreMarksOf mode (boundary kind) ms = AreOthers ms
AreMarksOf mode (character kind value) ms = AreOthers ms
AreMarksOf mode dot ms = AreOthers ms
AreMarksOf mode (class_escape kind) ms = AreOthers ms
AreMarksOf mode (property negative strings name value) ms = AreOthers ms
AreMarksOf mode (class c) ms = AreOthers ms
AreMarksOf mode (indexed n) ms = AreOthers ms
AreMarksOf mode (named name) ms = AreOthers ms
AreMarksOf mode (quantifier min max greedy) ms = AreOthers ms

-- The units w, which are a token, are a whole row of marks before all that follows them.
pub record IsCut (mode : Mode) (t : Token) (w rest : List CodePoint) : Type 0 where
  pub cut : List Mark
  pub whole : marks mode (values w ++ values rest) ≡ cut ++ marks mode (values rest)
  pub are : AreMarksOf mode t cut

-- the marks of a row of tokens
abbrev pub AreMarksOfAll : Mode → List Token → List Mark → Type 0
AreMarksOfAll mode [] ms = ms ≡ []
AreMarksOfAll mode (t ∷ ts) ms =
    (here : List Mark) × (more : List Mark) × (ms ≡ here ++ more) × AreMarksOf mode t here × AreMarksOfAll mode ts more

-- The first pass of a text tells the groups and the names of a tree.
pub record TellsGroups (mode : Mode) (p : Pattern) (us : List CodePoint) : Type 0 where
  pub groups_are : text_groups mode us ≡ groups p
  pub names_are : text_names mode us ≡ names p

-- No two names clash, by the first pass of the text, exactly where the tree keeps the early rule on names.
pub record TellsApart (mode : Mode) (duplicate_names : Bool) (p : Pattern) (us : List CodePoint) : Type 0 where
  pub apart : HasNoClash mode duplicate_names us → AreNamesEarly duplicate_names (mirror_disjunction p.body).1
  pub no_clash : AreNamesEarly duplicate_names (mirror_disjunction p.body).1 → HasNoClash mode duplicate_names us
