-- The class of some members: its tokens, and that it is spelled in brackets where its contents are.
use Rattle.std.proofs.Common.{refl, sym, ap, ap₂, subst, Bool, List, [], ◌∷◌, ◌++◌}
use Rattle.std.specs.Prelude.{All}
use Rattle.std.proofs.lemmas.List.Elements.{All-head, All-tail}
use Rattle.rx_ast.specs.declared.class.CharacterClassContentsKind.{CharacterClassContentsKind}
use Rattle.rx_ast.specs.ClassTree.{Member, member, class, members}
use Rattle.rx_ast.specs.Forget.{nowhere}
use Rattle.rx_units.specs.declared.code_point.CodePoint.{CodePoint}
use Rattle.rx_model.specs.Classes.ClassBrackets.{InBrackets, class_of_members}
use Rattle.rx_model.specs.Classes.ClassRows.{ClassTokenRow, IsClass, fresh, outside}
use Rattle.rx_model.specs.Classes.ClassShapes.{FitsKind}
use Rattle.rx_model.specs.Classes.ClassTokens.{bracket, closer}
use Rattle.rx_model.specs.Inputs.Environment.{Environment}
use Rattle.rx_model.specs.Trees.Early.{may_contain_strings}
use Rattle.rx_model.proofs.Classes.TokensOfBuilt.{ArePlain, HasTokens, IsPlainMember, none_plain}
use Rattle.rx_model.proofs.Classes.ClassEnds.{class_row_append}
use Rattle.rx_model.proofs.Classes.ClassShapes.{between_by, class_tokens_by, contents_tokens}

members_plain : (ms : List Member) → All IsPlainMember ms → ArePlain (members ms)
members_plain [] all = none_plain
members_plain (m ∷ ms) all =
    let first = All-head IsPlainMember m ms all in
    let more = members_plain ms (All-tail IsPlainMember m ms all) in
    record { fitting = (first.fits, more.fitting); flagged = (first.flagged, more.flagged); plain = ap₂ member first.plain more.plain }

pub class_has_tokens : (negative : Bool) (kind : CharacterClassContentsKind) (ms : List Member) → FitsKind kind (members ms) → All IsPlainMember ms →
    HasTokens (bracket negative ∷ (contents_tokens (between_by kind) (members ms) ++ (closer ∷ []))) (class_of_members negative kind ms)
class_has_tokens negative kind ms fits all =
    let plain = members_plain ms all in
    let may = may_contain_strings kind (members ms) in
    record { tokens = class_tokens_by nowhere negative may kind (members ms); fitting = (fits, plain.fitting); flagged = (refl, plain.flagged); plain = ap (class nowhere negative may kind) plain.plain }

pub class_in_brackets : (e : Environment) (negative : Bool) (kind : CharacterClassContentsKind) (ms : List Member) (w rest : List CodePoint) (b : InBrackets negative w rest) → FitsKind kind (members ms) → All IsPlainMember ms →
    ClassTokenRow e (contents_tokens (between_by kind) (members ms)) fresh b.inside fresh (b.closer ∷ rest) → IsClass e (class_of_members negative kind ms) w rest
class_in_brackets e negative kind ms w rest b fits all row =
    let contents = contents_tokens (between_by kind) (members ms) in
    let has = class_has_tokens negative kind ms fits all in
    record {
      no_spans = has.plain;
      shape = (has.fitting, has.flagged);
      row =
          subst (λ ts. ClassTokenRow e ts outside (w ++ rest) fresh rest) (sym has.tokens) (
            b.bracket,
            b.inside,
            b.whole,
            b.bracket_is,
            class_row_append e contents (closer ∷ []) fresh b.inside fresh (b.closer ∷ rest) fresh rest row (b.closer ∷ [], rest, refl, ap (λ c. c ∷ []) b.closer_is, (refl, refl)),
          );
    }
