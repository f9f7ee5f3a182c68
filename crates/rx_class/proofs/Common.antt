-- The names that more than one proof of this crate cites, passed on from one place. Declares nothing.
pub use Rattle.rx_ast.proofs.ClassEquations.{character_is}
pub use Rattle.rx_ast.specs.ClassTree.{Member, Members, members, mirror_class, mirror_contents, no_member}
pub use Rattle.rx_ast.specs.Texts.{class_escape_text}
pub use Rattle.rx_ast.specs.declared.class.CharacterClass.{CharacterClass}
pub use Rattle.rx_ast.specs.declared.class.CharacterClassContents.{CharacterClassContents}
pub use Rattle.rx_ast.specs.declared.class.CharacterClassRange.{CharacterClassRange}
pub use Rattle.rx_ast.specs.declared.class.ClassStringDisjunction.{ClassStringDisjunction}
pub use Rattle.rx_ast.specs.declared.leaf.Character.{Character}
pub use Rattle.rx_ast.specs.declared.leaf.CharacterClassEscapeKind.{CharacterClassEscapeKind}
pub use Rattle.rx_ast.specs.declared.leaf.CharacterKind.{CharacterKind}
pub use Rattle.rx_ast.specs.declared.leaf.UnicodePropertyEscape.{UnicodePropertyEscape}
pub use Rattle.rx_base.specs.Characters.{is_one_of}
pub use Rattle.rx_base.specs.Rising.{Rises}
pub use Rattle.rx_base.specs.declared.diagnostic.Diagnostic.{Diagnostic}
pub use Rattle.rx_base.specs.declared.diagnostic.Diagnostic.TheVariants.{InvalidUnicodeEscapeSequence, TooLargeNumberDigits, UnterminatedPattern}
pub use Rattle.rx_base.specs.declared.diagnostic.kinds.DigitsKind.TheVariants.{Hex}
pub use Rattle.rx_base.specs.declared.diagnostic.kinds.SetOperator.{SetOperator}
pub use Rattle.rx_base.specs.declared.diagnostic.kinds.SetOperator.TheVariants.{Intersection, Subtraction}
pub use Rattle.rx_base.specs.declared.fault.Fault.{Fault}
pub use Rattle.rx_base.specs.declared.span.Span.{Span}
pub use Rattle.rx_class.specs.ClassReading.Answers.{BeginsNoClass, GivesClass, GivesOneClass, HoldsFirstPass}
pub use Rattle.rx_class.specs.ClassReading.Items.{GivesAtom, GivesItem, IsItem, IsOfText, IsPlain, StandsItem, alone_in_class, atom_member, atom_of, atom_span, back, between, contents}
pub use Rattle.rx_class.specs.ClassReading.Items.{IsCommonAtom, item_members}
pub use Rattle.rx_class.specs.EscapeReading.Answers.{GivesClassEscape, IsAfterBackslash, environment_of, from_backslash, span_to}
pub use Rattle.rx_class.specs.EscapeReading.Found.{AnswersFound, IsWithin, class_escape_front, many_digits, no_escape_of_u, seen_escape}
pub use Rattle.rx_class.specs.Keeping.{KeepsUnits}
pub use Rattle.rx_class.specs.PropertyReading.Found.{IsLone, IsPropertyAfter, IsPropertyHalt}
pub use Rattle.rx_class.specs.ReadingSteps.{IsReading}
pub use Rattle.rx_class.specs.Readings.{ReadsOn}
pub use Rattle.rx_class.specs.SetReading.Answers.{GivesSetCharacter, GivesStrings}
unfoldable pub use Rattle.rx_class.specs.SetReading.BuilderEvents.{bracket_events, builder_events}
pub use Rattle.rx_class.specs.SetReading.BuilderEvents.{bracket_at, class_of, last_operator, with_member}
pub use Rattle.rx_class.specs.SetReading.FrontSeen.{seen_character, seen_front, seen_if_some}
pub use Rattle.rx_class.specs.SetReading.HeldMirror.{mirror_held}
pub use Rattle.rx_class.specs.SetReading.Progress.{AddsToSets, GivesTurn, IsInSets, IsOfSets, IsRangeNext, RefusesNoEnd, adds, innermost_held, is_nested, no_operator, offset_in, place_of}
pub use Rattle.rx_class.specs.SetReading.Steps.{most_front_looks, most_set_looks}
pub use Rattle.rx_class.specs.SetReading.WellBuilt.{AreHeld, AreSome, AreSound, IsAround, IsSound, IsWellBuilt, IsWellHeld}
pub use Rattle.rx_class.specs.declared.classes.atom.ClassAtom.{ClassAtom}
pub use Rattle.rx_class.specs.declared.classes.item.ClassItem.{ClassItem}
pub use Rattle.rx_class.specs.declared.escapes.found.EscapeFound.{EscapeFound}
pub use Rattle.rx_class.specs.declared.sets.builder.ClassBuilder.{ClassBuilder}
pub use Rattle.rx_class.specs.declared.sets.character.SetCharacter.{SetCharacter}
pub use Rattle.rx_class.specs.declared.sets.open_bracket.OpenBracket.{OpenBracket}
pub use Rattle.rx_model.proofs.Characters.Backslashes.{class_found}
pub use Rattle.rx_model.proofs.Classes.ClassFronts.{any_there, atom_some, class_letter, sets_is, token_some}
pub use Rattle.rx_model.proofs.Classes.ClassTokens.{tokens_append, union_tokens}
pub use Rattle.rx_model.proofs.Classes.ClassWithoutSpans.{class_row_tokens}
pub use Rattle.rx_model.proofs.Classes.OneInClass.{said_is_first}
pub use Rattle.rx_model.proofs.Classes.RefusedAtoms.{escape_first}
pub use Rattle.rx_model.proofs.Groups.GroupNames.{differs}
pub use Rattle.rx_model.proofs.Inputs.Modes.{not_sets, unicode_alone}
pub use Rattle.rx_model.proofs.Properties.PropertyFlags.{strings_by_name}
pub use Rattle.rx_model.proofs.Properties.PropertyRefusals.{names_are_values}
pub use Rattle.rx_model.proofs.Reading.Splits.{split_values, starts_there}
pub use Rattle.rx_model.proofs.Refusals.OneEscape.{escape_is_first}
pub use Rattle.rx_model.specs.Classes.ClassFromTokens.{kind_of}
pub use Rattle.rx_model.specs.Classes.ClassRuns.{Bracket, Brackets, after_step, atom_obeys, bracket_of, class_run, class_run_from_start, empty, is_union, is_whole, joined, operand}
pub use Rattle.rx_model.specs.Classes.ClassRuns.{operator_of, pending, takes_operand, with_operator, with_range, with_strings}
pub use Rattle.rx_model.specs.Classes.ClassShapes.{AreTwo, IsFitting, IsFittingMember, IsFlagged, IsFlaggedMember, IsOperand}
pub use Rattle.rx_model.specs.Classes.ClassTokens.{Atom, ClassEvents, ClassToken, bracket, character, class_events, class_tokens_of, closer, enter, item, leave, low, member_events}
pub use Rattle.rx_model.specs.Classes.ClassTokens.{members_events, more_members_events, operator, operator_text, property, strings, strings_end, strings_events, token, within}
pub use Rattle.rx_model.specs.FirstPass.Marks.{starts}
pub use Rattle.rx_model.specs.Inputs.Environment.{Environment, is_sets, is_unicode}
pub use Rattle.rx_model.specs.Inputs.Modes.{mode_by}
pub use Rattle.rx_model.specs.Properties.PropertyForms.{HasPair, HasRun, begins_property}
pub use Rattle.rx_model.specs.Refusals.ClassPlaces.{IsAtomPlace, IsInBracket, IsItemPlace, IsOperandPlace, IsSecondPlace, begins_item, of_class}
pub use Rattle.rx_model.specs.Refusals.EscapeCauses.{IsEscapeCause, IsPropertyCause, invalid_escape, too_many_hex_digits}
pub use Rattle.rx_model.specs.Refusals.Firsts.{IsFirstInClass, no_item, yielding_of}
pub use Rattle.rx_model.specs.Refusals.Reached.{class_environment, span_between}
pub use Rattle.rx_model.specs.Trees.Early.{AreEarlyMembers, IsEarlyClass, IsEarlyMember, any_strings, member_strings}
pub use Rattle.rx_model.specs.declared.mode.Mode.{Mode}
pub use Rattle.rx_model.specs.declared.mode.Mode.TheVariants.{Sets, Unicode}
pub use Rattle.rx_scan.proofs.MarkSteps.{values_length}
pub use Rattle.rx_scan.specs.declared.state.State.{State}
pub use Rattle.rx_tables.specs.Characters.{control_escape_value, hex_digit_value, is_decimal_digit, is_unicode_property_name_character, is_unicode_property_value_character}
pub use Rattle.rx_units.proofs.Choices.{both, chosen}
pub use Rattle.rx_units.specs.Cursor.{Cursor, front, move_on, offset_of, rest}
pub use Rattle.rx_units.specs.Digits.{front_is, is_hex_digit}
pub use Rattle.rx_units.specs.Pace.{IsPaced, TakesSteps, units_left}
pub use Rattle.rx_units.specs.Units.{offset_at, values}
pub use Rattle.rx_units.specs.declared.code_point.CodePoint.{CodePoint}
pub use Rattle.std.proofs.Math.Bool.{and-false, and-true, or-false}
pub use Rattle.std.proofs.lemmas.Bool.{and_right, cases_Bool, cond-false, cond-true, cond_both, eqb-true, false_from_ne_true, le-leb, not-true, true≢false}
pub use Rattle.std.proofs.lemmas.Bool.Decides.{nat_tests}
pub use Rattle.std.proofs.lemmas.List.{drop-drop, length-map, map-append, same_from_push}
pub use Rattle.std.proofs.lemmas.List.Elements.{All-head, All-nil, All-push, All-tail, All-weaker}
pub use Rattle.std.proofs.lemmas.Result.{IfOk-weaker, on_ok_weaker}
pub use Rattle.std.specs.List.{flat_map, list_all, prefix_len}
