-- Names that proofs of this crate cite, passed on from one place. Declares nothing.
pub use Rattle.rx_ast.specs.ClassTree.{Class, mirror_class}
pub use Rattle.rx_ast.specs.Spans.{class_span, leaf_span, node_span}
pub use Rattle.rx_ast.specs.Tree.{Node, alternatives, group, leaf, mirror_alternative, mirror_disjunction, mirror_term, nodes, quantified}
pub use Rattle.rx_ast.specs.declared.leaf.CharacterKind.{CharacterKind}
pub use Rattle.rx_ast.specs.declared.leaf.UnicodePropertyEscape.{UnicodePropertyEscape}
pub use Rattle.rx_ast.specs.declared.term.Alternative.{Alternative}
pub use Rattle.rx_ast.specs.declared.term.Disjunction.{Disjunction, out-Disjunction, out-roll-Disjunction}
pub use Rattle.rx_ast.specs.declared.term.Pattern.{Pattern}
pub use Rattle.rx_ast.specs.declared.term.Quantifier.{Quantifier}
pub use Rattle.rx_ast.specs.declared.term.Term.{Term}
pub use Rattle.rx_base.specs.Rising.{Rises}
pub use Rattle.rx_base.specs.Texts.{is_among}
pub use Rattle.rx_base.specs.declared.diagnostic.Diagnostic.TheVariants.{BracedQuantifierOutOfOrder, DuplicatedCapturingGroupNames, DuplicatedModifiers, EmptyGroupSpecifier, InvalidExtendedAtomEscape, InvalidIndexedReference, InvalidInput, InvalidModifiers, InvalidNamedReference, InvalidSurrogatePair, InvalidUnicodeEscapeSequence, ParsePatternIncomplete, TooLargeNumberDigits, TooLargeNumberInBracedQuantifier, TooMayCapturingGroups, UnknownModifiers, UnterminatedPattern}
pub use Rattle.rx_base.specs.declared.fault.Fault.TheVariants.{Diagnostic, OutOfMemory}
pub use Rattle.rx_base.specs.declared.fault.Fault.{Fault}
pub use Rattle.rx_base.specs.declared.span.Span.{Span}
pub use Rattle.rx_class.proofs.Fitting.{offset_fits, offset_here_fits}
pub use Rattle.rx_class.specs.EscapeReading.Found.{seen_escape}
pub use Rattle.rx_class.specs.Fitting.{AreFitting}
pub use Rattle.rx_model.proofs.Characters.LegacyEscapes.{any_refused, any_spelled, any_within}
pub use Rattle.rx_model.proofs.FirstPass.OwnGroups.{environment_by, own_environment, tells_groups}
pub use Rattle.rx_model.proofs.Groups.ModifierBits.{and_three, bits_small, or_three, three}
pub use Rattle.rx_model.proofs.Groups.ModifierFronts.{AreWrong, duplicated, empty, invalid, unknown}
pub use Rattle.rx_model.proofs.Groups.NameFronts.{EscapeAfter, SaysNameHalt, no_pair}
pub use Rattle.rx_model.proofs.Reading.FrontReading.{Says, SaysHalt, front_said}
pub use Rattle.rx_model.proofs.Reading.Fronts.{Front, front_spelled, legacy_syntax, spelled_some}
pub use Rattle.rx_model.proofs.Reading.OneRow.{one_row_by_mode, property_same}
pub use Rattle.rx_model.proofs.Trees.Flat.{before, before-append, before_opener, before_within, tokens_of-append}
pub use Rattle.rx_model.proofs.Trees.Joins.{row_append, row_split, row_tokens}
pub use Rattle.rx_model.proofs.Trees.Names.{among, found_among}
pub use Rattle.rx_model.proofs.Trees.Runs.{Passes, node_runs, nodes_run, run-append}
pub use Rattle.rx_model.specs.Characters.LegacyEscapes.{SpellsLegacy, run_number}
pub use Rattle.rx_model.specs.Characters.UnitKinds.{unit_kind}
pub use Rattle.rx_model.specs.Classes.ClassRows.{ClassRow, IsClassSpanned, Place, fresh, next_place, outside}
pub use Rattle.rx_model.specs.FirstPass.Marks.{name_places, starts}
pub use Rattle.rx_model.specs.Groups.GroupFronts.{letters_at, second_side, sides, sides_at}
pub use Rattle.rx_model.specs.Groups.GroupNames.{IsNameRow, SpellsName, no_name, some_name}
pub use Rattle.rx_model.specs.Groups.Groups.{BeginsName, EndsName, IsModified, IsModifying, of_group, of_reference}
pub use Rattle.rx_model.specs.Groups.ModifierFronts.{ModifiersHalt, are_bits, no_colon, no_modifiers_read, read_bits, read_sides}
pub use Rattle.rx_model.specs.Groups.Modifiers.{has_twice, is_modifier, letters_bits, occurs}
pub use Rattle.rx_model.specs.Groups.NameFronts.{NameRead, name_read, name_read_at, no_name_read, read_after_name, read_from_row}
pub use Rattle.rx_model.specs.Inputs.Environment.{Environment, environment, environment_with, for_classes, has_some, is_unicode}
pub use Rattle.rx_model.specs.Inputs.Flags.{flags_ok, mode_of, modes_of}
pub use Rattle.rx_model.specs.Inputs.Inputs.{Asks, AsksFor, Input}
pub use Rattle.rx_model.specs.Inputs.Modes.{mode_by}
pub use Rattle.rx_model.specs.Inputs.Texts.{AreFlagUnits, AreUnits, HasNoUnits, first_offset, is_quote, literal_text, no_flags, of_literal, of_quoted, quoted_text, some_flags, some_units, stand_in}
pub use Rattle.rx_model.specs.Properties.PropertyForms.{begins_property}
unfoldable pub use Rattle.rx_model.specs.Reading.FrontReading.{front_read}
pub use Rattle.rx_model.specs.Reading.FrontReading.{FrontHalt, ends_here, escape_read, in_modifiers, in_name, many_decimal_digits, many_hex_digits, modified_read, no_angle, no_unicode_escape, token_read, with_name}
unfoldable pub use Rattle.rx_model.specs.Reading.Fronts.{counts_at}
pub use Rattle.rx_model.specs.Reading.Fronts.{are_counts, digits, digits_after, front, is_raw_at}
pub use Rattle.rx_model.specs.Reading.Headline.{IsFaultOf, IsFirstRefusal, IsParsed, IsValid, no_flags_text, no_memory, no_text, of_flags, of_text, refused, whole_span}
pub use Rattle.rx_model.specs.Reading.Reading.{IsOnly, IsSpelled, Reads}
pub use Rattle.rx_model.specs.Reading.Rows.{Row, Spells, TokenRow, is_legacy_syntax, stands_raw}
pub use Rattle.rx_model.specs.Refusals.Causes.{IsCauseAtPlace, at_place, duplicated_modifiers, duplicated_names, empty_modifiers, incomplete, invalid_in_name, invalid_modifiers, invalid_u_in_name, last_backslash, lone, lone_in_legacy, misplaced_in_name, misplaced_pair, name_span, no_group_name, no_such_group, no_such_name, of_escape, of_property, out_of_order, too_large, too_many_digits, too_many_digits_in_name, too_many_groups, unknown_modifiers, unterminated, unterminated_group, unterminated_name, unterminated_name_in_legacy}
pub use Rattle.rx_model.specs.Refusals.EscapeCauses.{IsPropertyCause, invalid_escape, too_many_hex_digits}
pub use Rattle.rx_model.specs.Refusals.Firsts.{IsFirst, IsFirstInClass, no_item, of_groups, of_places, yielding_of}
pub use Rattle.rx_model.specs.Refusals.FlagCauses.{IsFlagCause}
pub use Rattle.rx_model.specs.Refusals.Reached.{AreObeying, HasNoClash, IsInside, IsPlace, IsReached, class_environment, span_between, text_environment, text_groups, text_names}
pub use Rattle.rx_model.specs.Refusals.Stops.{IsStop, after_backslash, at_brace, at_bracket, at_closer, at_end}
pub use Rattle.rx_model.specs.Trees.Early.{IsEarlyClass, IsEarlyOpener, Obeys, most_groups}
unfoldable pub use Rattle.rx_model.specs.Trees.Events.{alternative_events, disjunction_events, term_events}
pub use Rattle.rx_model.specs.Trees.Events.{Event, Events, alternatives_events, barred_events, enter, events, inside, leaf_event, leave, modified, node_events, nodes_events, opener_event, token, tokens, tokens_of, within}
pub use Rattle.rx_model.specs.Trees.Shapes.{AreAlternatives, AreNodes, HasAlternatives, IsNode, IsWellMade, group_takes, leaf_takes, run, takes}
pub use Rattle.rx_model.specs.Trees.Token.{Opener, Token, bar, boundary, capturing, character, class, class_escape, closer, dot, ignoring, indexed, letter_bits, looking, named, opener, opener_of, property, quantifier}
pub use Rattle.rx_model.specs.declared.form.Form.TheVariants.{Constructor, Literal}
pub use Rattle.rx_model.specs.declared.form.Form.{Form}
pub use Rattle.rx_model.specs.declared.mode.Mode.TheVariants.{Legacy, Sets, Unicode}
pub use Rattle.rx_model.specs.declared.mode.Mode.{Mode}
pub use Rattle.rx_model.specs.declared.rules.Rules.{Rules}
pub use Rattle.rx_parser.specs.Faults.{IsEndedFault, IsHaltFault, halt_refusal, lone_refusal, modifiers_refusal}
pub use Rattle.rx_parser.specs.Found.{HoldsName, IsFound, IsHalt, IsOpenerFound, Stands, found_fault, found_front, found_halt, found_opener, leaf_token}
unfoldable pub use Rattle.rx_parser.specs.Frames.{builder_events}
pub use Rattle.rx_parser.specs.Frames.{fixed_of, frame_events, frames_events, opener_tree, openers, openers_onto, ready}
unfoldable pub use Rattle.rx_parser.specs.Good.{IsGood, IsGoodLevel}
pub use Rattle.rx_parser.specs.Good.{AreGoodAlternatives, AreGoodFrames, AreGoodTerms, IsGoodAlternative, IsGoodDisjunction, IsGoodFrame, IsGoodTerm}
pub use Rattle.rx_parser.specs.GroupKinds.{IsGroupKindOf}
pub use Rattle.rx_parser.specs.HaltPlaces.{halt_end, halt_start}
pub use Rattle.rx_parser.specs.Inputs.{flags_chars, input_of, stand_in_length}
unfoldable pub use Rattle.rx_parser.specs.Levels.{level_events}
pub use Rattle.rx_parser.specs.Levels.{Repeats, last_takes, strung, with_bars}
pub use Rattle.rx_parser.specs.Names.{found_name, found_name_halt}
unfoldable pub use Rattle.rx_parser.specs.Pace.{digit_run, plain}
pub use Rattle.rx_parser.specs.Pace.{HasStepped, IsTokenPaced, IsTurnPaced, LooksAtEscape, LooksAtSyntax, MovesOver, TakesToken, halt_looks, looks, name_looks, token_looks}
pub use Rattle.rx_parser.specs.Parsing.{AnswersUnits, HoldsPass, IsParsing, IsRefused, IsWhole, rules_of_state}
pub use Rattle.rx_parser.specs.Progress.{IsAt, IsLeafOf}
pub use Rattle.rx_parser.specs.Texts.{GivesUnits, seen_input}
pub use Rattle.rx_parser.specs.Turns.{HasMore, HasTurned, IsBefore, IsTurned, IsUnderWay, RefusesText, StandsNext, fixed_parts}
pub use Rattle.rx_parser.specs.declared.builder.Builder.{Builder}
pub use Rattle.rx_parser.specs.declared.found.Found.TheVariants.{Leaf, NamedReference, Open}
pub use Rattle.rx_parser.specs.declared.found.Halt.{Halt}
pub use Rattle.rx_parser.specs.declared.found.Leaf.TheVariants.{Character}
pub use Rattle.rx_parser.specs.declared.frame.Frame.{Frame}
pub use Rattle.rx_parser.specs.declared.frame.GroupKind.{GroupKind}
pub use Rattle.rx_parser.specs.declared.level.Level.{Level}
pub use Rattle.rx_parser.specs.declared.turn.Parse.{Parse}
pub use Rattle.rx_scan.proofs.MarkSteps.{values_drop}
pub use Rattle.rx_scan.specs.Environments.{seen_environment, state_environment}
pub use Rattle.rx_scan.specs.StateFaults.{IsStateFault, mode_of_state, name_offsets}
pub use Rattle.rx_scan.specs.declared.state.State.{State}
pub use Rattle.rx_tables.specs.Characters.{is_decimal_digit, is_syntax_character}
pub use Rattle.rx_units.proofs.Choices.{chosen}
pub use Rattle.rx_units.proofs.Sources.{no_units_faulty, one_decodes}
pub use Rattle.rx_units.specs.Cursor.{Cursor, move_on, offset_of, rest}
pub use Rattle.rx_units.specs.Digits.{PassesHex, front_is}
pub use Rattle.rx_units.specs.Sources.{Decodes, IsQuotedFault, plain_options}
pub use Rattle.rx_units.specs.Units.{literal_units, offset_at, unit, values}
pub use Rattle.rx_units.specs.declared.code_point.CodePoint.{CodePoint}
pub use Rattle.std.proofs.Math.Seq.{drop-append_seam, take-append_seam}
pub use Rattle.std.proofs.lemmas.Bool.Decides.{nat_tests}
pub use Rattle.std.proofs.lemmas.Bool.{cases_Bool, cond-false, cond-true, iff_false}
pub use Rattle.std.proofs.lemmas.Grind.{common_steps}
pub use Rattle.std.proofs.lemmas.List.Elements.{All-append, All-cons, All-drop, All-get_or, All-nil, All-push, All-weaker}
pub use Rattle.std.proofs.lemmas.List.{drop-map, drop_all, length-map, take-map}
pub use Rattle.std.proofs.lemmas.Result.{IfOk-weaker, err_from_is_err_and, on_ok_weaker}
pub use Rattle.std.proofs.lemmas.Str.{encodes-chars}
