-- The names that most proofs of this crate and of the one above it cite, passed on from one place. Declares nothing.
pub use Rattle.answers.proofs.FiniteLaws.{same}
pub use Rattle.answers.specs.Answered.{Answered, value_of}
pub use Rattle.answers.specs.Lists.{IsIn, IsNotIn}
pub use Rattle.answers.specs.Meaning.{answered}
pub use Rattle.answers.specs.declared.edit.Side.{Side}
pub use Rattle.answers.specs.declared.edit.Side.TheVariants.{Answer, Override}
pub use Rattle.common_lemmas.proofs.Bools.{and_intro, both, both_left, both_right, is_not, neither_or, not_true, or_false, or_left, or_neither, or_right}
pub use Rattle.common_lemmas.proofs.Bytes.{equal_bytes, same_bytes}
pub use Rattle.common_lemmas.proofs.Numbers.{equal_number, same_number}
pub use Rattle.common_lemmas.proofs.Options.{both_some, mapped}
pub use Rattle.dict_meaning.proofs.HomeLaws.{global_has_none, text_spells}
pub use Rattle.dict_meaning.proofs.ListTypes.{open_members}
pub use Rattle.dict_meaning.proofs.NumberLaws.{fact_within}
pub use Rattle.dict_meaning.proofs.PrintedLaws.{value_printed}
pub use Rattle.dict_meaning.proofs.SlotTextLaws.{slot_short, standing_slot}
pub use Rattle.dict_meaning.specs.Accepted.{Accepted, IsAccepted}
pub use Rattle.dict_meaning.specs.Fits.{AnswersFit, is_list, opens_of}
pub use Rattle.dict_meaning.specs.Homes.{home}
pub use Rattle.dict_meaning.specs.SlotText.{IsSlot, slot_path, slot_path_of, slot_text}
pub use Rattle.dict_meaning.specs.Slots.{members_of_home, slots_of}
pub use Rattle.dict_source.proofs.FindingLaws.{find_path-first}
pub use Rattle.dict_source.specs.Dictionary.{Dictionary as Tree}
pub use Rattle.dict_source.specs.Facts.{Fact}
pub use Rattle.dict_source.specs.Finding.{HasPath, fact_at, find_path}
pub use Rattle.dictionary.specs.AcceptedParts.{accepted, names_of}
pub use Rattle.evaluation.proofs.MemberLaws.{member_list-length}
pub use Rattle.evaluation.specs.Results.{slot}
pub use Rattle.fact_paths.proofs.CutLaws.{after-append, after_some, cut-append, cut-lacks, cut_some, front_lacks, uncut_lacks}
pub use Rattle.fact_paths.proofs.ParsingLaws.{one_path_from}
pub use Rattle.fact_paths.proofs.SlotPathLaws.{slot_lacks_blank, slot_path_reading}
pub use Rattle.fact_paths.specs.Cuts.{Lacks, after, cut}
pub use Rattle.fact_paths.specs.Names.{IsName, is_name, is_name_byte}
pub use Rattle.fact_paths.specs.Paths.{IsMemberNumber, IsSlotPath, SpellsMemberNumber, SpellsSlotPath, slot_path_text}
pub use Rattle.fact_paths.specs.declared.fact_path.FactPath.{FactPath}
pub use Rattle.fact_paths.specs.declared.slot_path.SlotPath.{SlotPath}
pub use Rattle.fact_paths.specs.declared.slot_path.SlotPath.TheVariants.{Global, Member}
pub use Rattle.fact_values.specs.Members.{IsMemberList}
pub use Rattle.fact_values.specs.declared.fact_type.FactType.{FactType}
pub use Rattle.fact_values.specs.declared.slot.Slot.{Slot}
pub use Rattle.fact_values.specs.declared.value.Value.{Value}
pub use Rattle.fg_io.proofs.SentLaws.{sent_piece}
pub use Rattle.fg_io.proofs.WritingLaws.{failed_within}
pub use Rattle.fg_io.specs.Sent.{Sent}
pub use Rattle.fg_io.specs.Writing.{Wrote, WrotePart}
pub use Rattle.saved_text.specs.CarriedParsing.{BeginsOther, EndsNone, IsCarriedStage, IsWith, JudgesCarried, MayFollow, ReadsCarried, ReadsLine, ReadsName, ReadsPath, Takes, TakesText, line_of, lines_of as read_lines, may_stand, new_or_fault, side_rank, stage_lines, text_of, texts_of}
pub use Rattle.saved_text.specs.CarriedText.{CarriedLine, CarriedText, CarriedTextsTellLines, HasItsForm, IsBelowNext, IsCarried, IsInOrder, IsShort, NamesOther, Pairs, SharesNone, carried, carried_lines, collection, entry, has_its_member, is_collection, key_text, line_text, lists_member, lists_member_of, members_in, rank}
pub use Rattle.saved_text.specs.Cursors.{slots_from, slots_left}
pub use Rattle.saved_text.specs.EntryKeys.{has}
pub use Rattle.saved_text.specs.Parsing.{IsNextNumber, ReadsMember, ReadsMembers, are_below, are_others}
pub use Rattle.saved_text.specs.Refused.{Begins, IsRefusedAt, first_lines}
pub use Rattle.saved_text.specs.SavedText.{counted, end_line, entries, entry_lines, entry_lines_of, list_lines, list_lines_of, lists, lists as lists_lines, next_line, opening_line, saved, saved_lines, side_word}
pub use Rattle.saved_text.specs.declared.carried_line.EntryLine.{EntryLine}
pub use Rattle.saved_text.specs.declared.carried_line.TextLine.{TextLine}
pub use Rattle.saved_text.specs.declared.carried_read.CarriedRead.{CarriedRead}
pub use Rattle.saved_text.specs.declared.carried_stage.CarriedStage.{CarriedStage}
pub use Rattle.saved_text.specs.declared.carried_stage.CarriedStage.TheVariants.{Lines, Number, Opening, Whole}
pub use Rattle.saved_text.specs.declared.fault.LoadFault.TheVariants.{BadSaved}
pub use Rattle.script_lines.proofs.Bytes.{HasNoNewline-append, lines_of-newline}
pub use Rattle.script_lines.proofs.JoinedLaws.{joined-append}
pub use Rattle.script_lines.proofs.PartLaws.{name_lacks_blank}
pub use Rattle.script_lines.specs.Joined.{joined}
pub use Rattle.script_lines.specs.Lines.{HasNoNewline, lines_of, onto_first}
pub use Rattle.script_lines.specs.declared.fault.LineFault.{LineFault}
pub use Rattle.script_lines.specs.declared.fault.LineFault.TheVariants.{BadLine, NoMemory}
pub use Rattle.std.proofs.Common.{Bool, Bor, Contains, Err, List, None, Ok, Option, Result, Some, [], ap, append_assoc, arith, bytes_eq, cond, drop, false, filter, get_or, inl, inr, is_some, le_of_suc-le-suc, length, length-append, lt_of_not-le, map, nat_eq, not, refl, rules, slice_get, subst, suc, sym, take, true, zero, ℕ, ℤ, ◌&&◌, ◌*◌, ◌++◌, ◌+◌, ◌-◌, ◌<◌, ◌^◌, ◌||◌, ◌∙◌, ◌∷◌, ◌≡◌, ◌≢◌, ◌≤◌, ◌⊎◌}
pub use Rattle.std.proofs.lemmas.Bool.{cases_lt, eqb-true, leb-true}
pub use Rattle.std.proofs.lemmas.Bool.Decides.{nat_tests}
pub use Rattle.std.proofs.lemmas.List.{append-nil, length-map, map-append}
pub use Rattle.std.proofs.lemmas.List.Elements.{All-cons, All-from_get_or, All-head, All-nil, All-tail, Contains-append_cases, Contains-append_left, Contains-append_right, Contains-push, Contains-push_cases, filter-append}
pub use Rattle.std.proofs.lemmas.List.Folds.{list_any-append}
pub use Rattle.std.proofs.lemmas.Option.{none-some, same_Some, some_pair_parts}
pub use Rattle.std.specs.List.{AllByRecursion, find, flat_map, list_all, list_any}
pub use Rattle.std.specs.Map.{lookup}
pub use Rattle.std.specs.Prelude.{IfErr, IsTrue, MatchOption, OnOk, codes, count_by, decimal, if◌then◌else◌, nat_le, nat_lt, option_and_then, option_map, string_bytes, ◌==◌, ◌↔◌}
pub use Rattle.std.specs.Str.{IsUtf8}
pub use Rattle.value_text.proofs.DigitLemmas.{own}
pub use Rattle.value_text.proofs.EnumLemmas.{name_short}
pub use Rattle.value_text.specs.Enums.{AreLists, Listed, option_at}
pub use Rattle.value_text.specs.MemberTexts.{printed_item, printed_rest}
pub use Rattle.value_text.specs.Values.{IsPrinted, SpellsValue, printed, printed_boolean}
