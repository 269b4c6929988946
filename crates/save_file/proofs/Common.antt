-- The names that most proofs of this crate cite, passed on from one place. Declares nothing.
pub use Rattle.saved_text.proofs.Common.{Accepted, All-cons, All-head, All-nil, All-tail, AllByRecursion, Answer, Answered, AnswersFit, AreLists, Bool, CarriedLine, CarriedText, Contains, Contains-append_left, Contains-push, Contains-push_cases, Err, Fact, FactPath, FactType, Global, HasItsForm, HasNoNewline, HasPath, IfErr, IsAccepted, IsBelowNext, IsCarried, IsCarriedStage, IsIn, IsInOrder, IsMemberList, IsName, IsNotIn, IsPrinted, IsRefusedAt, IsShort, IsSlot, IsSlotPath, IsTrue, Lacks, List, Member, NamesOther, None, Ok, OnOk, Option, Override, Pairs, Result, Sent, SharesNone, Side, Slot, SlotPath, Some, Tree, Value, Wrote, [], accepted, and_intro, answered, ap, append-nil, append_assoc, arith, both, both_some, bytes_eq, carried, carried_lines, codes, collection, cond, count_by, counted, cut, cut-append, cut-lacks, drop, end_line, entries, entry, entry_lines, eqb-true, equal_bytes, equal_number, fact_at, fact_within, failed_within, false, filter, find, find_path-first, flat_map, get_or, global_has_none, has_its_member, home, inl, inr, is_collection, is_list, is_some, joined, joined-append, key_text, length, length-append, length-map, line_of, line_text, lines_of, list_any, list_any-append, list_lines, list_lines_of, lists, lists_lines, lists_member, lists_member_of, lookup, map, map-append, mapped, member_list-length, members_in, members_of_home, name_lacks_blank, name_short, names_of, nat_eq, nat_lt, nat_tests, next_line, none-some, not, open_members, opening_line, opens_of, option_and_then, option_at, option_map, or_left, or_neither, or_right, printed, printed_rest, rank, read_lines, refl, same, same_Some, same_bytes, same_number, saved, sent_piece, side_word, slice_get, slot, slot_lacks_blank, slot_path, slot_path_of, slot_path_text, slot_short, slot_text, slots_of, stage_lines, subst, suc, sym, take, text_of, text_spells, texts_of, true, value_of, value_printed, zero, ℕ, ◌&&◌, ◌*◌, ◌++◌, ◌+◌, ◌-◌, ◌<◌, ◌||◌, ◌↔◌, ◌∙◌, ◌∷◌, ◌≡◌, ◌≢◌, ◌≤◌, ◌⊎◌}
pub use Rattle.answers.proofs.FiniteLaws.{get_map_of}
pub use Rattle.answers.proofs.StandLaws.{entry_stands, none_some}
pub use Rattle.answers.specs.Answered.{Entry, entry as entry_at, list_of, of_side, start, start_at}
pub use Rattle.answers.specs.Change.{IsListed, Stands, applied, sets}
pub use Rattle.answers.specs.Finite.{Numbered, and_then, map_of}
pub use Rattle.answers.specs.GivenLists.{AreApart, AreBelow, FactsRise, IsAfter, IsBelow, IsOfLists, IsWithout}
pub use Rattle.answers.specs.Lists.{Once}
pub use Rattle.answers.specs.WellFormed.{FromOne, WellFormed}
pub use Rattle.common_lemmas.proofs.Bools.{chosen}
pub use Rattle.common_lemmas.proofs.Options.{something}
pub use Rattle.dict_meaning.proofs.FitStart.{given_fit, given_value, start_fits}
pub use Rattle.dict_meaning.proofs.HomeLaws.{home_is_collection}
pub use Rattle.dict_meaning.proofs.SlotLaws.{fact_of_standing, listed_stand, slot_same-equal, slot_same-itself}
pub use Rattle.dict_meaning.proofs.SlotTextLaws.{member_below}
pub use Rattle.dict_meaning.specs.Fits.{IsOfFact, domains, is_answered_by, is_overridden_by, takes}
pub use Rattle.dict_meaning.specs.Slots.{is_member, slot_same, slots_up_to, stands}
pub use Rattle.dict_source.proofs.Guards.{guarded}
pub use Rattle.dict_source.specs.Dictionary.{is_collection as is_collection_type, too_many}
pub use Rattle.dict_source.specs.Facts.{fact_size}
pub use Rattle.dictionary.specs.AcceptedParts.{AcceptedParts}
pub use Rattle.fact_paths.specs.Cuts.{IsFirstAt}
pub use Rattle.graph_session.proofs.NamingLaws.{found_number}
pub use Rattle.graph_session.specs.Judging.{is_given, value_spelled}
pub use Rattle.graph_session.specs.Naming.{fact_of, lacks_member, member_of, named_fact, path_of, slot_of}
pub use Rattle.graph_session.specs.Refusals.{decided, first_of, limit_refusals, set_refusals, slot_found, value_refusals, when}
pub use Rattle.graph_session.specs.Rules.{Rules, rules, tree_of}
pub use Rattle.graph_session.specs.declared.reply.Refusal.TheVariants.{BadValue, NoMember, UnknownFact, WrongKind}
pub use Rattle.graph_session.specs.declared.reply.Refusal.{Refusal}
pub use Rattle.node_types.specs.StatedTypes.{type_at}
pub use Rattle.save_file.specs.Carrying.{AreOfKept, CarryingGivesOne, EachLineIsKeptOrListed, IsCarry, IsCarryOf, IsKept, IsKeptOrListed, IsRefusedAnswer, OwnLinesAreKept, RefusesCarried, SavedTextsAreCarried, dropped_numbers, keeps, kept_collection, kept_value, numbers_failing}
pub use Rattle.save_file.specs.Dropped.{is_next, past, said, said_at, said_if}
pub use Rattle.save_file.specs.Keeping.{ArePlaced, IsPlaced, entered, opened, opened_at, opens_fact, taken_value}
pub use Rattle.save_file.specs.Loading.{RefusesText, SavedTextsTellAnswers}
pub use Rattle.save_file.specs.OwnLines.{AreOwn, IsHighest, IsPositionOfLast, Rise, counted_from, is_list_named, is_own, is_printed_of, member_place, members_by, members_named, place_in, position, position_behind, position_of_last}
pub use Rattle.save_file.specs.Resuming.{dropped_from, dropped_line, overrides}
pub use Rattle.save_file.specs.WhoseText.{GivesLines, IsOf, IsOfUpTo, IsWhose, JudgesLast, ReadsNext, Refuses}
pub use Rattle.saved_text.specs.CarriedParsing.{EndsCarried, Grows, IsNext}
pub use Rattle.saved_text.specs.SavedText.{entry_line, entry_lines_of, facts, list_line, saved_lines, slots}
pub use Rattle.saved_text.specs.declared.carried_line.EntryLine.{EntryLine}
pub use Rattle.saved_text.specs.declared.carried_line.TextLine.{TextLine}
pub use Rattle.saved_text.specs.declared.carried_read.CarriedRead.{CarriedRead}
pub use Rattle.saved_text.specs.declared.carried_stage.CarriedStage.TheVariants.{Lines, Number, Opening, Whole}
pub use Rattle.saved_text.specs.declared.carried_stage.CarriedStage.{CarriedStage}
pub use Rattle.saved_text.specs.declared.fault.LoadFault.TheVariants.{BadSaved}
pub use Rattle.saved_text.specs.declared.fault.LoadFault.{LoadFault}
pub use Rattle.std.proofs.Common.{All, IsSome, if◌then◌else◌, is_none, length-drop, string_bytes}
pub use Rattle.std.proofs.lemmas.Bool.{false_from_ne_true, ltb-false}
pub use Rattle.std.proofs.lemmas.List.Elements.{All-contains_itself, All-from_recursion, All-get_or, All-weaker, recursion_from_All}
pub use Rattle.std.proofs.lemmas.List.{drop_more, take_all}
pub use Rattle.std.specs.Prelude.{IfOk, option_copied, sum_by, unwrap_or}
pub use Rattle.value_text.specs.Values.{value_at}
