-- The names that most proofs cite, passed on from one place.
pub use Rattle.std.proofs.Common.{ℕ, List, [], arith, refl, false, ◌∙◌, sym, true, ap, Bool, None, Option, Some, length, suc, subst, map, zero, ⊎_elim, append_assoc, filter, Err, inl, Ok, inr, take, reverse, min, max, rules, get_or, replicate}
pub use Rattle.std.proofs.Math.ListN.{get_or-eq_default}
pub use Rattle.std.proofs.lemmas.Bool.{eqb-true, eq-eqb, lt-ltb, cases_Bool, le-ltb, ne_eqb, ltb-false, cond_both, and_parts, cases_lt, ltb-true, cases_eq, or_parts, leb-false, and_left, and_from}
pub use Rattle.std.proofs.lemmas.Bool.Decides.{nat_tests}
pub use Rattle.std.proofs.lemmas.List.{append-nil, length-append, length-map, map-append, reverse-append, append_cancel_left, take_all, ext_get_or, get_or-set_same, get_or-set_other, length-set, get_or_append_left, get_or-map, reverse-reverse, take-append-le, length_push, take_more, get_or_default}
pub use Rattle.std.proofs.lemmas.List.Elements.{filter-append, All-get_or, All-map, All-append, All-filter, All-set, filter_passes}
pub use Rattle.std.proofs.lemmas.List.FromFn.{length-map-range_with_len, get_or-map-range_with_len, map-range_with_len_more, length-range_with_len}
pub use Rattle.std.proofs.lemmas.List.Sums.{sum_by-cons, count_by_more_no, count_by_more_yes, length-filter}
pub use Rattle.std.specs.List.{range_with_len, list_any, count_by, sum_by, AllByRecursion}
pub use Rattle.std.specs.Option.{option_or, option_map_or}
pub use Rattle.std.specs.Prelude.{not, nat_lt, is_some, is_none, slice_index_or, ⊤, option_and_then, option_map, MatchBool, slice_set, IfOk, All, IfSome, nat_le, OnOk, option_to_list, slice_get, OnErr, codes, bytes_eq, flat_map, MatchResult, unwrap_or, is_err, drop}
pub use Rattle.call_plan.specs.Plan.{PlanRecord, time_of}
pub use Rattle.connect_codec.specs.declared.answer.Outcome.{Outcome}
pub use Rattle.connect_codec.specs.declared.answer.Outcome.TheVariants.{Answer, Fail}
pub use Rattle.gateway_model.specs.Arrival.{Judged, Asks, arrival_of}
pub use Rattle.gateway_model.specs.Breaks.{by_events, BreakAsTheyMay, CanBreakAt, MayOccur, InOrder}
pub use Rattle.gateway_model.specs.CallRecord.{CallRecord, last_event, answer_in, answer_of_branch, answers_in}
pub use Rattle.gateway_model.specs.Concerns.{can_break, concerns, decided_by}
pub use Rattle.gateway_model.specs.Events.{Before, listens, stream, Occurs, is_open, OccursAt, hung_up, connections, Gains, once, succeeds, onto, piece_of, is_closing_of, requests_gained, refusal_gained, open_connections, IsShifted, is_hang_up_of, most_open}
pub use Rattle.gateway_model.specs.History.{History, after_event, no_history, after_jobs}
pub use Rattle.gateway_model.specs.Job.{JobValue, job_of}
pub use Rattle.gateway_model.specs.Known.{is_of, IsKnown, Shown, record_now, is_whole}
pub use Rattle.gateway_model.specs.Occurrence.{Occurrence, Comes, Coming, Break, Result, Moment, Drain, HangUp, Closing, Opening, Request, Refused}
pub use Rattle.gateway_model.specs.Own.{own, without_breaks, is_break, is_visible}
pub use Rattle.gateway_model.specs.Past.{Past, marked, call, mark_of, Mark, arrivals, call_id, ArrivedCall, is_out, is_broken, is_call, started, is_shut, now, began, decided, coming_now, asked_now, answers, own_event, count_below, breaks, is_result_of, is_answer_to, can_be_decided, decides, branches, coming_on, shuts, branch_deadlines, counts, crowds, is_due, event_by, undecided_calls, how_seen, asked_by, is_drained, ends_at_arrival, due_by, deadline_from, deadlines_out, most_calls, is_drain, moment_of, started_when, smaller, least_of, is_undecided, deciding, outs, first_at, past_of, of_branch}
pub use Rattle.gateway_model.specs.Queue.{entry, came, queued_entries, own_events, front, IsPrefixOf, call_entry, record_of, entry_by, record_deadlines, queued, answer_of}
pub use Rattle.gateway_model.specs.Starts.{occurrences, Placed, jobs_by, jobs_started, jobs, branches_started, starts}
pub use Rattle.gateway_model.specs.declared.call_event.CallEvent.{CallEvent}
pub use Rattle.gateway_model.specs.declared.call_event.CallEvent.TheVariants.{Expired, BranchExpired, Failed}
pub use Rattle.gateway_model.specs.declared.entry.ReplyEntry.{ReplyEntry}
pub use Rattle.gateway_model.specs.declared.entry.ReplyEntry.TheVariants.{Call, Crowded}
pub use Rattle.gateway_model.specs.declared.event.Event.{Event}
pub use Rattle.gateway_model.specs.declared.event.Event.TheVariants.{Piece, BranchResult}
pub use Rattle.gateway_model.specs.declared.id.CallId.{CallId}
pub use Rattle.gateway_model.specs.declared.seen.Seen.TheVariants.{Counted, Unknown, Late}
pub use Rattle.http_pieces.specs.Reader.{HasRead, ReaderValue, is_over, HasReadTo, Partial, Done, Reading, Stopped, Waiting, reader_value, after_request}
pub use Rattle.http_pieces.specs.Request.{HttpRequest, closes, most_requests, is_v10}
pub use Rattle.http_pieces.specs.Requests.{StreamEnd, Closed, Requests, RefusedBy, Open, EndsAt, unfinished, broken}
pub use Rattle.gateway_theory.specs.Arrivals.{calls_arrived, calls_in}
pub use Rattle.gateway_theory.specs.Begins.{arrive, first_ones, begins, new_live, begun_live, first_jobs, first_out}
pub use Rattle.gateway_theory.specs.Breaks.{CallStays, NothingOf, starting_conn, seen_by}
pub use Rattle.gateway_theory.specs.Connection.{SlotsStand, AllStand, Now, went, filled, now_of, is_shut_value, call_step, now_after, breaks_of, all_after, ConnectionStands, forgets, arriving, entered, next, stepped, all_started, MayCome, reply_taken, NowStands, started_by}
pub use Rattle.gateway_theory.specs.Core.{CoreValue, HasConns, Adds, Lives, is_heard, StreamStands, is_waiting, at_place, Served, HasStreams, then_came, refusals, FedUpTo, HasCome}
pub use Rattle.gateway_theory.specs.Ends.{AreApart, ended_kept, ended_call, ended_if}
pub use Rattle.gateway_theory.specs.Gateway.{core_of, is_broken_conn, open_count, if_open, is_open_conn, call_in, next_reply, one_if_open, untaken_of, calls_kept}
pub use Rattle.gateway_theory.specs.Held.{Holds, lost_held, broken_held, left_of, result_in, settled_held, broke, ended_held, hears, back_held, entered_held, arriving_in, hung_held, Forgets, TakesResult, TakesStarved, closed_held, forgotten, late, lost, new_reader, settled, stays, unknown, stepped_held, read_held, TakesBytes, dropped, not_fed, read, unread, CallsEnd, ended, HangsUp, hung, unnoticed, ended_entry, has_out_in, is_gone, new_held, kept_now, next_held, replied, ReadsOn, coming_of, most_begun, HasBrought, undecided, begun_by, TakesReply, taken_held, begins_call}
pub use Rattle.gateway_theory.specs.LiveStands.{CallStands, LiveStands, is_live, Stepped, MayLive, tasks_from}
pub use Rattle.gateway_theory.specs.Conn.{slot_at, is_full}
pub use Rattle.gateway_theory.specs.Replies.{ReplyValue, replies}
pub use Rattle.gateway_theory.specs.RequestLaws.{RequestLaws}
pub use Rattle.gateway_theory.specs.Results.{is_spent, stepped_kept, back_kept}
pub use Rattle.gateway_theory.specs.Served.{after_reply}
pub use Rattle.gateway_theory.specs.Serving.{IsServing, IsHeld, CountsCalls, Keeps, KeepsBut, NotListening, TakesOnly, TakesSome, TellsStep, WouldBegin, is_silent, Breaks, NoneSpent}
pub use Rattle.gateway_theory.specs.Step.{kept, Step, has_out, step, result_on, ended_by, step_to, ended_live, ending, entry_as, deadlines_then, first_of, rest_of, next_out, is_last_answer, counted}
pub use Rattle.gateway_theory.specs.Steps.{Moves, absent, there, HangsUpAt, Results, Starves, Feeds, Drains, Reaches, Closes, Opens, Broadcast, MayEnd, TakesJob, TakesReplyAt, shut, open_in, Tallies, kept_in, first_gateway}
pub use Rattle.gateway_theory.specs.Store.{kept_at, no_call, IsFound, given_up}
pub use Rattle.gateway_theory.specs.Task.{HandedJob, task_of}
pub use Rattle.gateway_theory.specs.Told.{HandsJobs, HandsReply, IsWanted, LeavesLived, LeavesReplied, TellsTook, AddsEvent, AddsOpening, OpensFew, TakesEvent, TakesOneOf, TakesOpening, TakesOne, IsSeen}
pub use Rattle.gateway_theory.specs.Values.{ConnectionValue, HeldConnection, GatewayValue, conn_of, is_open_value, Live, connection, connection_of, call_state, not_kept, KeptValue, value_of, CallState, call_at, gone, is_broken_value, shown, shown_of, untaken_value, StreamValue, new_stream, stream_in, stream_of, are_all_there, is_done, call_deadline, deadline_in, deadline_among, deadlines_in, moment_after}
pub use Rattle.gateway_theory.specs.declared.fault.StepFault.{StepFault}
pub use Rattle.gateway_theory.specs.declared.fault.Took.{Took}
pub use Rattle.gateway_theory.specs.declared.trigger.Trigger.{Trigger}
pub use Rattle.gateway_theory.specs.declared.trigger.Trigger.TheVariants.{Reached, Drained, HungUp}
