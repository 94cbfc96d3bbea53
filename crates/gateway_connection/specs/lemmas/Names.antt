-- The names that most proofs cite, passed on from one place.
pub use Rattle.std.proofs.Common.{ap, ◌∙◌, sym, ◌≡◌, arith, length, refl, [], ◌<◌, subst, ◌∷◌, ℕ, Some, true, false, List, None, ◌++◌, map, ◌+◌, Option, Bool, ◌≤◌, suc, append-nil, ⊎_elim, zero, slice_index_or, ◌-◌, min, Ok, drop, Err, take, rules, Result, append_assoc, inl, inr}
pub use Rattle.std.proofs.lemmas.Bool.{cases_Bool, eq-eqb, or_parts, ne_eqb, ltb-true, ltb-false, lt-ltb, le-ltb, cases_lt, eqb-true, cases_eq}
pub use Rattle.std.proofs.lemmas.Bool.Decides.{nat_tests}
pub use Rattle.std.proofs.lemmas.List.{length-append, length-map, get_or-map, get_or_default, map-append, set-get_or, get_or-set_other, length-set, map-set, take_more, take_all, map_push}
pub use Rattle.std.proofs.lemmas.List.Elements.{All-head, All-tail, All-cons, filter-append, All-nil, All-filter, All-push}
pub use Rattle.std.proofs.lemmas.List.Folds.{list_any-append, list_any_at, list_any_none}
pub use Rattle.std.proofs.lemmas.List.FromFn.{map-range_with_len_more, length-map-range_with_len, get_or-map-range_with_len}
pub use Rattle.std.proofs.lemmas.List.Sums.{sum_by-set, sum_by_push, get_or-le-sum_by, sum_by-cons}
pub use Rattle.std.specs.Arc.{arc_value}
pub use Rattle.std.specs.List.{list_any, range_with_len, count_by, remove}
pub use Rattle.std.specs.Option.{option_or, option_map_or}
pub use Rattle.std.specs.Prelude.{is_some, if◌then◌else◌, slice_set, All, ◌==◌, ◌||◌, filter, option_map, option_to_list, not, nat_lt, slice_get, is_none, nat_le, ◌⊎◌, ◌&&◌, IsTrue, IfNone, IfSome, MatchOption, option_and_then, IfErr}
pub use Rattle.call_contexts.specs.Standing.{branch_before, ends_branch, sooner_branch, first_branch, if_before, drop_branch}
pub use Rattle.call_plan.specs.Plan.{PlanRecord, IsLawful}
pub use Rattle.connect_codec.specs.declared.answer.Outcome.{Outcome}
pub use Rattle.gateway_model.specs.CallRecord.{CallRecord}
pub use Rattle.gateway_model.specs.Occurrence.{Request, Coming}
pub use Rattle.gateway_model.specs.Past.{is_call, call_id, ArrivedCall, deadline_from, is_due, least_of, smaller, due_by, first_at, is_at}
pub use Rattle.gateway_model.specs.Queue.{record_of, front}
pub use Rattle.gateway_model.specs.declared.call_event.CallEvent.{CallEvent}
pub use Rattle.gateway_model.specs.declared.call_event.CallEvent.TheVariants.{BranchExpired, Expired}
pub use Rattle.gateway_model.specs.declared.entry.ReplyEntry.{ReplyEntry}
pub use Rattle.gateway_model.specs.declared.entry.ReplyEntry.TheVariants.{Call}
pub use Rattle.gateway_model.specs.declared.id.CallId.{CallId}
pub use Rattle.gateway_replies.specs.Contexts.{ContextsValue, is_life, contexts_value, ends_of, without, KeepsOthers, peer, TimedBranch, LifeValue, LivesApart, ending_life, by_deadline, PeerValue, by_drain, told, Ended, is_peer, others, on_branches, with_branches, by_hang_up, is_over, ending_at, closed, ends_life, expires_life, has_ended, event_of, begun, life_by, finished, ended_peer, ends_peer, opened, has_due}
pub use Rattle.gateway_replies.specs.Hooks.{HookedContexts, stock_in, TakesAtMostOne, KeepsHooks, StocksStay, BringsHooks, DropsHooks, Stocks}
pub use Rattle.gateway_theory.specs.Begins.{first_out, begun_live, ends_first, first_ones, begins, first_jobs, first_deadlines}
pub use Rattle.gateway_theory.specs.Conn.{entry_in, AreInPlace, fill_at, slot_at, is_full}
pub use Rattle.gateway_theory.specs.Ends.{AreApart, ended_kept, ended_call, reply_for, caused, kept_after}
pub use Rattle.gateway_theory.specs.Held.{Holds, next_held, broken_held, result_in, replied, hears, coming_of, hung_held, ended_held, Forgets, back_held, forgotten, lost_held, stays, stepped_held, TakesReply, ReadsOn, arriving_in, read_held, unknown, EndsIn, entered_held, HasBrought, MayGive, broke, came, read, unread, TakesStarved, late, lost, settled, settled_held, closed_held, dropped}
pub use Rattle.gateway_theory.specs.Replies.{ReplyValue, reply_with}
pub use Rattle.gateway_theory.specs.Results.{stepped_kept, back_kept, is_spent}
pub use Rattle.gateway_theory.specs.Step.{Step, has_out, result_on, step_to, deadlines_next, next_out, rest_of, first_of, is_last_answer, ended_by}
pub use Rattle.gateway_theory.specs.Store.{kept_at, waiting, given_up, no_call, waiting_in, IsFound}
pub use Rattle.gateway_theory.specs.Task.{job_at, task_of, HandedJob}
pub use Rattle.gateway_theory.specs.Values.{HeldConnection, KeptValue, Live, TaskValue, call_at, CallState, deadlines_in, gone, held_connection}
pub use Rattle.gateway_theory.specs.declared.trigger.Trigger.{Trigger}
pub use Rattle.gateway_theory.specs.declared.trigger.Trigger.TheVariants.{HungUp, Reached, Drained}
pub use Rattle.gateway_theory.specs.lemmas.Cases.{err_if, all_stay, or_true, sym_eqb, or_false, or_none}
pub use Rattle.gateway_theory.specs.lemmas.LimitLemmas.{same_call}
pub use Rattle.gateway_theory.specs.lemmas.StoreLemmas.{call_itself, call_missing, call_apart, call_found, on_err, on_ok, calls_filtered, calls_more, none_of}
pub use Rattle.http_pieces.specs.Reader.{ReaderValue, state_of, HasRead, Reading, Stopped, Waiting, after_request}
pub use Rattle.http_pieces.specs.Request.{most_requests, HttpRequest}
pub use Rattle.gateway_connection.specs.Comes.{Arrives, MayFail, Brings, BringsNone, ReadsNone, asking, Begins, Enters, Feeds, ReadsAll}
pub use Rattle.gateway_connection.specs.Ends.{filled_by, ending_of, replies_by, TakesAt, EndsBy, EndsOne, FailsOne, OwnWith, reply_in, Settles, TakesFrom, Unsettled}
pub use Rattle.gateway_connection.specs.Holds.{held_by}
pub use Rattle.gateway_connection.specs.Jobs.{JobsValue}
pub use Rattle.gateway_connection.specs.KeptCall.{live_value, IsBegun, IsKept, HasGone, IsStep, GoesOn, kept_value, LiveValue, started_of, IsGoing}
pub use Rattle.gateway_connection.specs.Lent.{LeavesRest, MayStep, MayCome}
pub use Rattle.gateway_connection.specs.Linked.{none_over, linked_calls, over_by, Over, life_in, timed, event_for, lives_in, first_started, ends_with, IsNow, passed_on, branch_started, passed_by}
pub use Rattle.gateway_connection.specs.OwnContexts.{LeavesOthers, IsTied, own_contexts, LeavesContexts, own_calls, linked_conn, other_peers, own_peers}
pub use Rattle.gateway_connection.specs.declared.shared.Shared.{Shared}
