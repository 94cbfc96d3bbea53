-- The names that most proofs cite, passed on from one place.
pub use Rattle.std.proofs.Common.{◌≡◌, ◌∙◌, [], ap, length, ◌∷◌, ◌++◌, sym, List, refl, ℕ, false, arith, subst, true, ◌<◌, map, Bool, append_assoc, suc, ◌+◌, ◌≤◌, append-nil, zero, Some, Option, None, Ok, Err, take, ⊎_elim, Result, flat_map, reverse, drop, rules, get_or, ◌-◌, min, add-one, drop-cons, inl, inr, ◌≢◌}
pub use Rattle.std.proofs.lemmas.Bool.{eq-eqb, eqb-true, ne_eqb, ltb-true, ltb-false, and_parts, cases_Bool, cases_eq, cases_lt, lt-ltb}
pub use Rattle.std.proofs.lemmas.Bool.Decides.{nat_tests}
pub use Rattle.std.proofs.lemmas.Grind.{flat_map-append, common_steps}
pub use Rattle.std.proofs.lemmas.List.{append_cancel_left, map-append, reverse-append, length-append, reverse-reverse, length-set, take_all, length-drop, take-append-le, take-append-drop, take_more, length-reverse}
pub use Rattle.std.specs.Io.KnownBytes.{Appends}
pub use Rattle.std.specs.List.{range_with_len, count_by, enumerate_from}
pub use Rattle.std.specs.Option.{option_or, option_map_or}
pub use Rattle.std.specs.Prelude.{◌==◌, if◌then◌else◌, ◌||◌, nat_lt, not, option_map, option_to_list, filter, slice_index_or, OnErr, ◌&&◌, is_some, option_and_then, ⊤, ◌⊎◌, ◌↔◌, MatchBool, OnOk, slice_get, is_none, slice_set, codes, decimal, IfOk, IfErr, MatchResult}
pub use Rattle.call_plan.specs.Plan.{PlanRecord}
pub use Rattle.gateway_model.specs.Events.{Before, Occurs, OccursAt, is_open, listens, connections, open_connections, succeeds, IsRising, is_closing_of, stream, Gains, onto, is_opening, once, IsOpened, most_open, requests_gained, refusal_gained, OpensAt, piece_of, has_no_effect, IsShifted}
pub use Rattle.gateway_model.specs.Headline.{AllAnswered, AnswersCall, failed, joined, HasAnswered, IsAnswered, brought_by, came_on, shifted_by}
pub use Rattle.gateway_model.specs.History.{History, history_of, no_history, after_jobs, after_event}
pub use Rattle.gateway_model.specs.Job.{JobValue}
pub use Rattle.gateway_model.specs.Occurrence.{Occurrence, Coming, Comes, Break, Refused, Request}
pub use Rattle.gateway_model.specs.Own.{without_breaks, is_break}
pub use Rattle.gateway_model.specs.Past.{marked, mark_of, is_broken, Past, breaks, coming_on, call_id, Mark, call, count_below, arrivals, answers, ArrivedCall, branches, counts, decided, decides, own_event, past_of, is_shut, coming_now, is_undecided}
pub use Rattle.gateway_model.specs.Queue.{answer_of, came, entry_by, queued_entries, queued, entry, call_entry, own_events, record_deadlines, record_of, IsPrefixOf, front}
pub use Rattle.gateway_model.specs.Run.{bytes_of, newest_first, run_start, is_listed, is_start_of, IsLived, starts_of}
pub use Rattle.gateway_model.specs.Starts.{Placed, occurrences, starts, jobs, jobs_by}
pub use Rattle.gateway_model.specs.declared.entry.ReplyEntry.{ReplyEntry}
pub use Rattle.gateway_model.specs.declared.event.Event.{Event}
pub use Rattle.gateway_model.specs.declared.event.Event.TheVariants.{Closing, Opening, Piece, HangUp, Moment, BranchResult, Drain}
pub use Rattle.gateway_model.specs.declared.id.CallId.{CallId}
pub use Rattle.gateway_model.specs.declared.seen.Seen.{Seen}
pub use Rattle.gateway_theory.specs.Gateway.{is_open_conn, untaken_of, with_jobs, is_broken_conn}
pub use Rattle.gateway_theory.specs.Served.{Served, Lives, Adds, HasConns, with_reply, after_reply}
pub use Rattle.gateway_theory.specs.Serving.{KeepsBut, TellsStep, TakesOnly, Breaks}
pub use Rattle.gateway_theory.specs.Starting.{job_started, start, StartedJob}
pub use Rattle.gateway_theory.specs.Task.{HandedJob}
pub use Rattle.gateway_theory.specs.Values.{GatewayValue}
pub use Rattle.gateway_theory.specs.lemmas.Cases.{err_if, or_none, and_none, sym_eqb, and_off}
pub use Rattle.gateway_theory.specs.lemmas.PrefixLemmas.{events_occur, Still, still_queue, is_shut_in, without_shut}
pub use Rattle.http_pieces.specs.Request.{HttpRequest}
pub use Rattle.http_pieces.specs.Requests.{StreamEnd, Requests, Open, RefusedBy, Closed}
pub use Rattle.serde_json.specs.View.{items_view, view}
pub use Rattle.gateway_run.specs.Log.{HasRun, LogValue, start_at, StartsAll, flag_at, log_value, queue_at, TookReplies, Collects, absent, gathers, HasLived, ClosedSo, log_with}
pub use Rattle.gateway_run.specs.RunText.{AppendsSome, start_line, connection_text, connections_text, broken_line, broken_text, starts_text}
pub use Rattle.gateway_run.specs.Script.{events_from, event_of, then_events, IsOfPlans, script_of, plan_list_of, entries_of, are_arrays, has_length}
pub use Rattle.gateway_run.specs.Stepping.{AddsStep, CollectsFor, after_step, log_after, opened_by, TellsBreaks, TellsConn, TellsOpening, seen_in, done_of, opening_of, taken_of, Tells}
pub use Rattle.gateway_run.specs.declared.stepping.Stepped.TheVariants.{Done, Opened, Saw, Fault, NotOpened, Broke}
