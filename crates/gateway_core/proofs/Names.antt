-- The names that most proofs cite, passed on from one place.
pub use Rattle.std.proofs.Common.{sym, ap, subst, refl, ◌≡◌, ◌∙◌, [], false, arith, None, ℕ, Some, true, Option, List, ◌∷◌, ◌+◌, length, Bool, ◌++◌, ◌≤◌, Err, ◌<◌, ⊎_elim, Result, cond, inl, inr, suc, map, ◌-◌, Ok}
pub use Rattle.std.proofs.lemmas.Bool.{eq-eqb, cases_Bool, eqb-true, lt-ltb}
pub use Rattle.std.proofs.lemmas.Bool.Decides.{nat_tests}
pub use Rattle.std.proofs.lemmas.Option.{same_Some}
pub use Rattle.std.specs.BTreeMap.{is_at, insert_entry}
pub use Rattle.std.specs.List.{list_any, sum_by}
pub use Rattle.std.specs.List.Sorted.{IsStrictlySortedBy}
pub use Rattle.std.specs.Map.{set_value, keys_of, values_of, remove_entry}
pub use Rattle.std.specs.Ordering.{nat_cmp, is_eq, match_ordering}
pub use Rattle.std.specs.Prelude.{if◌then◌else◌, ◌==◌, ◌^◌, option_map, filter, ⊤, option_to_list, ◌&&◌, is_some, ◌⊎◌, ◌||◌, IfOk, IfSome, OnOk, is_none, nat_le, slice_get, All, unwrap_or, not, max}
pub use Rattle.gateway_connection.specs.Lent.{LeavesRest, MayStep}
pub use Rattle.gateway_connection.specs.Linked.{none_over, Over, linked_calls, over_by}
pub use Rattle.gateway_connection.specs.OwnContexts.{IsTied, LeavesOthers, own_contexts, own_calls, LeavesContexts, linked_conn}
pub use Rattle.gateway_connection.specs.declared.shared.Shared.{Shared}
pub use Rattle.gateway_connection.specs.lemmas.OwnContexts.{own_none, has_ended_own, none_over_own, ends_own, is_peer_own, opened_own, others_opened, others_none}
pub use Rattle.gateway_connection.specs.lemmas.OwnOver.{held_same, due_ends, over_ends}
pub use Rattle.gateway_connection.specs.lemmas.OwnTies.{none_left, tied_left, ended_is_over, none_is_over, none_over_tied, ends_linked, relinked}
pub use Rattle.gateway_model.specs.Past.{call_id, is_due, least_of}
pub use Rattle.gateway_model.specs.declared.id.CallId.{CallId}
pub use Rattle.gateway_replies.specs.Contexts.{ContextsValue, LifeValue, contexts_value, is_over, has_due, has_ended, others, told, Ended, TimedBranch, by_drain, ends_of, is_peer, opened}
pub use Rattle.gateway_replies.specs.Hooks.{HookedContexts, KeepsHooks, BringsHooks, Stocks, stock_in, none_hooked}
pub use Rattle.gateway_theory.specs.Gateway.{one_if_open, untaken_of, jobs_of, next_reply, call_in, with_jobs}
pub use Rattle.gateway_theory.specs.Held.{is_gone, ended, TakesReply, closed_held, CallsEnd, broke, new_held, HangsUp, Holds, TakesResult, TakesStarved, left_of}
pub use Rattle.gateway_theory.specs.Replies.{ReplyValue}
pub use Rattle.gateway_theory.specs.Serving.{IsServing, Keeps, Breaks, CountsCalls, KeepsBut, NotListening, TakesOnly, TakesSome, TellsStep, WouldBegin, IsHeld}
pub use Rattle.gateway_theory.specs.Steps.{absent, Moves, Tallies, MayEnd, Closes, Drains, Feeds, HangsUpAt, Reaches, Results, Starves, TakesJob, TakesReplyAt, open_in, Opens, there, closes, first_gateway, Broadcast, shut}
pub use Rattle.gateway_theory.specs.Store.{waiting}
pub use Rattle.gateway_theory.specs.Told.{IsWanted, AddsEvent, HandsJobs, HandsReply, LeavesLived, LeavesReplied, TakesBytes, TakesEvent, TakesOneOf, TellsTook, AddsOpening, OpensFew, TakesOpening}
pub use Rattle.gateway_theory.specs.Values.{HeldConnection, GatewayValue, conn_of, shown, KeptValue, gateway_value, value_of, untaken_value}
pub use Rattle.gateway_theory.specs.declared.fault.StepFault.TheVariants.{Gone, Exhausted}
pub use Rattle.gateway_theory.specs.declared.tally.Tally.{Tally}
pub use Rattle.gateway_theory.specs.lemmas.Laws.{closes_adds, closes_keeps, closes_stands, closes_told, drains_adds, drains_keeps, drains_stands, feeds_begins, feeds_counts, feeds_keeps, feeds_listens, feeds_one, feeds_stands, feeds_takes, feeds_tells, hangs_adds, hangs_begins, hangs_keeps, hangs_stands, hangs_tells, job_lives, job_stands, job_wanted, reaches_adds, reaches_keeps, reaches_stands, reply_first, reply_its, reply_lives, reply_none, reply_only, reply_stands, results_adds, results_keeps, results_stands, results_tells, starves_adds, starves_keeps, starves_stands, starves_tells, wanted_is, known, first_stands, first_lives, opens_adds, opens_few, opens_keeps, opens_stands, same_keeps, unopens_adds, unopens_stands}
pub use Rattle.gateway_theory.specs.lemmas.ServingSteps.{drains_serving, open_same, reaches_serving, closes_serving, fed_closed, feeds_serving, hangs_serving, hung_closed, opens_serving, results_serving, taken_like, starved_like, starves_serving, reply_held, reply_serving}
pub use Rattle.gateway_core.specs.Whole.{gateway_of, held_at, is_gone_at, Conns, TiedAt, IsWhole, AreNumbered, IsWithout, AreFit, waiting_for, AllEnd, IsToldOnly, OneBreaks, waiting_all, AreTied, call_kept}
