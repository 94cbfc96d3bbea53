-- The names that most proofs cite, passed on from one place.
pub use Rattle.std.proofs.Common.{sym, refl, ◌≡◌, ◌∙◌, ap, List, [], Some, Option, subst, ℕ, ◌∷◌, None, Bool, false, ◌++◌, true, arith, map, append-nil, ⊎_elim, ◌≢◌, ◌+◌, inl, inr, suc, length, cond, All, append_assoc, ◌<◌, ◌≤◌, zero, take, ◌⊎◌, rules}
pub use Rattle.std.proofs.lemmas.Bool.{cases_eq, eq-eqb, ltb-false, ltb-true, ne_eqb}
pub use Rattle.std.proofs.lemmas.List.{map-append, reverse-append}
pub use Rattle.std.proofs.lemmas.List.Elements.{All-nil, All-push, Contains-append_left, Contains-push, All-weaker, Contains-append_cases, Contains-append_right, Contains-push_cases}
pub use Rattle.std.proofs.lemmas.List.Sums.{sum_by-cons, sum_by-append}
pub use Rattle.std.specs.List.{Contains, AllZip}
pub use Rattle.std.specs.Option.{option_map_or}
pub use Rattle.std.specs.Prelude.{◌==◌, slice_index_or, count_by, sum_by, option_map, is_some, not, unwrap_or, option_to_list, ◌||◌, ⊤, max}
pub use Rattle.std.specs.declared.net.socket_addr.SocketAddr.{SocketAddr}
pub use Rattle.call_plan.specs.Plan.{PlanRecord}
pub use Rattle.connect_codec.specs.declared.answer.Outcome.{Outcome}
pub use Rattle.gateway_model.specs.Events.{connections, Occurs, stream, hung_up, is_open, succeeds, Before, OccursAt, is_closing_of, is_hang_up_of, once, onto, piece_of, is_opening}
pub use Rattle.gateway_model.specs.History.{History, after_event, after_opening, after_jobs, no_history}
pub use Rattle.gateway_model.specs.Job.{JobValue}
pub use Rattle.gateway_model.specs.Past.{marked, Past, arrivals, coming_on, mark_of, call_id}
pub use Rattle.gateway_model.specs.Queue.{IsPrefixOf, queued, queued_entries, answer_of}
pub use Rattle.gateway_model.specs.Starts.{occurrences, Placed}
pub use Rattle.gateway_model.specs.declared.event.Event.{Event}
pub use Rattle.gateway_model.specs.declared.event.Event.TheVariants.{Piece, HangUp, Closing, Moment, BranchResult, Drain, Opening}
pub use Rattle.gateway_theory.specs.Served.{after_reply, Served}
pub use Rattle.gateway_theory.specs.Task.{HandedJob}
pub use Rattle.gateway_theory.specs.Values.{GatewayValue, shown}
pub use Rattle.gateway_theory.specs.lemmas.PastLemmas.{prefix-refl, prefix-trans}
pub use Rattle.loop_model.specs.declared.manner.Manner.{Manner}
pub use Rattle.loop_model.specs.Asking.{BeginsRequest, AskingValue, EndedValue, IsFair, ended_value, got_for, given_for, IsUntouched, peers_of, streams_for}
pub use Rattle.loop_model.specs.Requests.{request_of}
pub use Rattle.loop_model.specs.Shares.{AreAt, AreShares, IsKept, IsLeft, IsStreamFor, IsWhole}
pub use Rattle.loop_model.specs.Clients.{ClientValue, client_value, IsExplainedClient}
pub use Rattle.loop_model.specs.Accounts.{Account, AccountsFor, AccountsOn, NetworkValue, with_more}
pub use Rattle.loop_model.specs.Explained.{LoopValue, at, one_below, count_of, Explains, IsKnownBy}
pub use Rattle.loop_model.specs.Histories.{Extends, GoesOn, IsExplained, LivesMore, LivesOn}
pub use Rattle.loop_model.specs.Holding.{Fits, HasStood, Holds, HoldsRest, IsHeld, Stands}
pub use Rattle.loop_model.specs.Streams.{ClosedValue, IsNew, IsUnused, KeptValue, ShareValue, StreamValue, closed_stream, kept_value, share_value, stream_value}
pub use Rattle.loop_model.specs.Growing.{HasTicked, Grows, Continues}
pub use Rattle.loop_model.specs.Handed.{results, IsResultOf, ResultValue, moments, is_drain, moment_in, result_in, HandsIn, latest}
pub use Rattle.loop_model.specs.Whole.{AsksOn, AsksFairly, ContinuesLoop, GivesUpStream, HasEndedSince, KeepsStream, WholeLoop, asked_at, count_asked, AreShared, count_own, count_shares, count_under_way, kept_streams, share_of}
pub use Rattle.slab.specs.Slab.{Slab, Updates, entries_from, entries, slab_len}
pub use Rattle.branch_asking.specs.Addresses.{AddressesValue, AreOf, addresses_value, next_of, HasParsed}
pub use Rattle.branch_asking.specs.Asking.{AskingState, asked_for, Asks, HasGrown, AttemptValue, HasBegun, HasEnded, IsUntouchedAttempt, asking_state, attempt_value}
pub use Rattle.gateway_loop.specs.Clients.{Leads, lingering, MakesSteps, Onward, IsQuiet, OpensNone, HandsNothing, Follows, IsServing, IsStill, IsStreamOf, FitsOn}
pub use Rattle.gateway_loop.specs.Laws.{LoopLaws}
pub use Rattle.gateway_loop.specs.Loop.{Admits, AreMannered, Beside, IsMannered, Goes, GoesAlone, beside, whole_loop}
pub use Rattle.loop_model.specs.Found.{AreFoundFor, AreOfName, FoundValue}
pub use Rattle.loop_model.specs.Reports.{changed_at, tell, tell_all, tell_in, told_asking, told_client}
pub use Rattle.wires.specs.declared.ready.Ready.{Ready}
