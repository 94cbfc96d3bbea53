-- The names that most proofs cite, passed on from one place.
pub use Rattle.std.proofs.Common.{◌≡◌, ap, ◌∙◌, sym, Some, None, false, subst, refl, [], true, ◌∷◌, List, ℕ, arith, ⊎_elim, map, ◌++◌, Option, length, Bool, is_some, append-nil, ◌<◌, suc, rules, zero, ◌≤◌, drop, ◌+◌, inl, inr, take}
pub use Rattle.std.proofs.lemmas.Bool.{cases_Bool, or_parts, eqb-true, eq-eqb, cond_both, and_from, and_parts, or_cases, or_from, or_left, or_right}
pub use Rattle.std.proofs.lemmas.Bool.Decides.{nat_tests}
pub use Rattle.std.proofs.lemmas.List.{map_push}
pub use Rattle.std.proofs.lemmas.List.Elements.{All-head, All-tail, All-cons, All-nil, All-weaker, All-filter, All-push, All-map}
pub use Rattle.std.proofs.lemmas.Option.{same_Some}
pub use Rattle.std.specs.Arc.{arc_value}
pub use Rattle.std.specs.List.{list_any}
pub use Rattle.std.specs.Option.{option_or, option_map_or, unwrap_or}
pub use Rattle.std.specs.Prelude.{◌==◌, IfSome, filter, if◌then◌else◌, All, not, IfNone, ◌||◌, slice_set, slice_index_or, nat_le, IfOk, OnErr, OnOk, Result, Ok, Err, option_map, ◌&&◌, is_none, ◌⊎◌}
pub use Rattle.call_contexts.specs.Standing.{WithHooks, call_for, ctx_for, first_of, if_cancelled, with_standing, AreNoSooner, IsNoSooner, has_deadline, ends_branch, if_due, ends_conn, ends_call, expires_call, on_branches, with_branches, AreApart, is_conn, is_fresh, opened, begun, without, hook_for, ended_conn, ended_call, ended_branch, expires_branch, expired, cancelled, all_ended, drop_branch}
pub use Rattle.context_tree.specs.Context.{same, Id}
pub use Rattle.context_tree.specs.declared.error.Cause.TheVariants.{Given}
pub use Rattle.gateway_model.specs.Past.{is_call, ArrivedCall, is_due, least_of}
pub use Rattle.gateway_model.specs.declared.id.CallId.{CallId}
pub use Rattle.gateway_theory.specs.lemmas.Cases.{all_stay, sym_eqb, err_if}
pub use Rattle.gateway_theory.specs.lemmas.ReplyLemmas.{later_step, more_answers, length_answers}
pub use Rattle.gateway_replies.specs.Contexts.{names_in, CallContext, ContextsValue, ctx_of, LifeValue, ConnContext, TimedBranch, first_life, AllContexts, IsTied, Peers, peers_of, lives_of, NoTwo, is_peer, contexts_of, contexts_value, life_of, KeepsOthers, same_id, same_context, same_number, Ended, has_due, is_life, OnPeer, LivesApart, PeerValue, closed, has_ended, is_over, by_deadline, by_drain, by_hang_up, ends_life, ends_peer, IsNotDue, ending_life, event_of, told, others, without_calls, ended_peer, peer, expires_life}
pub use Rattle.gateway_replies.specs.Hooks.{HookedContexts, hooks_of_others, stock_of, GivesBytes, LosesHook, stock_in, ending_for, BringsHooks, Called, DropsHooks, Hooks, KeepsHooks, KeepsStocks, Stocks, TakesHook, hook_of, hooked, hooks_but, CallsAtMost, called_on}
pub use Rattle.gateway_replies.specs.Ties.{peer_ties, stock_ties, Takes, peer_tie, AreHooked, hooks_of, stock_tie}
pub use Rattle.gateway_replies.specs.declared.contexts.cancelled.CancelledBy.TheVariants.{HangUp, Drain}
pub use Rattle.gateway_replies.specs.declared.contexts.peer.Peer.{Peer}
