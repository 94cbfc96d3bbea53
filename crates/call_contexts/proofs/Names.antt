-- The names that most proofs cite, passed on from one place.
pub use Rattle.std.proofs.Common.{◌≡◌, ◌∙◌, ap, sym, Some, true, None, false, refl, ◌∷◌, List, [], subst, arith, ℕ, ⊎_elim, ◌++◌, Option, is_some, ◌<◌, length, drop, Bool, suc, rules, slice_set, ◌≤◌, zero, take, append_assoc, inl, inr, is_none, nat_eq}
pub use Rattle.std.proofs.Math.Bool.{or-false, or-true}
pub use Rattle.std.proofs.lemmas.Bool.{cases_Bool, or_parts, or_right, or_left, eq-eqb, or_cases, ne_eqb, and_from, eqb-true}
pub use Rattle.std.proofs.lemmas.Bool.Decides.{nat_tests}
pub use Rattle.std.proofs.lemmas.List.{map-append, append-nil, set-get_or, length-append, length-set}
pub use Rattle.std.proofs.lemmas.List.Elements.{All-head, All-tail, All-weaker, All-nil, All-cons, All-map, All-push, All-append, All-from_get_or, All-filter}
pub use Rattle.std.proofs.lemmas.List.Folds.{list_any_none, list_any-append}
pub use Rattle.std.proofs.lemmas.Option.{same_Some, IfSome_then}
pub use Rattle.std.specs.List.{list_any, find, AllPairs, remove}
pub use Rattle.std.specs.Option.{option_or, option_map_or, option_to_list, option_copied}
pub use Rattle.std.specs.Prelude.{All, map, option_map, unwrap_or, not, option_and_then, filter, ◌||◌, if◌then◌else◌, slice_index_or, ◌&&◌, IfSome, ◌==◌, Result, ◌⊎◌, nat_le, Err, IfNone, ◌^◌, IfErr, Ok, IfOk, OnOk, OnErr, IsErrAnd, min, ◌↔◌}
pub use Rattle.std.specs.Result.{is_err}
pub use Rattle.after_funcs.specs.Hooks.{waiting, registered, Operation, due, AfterFunc, Fire, RunNext, Stop, is_on, IsAnswerOfFirst}
pub use Rattle.after_funcs.specs.declared.callbacks.AfterFuncs.{AfterFuncs}
pub use Rattle.context_tree.specs.Context.{Id, same, held, Makes, Releases, ending, chain, has_cancel, Ended, handed, parent_of, deadline, sooner, nearest, line, Cancels, least, HandsOut, expiry, Advances, is_waiting, inherited, Member, own_value, own_due, HasChild, cause_or, first_due, makes, TreeOp}
pub use Rattle.context_tree.specs.Tree.{is_among, TreeValue, StandsFor, IsLawful, is_ended_by_cancel, IsDeadline, IsFirstDeadline, IsNotAfter, node_at, left_to_hand_out}
pub use Rattle.context_tree.specs.declared.node.Kind.{Kind}
pub use Rattle.context_tree.specs.declared.node.Kind.TheVariants.{Cancel, Deadline, Value, Background}
pub use Rattle.gateway_model.specs.declared.id.CallId.{CallId}
pub use Rattle.call_contexts.specs.Sound.{IsSound, life_at, kind_of, IsLife, Op, TreeLaws, IsTwig, life_for, contexts, ids_in, ids_of, twig_ids, IsPlaced, IsConn, Touches, IsUnhanded, all_ids, same_ctx, why, IsHolder, kept_of, Distinct, NoTwo, IsFree, hook_of, let_go, with_call, with_twigs, soonest_of, moment_of, drop_twig, IsWithout, AreFree, StandsAlike, IsStarted, Name, Rising, names_of, numbers_of, owner_in, BranchesGo, with_holder, parent_of_call, sooner_twig, FindsEnded}
pub use Rattle.call_contexts.specs.Standing.{WithHooks, seen_call, cause_in, seen, seen_branches, seen_branch, seen_conn, Slots, if_due, value_in, is_conn, is_call, Branch, Standing, Call, bare_call, IsBare, gone, has_ended, is_over, without, ended_conn, opened, begun, on_branches, drop_branch, branched, if_cancelled, ends_branch, ends_call, ends_conn, cancelled, has_deadline, hook_for, ended_call, closed, request_for, IsNoSooner, AreNoSooner, ctx_for, first_of, IsCallOf, expired, all_ended, ended_branch, if_before, is_fresh, with_branches, with_hook, with_standing, on_ctx, AreApart, Conn, call_for, expires_branch, expires_call, branch_before, sooner_branch, first_branch, request_id_key, unbranched}
pub use Rattle.call_contexts.specs.declared.life.Life.{Life}
pub use Rattle.call_contexts.specs.declared.twig.Twig.{Twig}
