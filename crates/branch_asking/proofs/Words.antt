-- The names that most proofs cite, passed on from one place.
pub use Rattle.std.proofs.Common.{sym, refl, ◌≡◌, ◌∙◌, ap, List, [], Some, Option, subst, ℕ, ◌∷◌, None, Bool, false, ◌++◌, true, map, append-nil, ⊎_elim, inl, inr, All}
pub use Rattle.std.proofs.lemmas.List.{map-append}
pub use Rattle.std.proofs.lemmas.List.Elements.{All-cons, All-head, All-nil, All-push, All-tail}
pub use Rattle.std.specs.Prelude.{is_some, option_to_list}
pub use Rattle.std.specs.declared.net.socket_addr.SocketAddr.{SocketAddr}
pub use Rattle.gateway_model.specs.Queue.{IsPrefixOf}
pub use Rattle.gateway_theory.specs.Task.{HandedJob}
pub use Rattle.loop_model.specs.Asking.{AreAddressesOf, BeginsRequest, IsUntouched, new_by, new_for, peers_of}
pub use Rattle.loop_model.specs.Requests.{request_of}
pub use Rattle.loop_model.specs.Shares.{AreAt, AreShares, IsStreamFor, IsWhole}
pub use Rattle.loop_model.specs.Streams.{IsNew, ShareValue, StreamValue, share_value, stream_value}
pub use Rattle.loop_model.specs.Whole.{AsksOn, IsSameStream, share_of}
pub use Rattle.loop_model.specs.declared.manner.Manner.{Manner}
pub use Rattle.wires.specs.Turns.{BeginsQuietly, Quiet, Turn, Went, ended_of, given_of, got_of, went, came, is_over}
pub use Rattle.branch_asking.specs.Addresses.{AddressesValue, AreOf, addresses_value, next_of, once_found, once_spelt, HasParsed}
pub use Rattle.branch_asking.specs.Asking.{AskingState, asked_for, Asks, GrowsTo, HasGrown, AttemptValue, HasBegun, HasEnded, HasLookedAt, IsStill, IsUntouchedAttempt, Reuses, asking_state, attempt_value, BackendValue, given_by, got_by, with_turns}
pub use Rattle.branch_asking.specs.Streams.{GoesOverAgain, IsReadyFor}
