use Rattle.gateway_run.proofs.Names.{err_if as OnErr-from}
use Rattle.std.proofs.KnownBytes.{Appends-trans}
use Rattle.gateway_run.proofs.RunLemmas.{OnErr-map, AppendsSome-front, AppendsSome-later}
use Rattle.gateway_run.proofs.text.write_run.Goals as goal

pub returns-in_err-write_connections-clause-err : goal.returns-in_err-write_connections-clause-err
returns-in_err-write_connections-clause-err g c =
    let fault = rw c.deref.ensures.value at c.in_err-write_connections.ensures.err in
    OnErr-from _ (AppendsSome-front _ _ _ _ (AppendsSome-front _ _ _ _ (AppendsSome-front _ _ _ _ fault)))

pub returns-in_err-write_starts-clause-err : goal.returns-in_err-write_starts-clause-err
returns-in_err-write_starts-clause-err g c =
    let first = rw c.deref.ensures.value at c.in_ok-write_connections.ensures.ok in
    let fault = rw c.deref-2.ensures.value at c.in_err-write_starts.ensures.err in
    OnErr-from _ (AppendsSome-front _ _ _ _ (AppendsSome-front _ _ _ _ (AppendsSome-later _ _ _ _ _ first fault)))

pub returns-in_err-write_broken-clause-err : goal.returns-in_err-write_broken-clause-err
returns-in_err-write_broken-clause-err g c =
    let first = rw c.deref.ensures.value at c.in_ok-write_connections.ensures.ok in
    let second = rw c.deref-2.ensures.value at c.in_ok-write_starts.ensures.ok in
    let fault = rw c.deref-3.ensures.value at c.in_err-write_broken.ensures.err in
    OnErr-from _ (AppendsSome-front _ _ _ _ (AppendsSome-later _ _ _ _ _ (Appends-trans _ _ _ _ _ first second) fault))

pub returns-clause-err : goal.returns-clause-err
returns-clause-err g c =
    let first = rw c.deref.ensures.value at c.in_ok-write_connections.ensures.ok in
    let second = rw c.deref-2.ensures.value at c.in_ok-write_starts.ensures.ok in
    let third = rw c.deref-3.ensures.value at c.in_ok-write_broken.ensures.ok in
    OnErr-map _ (AppendsSome-later _ _ _ _ _ (Appends-trans _ _ _ _ _ (Appends-trans _ _ _ _ _ first second) third)) c.send.ensures.err
