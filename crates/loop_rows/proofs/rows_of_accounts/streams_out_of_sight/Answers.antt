use Rattle.std.proofs.Common.{◌≡◌, arith, length, true}
use Rattle.std.specs.Prelude.{◌==◌}
use Rattle.std.specs.declared.net.socket_addr.SocketAddr.{SocketAddr}
use Rattle.loop_model.specs.Streams.{ClosedValue}
use Rattle.loop_rows.proofs.rows_of_accounts.streams_out_of_sight.Goals as goal

pub returns-clause-nobodys : goal.returns-clause-nobodys
returns-clause-nobodys c a m v e = let made : 1 ≡ 0 = e.made (λ (x : SocketAddr). true) in omega (arith, made)

pub returns-clause-unmade : goal.returns-clause-unmade
returns-clause-unmade c a m v j e = let made : 0 ≡ 1 = e.made (λ (x : SocketAddr). true) in omega (arith, made)

pub returns-clause-unclosed : goal.returns-clause-unclosed
returns-clause-unclosed c a m v j o e = let closed : 0 ≡ 1 = e.closed (λ (x : ClosedValue). true) in omega (arith, closed)

pub returns-clause-twice : goal.returns-clause-twice
returns-clause-twice c a m v j o e = let closed : 2 ≡ 1 = e.closed (λ (x : ClosedValue). true) in omega (arith, closed)

pub returns-clause-given_up : goal.returns-clause-given_up
returns-clause-given_up c a b m v j e = let closed : 0 ≡ 1 = e.closed (λ (x : ClosedValue). true) in omega (arith, closed)

pub returns-clause-client : goal.returns-clause-client
returns-clause-client c m v e = let closed : 0 ≡ 1 = e.closed (λ (x : ClosedValue). true) in omega (arith, closed)

pub returns-clause-written : goal.returns-clause-written
returns-clause-written c a m v j o byte e = let closed : 0 ≡ 1 = e.closed (λ (x : ClosedValue). length x.got == 0) in omega (arith, closed)

pub returns-clause-kept : goal.returns-clause-kept
returns-clause-kept c a m v j turns o e = let made : 0 ≡ 1 = e.made (λ (x : SocketAddr). true) in omega (arith, made)
