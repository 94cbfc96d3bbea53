-- What a loop's network has done, and how the loop's lists account for it.
use Rattle.std.specs.Prelude.{◌≡◌, ℕ, ◌+◌, Bool, true, List, [], ◌∷◌, ◌++◌, length, count_by, sum_by, map, Option, Some, None, option_to_list}
use Rattle.std.specs.List.{Contains}
use Rattle.std.specs.Option.{option_map_or}
use Rattle.std.specs.declared.net.socket_addr.SocketAddr.{SocketAddr}
use Rattle.loop_model.specs.Asking.{AskingValue, EndedValue, peers_of, streams_for}
use Rattle.loop_model.specs.Clients.{ClientValue}
use Rattle.loop_model.specs.Explained.{LoopValue}
use Rattle.loop_model.specs.Found.{FoundValue, IsAwaited, LookUp, asked_in, found_in}
use Rattle.loop_model.specs.Standing.{count_clients}
use Rattle.loop_model.specs.Streams.{ClosedValue, closed_stream, closed_turns, closed_value}
use Rattle.loop_model.specs.Whole.{WholeLoop, kept_streams}
use Rattle.wires.specs.Telling.{ToldValue}

-- what a network has done, in order: the moments that it told, the addresses of the streams that it made, the streams
-- that it closed, and the names that it took to look up
pub record NetworkValue : Type 0 where
  pub told : List ℕ
  pub made : List SocketAddr
  pub closed : List ClosedValue
  pub asked : List (List ℕ)

-- .. which noted each of the former with something
abbrev pub network_value : {A : Type 0} → List (ℕ × A) → List (SocketAddr × Unit {0}) → List (ToldValue × Unit {0})
    → List (List ℕ) → NetworkValue
network_value told made closed asked = record {
  told = map (λ x. x.0) told;
  made = map (λ x. x.0) made;
  closed = map (λ x. closed_turns x.0.peer x.0.turns) closed;
  asked = asked;
}

-- what it had done before its loop was there, how many streams of clients were dealt to that loop, and what that had to
-- do with names, in order
pub record Account : Type 0 where
  pub before : NetworkValue
  pub dealt : ℕ
  pub lookups : List LookUp

-- the same, where so many were dealt since, and this was done with names
abbrev pub with_more : ℕ → List LookUp → Account → Account
with_more dealt more u = record u { dealt = u.dealt + dealt; lookups = u.lookups ++ more }

-- of a new loop
abbrev pub first_account : NetworkValue → Account
first_account a = record { before = a; dealt = 0; lookups = [] }

-- ---- what the loop's lists say

-- the streams that were given up for a job, as they were closed
abbrev pub streams_before : AskingValue → List ClosedValue
streams_before x = map closed_stream x.tried

-- how many streams to such addresses were made for its jobs: those of jobs that are asked for, those that were given up, those that are kept,
-- and those that were left
abbrev pub count_made : (SocketAddr → Bool) → WholeLoop → ℕ
count_made p w =
    sum_by (λ (o : Option AskingValue). option_map_or (λ (x : AskingValue). count_by p (peers_of (streams_for x))) o 0) w.asking
    + sum_by (λ (e : EndedValue). count_by p (peers_of e.asking.tried)) w.ended + count_by p (peers_of (kept_streams w.kept)) + count_by p (peers_of w.left)

-- how many such streams its clients and jobs have left: of clients that have gone, of those that were not taken in,
-- those that were given up for jobs, and those that jobs have left
abbrev pub closed_client : ClientValue → ClosedValue
closed_client x = closed_value None x.given x.got

abbrev pub count_gone : (ClosedValue → Bool) → LoopValue → ℕ
count_gone p l = count_by (λ (x : ClientValue). p (closed_client x)) l.gone + count_by p l.unserved

abbrev pub count_left : (ClosedValue → Bool) → WholeLoop → ℕ
count_left p w =
    count_gone p w.side + sum_by (λ (o : Option AskingValue). option_map_or (λ (x : AskingValue). count_by p (streams_before x)) o 0) w.asking
    + sum_by (λ (e : EndedValue). count_by p (streams_before e.asking)) w.ended + count_by p (map closed_stream w.left)

-- how many streams came to it: of clients that are there, that have gone, and that were not taken in
abbrev pub count_dealt : LoopValue → ℕ
count_dealt l = count_clients l.clients + length l.gone + length l.unserved

-- ---- the account

-- The network told what the loop was told. It made, for each address, as many streams as jobs went over. Each
-- stream that has left its client or its job was closed, as it was then, or waits for its backend's end; and no other
-- was closed. Each stream that was dealt came to the loop, and so did what was found. The network took the names to look
-- up that the loop asked for; and for each that the loop waits for nothing was found since.
pub record AccountsFor (u : Account) (a : NetworkValue) (w : WholeLoop) : Type 0 where
  pub told : a.told ≡ u.before.told ++ w.side.told
  pub made : (p : SocketAddr → Bool) → count_by p a.made ≡ count_by p u.before.made + count_made p w
  pub closed : (p : ClosedValue → Bool) → count_by p a.closed + count_by p w.closing ≡ count_by p u.before.closed + count_left p w
  pub dealt : u.dealt ≡ count_dealt w.side
  pub asked : a.asked ≡ u.before.asked ++ asked_in u.lookups
  pub found : found_in u.lookups ≡ w.looked_up
  pub awaited : (name : List ℕ) → Contains w.waits name → IsAwaited name u.lookups

-- So many streams were dealt to the loop, and this was found and handed in; whatever was before, the account is right
-- again. In what order it was asked and found meanwhile is the loop's own.
abbrev pub AccountsOn : ℕ → List FoundValue → NetworkValue → NetworkValue → WholeLoop → WholeLoop → Type 0
AccountsOn dealt found a b v w =
    (u : Account) → AccountsFor u a v → (more : List LookUp) × (found_in more ≡ found) × AccountsFor (with_more dealt more u) b w
