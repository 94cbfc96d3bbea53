use Rattle.std.proofs.Common.{◌≡◌, ◌+◌, [], ◌∷◌, ◌++◌, Bool, List, true, ap, arith, cond, length}
use Rattle.std.specs.Prelude.{◌==◌, is_some}
use Rattle.std.proofs.lemmas.List.{length-append}
use Rattle.std.specs.declared.net.socket_addr.SocketAddr.{SocketAddr}
use Rattle.loop_model.specs.Shares.{IsLeft}
use Rattle.loop_model.specs.Streams.{ShareValue, share_value, stream_value}
use Rattle.wires.specs.Turns.{Turn}
use Rattle.loop_rows.proofs.ExchangeLemmas.{first_of_all}
use Rattle.loop_rows.proofs.rows_of_shares.other_shares.Goals as goal

some_turn : (turn : Turn) (turns : List Turn) → turn ∷ turns ≡ [] → ⊥
some_turn turn turns e = cc

pub returns-clause-nobodys : goal.returns-clause-nobodys
returns-clause-nobodys c m a j turns o s = let count : 1 ≡ 0 = s.shares (λ (b : SocketAddr) (x : ShareValue). true) in omega (arith, count)

pub returns-clause-lost : goal.returns-clause-lost
returns-clause-lost c m a j turns o s = let count : 0 ≡ 1 = s.shares (λ (b : SocketAddr) (x : ShareValue). true) in omega (arith, count)

pub returns-clause-anothers : goal.returns-clause-anothers
returns-clause-anothers c m a turns o s = let count : 0 ≡ 1 = s.shares (λ (b : SocketAddr) (x : ShareValue). x.job.branch == 2) in omega (arith, count)

pub returns-clause-outcome : goal.returns-clause-outcome
returns-clause-outcome c m a j turns o s = let count : 1 ≡ 0 = s.shares (λ (b : SocketAddr) (x : ShareValue). is_some x.outcome) in omega (arith, count)

pub returns-clause-elsewhere : goal.returns-clause-elsewhere
returns-clause-elsewhere c m a b is_first j turns o here there s =
    let count : 0 + (0 + (0 + cond (is_first b) 1 0)) ≡ 0 + (0 + cond (is_first a) 1 0) = s.shares (λ (d : SocketAddr) (x : ShareValue). is_first d) in
    let one : 0 + cond (is_first a) 1 0 ≡ 1 = ap (λ (f : Bool). 0 + cond f 1 0) here in
    let none : 0 + cond (is_first b) 1 0 ≡ 0 = ap (λ (f : Bool). 0 + cond f 1 0) there in
    omega (arith, count, one, none)

pub returns-clause-unused : goal.returns-clause-unused
returns-clause-unused c m a s =
    let l = first_of_all (IsLeft m) (stream_value a [] []) s.left_are in
    let none : 0 ≡ length (l.others ++ l.last ∷ []) = ap (λ (xs : List ShareValue). length xs) l.before_are in
    omega (arith, none, length-append l.others (l.last ∷ []))

pub returns-clause-two : goal.returns-clause-two
returns-clause-two c m a i j first last o p off s =
    let l = first_of_all (IsLeft m) (stream_value a (share_value i first o ∷ share_value j last p ∷ []) []) s.left_are in
    let two : 2 ≡ length (l.others ++ l.last ∷ []) = ap (λ (xs : List ShareValue). length xs) l.before_are in
    let one : length l.others ≡ 0 = ap (λ (xs : List ShareValue). length xs) (l.once off).0 in
    omega (arith, two, one, length-append l.others (l.last ∷ []))

pub returns-clause-since : goal.returns-clause-since
returns-clause-since c m a j turns o turn off s =
    some_turn turn [] ((first_of_all (IsLeft m) (stream_value a (share_value j turns o ∷ []) (turn ∷ [])) s.left_are).once off).1
