-- What refutes a row.
use Rattle.std.proofs.Common.{◌≡◌, ℕ, suc, ◌+◌, true, false, List, [], ◌∷◌, ◌++◌, length, ap, arith}
use Rattle.std.specs.Prelude.{slice_index_or}
use Rattle.std.proofs.lemmas.List.{length-append}
use Rattle.std.specs.declared.net.socket_addr.SocketAddr.{SocketAddr}
use Rattle.connect_codec.specs.declared.answer.Outcome.{Outcome}
use Rattle.connect_codec.specs.declared.answer.Outcome.TheVariants.{Answer, Fail}
use Rattle.http_pieces.specs.declared.framing.Framing.TheVariants as framing

-- the lists begin otherwise
pub other_first : (xs ys : List ℕ) → (slice_index_or xs 0 0 ≡ slice_index_or ys 0 0 → ⊥) → xs ≡ ys → ⊥
other_first xs ys differ same = differ (ap (λ (l : List ℕ). slice_index_or l 0 0) same)

-- .. or one is longer
pub other_length : (xs ys : List ℕ) → (length xs ≡ length ys → ⊥) → xs ≡ ys → ⊥
other_length xs ys differ same = differ (ap (λ (l : List ℕ). length l) same)

pub longer : (n : ℕ) (xs ys rest : List ℕ) → length xs + suc n ≡ length ys → xs ≡ ys ++ rest → ⊥
longer n xs ys rest more same = omega (arith, more, ap (λ (l : List ℕ). length l) same, length-append ys rest)

pub off_on : false ≡ true → ⊥
off_on e = cc

pub on_off : true ≡ false → ⊥
on_off e = cc

abbrev pub body_of : Outcome → List ℕ
body_of (Answer body) = body
body_of (Fail error) = []

pub one_first : (a b : SocketAddr) (rest more : List SocketAddr) → a ∷ rest ≡ b ∷ more → a ≡ b
one_first a b rest more e = cc

pub none_first : (a : SocketAddr) (rest : List SocketAddr) → a ∷ rest ≡ [] → ⊥
none_first a rest e = cc

pub any_fixed : framing.Any ≡ framing.Fixed → ⊥
any_fixed e = cc
