-- What a table shows, whatever the layout of its bytes (Tables 10, Tables 12): its dimension and fold mask, which links are enabled, who holds links and receive
-- channels, and which of these channels are armed.
-- Nothing else is kept (Tables 9). It is changed only through the functions below.
-- Assumes nothing.
use Rattle.std.specs.Prelude.{Bool, false, cond, not, ◌&&◌, List, ℕ, eqb}
use Rattle.paths.specs.Network.{Network}
use Rattle.paths.specs.Send.{Receive, lowest_of}
use Rattle.paths.specs.CubeNetwork.{Shape, network, unfolded, is_link_of}
use Rattle.layout.specs.Layout.{dimension_at, fold_at, enabled_at, owner_at, receiver_at, armed_at}

pub record View : Type 0 where
  pub dimension : ℕ
  pub fold : ℕ
  pub enabled : ℕ → ℕ → Bool
  pub owner : ℕ → ℕ → ℕ
  pub receiver : ℕ → ℕ → ℕ
  pub armed : ℕ → ℕ → Bool

unfoldable pub view : List ℕ → View
view b = record { dimension = dimension_at b; fold = fold_at b; enabled = enabled_at b; owner = owner_at b; receiver = receiver_at b; armed = armed_at b }

-- what the network of a table is read from
abbrev pub shape_of : View → Shape
shape_of v = record { dimension = v.dimension; fold = v.fold }

abbrev pub net : View → Network
net v = network (shape_of v)

-- Cube 13: a link is held if its entry is another than 0, which stands for no circuit (Cube 11).
unfoldable pub held_in : View → ℕ → ℕ → Bool
held_in v n p = not (eqb (v.owner n p) 0)

-- the link out of port q of node m is held by circuit c
abbrev pub held_by : View → ℕ → ℕ → ℕ → Bool
held_by v c m q = eqb (v.owner m q) c

-- a function of a node and a port or channel, changed at one place
unfoldable pub set_at : {A : Type 0} → (ℕ → ℕ → A) → ℕ → ℕ → A → ℕ → ℕ → A
set_at f n p a m q = cond (eqb m n && eqb q p) a (f m q)

unfoldable pub set_owner : View → ℕ → ℕ → ℕ → View
set_owner v n p c = record { dimension = v.dimension; fold = v.fold; enabled = v.enabled; owner = set_at v.owner n p c; receiver = v.receiver; armed = v.armed }

unfoldable pub set_receiver : View → ℕ → ℕ → ℕ → View
set_receiver v n k c = record { dimension = v.dimension; fold = v.fold; enabled = v.enabled; owner = v.owner; receiver = set_at v.receiver n k c; armed = v.armed }

-- Calls 10, Calls 11: blocked and unblocked
unfoldable pub set_enabled : View → ℕ → ℕ → Bool → View
set_enabled v n p on = record { dimension = v.dimension; fold = v.fold; enabled = set_at v.enabled n p on; owner = v.owner; receiver = v.receiver; armed = v.armed }

-- Calls 12, Calls 13: armed and disarmed
unfoldable pub set_armed : View → ℕ → ℕ → Bool → View
set_armed v n k on = record { dimension = v.dimension; fold = v.fold; enabled = v.enabled; owner = v.owner; receiver = v.receiver; armed = set_at v.armed n k on }

-- Calls 15: every entry of a circuit freed, and its channel disarmed.
unfoldable pub without_circuit : View → ℕ → View
without_circuit v c =
    record {
      dimension = v.dimension;
      fold = v.fold;
      enabled = v.enabled;
      owner = λ n p. cond (eqb (v.owner n p) c) 0 (v.owner n p);
      receiver = λ n k. cond (eqb (v.receiver n k) c) 0 (v.receiver n k);
      armed = λ n k. cond (eqb (v.receiver n k) c) false (v.armed n k);
    }

-- Cube 14: a receive channel is available if it is armed and no circuit holds it.
unfoldable pub available : View → ℕ → ℕ → Bool
available v n k = v.armed n k && eqb (v.receiver n k) 0

-- Searches 9: the target takes its lowest available channel.
unfoldable pub receive : View → ℕ → Receive
receive v n = lowest_of (available v n)

-- Tables 11, Wide 3: a made table.
unfoldable pub fresh : ℕ → View
fresh D = record { dimension = D; fold = 0; enabled = is_link_of (unfolded D); owner = λ n p. 0; receiver = λ n k. 0; armed = λ n k. false }
