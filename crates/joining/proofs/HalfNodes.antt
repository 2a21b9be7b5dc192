-- The nodes of a half in the joined cube, where each gains the same number: ports below D lead, and are offered, as in the half.
-- Assumes nothing.
use mathlib.Core.Path.{◌≡◌, refl, ap, sym, ◌∙◌}
use mathlib.Core.Bool.{Bool, true, false, cond}
use Prim.Native.Nat.{ℕ, suc, ◌+◌, ◌-◌, ◌^◌, ◌≤◌, ◌<◌}
use native.Mathlib.Omega.{arith}
use native.Mathlib.Nat.{le_refl, pow-succ'}
use borrow.Author.Tests.{lt-ltb, ltb-true}
use Rattle.common.specs.Lists.{◌∈◌}
use Rattle.cube.specs.Bits.{bit_at, has, flip}
use Rattle.cube.specs.Axes.{axis, present}
use Rattle.cube.specs.Cube.{largest_dimension, uphill}
use Rattle.cube.proofs.Bits.{bit_kept, high_has, has_room}
use Rattle.cube.proofs.PartnerPorts.{unfolded_present}
use Rattle.paths.specs.Network.{offered}
use Rattle.paths.specs.CubeNetwork.{unfolded, ports, network}
use Rattle.paths.proofs.CubeNetwork.{port_axis, offered_port, port_offered, unfolded_port}

-- the ports of a cube with nothing folded: those below its dimension
pub port_below : (D fold p : ℕ) → fold ≡ 0 → D ≤ largest_dimension → present D fold p ≡ true → p < D
port_below D fold p plain small e = ltb-true p D (sym (unfolded_present D p (omega (arith, small))) ∙ ap (λ f. present D f p) (sym plain) ∙ e)

pub below_port : (D p : ℕ) → D ≤ largest_dimension → p < D → present D 0 p ≡ true
below_port D p small l = unfolded_present D p (omega (arith, small)) ∙ lt-ltb p D l

-- What the nodes of a cube of dimension D gain: no more than 2^D, and they keep their bits below D.
pub record Half (D behind : ℕ) : Type 0 where
  pub low : (n p : ℕ) → n < 2 ^ D → p < D → bit_at (n + behind) p ≡ bit_at n p
  pub most : behind ≤ 2 ^ D

-- Joining 3: nodes of the second gain 2^D, those of the first nothing: to gain 2^D is to have bit D set.
pub first_gains : (D : ℕ) → Half D 0
first_gains D = record { low = λ n p h l. let z : n + 0 ≡ n = omega arith in ap (λ m. bit_at m p) z; most = omega arith }

flip_gains : (D n : ℕ) → n < 2 ^ D → flip n D ≡ n + 2 ^ D
unfolding flip
flip_gains D n h = rw (high_has D n D h (le_refl D))

pub second_gains : (D : ℕ) → Half D (2 ^ D)
second_gains D = record { low = λ n p h l. rw (← flip_gains D n h) (bit_kept n D p (λ e. omega arith)); most = le_refl (2 ^ D) }

module _ {D behind : ℕ} (half : Half D behind) where
  -- such a node is one of the joined cube
  pub inside_both : (n : ℕ) → n < 2 ^ D → n + behind < 2 ^ suc D
  inside_both n h = omega (arith, half.most, pow-succ' 2 D)

  -- to change a bit below D, or to ask whether it is uphill, is the same before a node gains it and after
  flip_behind : (n p : ℕ) → n < 2 ^ D → p < D → flip (n + behind) p ≡ flip n p + behind
  unfolding flip has
  flip_behind n p h l = rw (half.low n p h l) (go (has n p) refl)
    where
      go : (b : Bool) → has n p ≡ b → cond b (n + behind - 2 ^ p) (n + behind + 2 ^ p) ≡ cond b (n - 2 ^ p) (n + 2 ^ p) + behind
      go true e = omega (arith, has_room n p e)
      go false e = omega arith

  uphill_behind : (t n p : ℕ) → t < 2 ^ D → n < 2 ^ D → p < D → uphill (t + behind) (n + behind) p ≡ uphill t n p
  unfolding uphill
  uphill_behind t n p i h l = rw (half.low n p h l, half.low t p i l)

  -- so a port of the half leads to the node to which it leads in the half, which gains as much,
  pub next_behind : (n q : ℕ) → n < 2 ^ D → q ∈ ports (unfolded D) → (network (unfolded (suc D))).next (n + behind) q ≡ (network (unfolded D)).next n q + behind
  unfolding network
  next_behind n q h m = flip_behind n (axis q) h (port_axis (unfolded D) q m)

  module _ (room : D < largest_dimension) where
    -- and is a port of the joined cube, offered there where it is offered in the half.
    pub port_behind : (q : ℕ) → q ∈ ports (unfolded D) → q ∈ ports (unfolded (suc D))
    port_behind q m =
        let l : q < D = (unfolded_port (unfolded D) (omega arith) refl q).0 m in
        (unfolded_port (unfolded (suc D)) (omega arith) refl q).1 (omega arith)

    pub offered_behind : (t n q : ℕ) → t < 2 ^ D → n < 2 ^ D → q ∈ offered (network (unfolded D)) t n → q ∈ offered (network (unfolded (suc D))) (t + behind) (n + behind)
    offered_behind t n q i h m =
        let k = offered_port (unfolded D) t n q m in
        port_offered (unfolded (suc D)) (t + behind) (n + behind) q (port_behind q k.0) (uphill_behind t n (axis q) i h (port_axis (unfolded D) q k.0) ∙ k.1)
