-- The test of a path: over ports of the cube it passes exactly where the path is permitted for some send vector to some target.
-- Assumes nothing.
use mathlib.Core.Path.{◌≡◌, refl, ap}
use mathlib.Core.Bool.{true, not, false≢true}
use mathlib.Core.List.Memᴰ
use mathlib.Core.List.{List, [], ◌∷◌}
use Prim.Native.Nat.{ℕ, ◌^◌, ◌<◌}
use lib.Dec.{eqb}
use lib.Pow.{pow-lt}
use borrow.Author.Tests.{eqb-true, eqb-false, eq-eqb, ne_eqb, not-true}
use Rattle.common.specs.Lists.{◌∈◌}
use Rattle.common.proofs.Tests.{both, and}
use Rattle.common.proofs.From.{kept_below, below_kept}
use Rattle.cube.specs.Bits.{has}
use Rattle.cube.specs.Axes.{axis, present}
use Rattle.cube.proofs.Bits.{bit_power}
use Rattle.cube.proofs.Axes.{present_axis}
use Rattle.paths.specs.Network.{Network, Path, offered, end}
use Rattle.paths.specs.Permitted.{Onward, Permitted}
use Rattle.paths.specs.CubeNetwork.{Shape, Node, ports, network, send_ports}
use Rattle.paths.proofs.Sentences.{permitted_end}
use Rattle.paths.proofs.CubeNetwork.{send_port}
use Rattle.paths.proofs.FoldedCube.{port_listed}
use Rattle.paths.proofs.Apart.{permitted_inside}
use Rattle.judging.specs.Judged.{goes_on, is_permitted}

module _ (N : Network) (t : ℕ) where
  -- what the test of a way on lets through is one, over ports of the network
  pub goes_onward : (n : ℕ) (w : Path) → ((q : ℕ) → q ∈ w → q < N.port_bound) → goes_on N t n w ≡ true → Onward N t n w
  unfolding goes_on Onward offered
  goes_onward n [] h e = eqb-true n t e
  goes_onward n (p ∷ w) h e =
      let r = both (not (eqb n t)) _ e in
      let k = both (N.offers t n p) _ r.1 in
      (eqb-false n t (not-true _ r.0), below_kept (N.offers t n) N.port_bound p (h p (Memᴰ.head refl)) k.0, goes_onward (N.next n p) w (λ q m. h q (Memᴰ.tail m)) k.1)

  -- and it lets every way on through
  onward_goes : (n : ℕ) (w : Path) → Onward N t n w → goes_on N t n w ≡ true
  unfolding goes_on Onward offered
  onward_goes n [] e = eq-eqb n t e
  onward_goes n (p ∷ w) o =
      and (ap not (ne_eqb n t o.0)) (and (kept_below (N.offers t n) N.port_bound p o.1).1 (onward_goes (N.next n p) w o.2))

  -- so every permitted path passes, whatever its send vector
  pub permitted_passes : (s : ℕ) (vector : List ℕ) (w : Path) → Permitted N s vector t w → is_permitted N s t w ≡ true
  unfolding is_permitted Permitted
  permitted_passes s vector [] o = elim o [ ]
  permitted_passes s vector (p ∷ w) o = onward_goes (N.next s p) w o.1

  -- and a path that passes has a first hop, and is permitted for each vector that has that port
  passing_permitted : (s : ℕ) (w : Path) → ((q : ℕ) → q ∈ w → q < N.port_bound) → is_permitted N s t w ≡ true
      → (p : ℕ) × (p ∈ w) × ((vector : List ℕ) → p ∈ vector → Permitted N s vector t w)
  unfolding is_permitted Permitted
  passing_permitted s [] h e = absurd (false≢true e)
  passing_permitted s (p ∷ w) h e = (p, Memᴰ.head refl, λ vector m. (m, goes_onward (N.next s p) w (λ q k. h q (Memᴰ.tail k)) e))

-- In a cube
module _ (S : Shape) where
  -- a port is one that the network counts,
  pub bounded : (q : ℕ) → present S.dimension S.fold q ≡ true → q < (network S).port_bound
  unfolding network
  bounded q e = (present_axis S.dimension S.fold q e).0

  -- and it is sent over with the vector that has the bit of its axis alone.
  alone_sent : (p : ℕ) → present S.dimension S.fold p ≡ true → p ∈ send_ports S (2 ^ axis p)
  alone_sent p e = (send_port S (2 ^ axis p) p).1 (port_listed S p e, unfold has in eq-eqb _ 1 (bit_power (axis p)))

  -- A path over ports of the cube that passes the test for its own end is permitted for some vector to that end, which is a node of the cube.
  pub permitted_some : (s : ℕ) (w : Path) → Node S s → ((q : ℕ) → q ∈ w → present S.dimension S.fold q ≡ true) → is_permitted (network S) s (end (network S) s w) w ≡ true
      → (vector : ℕ) × (vector < 2 ^ S.dimension) × (end (network S) s w < 2 ^ S.dimension) × Permitted (network S) s (send_ports S vector) (end (network S) s w) w
  permitted_some s w i there e =
      let t = end (network S) s w in
      let r = passing_permitted (network S) t s w (λ q m. bounded q (there q m)) e in
      let here = there r.0 r.1 in
      let o = r.2 (ports S) (port_listed S r.0 here) in
      (2 ^ axis r.0, pow-lt (present_axis S.dimension S.fold r.0 here).1, (permitted_inside S s t w i o).1, r.2 (send_ports S (2 ^ axis r.0)) (alone_sent r.0 here))

  -- A path that is permitted, for whatever vector to whatever target, passes it.
  pub some_permitted : (s v t : ℕ) (w : Path) → Permitted (network S) s (send_ports S v) t w → is_permitted (network S) s (end (network S) s w) w ≡ true
  some_permitted s v t w o =
      rw (permitted_end (network S) s (send_ports S v) t w o) (permitted_passes (network S) t s (send_ports S v) w o)
