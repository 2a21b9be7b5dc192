-- The links of a helix path from a node on, by the ports that are offered there: `HelixPath` goes along them.
-- Assumes nothing.
use mathlib.Core.Path.{◌≡◌, refl, ap, sym, ◌∙◌}
use mathlib.Core.Logic.{⊎_elim, ◌≢◌}
use mathlib.Core.Bool.{Bool, cond, true, false, ◌&&◌, and-false}
use mathlib.Core.List.{[], ◌∷◌}
use Prim.Native.Nat.{ℕ, ◌-◌, ◌^◌, ◌≤◌, ◌<◌}
use native.Mathlib.Omega.{arith}
use native.Mathlib.Nat.{lt_of_lt_of_le}
use lib.Bits.{bit_xor, xor_lt, xor_self}
use lib.Dec.{eqb}
use lib.Pow.{pow_pos, pow_mono, pow-lt}
use borrow.Author.Tests.{eq-eqb, ne_eqb}
use Rattle.common.specs.Lists.{◌∈◌}
use Rattle.common.proofs.Tests.{clash, same?}
use Rattle.cube.specs.Axes.{positions, partner, present}
use Rattle.cube.specs.Bits.{bit_at, has}
use Rattle.cube.specs.Cube.{largest_dimension, next}
use Rattle.cube.specs.CubeContracts.{WithPartners, FirstTried, FirstByRule}
use Rattle.cube.specs.Helical.{helical, ports_of, first_or, first_of}
use Rattle.cube.proofs.Bits.{bit_power, bit_power_other, no_ports, zero_has}
use Rattle.cube.proofs.Order.{first_tried, helical_last, helical_zero, ports_mem}
use Rattle.cube.proofs.PartnerPorts.{each_port}
use Rattle.paths.specs.BoardPorts.{BoardPorts}
use Rattle.paths.specs.CubeNetwork.{ports}
use Rattle.paths.specs.HelixLinks.{LinkInside, largest, helix_links}
use Rattle.paths.specs.LinksLeft.{links_offered}
use Rattle.paths.proofs.FoldedCube.{board_port, partners_there}
use Rattle.paths.proofs.HelixLinks.{reached, links_end, links_on, some_offered}

-- the port by rule is the one tried first
pub first_is : (v a p : ℕ) → FirstTried positions v a p → first_of v a ≡ p
unfolding first_of first_or
first_is v a p tried = rw tried.rest refl

pub first_of_tried : (v a : ℕ) → v < 2 ^ positions → v ≢ 0 → FirstTried positions v a (first_of v a)
unfolding first_of
first_of_tried v a h some = first_tried 18 18 v a h some

-- no port, no partner
pub nothing_wide : (f u : ℕ) → WithPartners f 0 u → u ≡ 0
nothing_wide f u up =
    no_ports 18 u up.small
    (each_port (λ q. has u q ≡ false) (λ p l. up.given p l ∙ zero_has p) (λ p l. up.partners p l ∙ rw (zero_has p) (and-false (has f p))))

-- Where one port is offered, it is the one that is tried first, whatever the arrival.
module _ (p a : ℕ) (l : p < positions) where
  tried : FirstTried positions (2 ^ p) a (first_of (2 ^ p) a)
  tried = first_of_tried (2 ^ p) a (pow-lt l) (λ e. omega (arith, e, pow_pos p))

  pub power_off : (q : ℕ) → q ≢ p → has (2 ^ p) q ≡ false
  unfolding has
  power_off q off = ap (λ x. eqb x 1) (bit_power_other p q off)

  pub one_port_first : first_of (2 ^ p) a ≡ p
  one_port_first = ⊎_elim (λ e. e) (λ off. absurd (clash tried.offered (power_off _ off))) (same? (first_of (2 ^ p) a) p)

  -- and the only one listed
  pub one_port : ports_of positions (2 ^ p) ≡ p ∷ []
  one_port =
      let r = first_of_tried (2 ^ p) 17 (pow-lt l) (λ e. omega (arith, e, pow_pos p)) in
      let same : first_of (2 ^ p) 17 ≡ p = ⊎_elim (λ e. e) (λ off. absurd (clash r.offered (power_off _ off))) (same? (first_of (2 ^ p) 17) p) in
      let nothing : 2 ^ p - 2 ^ first_of (2 ^ p) 17 ≡ 0 = rw same (omega arith) in
      sym (helical_last 17 (ports_of positions (2 ^ p)) (λ q m. let l = (ports_mem 18 (2 ^ p) m).0 in omega arith))
      ∙ r.rest ∙ ap (λ v. first_of (2 ^ p) 17 ∷ helical 17 (ports_of positions v)) nothing ∙ ap (first_of (2 ^ p) 17 ∷◌) (helical_zero 18 17) ∙ ap (◌∷ []) same

  pub links_begin : (f s t : ℕ) {v : ℕ} → v ≡ 2 ^ p → links_offered f s t v a ≡ helix_links f s t p
  unfolding links_offered
  links_begin f s t {v} e =
      ap (λ x. cond x [] (helix_links f s t (first_of v a))) (ne_eqb v 0 (λ z. omega (arith, e, z, pow_pos p))) ∙ ap (λ x. helix_links f s t (first_of x a)) e ∙ ap (helix_links f s t) one_port_first

  -- and it is a port of the cube that the vector has
  pub one_there : {w f v : ℕ} → v ≡ 2 ^ p → p < w → present largest_dimension f p ≡ true → BoardPorts w (largest f) v
  one_there {w} {f} {v} e k m =
      rw e (record { below = pow-lt k; there = λ q on. ⊎_elim (λ i. rw i m) (λ off. absurd (clash on (power_off q off))) (same? q p) })

pub links_over : (f n t a : ℕ) → links_offered f n t 0 a ≡ []
unfolding links_offered
links_over f n t a = refl

-- Where some port is offered: the link over the first of them, and those that follow it.
module _ {w f n t v a p : ℕ} (most : w ≤ positions) (node : n < 256) (target : t < 256) (offered : BoardPorts w (largest f) v) (first : FirstByRule v a p) where
  pub chosen : FirstTried positions v a p
  chosen = first.tried 18 (lt_of_lt_of_le offered.below (pow_mono most))

  port : p ∈ ports (largest f)
  port = board_port (largest f) offered p chosen.offered

  pub link_inside : LinkInside w f n p
  link_inside = (node, (first.tried w offered.below).small, offered.there p chosen.offered)

  pub reached_inside : {m : ℕ} → m ≡ next n p → m < 256
  reached_inside to = reached f node port to

  pub uphill_small : {m x y : ℕ} → m ≡ next n p → x ≡ bit_xor m t → y ≡ x → y < 256
  uphill_small {m} to e i = rw (i, e) (xor_lt 8 m t (reached_inside to) target)

  module _ {m u : ℕ} (to : m ≡ next n p) (up : WithPartners f (bit_xor m t) u) where
    pub next_there : u < 2 ^ w → BoardPorts w (largest f) u
    next_there small = record { below = small; there = partners_there (largest f) (omega arith) m t u (reached_inside to) target up }

  module _ (some : v ≢ 0) {m u : ℕ} (to : m ≡ next n p) (up : WithPartners f (bit_xor m t) u) where
    here : links_offered f n t v a ≡ helix_links f n t p
    unfolding links_offered
    here = ap (λ x. cond x [] (helix_links f n t (first_of v a))) (ne_eqb v 0 some) ∙ ap (helix_links f n t) (first_is v a p chosen)

    pub links_step : links_offered f n t v a ≡ (n, p) ∷ links_offered f m t u p
    unfolding links_offered
    links_step =
        ⊎_elim
        (λ e. here ∙ links_end f target node port to e
        ∙ sym (ap (λ x. (n, p) ∷ cond x [] (helix_links f m t (first_of u p))) (eq-eqb u 0 (nothing_wide f u (rw (e, xor_self t) at up)))))
        (λ off.
        let z = some_offered f target node port to off up in
        here ∙ links_on f target node port to off up (first_of_tried u p up.small z) ∙ sym (ap (λ x. (n, p) ∷ cond x [] (helix_links f m t (first_of u p))) (ne_eqb u 0 z)))
        (same? m t)
