-- What a table that agrees with the history of both halves shows is what the third table shows.
-- Assumes nothing.
use mathlib.Core.Path.{◌≡◌, refl, ap, sym, ◌∙◌}
use mathlib.Core.Logic.{⊎_elim, ◌≢◌}
use mathlib.Core.Bool.{Bool, true, false, not, ◌&&◌, and-true}
use mathlib.Core.List.Memᴰ
use mathlib.Core.List.{[], ◌++◌, map}
use Prim.Native.Nat.{ℕ, suc, ◌*◌, ◌+◌, ◌^◌, ◌<◌}
use native.Mathlib.Omega.{arith}
use native.Mathlib.Nat.{pow-succ'}
use lib.Dec.{ltb}
use borrow.Author.Tests.{eq-eqb, ne_eqb, lt-ltb, ltb-true, ltb-false}
use Rattle.common.specs.Lists.{◌∈◌}
use Rattle.common.proofs.Tests.{same?, is_false}
use Rattle.common.proofs.Lists.{all_append, all_map}
use Rattle.cube.specs.Axes.{present}
use Rattle.cube.specs.Cube.{largest_dimension}
use Rattle.cube.proofs.PartnerPorts.{unfolded_present}
use Rattle.paths.specs.Network.{Link, has_link}
use Rattle.paths.specs.CubeNetwork.{unfolded, is_node}
use Rattle.paths.proofs.Links.{true_link}
use Rattle.ownership.specs.History.{Circuit, History, net_on, links_of, holds_link, enabled_on, armed_on}
use Rattle.ownership.specs.HistoryView.{first_circuit, view_of}
use Rattle.ownership.specs.Invariant.{Valid}
use Rattle.ownership.proofs.Circuits.{number_none}
use Rattle.ownership.proofs.CircuitValid.{holds_link_lem, inside}
use Rattle.ownership.proofs.Ports.{same_links}
use Rattle.joining.specs.Joined.{of_halves, renumbered, at_new_port, joined_view, joined_history}
use Rattle.joining.proofs.HalfNodes.{second_gains, port_below}
use Rattle.joining.proofs.HalfPaths.{link_behind, links_behind}
use Rattle.joining.proofs.FirstOf.{in_halves, of_first, of_second, Apart}
use Rattle.joining.proofs.BothHalves.{circuit_behind, marks_both, number_both, receive_apart}

-- the history of a half with the dimension of the other and with nothing folded, as in that of a narrow table; and the history of both
abbrev pub like : History → History → History
like h g = record { dimension = h.dimension; fold = 0; blocked = g.blocked; circuits = g.circuits; armed = g.armed }

abbrev pub both_on : History → History → History
both_on h g =
    record {
      dimension = suc h.dimension;
      fold = 0;
      blocked = h.blocked ++ map (link_behind (2 ^ h.dimension)) g.blocked;
      circuits = h.circuits ++ map (circuit_behind (2 ^ h.dimension)) g.circuits;
      armed = h.armed ++ map (link_behind (2 ^ h.dimension)) g.armed;
    }

pub joined_is : (h g : History) → joined_history h g ≡ both_on h g
unfolding joined_history
joined_is h g = refl

-- a port that is new, and one that is not
module _ {A : Type 0} (D : ℕ) (x : ℕ → A) (f : ℕ → ℕ → A) (n : ℕ) where
  pub new_port : at_new_port D x f n D ≡ x n
  unfolding at_new_port
  new_port = rw (eq-eqb D D refl)

  pub old_port : (p : ℕ) → p ≢ D → at_new_port D x f n p ≡ f n p
  unfolding at_new_port
  old_port p ne = rw (ne_eqb p D ne)

-- two comparisons that say the same
same_ltb : (a b c d : ℕ) → (a < b → c < d) → (c < d → a < b) → ltb a b ≡ ltb c d
same_ltb a b c d there back = go (ltb c d) refl
  where
    go : (x : Bool) → ltb c d ≡ x → ltb a b ≡ x
    go true e = lt-ltb a b (back (ltb-true c d e))
    go false e = is_false _ (λ i. omega (arith, there (ltb-true a b i), ltb-false c d e))

module _ (given g : History) (valid : Valid (like given given)) (its : Valid (like given g)) (room : given.dimension < largest_dimension) where
  abbrev h : History
  h = like given given

  abbrev D : ℕ
  D = h.dimension

  abbrev J : History
  J = both_on h g

  -- a port of a half
  below : (p : ℕ) → present D 0 p ≡ true → p < D
  below p = port_below D 0 p refl (omega arith)

  -- links of the ports that both halves have are enabled as they were, and those of the new port are
  marked : (n p : ℕ) → has_link J.blocked n p ≡ of_halves D (has_link h.blocked) (has_link g.blocked) n p
  marked n p = marks_both D h.blocked g.blocked (λ l m. (valid.blocked l m).0) n p

  pub enabled_old : (p : ℕ) → p ≢ D → (n : ℕ) → enabled_on J n p ≡ of_halves D (enabled_on h) (enabled_on (like h g)) n p
  unfolding enabled_on
  enabled_old p ne = in_halves D (λ n. enabled_on J n p ≡ of_halves D (enabled_on h) (enabled_on (like h g)) n p) one other
    where
      port : present (suc D) 0 p ≡ present D 0 p
      port = unfolded_present (suc D) p (omega arith) ∙ same_ltb p (suc D) p D (λ l. omega arith) (λ l. omega arith) ∙ sym (unfolded_present D p (omega arith))

      one : (n : ℕ) → n < 2 ^ D → enabled_on J n p ≡ of_halves D (enabled_on h) (enabled_on (like h g)) n p
      one n l =
          (λ i. (same_ltb n (2 ^ suc D) n (2 ^ D) (λ k. l) (λ k. omega (arith, pow-succ' 2 D)) i && port i) && not ((marked n p ∙ of_first D _ _ n p l) i)) ∙ sym (of_first D _ _ n p l)

      other : (n : ℕ) → enabled_on J (n + 2 ^ D) p ≡ of_halves D (enabled_on h) (enabled_on (like h g)) (n + 2 ^ D) p
      other n =
          (λ i. (same_ltb (n + 2 ^ D) (2 ^ suc D) n (2 ^ D) (λ k. omega (arith, k, pow-succ' 2 D)) (λ k. omega (arith, k, pow-succ' 2 D)) i && port i) && not ((marked (n + 2 ^ D) p ∙ of_second D _ _ n p) i))
          ∙ sym (of_second D _ _ n p)

  enabled_new : (n : ℕ) → enabled_on J n D ≡ ltb n (2 ^ suc D)
  unfolding enabled_on
  enabled_new n = rw (there, none) (and-true (ltb n (2 ^ suc D) && true) ∙ and-true (ltb n (2 ^ suc D)))
    where
      there : present (suc D) 0 D ≡ true
      there = unfolded_present (suc D) D (omega arith) ∙ lt-ltb D (suc D) (omega arith)

      none : has_link J.blocked n D ≡ false
      none = is_false _ (λ e.
          let far : (l : Link) → l ∈ J.blocked → l.1 < D = all_append (λ (l : Link). l.1 < D) h.blocked (λ l m. below l.1 (valid.blocked l m).1) (all_map (λ (l : Link). l.1 < D) (link_behind (2 ^ D)) g.blocked (λ l m. below l.1 (its.blocked l m).1)) in
          omega (arith, far (n, D) (true_link J.blocked n D e)))

  enabled_both : (n p : ℕ) → enabled_on J n p ≡ at_new_port D (is_node (unfolded (suc D))) (of_halves D (enabled_on h) (enabled_on (like h g))) n p
  enabled_both n p =
      ⊎_elim (λ e. rw e (enabled_new n ∙ sym (new_port D _ _ n))) (λ ne. enabled_old p ne n ∙ sym (old_port D _ _ n p ne)) (same? p D)

  -- each link is held by the circuit that held it in its half
  moved_links : (y : Circuit) → y ∈ g.circuits → (n p : ℕ) → holds_link (net_on J) n p (circuit_behind (2 ^ D) y) ≡ of_halves D (has_link []) (has_link (links_of (net_on h) y)) n p
  unfolding holds_link
  moved_links y m n p =
      let s = its.every_circuit y m in
      ap (λ ls. has_link ls n p) (links_behind (second_gains D) room y.source y.target y.ports s.source s.permitted)
      ∙ marks_both D [] (links_of (net_on h) y) (λ l m. absurd (Memᴰ.not-nil m)) n p

  links_apart : Apart D (holds_link (net_on J)) (holds_link (net_on h)) (circuit_behind (2 ^ D)) h.circuits g.circuits
  links_apart =
      record {
        first = λ n p l x m. as_before x n p;
        not_first = λ n p x m. is_false _ (λ e. omega (arith, ((inside h valid x m).0 (n + 2 ^ D) p (holds_link_lem (net_on h) (n + 2 ^ D) p x (sym (as_before x (n + 2 ^ D) p) ∙ e))).0));
        second = λ n p y m. moved_links y m (n + 2 ^ D) p ∙ of_second D _ _ n p ∙ unfold holds_link in refl;
        not_second = λ n p l y m. moved_links y m n p ∙ of_first D _ _ n p l ∙ unfold has_link in refl;
      }
    where
      as_before : (x : Circuit) (n p : ℕ) → holds_link (net_on J) n p x ≡ holds_link (net_on h) n p x
      as_before x n p = unfold holds_link in ap (λ ls. has_link ls n p) (same_links (unfolded (suc D)) (unfolded D) x.source x.ports)

  -- the numbers that the two halves have for links, none at the new port
  abbrev owners : ℕ → ℕ → ℕ
  owners = of_halves D (λ n p. first_circuit (holds_link (net_on h) n p) h.circuits) (λ n p. renumbered (8 * 2 ^ D) (first_circuit (holds_link (net_on h) n p) g.circuits))

  owner_both : (n p : ℕ) → first_circuit (holds_link (net_on J) n p) J.circuits ≡ at_new_port D (λ n. 0) owners n p
  owner_both n p =
      number_both D h.circuits g.circuits links_apart n p
      ∙ ⊎_elim (λ e. rw e (in_halves D (λ n. owners n D ≡ 0) one other n ∙ sym (new_port D _ _ n))) (λ ne. sym (old_port D _ _ n p ne)) (same? p D)
    where
      one : (n : ℕ) → n < 2 ^ D → owners n D ≡ 0
      one n l = of_first D _ _ n D l ∙ number_none _ h.circuits (λ x m e. omega (arith, below D ((inside h valid x m).0 n D (holds_link_lem (net_on h) n D x e)).1))

      other : (n : ℕ) → owners (n + 2 ^ D) D ≡ 0
      other n =
          of_second D _ _ n D
          ∙ ap (renumbered (8 * 2 ^ D)) (number_none _ g.circuits (λ x m e. omega (arith, below D ((inside (like h g) its x m).0 n D (holds_link_lem (net_on h) n D x e)).1)))
          ∙ unfold renumbered in refl

  -- Its view is the joined view.
  pub view_both : view_of J ≡ joined_view (view_of h) (view_of (like h g))
  unfolding view_of joined_view armed_on
  view_both = λ i.
      record {
        dimension = suc D;
        fold = 0;
        enabled = λ n p. enabled_both n p i;
        owner = λ n p. owner_both n p i;
        receiver = λ n k. number_both D h.circuits g.circuits (receive_apart D h.circuits g.circuits (λ x m. (inside h valid x m).1)) n k i;
        armed = λ n k. marks_both D h.armed g.armed (λ l m. (valid.armed l m).0) n k i;
      }
