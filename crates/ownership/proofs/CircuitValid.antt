-- A table that agrees with a valid history is sound, and each listed circuit stands in it.
-- Assumes nothing.
use mathlib.Core.Path.{◌≡◌, refl, sym, ◌∙◌, subst}
use mathlib.Core.Logic.{◌⊎◌, inl, inr, ⊎_elim, ◌≢◌, ◌↔◌}
use mathlib.Core.Bool.{Bool, true, false}
use mathlib.Core.List.{List}
use Prim.Native.Nat.{ℕ, ◌*◌, ◌^◌, ◌≤◌, ◌<◌}
use native.Mathlib.Omega.{arith}
use lib.Dec.{eqb, ltb}
use borrow.Author.Tests.{eqb-true, eq-eqb, ltb-true}
use Rattle.common.specs.Lists.{◌∈◌, any, Pairwise}
use Rattle.common.proofs.Tests.{same?, clash, is_false, both, and}
use Rattle.common.proofs.Lists.{pairwise_imp, any_some, some_any}
use Rattle.cube.specs.Cube.{channels, cube_nodes, NodeOf, circuit_of, source_of}
use Rattle.cube.proofs.Circuits.{source_of_circuit}
use Rattle.paths.specs.Network.{Network, end}
use Rattle.paths.proofs.Sentences.{permitted_end}
use Rattle.paths.proofs.Links.{On, link_true, true_link}
use Rattle.paths.specs.CubeNetwork.{LinkOf, is_link_of, ports}
use Rattle.paths.proofs.CubeNetwork.{port_there}
use Rattle.paths.proofs.Apart.{permitted_inside}
use Rattle.circuit_path.specs.CircuitSound.{CircuitSound}
use Rattle.soundness.specs.Sound.{Nowhere, Sound}
use Rattle.ownership.specs.History.{Circuit, History, shape_on, net_on, links_of, holds_link, holds_receive, enabled_on, armed_on}
use Rattle.ownership.specs.Invariant.{Disjoint, Valid}
use Rattle.ownership.specs.HistoryView.{view_of}
use Rattle.ownership.proofs.Circuits.{pairwise_one, number_for, circuit_parts, Once, number_some, number_circuit, number_found}

-- what it is for a circuit to hold a link, or a receive channel
pub holds_link_lem : (N : Network) (n p : ℕ) (x : Circuit) → holds_link N n p x ≡ true → (n, p) ∈ links_of N x
unfolding holds_link
holds_link_lem N n p x e = true_link (links_of N x) n p e

pub link_holds : (N : Network) (n p : ℕ) (x : Circuit) → (n, p) ∈ links_of N x → holds_link N n p x ≡ true
unfolding holds_link
link_holds N n p x m = link_true (links_of N x) n p m

pub holds_receive_lem : (n k : ℕ) (x : Circuit) → holds_receive n k x ≡ true → (n ≡ x.target) × (k ≡ x.receive)
unfolding holds_receive
holds_receive_lem n k x e = let r = both (eqb n x.target) (eqb k x.receive) e in (eqb-true n _ r.0, eqb-true k _ r.1)

pub receive_holds : (n k : ℕ) (x : Circuit) → n ≡ x.target → k ≡ x.receive → holds_receive n k x ≡ true
unfolding holds_receive
receive_holds n k x e f = and (eq-eqb n _ e) (eq-eqb k _ f)

-- no two circuits hold one link, or one receive channel
pub links_once : (N : Network) (n p : ℕ) (xs : List Circuit) → Pairwise (Disjoint N) xs → Once (holds_link N n p) xs
links_once N n p xs o = pairwise_imp (Disjoint N) _ xs (λ x y m k s e f. s.link (n, p) (holds_link_lem N n p x e) (holds_link_lem N n p y f)) o

pub receives_once : (N : Network) (n k : ℕ) (xs : List Circuit) → Pairwise (Disjoint N) xs → Once (holds_receive n k) xs
receives_once N n k xs o =
    pairwise_imp (Disjoint N) _ xs
    (λ x y m l s e f. let a = holds_receive_lem n k x e in let b = holds_receive_lem n k y f in s.receives (sym a.0 ∙ b.0) (sym a.1 ∙ b.1)) o

module _ (h : History) (valid : Valid h) where
  abbrev N : Network
  N = net_on h

  -- two listed circuits of one number are one
  pub same_circuit : (x y : Circuit) → x ∈ h.circuits → y ∈ h.circuits → number_for x ≡ number_for y → x ≡ y
  same_circuit x y m k e =
      let r = circuit_parts x.source x.channel y.source y.channel (valid.every_circuit x m).channel (valid.every_circuit y k).channel e in
      pairwise_one (Disjoint N) h.circuits valid.apart x y m k (λ s. s.send r.0 r.1) (λ s. s.send (sym r.0) (sym r.1))

  -- a listed circuit holds its links and its receive channel
  pub owner_of : (x : Circuit) → x ∈ h.circuits → (n p : ℕ) → (n, p) ∈ links_of N x → (view_of h).owner n p ≡ number_for x
  unfolding view_of
  owner_of x m n p l = number_found (holds_link N n p) h.circuits (links_once N n p h.circuits valid.apart) x m (link_holds N n p x l)

  pub receiver_of : (x : Circuit) → x ∈ h.circuits → (view_of h).receiver x.target x.receive ≡ number_for x
  unfolding view_of
  receiver_of x m =
      number_found (holds_receive x.target x.receive) h.circuits (receives_once N x.target x.receive h.circuits valid.apart) x m
      (receive_holds x.target x.receive x refl refl)

  -- A link, or a receive channel, is a send channel's exactly where the circuit listed for that channel holds it.
  pub owner_exactly : (s c : ℕ) → c < channels → (n p : ℕ)
      → ((view_of h).owner n p ≡ circuit_of s c) ↔ ((x : Circuit) × (x ∈ h.circuits) × ((x.source ≡ s) × (x.channel ≡ c)) × ((n, p) ∈ links_of N x))
  owner_exactly s c small n p = (
    (λ e. unfold view_of in let r = number_circuit (holds_link N n p) s c small h.circuits (λ x m. (valid.every_circuit x m).channel) e in (r.0, r.1, (r.3, r.4), holds_link_lem N n p r.0 r.2)),
    (λ r. owner_of r.0 r.1 n p r.3 ∙ (λ i. circuit_of (r.2.0 i) (r.2.1 i))),
  )

  pub receiver_exactly : (s c : ℕ) → c < channels → (n k : ℕ)
      → ((view_of h).receiver n k ≡ circuit_of s c) ↔ ((x : Circuit) × (x ∈ h.circuits) × ((x.source ≡ s) × (x.channel ≡ c)) × ((n ≡ x.target) × (k ≡ x.receive)))
  receiver_exactly s c small n k = (
    (λ e. unfold view_of in let r = number_circuit (holds_receive n k) s c small h.circuits (λ x m. (valid.every_circuit x m).channel) e in (r.0, r.1, (r.3, r.4), holds_receive_lem n k r.0 r.2)),
    (λ r. (λ i. (view_of h).receiver (r.3.0 i) (r.3.1 i)) ∙ receiver_of r.0 r.1 ∙ (λ i. circuit_of (r.2.0 i) (r.2.1 i))),
  )

  -- who holds a link, or a receive channel, that is held
  pub link_held_lem : (n p : ℕ) → (view_of h).owner n p ≢ 0 → (x : Circuit) × (x ∈ h.circuits) × ((n, p) ∈ links_of N x) × ((view_of h).owner n p ≡ number_for x)
  unfolding view_of
  link_held_lem n p z = let r = number_some (holds_link N n p) h.circuits z in (r.0, r.1, holds_link_lem N n p r.0 r.2, r.3)

  pub receive_held : (n k : ℕ) → (view_of h).receiver n k ≢ 0
      → (x : Circuit) × (x ∈ h.circuits) × ((n ≡ x.target) × (k ≡ x.receive)) × ((view_of h).receiver n k ≡ number_for x)
  unfolding view_of
  receive_held n k z = let r = number_some (holds_receive n k) h.circuits z in (r.0, r.1, holds_receive_lem n k r.0 r.2, r.3)

  -- the links and the target of a listed circuit lie in the cube
  pub inside : (x : Circuit) → x ∈ h.circuits
      → ((n p : ℕ) → (n, p) ∈ links_of N x → LinkOf (shape_on h) n p) × NodeOf h.dimension x.target
  unfolding On
  inside x m =
      let s = valid.every_circuit x m in
      let r = permitted_inside (shape_on h) x.source x.target x.ports s.source s.permitted in
      ((λ n p i. ((r.0 n p i).0, port_there (shape_on h) p (r.0 n p i).1)), subst (λ (n : ℕ). NodeOf h.dimension n) (permitted_end N x.source (ports (shape_on h)) x.target x.ports s.permitted) r.1)

  -- and an armed receive channel is one of the eight of a node of the cube
  pub armed_inside : (n k : ℕ) → armed_on h n k ≡ true → (NodeOf h.dimension n) × (k < channels)
  unfolding armed_on
  armed_inside n k e = valid.armed (n, k) (true_link h.armed n k e)

  -- its number gives its source back
  from_number : (x : Circuit) → x ∈ h.circuits → source_of (number_for x) ≡ x.source
  from_number x m = source_of_circuit x.source x.channel (valid.every_circuit x m).channel

  ends : (x : Circuit) → x ∈ h.circuits → end N (source_of (number_for x)) x.ports ≡ x.target
  ends x m = rw (from_number x m) (permitted_end N x.source (ports (shape_on h)) x.target x.ports (valid.every_circuit x m).permitted)

  some_number : (x : Circuit) → number_for x ≢ 0
  some_number x z = omega arith

  -- Each listed circuit stands, on its path and its receive channel.
  pub valid_stands : (x : Circuit) → x ∈ h.circuits → CircuitSound (view_of h) (circuit_of x.source x.channel)
  unfolding view_of
  valid_stands x m =
      record {
        path = x.ports;
        permitted = rw (ends x m, from_number x m) (valid.every_circuit x m).permitted;
        exactly =
            record {
              all = λ n p l. eq-eqb _ _ (owner_of x m n p (rw (from_number x m) at l));
              only = λ n p e.
                  let q : (view_of h).owner n p ≡ number_for x = eqb-true _ _ e in
                  let r = link_held_lem n p (λ z. some_number x (sym q ∙ z)) in
                  rw (from_number x m) (subst (λ (y : Circuit). (n, p) ∈ links_of N y) (same_circuit r.0 x r.1 m (sym r.3 ∙ q)) r.2);
            };
        receive = x.receive;
        small = (valid.every_circuit x m).receive;
        receives = rw (ends x m) (receiver_of x m);
        once = λ n k q.
            let r = receive_held n k (λ z. some_number x (sym q ∙ z)) in
            rw (ends x m) (subst (λ (y : Circuit). (n ≡ y.target) × (k ≡ y.receive)) (same_circuit r.0 x r.1 m (sym r.3 ∙ q)) r.2);
      }

  pub stands_path : (x : Circuit) (m : x ∈ h.circuits) → ((valid_stands x m).path ≡ x.ports) × ((valid_stands x m).receive ≡ x.receive)
  unfolding valid_stands
  stands_path x m = (refl, refl)

  -- a number is that of a listed circuit, or occurs nowhere
  occurs : (c : ℕ) → c ≢ 0 → Nowhere (view_of h) c ⊎ CircuitSound (view_of h) c
  occurs c ne = go (any (λ x. eqb (number_for x) c) h.circuits) refl
    where
      is : Circuit → Bool
      is x = eqb (number_for x) c

      go : (b : Bool) → any is h.circuits ≡ b → Nowhere (view_of h) c ⊎ CircuitSound (view_of h) c
      go true e = let r = any_some is h.circuits e in inr (subst (CircuitSound (view_of h)) (eqb-true _ c r.2) (valid_stands r.0 r.1))
      go false e =
          inl (
            (λ n p q. let r = link_held_lem n p (λ z. ne (sym q ∙ z)) in clash (some_any is h.circuits r.1 (eq-eqb _ c (sym r.3 ∙ q))) e),
            (λ n k q. let r = receive_held n k (λ z. ne (sym q ∙ z)) in clash (some_any is h.circuits r.1 (eq-eqb _ c (sym r.3 ∙ q))) e),
          )

  number_small : (x : Circuit) → x ∈ h.circuits → number_for x ≤ channels * cube_nodes h.dimension
  number_small x m = omega (arith, (valid.every_circuit x m).source, (valid.every_circuit x m).channel)

  -- A table that agrees with the history is sound.
  pub valid_sound : Sound (view_of h)
  valid_sound =
      record {
        fold_bits = unfold view_of in valid.folded;
        absent_link = λ n p o. unfold view_of in (off n p o, ⊎_elim (λ e. e) (λ e. let r = link_held_lem n p e in absurd (o ((inside r.0 r.1).0 n p r.2))) (same? ((view_of h).owner n p) 0));
        absent_receive = λ n k o.
            unfold view_of in ⊎_elim (λ e. e) (λ e. let r = receive_held n k e in absurd (o (subst (λ (m : ℕ). NodeOf h.dimension m) (sym r.2.0) (inside r.0 r.1).1))) (same? ((view_of h).receiver n k) 0);
        absent_armed = λ n k o. unfold view_of in is_false _ (λ e. o (armed_inside n k e).0);
        held_enabled = λ n p e. unfold view_of in let r = link_held_lem n p e in (valid.every_circuit r.0 r.1).enabled (n, p) r.2;
        held_armed = λ n k e.
            unfold view_of in let r = receive_held n k e in (λ i. armed_on h (r.2.0 i) (r.2.1 i)) ∙ (valid.every_circuit r.0 r.1).armed;
        link_number = λ n p. unfold view_of in ⊎_elim (λ z. omega arith) (λ e. let r = link_held_lem n p e in rw r.3 (number_small r.0 r.1)) (same? ((view_of h).owner n p) 0);
        receive_number = λ n k. unfold view_of in ⊎_elim (λ z. omega arith) (λ e. let r = receive_held n k e in rw r.3 (number_small r.0 r.1)) (same? ((view_of h).receiver n k) 0);
        numbers = occurs;
      }
    where
      off : (n p : ℕ) → (LinkOf (shape_on h) n p → ⊥) → enabled_on h n p ≡ false
      off n p o = unfold enabled_on in is_false _ (λ e. let r = both (ltb n (2 ^ h.dimension)) _ (both (is_link_of (shape_on h) n p) _ e).0 in o (ltb-true n _ r.0, r.1))
