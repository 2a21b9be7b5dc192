-- The history of both halves is valid, and the third table represents it: each circuit stands in the joined cube, and no two share anything.
-- Assumes nothing.
use mathlib.Core.Path.{◌≡◌, refl, ap, sym, ◌∙◌, subst}
use mathlib.Core.Logic.{inl, ◌≢◌}
use mathlib.Core.Bool.{true}
use mathlib.Core.List.Memᴰ
use mathlib.Core.List.{List, map}
use Prim.Native.Nat.{ℕ, suc, ◌+◌, ◌^◌, ◌<◌}
use native.Mathlib.Omega.{arith}
use Rattle.common.specs.Lists.{◌∈◌, Pairwise}
use Rattle.common.proofs.Tests.{clash}
use Rattle.common.proofs.Lists.{all_append, all_map, pairwise_append, pairwise_imp, pairwise_map}
use lib.Dec.{lit<}
use Rattle.cube.specs.Axes.{present}
use Rattle.cube.specs.Cube.{port_count, largest_dimension}
use Rattle.cube.proofs.Bits.{zero_has}
use Rattle.paths.specs.Network.{Link}
use Rattle.paths.specs.CubeNetwork.{unfolded}
use Rattle.table.specs.View.{View, view}
use Rattle.table.specs.Encode.{encode}
use Rattle.ownership.specs.History.{Circuit, History, shape_on, net_on, links_of, enabled_on, armed_on}
use Rattle.ownership.specs.HistoryView.{view_of, bytes_of}
use Rattle.ownership.specs.Invariant.{CircuitValid, Disjoint, Valid, Represents}
use Rattle.ownership.proofs.Agreement.{represents_fold, bytes_represent}
use Rattle.ownership.proofs.CircuitValid.{inside}
use Rattle.ownership.proofs.Ports.{same_links}
use Rattle.joining.specs.Joined.{joined_view, joined_history}
use Rattle.joining.specs.JoinSays.{JoinedShows}
use Rattle.joining.proofs.HalfNodes.{Half, first_gains, second_gains, inside_both, port_below, below_port}
use Rattle.joining.proofs.HalfPaths.{link_behind, permitted_behind, links_behind}
use Rattle.joining.proofs.FirstOf.{of_first, of_second}
use Rattle.joining.proofs.BothHalves.{circuit_behind, marks_both}
use Rattle.joining.proofs.JoinedView.{like, both_on, joined_is, enabled_old, view_both}

-- A half whose nodes all gain `behind`, and a history J of one dimension more; nothing is folded in either.
module _ (given J : History) {behind : ℕ} (half : Half given.dimension behind) (room : given.dimension < largest_dimension) (up : J.dimension ≡ suc given.dimension) (plain : J.fold ≡ 0) (valid : Valid (like given given)) where
  abbrev own : History
  own = like given given

  module _ (x : Circuit) (m : x ∈ own.circuits) where
    abbrev s : CircuitValid own x
    s = valid.every_circuit x m

    -- each link of a circuit is one that it had, `behind` farther
    circuit_links : (l : Link) → l ∈ links_of (net_on J) (circuit_behind behind x) → (k : Link) × (k ∈ links_of (net_on own) x) × (link_behind behind k ≡ l)
    circuit_links l i =
        let same = same_links (shape_on J) (unfolded (suc own.dimension)) (x.source + behind) x.ports ∙ links_behind half room x.source x.target x.ports s.source s.permitted in
        Memᴰ.of_map (link_behind behind) (links_of (net_on own) x) (rw same at i)

    -- where J enables the half's links and arms its channels as the half does, it stands in J as it did there
    pub circuit_stands : ((n p : ℕ) → n < 2 ^ own.dimension → p < own.dimension → enabled_on J (n + behind) p ≡ enabled_on own n p)
        → ((n k : ℕ) → n < 2 ^ own.dimension → armed_on J (n + behind) k ≡ armed_on own n k) → CircuitValid J (circuit_behind behind x)
    circuit_stands enabled armed =
        record {
          source = rw up (inside_both half x.source s.source);
          channel = s.channel;
          permitted = rw (up, plain) (permitted_behind half room x.source x.target x.ports s.source (inside own valid x m).1 s.permitted);
          enabled = λ l i.
              let r = circuit_links l i in
              let at = (inside own valid x m).0 r.0.0 r.0.1 r.1 in
              subst (λ (k : Link). enabled_on J k.0 k.1 ≡ true) r.2 (enabled r.0.0 r.0.1 at.0 (port_below own.dimension 0 r.0.1 refl (omega arith) at.1) ∙ s.enabled r.0 r.1);
          receive = s.receive;
          armed = armed x.target x.receive (inside own valid x m).1 ∙ s.armed;
        }

  -- and two that share nothing share nothing there
  pub circuits_apart : (x y : Circuit) → x ∈ own.circuits → y ∈ own.circuits → Disjoint (net_on own) x y → Disjoint (net_on J) (circuit_behind behind x) (circuit_behind behind y)
  circuits_apart x y m n d =
      record {
        send = λ e f. d.send (omega (arith, e)) f;
        link = λ l i j.
            let a = circuit_links x m l i in
            let b = circuit_links y n l j in
            let e : link_behind behind a.0 ≡ link_behind behind b.0 = a.2 ∙ sym b.2 in
            let node : a.0.0 ≡ b.0.0 = omega (arith, ap (λ (k : Link). k.0) e) in
            let port : a.0.1 ≡ b.0.1 = ap (λ (k : Link). k.1) e in
            d.link a.0 a.1 (subst (λ (k : Link). k ∈ links_of (net_on own) y) (λ i. (sym node i, sym port i)) b.1);
        receives = λ e f. d.receives (omega (arith, e)) f;
      }

-- a circuit whose nodes gain nothing is itself
same_place : (x : Circuit) → circuit_behind 0 x ≡ x
same_place x =
    let s : x.source + 0 ≡ x.source = omega arith in
    let t : x.target + 0 ≡ x.target = omega arith in
    λ i. record { source = s i; channel = x.channel; ports = x.ports; target = t i; receive = x.receive }

module _ (given g : History) (valid : Valid (like given given)) (its : Valid (like given g)) (room : given.dimension < largest_dimension) where
  abbrev h : History
  h = like given given

  abbrev D : ℕ
  D = h.dimension

  abbrev k : History
  k = like h g

  abbrev J : History
  J = both_on h g

  -- what the history of both halves says of a node of the first, and of one of the second
  enabled_first : (n p : ℕ) → n < 2 ^ D → p < D → enabled_on J (n + 0) p ≡ enabled_on h n p
  enabled_first n p l m =
      let z : n + 0 ≡ n = omega arith in rw z (enabled_old h g valid its room p (λ e. omega arith) n ∙ of_first D (enabled_on h) (enabled_on k) n p l)

  enabled_second : (n p : ℕ) → n < 2 ^ D → p < D → enabled_on J (n + 2 ^ D) p ≡ enabled_on k n p
  enabled_second n p l m = enabled_old h g valid its room p (λ e. omega arith) (n + 2 ^ D) ∙ of_second D (enabled_on h) (enabled_on k) n p

  armed_first : (n c : ℕ) → n < 2 ^ D → armed_on J (n + 0) c ≡ armed_on h n c
  unfolding armed_on
  armed_first n c l = let z : n + 0 ≡ n = omega arith in rw z (marks_both D h.armed g.armed (λ l m. (valid.armed l m).0) n c ∙ of_first D _ _ n c l)

  armed_second : (n c : ℕ) → n < 2 ^ D → armed_on J (n + 2 ^ D) c ≡ armed_on k n c
  unfolding armed_on
  armed_second n c l = marks_both D h.armed g.armed (λ l m. (valid.armed l m).0) (n + 2 ^ D) c ∙ of_second D _ _ n c

  -- each circuit stands, and no two share anything
  first_stands : (x : Circuit) → x ∈ h.circuits → CircuitValid J x
  first_stands x m = subst (CircuitValid J) (same_place x) (circuit_stands h J (first_gains D) room refl refl valid x m enabled_first armed_first)

  second_stands : (y : Circuit) → y ∈ g.circuits → CircuitValid J (circuit_behind (2 ^ D) y)
  second_stands y m = circuit_stands k J (second_gains D) room refl refl its y m enabled_second armed_second

  first_apart : Pairwise (Disjoint (net_on J)) h.circuits
  first_apart =
      pairwise_imp (Disjoint (net_on h)) (Disjoint (net_on J)) h.circuits
      (λ x y m n d. subst (λ (z : Circuit × Circuit). Disjoint (net_on J) z.0 z.1) (λ i. (same_place x i, same_place y i)) (circuits_apart h J (first_gains D) room refl refl valid x y m n d))
      valid.apart

  second_apart : Pairwise (Disjoint (net_on J)) (map (circuit_behind (2 ^ D)) g.circuits)
  second_apart =
      pairwise_map (λ x y. Disjoint (net_on J) (circuit_behind (2 ^ D) x) (circuit_behind (2 ^ D) y)) (Disjoint (net_on J)) (circuit_behind (2 ^ D)) g.circuits (λ x y d. d)
      (pairwise_imp (Disjoint (net_on k)) _ g.circuits (λ x y m n d. circuits_apart k J (second_gains D) room refl refl its x y m n d) its.apart)

  halves_apart : (x y : Circuit) → x ∈ h.circuits → y ∈ map (circuit_behind (2 ^ D)) g.circuits → Disjoint (net_on J) x y
  halves_apart x y m = all_map (λ z. Disjoint (net_on J) x z) (circuit_behind (2 ^ D)) g.circuits across y
    where
      across : (z : Circuit) → z ∈ g.circuits → Disjoint (net_on J) x (circuit_behind (2 ^ D) z)
      across z n =
          record {
            send = λ e f. omega (arith, e, (valid.every_circuit x m).source);
            link = λ l i j.
                let here = rw (same_links (unfolded (suc D)) (unfolded D) x.source x.ports) at i in
                let there = circuit_links k J (second_gains D) room refl refl its z n l j in
                omega (arith, ((inside h valid x m).0 l.0 l.1 here).0, ap (λ (q : Link). q.0) there.2);
            receives = λ e f. omega (arith, e, (inside h valid x m).1);
          }

  -- So the history of both is valid.
  pub both_valid : Valid J
  both_valid =
      record {
        least = omega arith;
        most = omega arith;
        folded = λ p e. absurd (clash e (zero_has p));
        blocked = all_append _ h.blocked (λ l m. let i = valid.blocked l m in (own l.0 i.0, still l.1 i.1)) (all_map _ (link_behind (2 ^ D)) g.blocked (λ l m. let i = its.blocked l m in (inside_both (second_gains D) l.0 i.0, still l.1 i.1)));
        armed = all_append _ h.armed (λ l m. let i = valid.armed l m in (own l.0 i.0, i.1)) (all_map _ (link_behind (2 ^ D)) g.armed (λ l m. let i = its.armed l m in (inside_both (second_gains D) l.0 i.0, i.1)));
        every_circuit = all_append (CircuitValid J) h.circuits first_stands (all_map (CircuitValid J) (circuit_behind (2 ^ D)) g.circuits second_stands);
        apart = pairwise_append h.circuits _ first_apart second_apart halves_apart;
      }
    where
      own : (n : ℕ) → n < 2 ^ D → n < 2 ^ suc D
      own n l = omega (arith, inside_both (first_gains D) n l)

      still : (p : ℕ) → present D 0 p ≡ true → present (suc D) 0 p ≡ true
      still p e = below_port (suc D) p (omega arith) (omega (arith, port_below D 0 p refl (omega arith) e))

-- Of two histories of one dimension below 8, with nothing folded in either: their joined history is valid, and says what both halves show.
pub joined_shows : (h g : History) → Valid h → Valid g → h.fold ≡ 0 → g.fold ≡ 0 → h.dimension ≡ g.dimension → h.dimension ≢ largest_dimension → JoinedShows h g
joined_shows h g valid other plain also e ne =
    let here : h ≡ like h h = λ i. record { dimension = h.dimension; fold = plain i; blocked = h.blocked; circuits = h.circuits; armed = h.armed } in
    let there : g ≡ like h g = λ i. record { dimension = sym e i; fold = also i; blocked = g.blocked; circuits = g.circuits; armed = g.armed } in
    let its : Valid (like h h) = subst Valid here valid in
    let others : Valid (like h g) = subst Valid there other in
    let room : h.dimension < largest_dimension = omega (arith, ne, valid.most) in
    record {
      valid = rw (joined_is h g) (both_valid h g its others room);
      shows = rw (joined_is h g) (view_both h g its others room ∙ (λ i. joined_view (view_of (sym here i)) (view_of (sym there i))));
    }

-- So the bytes that show what two tables show represent the history of both.
pub joined_represents : (a b : List ℕ) (h g : History) → Represents port_count a h → Represents port_count b g → h.dimension ≡ g.dimension → h.dimension ≢ largest_dimension
    → Represents port_count (encode (joined_view (view a) (view b))) (joined_history h g)
unfolding bytes_of
joined_represents a b h g one other e ne =
    let r = joined_shows h g one.valid other.valid ((represents_fold port_count a h one).plain refl) ((represents_fold port_count b g other).plain refl) e ne in
    subst (λ (v : View). Represents port_count (encode v) (joined_history h g)) (r.shows ∙ (λ i. joined_view (sym one.shows i) (sym other.shows i))) (bytes_represent port_count (inl refl) (joined_history h g) r.valid (unfold joined_history in record { small = lit< tt; plain = λ i. refl }))
