-- The history of a sound view: its circuits are those that stand on the view, it is valid, and it shows that view.
-- Assumes nothing.
use mathlib.Core.Path.{◌≡◌, refl, ap, sym, ◌∙◌, subst}
use mathlib.Core.Logic.{⊎_elim, ◌≢◌, ◌↔◌}
use mathlib.Core.Bool.{Bool, true, false, ◌&&◌, not}
use mathlib.Core.List.Memᴰ
use mathlib.Core.List.{List, ◌∷◌, map}
use Prim.Native.Nat.{ℕ, ◌*◌, ◌^◌, ◌≤◌, ◌<◌}
use native.Mathlib.Omega.{arith}
use lib.Dec.{eqb, ltb}
use borrow.Author.Tests.{eqb-true, eq-eqb, lt-ltb, ltb-true}
use Rattle.common.specs.Lists.{◌∈◌, from, lowest, Pairwise}
use Rattle.common.proofs.Tests.{same?, below_or, clash, is_false, both, and}
use Rattle.common.proofs.Lists.{keep_mem, mem_keep, keep_pairwise, pairwise_imp, pairwise_map}
use Rattle.common.proofs.From.{from_mem, mem_from, from_pairwise, from_below, below_from}
use Rattle.common.proofs.Lowest.{lowest_passes, lowest_found}
use Rattle.cube.specs.Cube.{largest_dimension, channels, cube_nodes, circuit_of}
use Rattle.cube.proofs.Circuits.{circuit_of_parts, channel_below}
use Rattle.paths.specs.Network.{Link, has_link}
use Rattle.paths.specs.Permitted.{Permitted}
use Rattle.paths.proofs.Links.{link_true, true_link}
use Rattle.table.specs.View.{View, shape_of}
use Rattle.circuit_path.specs.CircuitSound.{end_for, CircuitSound}
use Rattle.soundness.specs.Sound.{Sound}
use Rattle.circuit_path.specs.PathOf.{path_of}
use Rattle.circuit_path.proofs.CircuitSound.{path_is, sound_open}
use Rattle.soundness.proofs.Soundness.{link_stands, receive_stands}
use Rattle.cube.specs.Axes.{present}
use Rattle.paths.specs.CubeNetwork.{Shape, is_link_of, ports}
use Rattle.paths.proofs.CubeNetwork.{port_there}
use Rattle.paths.proofs.FoldedCube.{port_listed}
use Rattle.circuit_path.specs.OpenCircuit.{is_open_in}
use Rattle.book.specs.BookOf.{open_numbers}
use Rattle.ownership.specs.History.{Circuit, History, shape_on, net_on, links_of, holds_link, holds_receive, enabled_on, armed_on}
use Rattle.ownership.specs.Invariant.{CircuitValid, Disjoint, Valid}
use Rattle.ownership.specs.HistoryView.{first_circuit, view_of}
use Rattle.ownership.specs.FromTable.{links_out, circuit_at, history_of}
use Rattle.ownership.proofs.Circuits.{number_for, number_none, Once, number_found}
use Rattle.ownership.proofs.CircuitValid.{holds_link_lem, link_holds, holds_receive_lem, receive_holds, links_once, receives_once}
use Rattle.ownership.proofs.Enabled.{kept_link}
use Rattle.ownership.proofs.OnSound.{open_sound}

-- the links out of some ports of some nodes
out_mem : (ns ps : List ℕ) (n p : ℕ) → (n, p) ∈ links_out ns ps → (n ∈ ns) × (p ∈ ps)
unfolding links_out
out_mem mathlib.Core.List.[] ps n p i = elim i [ ]
out_mem (m ∷ ns) ps n p i =
    ⊎_elim here (λ k. let r = out_mem ns ps n p k in (Memᴰ.tail r.0, r.1)) (Memᴰ.append_cases (map (λ (q : ℕ). (m, q)) ps) i)
  where
    here : ◌∈◌ {A = Link} (n, p) (map (λ (q : ℕ). (m, q)) ps) → (n ∈ (m ∷ ns)) × (p ∈ ps)
    here k =
        let r = Memᴰ.of_map (λ (q : ℕ). (m, q)) ps k in
        (Memᴰ.head (sym (ap (λ (l : Link). l.0) r.2)), subst (λ (q : ℕ). q ∈ ps) (ap (λ (l : Link). l.1) r.2) r.1)

mem_out : (ns ps : List ℕ) (n p : ℕ) → n ∈ ns → p ∈ ps → (n, p) ∈ links_out ns ps
unfolding links_out
mem_out mathlib.Core.List.[] ps n p x'' k = elim x'' [ ]
mem_out (m ∷ ns) ps n p (Memᴰ.head e) k = rw e (Memᴰ.append_left (links_out ns ps) (Memᴰ.map (λ (q : ℕ). (m, q)) k))
mem_out (m ∷ ns) ps n p (Memᴰ.tail i) k = Memᴰ.append_right (map (λ (q : ℕ). (m, q)) ps) (mem_out ns ps n p i k)

-- of the nodes below a and the ports of a list, which are those that pass a test: those of both
every_out : (a : ℕ) (ps : List ℕ) (f : ℕ → Bool) → ((p : ℕ) → (p ∈ ps) ↔ (f p ≡ true)) → (n p : ℕ) → has_link (links_out (from 0 a) ps) n p ≡ ltb n a && f p
every_out a ps f are n p = go (ltb n a && f p) refl
  where
    go : (x : Bool) → (ltb n a && f p) ≡ x → has_link (links_out (from 0 a) ps) n p ≡ x
    go true e = let i = both (ltb n a) (f p) e in link_true _ n p (mem_out (from 0 a) ps n p (below_from a n (ltb-true n a i.0)) ((are p).1 i.1))
    go false e = is_false _ (λ t. let i = out_mem (from 0 a) ps n p (true_link _ n p t) in clash (and (lt-ltb n a (from_below a n i.0)) ((are p).0 i.1)) e)

-- the ports of the cube, and the eight channels of a node
cube_ports : (S : Shape) (p : ℕ) → (p ∈ ports S) ↔ (present S.dimension S.fold p ≡ true)
cube_ports S p = (port_there S p, port_listed S p)

node_channels : (k : ℕ) → (k ∈ from 0 channels) ↔ (ltb k channels ≡ true)
node_channels k = ((λ m. lt-ltb k 8 (from_below 8 k m)), λ e. below_from 8 k (ltb-true k 8 e))

module _ (v : View) (sound : Sound v) (fits : v.dimension ≤ largest_dimension) where
  abbrev D : ℕ
  D = v.dimension

  abbrev h : History
  h = history_of v

  -- what it is for a number to be open: it stands, and is the number of its circuit
  record Open (c : ℕ) : Type 0 where
    positive : 0 < c
    most : c ≤ channels * cube_nodes D
    stands : CircuitSound v c

  open_number_lem : (c : ℕ) → c ∈ open_numbers v → Open c
  unfolding open_numbers
  open_number_lem c m =
      let r = keep_mem (is_open_in v) (from 1 (channels * cube_nodes D)) m in
      let i = from_mem 1 (channels * cube_nodes D) r.0 in
      record { positive = omega arith; most = omega arith; stands = open_sound v sound c (λ z. omega arith) r.1 }

  number_open : (c : ℕ) → Open c → c ∈ open_numbers v
  unfolding open_numbers
  number_open c o =
      mem_keep (is_open_in v) (from 1 (channels * cube_nodes D)) (mem_from 1 (channels * cube_nodes D) c o.positive (omega (arith, o.most)))
      (sound_open v c o.stands)

  -- the circuit of such a number has its number, and holds what the number stands on
  module _ (c : ℕ) (o : Open c) where
    number_is : number_for (circuit_at v c) ≡ c
    unfolding circuit_at
    number_is = circuit_of_parts c o.positive

    permitted_is : Permitted (net_on h) (circuit_at v c).source (ports (shape_on h)) (circuit_at v c).target (circuit_at v c).ports
    unfolding circuit_at history_of
    permitted_is = rw (path_is v c o.stands) o.stands.permitted

    receive_is : (circuit_at v c).receive ≡ o.stands.receive
    unfolding circuit_at
    receive_is =
        let f : ℕ → Bool = λ k. eqb (v.receiver (end_for v c (path_of v c)) k) c in
        let e = path_is v c o.stands in
        let there : f o.stands.receive ≡ true = rw e (eq-eqb _ c o.stands.receives) in
        let low : lowest f 8 0 ≤ o.stands.receive = lowest_found f 8 0 o.stands.receive (omega arith) there in
        let channel_found : f (lowest f 8 0) ≡ true = lowest_passes f 8 0 (omega (arith, o.stands.small)) in
        (o.stands.once _ _ (eqb-true _ c channel_found)).1

    link_number : (n p : ℕ) → (n, p) ∈ links_of (net_on h) (circuit_at v c) → v.owner n p ≡ c
    unfolding circuit_at history_of
    link_number n p m = eqb-true _ c (o.stands.exactly.all n p (rw (path_is v c o.stands) at m))

    number_link : (n p : ℕ) → v.owner n p ≡ c → (n, p) ∈ links_of (net_on h) (circuit_at v c)
    unfolding circuit_at history_of
    number_link n p e = rw (path_is v c o.stands) (o.stands.exactly.only n p (eq-eqb _ c e))

    receive_number : (n k : ℕ) → n ≡ (circuit_at v c).target → k ≡ (circuit_at v c).receive → v.receiver n k ≡ c
    unfolding circuit_at
    receive_number n k e f = rw (e, f ∙ receive_is, path_is v c o.stands) o.stands.receives

    number_receive : (n k : ℕ) → v.receiver n k ≡ c → (n ≡ (circuit_at v c).target) × (k ≡ (circuit_at v c).receive)
    unfolding circuit_at
    number_receive n k e = let r = o.stands.once n k e in (r.0 ∙ ap (end_for v c) (sym (path_is v c o.stands)), r.1 ∙ sym receive_is)

  listed_open : (x : Circuit) → x ∈ h.circuits → (c : ℕ) × Open c × (circuit_at v c ≡ x)
  unfolding history_of
  listed_open x m = let r = Memᴰ.of_map (circuit_at v) (open_numbers v) m in (r.0, open_number_lem r.0 r.1, r.2)

  open_listed : (c : ℕ) → Open c → circuit_at v c ∈ h.circuits
  unfolding history_of
  open_listed c o = Memᴰ.map (circuit_at v) (number_open c o)

  -- circuits of two numbers share nothing
  separate : (c d : ℕ) → Open c → Open d → c ≢ d → Disjoint (net_on h) (circuit_at v c) (circuit_at v d)
  separate c d o u ne =
      record {
        send = λ e f. ne (sym (number_is c o) ∙ (λ i. circuit_of (e i) (f i)) ∙ number_is d u);
        link = λ l m k. ne (sym (link_number c o l.0 l.1 m) ∙ link_number d u l.0 l.1 k);
        receives = λ e f. ne (sym (receive_number c o _ _ refl refl) ∙ receive_number d u _ _ e f);
      }

  apart : Pairwise (Disjoint (net_on h)) h.circuits
  apart =
      unfold history_of in
      pairwise_map (λ c d. Open c × Open d × (c < d)) (Disjoint (net_on h)) (circuit_at v) (open_numbers v) (λ c d r. separate c d r.0 r.1 (λ e. omega (arith, r.2)))
      (pairwise_imp ◌<◌ (λ c d. Open c × Open d × (c < d)) (open_numbers v) (λ c d m k l. (open_number_lem c m, open_number_lem d k, l))
      (unfold open_numbers in keep_pairwise (is_open_in v) ◌<◌ (from 1 (channels * cube_nodes D)) (from_pairwise 1 (channels * cube_nodes D))))

  -- what the history shows is what the table shows: its links' states and its armed channels
  enabled_same : (n p : ℕ) → v.enabled n p ≡ enabled_on h n p
  unfolding enabled_on history_of
  enabled_same n p =
      rw (kept_link (λ m q. not (v.enabled m q)) _ n p, every_out (2 ^ D) (ports (shape_of v)) (present D v.fold) (cube_ports (shape_of v)) n p)
      (go (is_link_of (shape_of v) n p) refl (v.enabled n p) refl)
    where
      go : (x : Bool) → is_link_of (shape_of v) n p ≡ x → (y : Bool) → v.enabled n p ≡ y → y ≡ x && not (not y && x)
      go true e true q = refl
      go true e false q = refl
      go false e y q = sym q ∙ (sound.absent_link n p (λ i. clash (and (lt-ltb n _ i.0) i.1) e)).0

  armed_same : ((n k : ℕ) → v.armed n k ≡ true → k < channels) → (n k : ℕ) → v.armed n k ≡ armed_on h n k
  unfolding armed_on history_of
  armed_same eight n k = rw (kept_link v.armed _ n k, every_out (2 ^ D) (from 0 8) (λ j. ltb j 8) node_channels n k) (go (v.armed n k) refl)
    where
      absent : 2 ^ D ≤ n → v.armed n k ≡ false
      absent o = sound.absent_armed n k (λ i. omega arith)

      go : (y : Bool) → v.armed n k ≡ y → y ≡ y && (ltb n (2 ^ D) && ltb k 8)
      go true q = sym (and (lt-ltb n _ (⊎_elim (λ i. i) (λ o. absurd (clash q (absent o))) (below_or (2 ^ D) n))) (lt-ltb k 8 (eight n k q)))
      go false q = refl

  -- its entries: the number that stands in one is that of the circuit that holds it
  entry_same : (holds : Circuit → Bool) {e : ℕ} → Once holds h.circuits → e ≤ channels * cube_nodes D → (e ≢ 0 → CircuitSound v e)
      → ((c : ℕ) → Open c → holds (circuit_at v c) ≡ true → e ≡ c) → (Open e → holds (circuit_at v e) ≡ true) → e ≡ first_circuit holds h.circuits
  entry_same holds {e} once most stands its holder = ⊎_elim free held (same? e 0)
    where
      free : e ≡ 0 → e ≡ first_circuit holds h.circuits
      free z = z ∙ sym (number_none holds h.circuits (λ x m t. let r = listed_open x m in omega (arith, z, r.1.positive, its r.0 r.1 (rw r.2 t))))

      held : e ≢ 0 → e ≡ first_circuit holds h.circuits
      held ne =
          let o : Open e = record { positive = omega (arith, ne); most = most; stands = stands ne } in
          sym (number_found holds h.circuits once (circuit_at v e) (open_listed e o) (holder o) ∙ number_is e o)

  owner_same : (n p : ℕ) → v.owner n p ≡ first_circuit (holds_link (net_on h) n p) h.circuits
  owner_same n p =
      entry_same (holds_link (net_on h) n p) (links_once (net_on h) n p h.circuits apart) (sound.link_number n p) (link_stands v sound n p)
      (λ c o t. link_number c o n p (holds_link_lem (net_on h) n p _ t)) (λ o. link_holds (net_on h) n p _ (number_link _ o n p refl))

  receiver_same : (n k : ℕ) → v.receiver n k ≡ first_circuit (holds_receive n k) h.circuits
  receiver_same n k =
      entry_same (holds_receive n k) (receives_once (net_on h) n k h.circuits apart) (sound.receive_number n k) (receive_stands v sound n k)
      (λ c o t. let a = holds_receive_lem n k _ t in receive_number c o n k a.0 a.1) (λ o. let a = number_receive _ o n k refl in receive_holds n k _ a.0 a.1)

  -- where it shows no channel armed beyond the eight of a node, as no bytes do
  module _ (eight : (n k : ℕ) → v.armed n k ≡ true → k < channels) where
    pub shows_same : v ≡ view_of h
    unfolding view_of history_of
    shows_same = λ i.
        record {
          dimension = D;
          fold = v.fold;
          enabled = λ n p. enabled_same n p i;
          owner = λ n p. owner_same n p i;
          receiver = λ n k. receiver_same n k i;
          armed = λ n k. armed_same eight n k i;
        }

    listed_valid : (x : Circuit) → x ∈ h.circuits → CircuitValid h x
    listed_valid x m = let r = listed_open x m in subst (CircuitValid h) r.2 (stood r.0 r.1)
      where
        stood : (c : ℕ) → Open c → CircuitValid h (circuit_at v c)
        stood c o =
            record {
              source = unfold circuit_at history_of in omega (arith, o.positive, o.most);
              channel = unfold circuit_at in channel_below c;
              permitted = permitted_is c o;
              enabled = λ l k.
                  sym (enabled_same l.0 l.1) ∙ sound.held_enabled _ _ (λ z. omega (arith, z, o.positive, link_number c o l.0 l.1 k));
              receive = omega (arith, receive_is c o, o.stands.small);
              armed = sym (armed_same eight _ _) ∙ sound.held_armed _ _ (λ z. omega (arith, z, o.positive, receive_number c o _ _ refl refl));
            }

    pub table_valid : 1 ≤ D → Valid h
    table_valid least =
        record {
          least = unfold history_of in least;
          most = unfold history_of in fits;
          folded = unfold history_of in sound.fold_bits;
          blocked = λ l m. unfold history_of in let r = out_mem (from 0 (2 ^ D)) (ports (shape_of v)) l.0 l.1 (keep_mem _ _ m).0 in (from_below _ l.0 r.0, port_there (shape_of v) l.1 r.1);
          armed = λ l m. unfold history_of in let r = out_mem (from 0 (2 ^ D)) (from 0 8) l.0 l.1 (keep_mem _ _ m).0 in (from_below _ l.0 r.0, from_below _ l.1 r.1);
          every_circuit = listed_valid;
          apart = apart;
        }
