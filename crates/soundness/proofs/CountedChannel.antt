-- One more receive channel that a circuit holds: the hops of that circuit are counted, and where the table is sound it can be followed.
-- Assumes nothing.
use mathlib.Core.Path.{◌≡◌, refl, ap, ap₂, sym, ◌∙◌, subst}
use mathlib.Core.Logic.{◌⊎◌, inl, inr, ⊎_elim, ◌≢◌}
use mathlib.Core.Bool.{Bool, true, false, ◌&&◌, ◌||◌}
use mathlib.Core.List.{List, [], ◌∷◌}
use Prim.Native.Nat.{ℕ, ◌+◌, ◌*◌, ◌≤◌, ◌<◌}
use native.Mathlib.Omega.{arith}
use lib.ListN.{length}
use borrow.Author.Tests.{eqb-true}
use Rattle.common.specs.Lists.{◌∈◌}
use Rattle.common.proofs.Tests.{below_or, is_false, both, and, either, or_left, or_right}
use Rattle.cube.specs.Cube.{largest_dimension, channels, NodeOf, source_of}
use Rattle.cube.proofs.Ports.{most_nodes}
use Rattle.layout.specs.Layout.{entry_count}
use Rattle.layout.specs.Resources.{Width}
use Rattle.paths.specs.Network.{Path, Link, links, has_link, Exactly}
use Rattle.paths.specs.Permitted.{Permitted}
use Rattle.paths.specs.CubeNetwork.{LinkOf, ports, circuit_count}
use Rattle.paths.proofs.Apart.{permitted_inside}
use Rattle.paths.proofs.CubeNetwork.{port_there, cube_nearing}
use Rattle.paths.proofs.HelixLinks.{length_links}
use Rattle.paths.proofs.Links.{On, on_first_lem, link_true, true_link, permitted_distinct}
use Rattle.table.specs.TableContracts.{place_count}
use Rattle.table.specs.View.{View, shape_of, net, held_by}
use Rattle.table.proofs.CubeRows.{RowOf}
use Rattle.circuit_path.specs.CircuitSound.{end_for, CircuitSound}
use Rattle.soundness.specs.Sound.{Sound}
use Rattle.circuit_hops.specs.Seen.{Seen}
use Rattle.circuit_hops.specs.CountHops.{FollowedPath, HopsCounted, CountsHops}
use Rattle.std.proofs.Common.{Option, Some, None}
use Rattle.soundness.specs.Counting.{Earlier, ReceivedBefore, CircuitFollowed, Counting, Counts}
use Rattle.soundness.proofs.LinkCount.{links_added}
use Rattle.soundness.proofs.Soundness.{receive_stands}
use Rattle.circuit_hops.proofs.CountsHops.{positive}
use Rattle.soundness.proofs.Counting.{wider}

module _ (width_q : ℕ) (width : Width width_q) (v : View) (row : RowOf (shape_of v) width_q) where
  -- a receive channel that a circuit holds
  module _ {c n k : ℕ} (m after : List ℕ) (fits : v.dimension ≤ largest_dimension) (held : c ≡ v.receiver n k) (some : c ≢ 0) (l : k < channels) (node : NodeOf v.dimension n) (armed : v.armed n k ≡ true) where
    here : ReceivedBefore v (channels * n + k + 1) c
    unfolding ReceivedBefore
    here = (n, k, (l, omega arith), sym held)

    -- the state before, and the path that was followed
    module _ {h hops : ℕ} (x : Counting width_q v (channels * n + k) h m) (counted : HopsCounted v c n m after hops) where
      path : FollowedPath v c n hops
      path = counted.found

      way : List Link
      way = links (net v) (source_of c) path.path

      fresh : ReceivedBefore v (channels * n + k) c → ⊥
      unfolding ReceivedBefore
      fresh r = counted.unseen (subst (Seen v m) r.3 (x.marks r.0 r.1 r.2 (λ z. some (sym r.3 ∙ z))))

      on_way : (a b : ℕ) → has_link way a b ≡ true → v.owner a b ≡ c
      on_way a b e = unfold way in eqb-true _ c (path.owned a b (true_link _ a b e))

      source_inside : NodeOf v.dimension (source_of c)
      source_inside = omega (arith, counted.in_range, positive some)

      inside : (a b : ℕ) → (a, b) ∈ way → (a < 256) × (b < width_q)
      inside a b i =
          let r = (permitted_inside (shape_of v) (source_of c) n path.path source_inside path.permitted).0 a b (unfold way On in i) in
          (omega (arith, r.0, most_nodes fits), row b (port_there (shape_of v) b r.1))

      on : ℕ → ℕ → Bool
      on a b = x.on a b || has_link way a b

      -- the links of the path were not on
      off : (a b : ℕ) → (a, b) ∈ way → x.on a b ≡ false
      off a b i = is_false (x.on a b) (λ e. fresh (subst (ReceivedBefore v (channels * n + k)) (on_way a b (link_true way a b i)) (x.on_paths a b e).3))

      count : place_count width_q on (entry_count width_q) ≡ h + hops
      unfolding on
      count =
          links_added width_q width x.on way (unfold way in permitted_distinct (cube_nearing (shape_of v) n) (source_of c) (ports (shape_of v)) path.path path.permitted)
          (λ i j. let r = inside i.0 i.1 j in (r.0, r.1, off i.0 i.1 j))
          ∙ omega (arith, x.count, path.hop_count, way_length)
        where
          way_length : length way ≡ length path.path
          way_length = unfold way in length_links (net v) (source_of c) path.path

      on_paths : (a b : ℕ) → on a b ≡ true → (a < 256) × (b < width_q) × (v.owner a b ≢ 0) × ReceivedBefore v (channels * n + k + 1) (v.owner a b)
      unfolding on
      on_paths a b e =
          ⊎_elim (λ o. let r = x.on_paths a b o in (r.0, r.1, r.2, wider v _ _ _ (omega arith) r.3))
          (λ o. let q = on_way a b o in let r = inside a b (true_link way a b o) in (r.0, r.1, (λ z. some (sym q ∙ z)), subst (ReceivedBefore v (channels * n + k + 1)) (sym q) here))
          (either (x.on a b) (has_link way a b) e)

      -- a channel looked at so far was looked at before, or is this one
      last : {n' k' : ℕ} → Earlier (channels * n + k + 1) n' k' → Earlier (channels * n + k) n' k' ⊎ ((n' ≡ n) × (k' ≡ k))
      last {n'} {k'} e = ⊎_elim (λ b. inl (e.0, b)) (λ b. inr (let z : channels * n' + k' ≡ channels * n + k = omega (arith, e.1) in (omega (arith, e.0), omega (arith, e.0)))) (below_or (channels * n + k) (channels * n' + k'))

      older : {n' k' : ℕ} → Earlier (channels * n + k) n' k' → v.receiver n' k' ≢ 0 → CircuitFollowed v on n' k'
      older {n'} {k'} e z =
          let s = x.followed n' k' e z in
          record {
            node = s.node;
            armed = s.armed;
            in_range = s.in_range;
            path = s.path;
            permitted = s.permitted;
            exactly = record { all = λ a b i. all a b (s.exactly.all a b i); only = λ a b o. s.exactly.only a b (only a b o) };
            whole = s.whole;
          }
        where
          all : (a b : ℕ) → held_by v (v.receiver n' k') a b && x.on a b ≡ true → held_by v (v.receiver n' k') a b && on a b ≡ true
          all a b o = unfold on in let r = both (held_by v (v.receiver n' k') a b) (x.on a b) o in and r.0 (or_left _ r.1)

          only : (a b : ℕ) → held_by v (v.receiver n' k') a b && on a b ≡ true → held_by v (v.receiver n' k') a b && x.on a b ≡ true
          only a b o =
              unfold on ReceivedBefore in
              let r = both (held_by v (v.receiver n' k') a b) (x.on a b || has_link way a b) o in
              ⊎_elim (λ y. and r.0 y) (λ y. absurd (fresh (n', k', e, sym (eqb-true _ _ r.0) ∙ on_way a b y))) (either (x.on a b) (has_link way a b) r.1)

      newest : CircuitFollowed v on n k
      newest =
          record {
            node = node;
            armed = armed;
            in_range = subst (λ (y : ℕ). y ≤ circuit_count (shape_of v)) held (counted.in_range);
            path = path.path;
            permitted = subst (λ (y : ℕ). Permitted (net v) (source_of y) (ports (shape_of v)) n path.path) held path.permitted;
            exactly = subst (λ (y : ℕ). Exactly (net v) (source_of y) path.path (λ a b. held_by v y a b && on a b)) held (record { all = all; only = only });
            whole = λ s e. whole held s e;
          }
        where
          all : (a b : ℕ) → (a, b) ∈ links (net v) (source_of c) path.path → held_by v c a b && on a b ≡ true
          all a b i = unfold on way in and (path.owned a b i) (or_right (x.on a b) (link_true _ a b i))

          only : (a b : ℕ) → held_by v c a b && on a b ≡ true → (a, b) ∈ links (net v) (source_of c) path.path
          only a b o =
              unfold on way in
              let r = both (held_by v c a b) (x.on a b || has_link (links (net v) (source_of c) path.path) a b) o in
              ⊎_elim (λ y. absurd (fresh (subst (ReceivedBefore v (channels * n + k)) (eqb-true _ c r.0) (x.on_paths a b y).3))) (λ y. true_link _ a b y) (either (x.on a b) _ r.1)

          whole : {y : ℕ} → c ≡ y → (s : CircuitSound v y) → end_for v y s.path ≡ n → s.path ≡ path.path
          whole {y} q = subst (λ (y : ℕ). (s : CircuitSound v y) → end_for v y s.path ≡ n → s.path ≡ path.path) q path.whole

      at_source : Seen v after c
      at_source = go path.path path.permitted path.owned
        where
          go : (w : Path) → Permitted (net v) (source_of c) (ports (shape_of v)) n w → ((a b : ℕ) → (a, b) ∈ links (net v) (source_of c) w → held_by v c a b ≡ true) → Seen v after c
          go [] o own = unfold Permitted in absurd o
          go (p ∷ w) o own =
              unfold Permitted Seen On in
              let mine = own (source_of c) p (on_first_lem (net v) (source_of c) p w) in
              let link : LinkOf (shape_of v) (source_of c) p = (source_inside, port_there (shape_of v) p o.0) in
              (p, link, mine, (counted.marks (source_of c) p link).2 refl mine)

      still_seen : (d : ℕ) → Seen v m d → Seen v after d
      unfolding Seen
      still_seen d s = (s.0, s.1, s.2, (counted.marks (source_of d) s.0 s.1).1 s.3)

      pub counting_more : Counting width_q v (channels * n + k + 1) (h + hops) after
      counting_more =
          record {
            on = on;
            count = count;
            on_paths = on_paths;
            followed = λ n' k' e z. ⊎_elim (λ o. older o z) (λ o. subst (λ (y : ℕ). CircuitFollowed v on y k') (sym o.0) (subst (λ (y : ℕ). CircuitFollowed v on n y) (sym o.1) newest)) (last e);
            once = λ n' k' m' j' e f q z. one n' k' m' j' (last e) (last f) q z;
            marks = λ n' k' e z. ⊎_elim (λ o. still_seen _ (x.marks n' k' o z)) (λ o. subst (Seen v after) (held ∙ sym (same_receiver o)) at_source) (last e);
            marks_received = λ s p a e. ⊎_elim (λ o. wider v _ _ _ (omega arith) (x.marks_received s p a o)) (λ o. subst (ReceivedBefore v (channels * n + k + 1)) (sym o) here) ((counted.marks s p a).0 e);
          }
        where
          same_receiver : {n' k' : ℕ} → (n' ≡ n) × (k' ≡ k) → v.receiver n' k' ≡ v.receiver n k
          same_receiver o = ap₂ v.receiver o.0 o.1

          no_older : {n' k' : ℕ} → Earlier (channels * n + k) n' k' → v.receiver n' k' ≡ c → ⊥
          no_older {n'} {k'} o q = unfold ReceivedBefore in fresh (n', k', o, q)

          one : (n' k' m' j' : ℕ) → Earlier (channels * n + k) n' k' ⊎ ((n' ≡ n) × (k' ≡ k)) → Earlier (channels * n + k) m' j' ⊎ ((m' ≡ n) × (j' ≡ k)) → v.receiver n' k' ≡ v.receiver m' j' → v.receiver n' k' ≢ 0
              → (n' ≡ m') × (k' ≡ j')
          one n' k' m' j' (inl e) (inl f) q z = x.once n' k' m' j' e f q z
          one n' k' m' j' (inl e) (inr f) q z = absurd (no_older e (q ∙ same_receiver f ∙ sym held))
          one n' k' m' j' (inr e) (inl f) q z = absurd (no_older f (sym q ∙ same_receiver e ∙ sym held))
          one n' k' m' j' (inr e) (inr f) q z = (e.0 ∙ sym f.0, e.1 ∙ sym f.1)

    -- and where the table is sound, the circuit can be followed
    forced : CountsHops v c n m after None → Sound v → {h : ℕ} → Counting width_q v (channels * n + k) h m → ⊥
    forced none s x =
        none (subst (λ (y : ℕ). y ≤ circuit_count (shape_of v)) (sym held) (s.receive_number n k)) stands (sym (stands.once n k (sym held)).0) (λ z. again (seen_received z))
      where
        stands : CircuitSound v c
        stands = subst (CircuitSound v) (sym held) (receive_stands v s n k (λ z. some (held ∙ z)))

        seen_received : Seen v m c → ReceivedBefore v (channels * n + k) c
        seen_received z =
            unfold Seen in
            subst (ReceivedBefore v (channels * n + k)) (eqb-true _ c z.2)
            (x.marks_received (source_of c) z.0 z.1 z.3)

        again : ReceivedBefore v (channels * n + k) c → ⊥
        again r =
            unfold ReceivedBefore in
            let e = stands.once n k (sym held) in
            let f = stands.once r.0 r.1 r.3 in
            omega (arith, e.0, e.1, f.0, f.1, r.2.1)

    pub counts_entry : (hops : Option ℕ) → CountsHops v c n m after hops → Counts width_q v (channels * n + k) (channels * n + k + 1) m after hops
    counts_entry (Some hops) counted = record { counts = λ h x. counting_more x counted; most = omega (arith, counted.most) }
    counts_entry None none = λ h x s. forced none s x
