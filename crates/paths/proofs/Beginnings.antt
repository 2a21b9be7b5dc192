-- The list of beginnings holds the beginnings of permitted paths, and only those.
-- Assumes nothing.
use mathlib.Core.Path.{◌≡◌, refl, ap, sym}
use mathlib.Core.Logic.{◌⊎◌, inl, inr, ⊎_elim, ◌≢◌, ◌↔◌}
use mathlib.Core.List.Memᴰ
use mathlib.Core.List.{List, [], ◌∷◌, ◌++◌, map, cons≢nil}
use Prim.Native.Nat.{ℕ, zero, suc, ◌≤◌}
use native.Mathlib.Omega.{arith}
use native.Mathlib.Nat.{le_refl}
use borrow.Author.Tests.{eq-eqb, ne_eqb}
use Rattle.common.specs.Lists.{◌∈◌}
use Rattle.common.proofs.Lists.{all_cons, all_append, all_map}
use Rattle.common.proofs.Tests.{same?}
use Rattle.cube.specs.Helical.{helical}
use Rattle.cube.proofs.Order.{helical_mem, mem_helical}
use Rattle.paths.specs.Network.{Network, Path, offered, Nearing, Leading}
use Rattle.paths.specs.Permitted.{Onward, Permitted, Beginning}
use Rattle.paths.specs.Pass.{over, ways, beginnings}
use Rattle.paths.proofs.Depth.{over_cons}

-- what `over` holds: a port of its list, alone or with a way on behind it
unfoldable pub Opens : (ℕ → List Path) → List ℕ → Path → Type 0
Opens on ps [] = ⊥
Opens on ps (p ∷ v) = (p ∈ ps) × ((v ≡ []) ⊎ (v ∈ on p))

opens_more : (on : ℕ → List Path) (q : ℕ) (ps : List ℕ) (w : Path) → Opens on ps w → Opens on (q ∷ ps) w
unfolding Opens
opens_more on q ps [] o = elim o [ ]
opens_more on q ps (p ∷ v) o = (Memᴰ.tail o.0, o.1)

pub over_mem : (on : ℕ → List Path) (ps : List ℕ) {w : Path} → w ∈ over on ps → Opens on ps w
unfolding Opens
over_mem on [] m = unfold over in elim m [ ]
over_mem on (p ∷ ps) {w} m =
    let here : (v : Path) → (v ≡ []) ⊎ (v ∈ on p) → Opens on (p ∷ ps) (p ∷ v) = λ v o. (Memᴰ.head refl, o) in
    let later = all_map (Opens on (p ∷ ps)) (λ (v : Path). p ∷ v) (on p) (λ v k. here v (inr k)) in
    all_append (Opens on (p ∷ ps)) ((p ∷ []) ∷ map (λ (v : Path). p ∷ v) (on p)) (all_cons (Opens on (p ∷ ps)) (here [] (inl refl)) later)
    (λ v k. opens_more on p ps v (over_mem on ps k)) w (rw over_cons at m)

pub mem_over : (on : ℕ → List Path) (ps : List ℕ) {p : ℕ} {v : Path} → p ∈ ps → (v ≡ []) ⊎ (v ∈ on p) → (p ∷ v) ∈ over on ps
mem_over on [] {p = p} {v = v} x'' o = elim x'' [ ]
mem_over on (q ∷ ps) (Memᴰ.tail m) o = rw over_cons (Memᴰ.append_right ((q ∷ []) ∷ map (λ (v : Path). q ∷ v) (on q)) (mem_over on ps m o))
mem_over on (q ∷ ps) (Memᴰ.head e) o =
    rw (e, over_cons) (Memᴰ.append_left (over on ps) (⊎_elim (λ z. Memᴰ.head (ap (q ∷◌) z)) (λ k. Memᴰ.tail (Memᴰ.map (λ (v : Path). q ∷ v) k)) (rw e at o)))

-- offered hops one after another, none of which starts at the target
unfoldable pub Climb : Network → ℕ → ℕ → Path → Type 0
Climb N t n [] = Unit
Climb N t n (p ∷ w) = (n ≢ t) × (p ∈ offered N t n) × Climb N t (N.next n p) w

-- the ways on from a node: none at the target, and elsewhere those over the ports that it offers
pub ways_all : (P : List Path → Type 0) (k : ℕ) (N : Network) (t n a : ℕ) → (n ≡ t → P []) → (n ≢ t → P (over (λ p. ways k N t (N.next n p) p) (helical a (offered N t n)))) → P (ways (suc k) N t n a)
unfolding ways
ways_all P k N t n a there on = ⊎_elim (λ e. rw (eq-eqb n t e) (there e)) (λ off. rw (ne_eqb n t off) (on off)) (same? n t)

-- each is a climb of one hop or more
pub ways_climb : (k : ℕ) (N : Network) (t n a : ℕ) (w : Path) → w ∈ ways k N t n a → (w ≢ []) × Climb N t n w
unfolding Climb Opens
ways_climb zero N t n a w m = unfold ways in elim m [ ]
ways_climb (suc k) N t n a w m =
    ways_all (λ ws. w ∈ ws → (w ≢ []) × Climb N t n w) k N t n a (λ e i. absurd (Memᴰ.not-nil i)) (λ off i. climbs off (λ p v. ways_climb k N t (N.next n p) p v) w (over_mem _ _ i)) m
  where
    climbs : n ≢ t → ((p : ℕ) (v : Path) → v ∈ ways k N t (N.next n p) p → (v ≢ []) × Climb N t (N.next n p) v)
        → (w : Path) → Opens (λ p. ways k N t (N.next n p) p) (helical a (offered N t n)) w → (w ≢ []) × Climb N t n w
    climbs off later [] o = absurd o
    climbs off later (p ∷ v) o = (cons≢nil, (off, helical_mem a _ o.0, ⊎_elim (λ e. rw e tt) (λ i. (later p v i).1) o.1))

-- the climb behind the first hop of a beginning
pub beginning_climb : (N : Network) (s : ℕ) (vector : List ℕ) (t p : ℕ) (w : Path) → (p ∷ w) ∈ beginnings N s vector t → (p ∈ vector) × Climb N t (N.next s p) w
unfolding beginnings Opens
beginning_climb N s vector t p w m =
    let o = over_mem _ vector m in
    (o.0, ⊎_elim (λ z. rw z (unfold Climb in tt)) (λ i. (ways_climb _ N t (N.next s p) p w i).1) o.1)

pub beginning_hop : (N : Network) (s : ℕ) (vector : List ℕ) (t : ℕ) → [] ∈ beginnings N s vector t → ⊥
unfolding beginnings Opens
beginning_hop N s vector t m = over_mem _ vector m

-- a way to the target begins with a climb
onward_climb : (N : Network) (t n : ℕ) (w v : Path) → Onward N t n (w ++ v) → Climb N t n w
unfolding Climb Onward
onward_climb N t n [] v o = tt
onward_climb N t n (p ∷ w) v o = (o.0, o.1, onward_climb N t (N.next n p) w v o.2)

module _ {N : Network} {t : ℕ} (near : Nearing N t) where
  -- every climb with a hop is one of them, where they may have as many hops as the target is far
  climb_ways : (k n a : ℕ) (w : Path) → N.distance t n ≤ k → Climb N t n w → (w ≡ []) ⊎ (w ∈ ways k N t n a)
  unfolding Climb
  climb_ways k n a [] h r = inl refl
  climb_ways zero n a (p ∷ w) h r = absurd (omega (arith, near.nearer n p r.1))
  climb_ways (suc k) n a (p ∷ w) h r =
      let later = climb_ways k (N.next n p) p w (omega (arith, near.nearer n p r.1)) r.2 in
      inr (ways_all (λ ws. (p ∷ w) ∈ ws) k N t n a (λ e. absurd (r.0 e)) (λ off. mem_over _ _ (mem_helical a _ r.1) later))

  module _ {Node : ℕ → Type 0} (lead : Leading N t Node) where
    -- a way leads from a node to the target where one does from every node one nearer, and so from every node
    one_on : (n : ℕ) → Node n → ((m : ℕ) → suc (N.distance t m) ≡ N.distance t n → Node m → (w : Path) × Onward N t m w) → (w : Path) × Onward N t n w
    unfolding Onward
    one_on n i on =
        ⊎_elim (λ e. ([], e))
        (λ ne. let r = lead.leads n i ne in let o = on (N.next n r.0) (sym (near.nearer n r.0 r.1)) (lead.inside n r.0 i r.1) in (r.0 ∷ o.0, (ne, r.1, o.1)))
        (same? n t)

    way_home : (k n : ℕ) → N.distance t n ≤ k → Node n → (w : Path) × Onward N t n w
    way_home zero n h i = one_on n i (λ m e j. absurd (omega arith))
    way_home (suc k) n h i = one_on n i (λ m e j. way_home k m (omega arith) j)

    -- so every climb is the beginning of a way to the target
    climb_onward : (n : ℕ) (w : Path) → Node n → Climb N t n w → (v : Path) × Onward N t n (w ++ v)
    unfolding Climb Onward
    climb_onward n [] i r = way_home (N.distance t n) n (le_refl _) i
    climb_onward n (p ∷ w) i r = let o = climb_onward (N.next n p) w (lead.inside n p i r.1) r.2 in (o.0, (r.0, r.1, o.1))

    -- The list holds the beginnings of the permitted paths and nothing else.
    pub beginnings_exactly : (s : ℕ) (vector : List ℕ) → ((p : ℕ) → p ∈ vector → Node (N.next s p)) → (b : Path) → (b ∈ beginnings N s vector t) ↔ Beginning N s vector t b
    unfolding beginnings Beginning Permitted
    beginnings_exactly s vector h b = (there b, back b)
      where
        on : ℕ → List Path
        on p = ways (N.distance t (N.next s p)) N t (N.next s p) p

        there : (b : Path) → b ∈ over on vector → Beginning N s vector t b
        there [] m = absurd (beginning_hop N s vector t m)
        there (p ∷ w) m =
            let o = beginning_climb N s vector t p w m in
            let r = climb_onward (N.next s p) w (h p o.0) o.1 in
            (cons≢nil, (r.0, (o.0, r.1)))

        back : (b : Path) → Beginning N s vector t b → b ∈ over on vector
        back [] r = absurd (r.0 refl)
        back (p ∷ w) r = mem_over on vector r.1.1.0 (climb_ways _ (N.next s p) p w (le_refl _) (onward_climb N t (N.next s p) w r.1.0 r.1.1.1))
