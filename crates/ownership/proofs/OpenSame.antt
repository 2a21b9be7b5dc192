-- A send channel is open on a table that agrees with a valid history where the history lists its circuit, and its path is the one that is listed.
-- Assumes nothing.
use mathlib.Core.Path.{◌≡◌, refl, sym, ◌∙◌, ap}
use mathlib.Core.Bool.{Bool, true, false, cond}
use mathlib.Core.List.Memᴰ
use mathlib.Core.List.{List, [], ◌∷◌}
use Prim.Native.Nat.{ℕ, ◌<◌}
use native.Mathlib.Omega.{arith}
use borrow.Author.Tests.{eqb-true}
use Rattle.common.specs.Lists.{◌∈◌, any}
use Rattle.common.proofs.Lists.{any_some, some_any}
use Rattle.common.proofs.Tests.{clash, is_false}
use Rattle.cube.specs.Cube.{channels, circuit_of, source_of}
use Rattle.paths.specs.CubeNetwork.{ports}
use Rattle.table.specs.View.{shape_of, held_by}
use Rattle.circuit_path.specs.PathOf.{path_of}
use Rattle.circuit_path.proofs.CircuitSound.{path_is, sound_open}
use Rattle.circuit_path.specs.OpenCircuit.{is_open_in}
use Rattle.ownership.specs.TableFacts.{open_in}
use Rattle.ownership.specs.History.{Circuit, History, belongs, open_on, listed}
use Rattle.ownership.specs.Invariant.{Valid}
use Rattle.ownership.specs.HistoryView.{view_of}
use Rattle.ownership.proofs.Circuits.{number_for, circuit_parts, parts_belong, number_is}
use Rattle.ownership.proofs.CircuitValid.{link_held_lem, valid_stands, stands_path}

-- the listed path is that of a circuit that belongs to the send channel
listed_some : (s c : ℕ) (xs : List Circuit) → any (belongs s c) xs ≡ true → (x : Circuit) × (x ∈ xs) × (belongs s c x ≡ true) × (listed xs s c ≡ x.ports)
unfolding any listed
listed_some s c [] e = absurd (clash e refl)
listed_some s c (x ∷ xs) e = go (belongs s c x) refl (listed_some s c xs)
  where
    go : (b : Bool) → belongs s c x ≡ b → (any (belongs s c) xs ≡ true → (y : Circuit) × (y ∈ xs) × (belongs s c y ≡ true) × (listed xs s c ≡ y.ports))
        → (y : Circuit) × (y ∈ (x ∷ xs)) × (belongs s c y ≡ true) × (cond (belongs s c x) x.ports (listed xs s c) ≡ y.ports)
    go true f ih = (x, Memᴰ.head refl, f, rw f)
    go false f ih = let r = ih (rw f at e) in (r.0, Memᴰ.tail r.1, r.2, rw f r.3)

module _ (h : History) (valid : Valid h) (s c : ℕ) (small : c < channels) where
  -- Tracing by the table gives the ports that the history keeps.
  pub path_listed : open_on h s c ≡ true → path_of (view_of h) (circuit_of s c) ≡ listed h.circuits s c
  unfolding open_on
  path_listed e =
      let (x, m, f, q) = listed_some s c h.circuits e in
      sym (ap (path_of (view_of h)) (number_is s c x f)) ∙ path_is (view_of h) (number_for x) (valid_stands h valid x m) ∙ (stands_path h valid x m).0 ∙ sym q

  -- Calls 17
  pub open_same : open_in (view_of h) s c ≡ open_on h s c
  unfolding open_in is_open_in open_on
  open_same = go (open_on h s c) refl
    where
      go : (b : Bool) → open_on h s c ≡ b → is_open_in (view_of h) (circuit_of s c) ≡ b
      go true e =
          let (x, m, f) = any_some (belongs s c) h.circuits e in
          rw (sym (number_is s c x f)) (sound_open (view_of h) (number_for x) (valid_stands h valid x m))
      go false e = is_false _ (λ t.
          let (p, m, f) = any_some (held_by (view_of h) (circuit_of s c) (source_of (circuit_of s c))) (ports (shape_of (view_of h))) t in
          let k = eqb-true _ _ f in
          let r = link_held_lem h valid (source_of (circuit_of s c)) p (λ z. omega (arith, k, z)) in
          let b = circuit_parts r.0.source r.0.channel s c (valid.every_circuit r.0 r.1).channel small (sym r.3 ∙ k) in
          clash (some_any (belongs s c) h.circuits r.1 (parts_belong s c r.0 b.0 b.1)) e)
