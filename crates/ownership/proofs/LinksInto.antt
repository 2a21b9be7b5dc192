-- In a sound table each circuit that holds a receive channel of a node holds a link into it. So where at most eight links lead into a node, as where nothing is folded,
-- and all its eight channels are armed, at most as many links into it are free as channels are available, and no send to it is receive rejected.
-- Assumes nothing.
use mathlib.Core.Path.{◌≡◌, refl, ap, sym, ◌∙◌, subst}
use mathlib.Core.Logic.{◌≢◌}
use mathlib.Core.Bool.{Bool, true, false, not, ◌&&◌, not-not}
use mathlib.Core.List.Memᴰ
use mathlib.Core.List.{List, [], ◌∷◌}
use Prim.Native.Nat.{ℕ, ◌≤◌, ◌<◌}
use native.Mathlib.Omega.{arith}
use lib.Dec.{eqb}
use lib.ListN.{length}
use borrow.Author.Tests.{eqb-true, eqb-false, eq-eqb, ne_eqb, not-true}
use Rattle.common.specs.Lists.{◌∈◌, keep, from}
use Rattle.common.proofs.Lists.{keep_same, keep_none, mem_keep, keep_either, length_parts, no_more_than_places, pairwise_kept}
use Rattle.common.proofs.From.{from_pairwise, length_from, from_below, kept_below}
use Rattle.cube.specs.Cube.{largest_dimension, channels, next, source_of}
use Rattle.cube.specs.Axes.{axis}
use Rattle.cube.proofs.Bits.{flip_back}
use Rattle.paths.specs.Network.{Path, end, links}
use Rattle.paths.specs.Permitted.{Permitted}
use Rattle.paths.specs.Send.{none_available, Outcome, receive_rejected}
use Rattle.paths.specs.Sentences.{Free, AttemptsSay}
use Rattle.paths.specs.CubeNetwork.{Shape, ports, network, attempts}
use Rattle.paths.proofs.Links.{On, on_first_lem, on_later}
use Rattle.paths.proofs.Apart.{permitted_ports}
use Rattle.paths.proofs.CubeNetwork.{unfolded_ports}
use Rattle.paths.proofs.Sentences.{permitted_end}
use Rattle.paths.proofs.Attempts.{said_by, receive_rejected_says}
use Rattle.paths.proofs.Send.{tries_permitted}
use Rattle.paths.proofs.Words.{free_path_links}
use Rattle.table.specs.View.{View, held_in, available, receive, shape_of, net}
use Rattle.table.proofs.Receives.{none_chosen}
use Rattle.circuit_path.specs.CircuitSound.{CircuitSound}
use Rattle.soundness.specs.Sound.{Sound}
use Rattle.soundness.proofs.Soundness.{receive_stands}
use Rattle.answers.specs.SendOnTable.{free_in}
use Rattle.answers.proofs.PassOnBytes.{free_owner}
use Rattle.ownership.specs.TableFacts.{taken_in}
use Rattle.ownership.specs.AllArmed.{FewLinks}

-- the port by which a path comes in at its end, and the link out of it
arrival : Path → ℕ
arrival [] = 0
arrival (p ∷ []) = p
arrival (p ∷ r ∷ w) = arrival (r ∷ w)

arrives : (S : Shape) (n p : ℕ) (w : Path) → On (network S) n (p ∷ w) (next (end (network S) n (p ∷ w)) (arrival (p ∷ w))) (arrival (p ∷ w))
unfolding arrival end network
arrives S n p [] = rw (flip_back n (axis p)) (on_first_lem (network S) n p [])
arrives S n p (r ∷ w) = on_later (network S) n p (r ∷ w) _ _ (arrives S (next n p) r w)

-- which is one of its ports
arrival_port : (p : ℕ) (w : Path) → arrival (p ∷ w) ∈ (p ∷ w)
unfolding arrival
arrival_port p [] = Memᴰ.head refl
arrival_port p (r ∷ w) = Memᴰ.tail (arrival_port r w)

-- A permitted path comes in at its target over the link of its last port.
pub comes_in : (S : Shape) (s : ℕ) (vector : List ℕ) (t : ℕ) (w : Path) → Permitted (network S) s vector t w
    → (q : ℕ) × (q ∈ w) × ((next t q, q) ∈ links (network S) s w)
unfolding On
comes_in S s vector t [] o = unfold Permitted in absurd o
comes_in S s vector t (p ∷ w) o =
    let e = permitted_end (network S) s vector t (p ∷ w) o in
    (arrival (p ∷ w), arrival_port p w, subst (λ (x : ℕ). (next x (arrival (p ∷ w)), arrival (p ∷ w)) ∈ links (network S) s (p ∷ w)) e (arrives S s p w))

-- a list with a member is not empty
some_member : {A : Type 0} (xs : List A) {x : A} → x ∈ xs → 0 < length xs
some_member [] m = absurd (Memᴰ.not-nil m)
some_member (y ∷ xs) m = omega arith

-- where nothing is folded, a node has as many ports as the cube dimensions
pub unfolded_few : (v : View) → v.fold ≡ 0 → FewLinks v
unfolded_few v z most = omega (arith, most, ap length (unfolded_ports (shape_of v) most z), length_from 0 v.dimension)

-- whether the link into node t over port q is held, and whether it is free
abbrev way_held : View → ℕ → ℕ → Bool
way_held v t q = held_in v (next t q) q

abbrev pub way_free : View → ℕ → ℕ → Bool
way_free v t q = free_in v (next t q) q

module _ (v : View) (sound : Sound v) (most : v.dimension ≤ largest_dimension) (t : ℕ) where
  -- a free link is not held
  not_held : (q : ℕ) → way_free v t q ≡ true → way_held v t q ≡ false
  unfolding held_in
  not_held q e = ap not (eq-eqb _ 0 (free_owner v (next t q) q e))

  -- a permitted path comes in over one of the cube's ports
  comes_over : (s : ℕ) (w : Path) → Permitted (net v) s (ports (shape_of v)) t w → (q : ℕ) × (q ∈ ports (shape_of v)) × ((next t q, q) ∈ links (net v) s w)
  comes_over s w o =
      let c = comes_in (shape_of v) s (ports (shape_of v)) t w o in
      (c.0, permitted_ports (shape_of v) s t w o c.0 c.1, c.2)

  -- So the circuit of a receive channel of t that is held has a link into t,
  module _ (j : ℕ) (held : v.receiver t j ≢ 0) where
    stands : CircuitSound v (v.receiver t j)
    stands = receive_stands v sound t j held

    held_way : (q : ℕ) × (q ∈ keep (way_held v t) (ports (shape_of v))) × (v.owner (next t q) q ≡ v.receiver t j)
    unfolding held_in
    held_way =
        let s = stands in
        let c = comes_over (source_of (v.receiver t j)) s.path (subst (λ (x : ℕ). Permitted (net v) (source_of (v.receiver t j)) (ports (shape_of v)) x s.path) (sym (s.once t j refl).0) s.permitted) in
        let owned = eqb-true _ (v.receiver t j) (s.exactly.all _ _ c.2) in
        (c.0, mem_keep (way_held v t) (ports (shape_of v)) c.1 (ap not (ne_eqb _ 0 (λ z. held (sym owned ∙ z)))), owned)

    -- which is no other channel's, since a circuit holds one channel alone.
    own_way : (i q : ℕ) → v.owner (next t q) q ≡ v.receiver t j → v.owner (next t q) q ≡ v.receiver t i → j ≡ i
    own_way i q one other = (stands.once t j refl).1 ∙ sym (stands.once t i (sym other ∙ one)).1

  -- the test of a held channel
  taken_some : (k : ℕ) → taken_in v t k ≡ true → v.receiver t k ≢ 0
  unfolding taken_in
  taken_some k e = eqb-false _ 0 (not-true _ e)

  -- So at most as many receive channels of t are held as links into t.
  more_held : length (keep (taken_in v t) (from 0 channels)) ≤ length (keep (way_held v t) (ports (shape_of v)))
  more_held =
      no_more_than_places (λ j q. v.owner (next t q) q ≡ v.receiver t j) (keep (taken_in v t) (from 0 channels))
      (pairwise_kept (taken_in v t) ◌<◌ _ (from 0 channels) (λ i j a b less q one other. let same = own_way i (taken_some i a) j q one other in omega (arith, less, same)) (from_pairwise 0 channels))
      (keep (way_held v t) (ports (shape_of v))) (λ j m. held_way j (taken_some j (kept_below (taken_in v t) channels j m).1))

  module _ (few : FewLinks v) (armed : (k : ℕ) → k < channels → v.armed t k ≡ true) where
    -- where all channels of t are armed, those that are not held are available
    untaken : (k : ℕ) → k ∈ from 0 channels → available v t k ≡ not (taken_in v t k)
    unfolding available taken_in
    untaken k m = ap (◌&& eqb (v.receiver t k) 0) (armed k (from_below channels k m)) ∙ sym (not-not (eqb (v.receiver t k) 0))

    -- Where all receive channels of t are armed, at most as many links into t are free as channels are available.
    pub free_ways_fit : length (keep (way_free v t) (ports (shape_of v))) ≤ length (keep (available v t) (from 0 channels))
    free_ways_fit =
        let untaken_kept = keep_same (available v t) (λ k. not (taken_in v t k)) (from 0 channels) untaken in
        omega (
          arith,
          more_held,
          keep_either (way_free v t) (way_held v t) (ports (shape_of v)) not_held,
          length_parts (taken_in v t) (from 0 channels),
          ap length untaken_kept,
          few most,
          length_from 0 channels,
        )

    -- So where a free permitted path leads to t, a receive channel of t is available,
    receives : (s : ℕ) (w : Path) → Permitted (net v) s (ports (shape_of v)) t w → Free (net v) (free_in v) s w → receive v t ≢ none_available
    unfolding receive
    receives s w o free e =
        let c = comes_over s w o in
        let way = some_member _ (mem_keep (way_free v t) (ports (shape_of v)) c.1 ((free_path_links (net v) (free_in v) s w).0 free _ c.2)) in
        let none = keep_none (available v t) (from 0 channels) (λ k m. none_chosen _ e k (from_below channels k m)) in
        omega (arith, free_ways_fit, way, ap length none)

    -- and no send to it is receive rejected.
    pub send_receives : (s type vector : ℕ) (o : Outcome) (n : ℕ)
        → AttemptsSay (net v) s t (free_in v) (receive v t) (attempts (shape_of v) type vector) o n → o ≢ receive_rejected
    send_receives s type vector o n a q =
        let x = said_by (net v) s t (free_in v) (receive v t) (attempts (shape_of v) type vector) receive_rejected n (rw q at a) in
        let y = receive_rejected_says (net v) s t (free_in v) (receive v t) x.0 x.2.0 x.2.1 in
        receives s y.0.0 (tries_permitted (shape_of v) s t type vector x.0 x.1 y.0.0 y.0.1) y.0.2 y.1
