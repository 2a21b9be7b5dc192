-- What History 11 to 13 say, one by one, from the theorem about lists of calls.
-- Assumes nothing.
use mathlib.Core.Path.{◌≡◌, refl, ap, sym, subst}
use mathlib.Core.Logic.{⊎_elim, ◌↔◌}
use mathlib.Core.Bool.{true}
use mathlib.Core.List.Memᴰ
use mathlib.Core.List.{List, ◌∷◌}
use Prim.Native.Nat.{ℕ, ◌<◌}
use Rattle.common.specs.Lists.{◌∈◌}
use Rattle.common.proofs.Lists.{any_some}
use Rattle.common.specs.Tests.{refusal}
use Rattle.cube.specs.Cube.{channels, circuit_of}
use Rattle.paths.specs.Network.{Network, Path, Link, links}
use Rattle.paths.specs.Permitted.{Permitted}
use Rattle.paths.proofs.Links.{link_true, true_link}
use Rattle.layout.specs.Layout.{owner_at, receiver_at, armed_at}
use Rattle.layout.specs.Resources.{Width}
use Rattle.table.specs.View.{View, view}
use Rattle.soundness.specs.Sound.{Sound}
use Rattle.soundness.specs.TableTests.{table_tests}
use Rattle.paths.specs.CubeNetwork.{ports}
use Rattle.ownership.specs.Calls.{Call, making, OfKind}
use Rattle.ownership.specs.Closing.{Each}
use Rattle.ownership.specs.OnTable.{table_step}
use Rattle.ownership.specs.History.{Circuit, History, shape_on, net_on, links_of, belongs, open_on, armed_on, history_step}
use Rattle.ownership.specs.Agrees.{table_after, table_results, history_after, Accepted, after_calls}
use Rattle.ownership.specs.Invariant.{Disjoint, Represents}
use Rattle.ownership.specs.HistoryView.{view_of}
use Rattle.ownership.specs.StillOpen.{counts_as, with_answers, counted, StillOpen, OpenedBy}
use Rattle.ownership.proofs.Circuits.{pairwise_one, belongs_parts}
use Rattle.ownership.proofs.ValidAfter.{open_send}
use Rattle.ownership.proofs.OpenedBy.{opened_later, listed_by}
use Rattle.ownership.proofs.CircuitValid.{owner_exactly, receiver_exactly}
use Rattle.ownership.proofs.StillOpen.{open_exactly}
use Rattle.ownership.proofs.Agreement.{making_passes, made_clears, made_represents, represents_run, represents_sound, represents_not_stopped, demand_3}

-- a permitted path has a link out of its source
first_link : (N : Network) (s : ℕ) (vector : List ℕ) (t : ℕ) (w : Path) → Permitted N s vector t w → (p : ℕ) × ((s, p) ∈ links N s w)
unfolding Permitted links
first_link N s vector t mathlib.Core.List.[] o = elim o [ ]
first_link N s vector t (p ∷ w) o = (p, Memᴰ.head refl)

-- From any bytes, after an accepted making and any list of calls on that kind of table:
module _ (q : ℕ) (width : Width q) (b : List ℕ) (h : History) (D : ℕ) (e : Accepted q b (making D)) (calls : List Call) (kinds : Each (OfKind q) calls) where
  -- the table and the history then
  abbrev table : List ℕ
  table = table_after q b (making D ∷ calls)

  abbrev history : History
  history = history_after h (making D ∷ calls)

  pub reached_represents : Represents q table history
  unfolding after_calls
  reached_represents = represents_run q width calls kinds (table_step q b (making D)).state (history_step h (making D)).state (made_represents q width b h D e)

  -- the history lists the circuit of a send channel, and it holds something
  abbrev pub Listed : ℕ → ℕ → (Circuit → Type 0) → Type 0
  Listed s c Holds = (x : Circuit) × (x ∈ history.circuits) × ((x.source ≡ s) × (x.channel ≡ c)) × Holds x

  -- a circuit holds a link or a receive channel in the table exactly when it does in the history
  pub table_holds_link : (s c : ℕ) → c < channels → (n p : ℕ)
      → (owner_at table n p ≡ circuit_of s c) ↔ Listed s c (λ x. (n, p) ∈ links_of (net_on history) x)
  unfolding view
  table_holds_link s c l n p = subst (λ (v : View). (v.owner n p ≡ circuit_of s c) ↔ Listed s c (λ x. (n, p) ∈ links_of (net_on history) x)) (sym reached_represents.shows) (owner_exactly history reached_represents.valid s c l n p)

  pub table_holds_receive : (s c : ℕ) → c < channels → (n k : ℕ)
      → (receiver_at table n k ≡ circuit_of s c) ↔ Listed s c (λ x. (n ≡ x.target) × (k ≡ x.receive))
  unfolding view
  table_holds_receive s c l n k = subst (λ (v : View). (v.receiver n k ≡ circuit_of s c) ↔ Listed s c (λ x. (n ≡ x.target) × (k ≡ x.receive))) (sym reached_represents.shows) (receiver_exactly history reached_represents.valid s c l n k)

  -- a receive channel is armed in the table exactly when it is in the history
  pub table_armed : (n k : ℕ) → (armed_at table n k ≡ true) ↔ ((n, k) ∈ history.armed)
  unfolding view view_of armed_on
  table_armed n k = rw (ap (λ (v : View). v.armed n k) reached_represents.shows) (true_link history.armed n k, link_true history.armed n k)

  -- it is listed exactly when the list has an acknowledged open of it, and no accepted making and no accepted close of it afterwards, by the answers of the calls
  -- on the table
  pub listed_exactly : (s c : ℕ) → (open_on history s c ≡ true) ↔ StillOpen s c (with_answers (making D ∷ calls) (table_results q b (making D ∷ calls)))
  listed_exactly s c = rw (demand_3 q width b h D e calls kinds).results (open_exactly s c h D (making_passes q b h D e) calls)

  -- each listed circuit has the path and the receive channel of an acknowledged open of the list, or of an accepted job in it, and no accepted call after that
  -- open ends it
  pub listed_opened : (x : Circuit) → x ∈ history.circuits → OpenedBy h (counted h (making D ∷ calls)) x
  unfolding after_calls counted counts_as
  listed_opened x m =
      ⊎_elim (λ k. absurd (Memᴰ.not-nil (subst (λ (u : List Circuit). x ∈ u) (made_clears q b h D e) k.0))) (λ z. opened_later h (making D) (counted (history_step h (making D)).state calls) x z) (listed_by calls (history_step h (making D)).state x m)

  still_open : (s c : ℕ) {Holds : Circuit → Type 0} → Listed s c Holds → StillOpen s c (with_answers (making D ∷ calls) (table_results q b (making D ∷ calls)))
  still_open s c r = (listed_exactly s c).0 (open_send history r.0 r.1 s c r.2.0 r.2.1)

  some_listed : (s c : ℕ) → StillOpen s c (with_answers (making D ∷ calls) (table_results q b (making D ∷ calls))) → Listed s c (λ x. x ∈ history.circuits)
  unfolding open_on
  some_listed s c k =
      let r = any_some (belongs s c) history.circuits ((listed_exactly s c).1 k) in
      (r.0, r.1, belongs_parts s c r.0 r.2, r.1)

  -- so a circuit holds a link in the table, and a receive channel, exactly when the list has an acknowledged open of it, and no accepted call after that ends it
  pub link_shown_exactly : (s c : ℕ) → c < channels → ((n : ℕ) × ((p : ℕ) × (owner_at table n p ≡ circuit_of s c))) ↔ StillOpen s c (with_answers (making D ∷ calls) (table_results q b (making D ∷ calls)))
  link_shown_exactly s c l = ((λ r. still_open s c ((table_holds_link s c l r.0 r.1.0).0 r.1.1)), (λ k. shows (some_listed s c k)))
    where
      shows : Listed s c (λ x. x ∈ history.circuits) → (n : ℕ) × ((p : ℕ) × (owner_at table n p ≡ circuit_of s c))
      shows r =
          let first = first_link (net_on history) r.0.source (ports (shape_on history)) r.0.target r.0.ports (reached_represents.valid.every_circuit r.0 r.1).permitted in
          (r.0.source, (first.0, (table_holds_link s c l r.0.source first.0).1 (r.0, r.1, r.2, first.1)))

  pub receive_shown_exactly : (s c : ℕ) → c < channels → ((n : ℕ) × ((k : ℕ) × (receiver_at table n k ≡ circuit_of s c))) ↔ StillOpen s c (with_answers (making D ∷ calls) (table_results q b (making D ∷ calls)))
  receive_shown_exactly s c l = ((λ r. still_open s c ((table_holds_receive s c l r.0 r.1.0).0 r.1.1)), (λ k. shows (some_listed s c k)))
    where
      shows : Listed s c (λ x. x ∈ history.circuits) → (n : ℕ) × ((k : ℕ) × (receiver_at table n k ≡ circuit_of s c))
      shows r = (r.0.target, (r.0.receive, (table_holds_receive s c l r.0.target r.0.receive).1 (r.0, r.1, r.2, (refl, refl))))

  -- no two open circuits share a link or a receive channel
  pub no_link_shared : (x y : Circuit) → x ∈ history.circuits → y ∈ history.circuits → (l : Link) → l ∈ links_of (net_on history) x → l ∈ links_of (net_on history) y → x ≡ y
  no_link_shared x y m k l i j = pairwise_one (Disjoint (net_on history)) history.circuits (demand_3 q width b h D e calls kinds).valid.apart x y m k (λ r. r.link l i j) (λ r. r.link l j i)

  pub no_receive_shared : (x y : Circuit) → x ∈ history.circuits → y ∈ history.circuits → x.target ≡ y.target → x.receive ≡ y.receive → x ≡ y
  no_receive_shared x y m k t r = pairwise_one (Disjoint (net_on history)) history.circuits (demand_3 q width b h D e calls kinds).valid.apart x y m k (λ z. z.receives t r) (λ z. z.receives (sym t) (sym r))

  -- Calls 21: every table so reached is sound. Of Refusals 1 to 3 none stops a call on it but the 2 of a making.
  pub reached_sound : Sound (view table)
  reached_sound = represents_sound q table history reached_represents

  pub reached_passes : refusal (table_tests q table) ≡ 0
  reached_passes = represents_not_stopped q table history reached_represents
