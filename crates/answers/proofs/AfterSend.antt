-- What a table shows after a send's marks are written, and that its bytes are those that show it. An acknowledged send found a free permitted path, whose ports are
-- those of the cube, and took the target's receive channel.
-- Assumes nothing.
use mathlib.Core.Path.{◌≡◌, refl, ap, sym, subst, ◌∙◌}
use mathlib.Core.Logic.{inl, ⊎_elim}
use mathlib.Core.Bool.{Bool, true, false}
use mathlib.Core.List.Memᴰ
use mathlib.Core.List.{List, [], ◌∷◌}
use Prim.Native.Nat.{ℕ, ◌+◌, ◌/◌, ◌%◌, ◌≤◌, ◌<◌}
use native.Mathlib.Omega.{arith}
use lib.Dec.{ltb}
use lib.ListN.{length, get_or, set, length-set}
use lib.Seq.{get_or-set_same, get_or-set_other, set_out}
use borrow.Author.Tests.{ltb-true, ltb-false}
use Rattle.common.specs.Lists.{◌∈◌}
use Rattle.common.proofs.Tests.{same?}
use Rattle.cube.specs.Axes.{present}
use Rattle.cube.specs.Cube.{largest_dimension, channels, NodeOf, next}
use Rattle.cube.proofs.Ports.{below_256}
use Rattle.paths.specs.Network.{Path, Link, links}
use Rattle.paths.specs.Permitted.{Permitted}
use Rattle.paths.specs.Send.{Receive, lowest_available, Outcome, acknowledged, route_rejected, receive_rejected}
use Rattle.paths.specs.CubeNetwork.{Shape, Node, ports, network, attempts, send}
use Rattle.paths.proofs.Apart.{permitted_ports}
use Rattle.paths.proofs.CubeNetwork.{port_inside, port_there}
use Rattle.paths.proofs.FoldedCube.{port_listed}
use Rattle.paths.proofs.Attempts.{said_by, acknowledged_says}
use Rattle.paths.proofs.Send.{tries_permitted, send_says}
use Rattle.paths.proofs.Words.{free_path_links}
use Rattle.layout.specs.Layout.{ports_in, dimension_at, entry_place, link_part, receive_part}
use Rattle.layout.specs.LayoutContracts.{put_word}
use Rattle.entries.specs.EntryContracts.{put_entry, put_owner, put_receiver}
use Rattle.table.specs.Encode.{BytesOver, encode_over}
use Rattle.table.specs.View.{View, view, set_receiver, receive, shape_of}
use Rattle.table.proofs.Encoded.{encode_shown_over}
use Rattle.table.proofs.CubeRows.{RowOf, row_of}
use Rattle.table.proofs.Views.{view_put_owner_of, view_put_receiver_of}
use Rattle.layout.specs.Resources.{Width, ports_same, IsTable, is_table, table_kept, layout_laws}
use Rattle.answers.specs.SendOnTable.{free_in, send_in, hold_links, view_after_send}
use Rattle.answers.specs.PassOnBytes.{hold_path}
use Rattle.answers.specs.SendAnswer.{bytes_after_send}
use Rattle.answers.proofs.PassOnBytes.{receive_small, owner_length}

module _ (S : Shape) (free : ℕ → ℕ → Bool) (r : Receive) (s t : ℕ) where
  -- what an acknowledgement with path w and receive channel k says
  pub record SendTakes (w : Path) (k : ℕ) : Type 0 where
    pub permitted : Permitted (network S) s (ports S) t w
    pub is_free : (l : Link) → l ∈ links (network S) s w → free l.0 l.1 ≡ true
    pub receives : r ≡ lowest_available k

  -- A send that is acknowledged:
  pub send_taken : (vector : ℕ) → S.dimension ≤ largest_dimension → Node S s → Node S t → (w : Path) (k type : ℕ)
      → (send type S free r s vector t).outcome ≡ acknowledged w k → SendTakes w k
  send_taken vector fits i l w k type e =
      let says = send_says S free r s vector t type fits i l in
      let x = said_by (network S) s t free r (attempts S type vector) _ _ (rw e at says) in
      let y = acknowledged_says (network S) s t free r x.0 w k x.2.0 x.2.1 in
      record {
        permitted = tries_permitted S s t type vector x.0 x.1 w y.0;
        is_free = (free_path_links (network S) free s w).0 y.1;
        receives = y.2;
      }

-- the ports of a path are those of a cube
unfoldable pub PortsThere : Shape → Path → Type 0
PortsThere S w = (p : ℕ) → p ∈ w → present S.dimension S.fold p ≡ true

-- and so for the path of an outcome, whose receive channel is one of eight
unfoldable pub Fits : Shape → Outcome → Type 0
Fits S (acknowledged w k) = PortsThere S w × (k < channels)
Fits S route_rejected = Unit
Fits S receive_rejected = Unit

pub hold_length : (b : List ℕ) (c n : ℕ) (w : Path) → length (hold_path b c n w) ≡ length b
unfolding hold_path
hold_length b c n [] = refl
hold_length b c n (p ∷ w) = hold_length (put_owner b n p c) c (next n p) w ∙ owner_length b n p c

module _ (c : ℕ) (small : c < 65536) (S : Shape) (fits : S.dimension ≤ largest_dimension) where
  there_inside : (n p : ℕ) → Node S n → present S.dimension S.fold p ≡ true → Node S (next n p)
  unfolding network
  there_inside n p i h = port_inside S n p i (port_listed S p h)

  -- What a table with the cube's ports in its rows shows after the links of a path are held.
  pub view_hold : (b : List ℕ) → IsTable b → RowOf S (ports_in b) → (s : ℕ) (w : Path) → Node S s → PortsThere S w → view (hold_path b c s w) ≡ hold_links (view b) c s w
  unfolding hold_path hold_links PortsThere
  view_hold b l row s [] i h = refl
  view_hold b l row s (p ∷ w) i h =
      let here = h p (Memᴰ.head refl) in
      let same = ports_same b (put_owner b s p c) (owner_length b s p c) in
      view_hold (put_owner b s p c) (table_kept b (put_owner b s p c) (owner_length b s p c) l) (subst (RowOf S) (sym same) row) (next s p) w
      (there_inside s p i here) (λ q m. h q (Memᴰ.tail m))
      ∙ ap (λ v. hold_links v c (next s p) w) (view_put_owner_of b l s p c (below_256 fits i) (row p here) small)

  -- What it shows after a send.
  pub view_after_send_lem : (b : List ℕ) → IsTable b → RowOf S (ports_in b) → (s t : ℕ) → Node S s → Node S t → (o : Outcome) → Fits S o → view (bytes_after_send b c s t o) ≡ view_after_send (view b) c s t o
  unfolding bytes_after_send view_after_send Fits
  view_after_send_lem b l row s t i j (acknowledged w k) h =
      view_put_receiver_of (hold_path b c s w) (table_kept b (hold_path b c s w) (hold_length b c s w) l) t k c (below_256 fits j) h.1 small
      ∙ ap (λ v. set_receiver v t k c) (view_hold b l row s w i h.0)
  view_after_send_lem b l row s t i j route_rejected h = refl
  view_after_send_lem b l row s t i j receive_rejected h = refl

-- An acknowledged send's ports are the cube's, and its receive channel is one of eight.
pub sent_fits : (v : View) (s t y vector : ℕ) → v.dimension ≤ largest_dimension → NodeOf v.dimension s → NodeOf v.dimension t → Fits (shape_of v) (send_in v s t y vector).outcome
sent_fits v s t y vector h i j = go (send_in v s t y vector).outcome refl
  where
    go : (o : Outcome) → (send_in v s t y vector).outcome ≡ o → Fits (shape_of v) o
    go (acknowledged w k) e =
        let r = send_taken (shape_of v) (free_in v) (receive v t) s t vector h i j w k y e in
        unfold Fits PortsThere in ((λ p m. port_there (shape_of v) p (permitted_ports (shape_of v) s t w r.permitted p m)), receive_small v t k r.receives)
    go route_rejected e = unfold Fits in tt
    go receive_rejected e = unfold Fits in tt

-- one byte written, an entry, the links of a path, a send's marks: bytes stay bytes
pub set_bytes : {q : ℕ} (b : List ℕ) (i x : ℕ) → BytesOver q b → x < 256 → BytesOver q (set b i x)
set_bytes b i x h l =
    record { long = length-set b i x ∙ h.long; small = λ j. ⊎_elim (λ e. rw e (go (ltb i (length b)) refl)) (λ ne. rw (get_or-set_other b i j x 0 ne) (h.small j)) (same? j i) }
  where
    go : (y : Bool) → ltb i (length b) ≡ y → get_or (set b i x) i 0 < 256
    go true e = rw (get_or-set_same b i x 0 (ltb-true i (length b) e)) l
    go false e = rw (set_out b i x (ltb-false i (length b) e)) (h.small i)

word_bytes : {q : ℕ} (b : List ℕ) (i c : ℕ) → BytesOver q b → c < 65536 → BytesOver q (put_word b i c)
word_bytes b i c h l = set_bytes (set b i (c % 256)) (i + 1) (c / 256) (set_bytes b i (c % 256) h (omega arith)) (omega arith)

hold_bytes : {q : ℕ} (b : List ℕ) (c n : ℕ) (w : Path) → BytesOver q b → c < 65536 → BytesOver q (hold_path b c n w)
unfolding hold_path put_owner put_entry
hold_bytes b c n [] h l = h
hold_bytes b c n (p ∷ w) h l = hold_bytes (put_owner b n p c) c (next n p) w (word_bytes b (entry_place (ports_in b) (link_part (ports_in b)) n p) c h l) l

pub send_bytes_lem : {q : ℕ} (b : List ℕ) (c s t : ℕ) (o : Outcome) → BytesOver q b → c < 65536 → BytesOver q (bytes_after_send b c s t o)
unfolding bytes_after_send put_receiver put_entry
send_bytes_lem b c s t (acknowledged w k) h l = word_bytes (hold_path b c s w) (entry_place channels (receive_part (ports_in (hold_path b c s w))) t k) c (hold_bytes b c s w h l) l
send_bytes_lem b c s t route_rejected h l = h
send_bytes_lem b c s t receive_rejected h l = h

-- so they are what `encode` writes of what they show
pub send_encoded_over : {q : ℕ} → Width q → (b : List ℕ) → BytesOver q b → (c s t : ℕ) (o : Outcome) → dimension_at b ≤ largest_dimension → c < 65536 → NodeOf (dimension_at b) s → NodeOf (dimension_at b) t → Fits (shape_of (view b)) o
    → bytes_after_send b c s t o ≡ encode_over q (view_after_send (view b) c s t o)
send_encoded_over {q} width b bytes c s t o most small i j h =
    encode_shown_over q width (bytes_after_send b c s t o) _ (send_bytes_lem b c s t o bytes small)
    (unfold view in view_after_send_lem c small (shape_of (view b)) most b (is_table (layout_laws q width) b bytes.long) (row_of b most) s t i j o h)
