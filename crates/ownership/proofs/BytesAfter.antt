-- The bytes after a call as the functions below the calls write them, each in its own contract: they are those of the definition.
-- Assumes nothing.
use mathlib.Core.Path.{◌≡◌, refl, ap, sym, ◌∙◌, subst}
use mathlib.Core.Bool.{Bool, true, false}
use mathlib.Core.List.{List}
use mathlib.Core.Logic.{inl, inr}
use Prim.Native.Nat.{ℕ, ◌+◌, ◌*◌, ◌/◌, ◌%◌, ◌^◌, ◌≤◌, ◌<◌}
use native.Mathlib.Omega.{arith}
use lib.ListN.{set}
use Rattle.answers.specs.SendOnTable.{send_in}
use Rattle.cube.specs.Cube.{largest_dimension, channels, circuit_of}
use Rattle.cube.proofs.Bits.{with_bit_inside}
use Rattle.cube.proofs.Ports.{most_nodes, below_256}
use Rattle.layout.specs.Layout.{length_of, dimension_at, mask_size, mask_place, mask_number, enable_part, link_part, enabled_at, owner_at}
use Rattle.entries.specs.EntryContracts.{put_mask, put_enabled, put_armed, put_owner}
use Rattle.table.specs.Encode.{encode_over, AllBytes, BytesOver}
use Rattle.table.specs.Folding.{set_fold}
use Rattle.table.specs.View.{view, set_enabled, set_armed, without_circuit, fresh}
use Rattle.layout.specs.LayoutContracts.{put_number}
use Rattle.layout.specs.Resources.{Width, ResourceLaws, layout_laws, links_laws}
use Rattle.layout.proofs.Entries.{width_masks}
use Rattle.table.proofs.Encode.{number_small, encode_view_over}
use Rattle.table.proofs.Encoded.{encode_shown_over}
use Rattle.table.proofs.Views.{view_put_enabled_over, view_put_armed_over}
use Rattle.answers.specs.SendAnswer.{bytes_after_send}
use Rattle.ownership.specs.Calls.{Call, making, blocking, unblocking, opening, closing, tracing, arming, disarming, opening_all, booking, judging, folding, form}
use Rattle.ownership.specs.InTurn.{after_job}
use Rattle.ownership.specs.TableFacts.{job_in}
use Rattle.ownership.specs.Sends.{sends_in}
use Rattle.ownership.specs.Allowed.{Allowed}
use Rattle.ownership.specs.Update.{updated}
use Rattle.ownership.specs.OnTable.{facts_of, stopped_at, table_step}
use Rattle.ownership.proofs.Allowed.{allowed}
use Rattle.judging.proofs.Loadable.{port_exactly}
use Rattle.ownership.proofs.Range.{fold_fits, port_row}
use Rattle.answers.proofs.AfterSend.{sent_fits, set_bytes, send_encoded_over}
use Rattle.ownership.proofs.Stops.{none_stops, none_stops_lent, none_stops_length, pass_tests}
use Rattle.ownership.proofs.StepBytes.{step_encoded}

-- a mask of one byte or of three written, and a bit of one: bytes stay bytes
number_bytes_lem : (q : ℕ) (b : List ℕ) (w : ℕ) → Width w → (i x : ℕ) → BytesOver q b → x < 2 ^ (8 * mask_size w) → BytesOver q (put_number w b i x)
unfolding put_number
number_bytes_lem q b w (inl e) i x h l = rw e (set_bytes b i x h (subst (λ w. x < 2 ^ (8 * mask_size w)) e l))
number_bytes_lem q b w (inr e) i x h l =
    let fits : x < 16777216 = subst (λ w. x < 2 ^ (8 * mask_size w)) e l in
    let low = set_bytes b i (x % 256) h (omega arith) in
    let middle = set_bytes (set b i (x % 256)) (i + 1) (x / 256 % 256) low (omega arith) in
    rw e (set_bytes (set (set b i (x % 256)) (i + 1) (x / 256 % 256)) (i + 2) (x / 65536) middle (omega (arith, fits)))

mask_bytes_lem : (q : ℕ) (b : List ℕ) (w : ℕ) → Width w → (part n k : ℕ) (on : Bool) → BytesOver q b → k < w → BytesOver q (put_mask w part b n k on)
unfolding put_mask
mask_bytes_lem q b w width part n k on h l =
    let i : ℕ = mask_place w part n in
    number_bytes_lem q b w width i _ h (with_bit_inside (8 * mask_size w) (mask_number w b i) k on (number_small b h.small w width i) (omega (arith, width_masks width)))

-- so they are what `encode_over` writes of what they show
module _ (q : ℕ) (width : Width q) (b : List ℕ) (bytes : BytesOver q b) where
  enabled_encoded : (n p : ℕ) (on : Bool) → n < 256 → p < q → put_enabled b n p on ≡ encode_over q (set_enabled (view b) n p on)
  enabled_encoded n p on i l =
      encode_shown_over q width (put_enabled b n p on) _ (subst (BytesOver q) (sym (ap (λ f. f n p on) (of_links.put_enabled_is b bytes.long))) (mask_bytes_lem q b q width _ n p on bytes l))
      (view_put_enabled_over (layout_laws q width) b n p on record { bytes = bytes.long; node = i; port = l })
    where
      of_links : ResourceLaws (length_of q) q (enable_part q) (link_part q) enabled_at owner_at put_enabled put_owner
      of_links = links_laws (layout_laws q width)

  pub armed_encoded : (n k : ℕ) (on : Bool) → n < 256 → k < channels → put_armed b n k on ≡ encode_over q (set_armed (view b) n k on)
  armed_encoded n k on i l =
      encode_shown_over q width (put_armed b n k on) _ (unfold put_armed in mask_bytes_lem q b channels (inl refl) _ n k on bytes l)
      (view_put_armed_over (layout_laws q width) b n k on record { bytes = bytes.long; node = i; port = l })

-- What the functions below leave of the bytes: `table::make`, `table::set_enabled` of both halves, `send::send`, `release::release`.
unfoldable pub bytes_written : ℕ → List ℕ → Call → List ℕ
bytes_written q b (making D) = encode_over q (fresh D)
bytes_written q b (blocking n p) = put_enabled b n p false
bytes_written q b (unblocking n p) = put_enabled b n p true
bytes_written q b (opening s c t y v) = bytes_after_send b (circuit_of s c) s t (send_in (view b) s t y v).outcome
bytes_written q b (closing s c) = encode_over q (without_circuit (view b) (circuit_of s c))
bytes_written q b (tracing s c buffer) = b
bytes_written q b (arming n k) = put_armed b n k true
bytes_written q b (disarming n k) = put_armed b n k false
bytes_written q b (opening_all sends) = encode_over q (after_job (view b) (job_in (view b) (sends_in sends)))
bytes_written q b (booking ports index) = b
bytes_written q b (judging ports index circuits hops) = b
bytes_written q b (folding mask) = encode_over q (set_fold (view b) mask)

module _ (q : ℕ) (width : Width q) (b : List ℕ) (small : AllBytes b) (a : Call) (e : stopped_at q b a ≡ 0) where
  bytes : BytesOver q b
  bytes = record { long = none_stops_length q b a e; small = small }

  encoded : (x : Call) → ((form x).is_making ≡ false → dimension_at b ≤ largest_dimension) → Allowed (facts_of (view b)) x → bytes_written q b x ≡ encode_over q (updated (view b) x)
  unfolding bytes_written updated Allowed facts_of view
  encoded (making D) most r = refl
  encoded (blocking n p) most r =
      let m = most refl in
      enabled_encoded q width b bytes n p false (below_256 m r.0) (port_row q width m (fold_fits q b bytes) p ((port_exactly _ _ p).1 r.1))
  encoded (unblocking n p) most r =
      let m = most refl in
      enabled_encoded q width b bytes n p true (below_256 m r.0) (port_row q width m (fold_fits q b bytes) p ((port_exactly _ _ p).1 r.1))
  encoded (opening s c t y v) most r =
      let m = most refl in
      send_encoded_over width b bytes (circuit_of s c) s t (send_in (view b) s t y v).outcome m (omega (arith, most_nodes m, r.0, r.2)) r.0 r.1 (sent_fits (view b) s t y v m r.0 r.1)
  encoded (closing s c) most r = refl
  encoded (tracing s c buffer) most r = sym (encode_view_over q width b bytes.long bytes.small)
  encoded (arming n k) most r =
      let m = most refl in
      armed_encoded q width b bytes n k true (below_256 m r.0) r.1
  encoded (disarming n k) most r =
      let m = most refl in
      armed_encoded q width b bytes n k false (below_256 m r.0) r.1
  encoded (opening_all sends) most r = refl
  encoded (booking ports index) most r = sym (encode_view_over q width b bytes.long bytes.small)
  encoded (judging ports index circuits hops) most r = sym (encode_view_over q width b bytes.long bytes.small)
  encoded (folding mask) most r = refl

  -- A call that no test stops leaves what they write.
  pub written_bytes : (table_step q b a).state ≡ bytes_written q b a
  written_bytes =
      step_encoded q width b bytes a e
      ∙ sym (encoded a (λ other. (pass_tests q b (none_stops_lent q b a other e)).2) (allowed (facts_of (view b)) a (none_stops q b a e)))
