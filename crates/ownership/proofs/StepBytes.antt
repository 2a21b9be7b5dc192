-- What a call leaves of the bytes of a table: those that show the update of what the table showed.
-- Assumes nothing.
use mathlib.Core.Path.{◌≡◌, refl, ap, sym, ◌∙◌}
use mathlib.Core.Logic.{⊎_elim, ◌≢◌}
use mathlib.Core.Bool.{Bool, true, false, cond, not, ◌&&◌, ◌||◌, or-false, true≢false}
use mathlib.Core.List.{List}
use Prim.Native.Nat.{ℕ, ◌^◌, ◌≤◌, ◌<◌}
use lib.Dec.{eqb, ltb, lit<}
use borrow.Author.Tests.{eqb-true, ne_eqb, lt-ltb}
use Rattle.common.proofs.Tests.{same?, both, and, clash}
use Rattle.cube.specs.Bits.{has}
use Rattle.cube.specs.Axes.{axis, present}
use Rattle.cube.specs.Cube.{largest_dimension, channels, circuit_of}
use Rattle.paths.specs.Send.{Outcome, acknowledged, route_rejected, receive_rejected}
use Rattle.layout.specs.Layout.{fold_at, enabled_at, armed_at}
use Rattle.layout.specs.Resources.{Width}
use Rattle.paths.specs.CubeNetwork.{is_link_of}
use Rattle.table.specs.Folding.{set_fold}
use Rattle.table.specs.View.{View, view, shape_of, set_at, set_enabled, set_armed, fresh}
use Rattle.table.specs.Encode.{encode_over, BytesOver}
use Rattle.table.proofs.Encode.{encode_view_over}
use Rattle.table.proofs.Encoded.{encode_bytes_over, view_encode_over}
use Rattle.soundness.specs.Sound.{Sound}
use Rattle.soundness.proofs.Soundness.{fresh_sound}
use Rattle.ownership.specs.Calls.{Call, making, blocking, unblocking, opening, closing, tracing, arming, disarming, opening_all, booking, judging, folding, CallResult, answered, result_of}
use Rattle.ownership.specs.InTurn.{after_job}
use Rattle.ownership.specs.Allowed.{Allowed}
use Rattle.ownership.specs.Update.{updated}
use Rattle.answers.specs.SendOnTable.{view_after_send, waiting_helps, send_in}
use Rattle.ownership.specs.OnTable.{facts_of, stopped_at, table_step}
use Rattle.ownership.proofs.Allowed.{allowed}
use Rattle.ownership.proofs.Range.{sound_fits}
use Rattle.ownership.proofs.Stops.{none_stops}
use Rattle.ownership.proofs.Steps.{table_step_lem}

-- where a search is rejected, the update is what the table showed
pub rejected_same : (v : View) (a : Call) → (result_of (facts_of v) a).number ≢ 0 → updated v a ≡ v
unfolding result_of facts_of updated
rejected_same v (making D) f = absurd (f refl)
rejected_same v (blocking n p) f = absurd (f refl)
rejected_same v (unblocking n p) f = absurd (f refl)
rejected_same v (opening s c t y x) f = go (waiting_helps v s t y x) (send_in v s t y x).outcome _ f
  where
    go : (helps : Bool) (o : Outcome) (n : ℕ) → (answered helps o n).number ≢ 0 → view_after_send v (circuit_of s c) s t o ≡ v
    go helps (acknowledged w k) n g = unfold answered in absurd (g refl)
    go helps route_rejected n g = unfold view_after_send in refl
    go helps receive_rejected n g = unfold view_after_send in refl
rejected_same v (closing s c) f = absurd (f refl)
rejected_same v (tracing s c buffer) f = absurd (f refl)
rejected_same v (arming n k) f = absurd (f refl)
rejected_same v (disarming n k) f = absurd (f refl)
rejected_same v (opening_all sends) f = unfold after_job in rw (ne_eqb _ 0 f)
rejected_same v (booking ports index) f = refl
rejected_same v (judging ports index circuits hops) f = refl
rejected_same v (folding mask) f = absurd (f refl)

module _ (q : ℕ) (width : Width q) (b : List ℕ) (bytes : BytesOver q b) (a : Call) where
  -- so a call that no test stops leaves the bytes that show the update, also where its search is rejected
  pub step_encoded : stopped_at q b a ≡ 0 → (table_step q b a).state ≡ encode_over q (updated (view b) a)
  step_encoded z = ⊎_elim (table_step_lem q b a).accepted rejected (same? (table_step q b a).result.number 0)
    where
      rejected : (table_step q b a).result.number ≢ 0 → (table_step q b a).state ≡ encode_over q (updated (view b) a)
      rejected f =
          let same = rejected_same (view b) a (rw ((table_step_lem q b a).result z) at f) in
          (table_step_lem q b a).refused f ∙ sym (ap (encode_over q) same ∙ encode_view_over q width b bytes.long bytes.small)

  -- and where what is shown stays, each byte does
  step_same : updated (view b) a ≡ view b → (table_step q b a).state ≡ b
  step_same e =
      ⊎_elim (λ z. (table_step_lem q b a).accepted z ∙ ap (encode_over q) e ∙ encode_view_over q width b bytes.long bytes.small) (table_step_lem q b a).refused
      (same? (table_step q b a).result.number 0)

-- After an accepted making the table is a made one, whatever it was before.
pub record Made (q : ℕ) (b : List ℕ) (D : ℕ) : Type 0 where
  pub least : 1 ≤ D
  pub most : D ≤ largest_dimension
  pub bytes : BytesOver q b
  pub shows : view b ≡ fresh D

none_armed : (D n k : ℕ) → (fresh D).armed n k ≡ true → k < channels
unfolding fresh
none_armed D n k e = absurd (true≢false (sym e))

pub made_shows : (q : ℕ) → Width q → (b : List ℕ) (D : ℕ) → stopped_at q b (making D) ≡ 0 → Made q (table_step q b (making D)).state D
made_shows q width b D e =
    let h : (1 ≤ D) × (D ≤ largest_dimension) = unfold Allowed in allowed (facts_of (view b)) (making D) (none_stops q b (making D) e) in
    let fits = sound_fits q width (fresh D) (unfold fresh in h.1) (fresh_sound D) (none_armed D) (unfold fresh in record { small = lit< tt; plain = λ e. refl }) in
    let accepted : (table_step q b (making D)).result.number ≡ 0 = unfold result_of in ap (λ (g : CallResult). g.number) ((table_step_lem q b (making D)).result e) in
    rw ((table_step_lem q b (making D)).accepted accepted) (unfold updated in record { least = h.0; most = h.1; bytes = encode_bytes_over q width (fresh D) fits; shows = view_encode_over q width (fresh D) fits })

-- a value that is at its place already
set_already : {A : Type 0} (f : ℕ → ℕ → A) (n p : ℕ) (a : A) → f n p ≡ a → (m q : ℕ) → set_at f n p a m q ≡ f m q
unfolding set_at
set_already f n p a e m q = go (eqb m n && eqb q p) refl
  where
    go : (x : Bool) → (eqb m n && eqb q p) ≡ x → cond x a (f m q) ≡ f m q
    go true t = let r = both (eqb m n) (eqb q p) t in rw (eqb-true m n r.0, eqb-true q p r.1) (sym e)
    go false t = refl

-- so a link that is enabled or blocked already, and a channel that is armed already or is not
pub enabled_already : (v : View) (n p : ℕ) (on : Bool) → v.enabled n p ≡ on → set_enabled v n p on ≡ v
unfolding set_enabled
enabled_already v n p on e = λ i.
    record {
      dimension = v.dimension;
      fold = v.fold;
      enabled = λ m q. set_already v.enabled n p on e m q i;
      owner = v.owner;
      receiver = v.receiver;
      armed = v.armed;
    }

pub armed_already : (v : View) (n k : ℕ) (on : Bool) → v.armed n k ≡ on → set_armed v n k on ≡ v
unfolding set_armed
armed_already v n k on e = λ i.
    record {
      dimension = v.dimension;
      fold = v.fold;
      enabled = v.enabled;
      owner = v.owner;
      receiver = v.receiver;
      armed = λ m q. set_already v.armed n k on e m q i;
    }

-- Blocking a blocked link and unblocking an enabled one change no byte, nor do arming an armed channel and disarming an unarmed one, and no trace and no judging
-- does.
pub blocking_again : (q : ℕ) → Width q → (b : List ℕ) → BytesOver q b → (n p : ℕ) → enabled_at b n p ≡ false → (table_step q b (blocking n p)).state ≡ b
blocking_again q width b bytes n p e = step_same q width b bytes (blocking n p) (unfold updated in enabled_already (view b) n p false (unfold view in e))

pub unblocking_again : (q : ℕ) → Width q → (b : List ℕ) → BytesOver q b → (n p : ℕ) → enabled_at b n p ≡ true → (table_step q b (unblocking n p)).state ≡ b
unblocking_again q width b bytes n p e = step_same q width b bytes (unblocking n p) (unfold updated in enabled_already (view b) n p true (unfold view in e))

pub arming_again : (q : ℕ) → Width q → (b : List ℕ) → BytesOver q b → (n k : ℕ) → armed_at b n k ≡ true → (table_step q b (arming n k)).state ≡ b
arming_again q width b bytes n k e = step_same q width b bytes (arming n k) (unfold updated in armed_already (view b) n k true (unfold view in e))

pub disarming_again : (q : ℕ) → Width q → (b : List ℕ) → BytesOver q b → (n k : ℕ) → armed_at b n k ≡ false → (table_step q b (disarming n k)).state ≡ b
disarming_again q width b bytes n k e = step_same q width b bytes (disarming n k) (unfold updated in armed_already (view b) n k false (unfold view in e))

pub trace_leaves : (q : ℕ) → Width q → (b : List ℕ) → BytesOver q b → (s c : ℕ) (buffer : List ℕ) → (table_step q b (tracing s c buffer)).state ≡ b
trace_leaves q width b bytes s c buffer = step_same q width b bytes (tracing s c buffer) (unfold updated in refl)

pub judging_leaves : (q : ℕ) → Width q → (b : List ℕ) → BytesOver q b → (ports index : List ℕ) (circuits hops : ℕ) → (table_step q b (judging ports index circuits hops)).state ≡ b
judging_leaves q width b bytes ports index circuits hops = step_same q width b bytes (judging ports index circuits hops) (unfold updated in refl)

-- Nor does setting the fold mask that a sound table has: its partner links that are there keep their dimension's bit, and it shows no other.
fold_already : (v : View) → Sound v → set_fold v v.fold ≡ v
unfolding set_fold present
fold_already v sound = λ i.
    record { dimension = v.dimension; fold = v.fold; enabled = λ n q. same n q i; owner = v.owner; receiver = v.receiver; armed = v.armed }
  where
    same : (n q : ℕ) → cond (eqb q (axis q)) (v.enabled n q) (is_link_of (shape_of v) n q && (v.enabled n q || not (has v.fold (axis q)))) ≡ v.enabled n q
    same n q =
        go (eqb q (axis q)) (has v.fold (axis q)) (ltb n (2 ^ v.dimension)) (ltb q 18) (ltb (axis q) v.dimension) (v.enabled n q)
        (λ off. (sound.absent_link n q (λ l. clash (and (lt-ltb n _ l.0) l.1) off)).0)
      where
        -- of a port that is its own axis or not, whose bit is f, which is a link of the cube as far as i, l and d say, enabled or not
        go : (o f i l d e : Bool) → (i && (l && (d && (o || f))) ≡ false → e ≡ false) → cond o e ((i && (l && (d && (o || f)))) && (e || not f)) ≡ e
        go true f i l d e h = refl
        go false f false l d e h = sym (h refl)
        go false f true false d e h = sym (h refl)
        go false f true true false e h = sym (h refl)
        go false false true true true e h = sym (h refl)
        go false true true true true e h = or-false e

pub folding_again : (q : ℕ) → Width q → (b : List ℕ) → BytesOver q b → Sound (view b) → (table_step q b (folding (fold_at b))).state ≡ b
folding_again q width b bytes sound = step_same q width b bytes (folding (fold_at b)) (unfold updated view in fold_already (view b) sound)
