-- Promises 11: what an open was acknowledged for, it is acknowledged for once circuits are closed, links unblocked or channels armed.
-- Assumes nothing.
use mathlib.Core.Path.{◌≡◌, refl, sym, ◌∙◌}
use mathlib.Core.Logic.{◌≢◌}
use mathlib.Core.Bool.{Bool, true, false, cond, ◌&&◌}
use mathlib.Core.List.{List}
use Prim.Native.Nat.{ℕ}
use native.Mathlib.Omega.{arith}
use lib.Dec.{eqb}
use borrow.Author.Tests.{eqb-true, eq-eqb, ne_eqb, not-false}
use Rattle.common.proofs.Tests.{is_false, both, and, clash}
use Rattle.common.proofs.Lists.{any_some, some_any}
use Rattle.cube.specs.Cube.{circuit_of, source_of}
use Rattle.common.specs.Lists.{◌∈◌}
use Rattle.paths.specs.Network.{Path}
use Rattle.paths.specs.Send.{Attempt}
use Rattle.paths.specs.Sentences.{Free, Tries}
use Rattle.paths.specs.CubeNetwork.{attempts, ports}
use Rattle.paths.proofs.Words.{free_link}
use Rattle.paths.proofs.Waiting.{wider_free}
use Rattle.table.specs.View.{View, view, net, shape_of, held_in, held_by, set_at, set_enabled, set_armed, without_circuit, available}
use Rattle.layout.specs.Resources.{Width}
use Rattle.table.specs.Encode.{AllBytes}
use Rattle.answers.specs.SendOnTable.{state_in, free_in}
use Rattle.answers.specs.SendSays.{SomeRoute}
use Rattle.circuit_path.specs.OpenCircuit.{is_open_in}
use Rattle.ownership.specs.Calls.{Call, OfKind, opening, closing}
use Rattle.ownership.specs.Update.{updated}
use Rattle.ownership.specs.TableFacts.{open_in}
use Rattle.ownership.specs.OnTable.{facts_of, stopped_at, table_step}
use Rattle.ownership.specs.Agrees.{table_after, after_calls, Accepted}
use Rattle.ownership.specs.Closing.{Each, no_call, call_more, GivesFreedom, frees, unblocks, arms}
use Rattle.ownership.specs.Allowed.{Allowed}
use Rattle.ownership.proofs.Allowed.{allowed, allowed_passes}
use Rattle.ownership.proofs.Stops.{none_stops, none_stops_lent, pass_tests, stopped_is}
use Rattle.ownership.proofs.Steps.{table_step_lem}
use Rattle.ownership.proofs.OnSound.{open_answers}
use Rattle.ownership.proofs.Waiting.{calls_kept}

-- a table of the same cube in which no link that was free, no channel that was available and no send channel that was not open is so no more
record Freer (w v : View) : Type 0 where
  dimension : w.dimension ≡ v.dimension
  fold : w.fold ≡ v.fold
  free : (n p : ℕ) → free_in v n p ≡ true → free_in w n p ≡ true
  channel : (n k : ℕ) → available v n k ≡ true → available w n k ≡ true
  closed : (s c : ℕ) → open_in v s c ≡ false → open_in w s c ≡ false

freer_self : (v : View) → Freer v v
freer_self v = record { dimension = refl; fold = refl; free = λ n p e. e; channel = λ n k e. e; closed = λ s c e. e }

freer_chain : (u v w : View) → Freer u v → Freer v w → Freer u w
freer_chain u v w x y =
    record {
      dimension = x.dimension ∙ y.dimension;
      fold = x.fold ∙ y.fold;
      free = λ n p e. x.free n p (y.free n p e);
      channel = λ n k e. x.channel n k (y.channel n k e);
      closed = λ s c e. x.closed s c (y.closed s c e);
    }

-- a link is free where it is enabled and its entry is zero
free_entry : (v : View) (n p : ℕ) → v.enabled n p ≡ true → v.owner n p ≡ 0 → free_in v n p ≡ true
unfolding free_in state_in held_in
free_entry v n p e z = (free_link _ _).1 (e, rw (eq-eqb (v.owner n p) 0 z))

entry_free : (v : View) (n p : ℕ) → free_in v n p ≡ true → (v.enabled n p ≡ true) × (v.owner n p ≡ 0)
unfolding free_in state_in held_in
entry_free v n p e = let r = (free_link _ _).0 e in (r.0, eqb-true _ 0 (not-false _ r.1))

zero_either : (b : Bool) (x : ℕ) → x ≡ 0 → cond b 0 x ≡ 0
zero_either true x e = refl
zero_either false x e = e

-- an entry of one circuit is that of no other, freed or not
kept_entry : (b : Bool) (x c : ℕ) → c ≢ 0 → cond b 0 x ≡ c → x ≡ c
kept_entry true x c h e = absurd (h (sym e))
kept_entry false x c h e = e

-- closing
module _ (v : View) (a : ℕ) (some : a ≢ 0) where
  closed_channel : (n k : ℕ) → available v n k ≡ true → available (without_circuit v a) n k ≡ true
  unfolding available without_circuit
  closed_channel n k e =
      let r = both (v.armed n k) _ e in
      let z : v.receiver n k ≡ 0 = eqb-true _ 0 r.1 in
      let other : eqb (v.receiver n k) a ≡ false = ne_eqb _ a (λ x. some (sym x ∙ z)) in
      rw (other, r.0) (eq-eqb (v.receiver n k) 0 z)

  closed_still : (s c : ℕ) → open_in v s c ≡ false → open_in (without_circuit v a) s c ≡ false
  unfolding open_in is_open_in without_circuit
  closed_still s c e = is_false _ (λ i.
      let r = any_some (held_by (without_circuit v a) (circuit_of s c) (source_of (circuit_of s c))) (ports (shape_of v)) i in
      let x : ℕ = v.owner (source_of (circuit_of s c)) r.0 in
      let o = kept_entry (eqb x a) x (circuit_of s c) (λ z. omega arith) (eqb-true _ (circuit_of s c) r.2) in
      clash (some_any (held_by v (circuit_of s c) (source_of (circuit_of s c))) (ports (shape_of v)) r.1 (eq-eqb _ (circuit_of s c) o)) e)

  closed_freer : Freer (without_circuit v a) v
  unfolding without_circuit
  closed_freer =
      record {
        dimension = refl;
        fold = refl;
        free = λ n p e. let r = entry_free v n p e in free_entry (without_circuit v a) n p r.0 (zero_either (eqb (v.owner n p) a) (v.owner n p) r.1);
        channel = closed_channel;
        closed = closed_still;
      }

-- what is set at one place stays on elsewhere
set_on : (f : ℕ → ℕ → Bool) (n p m q : ℕ) → f m q ≡ true → set_at f n p true m q ≡ true
unfolding set_at
set_on f n p m q e = go (eqb m n && eqb q p)
  where
    go : (b : Bool) → cond b true (f m q) ≡ true
    go true = refl
    go false = e

freedom_kind : (q : ℕ) (a : Call) → GivesFreedom a → OfKind q a
freedom_kind q _ frees = tt
freedom_kind q _ unblocks = tt
freedom_kind q _ arms = tt

updated_freer : (v : View) (a : Call) → GivesFreedom a → Freer (updated v a) v
unfolding updated set_enabled set_armed
updated_freer v _ (frees {s} {c}) = closed_freer v (circuit_of s c) (λ z. omega arith)
updated_freer v _ (unblocks {n} {p}) =
    record {
      dimension = refl;
      fold = refl;
      free = λ m q e. let r = entry_free v m q e in free_entry (set_enabled v n p true) m q (set_on v.enabled n p m q r.0) r.1;
      channel = λ m k e. unfold available in e;
      closed = λ s c e. unfold open_in is_open_in in e;
    }
updated_freer v _ (arms {n} {k}) =
    record {
      dimension = refl;
      fold = refl;
      free = λ m q e. let r = entry_free v m q e in free_entry (set_armed v n k true) m q r.0 r.1;
      channel = λ m j e. unfold available in let r = both (v.armed m j) _ e in and (set_on v.armed n k m j r.0) r.1;
      closed = λ s c e. unfold open_in is_open_in in e;
    }

module _ (q : ℕ) (width : Width q) (b : List ℕ) (small : AllBytes b) (s c t y v : ℕ) (e : Accepted q b (opening s c t y v)) where
  -- An open of any routing type that is acknowledged on a table is acknowledged, too, after any calls that only give more freedom.
  pub freedom_acknowledges : {calls : List Call} → Each GivesFreedom calls → Accepted q (table_after q b calls) (opening s c t y v)
  unfolding Allowed facts_of
  freedom_acknowledges {calls} all =
      let a = opening s c t y v in
      let z = (table_step_lem q b a).passed e in
      let kept = calls_kept q width Freer freer_self freer_chain (freedom_kind q) updated_freer b small (none_stops_lent q b a refl z) all in
      let p = pass_tests q (table_after q b calls) kept.passes in
      let r = allowed (facts_of (view b)) a (none_stops q b a z) in
      let D = kept.related.dimension in
      let passes : stopped_at q (table_after q b calls) a ≡ 0 =
      stopped_is q (table_after q b calls) p.0 p.1 p.2 p.3 a
      ∙ allowed_passes (facts_of (view (table_after q b calls))) a (rw D r.0, rw D r.1, r.2, r.3, (λ n l. r.4 n (rw D at l)), kept.related.closed s c r.5, r.6) in
      let x = (open_answers q width b s c t y v z).exactly.0 e in
      (open_answers q width (table_after q b calls) s c t y v passes).exactly.1 (route kept.related x.0, (x.1.0, x.1.1, kept.related.channel t x.1.0 x.1.2))
    where
      route : {w : View} → Freer w (view b) → SomeRoute (view b) s t (attempts (shape_of (view b)) y v) → SomeRoute w s t (attempts (shape_of w) y v)
      route {w} more x =
          let r : (i : Attempt) × (i ∈ attempts (shape_of w) y v) × ((u : Path) × Tries (net w) s t i u × Free (net w) (free_in (view b)) s u) = rw (more.dimension, more.fold) x in
          (r.0, r.1, (r.2.0, r.2.1, wider_free (net w) (free_in (view b)) (free_in w) more.free s r.2.0 r.2.2))

  -- So an open that would be acknowledged is acknowledged, too, after any circuit is closed.
  pub closing_acknowledges : (m k : ℕ) → Accepted q (table_step q b (closing m k)).state (opening s c t y v)
  unfolding after_calls
  closing_acknowledges m k = freedom_acknowledges (call_more (frees {s = m} {c = k}) no_call)
