-- Calls of either kind on one table: each gives what the history says, and one of the other kind is refused as 1.
-- Assumes nothing.
use mathlib.Core.Path.{◌≡◌, refl, ap, sym, ◌∙◌, subst}
use mathlib.Core.Logic.{◌⊎◌, inl, inr, ◌≢◌}
use mathlib.Core.Bool.{true, false}
use mathlib.Core.List.{List}
use Prim.Native.Nat.{ℕ}
use native.Mathlib.Omega.{arith}
use Rattle.layout.specs.Layout.{length_of}
use Rattle.layout.specs.Resources.{Width}
use Rattle.ownership.specs.Calls.{Call, making, blocking, unblocking, opening, closing, tracing, arming, disarming, opening_all, booking, judging, folding, OfKind, refused_with, After}
use Rattle.ownership.specs.OnTable.{table_step}
use Rattle.ownership.specs.History.{History, history_step}
use Rattle.ownership.specs.Invariant.{Represents}
use Rattle.ownership.specs.Kinds.{Kind, narrow, wide, kind_ports, kind_of, same_kind, KindCall, of_kind, kind_step, history_kind_step}
use Rattle.ownership.proofs.Agreement.{represents_step}
use Rattle.ownership.proofs.BothKinds.{other_kind}

pub kind_width : (w : Kind) → Width (kind_ports w)
kind_width narrow = inl refl
kind_width wide = inr refl

pub kind_same : (w : Kind) → same_kind w w ≡ true
kind_same narrow = refl
kind_same wide = refl

-- two kinds are one, or have different ports
pub one_kind : (w u : Kind) → (w ≡ u) ⊎ ((same_kind w u ≡ false) × (kind_ports w ≢ kind_ports u))
one_kind narrow narrow = inl refl
one_kind narrow wide = inr (refl, λ e. omega (arith, e))
one_kind wide narrow = inr (refl, λ e. omega (arith, e))
one_kind wide wide = inl refl

-- and tables of two kinds different lengths
pub kind_long : (w u : Kind) → length_of (kind_ports w) ≡ length_of (kind_ports u) → w ≡ u
kind_long narrow narrow e = refl
kind_long narrow wide e = absurd (omega (arith, e))
kind_long wide narrow e = absurd (omega (arith, e))
kind_long wide wide e = refl

-- a call is one on tables of its kind
pub kind_fits : (w : Kind) (a : Call) → OfKind (kind_ports (kind_of w a)) a
kind_fits w (folding mask) = refl
kind_fits w (making D) = tt
kind_fits w (blocking n p) = tt
kind_fits w (unblocking n p) = tt
kind_fits w (opening s c t y v) = tt
kind_fits w (closing s c) = tt
kind_fits w (tracing s c buffer) = tt
kind_fits w (arming n k) = tt
kind_fits w (disarming n k) = tt
kind_fits w (opening_all sends) = tt
kind_fits w (booking ports index) = tt
kind_fits w (judging ports index circuits hops) = tt

-- a call of the kind of the table, as its history takes it, and one of the other kind
pub history_same : (w : Kind) (h : History) (a : Call) → history_kind_step (kind_of w a) h (of_kind w a) ≡ history_step h a
unfolding history_kind_step
history_same w h a = rw (kind_same (kind_of w a)) refl

pub history_other : (w u : Kind) (h : History) (a : Call) → same_kind (kind_of w a) u ≡ false → history_kind_step u h (of_kind w a) ≡ record { state = h; result = refused_with 1 a }
unfolding history_kind_step
history_other w u h a e = rw e refl

-- What a call gives, on a table of kind w and in its history, and that the table represents the history still.
pub record KindStep (w : Kind) (b : List ℕ) (h : History) (x : KindCall) : Type 0 where
  pub result : (kind_step b x).result ≡ (history_kind_step w h x).result
  pub represented : Represents (kind_ports w) (kind_step b x).state (history_kind_step w h x).state

pub kind_step_represents : (u : Kind) (b : List ℕ) (h : History) → Represents (kind_ports u) b h → (w : Kind) (a : Call) → KindStep u b h (of_kind w a)
kind_step_represents u b h k w a = go (one_kind (kind_of w a) u)
  where
    go : (kind_of w a ≡ u) ⊎ ((same_kind (kind_of w a) u ≡ false) × (kind_ports (kind_of w a) ≢ kind_ports u)) → KindStep u b h (of_kind w a)
    go (inl e) =
        subst (λ (v : Kind). KindStep v b h (of_kind w a)) e
        (let v = kind_of w a in
        let x = represents_step (kind_ports v) (kind_width v) b h (subst (λ (v : Kind). Represents (kind_ports v) b h) (sym e) k) a (kind_fits w a) in
        record {
          result = x.result ∙ ap (λ (y : After History). y.result) (sym (history_same w h a));
          represented = subst (λ (y : After History). Represents (kind_ports v) (table_step (kind_ports v) b a).state y.state) (sym (history_same w h a)) x.represented;
        })
    go (inr d) =
        let x = other_kind (kind_ports (kind_of w a)) (kind_ports u) (kind_width (kind_of w a)) (kind_width u) d.1 b k.bytes.long a in
        let y = history_other w u h a d.0 in
        record {
          result = ap (λ (z : After (List ℕ)). z.result) x ∙ sym (ap (λ (z : After History). z.result) y);
          represented =
              subst (λ (c : List ℕ). Represents (kind_ports u) c (history_kind_step u h (of_kind w a)).state) (sym (ap (λ (z : After (List ℕ)). z.state) x))
              (subst (λ (g : History). Represents (kind_ports u) b g) (sym (ap (λ (z : After History). z.state) y)) k);
        }
