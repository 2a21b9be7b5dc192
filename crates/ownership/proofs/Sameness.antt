-- What a table that agrees with the history shows of links and of receive channels is what the history says of them; so a send is the same on both.
-- Assumes nothing.
use mathlib.Core.Path.{◌≡◌, refl, ◌∙◌, ap, fun_ext, sym}
use mathlib.Core.Bool.{Bool, not, ◌&&◌, not-not}
use Prim.Native.Nat.{ℕ}
use lib.Dec.{eqb}
use Rattle.paths.specs.Network.{is_free, link_state}
use Rattle.paths.specs.CubeNetwork.{send}
use Rattle.table.specs.View.{held_in, available, receive}
use Rattle.paths.specs.Send.{lowest_of}
use Rattle.answers.specs.SendOnTable.{free_in, state_in, waiting_helps, send_in}
use Rattle.ownership.specs.TableFacts.{taken_in}
use Rattle.ownership.specs.History.{History, shape_on, net_on, holds_link, holds_receive, enabled_on, held_on, free_on, taken_on, armed_on, available_on, receive_on, send_on, waiting_on}
use Rattle.ownership.specs.HistoryView.{view_of}
use Rattle.ownership.proofs.Circuits.{number_any}

module _ (h : History) where
  -- held links
  pub held_same : held_in (view_of h) ≡ held_on h
  unfolding held_in held_on view_of
  held_same = fun_ext (λ n. fun_ext (λ p. number_any (holds_link (net_on h) n p) h.circuits))

  -- free links
  pub free_same : free_in (view_of h) ≡ free_on h
  unfolding free_in state_in free_on view_of
  free_same = λ i n p. is_free (link_state (enabled_on h n p) (held_same i n p))

  -- held receive channels
  pub taken_same : taken_in (view_of h) ≡ taken_on h
  unfolding taken_in taken_on view_of
  taken_same = fun_ext (λ n. fun_ext (λ k. number_any (holds_receive n k) h.circuits))

  -- the lowest receive channel of a node that is armed and not held
  available_same : (t : ℕ) → available (view_of h) t ≡ (λ k. armed_on h t k && not (taken_on h t k))
  unfolding available taken_in view_of
  available_same t =
      fun_ext (λ k.
      ap (armed_on h t k &&◌) (sym (not-not (eqb ((view_of h).receiver t k) 0)) ∙ ap (λ (f : ℕ → ℕ → Bool). not (f t k)) taken_same))

  pub available_alike : available (view_of h) ≡ available_on h
  available_alike = fun_ext available_same

  pub receive_same : (t : ℕ) → receive (view_of h) t ≡ receive_on h t
  unfolding receive receive_on
  receive_same t = ap lowest_of (available_same t)

  -- A send is the same on both.
  pub send_same : (s t y v : ℕ) → send_in (view_of h) s t y v ≡ send_on h s t y v
  unfolding send_on view_of
  send_same s t y v = λ i. send y (shape_on h) (free_same i) (receive_same t i) s v t

  -- and so is whether waiting can help it.
  pub waiting_same : (s t y v : ℕ) → waiting_helps (view_of h) s t y v ≡ waiting_on h s t y v
  unfolding waiting_helps waiting_on view_of
  waiting_same s t y v = refl
