-- The answer about a link and the test that refuses a held one: in a sound table a link is held exactly where the answer is Held, since a held link is enabled there.
-- Assumes nothing.
use mathlib.Core.Path.{◌≡◌, refl, ap, sym, ◌∙◌}
use mathlib.Core.Logic.{◌⊎◌, ⊎_elim}
use mathlib.Core.Bool.{Bool, true, false}
use mathlib.Core.List.{List, [], ◌∷◌}
use Prim.Native.Nat.{ℕ}
use native.Mathlib.Omega.{arith}
use borrow.Author.Tests.{eqb-false, not-true}
use Rattle.common.specs.Tests.{test, refusal}
use Rattle.common.proofs.Tests.{first_passed, passed, refused, accepted}
use Rattle.paths.specs.Network.{LinkState, link_free, link_held, link_blocked, link_state}
use Rattle.table.specs.View.{View, view, held_in}
use Rattle.soundness.specs.Sound.{Sound}
use Rattle.soundness.specs.TableTests.{table_tests}
use Rattle.answers.specs.declared.LinkState as State
use Rattle.answers.specs.declared.LinkState.TheVariants.{Free, Blocked}
use Rattle.answers.specs.SendOnTable.{state_in}
use Rattle.answers.specs.PassOnBytes.{state_of}
use Rattle.ownership.specs.Calls.{node, port, blocking, call_tests}
use Rattle.ownership.specs.OnTable.{facts_of, stopped_at}
use Rattle.ownership.proofs.Stops.{pass_tests, stopped_is}

abbrev says_held : LinkState → Bool
says_held link_free = false
says_held link_held = true
says_held link_blocked = false

held_state : (on held : Bool) → (held ≡ true → on ≡ true) → says_held (link_state on held) ≡ held
unfolding link_state
held_state true true h = refl
held_state true false h = refl
held_state false true h = h refl
held_state false false h = refl

pub held_told : {v : View} (n p : ℕ) → Sound v → {x : LinkState} → x ≡ state_in v n p → held_in v n p ≡ says_held x
unfolding state_in held_in
held_told {v} n p sound told =
    sym (ap says_held told ∙ held_state (v.enabled n p) (held_in v n p) (λ held. sound.held_enabled n p (eqb-false _ 0 (not-true _ held))))

-- A block whose node and port exist, of a table that passes its tests: it is refused where the answer is Held, and stopped by nothing where it is Free or Blocked.
module _ (q : ℕ) (b : List ℕ) (n p : ℕ) (pass : refusal (table_tests q b) ≡ 0) (there : 0 ≡ refusal (node (facts_of (view b)) n ∷ [])) (exists : 0 ≡ refusal (port (facts_of (view b)) p ∷ [])) where
  sound : Sound (view b)
  sound = (pass_tests q b pass).3

  held_stops : stopped_at q b (blocking n p) ≡ refusal (test (held_in (view b) n p) 13 ∷ [])
  unfolding call_tests facts_of
  held_stops =
      let r = pass_tests q b pass in
      stopped_is q b r.0 r.1 r.2 r.3 (blocking n p)
      ∙ passed 4 _ (first_passed _ 4 [] (λ z. omega arith) (sym there)).0
      ∙ passed 6 _ (first_passed _ 6 [] (λ z. omega arith) (sym exists)).0

  pub block_refused : link_held ≡ state_in (view b) n p → 13 ≡ stopped_at q b (blocking n p)
  block_refused told = sym (held_stops ∙ refused 13 [] (held_told n p sound told))

  pub block_allowed : {r : State.LinkState} → state_of r ≡ state_in (view b) n p → (r ≡ Free) ⊎ (r ≡ Blocked) → 0 ≡ stopped_at q b (blocking n p)
  block_allowed {r} told other = sym (held_stops ∙ passed 13 [] (⊎_elim (λ e. unheld e) (λ e. unheld e) other) ∙ accepted)
    where
      unheld : {x : State.LinkState} → r ≡ x → held_in (view b) n p ≡ says_held (state_of x)
      unheld e = held_told n p sound told ∙ ap (λ y. says_held (state_of y)) e
