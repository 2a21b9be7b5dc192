-- What a judging answers; and the calls after which a table accepts the book that was written of it, and what it shows after them.
-- Assumes nothing.
use Rattle.std.specs.Prelude.{◌≡◌, ◌↔◌, List, [], ◌∷◌, ℕ, get_or}
use Rattle.table.specs.View.{View, view}
use Rattle.book.specs.Book.{BookCircuit}
use Rattle.book.specs.WellFormed.{WellFormed}
use Rattle.judging.specs.Judged.{JudgeFacts, judge_facts, circuits_in}
use Rattle.judging.specs.Loadable.{CircuitsRight, LinksFree, ChannelsSuffice, Loadable}
use Rattle.ownership.specs.Calls.{Call, closing, arming, judging, CallResult}
use Rattle.ownership.specs.History.{Circuit}
use Rattle.ownership.specs.Agrees.{table_after, Accepted}
use Rattle.ownership.specs.FromTable.{history_of}
use Rattle.ownership.specs.JobSays.{AllAccepted}

module _ (b ports index : List ℕ) (circuits hops : ℕ) where
  -- what judging asks of the table, and the circuits that the book lists
  abbrev facts : JudgeFacts
  facts = judge_facts (view b)

  abbrev circuits_listed : List BookCircuit
  circuits_listed = circuits_in ports index circuits

  -- What each number means that a judging can answer on bytes b that pass the tests of a lent table, each looking at the whole book (Judging 3): each comes where
  -- what it names is so and what those before it name is not. No other comes (proved: Rising.judging_numbers), and the table stays as it was (StepBytes.judging_leaves).
  pub record JudgingSays (number : ℕ) : Type 0 where
    -- Judging 2: a yes
    pub accepted : (number ≡ 0) ↔ Loadable facts ports index circuits hops
    -- Books 9: no well-formed book
    pub bad_book : (number ≡ 25) ↔ (WellFormed ports index circuits hops → ⊥)
    -- Judging 4
    pub bad_circuit : (number ≡ 26) ↔ (WellFormed ports index circuits hops × (CircuitsRight facts circuits_listed → ⊥))
    -- Judging 5
    pub bad_link : (number ≡ 27) ↔ (WellFormed ports index circuits hops × CircuitsRight facts circuits_listed × (LinksFree facts circuits_listed → ⊥))
    -- Judging 6
    pub too_few : (number ≡ 11)
        ↔ (WellFormed ports index circuits hops × CircuitsRight facts circuits_listed × LinksFree facts circuits_listed × (ChannelsSuffice facts circuits_listed → ⊥))

-- Judging 9: each circuit is closed, which disarms its channel, and the channel is then armed again
unfoldable pub closes_and_arms : List Circuit → List Call
closes_and_arms [] = []
closes_and_arms (x ∷ xs) = closing x.source x.channel ∷ arming x.target x.receive ∷ closes_and_arms xs

-- what a table shows then: nothing is held, and the same links are enabled and the same channels armed as before
unfoldable pub emptied : View → View
emptied v = record { dimension = v.dimension; fold = v.fold; enabled = v.enabled; owner = λ n p. 0; receiver = λ n k. 0; armed = v.armed }

-- Books 1: both buffers and both counts of a book that was written
abbrev pub book_ports : CallResult → List ℕ
book_ports g = get_or g.buffers 0 []

abbrev pub book_index : CallResult → List ℕ
book_index g = get_or g.buffers 1 []

abbrev pub book_circuits : CallResult → ℕ
book_circuits g = get_or g.values 0 0

abbrev pub book_hops : CallResult → ℕ
book_hops g = get_or g.values 1 0

-- judging it
abbrev pub judging_of : CallResult → Call
judging_of written = judging (book_ports written) (book_index written) (book_circuits written) (book_hops written)

-- the calls that close the circuits of a table and arm their receive channels
abbrev pub emptying : List ℕ → List Call
emptying b = closes_and_arms (history_of (view b)).circuits

-- Judging 9: the book that a table wrote is accepted by that table once its circuits are closed and their channels armed again: of a table b
-- with q ports to a node, and what a booking on it gave
pub record BookAccepted (q : ℕ) (b : List ℕ) (written : CallResult) : Type 0 where
  -- each of those calls is accepted,
  pub closed : AllAccepted q b (emptying b)
  -- the table then shows nothing held, and all else as it was,
  pub shows : view (table_after q b (emptying b)) ≡ emptied (view b)
  -- and it accepts the book
  pub accepted : Accepted q (table_after q b (emptying b)) (judging_of written)
