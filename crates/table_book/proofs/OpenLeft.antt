-- What the iterator over the open circuits of a table gives and leaves, when a search among its numbers found one or none.
-- Assumes nothing.
use mathlib.Core.Path.{◌≡◌, refl, ap, sym, subst, ◌∙◌}
use mathlib.Core.Bool.{true, false}
use mathlib.Core.List.{List, [], ◌∷◌}
use Rattle.std.specs.Bool.{⊤}
use Prim.Native.Nat.{ℕ, ◌+◌, ◌-◌, ◌*◌, ◌≤◌, ◌<◌}
use native.Mathlib.Omega.{arith}
use lib.ListN.{length}
use Rattle.std.specs.Prelude.{Option, None, Some, MatchOption}
use Rattle.std.specs.Iterator.{MakesProgress, item_count}
use Rattle.std.specs.declared.ops.Range.{Range}
use Rattle.cube.specs.declared.kinds.Circuit.{Circuit}
use Rattle.cube.specs.Cube.{channels}
use Rattle.table.specs.View.{view}
use Rattle.circuit_path.specs.PathOf.{path_of}
use Rattle.circuit_path.specs.OpenCircuit.{is_open_in}
use Rattle.circuit_path.specs.Follow.{HasSourceIn}
use Rattle.book.specs.Book.{BookCircuit}
use Rattle.table_book.specs.Writing.{HoldsNone, last_of, book_from}
use Rattle.table_book.specs.OpenLeft.{LeftIn, open_left, NodeNext, OpenNext, GivesOpen}
use Rattle.table_book.proofs.BookFrom.{numbered, skip, first_open, book_end}
use Rattle.table_book.proofs.EmptyNodes.{passed_over}

-- Where the numbers at hand are used up, it goes on to the first node of those left that holds a link.
abbrev pub FirstHolder : List ℕ → Range ℕ → Option ℕ → Type 0
FirstHolder b nodes r =
    let none = HoldsNone (view b) in
    MatchOption r ((k : ℕ) → nodes.start ≤ k → k < nodes.end → none k) (λ n. (nodes.start ≤ n) × (n < nodes.end) × ⊤ × ((k : ℕ) → nodes.start ≤ k → k < n → none k))

-- A search among the numbers at hand finds the first whose circuit is open, or none.
abbrev pub FirstOpen : List ℕ → Range ℕ → Option ℕ → Type 0
FirstOpen b numbers r =
    let open_at = is_open_in (view b) in
    MatchOption r ((k : ℕ) → numbers.start ≤ k → k < numbers.end → open_at k ≡ false)
    (λ n. (numbers.start ≤ n) × (n < numbers.end) × (open_at n ≡ true) × ((k : ℕ) → numbers.start ≤ k → k < n → open_at k ≡ false))

-- It leaves the numbers above the one that it found.
abbrev pub NumbersLeft : Range ℕ → Option ℕ → Range ℕ → Type 0
NumbersLeft numbers r left =
    (left.end ≡ numbers.end) × (numbers.start ≤ left.start) × (left.start ≤ left.end) × MatchOption r (left.start ≡ left.end) (λ n. left.start ≡ n + 1)

module _ {long : ℕ} {b : List ℕ} {numbers nodes : Range ℕ} (s : LeftIn long b numbers nodes) where
  abbrev last : ℕ
  last = last_of b

  abbrev rest : ℕ → List BookCircuit
  rest k = book_from (view b) k (last + 1 - k)

  -- the numbers of the nodes left end with the last
  last_number : channels * nodes.end ≡ last
  last_number = ap (channels *◌) s.high

  module _ (up : numbers.start ≡ numbers.end) where
    first : numbers.start ≡ channels * nodes.start + 1
    first = up ∙ s.joined

    -- It goes on to a node, and none is left where no node holds a link.
    pub no_node : FirstHolder b nodes None → open_left b numbers ≡ []
    no_node none =
        ap rest first ∙ passed_over (view b) last nodes.start nodes.end s.nodes_inside (omega (arith, last_number)) none
        ∙ book_end (view b) (channels * nodes.end + 1) last (omega (arith, last_number))

    pub next_node_lem : (numbers' nodes' : Range ℕ) {n : ℕ} → FirstHolder b nodes (Some n) → numbers'.start ≡ channels * n + 1 → nodes'.start ≡ n + 1
        → NodeNext b numbers nodes (Some n) b numbers' nodes'
    next_node_lem numbers' nodes' {n} found begins above =
        record {
          same = refl;
          rest = ap rest first ∙ passed_over (view b) last nodes.start n found.0 (omega (arith, found.1, last_number)) found.3 ∙ ap rest (sym begins);
          rises = omega (arith, first, begins, found.0);
          found = omega (arith, above, found.0);
        }

  -- One is found among the numbers at hand: it is the next open circuit,
  pub gives_open : (n : ℕ) (c : Circuit) {left : Range ℕ} → FirstOpen b numbers (Some n) → NumbersLeft numbers (Some n) left → c.0 ≡ n → OpenNext long b numbers c b left
  gives_open n c {left} found leaves m =
      rw m
      (record {
        same = refl;
        source = numbered s.bytes s.fits (omega (arith, s.low, found.0)) (omega (arith, found.1, s.joined, s.nodes_inside, last_number));
        opens = found.2;
        rises = omega (arith, found.0, leaves.3);
        inside = omega (arith, leaves.0, leaves.2, s.joined, s.nodes_inside, last_number);
        rest =
            first_open (view b) last numbers.start n found.0 (omega (arith, found.1, s.joined, s.nodes_inside, last_number)) found.2 found.3
            ∙ ap (λ k. record { number = n; ports = path_of (view b) n } ∷ rest k) (sym leaves.3);
      })

  -- none is: what is left is what the nodes above have,
  none_at_hand : {left : Range ℕ} → FirstOpen b numbers None → NumbersLeft numbers None left → open_left b numbers ≡ open_left b left
  none_at_hand {left} found leaves =
      let e : numbers.start + (numbers.end - numbers.start) ≡ left.start = omega (arith, s.inside, leaves.0, leaves.3) in
      skip (view b) last (numbers.end - numbers.start) numbers.start (omega (arith, s.inside, s.joined, s.nodes_inside, last_number)) (λ k a l. found k a (omega (arith, s.inside)))
      ∙ ap rest e

  -- and it goes on to a node of them, or there is none.
  pub went_on : {left above : Range ℕ} {r : Option ℕ} {b' : List ℕ} {numbers' nodes' : Range ℕ} → NodeNext b left above r b' numbers' nodes' → FirstOpen b numbers None → NumbersLeft numbers None left
      → open_left b numbers ≡ open_left b' numbers'
  went_on next found leaves = none_at_hand found leaves ∙ next.rest

-- The same, of where it began, when others were passed over.
pub later_open : {long : ℕ} {b b' b'' : List ℕ} {numbers numbers' numbers'' : Range ℕ} {c : Circuit} → b' ≡ b → open_left b numbers ≡ open_left b' numbers' → numbers.start ≤ numbers'.start
    → OpenNext long b' numbers' c b'' numbers'' → OpenNext long b numbers c b'' numbers''
later_open {long} {b'' = b''} {numbers'' = numbers''} {c = c} same passed rises next =
    record {
      same = next.same ∙ same;
      source = subst (λ b. HasSourceIn long b c.0) same next.source;
      opens = subst (λ b. is_open_in (view b) c.0 ≡ true) same next.opens;
      rises = omega (arith, rises, next.rises);
      inside = subst (λ b. numbers''.start ≤ last_of b + 1) same next.inside;
      rest = passed ∙ next.rest ∙ ap (λ x. record { number = c.0; ports = path_of (view x) c.0 } ∷ open_left b'' numbers'') same;
    }

-- An iterator that shows its bytes and the numbers left makes progress so.
pub goes_on : {S : Type 0} (long : ℕ) (bytes : S → List ℕ) (numbers : S → Range ℕ) {can : S → Type 0} → ((s : S) → can s) → (s t : S) (q : Option Circuit)
    → GivesOpen long (bytes s) (numbers s) q (bytes t) (numbers t) → MakesProgress can (item_count (λ s. open_left (bytes s) (numbers s))) s q t
goes_on long bytes numbers all s t None g = record { on = λ _. tt; keeps = tt; rests = λ _. tt }
goes_on long bytes numbers all s t (Some c) g = record { on = λ _. (all t, tt, omega (arith, ap length g.rest)); keeps = all t; rests = λ _. tt }
