-- Books computed: the bytes of a small one, lookups in it, and some that are not well formed.
-- Assumes nothing.
use Rattle.std.specs.Prelude.{◌≡◌, refl, Bool, true, false, List, [], ◌∷◌, ℕ, replicate}
use Rattle.common.specs.Lists.{any}
use Rattle.common.specs.Tests.{refusal}
use Rattle.circuit_path.specs.Traced.{traced_into}
use Rattle.book.specs.Book.{BookCircuit, port_bytes, word_bytes, index_from, index_bytes}
use Rattle.book.specs.Lookup.{index_lines, line_fits, lines_fit, well_formed, is_listed, listed_line, lookup_tests, LookupResult, looked_up}

-- circuit 1 over ports 0 and 1, and circuit 300 over port 2
abbrev two_circuits : List BookCircuit
two_circuits = record { number = 1; ports = 0 ∷ 1 ∷ [] } ∷ record { number = 300; ports = 2 ∷ [] } ∷ []

-- their ports end to end; and number, offset and length of each, low byte first: 300 is 44 + 256
two_ports : port_bytes two_circuits ≡ (0 ∷ 1 ∷ 2 ∷ [])
unfolding port_bytes
two_ports = refl

two_lines : index_bytes two_circuits ≡ (1 ∷ 0 ∷ 0 ∷ 0 ∷ 2 ∷ 0 ∷ 44 ∷ 1 ∷ 2 ∷ 0 ∷ 1 ∷ 0 ∷ [])
unfolding index_from word_bytes
two_lines = refl

-- an index of two lines: numbers n and m, the first with so many hops from an offset on, the second with one from another
abbrev index_of : (n at hops m then : ℕ) → List ℕ
index_of n at hops m then = n ∷ 0 ∷ at ∷ 0 ∷ hops ∷ 0 ∷ m ∷ 0 ∷ then ∷ 0 ∷ 1 ∷ 0 ∷ []

abbrev formed_as : List ℕ → ℕ → ℕ → Bool
formed_as index circuits hops = well_formed (0 ∷ 1 ∷ 2 ∷ []) index circuits hops

abbrev books : List Bool
books =
    formed_as (index_of 1 0 2 2 2) 2 3
    -- one of its lines alone; none, with no hop, and with one
    ∷ formed_as (index_of 1 0 2 2 2) 1 2
    ∷ formed_as [] 0 0
    ∷ formed_as [] 0 1
    -- a count that its buffer cannot hold
    ∷ formed_as (index_of 1 0 2 2 2) 3 3
    ∷ formed_as (index_of 1 0 3 2 3) 2 4
    -- numbers that are equal, that fall, and 0
    ∷ formed_as (index_of 2 0 2 2 2) 2 3
    ∷ formed_as (index_of 3 0 2 2 2) 2 3
    ∷ formed_as (index_of 0 0 2 2 2) 2 3
    -- no hop; a pair that does not begin at 0; a gap; an overlap; a last pair that ends before the hop count
    ∷ formed_as (index_of 1 0 0 2 0) 2 1
    ∷ formed_as (index_of 1 1 1 2 2) 2 3
    ∷ formed_as (index_of 1 0 1 2 2) 2 3
    ∷ formed_as (index_of 1 0 2 2 1) 2 3
    ∷ formed_as (index_of 1 0 1 2 1) 2 3
    -- the largest number, 8 · 256, and one more; nine hops, and ten
    ∷ formed_as (0 ∷ 8 ∷ 0 ∷ 0 ∷ 1 ∷ 0 ∷ []) 1 1
    ∷ formed_as (1 ∷ 8 ∷ 0 ∷ 0 ∷ 1 ∷ 0 ∷ []) 1 1
    ∷ well_formed (replicate 10 0) (1 ∷ 0 ∷ 0 ∷ 0 ∷ 9 ∷ 0 ∷ []) 1 9
    ∷ well_formed (replicate 10 0) (1 ∷ 0 ∷ 0 ∷ 0 ∷ 10 ∷ 0 ∷ []) 1 10
    ∷ []

well_formed_books : books ≡ (true ∷ true ∷ true ∷ false ∷ false ∷ false ∷ false ∷ false ∷ false ∷ false ∷ false ∷ false ∷ false ∷ false ∷ true ∷ false ∷ true ∷ false ∷ [])
unfolding well_formed index_lines line_fits lines_fit
well_formed_books = refl

-- a lookup of a circuit, with a buffer of so many bytes, each 7
abbrev look : (circuit room : ℕ) → LookupResult
look circuit room = looked_up (0 ∷ 1 ∷ 2 ∷ []) (index_of 1 0 2 9 2) 2 3 circuit (replicate room 7)

abbrev lookups : List LookupResult
lookups = look 1 10 ∷ look 9 9 ∷ look 2 9 ∷ look 2 8 ∷ look 1 8 ∷ looked_up [] (index_of 1 0 2 9 2) 2 3 1 [] ∷ []

found_ports : lookups
    ≡ (record { number = 0; hops = 2; buffer = 0 ∷ 1 ∷ replicate 8 7 } ∷ record { number = 0; hops = 1; buffer = 2 ∷ replicate 8 7 } ∷ record { number = 12; hops = 0; buffer = replicate 9 7 }
    ∷ record { number = 12; hops = 0; buffer = replicate 8 7 } ∷ record { number = 14; hops = 0; buffer = replicate 8 7 } ∷ record { number = 25; hops = 0; buffer = [] } ∷ [])
unfolding looked_up lookup_tests refusal well_formed index_lines line_fits lines_fit is_listed any listed_line traced_into
found_ports = refl
