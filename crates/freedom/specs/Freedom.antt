-- Two tables of which the one leaves an open at least what the other does, and calls that take nothing from an open.
-- Assumes nothing.
use Rattle.std.specs.Prelude.{◌≡◌, true, false, ◌⊎◌, List, [], ◌∷◌, ℕ, ◌<◌}
use Rattle.cube.specs.Bits.{has}
use Rattle.cube.specs.Cube.{channels}
use Rattle.paths.specs.CubeNetwork.{LinkOf}
use Rattle.table.specs.View.{View, view, shape_of, available}
use Rattle.answers.specs.SendOnTable.{free_in}
use Rattle.ownership.specs.Calls.{Call, OfKind, closing, unblocking, arming, tracing, booking, judging, folding}
use Rattle.ownership.specs.TableFacts.{open_in}
use Rattle.ownership.specs.OnTable.{table_step}

-- What an open from send channel c of node s to node t may use of the table that shows v, it may use of the one that shows w:
pub record AtLeastAsFree (s c t : ℕ) (v w : View) : Type 0 where
  -- both are of one dimension;
  pub dimension : v.dimension ≡ w.dimension
  -- every link that is free in the one is free in the other;
  pub links : (n p : ℕ) → LinkOf (shape_of v) n p → free_in v n p ≡ true → free_in w n p ≡ true
  -- every receive channel of the target that may be taken in the one may be taken in the other;
  pub receives : (k : ℕ) → k < channels → available v t k ≡ true → available w t k ≡ true
  -- and the send channel has no circuit in the other. (Nor has it one in the table on which the open is acknowledged.)
  pub send_channel : open_in w s c ≡ false

-- maze and alternate maze: the routing types whose passes look at every permitted path of their ports
abbrev pub MazeType : ℕ → Type 0
MazeType type = (type ≡ 0) ⊎ (type ≡ 4)

-- every dimension that is folded in a table that shows w is folded in one that shows v
abbrev pub FoldsNoMore : View → View → Type 0
FoldsNoMore v w = (p : ℕ) → has w.fold p ≡ true → has v.fold p ≡ true

-- A fold mask that unfolds nothing: it contains the mask that a table has.
abbrev pub UnfoldsNothing : ℕ → ℕ → Type 0
UnfoldsNothing fold mask = (p : ℕ) → has fold p ≡ true → has mask p ≡ true

-- A call on a table of that fold mask that takes nothing from an open of that routing type: it gives something back, or only looks. To fold a dimension takes
-- nothing from types 0 and 4; of types 1 and 3 it may change the one path that they try behind a port.
pub data TakesNothing (type fold : ℕ) : Call → Type 0 where
  frees : {s c : ℕ} → TakesNothing type fold (closing s c)
  repairs : {n p : ℕ} → TakesNothing type fold (unblocking n p)
  arms : {n k : ℕ} → TakesNothing type fold (arming n k)
  traces : {s c : ℕ} {buffer : List ℕ} → TakesNothing type fold (tracing s c buffer)
  books : {ports index : List ℕ} → TakesNothing type fold (booking ports index)
  judges : {ports index : List ℕ} {circuits hops : ℕ} → TakesNothing type fold (judging ports index circuits hops)
  folds : {mask : ℕ} → MazeType type → UnfoldsNothing fold mask → TakesNothing type fold (folding mask)

-- Calls made one after another on a table with q ports to a node and these bytes, each of which takes nothing: of a folding, as the mask then is.
pub data EachTakesNothing (q type : ℕ) : List ℕ → List Call → Type 0 where
  no_call : {b : List ℕ} → EachTakesNothing q type b []
  call_more : {b : List ℕ} {a : Call} {calls : List Call} → OfKind q a → TakesNothing type (view b).fold a → EachTakesNothing q type (table_step q b a).state calls
      → EachTakesNothing q type b (a ∷ calls)
