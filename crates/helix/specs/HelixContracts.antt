-- What the functions that follow helix paths on a table ask and answer. Nobody has to believe these: the proofs join them to what a send means.
-- Assumes nothing.
use Rattle.std.specs.Prelude.{◌≡◌, Bool, true, false, List, map, ℕ, ◌≤◌, ◌<◌, length, Result, Ok, Err}
use Rattle.common.specs.declared.refusal.Refusal.TheVariants.{RouteRejected}
use Rattle.std.specs.List.{list_all, prefix_len}
use Rattle.paths.specs.Network.{Path, Link, free_path}
use Rattle.paths.specs.BoardPorts.{BoardPorts}
use Rattle.entries.specs.EntryContracts.{put_owner}
use Rattle.cube.specs.Axes.{positions, present}
use Rattle.cube.specs.Cube.{largest_dimension, NodeOf}
use Rattle.cube.specs.Helical.{ports_of}
use Rattle.paths.specs.Pass.{PassResult, none, found}
use Rattle.paths.specs.Helix.{helix_path, free_front, try_paths}
use Rattle.paths.specs.Send.{one_result}
use Rattle.layout.specs.Layout.{dimension_at}
use Rattle.table.specs.View.{view, net, shape_of, receive}
use Rattle.answers.specs.declared.Rejected.{Rejected}
use Rattle.answers.specs.SendOnTable.{free_in, AnswerOnBytes}
use Rattle.answers.specs.SendAnswer.{BoardIn, send_answer}
use Rattle.helix.specs.declared.FreePath.{FreePath}

-- a table of a cube up to dimension 8 and a board for it, two nodes and a port of it: a helix path may be tried there
pub record MayFollow (long q w f : ℕ) (b : List ℕ) (n t p : ℕ) : Type 0 where
  pub board : BoardIn q w f (view b)
  pub bytes : length b ≡ long
  pub fits : dimension_at b ≤ largest_dimension
  pub node : NodeOf (dimension_at b) n
  pub target : NodeOf (dimension_at b) t
  pub port : p < w
  pub there : present (shape_of (view b)).dimension (shape_of (view b)).fold p ≡ true

-- the free hops at the front of a path from n, in what a table shows; and whether all of it is free
abbrev pub front_in : List ℕ → ℕ → Path → ℕ
front_in b n w = free_front (net (view b)) (free_in (view b)) n w

abbrev pub free_all : List ℕ → ℕ → Path → Bool
free_all b n w = free_path (net (view b)) (free_in (view b)) n w

-- the helix path of port p from n to t
abbrev pub helix_in : List ℕ → ℕ → ℕ → ℕ → Path
helix_in b n t p = helix_path (net (view b)) n t p

-- whether a link is free, and the bytes after it is given to circuit c
abbrev pub link_is_free : List ℕ → Link → Bool
link_is_free b l = free_in (view b) l.0 l.1

abbrev pub hold_link : ℕ → List ℕ → Link → List ℕ
hold_link c b l = put_owner b l.0 l.1 c

-- how many links of a path are free at its front, and whether all of them are
pub record FreeFrontOf (b : List ℕ) (links : List Link) (hops : ℕ) (whole : Bool) : Type 0 where
  pub count : hops ≡ prefix_len (link_is_free b) links
  pub all : whole ≡ list_all (link_is_free b) links

-- Scouts 7: what going along it answers: its hops where it is free, and else the free hops at its front
abbrev pub FrontLooked : List ℕ → List Link → Result ℕ ℕ → Type 0
FrontLooked b links (Ok hops) = FreeFrontOf b links hops true
FrontLooked b links (Err hops) = FreeFrontOf b links hops false

-- what trying the helix paths of the ports of a vector with its partners from s to t comes to
unfoldable pub tried_in : List ℕ → ℕ → ℕ → ℕ → PassResult
tried_in b s t ports = try_paths (net (view b)) (free_in (view b)) s 0 (map (helix_in b s t) (ports_of positions ports))

pub record MayTryPaths (long q w f : ℕ) (b : List ℕ) (s t ports : ℕ) : Type 0 where
  pub board : BoardIn q w f (view b)
  pub bytes : length b ≡ long
  pub fits : dimension_at b ≤ largest_dimension
  pub source : NodeOf (dimension_at b) s
  pub target : NodeOf (dimension_at b) t
  pub vector_ports : BoardPorts w (shape_of (view b)) ports

-- the first of those paths that is free, by its port
pub record FreePathFound (w : ℕ) (b : List ℕ) (s t ports port hops scouts : ℕ) : Type 0 where
  pub path : tried_in b s t ports ≡ found (helix_in b s t port) scouts
  pub small : port < w
  pub there : present (shape_of (view b)).dimension (shape_of (view b)).fold port ≡ true
  pub long : hops ≡ length (helix_in b s t port)

-- and where none is, a route rejection
abbrev pub FirstFree : ℕ → List ℕ → ℕ → ℕ → ℕ → Result FreePath Rejected → Type 0
FirstFree w b s t ports (Ok x) = FreePathFound w b s t ports x.port.0 x.hops x.scouts
FirstFree w b s t ports (Err r) = (r.refusal ≡ RouteRejected) × (tried_in b s t ports ≡ none r.scouts)

-- a send of the paths of some ports, as one attempt
unfoldable pub sent_over : List ℕ → ℕ → ℕ → ℕ → ℕ → AnswerOnBytes
sent_over b s t c ports = send_answer true b c s t (one_result (receive (view b) t) (tried_in b s t ports))
