-- Only for the proofs of the code: an automaton's edges as numbers, each with the next edge that enters the same state and the next that leaves the same state.
use Rattle.std.specs.Prelude.{ℕ, ◌+◌, ◌/◌, ◌%◌, ◌≤◌, ◌<◌, ◌≡◌, List, get_or, set}
use Rattle.aldlf.specs.Constants.{state_limit}
use Rattle.aldlf.specs.Sheet.{no_edge}
use Rattle.aldlf.specs.declared.Edge.{Edge}
use Rattle.packing.specs.Numbers.{edge_in}
use Rattle.graph.specs.Graph.{at}

-- The edge that is packed into the lowest 32 bits of a number.
unfoldable pub unpacked_of : ℕ → Edge
unpacked_of p = edge_in p

-- The next edge into the state that it enters, and the next out of the state that it leaves.
abbrev pub into_of : ℕ → ℕ
into_of p = p / 4294967296 % 65536

abbrev pub out_of : ℕ → ℕ
out_of p = p / 281474976710656 % 65536

-- No edge at a head.
abbrev pub none : ℕ
none = 18446744073709551615

-- The number of an edge with these two links.
pub record Arc (x : Edge) (into out p : ℕ) : Type 0 where
  pub edge : unpacked_of p ≡ x
  pub into_is : into_of p ≡ into
  pub out_is : out_of p ≡ out

-- x is the least number from k on below `last` that has key s; where there is none, a number from `last` on.
pub record Least (key : ℕ → ℕ) (s k last x : ℕ) : Type 0 where
  pub above : k ≤ x
  pub hit : x < last → key x ≡ s
  pub none : (e : ℕ) → k ≤ e → e < x → e < last → key e ≡ s → ⊥

-- The edges from k on below `last` are chained by their keys: each chain has its head, and each edge its link, the next edge with the same key.
pub record Chain (key head link : ℕ → ℕ) (k last : ℕ) : Type 0 where
  pub heads : (s : ℕ) → s < state_limit → Least key s k last (head s)
  pub links : (e : ℕ) → k ≤ e → e < last → Least key (key e) (e + 1) last (link e)

-- The chains of the edges that enter a state, and of those that leave one. Behind the edges' places stand the heads.
abbrev pub IntoChain : List ℕ → ℕ → ℕ → Type 0
IntoChain arcs k last = Chain (λ e. (unpacked_of (at arcs e)).to.0) (λ s. at arcs (256 + s) % 65536) (λ e. into_of (at arcs e)) k last

abbrev pub OutChain : List ℕ → ℕ → ℕ → Type 0
OutChain arcs k last = Chain (λ e. (unpacked_of (at arcs e)).from.0) (λ s. at arcs (272 + s) % 65536) (λ e. out_of (at arcs e)) k last

-- The arcs have at their numbers the table's edges from k on below `last`, chained.
pub record Chained (table : List Edge) (k last : ℕ) (arcs : List ℕ) : Type 0 where
  pub edge_is : (e : ℕ) → k ≤ e → e < last → unpacked_of (at arcs e) ≡ get_or table e no_edge
  pub into : IntoChain arcs k last
  pub out : OutChain arcs k last

-- Edge e is put at the head of its two chains.
pub record Linked (x : Edge) (e : ℕ) (before after : List ℕ) : Type 0 where
  pub arc : ℕ
  pub made : Arc x (at before (256 + x.to.0) % 65536) (at before (272 + x.from.0) % 65536) arc
  pub stored : after ≡ set (set (set before (256 + x.to.0) e) (272 + x.from.0) e) e arc
