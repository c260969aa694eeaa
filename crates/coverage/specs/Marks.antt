-- What the functions of crates `chains` and `ways` are told of a network besides who hears whom: which nodes do not repeat the message.
use Rattle.std.specs.Prelude.{List, ◌≢◌, ◌≡◌, ℕ, length}
use Rattle.std.proofs.Math.Option.{some}
use Rattle.std.proofs.Math.ListN.{get_elem?}
use Rattle.pdu.specs.declared.Header.{Header}
use Rattle.chains.specs.Lengths.{is_unmarked}
use Rattle.flood.specs.Air.{Repeater, address, can_repeat}

-- a byte for each node, 0 for one that can repeat the message; the originator's says nothing
pub record MarksSay (marks : List ℕ) (header : Header) (nodes : List Repeater) : Type 0 where
  pub size : length marks ≡ length nodes
  pub says : (place : ℕ) (n : Repeater) → get_elem? nodes place ≡ some n → address n ≢ header.source → is_unmarked marks place ≡ can_repeat header n
