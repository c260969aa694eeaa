-- Document 02, W-209: a node under another edition.
use Rattle.std.specs.Prelude.{ℕ}
use Rattle.decision.specs.Decision.{Node, node_of}

-- the same node with that edition; all else in it is as it was
abbrev pub with_edition : ℕ → Node → Node
with_edition edition node =
    node_of
    (record {
      edition = edition;
      own = node.settings.own;
      echo = node.settings.echo;
      repeating = node.settings.repeating;
      source_pass = node.settings.source_pass;
      source_reject = node.settings.source_reject;
      destination_pass = node.settings.destination_pass;
      destination_reject = node.settings.destination_reject;
    })
    node.lists
