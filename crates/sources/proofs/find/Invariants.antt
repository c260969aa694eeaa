use Rattle.sources.specs.Sources.{record_in, place_of}
use Prim.Native.Nat.{◌+◌}
use lib.ListN.{drop}
use mathlib.Core.Path.{◌≡◌}
use Rattle.sources.proofs.find.Given as goal

abbrev pub invariant-loop-place : goal.invariant-loop-place
invariant-loop-place l = place_of l.source (record_in l.memory) ≡ l.place + place_of l.source (drop l.place (record_in l.memory))
