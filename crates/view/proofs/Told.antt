-- The header of a view, by its fields.
use Prim.Native.Nat.{ℕ}
use mathlib.Core.List.{List}
use mathlib.Core.Path.{◌≡◌}
use Rattle.pdu.specs.declared.Destination.{Destination}
use Rattle.view.specs.declared.Span.{Span}
use Rattle.pdu.specs.declared.Header.{Header}
use Rattle.pdu.specs.Header.{destination_in, pdu_id_in, header_with}
use Rattle.view.specs.View.{header_in}

pub header_told : (bytes : List ℕ) (span : Span) {header : Header} {to : Destination} {id : ℕ}
    → header ≡ header_with bytes to id span.path_count → to ≡ destination_in bytes → id ≡ pdu_id_in bytes → header ≡ header_in bytes span
header_told bytes span h t i = rw (← t, ← i) h
