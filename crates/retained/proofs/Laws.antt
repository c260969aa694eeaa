-- Laws that the decisions over one record are proved by.
use mathlib.Core.Path.{◌≡◌, sym, ◌∙◌}
use Prim.Native.Nat.{ℕ, ◌<◌, ◌≤◌}
use mathlib.Core.Bool.{Bool, true, false}
use mathlib.Core.List.{List}
use lib.Dec.{eqb}
use lib.ListN.{length}
use borrow.Author.Tests.{lt-ltb, le-ltb, eq-eqb}
use Rattle.octets.specs.Numbers.{◌gives◌, ◌or_else◌}
use Rattle.pdu.specs.declared.Header.{Header}
use Rattle.pdu.specs.Sizes.{path_entries}
use Rattle.retained.specs.Records.{is_first_sending, is_retainable, retain_fault}

pub by_path : (h : Header) → h.protocol ≡ 1 → h.ack ≡ false → eqb (path_entries h) 0 ≡ is_first_sending h
by_path h e f = simp (eq-eqb h.protocol 1 e, f)

module _ (bytes : List ℕ) (t : Bool) (told : t ≡ is_retainable bytes) where
  pub unfit_75 : t ≡ false → 75 ≡ retain_fault bytes
  unfolding retain_fault ◌gives◌ ◌or_else◌
  unfit_75 e = simp (sym told ∙ e)

  pub unfit_72 : t ≡ true → 256 < length bytes → 72 ≡ retain_fault bytes
  unfolding retain_fault ◌gives◌ ◌or_else◌
  unfit_72 e h = simp (sym told ∙ e, lt-ltb 256 (length bytes) h)

  pub unfit_0 : t ≡ true → length bytes ≤ 256 → 0 ≡ retain_fault bytes
  unfolding retain_fault ◌gives◌ ◌or_else◌
  unfit_0 e h = simp (sym told ∙ e, le-ltb 256 (length bytes) h)
