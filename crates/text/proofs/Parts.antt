-- A text put into an output part by part.
use Prim.Native.Nat.{ℕ, ◌+◌, ◌-◌, ◌≤◌}
use native.Mathlib.Nat.{add-zero, sub-zero}
use native.Mathlib.Omega.{arith}
use mathlib.Core.Bool.{Bool, true, false, cond}
use mathlib.Core.List.{List, [], ◌++◌, append-nil}
use mathlib.Core.Path.{◌≡◌, refl, ap, sym, ◌∙◌}
use lib.Dec.{leb}
use lib.ListN.{length, take, drop, length-append, take-append-drop}
use lib.Seq.{take_at}
use borrow.Author.Tests.{leb-true}
use Rattle.octets.specs.Octets.{placed, place_after}
use Rattle.octets.proofs.Placing.{is_after, is_placed, length_placed, placed_more}

-- what a function that puts a part promises of its answer and of the output
abbrev pub Promised : List ℕ → ℕ → List ℕ → List ℕ → ℕ → Type 0
Promised output place part now next = (next ≡ place_after output place part) × (now ≡ placed output place part)

-- whether it fitted or not, the answer is a place of the output
pub stays : (output : List ℕ) (place : ℕ) (part now : List ℕ) (next : ℕ) → place ≤ length output
    → Promised output place part now next → next ≤ length now
unfolding place_after
stays output place part now next h (after, all) = go (leb (place + length part) (length output)) refl after
  where
    go : (fits : Bool) → leb (place + length part) (length output) ≡ fits → next ≡ cond fits (place + length part) place → next ≤ length now
    go true e a = omega (arith, leb-true (place + length part) (length output) e, ap length all, length_placed output place part)
    go false e a = omega (arith, ap length all, length_placed output place part)

-- `now` is the output with `text` put at `place`, where it fits, and `next` is where it ends
pub record Put (output : List ℕ) (place : ℕ) (text now : List ℕ) (next : ℕ) : Type 0 where
  pub is : now ≡ placed output place text
  pub ends : next ≡ place + length text
  pub within : next ≤ length output

pub nothing : (output : List ℕ) (place : ℕ) → place ≤ length output → Put output place [] output place
nothing output place h =
    record {
      is = sym (is_placed output place [] (omega arith) ∙ rw (add-zero, append-nil) (take-append-drop place output));
      ends = omega arith;
      within = h;
    }

pub begin : (output : List ℕ) (place : ℕ) (part now : List ℕ) (next : ℕ) → place + length part ≤ length output
    → Promised output place part now next → Put output place part now next
begin output place part now next h (after, all) =
    let ends = after ∙ is_after output place part h in
    record { is = all; ends = ends; within = omega arith }

-- one part more, put where the text before it ends
pub then : {output text now : List ℕ} {place next : ℕ} → Put output place text now next
    → (part later : List ℕ) (last : ℕ) → next + length part ≤ length output
    → Promised now next part later last → Put output place (text ++ part) later last
then {output} {text} {now} {place} {next} before part later last h (after, all) =
    let room : next + length part ≤ length now = omega (arith, ap length before.is, length_placed output place text) in
    let ends = after ∙ is_after now next part room in
    record {
      is = all ∙ rw before.is (placed_more output place text part next before.ends h);
      ends = omega (arith, length-append text part);
      within = omega arith;
    }

-- the text itself, where it was put at the start
pub front : {output text now : List ℕ} {next : ℕ} → Put output 0 text now next → take (next - 0) now ≡ text
front {output} {text} {now} {next} whole =
    let ends : length text ≡ next = omega (arith, whole.ends) in
    rw (sub-zero, whole.is, is_placed output 0 text (omega (arith, whole.within)))
    (take_at text (drop (0 + length text) output) next ends)

-- what a whole text's promise asks
pub done : {output text now : List ℕ} {place next : ℕ} → Put output place text now next → Promised output place text now next
done {output} {text} {now} {place} {next} whole =
    (whole.ends ∙ sym (is_after output place text (omega (arith, whole.ends, whole.within))), whole.is)
