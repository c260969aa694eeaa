-- The table of the hearers says what the pairs say. Assumes nothing.
use mathlib.Core.Path.{◌≡◌, refl, sym, ap, subst, ◌∙◌}
use mathlib.Core.Logic.{◌≢◌, by_cases}
use mathlib.Core.Bool.{Bool, true, false, ◌&&◌, ◌||◌}
use mathlib.Core.List.{List, [], ◌∷◌, ◌++◌}
use Prim.Native.Nat.{ℕ, zero, suc, ◌+◌, ◌*◌, ◌-◌, ◌%◌, ◌≤◌, ◌<◌}
use native.Mathlib.Decide.{ℕ_discrete, dec_lt}
use native.Mathlib.Omega.{arith}
use borrow.Author.Tests.{eq-eqb, ne_eqb, lt-ltb, le-ltb}
use lib.Dec.{eqb, ltb}
use lib.ListN.{length, set, replicate, length-set, length-replicate}
use lib.Seq.{get_or-set_same, get_or-set_other}
use Rattle.octets.specs.Octets.{at, AllBytes}
use Rattle.chains.specs.Lengths.{is_heard}
use Rattle.ways.specs.Table.{marked, link_of, Linked, is_heard_in, Filled}

-- marked pair by pair
pub mark_next : (pair more rest table next : List ℕ) (sender node : ℕ) → rest ≡ pair ++ more → length pair ≡ 2
    → sender ≡ at pair 0 → node ≡ at pair 1 → next ≡ set table (sender * 256 + node) 1 → marked rest table ≡ marked more next
unfolding marked
mark_next [] more rest table next sender node is two s-is n-is put-is = absurd (omega arith)
mark_next (x ∷ []) more rest table next sender node is two s-is n-is put-is = absurd (omega arith)
mark_next (x ∷ y ∷ []) more rest table next sender node is two s-is n-is put-is =
    ap (λ (l : List ℕ). marked l table) is ∙ ap (marked more) (sym (put-is ∙ (λ i. set table (s-is i * 256 + n-is i) 1)))
mark_next (x ∷ y ∷ z ∷ pair) more rest table next sender node is two s-is n-is put-is = absurd (omega arith)

pub mark_over : (rest table : List ℕ) → length rest < 2 → marked rest table ≡ table
unfolding marked
mark_over [] table few = refl
mark_over (x ∷ []) table few = refl
mark_over (x ∷ y ∷ rest) table few = absurd (omega arith)

pub length_marked : (pairs table : List ℕ) → length (marked pairs table) ≡ length table
unfolding marked
length_marked [] table = refl
length_marked (last ∷ []) table = refl
length_marked (sender ∷ node ∷ pairs) table = length_marked pairs (set table (sender * 256 + node) 1) ∙ length-set table (sender * 256 + node) 1

-- what the marks say
abbrev is_marked : List ℕ → ℕ → ℕ → Bool
is_marked table sender node = ltb 0 (at table (sender * 256 + node))

one_marked : (table : List ℕ) (sender node a b : ℕ) → a * 256 + b < length table → node < 256 → b < 256
    → is_marked (set table (sender * 256 + node) 1) a b ≡ ((eqb sender a && eqb node b) || is_marked table a b)
one_marked table sender node a b room hn hb =
    by_cases (ℕ_discrete sender a)
    (λ same. by_cases (ℕ_discrete node b)
    (λ same'.
    let there : at (set table (sender * 256 + node) 1) (a * 256 + b) ≡ 1 =
    ap (at (set table (sender * 256 + node) 1)) {x = a * 256 + b} {y = sender * 256 + node} (omega arith)
    ∙ get_or-set_same table (sender * 256 + node) 1 0 (omega arith) in
    rw (there, eq-eqb sender a same, eq-eqb node b same'))
    (λ other.
    let not_there : at (set table (sender * 256 + node) 1) (a * 256 + b) ≡ at table (a * 256 + b) =
    get_or-set_other table (sender * 256 + node) (a * 256 + b) 1 0 (λ e. other (omega arith)) in
    rw (not_there, eq-eqb sender a same, ne_eqb node b other)))
    (λ other.
    let not_there : at (set table (sender * 256 + node) 1) (a * 256 + b) ≡ at table (a * 256 + b) =
    get_or-set_other table (sender * 256 + node) (a * 256 + b) 1 0 (λ e. other (omega arith)) in
    rw (not_there, ne_eqb sender a other))

either : (x y z : Bool) → (y || (x || z)) ≡ ((x || y) || z)
either true true z = refl
either true false z = refl
either false y z = refl

marks_say : (pairs table : List ℕ) (a b : ℕ) → AllBytes pairs → a * 256 + b < length table → b < 256
    → is_marked (marked pairs table) a b ≡ (is_heard pairs a b || is_marked table a b)
unfolding marked is_heard
marks_say [] table a b small room hb = refl
marks_say (last ∷ []) table a b small room hb = refl
marks_say (sender ∷ node ∷ pairs) table a b small room hb =
    marks_say pairs (set table (sender * 256 + node) 1) a b (λ i. small (suc (suc i))) (simp length-set room) hb
    ∙ ap (λ (t : Bool). is_heard pairs a b || t) (one_marked table sender node a b room (small 1) hb)
    ∙ either (eqb sender a && eqb node b) (is_heard pairs a b) (is_marked table a b)

or_false : (x : Bool) → (x || false) ≡ x
or_false true = refl
or_false false = refl

none_marked : (k i : ℕ) → at (replicate k 0) i ≡ 0
none_marked zero i = refl
none_marked (suc k) zero = refl
none_marked (suc k) (suc i) = none_marked k i

-- linked from the last to the first
pub record Linking (before after : List ℕ) (end i next : ℕ) : Type 0 where
  pub size : length after ≡ length before
  pub below : (k : ℕ) → k < i → at after k ≡ at before k
  pub each : (k : ℕ) → i ≤ k → k < end → at after k ≡ link_of (at before k) (k % 256) (at after (k + 1))
  pub next_is : i < end → next ≡ at after i

pub link_begins : (table : List ℕ) (end : ℕ) → Linking table table end end 255
link_begins table end =
    record { size = refl; below = λ k h. refl; each = λ k h l. absurd (omega arith); next_is = λ h. absurd (omega arith) }

end_link : (heard column next other : ℕ) → column ≡ 255 → link_of heard column next ≡ link_of heard column other
unfolding link_of
end_link heard column next other last = rw (eq-eqb column 255 last)

pub link_next : (before after : List ℕ) (n i j next heard column link : ℕ) → n * 256 ≤ length before → i ≤ n * 256 → i ≡ suc j
    → heard ≡ at after j → column ≡ j % 256 → link ≡ link_of heard column next → Linking before after (n * 256) i next
    → Linking before (set after j link) (n * 256) j link
link_next before after n i j next heard column link room inside i-is h-is c-is is l =
    let here : at (set after j link) j ≡ link = get_or-set_same after j link 0 (omega (arith, l.size)) in
    let other : (k : ℕ) → k ≢ j → at (set after j link) k ≡ at after k = λ k ne. get_or-set_other after j k link 0 ne in
    record {
      size = length-set after j link ∙ l.size;
      below = λ k h. other k (λ e. omega arith) ∙ l.below k (omega arith);
      each = λ k h inside'.
          by_cases (ℕ_discrete k j)
          (λ same.
          let later : at (set after j link) (k + 1) ≡ at after i = other (k + 1) (λ e. omega arith) ∙ ap (at after) {x = k + 1} {y = i} (omega arith) in
          let was : heard ≡ at before k = h-is ∙ l.below j (omega arith) ∙ ap (at before) (sym same) in
          let at-column : column ≡ k % 256 = c-is ∙ ap (λ (x : ℕ). x % 256) (sym same) in
          let followed : link_of heard column next ≡ link_of heard column (at after i) =
          by_cases (ℕ_discrete i (n * 256))
          (λ last. end_link heard column next (at after i) (omega arith))
          (λ more. ap (link_of heard column) (l.next_is (omega arith))) in
          ap (at (set after j link)) same ∙ here ∙ is ∙ followed ∙ (λ x. link_of (was x) (at-column x) (sym later x)))
          (λ ne.
          other k ne ∙ l.each k (omega arith) inside'
          ∙ ap (link_of (at before k) (k % 256)) (sym (other (k + 1) (λ e. omega arith))));
      next_is = λ h. sym here;
    }

pub link_ends : (before after : List ℕ) (end i next : ℕ) → i ≡ 0 → Linking before after end i next → Linked before after end
link_ends before after end i next none l = record { size = l.size; each = λ k h. l.each k (omega arith) h }

pub link_marked : (heard column next : ℕ) → 0 < heard → link_of heard column next ≡ column
unfolding link_of
link_marked heard column next some = rw (lt-ltb 0 heard some)

pub link_last : (heard column next : ℕ) → heard ≤ 0 → column ≡ 255 → link_of heard column next ≡ 255
unfolding link_of
link_last heard column next none last = rw (le-ltb 0 heard none, eq-eqb column 255 last)

pub link_on : (heard column next : ℕ) → heard ≤ 0 → column ≢ 255 → link_of heard column next ≡ next
unfolding link_of
link_on heard column next none more = rw (le-ltb 0 heard none, ne_eqb column 255 more)

-- what a row says, of the marks
module _ (before after : List ℕ) (n : ℕ) (few : n < 256) (l : Linked before after (n * 256)) (s : ℕ) (inside : s < n) where
  abbrev named : ℕ → ℕ
  named j = at after (s * 256 + j)

  abbrev mark_at : ℕ → ℕ
  mark_at j = at before (s * 256 + j)

  named_is : (j : ℕ) → j < 256 → named j ≡ link_of (mark_at j) j (named (j + 1))
  named_is j below =
      let column : (s * 256 + j) % 256 ≡ j = omega arith in
      let later : s * 256 + j + 1 ≡ s * 256 + (j + 1) = omega arith in
      l.each (s * 256 + j) (omega arith) ∙ (λ x. link_of (mark_at j) (column x) (at after (later x)))

  record Row (j : ℕ) : Type 0 where
    pub onward : j ≤ named j
    pub none : (y : ℕ) → j ≤ y → y < named j → mark_at y ≤ 0
    pub some : named j < 255 → 0 < mark_at (named j)

  marked_row : (j : ℕ) → j < 256 → 0 < mark_at j → Row j
  marked_row j below some =
      let is : named j ≡ j = named_is j below ∙ link_marked (mark_at j) j (named (j + 1)) some in
      record {
        onward = omega arith;
        none = λ y h h'. absurd (omega arith);
        some = λ h. subst (λ (y : ℕ). 0 < mark_at y) (sym is) some;
      }

  row : (d j : ℕ) → j + d ≡ 255 → Row j
  row zero j end =
      by_cases (dec_lt 0 (mark_at j))
      (marked_row j (omega arith))
      (λ none.
      let is : named j ≡ 255 = named_is j (omega arith) ∙ link_last (mark_at j) j (named (j + 1)) (omega arith) (omega arith) in
      record { onward = omega arith; none = λ y h h'. absurd (omega arith); some = λ h. absurd (omega arith) })
  row (suc d) j end =
      by_cases (dec_lt 0 (mark_at j))
      (marked_row j (omega arith))
      (λ none.
      let r = row d (j + 1) (omega arith) in
      let on = r.onward in
      let is : named j ≡ named (j + 1) = named_is j (omega arith) ∙ link_on (mark_at j) j (named (j + 1)) (omega arith) (λ e. omega arith) in
      record {
        onward = omega arith;
        none = λ y h h'.
            by_cases (ℕ_discrete y j) (λ same. subst (λ (k : ℕ). mark_at k ≤ 0) (sym same) (omega arith)) (λ ne. r.none y (omega arith) (omega arith));
        some = λ h. subst (λ (y : ℕ). 0 < mark_at y) (sym is) (r.some (omega arith));
      })

  heard_is : (y : ℕ) → y < 255 → is_heard_in after s y ≡ is_marked before s y
  unfolding is_heard_in
  heard_is y below =
      by_cases (dec_lt 0 (mark_at y))
      (λ some.
      let is : named y ≡ y = named_is y (omega arith) ∙ link_marked (mark_at y) y (named (y + 1)) some in
      eq-eqb (named y) y is ∙ sym (lt-ltb 0 (mark_at y) some))
      (λ none.
      let on = (row (254 - y) (y + 1) (omega arith)).onward in
      let is : named y ≡ named (y + 1) = named_is y (omega arith) ∙ link_on (mark_at y) y (named (y + 1)) (omega arith) (λ e. omega arith) in
      ne_eqb (named y) y (λ e. omega arith) ∙ sym (le-ltb 0 (mark_at y) (omega arith)))

pub filled : (pairs cleared before after : List ℕ) (n k : ℕ) → AllBytes pairs → n < 256 → n * 256 ≤ k → cleared ≡ replicate k 0
    → before ≡ marked pairs cleared → Linked before after (n * 256) → Filled pairs n after
filled pairs cleared before after n k small few room clear_is marks-are l =
    record {
      rows = record {
        onward = λ s j inside below. (row before after n few l s inside (255 - j) j (omega arith)).onward;
        none_between = λ s j y inside h below h'.
            heard_is before after n few l s inside y (omega arith)
            ∙ le-ltb 0 _ ((row before after n few l s inside (255 - j) j (omega arith)).none y h h');
        named_hears = λ s j inside below h.
            heard_is before after n few l s inside _ (omega arith)
            ∙ lt-ltb 0 _ ((row before after n few l s inside (255 - j) j (omega arith)).some (omega arith));
      };
      says = λ s y inside below.
          let zeros : List ℕ = replicate k 0 in
          let long : length zeros ≡ k = length-replicate k 0 in
          let none : is_marked (replicate k 0) s y ≡ false = ap (λ (x : ℕ). ltb 0 x) (none_marked k (s * 256 + y)) in
          heard_is before after n few l s inside y (omega arith)
          ∙ ap (λ (t : List ℕ). is_marked t s y) (marks-are ∙ ap (marked pairs) clear_is)
          ∙ marks_say pairs (replicate k 0) s y small (omega arith) (omega arith)
          ∙ ap (λ (t : Bool). is_heard pairs s y || t) none ∙ or_false (is_heard pairs s y);
    }
