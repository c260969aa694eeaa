-- What the public functions of this crate answer, and what they leave. Assumes nothing.
use Rattle.std.specs.Prelude.{Bool, cond, ◌&&◌, List, [], ◌∷◌, ◌++◌, ◌≡◌, ℕ, zero, suc, ◌*◌, eqb, ltb, leb, length, set, replicate}
use Rattle.chains.specs.Lengths.{is_heard, served}
use Rattle.ways.specs.Ways.{ways_from, of_all, of_one}
use Rattle.ways.specs.declared.Airtime.{Airtime}
use Rattle.ways.specs.declared.Airtime.TheVariants.{Exactly, Enough, HopRefused, NotServed}

-- the number where it is below what is enough, else that it is not
unfoldable pub up_to : ℕ → ℕ → Airtime
up_to enough number = cond (ltb number enough) (Exactly number) Enough

-- as many hops as there are nodes if the hop limit is 7, since 7 is kept
unfoldable pub hops_of : ℕ → ℕ → ℕ
hops_of n h = cond (eqb h 7) n h

-- at most 255 nodes are served, the originator one of them, with a count for each node and a table of 256 bytes for each
unfoldable pub is_served : ℕ → ℕ → ℕ → ℕ → Bool
is_served n from places room = served n from && (eqb places n && leb (n * 256) room)

-- a hop setting above 7 is refused before that
unfoldable pub whether : {A : Type 0} → ℕ → ℕ → ℕ → ℕ → ℕ → A → A → A → A
whether h n from places room hopRefused whenServed notServed =
    cond (ltb 7 h) hopRefused (cond (is_served n from places room) whenServed notServed)

-- f 0, f 1, .., so many
unfoldable pub each_below : (ℕ → ℕ) → ℕ → List ℕ
each_below f zero = []
each_below f (suc k) = each_below f k ++ (f k ∷ [])

-- all that the first transmission leads to, counted as `weigh` says
module _ (pairs marks : List ℕ) (from h price growth : ℕ) where
  unfoldable pub ways : (ℕ → ℕ → ℕ) → ℕ
  ways weigh = ways_from (is_heard pairs) weigh growth (hops_of (length marks) h) (set marks from 1) from price

  unfoldable pub ways_answer : ℕ → ℕ → ℕ → Airtime
  ways_answer enough places room = whether h (length marks) from places room HopRefused (up_to enough (ways of_all)) NotServed

  -- each node's own count; cleared where all together are enough
  unfoldable pub counts_after : ℕ → List ℕ → ℕ → List ℕ
  counts_after enough counts room =
      whether h (length marks) from (length counts) room counts
      (cond (ltb (ways of_all) enough) (each_below (λ node. ways (of_one node)) (length marks)) (replicate (length counts) 0)) counts

  -- the outcome of a call: the answer, and what marks, counts and table are after it
  pub record Counts (enough : ℕ) (counts table : List ℕ) (answer : Airtime) (marksNow countsNow tableNow : List ℕ) : Type 0 where
    pub is : answer ≡ ways_answer enough (length counts) (length table)
    pub marks_kept : marksNow ≡ marks
    pub counts_are : countsNow ≡ counts_after enough counts (length table)
    pub table_is : tableNow ≡ whether h (length marks) from (length counts) (length table) table (replicate (length table) 0) table
