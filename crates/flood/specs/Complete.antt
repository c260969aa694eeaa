-- A schedule that leaves out nothing. Assumes nothing.
use Rattle.std.specs.Prelude.{◌≡◌, List, ◌∷◌, ◌++◌, ℕ, ◌<◌, length}
use Rattle.std.proofs.Math.Option.{Option}
use Rattle.flood.specs.Flood.{Reception, flood}

module _ {Node Message : Type 0} (repeats : Node → Message → Option Message) (nodes : List Node) where
  -- among the receptions, that node hears that transmission, and it was made before
  pub record HasHeard (log : List Message) (receptions : List Reception) (node transmission : ℕ) : Type 0 where
    pub before : List Reception
    pub after : List Reception
    pub split : receptions ≡ before ++ (record { node = node; transmission = transmission } ∷ after)
    pub made : transmission < length (flood repeats nodes log before)

  -- each node hears each transmission of the run
  abbrev pub Complete : List Message → List Reception → Type 0
  Complete log receptions =
      (node transmission : ℕ) → node < length nodes → transmission < length (flood repeats nodes log receptions)
      → HasHeard log receptions node transmission
