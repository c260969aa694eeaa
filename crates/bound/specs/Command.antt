-- Document 02, W-210: how many times a command and its acknowledgements can go out, from the bounds of one sending of each.
use Rattle.std.specs.Prelude.{ℕ, ◌+◌, ◌*◌}
use Rattle.bound.specs.Bound.{bound}

-- the command is sent once, and then again at most so many times
abbrev pub sendings_bound : ℕ → ℕ → ℕ → ℕ
sendings_bound tries n h = (tries + 1) * bound n h

-- and each of its transmissions may arrive and be acknowledged: `most` bounds one sending of the command, `answers` one acknowledgement
abbrev pub command_bound : ℕ → ℕ → ℕ → ℕ
command_bound tries most answers = (tries + 1) * most * (1 + answers)
