use mathlib.Core.Path.{refl}
use Rattle.transmit.proofs.Moving.{move_begins, move_length, move_next, move_ends}
use native.Mathlib.Omega.{arith}
use Rattle.transmit.proofs.to_front.Goals as goal

pub loop-i-init : goal.loop-i-init
loop-i-init c = move_begins _ _ _ c.requires

pub bounds-memory-place : goal.bounds-memory-place
bounds-memory-place c =
    let memory = c.args.memory.now in
    let same = move_length memory c.args.place _ c.requires c.loop-i.memory c.loop-i.i c.loop-i.invariant in
    omega (arith, same, c.requires)

pub bounds-memory-i : goal.bounds-memory-i
bounds-memory-i c =
    let memory = c.args.memory.now in
    let same = move_length memory c.args.place _ c.requires c.loop-i.memory c.loop-i.i c.loop-i.invariant in
    omega (arith, same, c.requires)

pub loop-i-preserved : goal.loop-i-preserved
loop-i-preserved c =
    move_next _ _ _ c.requires _ _ _ _ c.loop-i.invariant c.loop-i-test.true refl refl

pub shape_of-memory : goal.shape_of-memory
shape_of-memory c =
    let memory = c.args.memory.now in
    move_length memory c.args.place _ c.requires c.loop-i.memory c.loop-i.i c.loop-i.invariant

pub returns : goal.returns
returns c =
    move_ends _ _ _ c.requires _ _ c.loop-i.invariant (omega arith)
