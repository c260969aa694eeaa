use Rattle.sealing.proofs.Laying.{enciphered}
use Prim.Native.Nat.{◌-◌}
use Rattle.sealing.proofs.encipher.Goals as goal

pub returns : goal.returns
returns c =
    let a = c.args in
    enciphered a.key _ a.nonce a.output.now _ a.place (a.end - a.place) c.expand-keys.ensures
    c.add_stream.ensures
