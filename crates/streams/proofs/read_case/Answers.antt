-- The head was consumed, and behind it the rest.
use Rattle.std.proofs.Common.{◌≡◌, ◌-◌, ◌+◌, ◌≤◌, length, drop, subst, arith, ℕ, length-take, length-drop}
use Rattle.std.specs.Io.KnownBytes.{Consumes}
use Rattle.std.proofs.KnownBytes.{Consumes-trans}
use Rattle.streams.proofs.Parts.{take_two-put_mid}
use Rattle.streams.proofs.read_case.Goals as goal

pub returns-clause-bytes : goal.returns-clause-bytes
returns-clause-bytes g c =
    let head = c.args.head in
    let n = c.from-n.result in
    let front = c.read_full.new.buf in
    let first : c.read_full.result ≡ head = omega (arith, length-take {A = ℕ}) in
    let whole : head ≤ length front = omega (arith, length-take {A = ℕ}) in
    let fits = c.read_full-else-buf-n.ensures.within in
    let second : head + c.read_full-else-buf-n.result ≡ n = omega (arith, length-take {A = ℕ}, length-drop {A = ℕ}) in
    let joined = take_two-put_mid head (n - head) n _ _ front (drop head c.args.buf.now) c.read_full-else-buf-n.new.buf first whole fits second in
    subst (Consumes _ _) joined (Consumes-trans _ _ _ _ _ c.read_full.ensures.bytes c.read_full-else-buf-n.ensures.bytes)
