-- Each byte is what is left of the number by so many divisions.
use Rattle.std.proofs.Common.{◌≡◌, ◌/◌, ◌^◌, arith}
use Rattle.forms.proofs.write.head_of.Goals as goal

pub returns : goal.returns
returns c =
    let n = c.args.call in
    let t = c.args.time in
    let n₂ : n / 256 ^ 2 ≡ n / 256 / 256 = omega arith in
    let n₃ : n / 256 ^ 3 ≡ n / 256 / 256 / 256 = omega arith in
    let t₂ : t / 256 ^ 2 ≡ t / 256 / 256 = omega arith in
    let t₃ : t / 256 ^ 3 ≡ t / 256 / 256 / 256 = omega arith in
    let t₄ : t / 256 ^ 4 ≡ t / 256 / 256 / 256 / 256 = omega arith in
    let t₅ : t / 256 ^ 5 ≡ t / 256 / 256 / 256 / 256 / 256 = omega arith in
    rw (c.to_be_bytes-n.ensures, c.to_be_bytes-c.ensures, c.to_be_bytes-t.ensures, n₂, n₃, t₂, t₃, t₄, t₅)
