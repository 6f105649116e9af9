use Rattle.std.proofs.Common.{◌≡◌, ◌/◌, ◌%◌, arith, ◌∙◌, sym}
use Rattle.definition.specs.Write.{w_u16}
use Rattle.buffer.proofs.writes.Rest.{wrote_as}
use Rattle.buffer.proofs.writes.put_u16.Goals as goal

pub returns : goal.returns
unfolding w_u16
returns c =
    let h : c.args.n / 256 % 256 ≡ c.args.n / 256 = omega arith in
    wrote_as (sym (c.to_le_bytes.ensures ∙ rw h)) c.put_bytes.ensures
