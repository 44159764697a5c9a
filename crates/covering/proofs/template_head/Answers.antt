-- In range the remainders are the numbers.
use Prim.Native.Nat.{◌%◌}
use mathlib.Core.Path.{◌≡◌}
use native.Mathlib.Omega.{arith}
use Rattle.covering.proofs.template_head.Goals as goal

pub returns : goal.returns
returns c = λ f g.
    let q : c.args.p % 32 ≡ c.args.p = omega arith in
    let r : c.args.x % 4 ≡ c.args.x = omega arith in
    rw (c.new.ensures, q, r)
