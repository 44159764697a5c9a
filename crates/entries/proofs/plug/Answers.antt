-- Both values pass, and are joined.
use Rattle.entries.proofs.Transfers.{way_keeps, plugged_joined}
use Rattle.entries.proofs.plug.Goals as goal

pub returns : goal.returns
returns c = λ S T first second.
    let roots = c.roots-roots in
    plugged_joined _ roots.result S T _ _ _ _ _ second roots.ensures
    (way_keeps _ _ c.plugging.ensures _ S (c.pass.ensures _ first)) (way_keeps _ _ c.without_roots.ensures _ T (c.pass-2.ensures _ second)) c.join.ensures
