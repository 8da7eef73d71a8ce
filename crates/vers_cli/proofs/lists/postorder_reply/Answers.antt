use Rattle.vers_cli.proofs.Names.{ap, Numbers}
use Rattle.vers_cli.proofs.Gathers.{items_left}
use Rattle.vers_cli.proofs.lists.postorder_reply.Goals as goal

pub returns : goal.returns
returns g c =
    let given = rw c.in_ok-positions_left.was at c.positions_left.ensures in
    rw (← c.if-not-is_balanced.ensures.value)
    (ap Numbers (items_left c.dfs_post_iter.result (λ walk. walk.left) c.in_ok-positions_left.field-0.items given c.dfs_post_iter.ensures))
