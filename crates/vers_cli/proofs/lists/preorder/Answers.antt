use Rattle.std.proofs.Common.{refl}
use Rattle.vers_cli.proofs.Gathers.{items_gathered}
use Rattle.vers_cli.proofs.lists.preorder.Goals as goal

pub returns : goal.returns
returns g c =
    items_gathered c.dfs_iter.result (λ walk. walk.left) (λ v. v.items) c.positions_left.result _ c.positions_left.ensures c.dfs_iter.ensures refl
