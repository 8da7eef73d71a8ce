use Rattle.vers_cli.proofs.Names.{sym, ap}
use Rattle.vers_trees.specs.Forest.{forest_of}
use Rattle.vers_cli.specs.Lists.{walk_of}
use Rattle.vers_cli.proofs.Gathers.{items_gathered}
use Rattle.vers_cli.proofs.lists.walk.Goals as goal

pub returns-in-Children : goal.returns-in-Children
returns-in-Children g c =
    items_gathered c.children.result (λ walk. walk.left) (λ numbers. numbers.items) c.positions_left.result _ c.positions_left.ensures c.children.ensures
    (ap (λ nodes. walk_of (forest_of c.args.tree.now) nodes c.args.node) (sym c.in-Children.is))

pub returns-in-RevChildren : goal.returns-in-RevChildren
returns-in-RevChildren g c =
    items_gathered c.rev_children.result (λ walk. walk.left) (λ numbers. numbers.items) c.positions_left-in-RevChildren.result _ c.positions_left-in-RevChildren.ensures c.rev_children.ensures
    (ap (λ nodes. walk_of (forest_of c.args.tree.now) nodes c.args.node) (sym c.in-RevChildren.is))

pub returns-in-Subtree : goal.returns-in-Subtree
returns-in-Subtree g c =
    items_gathered c.subtree_iter.result (λ walk. walk.left) (λ numbers. numbers.items) c.positions_left-in-Subtree.result _ c.positions_left-in-Subtree.ensures c.subtree_iter.ensures
    (ap (λ nodes. walk_of (forest_of c.args.tree.now) nodes c.args.node) (sym c.in-Subtree.is))

pub returns-in-SubtreePost : goal.returns-in-SubtreePost
returns-in-SubtreePost g c =
    items_gathered c.subtree_post_iter.result (λ walk. walk.left) (λ numbers. numbers.items) c.positions_left-in-SubtreePost.result _ c.positions_left-in-SubtreePost.ensures c.subtree_post_iter.ensures
    (ap (λ nodes. walk_of (forest_of c.args.tree.now) nodes c.args.node) (sym c.in-SubtreePost.is))
