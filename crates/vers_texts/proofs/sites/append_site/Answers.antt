use Rattle.std.proofs.Common.{◌-◌, ◌∷◌, [], List, ℕ, sym, subst, arith}
use Rattle.std.specs.Prelude.{nat_lt}
use Rattle.std.specs.List.Sorted.{IsNonDecreasing}
use Rattle.std.proofs.lemmas.List.Sums.{count_by-le-length}
use Rattle.vers_texts.proofs.Feeds.{feed_within, positions_ascend}
use Rattle.vers_texts.proofs.sites.append_site.Goals as goal

pub feeds_before-number-requires : goal.feeds_before-number-requires
feeds_before-number-requires g c = subst (λ (feeds : List ℕ). IsNonDecreasing feeds) (sym c.requires) (positions_ascend c.args.text.now.items (10 ∷ []))

pub name_between-requires-clause-from : goal.name_between-requires-clause-from
name_between-requires-clause-from g c =
    let feeds = c.args.feeds.now in
    let few = count_by-le-length (λ feed. nat_lt feed c.args.position) feeds in
    feed_within c.args.text.now.items feeds (c.feeds_before-number.result - 2) c.requires (omega (arith, few, c.feeds_before-number.ensures))

pub name_between-requires-clause-to : goal.name_between-requires-clause-to
name_between-requires-clause-to g c =
    let feeds = c.args.feeds.now in
    let few = count_by-le-length (λ feed. nat_lt feed c.args.position) feeds in
    feed_within c.args.text.now.items feeds (c.feeds_before-number.result - 1) c.requires (omega (arith, few, c.feeds_before-number.ensures))
