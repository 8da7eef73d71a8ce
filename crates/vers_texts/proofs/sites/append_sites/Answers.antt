use Rattle.std.proofs.Common.{◌≡◌, ◌∙◌, ◌++◌, ◌∷◌, Bool, true, false, List, ℕ, take, sym, ap, arith, append_assoc}
use Rattle.std.specs.Prelude.{flat_map}
use Rattle.std.specs.Bool.{OnTrue}
use Rattle.std.proofs.lemmas.List.{take_all}
use Rattle.vers_texts.specs.Sites.{site_of, sites_of}
use Rattle.vers_texts.proofs.sites.append_sites.Goals as goal

if_true : (b : Bool) (P : Type 0) → b ≡ true → OnTrue b P → P
if_true true P is h = h
if_true false P is h = cc

pub returns-clause-sites : goal.returns-clause-sites
returns-clause-sites g c =
    let text = c.args.text.now.items in
    let feeds = c.args.feeds.now in
    let others = c.in-Some.others.now in
    let old = c.args.line.now.items in
    let after : List ℕ → List ℕ = flat_map (λ other. 32 ∷ site_of text feeds other) in
    let all : take c.loop-position.position-index others ≡ others = take_all c.loop-position.position-index others (omega arith) in
    let first : c.append_site.new.line.items ≡ old ++ site_of text feeds c.in-Some.first.now = if_true c.in_ok-append_site.field-0 _ (grind arith) c.in_ok-append_site.ensures.site in
    c.loop-position.invariant.sites
    ∙ ap (λ l. c.append_site.new.line.items ++ after l) all
    ∙ ap (λ l. l ++ after others) first
    ∙ append_assoc old (site_of text feeds c.in-Some.first.now) (after others)
    ∙ ap (λ l. old ++ sites_of text feeds l) (sym c.in-Some.ensures.cases.0)
