use Rattle.std.proofs.Common.{◌≡◌, ◌++◌, ◌∷◌, take, true}
use Rattle.std.specs.Prelude.{flat_map}
use Rattle.std.specs.List.{list_all}
use Rattle.vers_texts.specs.Sites.{is_in_sequence, site_of}
use Rattle.vers_texts.proofs.sites.append_sites.Given as goal

abbrev pub invariant-loop-position : goal.invariant-loop-position
invariant-loop-position g l = record {
  sites : l.line.items ≡ l.initial.line.items ++ flat_map (λ other. 32 ∷ site_of l.text.items l.feeds other) (take l.position-index l.others);
  sequences : list_all (is_in_sequence l.text.items l.feeds) (take l.position-index l.others) ≡ true;
}
