use Rattle.catalogue.specs.Structures.{content_of}
use Rattle.vers_files.proofs.showing.show_list.Goals as goal

pub returns-in-Ok-clause-shown : goal.returns-in-Ok-clause-shown
returns-in-Ok-clause-shown g c = (
  content_of c.in-Ok.structure,
  c.in-Ok.ensures.loaded,
  record {
    kind = c.description_of-shown.ensures.kind c.in-Ok.ensures.loaded.1;
    len = c.description_of-shown.ensures.len;
    width = c.description_of-shown.ensures.width;
    bytes = c.description_of-shown.ensures.bytes;
    none = c.description_of-shown.ensures.none;
  },
)
