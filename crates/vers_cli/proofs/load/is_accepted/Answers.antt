use Rattle.vers_cli.proofs.Names.{◌∙◌, all_numbers, words_in}
use Rattle.catalogue.specs.Structures.{DocumentLists}
use Rattle.vers_cli.specs.Loads.{inverted_loaded}
use Rattle.vers_cli.proofs.Orders.{accepted_mapped}
use Rattle.vers_cli.proofs.load.is_accepted.Goals as goal

pub returns-in-Inverted : goal.returns-in-Inverted
returns-in-Inverted c =
    rw c.in-Inverted.is (c.is_accepted-in-Inverted.ensures ∙ accepted_mapped DocumentLists (inverted_loaded (all_numbers (words_in c.args.arguments.now))))
