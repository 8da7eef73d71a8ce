use Rattle.catalogue.proofs.structure.Structure.save.Goals as goal

pub returns-in-Sparse-clause-none : goal.returns-in-Sparse-clause-none
returns-in-Sparse-clause-none g c = rw c.in-Sparse.is c.write_form-in-Sparse.ensures.none

pub returns-in-Sorted-clause-none : goal.returns-in-Sorted-clause-none
returns-in-Sorted-clause-none g c = rw c.in-Sorted.is c.write_form-in-Sorted.ensures.none

pub returns-in-Postings-clause-none : goal.returns-in-Postings-clause-none
returns-in-Postings-clause-none g c = rw c.in-Postings.is c.write_form-in-Postings.ensures.none

pub returns-in-Text-clause-none : goal.returns-in-Text-clause-none
returns-in-Text-clause-none g c = rw c.in-Text.is c.write_form-in-Text.ensures.none

pub returns-in-Inverted-clause-none : goal.returns-in-Inverted-clause-none
returns-in-Inverted-clause-none g c = rw c.in-Inverted.is c.write_form-in-Inverted.ensures.none
