-- What the proofs of this program rest on.
pub mod NodesMet
