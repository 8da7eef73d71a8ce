-- When a list of documents is not made.
use Rattle.std.specs.Prelude.{◌≡◌, ◌≢◌, ℕ, ◌<◌, ◌≤◌, List, length}
use Rattle.std.specs.List.Sorted.{IsStrictlyIncreasing}
use Rattle.postings.specs.declared.fault.PostingsError.{PostingsError}
use Rattle.postings.specs.declared.fault.PostingsError.TheVariants.{LengthMismatch, TooLong, NotAscending, Memory}

-- what each error means for the documents, their costs, and the greatest length that a list may have
abbrev pub IsRefusedFor : List ℕ → List ℕ → ℕ → PostingsError → Type 0
IsRefusedFor documents costs most LengthMismatch = length documents ≢ length costs
IsRefusedFor documents costs most TooLong = (length documents ≡ length costs) × (most < length documents)
IsRefusedFor documents costs most NotAscending = (length documents ≡ length costs) × (length documents ≤ most) × (IsStrictlyIncreasing documents → ⊥)
IsRefusedFor documents costs most Memory = (length documents ≡ length costs) × (length documents ≤ most) × IsStrictlyIncreasing documents
