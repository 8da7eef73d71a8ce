-- What is written of a saved form, and why what a reader has left is refused.
use Rattle.std.specs.Prelude.{◌≡◌, ℕ, ◌++◌, List, [], Option, Some, Result, OnOk, IfSome, ◌⊎◌}
use Rattle.std.specs.Io.KnownBytes.{Appends}
use Rattle.vers_saved.specs.declared.kind.Kind.{Kind}
use Rattle.vers_saved.specs.declared.fault.LoadError.{LoadError}
use Rattle.vers_saved.specs.declared.fault.LoadError.TheVariants.{Memory, Read}
use Rattle.vers_saved.specs.Faults.{fault_of, version_fault}

-- a prefix of the bytes was written; after `Ok` all of them
abbrev pub Writes : {T E : Type 0} → Result T E → (old new : Option (List ℕ)) → List ℕ → Type 0
Writes result old new bytes = (text : List ℕ) × (rest : List ℕ) × Appends old new text × (bytes ≡ text ++ rest) × OnOk result (rest ≡ [])

-- the reader failed, memory ran out, or the bytes left in the reader have the error, if it is known, as a form of this version
abbrev pub IsRefusedAs : Kind → Option (List ℕ) → LoadError → Type 0
IsRefusedAs kind left fault = (fault ≡ Read) ⊎ ((fault ≡ Memory) ⊎ IfSome left (λ bytes. version_fault kind bytes ≡ Some fault))

-- the reader failed, memory ran out, or the bytes left in the reader have the error, if it is known, as a form of the version that they name
abbrev pub IsRefused : Kind → Option (List ℕ) → LoadError → Type 0
IsRefused kind left fault = (fault ≡ Read) ⊎ ((fault ≡ Memory) ⊎ IfSome left (λ bytes. fault_of kind bytes ≡ Some fault))
