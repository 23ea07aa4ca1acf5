-- The law of references that other crates name.
use Rattle.std.proofs.Common.{◌≡◌, List, ℕ}
use Rattle.package_ref.specs.declared.reference.PackageRef.{PackageRef}
use Rattle.package_ref.specs.Reference.{IsReference}
use Rattle.package_ref.proofs.ReferenceLemmas.{IsReference-once}

-- a text is a reference to at most one package
pub one_reference : (text : List ℕ) (r s : PackageRef) → IsReference text r → IsReference text s → r ≡ s
one_reference = IsReference-once
