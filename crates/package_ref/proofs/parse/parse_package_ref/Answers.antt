use Rattle.std.proofs.Common.{sym, subst}
use Rattle.package_ref.specs.Reference.{IsReference}
use Rattle.package_ref.proofs.parse.parse_package_ref.Goals as goal

pub returns-clause-refused : goal.returns-clause-refused
returns-clause-refused c e r of_r =
    c.reference_in.ensures.refused e r (subst (λ t. IsReference t r) (sym c.as_str.ensures.value) of_r)
