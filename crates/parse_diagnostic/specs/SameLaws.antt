-- The sameness of diagnoses is an equivalence: laws that its comparison owes.
use Rattle.std.specs.Prelude.{bytes_eq}
use Rattle.std.specs.Cmp.{IsPartialEquivalence, IsEquivalence, and_per, and_equiv, on_per, on_equiv, partial_equiv_from_equiv}
use Rattle.std.specs.Cmp.Lexicographic.{nat_list_eq_equiv}
use Rattle.parse_diagnostic.specs.Diagnosis.{Diagnosis, name_of_kind, ends_of, same}

by_parts : IsPartialEquivalence bytes_eq
by_parts = partial_equiv_from_equiv nat_list_eq_equiv

pub same_is_symmetric_and_transitive : IsPartialEquivalence same
same_is_symmetric_and_transitive =
    and_per (on_per (λ (d : Diagnosis). d.specifier) by_parts)
    (and_per (on_per (λ (d : Diagnosis). name_of_kind d.kind) by_parts)
    (on_per (λ (d : Diagnosis). ends_of d.range) by_parts))

pub same_is_an_equivalence : IsEquivalence same
same_is_an_equivalence =
    and_equiv (on_equiv (λ (d : Diagnosis). d.specifier) nat_list_eq_equiv)
    (and_equiv (on_equiv (λ (d : Diagnosis). name_of_kind d.kind) nat_list_eq_equiv)
    (on_equiv (λ (d : Diagnosis). ends_of d.range) nat_list_eq_equiv))
