use Rattle.dts_items.proofs.SortLemmas.{declared, declared_variables, undeclared_view, variables}
use Rattle.dts_items.proofs.sorts.decl_view_sort.Goals as goal

pub returns-in-Variables : goal.returns-in-Variables
returns-in-Variables c = λ x ts r.
    rw c.in-Variables.is (variables x ts r _ _ (c.variables_sort.ensures x ts _ r))

pub returns-in-Declared : goal.returns-in-Declared
returns-in-Declared c = λ x ts r. rw c.in-Declared.is (declared x ts r _ _ (c.declarable_sort.ensures x ts _ r))

pub returns-in-DeclaredVariables : goal.returns-in-DeclaredVariables
returns-in-DeclaredVariables c = λ x ts r.
    rw c.in-DeclaredVariables.is
    (declared_variables x ts r _ _ (c.variables_sort-in-DeclaredVariables.ensures x ts _ r))

pub returns-in-Declarable : goal.returns-in-Declarable
returns-in-Declarable c = λ x ts r.
    rw c.in-Declarable.is (undeclared_view x ts r _ _ (c.declarable_sort-in-Declarable.ensures x ts _ r))
