-- The open scopes, as a stack whose last one is the innermost.
use Rattle.std.specs.Prelude.{List, [], ◌∷◌, ◌++◌, map, reverse, length, Some}
use Rattle.std.proofs.Common.{◌≡◌, refl, sym, ap, ◌∙◌, arith, subst}
use Rattle.std.proofs.lemmas.List.{reverse-append, append-nil}
use Rattle.es_variables.specs.declared.scope_numbers.opened.OpenScope.{OpenScope}
use Rattle.es_scopes.specs.Numbers.{Scope, closed, innermost, hoisting}
use Rattle.es_variables.specs.scope_numbers.Stacks.{scope_of, AreNearest}

abbrev pub around_of : List OpenScope → List Scope
around_of stack = map scope_of (reverse stack)

pub turned : (stack : List OpenScope) (s : OpenScope) → reverse (stack ++ s ∷ []) ≡ s ∷ reverse stack
turned stack s = reverse-append stack (s ∷ [])

-- one more
pub opened_more : (stack : List OpenScope) (s : OpenScope) → around_of (stack ++ s ∷ []) ≡ scope_of s ∷ around_of stack
opened_more stack s = ap (map scope_of) (turned stack s)

pub nearest_more : (stack : List OpenScope) (s : OpenScope) → AreNearest (reverse stack)
    → s.nearest ≡ hoisting (scope_of s ∷ around_of stack) → AreNearest (reverse (stack ++ s ∷ []))
nearest_more stack s before e = subst AreNearest (sym (turned stack s)) (e, before)

-- one less
pub closed_less : (old new : List OpenScope) (s : OpenScope) → old ≡ new ++ s ∷ []
    → around_of new ≡ closed (around_of old)
closed_less old new s e = sym (ap (λ stack. closed (around_of stack)) e ∙ ap closed (opened_more new s))

pub nearest_less : (old new : List OpenScope) (s : OpenScope) → old ≡ new ++ s ∷ [] → AreNearest (reverse old)
    → AreNearest (reverse new)
nearest_less old new s e before = (subst AreNearest (ap reverse e ∙ turned new s) before).1

-- the last one
pub innermost_is : (stack before : List OpenScope) (s : OpenScope) → stack ≡ before ++ s ∷ []
    → innermost (around_of stack) ≡ Some s.number
innermost_is stack before s e = ap (λ all. innermost (around_of all)) e ∙ ap innermost (opened_more before s)

pub hoisting_is : (stack before : List OpenScope) (s : OpenScope) → stack ≡ before ++ s ∷ []
    → AreNearest (reverse stack) → s.nearest ≡ hoisting (around_of stack)
hoisting_is stack before s e all =
    (subst AreNearest (ap reverse e ∙ turned before s) all).0
    ∙ sym (ap (λ all. hoisting (around_of all)) e ∙ ap hoisting (opened_more before s))

-- none
pub none_around : (stack : List OpenScope) → length stack ≡ 0 → around_of stack ≡ []
none_around [] e = refl
none_around (s ∷ stack) e = absurd (omega arith)

pub closed_none : (old new : List OpenScope) → old ≡ new ++ [] → length old ≡ 0
    → around_of new ≡ closed (around_of old)
closed_none old new e none =
    ap around_of (sym (e ∙ append-nil new)) ∙ none_around old none ∙ sym (ap closed (none_around old none))

pub nearest_none : (old new : List OpenScope) → old ≡ new ++ [] → AreNearest (reverse old)
    → AreNearest (reverse new)
nearest_none old new e before = subst AreNearest (ap reverse (e ∙ append-nil new)) before
