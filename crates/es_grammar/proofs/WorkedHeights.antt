-- How tall trees of operators are: what stands before an operator is as deep as the operator, what stands behind it is one
-- deeper.
use Rattle.std.specs.Prelude.{max}
use Rattle.std.proofs.Common.{◌≡◌, ℕ, suc, ◌+◌, refl, arith}
use Rattle.grammar_theory.specs.Productions.{as_kind, as_name}
use Rattle.grammar_theory.specs.Plain.{Plain, node, leaf, nil, cons, mark, tall}
use Rattle.es_grammar.specs.declared.rows.NodeKind.{NodeKind}
use Rattle.es_grammar.specs.declared.rows.NodeKind.TheVariants.{Binary, Name, Parenthesized}
use Rattle.es_grammar.specs.Conditions.{leans}

abbrev name : ℕ → Plain NodeKind
name n = node Name n (n + 1) (cons (leaf as_name n) nil)

-- an operator between two operands
abbrev operator : ℕ → ℕ → Plain NodeKind → ℕ → Plain NodeKind → Plain NodeKind
operator from to q at r = node Binary from to (cons q (cons (leaf as_kind at) (cons r nil)))

-- one more operand is as deep as the one before
pub operator_stands : (q r : Plain NodeKind) (from at to : ℕ)
    → tall leans (operator from to q at r) ≡ max (tall leans q) (suc (tall leans r))
operator_stands q r from at to = omega arith

-- `a + b`, `a + b + c`, `a + b + c + d`
sums : (tall leans (operator 0 3 (name 0) 1 (name 2)) ≡ 2)
    × (tall leans (operator 0 5 (operator 0 3 (name 0) 1 (name 2)) 3 (name 4)) ≡ 2)
    × (tall leans (operator 0 7 (operator 0 5 (operator 0 3 (name 0) 1 (name 2)) 3 (name 4)) 5 (name 6)) ≡ 2)
sums = (refl, refl, refl)

-- `a ** b ** c`, whose second operator stands behind the first
powers : tall leans (operator 0 5 (name 0) 1 (operator 2 5 (name 2) 3 (name 4))) ≡ 3
powers = refl

-- `(a + b) + c`: brackets count
brackets : tall leans (operator 0 7 (node Parenthesized 0 5 (mark 0 (cons (operator 1 4 (name 1) 2 (name 3))
    (mark 4 nil)))) 5 (name 6))
    ≡ 3
brackets = refl
